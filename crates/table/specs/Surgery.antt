-- What the edits of a lent slice leave in it, to the last word; `count` words are in use.
use Rattle.std.specs.Prelude.{◌≡◌, ℕ, suc, ◌+◌, ◌-◌, ◌≤◌, Bool, true, false, List, [], ◌∷◌, ◌++◌, ltb, length, take, drop, replicate}

-- w put in at `at`: the words in use from there on move one place up, over the word at count
unfoldable pub inserted_at : ℕ → ℕ → ℕ → List ℕ → List ℕ
inserted_at count at w s = take at s ++ (w ∷ (take (count - at) (drop at s) ++ drop (count + 1) s))

-- the word at `at` taken out: those behind it, up to the place `to`, move one place down, and w follows
unfoldable pub moved_at : ℕ → ℕ → ℕ → List ℕ → List ℕ
moved_at to at w s = take at s ++ (take (to - (at + 1)) (drop (at + 1) s) ++ (w ∷ drop to s))

-- the word at `at` taken out: those behind it move one place down, and 0 follows
unfoldable pub removed_at : ℕ → ℕ → List ℕ → List ℕ
removed_at count at s = moved_at count at 0 s

abbrev pub one_more_if : Bool → ℕ → ℕ
one_more_if true k = suc k
one_more_if false k = 0

-- how many words from the front are below w
abbrev pub place_of : ℕ → List ℕ → ℕ
place_of w [] = 0
place_of w (x ∷ xs) = one_more_if (ltb x w) (place_of w xs)

-- 0 in every word from `from` on
unfoldable pub cleared_from : ℕ → List ℕ → List ℕ
cleared_from from s = take from s ++ replicate (length s - from) 0

-- the words ws in use, and 0 in every other word of a slice of `room` words
unfoldable pub filled : ℕ → List ℕ → List ℕ
filled room ws = ws ++ replicate (room - length ws) 0

-- the first r words of s are the table tab, and s has len words
pub record Holds (s : List ℕ) (r len : ℕ) (tab : List ℕ) : Type 0 where
  pub is : take r s ≡ tab
  pub fits : r ≤ length s
  pub same : length s ≡ len
