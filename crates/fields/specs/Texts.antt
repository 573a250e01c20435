-- The lines of a text, and what of a line stands before its comment.
use Rattle.std.specs.Prelude.{ℕ, ◌+◌, List, [], ◌∷◌, cond, ltb, take}
use Rattle.fields.specs.Bytes.{mark_of, feed_mark, run}
use Rattle.fields.specs.declared.Stretch.TheVariants.{Body}

-- a byte at the front of the first line
abbrev pub push : ℕ → List (List ℕ) → List (List ℕ)
push b [] = (b ∷ []) ∷ []
push b (l ∷ ls) = (b ∷ l) ∷ ls

-- the lines of a text: each ends at LF, the last may lack it
unfoldable pub lines_of : List ℕ → List (List ℕ)
lines_of [] = []
lines_of (b ∷ s) = cond (feed_mark (mark_of b)) ([] ∷ lines_of s) (push b (lines_of s))

-- what of a line stands before its comment
unfoldable pub body : List ℕ → List ℕ
body s = take (run Body s) s

-- where the line after one that ends at e starts, in a text of n bytes
abbrev pub past_of : ℕ → ℕ → ℕ
past_of e n = cond (ltb e n) (e + 1) e
