-- Laws of a text that is put together from lines: it has these lines.
use Prim.Native.Nat.{ℕ}
use mathlib.Core.Path.{◌≡◌, refl, ◌∙◌, ap}
use mathlib.Core.List.{List, [], ◌∷◌, ◌++◌}
use mathlib.Core.Bool.{Bool, true, false, cond}
use Rattle.fields.specs.Bytes.{mark_of, feed_mark}
use Rattle.fields.specs.Texts.{lines_of, push}
use Rattle.fields.proofs.DecimalLaws.{AllDigits}

-- no byte of a line is LF
abbrev pub NoFeed : List ℕ → Type 0
NoFeed [] = Unit {0}
NoFeed (b ∷ s) = (feed_mark (mark_of b) ≡ false) × NoFeed s

abbrev pub NoFeeds : List (List ℕ) → Type 0
NoFeeds [] = Unit {0}
NoFeeds (l ∷ ls) = NoFeed l × NoFeeds ls

-- the text of some lines
abbrev pub text_of : List (List ℕ) → List ℕ
text_of [] = []
text_of (l ∷ ls) = l ++ 10 ∷ text_of ls

pub lines_cons_feed : (l s : List ℕ) → NoFeed l → lines_of (l ++ 10 ∷ s) ≡ l ∷ lines_of s
unfolding lines_of mark_of
lines_cons_feed [] s h = refl
lines_cons_feed (b ∷ l) s h = rw (h.0, lines_cons_feed l s h.1)

pub lines_of_text : (ls : List (List ℕ)) → NoFeeds ls → lines_of (text_of ls) ≡ ls
unfolding lines_of
lines_of_text [] h = refl
lines_of_text (l ∷ ls) h = lines_cons_feed l (text_of ls) h.0 ∙ ap (λ (x : List (List ℕ)). l ∷ x) (lines_of_text ls h.1)

push_no_feeds : (b : ℕ) (ls : List (List ℕ)) → feed_mark (mark_of b) ≡ false → NoFeeds ls → NoFeeds (push b ls)
push_no_feeds b [] h k = ((h, tt), tt)
push_no_feeds b (l ∷ ls) h k = ((h, k.0), k.1)

pub lines_no_feeds : (s : List ℕ) → NoFeeds (lines_of s)
unfolding lines_of
lines_no_feeds [] = tt
lines_no_feeds (b ∷ s) = go (feed_mark (mark_of b)) refl (lines_no_feeds s)
  where
    go : (t : Bool) → feed_mark (mark_of b) ≡ t → NoFeeds (lines_of s) → NoFeeds (cond t ([] ∷ lines_of s) (push b (lines_of s)))
    go true e h = (tt, h)
    go false e h = push_no_feeds b (lines_of s) e h

pub append_no_feeds : (ls ms : List (List ℕ)) → NoFeeds ls → NoFeeds ms → NoFeeds (ls ++ ms)
append_no_feeds [] ms h k = k
append_no_feeds (l ∷ ls) ms h k = (h.0, append_no_feeds ls ms h.1 k)

pub digits_no_feed : (s : List ℕ) → AllDigits s → NoFeed s
digits_no_feed [] h = tt
digits_no_feed (b ∷ s) h = (ap feed_mark h.0.1, digits_no_feed s h.1)
