-- What a byte of a line is, and how far a stretch of bytes of one kind goes.
use Rattle.std.specs.Prelude.{ℕ, suc, ◌-◌, List, [], ◌∷◌, Bool, true, false, cond, not, eqb, leb}
use Rattle.fields.specs.declared.Mark.{Mark}
use Rattle.fields.specs.declared.Mark.TheVariants.{Digit, Dash, Space, Hash, Dot, Feed, Other}
use Rattle.fields.specs.declared.Stretch.{Stretch}
use Rattle.fields.specs.declared.Stretch.TheVariants.{Gap, Field, Body, Whole}

-- `0` to `9` are digits; space and tab are blanks; `#`, `.`, `-` and LF are themselves; no other byte means anything
unfoldable pub mark_of : ℕ → Mark
mark_of b =
    cond (leb 48 b) (cond (leb b 57) (Digit (b - 48)) Other)
    (cond (eqb b 45) Dash
    (cond (eqb b 32) Space
    (cond (eqb b 9) Space
    (cond (eqb b 35) Hash
    (cond (eqb b 46) Dot
    (cond (eqb b 10) Feed Other))))))

-- a blank
abbrev pub space_mark : Mark → Bool
space_mark (Digit d) = false
space_mark Dash = false
space_mark Space = true
space_mark Hash = false
space_mark Dot = false
space_mark Feed = false
space_mark Other = false

-- the start of a comment
abbrev pub hash_mark : Mark → Bool
hash_mark (Digit d) = false
hash_mark Dash = false
hash_mark Space = false
hash_mark Hash = true
hash_mark Dot = false
hash_mark Feed = false
hash_mark Other = false

-- the end of a line
abbrev pub feed_mark : Mark → Bool
feed_mark (Digit d) = false
feed_mark Dash = false
feed_mark Space = false
feed_mark Hash = false
feed_mark Dot = false
feed_mark Feed = true
feed_mark Other = false

-- a gap is of blanks, a field of anything else; the body of a line ends at `#`, a whole line at LF
abbrev pub is_in : Stretch → Mark → Bool
is_in Gap m = space_mark m
is_in Field m = not (space_mark m)
is_in Body m = not (hash_mark m)
is_in Whole m = not (feed_mark m)

-- how many bytes from the front belong to the stretch
unfoldable pub run : Stretch → List ℕ → ℕ
run k [] = 0
run k (b ∷ bs) = cond (is_in k (mark_of b)) (suc (run k bs)) 0

-- two lists of bytes are the same
unfoldable pub same : List ℕ → List ℕ → Bool
same [] [] = true
same [] (y ∷ ys) = false
same (x ∷ xs) [] = false
same (x ∷ xs) (y ∷ ys) = cond (eqb x y) (same xs ys) false
