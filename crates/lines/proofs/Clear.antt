-- Bytes that end no field, no body and no line: how fields and bodies go over them.
use Prim.Native.Nat.{ℕ, ◌≤◌}
use mathlib.Core.Path.{◌≡◌, refl, ◌∙◌, ap}
use mathlib.Core.List.{List, [], ◌∷◌, ◌++◌, append-nil, append_assoc}
use mathlib.Core.Bool.{false}
use native.Mathlib.Omega.{arith}
use lib.ListN.{length, take}
use Rattle.fields.specs.Bytes.{mark_of, space_mark, hash_mark, feed_mark, run}
use Rattle.fields.specs.Fields.{close, fields_from}
use Rattle.fields.specs.declared.Stretch.TheVariants.{Body}
use Rattle.fields.proofs.DecimalLaws.{AllDigits}
use Rattle.fields.proofs.JoinLaws.{NoFeed}

-- no byte is a blank, starts a comment or ends the line
abbrev pub Clear : List ℕ → Type 0
Clear [] = Unit {0}
Clear (b ∷ s) = ((space_mark (mark_of b) ≡ false) × (hash_mark (mark_of b) ≡ false) × (feed_mark (mark_of b) ≡ false)) × Clear s

pub digits_clear : (s : List ℕ) → AllDigits s → Clear s
digits_clear [] h = tt
digits_clear (b ∷ s) h = (rw h.0.1 (refl, refl, refl), digits_clear s h.1)

-- ---- bodies and lines

-- no byte starts a comment
abbrev pub NoHash : List ℕ → Type 0
NoHash [] = Unit {0}
NoHash (b ∷ s) = (hash_mark (mark_of b) ≡ false) × NoHash s

pub no_hash_body : (s : List ℕ) → NoHash s → take (run Body s) s ≡ s
unfolding run
no_hash_body [] h = refl
no_hash_body (b ∷ s) h = rw h.0 (ap (λ (x : List ℕ). b ∷ x) (no_hash_body s h.1))

pub clear_no_hash : (w s : List ℕ) → Clear w → NoHash s → NoHash (w ++ s)
clear_no_hash [] s c h = h
clear_no_hash (b ∷ w) s c h = (c.0.1, clear_no_hash w s c.1 h)

pub clear_no_feed : (w s : List ℕ) → Clear w → NoFeed s → NoFeed (w ++ s)
clear_no_feed [] s c h = h
clear_no_feed (b ∷ w) s c h = (c.0.2, clear_no_feed w s c.1 h)

pub clear_body : (w : List ℕ) → Clear w → take (run Body w) w ≡ w
clear_body w c = no_hash_body w (rw append-nil at (clear_no_hash w [] c tt))

-- ---- fields

pub close_some : (f : List ℕ) (fs : List (List ℕ)) → 1 ≤ length f → close f fs ≡ f ∷ fs
close_some [] fs h = absurd (omega arith)
close_some (b ∷ f) fs h = refl

-- they go on with the field that is being read
pub clear_field : (f w s : List ℕ) → Clear w → fields_from f (w ++ s) ≡ fields_from (f ++ w) s
unfolding fields_from
clear_field f [] s c = rw append-nil
clear_field f (b ∷ w) s c = rw c.0.0 (clear_field (f ++ b ∷ []) w s c.1 ∙ ap (λ (x : List ℕ). fields_from x s) (append_assoc f (b ∷ []) w))

-- and alone they are one field
pub clear_alone : (w : List ℕ) → Clear w → 1 ≤ length w → fields_from [] w ≡ w ∷ []
unfolding fields_from
clear_alone w c h = (rw append-nil at (clear_field [] w [] c)) ∙ close_some w [] h
