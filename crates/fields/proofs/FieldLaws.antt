-- Laws of the fields of a line.
use Prim.Native.Nat.{ℕ, suc, ◌+◌, ◌-◌, ◌≤◌, ◌<◌, min}
use mathlib.Core.Path.{◌≡◌, refl, sym, ◌∙◌, ap}
use mathlib.Core.List.{List, [], ◌∷◌, ◌++◌, append-nil, append_assoc}
use mathlib.Core.Bool.{Bool, true, false, cond, not}
use mathlib.Core.Logic.{◌⊎◌, inl, inr, ⊎_elim}
use native.Mathlib.Omega.{arith}
use lib.Dec.{ltb}
use lib.ListN.{length, take, drop, length-take, length-drop, drop_of_length-le}
use lib.Seq.{drop-drop, take-nil}
use borrow.Author.Tests.{ltb-true, ltb-false}
use Rattle.fields.specs.Bytes.{mark_of, space_mark, run}
use Rattle.fields.specs.Fields.{close, fields_from, fields_in, Spans}
use Rattle.fields.specs.declared.Span.{Span}
use Rattle.fields.specs.declared.Stretch.TheVariants.{Gap, Field}
use Rattle.fields.proofs.TextLaws.{rest_is}
use Rattle.fields.proofs.ByteLaws.{bare, field, after, run_le, field_at_lem, after_at, bare_at}

-- a field that is read goes on to its end
fields_on : (w s : List ℕ) → fields_from w s ≡ close (w ++ field s) (fields_in (after s))
unfolding fields_from fields_in field after run
fields_on w [] = ap (λ (v : List ℕ). close v []) (sym (append-nil w))
fields_on w (b ∷ s) = go (space_mark (mark_of b)) refl (fields_on (w ++ b ∷ []) s)
  where
    go : (t : Bool) → space_mark (mark_of b) ≡ t
        → fields_from (w ++ b ∷ []) s ≡ close ((w ++ b ∷ []) ++ field s) (fields_in (after s))
        → cond t (close w (fields_from [] s)) (fields_from (w ++ b ∷ []) s)
        ≡ close (w ++ take (cond (not t) (suc (run Field s)) 0) (b ∷ s)) (fields_in (drop (cond (not t) (suc (run Field s)) 0) (b ∷ s)))
    go true e h = rw (append-nil, e)
    go false e h = h ∙ ap (λ (v : List ℕ). close v (fields_in (after s))) (append_assoc w (b ∷ []) (field s))

pub fields_bare : (s : List ℕ) → fields_in s ≡ fields_in (bare s)
unfolding fields_from fields_in bare run
fields_bare [] = refl
fields_bare (b ∷ s) = go (space_mark (mark_of b)) refl (fields_bare s)
  where
    go : (t : Bool) → space_mark (mark_of b) ≡ t → fields_from [] s ≡ fields_from [] (bare s)
        → cond t (fields_from [] s) (fields_from (b ∷ []) s) ≡ fields_from [] (drop (cond t (suc (run Gap s)) 0) (b ∷ s))
    go true e h = h
    go false e h = rw e

-- behind a gap that ends before the end stands a field
gap_field : (s : List ℕ) → run Gap s < length s → 1 ≤ run Field (drop (run Gap s) s)
unfolding run
gap_field [] h = absurd (omega arith)
gap_field (b ∷ s) h = go (space_mark (mark_of b)) refl h (gap_field s)
  where
    go : (t : Bool) → space_mark (mark_of b) ≡ t → cond t (suc (run Gap s)) 0 < suc (length s)
        → (run Gap s < length s → 1 ≤ run Field (drop (run Gap s) s))
        → 1 ≤ run Field (drop (cond t (suc (run Gap s)) 0) (b ∷ s))
    go true e h ih = ih (omega arith)
    go false e h ih = rw e (omega arith)

module _ (s : List ℕ) (i p : ℕ) (hp : p ≡ i + run Gap (drop i s)) where
  pub field_there : p < length s → 1 ≤ run Field (drop p s)
  field_there h =
      let d = drop-drop (run Gap (drop i s)) i s in
      rw (hp, ← d) (gap_field (drop i s) (simp length-drop (omega arith)))

  pub fields_none : p ≡ length s → fields_in (drop i s) ≡ []
  unfolding fields_in fields_from
  fields_none h = fields_bare (drop i s) ∙ rw (bare_at s i p hp, drop_of_length-le s {i = p} (omega arith))

  pub fields_some : (e : ℕ) → p < length s → e ≡ p + run Field (drop p s) → fields_in (drop i s) ≡ take (e - p) (drop p s) ∷ fields_in (drop e s)
  unfolding fields_in
  fields_some e h he =
      fields_bare (drop i s) ∙ ap fields_in (bare_at s i p hp) ∙ fields_on [] (drop p s)
      ∙ rw (after_at s p e he, ← field_at_lem s p e he) (closed (take (e - p) (drop p s)) (simp (length-take, length-drop) (omega (arith, field_there h, run_le Field (drop p s), length-drop p s))))
    where
      closed : (w : List ℕ) → 1 ≤ length w → close w (fields_in (drop e s)) ≡ w ∷ fields_in (drop e s)
      closed [] h = absurd (omega arith)
      closed (b ∷ w) h = refl

pub end_or : (p n : ℕ) → p ≤ n → (p ≡ n) ⊎ (p < n)
end_or p n h = go (ltb p n) refl
  where
    go : (t : Bool) → ltb p n ≡ t → (p ≡ n) ⊎ (p < n)
    go true e = inr (ltb-true p n e)
    go false e = inl (omega (arith, ltb-false p n e))

pub ne_lt : (a b : ℕ) → a ≤ b → (a ≡ b → ⊥) → a < b
ne_lt a b l h = ⊎_elim (λ z. absurd (h z)) (λ z. z) (end_or a b l)

-- the field at or after a place: there is none, or it is the first of those left
module _ (s : List ℕ) (i : ℕ) (r : Span) (h : Spans s i r) where
  pub span_none : r.from ≡ length s → fields_in (drop i s) ≡ []
  span_none e = fields_none s i r.from h.starts e

  pub span_some : r.from < length s → fields_in (drop i s) ≡ take (r.to - r.from) (drop r.from s) ∷ fields_in (drop r.to s)
  span_some l = fields_some s i r.from h.starts r.to l h.ends

  pub span_on : r.from < length s → i < r.to
  span_on l = omega (arith, field_there s i r.from h.starts l, h.starts, h.ends)

  pub span_in : r.from ≤ r.to
  span_in = omega (arith, h.ends)

-- the first field of a line, and the others: none if there is no byte between the two places
module _ (s : List ℕ) (r : Span) (h : Spans s 0 r) where
  field_bytes : r.from < length s → length (take (r.to - r.from) (drop r.from s)) ≡ run Field (drop r.from s)
  field_bytes l = simp (length-take, length-drop) (omega (arith, h.ends, h.end_in))

  pub first_none : length (take (r.to - r.from) (drop r.from s)) ≡ 0 → (fields_in s ≡ []) × (fields_in (take (length s - r.to) (drop r.to s)) ≡ [])
  unfolding fields_in fields_from
  first_none e =
      ⊎_elim
      (λ z. (span_none s 0 r h z, rw (drop_of_length-le s {i = r.to} (omega (arith, span_in s 0 r h)), take-nil)))
      (λ l. absurd (omega (arith, field_there s 0 r.from h.starts l, field_bytes l)))
      (end_or r.from (length s) h.start_in)

  pub first_some : (length (take (r.to - r.from) (drop r.from s)) ≡ 0 → ⊥)
      → fields_in s ≡ take (r.to - r.from) (drop r.from s) ∷ fields_in (take (length s - r.to) (drop r.to s))
  first_some n =
      ⊎_elim
      (λ z. absurd (n (rw (drop_of_length-le s {i = r.from} (omega arith), take-nil))))
      (λ l. rw (rest_is s r.to) (span_some s 0 r h l))
      (end_or r.from (length s) h.start_in)

-- a line has no more fields than bytes
close_few : (f : List ℕ) (fs : List (List ℕ)) → length (close f fs) ≤ length fs + min 1 (length f)
close_few [] fs = omega arith
close_few (b ∷ f) fs = omega arith

from_few : (f s : List ℕ) → length (fields_from f s) ≤ length s + min 1 (length f)
unfolding fields_from
from_few f [] = close_few f []
from_few f (b ∷ s) = go (space_mark (mark_of b)) (from_few [] s) (from_few (f ++ b ∷ []) s)
  where
    go : (t : Bool) → length (fields_from [] s) ≤ length s + min 1 (length {A = ℕ} []) → length (fields_from (f ++ b ∷ []) s) ≤ length s + min 1 (length (f ++ b ∷ []))
        → length (cond t (close f (fields_from [] s)) (fields_from (f ++ b ∷ []) s)) ≤ suc (length s) + min 1 (length f)
    go true h k = omega (arith, close_few f (fields_from [] s))
    go false h k = omega arith

pub fields_few : (s : List ℕ) → length (fields_in s) ≤ length s
unfolding fields_in
fields_few s = omega (arith, from_few [] s)
