-- The fields of a line: what stands between blanks.
use Rattle.std.specs.Prelude.{ℕ, ◌+◌, ◌≤◌, ◌≡◌, List, [], ◌∷◌, ◌++◌, cond, length, drop}
use Rattle.fields.specs.Bytes.{mark_of, space_mark, run}
use Rattle.fields.specs.declared.Stretch.TheVariants.{Gap, Field}
use Rattle.fields.specs.declared.Span.{Span}
use Rattle.fields.specs.declared.Fields.{Fields}

-- a field that is over, before others; an empty one is none
abbrev pub close : List ℕ → List (List ℕ) → List (List ℕ)
close [] fs = fs
close (b ∷ f) fs = (b ∷ f) ∷ fs

-- the fields of what is left, f being read
unfoldable pub fields_from : List ℕ → List ℕ → List (List ℕ)
fields_from f [] = close f []
fields_from f (b ∷ s) = cond (space_mark (mark_of b)) (close f (fields_from [] s)) (fields_from (f ++ b ∷ []) s)

-- the fields of a line
unfoldable pub fields_in : List ℕ → List (List ℕ)
fields_in s = fields_from [] s

-- the fields that an iterator has left
abbrev pub fields_left : Fields → List (List ℕ)
fields_left it = fields_in it.rest.now

-- the only field; nothing if there is none or more than one
abbrev pub only_of : List (List ℕ) → List ℕ
only_of [] = []
only_of (f ∷ []) = f
only_of (f ∷ g ∷ fs) = []

-- where the field at or after a place stands
pub record Spans (s : List ℕ) (i : ℕ) (r : Span) : Type 0 where
  pub starts : r.from ≡ i + run Gap (drop i s)
  pub ends : r.to ≡ r.from + run Field (drop r.from s)
  pub start_in : r.from ≤ length s
  pub end_in : r.to ≤ length s
