-- The lines of a text with their places.
use Rattle.std.specs.Prelude.{ℕ, ◌+◌, List, [], ◌∷◌, length}
use Rattle.fields.specs.declared.Span.{Span}

-- lines in turn, the first of which starts at this place: each with where it stands
unfoldable pub placed_from : ℕ → List (List ℕ) → List (Span × List ℕ)
placed_from at [] = []
placed_from at (l ∷ ls) = (record { from = at; to = at + length l }, l) ∷ placed_from (at + length l + 1) ls
