-- The loop has read the columns t at the end of the field, and the iterator has those before them.
use Rattle.std.proofs.Common.{◌≡◌, ℕ, List, ◌++◌, Some}
use Rattle.std.specs.Slice.Iter.{iter_rest}
use Rattle.std.specs.Iterator.Adapters.{rev_source}
use Rattle.fields.specs.Values.{cube_of}
use Rattle.fields.proofs.read_cube.Given as goal

abbrev pub invariant-loop-b : goal.invariant-loop-b
invariant-loop-b l = (t : List ℕ) × (l.s ≡ iter_rest (rev_source l.b-iterator) ++ t) × (Some l.c ≡ cube_of t)
