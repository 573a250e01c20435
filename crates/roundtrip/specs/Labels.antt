-- The names that a sheet may be written with.
use Rattle.std.specs.Prelude.{ℕ, ◌≡◌, List, [], ◌∷◌, true, length}
use Rattle.names.specs.Names.{good_names}

-- none, or one for each of n columns
abbrev pub NoneOrAll : ℕ → List (List ℕ) → Type 0
NoneOrAll n [] = Unit {0}
NoneOrAll n (w ∷ ws) = length (w ∷ ws) ≡ n

-- good names, no two the same: none, or one for each of n columns
pub record Labels (n : ℕ) (ns : List (List ℕ)) : Type 0 where
  pub good : good_names ns ≡ true
  pub many : NoneOrAll n ns
