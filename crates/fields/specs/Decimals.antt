-- A number written in decimal.
use Rattle.std.specs.Prelude.{ℕ, zero, suc, ◌+◌, ◌/◌, ◌%◌, List, [], ◌∷◌, ◌++◌, cond, ltb}

-- the digits of v: those of v / 10, and then the last; the first argument bounds how many there may be
unfoldable pub decimal_from : ℕ → ℕ → List ℕ
decimal_from zero v = (48 + v) ∷ []
decimal_from (suc f) v = cond (ltb v 10) ((48 + v) ∷ []) (decimal_from f (v / 10) ++ ((48 + v % 10) ∷ []))

-- the digits of v
unfoldable pub decimal : ℕ → List ℕ
decimal v = decimal_from v v
