-- Prime rules, in the words of document 01.
use Rattle.std.specs.Prelude.{◌≡◌, true, List, ℕ}
use Rattle.panel.specs.Rules.{head, valid_rule, covers, contains}
use Rattle.prime.specs.Sheets.{negative}

-- the body of w covers no state that is negative for its head in ts
abbrev pub Consistent : List ℕ → ℕ → Type 0
Consistent ts w = (i : ℕ) → negative ts (head w) i ≡ true → covers w i ≡ true → ⊥

-- w is a rule of the panel whose body is consistent, and no other body that it contains is consistent
pub record Prime (n : ℕ) (ts : List ℕ) (w : ℕ) : Type 0 where
  pub is_rule : valid_rule n w ≡ true
  pub is_consistent : Consistent ts w
  pub no_other : (r : ℕ) → valid_rule n r ≡ true → head r ≡ head w → contains w r ≡ true → Consistent ts r → r ≡ w
