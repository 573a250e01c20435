-- A walk from head to head: what is counted or written so far is the part of the sheet below the word that is reached.
use mathlib.Core.Path.{◌≡◌, refl, sym, ap, ◌∙◌}
use mathlib.Core.Bool.{Bool}
use mathlib.Core.List.{List}
use Prim.Native.Nat.{ℕ, ◌+◌, ◌≤◌}
use native.Mathlib.Omega.{arith}
use lib.ListN.{length}
use Rattle.table.specs.Lists.{between}
use Rattle.table.proofs.Between.{between_empty}
use Rattle.prime.specs.Sheets.{sheet_where}
use Rattle.prime.proofs.Least.{sheet_increasing}
use Rattle.spans.specs.Parts.{over}
use Rattle.spans.proofs.Overwriting.{over_nil}

-- ---- counting

-- the walk has come from lo to w and met k words of s
pub record Counted (s : List ℕ) (lo w k : ℕ) : Type 0 where
  pub is : k ≡ length (between lo w s)
  pub few : k + lo ≤ w

module _ (n : ℕ) (small : n ≤ 10) (q : ℕ → Bool) (lo : ℕ) where
  pub counted_start : Counted (sheet_where n q) lo lo 0
  counted_start = record { is = sym (ap length (between_empty (sheet_where n q) lo (sheet_increasing n small q))); few = omega arith }

-- ---- writing

-- the walk has come from lo to w, and has written what it met over the front of old
pub record Written (s : List ℕ) (lo w : ℕ) (old cur : List ℕ) (at : ℕ) : Type 0 where
  pub is : cur ≡ over (between lo w s) old
  pub place : at ≡ length (between lo w s)
  pub from : lo ≤ w
  pub same : length cur ≡ length old
  pub fits : at ≤ length old

module _ (n : ℕ) (small : n ≤ 10) (q : ℕ → Bool) (lo : ℕ) where
  pub written_start : (old : List ℕ) → Written (sheet_where n q) lo lo old old 0
  written_start old =
      let e = between_empty (sheet_where n q) lo (sheet_increasing n small q) in
      record {
        is = over_nil old ∙ ap (λ (t : List ℕ). over t old) (sym e);
        place = ap length (sym e);
        from = omega arith;
        same = refl;
        fits = omega arith;
      }
