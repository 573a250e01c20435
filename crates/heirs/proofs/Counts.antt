-- Struck and added of a take.
use mathlib.Core.Path.{◌≡◌, sym, ap, ◌∙◌}
use mathlib.Core.Bool.{true, not}
use mathlib.Core.List.{List, Memᴰ as Mem}
use Prim.Native.Nat.{ℕ, ◌+◌, ◌≤◌}
use lib.ListN.{length}
use Rattle.table.specs.Lists.{filter, has, missing, increasing}
use Rattle.panel.specs.Transitions.{spared}
use Rattle.prime.specs.Sheets.{struck_count, added_count, take_sheet}
use Rattle.table.proofs.Basics.{same_test}
use Rattle.table.proofs.Counting.{has_e, has_i, shared, filter_ext, balance}
use Rattle.prime.proofs.Least.{Good}
use Rattle.prime.proofs.Laws.{take_good}
use Rattle.heirs.proofs.Take.{kept_i, new_spared}

-- what is struck and what is added balance
pub counts_balance : (old new : List ℕ) → increasing old ≡ true → increasing new ≡ true
    → length new + struck_count old new ≡ length old + added_count old new
unfolding struck_count added_count
counts_balance old new p q = balance old new p q

module _ (n : ℕ) (small : n ≤ 10) (s : List ℕ) (g : Good n s) (t : ℕ) where
  -- the old rules in the new sheet are those that t spares
  kept_iff : (x : ℕ) → Mem x s → has x (take_sheet n s t) ≡ spared t x
  kept_iff x m =
      same_test (has x (take_sheet n s t)) (spared t x)
      (λ e. new_spared n small s g t x (has_e x (take_sheet n s t) e))
      (λ e. has_i x (take_sheet n s t) (kept_i n small s g t x (record { old = m; alone = e })))

  -- struck is the number of old rules that t does not spare
  pub take_struck : struck_count s (take_sheet n s t) ≡ length (filter (λ x. not (spared t x)) s)
  unfolding struck_count missing
  take_struck = ap length (filter_ext (λ x. not (has x (take_sheet n s t))) (λ x. not (spared t x)) s (λ x m. ap not (kept_iff x m)))

  pub take_kept : filter (λ x. has x s) (take_sheet n s t) ≡ filter (spared t) s
  take_kept =
      sym (shared s (take_sheet n s t) g.sorted (take_good n small s t).sorted)
      ∙ filter_ext (λ x. has x (take_sheet n s t)) (spared t) s kept_iff
