-- The sheet of a set of transitions in the words of document 01: exactly the prime rules. And the join of two such sheets.
use mathlib.Core.Path.{◌≡◌, sym, ◌∙◌}
use mathlib.Core.Logic.{◌⊎◌, inl, inr}
use mathlib.Core.Bool.{true}
use mathlib.Core.List.Memᴰ
use mathlib.Core.List.{List, ◌++◌, Memᴰ as Mem}
use Prim.Native.Nat.{ℕ, ◌≤◌}
use lib.Dec.{eqb}
use borrow.Author.Tests.{eq-eqb}
use Rattle.table.proofs.Basics.{and_r, and_i}
use Rattle.panel.specs.Rules.{head, contains, narrows}
use Rattle.panel.proofs.Words.{rule_e, rule_i, narrows_e}
use Rattle.prime.specs.Sheets.{consistent, sheet_of, join_sheet}
use Rattle.prime.specs.Primes.{Prime}
use Rattle.prime.proofs.Least.{member_e, member_i}
use Rattle.prime.proofs.Laws.{sheet_of_members, join_sheet_of}
use Rattle.prime.proofs.Apply.{consistent_covers, covers_consistent}

one_head_contains : (w r : ℕ) → head w ≡ head r → contains w r ≡ true → narrows w r ≡ true
unfolding narrows
one_head_contains w r e c = and_i (eqb (head w) (head r)) (contains w r) (eq-eqb (head w) (head r) e) c

narrows_contains : (w r : ℕ) → narrows w r ≡ true → contains w r ≡ true
unfolding narrows
narrows_contains w r e = and_r (eqb (head w) (head r)) (contains w r) e

module _ (n : ℕ) (small : n ≤ 10) where
  pub sheet_of_prime : (es : List ℕ) (w : ℕ) → Mem w (sheet_of n es) → Prime n es w
  unfolding sheet_of
  sheet_of_prime es w m =
      let k = member_e n small (consistent es) w m in
      record {
        is_rule = rule_i n w k.0;
        is_consistent = consistent_covers es w k.1.holds;
        no_other = λ r v e c f. k.1.smallest r (rule_e n r v) (one_head_contains w r (sym e) c) (covers_consistent es r f);
      }

  pub prime_sheet_of : (es : List ℕ) (w : ℕ) → Prime n es w → Mem w (sheet_of n es)
  unfolding sheet_of
  prime_sheet_of es w p =
      member_i n small (consistent es) w (rule_e n w p.is_rule) (record {
        holds = covers_consistent es w p.is_consistent;
        smallest = λ r k q e. p.no_other r (rule_i n r k) (sym (narrows_e w r q).one_head) (narrows_contains w r q) (consistent_covers es r e);
      })

  -- T2: the join of the sheets of two sets is the sheet of any list with the members of both
  pub join_members : (es fs gs : List ℕ) → ((t : ℕ) → Mem t gs → Mem t es ⊎ Mem t fs) → ((t : ℕ) → Mem t es → Mem t gs) → ((t : ℕ) → Mem t fs → Mem t gs)
      → join_sheet n (sheet_of n es) (sheet_of n fs) ≡ sheet_of n gs
  join_members es fs gs part left right =
      join_sheet_of n small es fs ∙ sheet_of_members n small (es ++ fs) gs (λ t m. into t (Memᴰ.append_cases es m)) (λ t m. out t (part t m))
    where
      into : (t : ℕ) → Mem t es ⊎ Mem t fs → Mem t gs
      into t (inl m) = left t m
      into t (inr m) = right t m

      out : (t : ℕ) → Mem t es ⊎ Mem t fs → Mem t (es ++ fs)
      out t (inl m) = Memᴰ.append_left fs m
      out t (inr m) = Memᴰ.append_right es m
