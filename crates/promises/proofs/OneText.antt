-- One set of transitions under one set of names has one printed sheet, byte for byte, and back.
use mathlib.Core.Path.{◌≡◌, refl, sym, ap, ◌∙◌, subst}
use mathlib.Core.List.{List, [], Memᴰ as Mem}
use Prim.Native.Nat.{ℕ, zero, suc, ◌≤◌}
use mathlib.Core.Bool.{cond}
use native.Mathlib.Omega.{arith}
use lib.ListN.{length, take}
use Rattle.table.proofs.Basics.{all_i}
use Rattle.table.proofs.Increasing.{increasing_unique}
use Rattle.panel.specs.Rules.{head, valid_rule}
use Rattle.prime.proofs.Apply.{negative_e, negative_i}
use Rattle.naming.specs.Columns.{column_names, all_named, names_for}
use Rattle.lines.specs.declared.Kind.TheVariants.{Recording}
use Rattle.headers.specs.Layouts.{recording}
use Rattle.naming.specs.Answers.{WithNames, WithoutNames}
use Rattle.naming.proofs.Request.{own_written, none_written}
use Rattle.naming.proofs.Instances.{empty_bad}
use Rattle.writing.specs.SheetText.{sheet_text}
use Rattle.reading.proofs.WordLaws.{read_size}
use Rattle.roundtrip.proofs.NameLaws.{labels}
use Rattle.roundtrip.proofs.OneText.{text_unique}
use Rattle.prime.specs.Primes.{Consistent, Prime}
use Rattle.program.specs.Program.{own_names}
use Rattle.promises.specs.Printed.{SameRows, SameNames, SheetPrinted}

module _ (ts us : List ℕ) (f : (t : ℕ) → Mem t ts → Mem t us) (g : (t : ℕ) → Mem t us → Mem t ts) where
  consistent_same : (w : ℕ) → Consistent ts w → Consistent us w
  consistent_same w h i e c = let k = negative_e us (head w) i e in h i (negative_i ts (head w) i k.0 (g k.0 k.1) k.2 k.3) c

  consistent_back : (w : ℕ) → Consistent us w → Consistent ts w
  consistent_back w h i e c = let k = negative_e ts (head w) i e in h i (negative_i us (head w) i k.0 (f k.0 k.1) k.2 k.3) c

  prime_same : (n w : ℕ) → Prime n ts w → Prime n us w
  prime_same n w p = record {
    is_rule = p.is_rule;
    is_consistent = consistent_same w p.is_consistent;
    no_other = λ r v e c k. p.no_other r v e c (consistent_back r k);
  }

columns_same : (t u : List ℕ) (n m : ℕ) → SameNames n t u → m ≤ n → column_names t [] m ≡ column_names u [] m
unfolding column_names
columns_same t u n zero h l = refl
columns_same t u n (suc m) h l = rw (columns_same t u n m h (omega arith), h.same m (omega arith))

-- columns of the same names: the same lines are written
names_same : (t u : List ℕ) (n : ℕ) → SameNames n t u → own_names t n ≡ own_names u n
unfolding names_for
names_same t u n h = ap (λ (ws : List (List ℕ)). cond (all_named ws) ws []) (columns_same t u n n h (omega arith))

-- the two lines of a printed sheet have the names of its recording; they are not there where it has none
pub names_printed : {t out o : List ℕ} {r : ℕ} (p : SheetPrinted t out o r)
    → (WithNames recording p.n t p.recorded.good → own_names t p.n ≡ p.recorded.good.names) × (WithoutNames recording p.n t p.recorded.good → own_names t p.n ≡ [])
names_printed {t = t} p = (own_written Recording t [] p.n p.recorded.good, λ w. none_written Recording t [] p.n p.recorded.good w empty_bad p.n)

-- two texts of one panel size with the same names whose rows stand for the same transitions, both answered with a sheet: the same bytes are printed
pub one_text : {t u out out₁ o o₁ : List ℕ} {r r₁ : ℕ} (p : SheetPrinted t out o r) (q : SheetPrinted u out₁ o₁ r₁) → p.n ≡ q.n → SameNames p.n t u → SameRows t u → (r ≡ r₁) × (take r o ≡ take r₁ o₁)
one_text {t = t} {u = u} p q e h f = (p.prints.long ∙ ap length texts ∙ sym q.prints.long, p.prints.text ∙ texts ∙ sym q.prints.text)
  where
    to : (w : ℕ) → Mem w p.ts → Mem w q.ts
    to w m = subst (λ (z : List ℕ). Mem w z) (sym q.recorded.words) (f.there w (subst (λ (z : List ℕ). Mem w z) p.recorded.words m))

    from : (w : ℕ) → Mem w q.ts → Mem w p.ts
    from w m = subst (λ (z : List ℕ). Mem w z) (sym p.recorded.words) (f.back w (subst (λ (z : List ℕ). Mem w z) q.recorded.words m))

    sheetCount : p.s ≡ q.s
    sheetCount =
        increasing_unique p.s q.s p.rising q.rising
        (λ w m. q.all_prime w (prime_same p.ts q.ts to from q.n w (subst (λ (k : ℕ). Prime k p.ts w) e (p.only_prime w m))))
        (λ w m. p.all_prime w (prime_same q.ts p.ts from to p.n w (subst (λ (k : ℕ). Prime k q.ts w) (sym e) (q.only_prime w m))))

    texts : sheet_text p.n (own_names t p.n) p.s ≡ sheet_text q.n (own_names u q.n) q.s
    texts =
        ap (λ (ns : List (List ℕ)). sheet_text p.n ns p.s) (names_same t u p.n h) ∙ ap (λ (k : ℕ). sheet_text k (own_names u k) p.s) e
        ∙ ap (sheet_text q.n (own_names u q.n)) sheetCount

-- and back: the bytes of a printed sheet tell the panel size, the names and the sheet
pub one_sheet : {t u out out₁ o o₁ : List ℕ} {r r₁ : ℕ} (p : SheetPrinted t out o r) (q : SheetPrinted u out₁ o₁ r₁) → take r o ≡ take r₁ o₁
    → (p.n ≡ q.n) × (own_names t p.n ≡ own_names u q.n) × (p.s ≡ q.s)
one_sheet {t = t} {u = u} p q e =
    text_unique p.n q.n (read_size t p.n p.recorded.good) (read_size u q.n q.recorded.good) (own_names t p.n) (own_names u q.n)
    (labels t [] p.n) (labels u [] q.n) p.s q.s
    (all_i (valid_rule p.n) p.s (λ w m. (p.only_prime w m).is_rule))
    (all_i (valid_rule q.n) q.s (λ w m. (q.only_prime w m).is_rule))
    (sym p.prints.text ∙ e ∙ q.prints.text)
