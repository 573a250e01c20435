-- No refusal has the code 0, and no two have one code.
use Rattle.std.proofs.Common.{arith, sym, ap, ◌∙◌}
use Rattle.std.specs.Prelude.{◌≡◌, ℕ, Result, Err, cond, eqb, refl, ◌<◌}
use Rattle.answers.specs.Refusals.{code_of, refusal_code}
use Rattle.answers.specs.declared.Refusal.{Refusal}
use Rattle.answers.specs.declared.Refusal.TheVariants.{Known, PanelSize, Counts, Book, Sheet, Word, Contradiction, BookRoom, SheetRoom, Unreproduced, Faulty, TextRoom, TooLong}

-- codes are 1 to 13
pub code_positive : (why : Refusal) → 0 < code_of why
code_positive Known = omega arith
code_positive PanelSize = omega arith
code_positive Counts = omega arith
code_positive Book = omega arith
code_positive Sheet = omega arith
code_positive Word = omega arith
code_positive Contradiction = omega arith
code_positive BookRoom = omega arith
code_positive SheetRoom = omega arith
code_positive Unreproduced = omega arith
code_positive Faulty = omega arith
code_positive TextRoom = omega arith
code_positive TooLong = omega arith

-- a refusal's code is not 0
pub code_not_none : (why : Refusal) → code_of why ≡ 0 → ⊥
code_not_none why e = let h : 0 < code_of why = code_positive why in omega (arith, h, e)

-- where the code is 0, nothing was refused
pub refused_none : {A : Type 0} (r : Result A Refusal) (why : Refusal) → r ≡ Err why → refusal_code r ≡ 0 → ⊥
refused_none r why e z = code_not_none why (sym (ap (λ (x : Result _ Refusal). refusal_code x) e) ∙ z)

-- the refusal of a code
abbrev refusal_of : ℕ → Refusal
refusal_of c = cond (eqb c 1) Known (cond (eqb c 2) PanelSize (cond (eqb c 3) Counts (cond (eqb c 4) Book (cond (eqb c 5) Sheet (cond (eqb c 6) Word (cond (eqb c 7) Contradiction (cond (eqb c 8) BookRoom (cond (eqb c 9) SheetRoom (cond (eqb c 10) Unreproduced (cond (eqb c 11) Faulty (cond (eqb c 12) TextRoom (TooLong))))))))))))

refusal_back : (why : Refusal) → refusal_of (code_of why) ≡ why
refusal_back Known = refl
refusal_back PanelSize = refl
refusal_back Counts = refl
refusal_back Book = refl
refusal_back Sheet = refl
refusal_back Word = refl
refusal_back Contradiction = refl
refusal_back BookRoom = refl
refusal_back SheetRoom = refl
refusal_back Unreproduced = refl
refusal_back Faulty = refl
refusal_back TextRoom = refl
refusal_back TooLong = refl

-- two refusals of one code are one
pub one_refusal : (why other : Refusal) → code_of why ≡ code_of other → why ≡ other
one_refusal why other e = sym (refusal_back why) ∙ (ap refusal_of e ∙ refusal_back other)
