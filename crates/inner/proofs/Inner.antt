-- Take where only 9 is left: what its counts are, and what it leaves.
use mathlib.Core.Path.{◌≡◌, refl, sym, ap, ◌∙◌, subst}
use mathlib.Core.Bool.{Bool}
use mathlib.Core.List.{List}
use Prim.Native.Nat.{ℕ, ◌+◌, ◌-◌, ◌^◌, ◌≤◌, ◌<◌}
use native.Mathlib.Nat.{lt_of_lt_of_le}
use native.Mathlib.Omega.{arith}
use lib.Dec.{ltb}
use lib.Pow.{pow_mono}
use lib.ListN.{length, take}
use lib.Seq.{length-take-le}
use borrow.Author.Tests.{lt-ltb, le-ltb}
use Rattle.table.proofs.Counting.{missing_le}
use Rattle.table.specs.Surgery.{Holds}
use Rattle.table.proofs.Tables.{increasing_short}
use Rattle.prime.specs.Sheets.{take_sheet, struck_count, added_count}
use Rattle.prime.proofs.Least.{Good, good_e}
use Rattle.prime.proofs.Laws.{take_good}
use Rattle.prime.proofs.Passes.{rule_small}
use Rattle.panel.specs.Rules.{valid_rule}
use Rattle.panel.proofs.Words.{rule_i}
use Rattle.heirs.proofs.Counts.{counts_balance}
use Rattle.std.specs.Prelude.{Result, Ok, Err}
use Rattle.std.specs.Result.{IsErrAnd}
use Rattle.book.specs.Books.{with_word}
use Rattle.sheet.specs.Taking.{tally_of}
use Rattle.sheet.specs.declared.Tally.{Tally}
use Rattle.answers.specs.Answers.{refuse, plain, done}
use Rattle.answers.specs.declared.Answer.{Answer}
use Rattle.answers.proofs.Laws.{if_refused, if_done_lem}
use Rattle.inner.specs.Booking.{inner_code}
use Rattle.inner.specs.Inner.{inner_answer, Ready, Inner}

same_done : {b b' p p' q q' u u' : ℕ} → b ≡ b' → p ≡ p' → q ≡ q' → u ≡ u' → done b p q u ≡ done b' p' q' u'
same_done e0 e1 e2 e3 = λ x. done (e0 x) (e1 x) (e2 x) (e3 x)

module _ (n t : ℕ) (book : List ℕ) (bookCount : ℕ) (sheet : List ℕ) (sheetCount : ℕ) (k : Ready n t book bookCount sheet sheetCount) where
  abbrev new : List ℕ
  new = take_sheet n (take sheetCount sheet) t

  module _ (y : Tally) (ey : y ≡ tally_of n (take sheetCount sheet) t) where
    struck_is : y.struck ≡ struck_count (take sheetCount sheet) new
    unfolding tally_of
    struck_is = ap (λ (z : Tally). z.struck) ey

    added_is : y.added ≡ added_count (take sheetCount sheet) new
    unfolding tally_of
    added_is = ap (λ (z : Tally). z.added) ey

    -- what goes and what comes give the new count
    pub count_is : length new + y.struck ≡ sheetCount + y.added
    count_is =
        omega (
          arith,
          struck_is,
          added_is,
          length-take-le sheetCount sheet k.sheets_in,
          counts_balance (take sheetCount sheet) new (good_e n (take sheetCount sheet) k.sheet_is_good).sorted (take_good n k.small (take sheetCount sheet) t).sorted,
        )

    -- neither is large
    pub added_few : y.added ≤ 16777216
    unfolding added_count
    added_few = omega (arith, added_is, missing_le (take sheetCount sheet) new, new_short)
      where
        new_good : Good n new
        new_good = take_good n k.small (take sheetCount sheet) t

        new_short : length new ≤ 16777216
        new_short = increasing_short new 16777216 new_good.sorted (λ x m. rule_small n x k.small (valid_rule n x) refl (rule_i n x (new_good.valid x m)))

    pub sheets_few : sheetCount ≤ 16777216
    sheets_few =
        let g = good_e n (take sheetCount sheet) k.sheet_is_good in
        omega (
          arith,
          length-take-le sheetCount sheet k.sheets_in,
          increasing_short (take sheetCount sheet) 16777216 g.sorted (λ x m. rule_small n x k.small (valid_rule n x) refl (rule_i n x (g.valid x m))),
        )

    pub inner_full : (c : ℕ) → c ≡ sheetCount + y.added - y.struck → length sheet < c → (r : Answer) → r ≡ plain 9 0 bookCount sheetCount → Inner n t book bookCount sheet sheetCount book sheet r
    unfolding inner_answer inner_code
    inner_full c ec l r er =
        let q : refuse (ltb (length sheet) (length new)) 9 0 ≡ 9 = ap (λ (b : Bool). refuse b 9 0) (lt-ltb (length sheet) (length new) (omega (arith, ec, count_is))) in
        let f : refuse (ltb (length sheet) (length new)) 9 0 ≡ 0 → ⊥ = λ p. omega (arith, p, q) in
        record {
          answer = er ∙ ap (λ (m : ℕ). plain m 0 bookCount sheetCount) (sym q) ∙ sym (if_refused (refuse (ltb (length sheet) (length new)) 9 0) _ _ f);
          kept = λ p. (refl, refl);
          booked_in = λ p. absurd (f p);
          taken_in = λ p. absurd (f p);
        }

    module _ (c : ℕ) (ec : c ≡ sheetCount + y.added - y.struck) (l : c ≤ length sheet) where
      pub inner_room : length new ≤ length sheet
      inner_room = omega (arith, ec, count_is)

      pub inner_done : (bz sz : List ℕ) (l m : ℕ) → Holds bz l (length book) (with_word t (take bookCount book)) → Holds sz m (length sheet) new
          → (r : Answer) → r ≡ done l m y.struck y.added → Inner n t book bookCount sheet sheetCount bz sz r
      unfolding inner_answer inner_code
      inner_done bz sz l m g h r er =
          let q : refuse (ltb (length sheet) (length new)) 9 0 ≡ 0 = ap (λ (b : Bool). refuse b 9 0) (le-ltb (length sheet) (length new) inner_room) in
          let ll : l ≡ length (with_word t (take bookCount book)) = sym (length-take-le l bz g.fits) ∙ ap length g.is in
          let lm : m ≡ length new = sym (length-take-le m sz h.fits) ∙ ap length h.is in
          record {
            answer = er ∙ same_done ll lm struck_is added_is ∙ sym (if_done_lem (refuse (ltb (length sheet) (length new)) 9 0) _ _ q);
            kept = λ f. absurd (f q);
            booked_in = λ p. subst (λ (x : ℕ). Holds bz x (length book) (with_word t (take bookCount book))) ll g;
            taken_in = λ p. subst (λ (x : ℕ). Holds sz x (length sheet) new) lm h;
          }

-- states and successors of a panel fit ten relays
pub fits_ten : (n x : ℕ) → n ≤ 10 → x < 2 ^ n → x < 1024
fits_ten n x l h = lt_of_lt_of_le h (pow_mono l)

-- the exit of a `?` passes the refusal on
pub passed_on : {A E : Type 0} {e : E} (r : Result A E) → IsErrAnd r (λ x. x ≡ e) → r ≡ Err e
passed_on (Ok a) p = absurd p
passed_on (Err x) p = ap (λ y. Err y) p
