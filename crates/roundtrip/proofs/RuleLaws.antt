-- The row of a rule: its line says the rule, and the rule is read back from it.
use Prim.Native.Nat.{ℕ, zero, suc, ◌+◌, ◌^◌, ◌≤◌, ◌<◌}
use mathlib.Core.Path.{◌≡◌, refl, sym, ◌∙◌, ap}
use mathlib.Core.List.{List, ◌∷◌, ◌++◌}
use mathlib.Core.Logic.{⊎_elim}
use mathlib.Core.Bool.{Bool, true, false, cond, not, ◌&&◌, false≢true}
use native.Mathlib.Omega.{arith}
use lib.Pow.{pow_pos, pow-lt}
use lib.Dec.{eqb}
use borrow.Author.Tests.{eqb-true, eqb-false, ne_eqb}
use Rattle.panel.specs.Masks.{on, bit_if, bits_where}
use Rattle.panel.specs.Rules.{head, must_on, must_off, Rule}
use Rattle.panel.proofs.Masks.{same_bits, apart_on, off_zero, bits_lt, bits_on}
use Rattle.panel.proofs.Words.{word_fields}
use Rattle.fields.proofs.FieldLaws.{end_or, ne_lt}
use Rattle.fields.proofs.JoinLaws.{NoFeed}
use Rattle.lines.specs.Lines.{line_of}
use Rattle.lines.specs.declared.Masks.{Masks}
use Rattle.lines.specs.declared.Line.TheVariants.{Row}
use Rattle.headers.specs.Layouts.{sheet}
use Rattle.headers.specs.Headers.{only_from, only_on}
use Rattle.headers.specs.Accepted.{Fits}
use Rattle.reading.specs.Rows.{rule_of}
use Rattle.writing.specs.TableText.{body_byte, head_byte, columns}
use Rattle.roundtrip.proofs.CellLaws.{masks_by, cells_no_feed, cells_row}

-- the line of a rule: its body, a space, its head
abbrev pub rule_line : ℕ → ℕ → List ℕ
rule_line n w = columns (body_byte w) n ++ 32 ∷ columns (head_byte w) n

-- what it says: P on, N off, free the relays in neither; next the head alone, every output read
abbrev pub rule_masks : ℕ → ℕ → Masks
rule_masks n w =
    record {
      on = must_on w;
      off = must_off w;
      free = bits_where n (λ v. not (on v (must_on w)) && not (on v (must_off w)));
      next = 2 ^ head w;
      unread = 0;
      width = n;
    }

-- ---- masks

-- a mask below 2^n is the mask of its bits
bits_self : (n x : ℕ) (f : ℕ → Bool) → x < 2 ^ n → ((v : ℕ) → v < n → f v ≡ on v x) → bits_where n f ≡ x
bits_self n x f l h = same_bits n (bits_where n f) x (bits_lt n f) l (λ v k. bits_on n f v k ∙ h v k)

-- a mask of no bits
bits_none : (n : ℕ) (f : ℕ → Bool) → ((v : ℕ) → v < n → f v ≡ false) → bits_where n f ≡ 0
bits_none n f h = bits_self n 0 f (pow_pos n) (λ v k. h v k ∙ sym (off_zero v))

-- a mask of one bit
bits_single : (n h : ℕ) → h < n → bits_where n (λ v. eqb v h) ≡ 2 ^ h
unfolding bits_where
bits_single zero h l = absurd (omega arith)
bits_single (suc n) h l = go (eqb n h) refl (bits_single n h)
  where
    go : (t : Bool) → eqb n h ≡ t → (h < n → bits_where n (λ v. eqb v h) ≡ 2 ^ h) → bits_where n (λ v. eqb v h) + bit_if t n ≡ 2 ^ h
    go true e f =
        let q = eqb-true n h e in
        ap (λ (x : ℕ). x + 2 ^ n) (bits_none n (λ v. eqb v h) (λ v k. ne_eqb v h (λ p. omega (arith, q)))) ∙ rw q (omega arith)
    go false e f = omega (arith, f (ne_lt h n (omega arith) (λ p. eqb-false n h e (sym p))))

-- ---- the line of a rule

pub rule_no_feed : (n w : ℕ) → NoFeed (rule_line n w)
unfolding body_byte head_byte
rule_no_feed n w = cells_no_feed n (λ v. on v (must_on w)) (λ v. on v (must_off w)) (λ v. eqb v (head w)) (λ v. true)

second : (a b : Bool) → (a ≡ true → b ≡ true → ⊥) → (not a && b) ≡ b
second true true h = absurd (h refl refl)
second true false h = refl
second false b h = refl

never : (a : Bool) → (not a && not true) ≡ false
never true = refl
never false = refl

module _ (n w : ℕ) (r : Rule n w) where
  rule_masks_lem : masks_by n (λ v. on v (must_on w)) (λ v. on v (must_off w)) (λ v. eqb v (head w)) (λ v. true) ≡ rule_masks n w
  rule_masks_lem =
      let p : bits_where n (λ v. on v (must_on w)) ≡ must_on w = bits_self n (must_on w) _ r.must_on_lt (λ v k. refl) in
      let m : bits_where n (λ v. not (on v (must_on w)) && on v (must_off w)) ≡ must_off w =
      bits_self n (must_off w) _ r.must_off_lt (λ v k. second (on v (must_on w)) (on v (must_off w)) (apart_on (must_on w) (must_off w) v r.disjoint)) in
      let h : bits_where n (λ v. eqb v (head w)) ≡ 2 ^ head w = bits_single n (head w) r.head_lt in
      let u : bits_where n (λ v. not (eqb v (head w)) && not true) ≡ 0 = bits_none n _ (λ v k. never (eqb v (head w))) in
      cc

  -- the line of a rule says the rule
  pub rule_line_lem : 1 ≤ n → n ≤ 10 → line_of (rule_line n w) ≡ Row (rule_masks n w)
  unfolding body_byte head_byte
  rule_line_lem some few =
      cells_row n (λ v. on v (must_on w)) (λ v. on v (must_off w)) (λ v. eqb v (head w)) (λ v. true) some few ∙ ap Row rule_masks_lem

  -- and is a row that a sheet may have
  pub rule_fits : n ≤ 10 → Fits sheet n (rule_masks n w)
  rule_fits few = record {
    width = refl;
    inputs = λ e. absurd (false≢true (sym e));
    outputs = λ e. refl;
    single = λ e. (head w, omega (arith, r.head_lt), refl);
  }

-- ---- the rule of a row

only_found : (f h u : ℕ) → h ≤ u → u < h + f → only_from f h (2 ^ u) ≡ u
unfolding only_from
only_found zero h u l m = absurd (omega arith)
only_found (suc f) h u l m = go (eqb (2 ^ u) (2 ^ h)) refl (λ p q. only_found f (h + 1) u p q)
  where
    go : (t : Bool) → eqb (2 ^ u) (2 ^ h) ≡ t → (h + 1 ≤ u → u < h + 1 + f → only_from f (h + 1) (2 ^ u) ≡ u) → cond t h (only_from f (h + 1) (2 ^ u)) ≡ u
    go true e more = ⊎_elim (λ p. p) (λ p. absurd (omega (arith, pow-lt p, eqb-true (2 ^ u) (2 ^ h) e))) (end_or h u l)
    go false e more = more (omega (arith, ne_lt h u l (λ p. eqb-false (2 ^ u) (2 ^ h) e (ap (λ (x : ℕ). 2 ^ x) (sym p))))) (omega arith)

-- the rule of the row of a rule is the rule
pub rule_back : (n w : ℕ) → n ≤ 10 → Rule n w → rule_of (rule_masks n w) ≡ w
unfolding rule_of only_on
rule_back n w few r = rw (only_found 10 0 (head w) (omega arith) (omega (arith, r.head_lt))) (word_fields w)
