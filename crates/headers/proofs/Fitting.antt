-- Which rows fit a layout: the test says what the definition says. The search for the only relay that is on.
use Prim.Native.Nat.{ℕ, zero, suc, ◌+◌, ◌^◌, ◌≤◌, ◌<◌}
use mathlib.Core.Path.{◌≡◌, refl, sym, ◌∙◌, ap}
use mathlib.Core.Bool.{Bool, true, false, cond, not, ◌||◌, false≢true}
use native.Mathlib.Omega.{arith}
use lib.Dec.{eqb, ltb}
use Rattle.std.specs.Prelude.{Option, Some, None}
use Rattle.std.specs.Option.{MatchOption, unwrap_or}
use borrow.Author.Tests.{eq-eqb, eqb-true, eqb-false, ne_eqb, ltb-true, lt-ltb}
use Rattle.table.proofs.Basics.{and_i, and_l, and_r}
use Rattle.fields.proofs.FieldLaws.{ne_lt}
use Rattle.lines.specs.declared.Masks.{Masks}
use Rattle.headers.specs.Headers.{only_from, only_on, row_fits}
use Rattle.headers.specs.Accepted.{Fits}
use Rattle.headers.specs.declared.Layout.{Layout}

-- ---- the search

pub only_here : (f h x : ℕ) → 1 ≤ f → x ≡ 2 ^ h → only_from f h x ≡ h
unfolding only_from
only_here zero h x l e = absurd (omega arith)
only_here (suc f) h x l e = rw (eq-eqb x (2 ^ h) e)

only_more : (f h x : ℕ) → (x ≡ 2 ^ h → ⊥) → only_from (suc f) h x ≡ only_from f (h + 1) x
unfolding only_from
only_more f h x e = rw (ne_eqb x (2 ^ h) e)

-- the first whose bit is the whole is found
only_at : (f h x i : ℕ) → h ≤ i → i < h + f → x ≡ 2 ^ i → ((k : ℕ) → h ≤ k → k < i → x ≡ 2 ^ k → ⊥) → only_from f h x ≡ i
only_at zero h x i l m e n = absurd (omega arith)
only_at (suc f) h x i l m e n = go (eqb h i) refl (λ o. only_at f (h + 1) x i (omega arith) (omega arith) e (λ k p q. n k (omega arith) q))
  where
    go : (t : Bool) → eqb h i ≡ t → (h < i → only_from f (h + 1) x ≡ i) → only_from (suc f) h x ≡ i
    go true q more = only_here (suc f) h x (omega arith) (e ∙ ap (λ (y : ℕ). 2 ^ y) (sym (eqb-true h i q))) ∙ eqb-true h i q
    go false q more = let o : h < i = ne_lt h i l (eqb-false h i q) in only_more f h x (n h (omega arith) o) ∙ more o

only_none : (f h x : ℕ) → ((k : ℕ) → h ≤ k → k < h + f → x ≡ 2 ^ k → ⊥) → only_from f h x ≡ h + f
unfolding only_from
only_none zero h x n = omega arith
only_none (suc f) h x n = only_more f h x (n h (omega arith) (omega arith)) ∙ only_none f (h + 1) x (λ k p o. n k (omega arith) (omega arith)) ∙ omega arith

-- as the code searches: the first of 0 to 9 whose bit is the whole, or 10
pub only_first : (x : ℕ) (r : Option ℕ)
    → MatchOption r ((k : ℕ) → 0 ≤ k → k < 10 → x ≡ 2 ^ k → ⊥) (λ i. (0 ≤ i) × (i < 10) × (x ≡ 2 ^ i) × ((k : ℕ) → 0 ≤ k → k < i → x ≡ 2 ^ k → ⊥))
    → unwrap_or r 10 ≡ only_on x
unfolding only_on
only_first x None n = sym (only_none 10 0 x n)
only_first x (Some i) n = sym (only_at 10 0 x i n.0 n.1 n.2 n.3)

-- ---- what it finds

only_least : (f h x : ℕ) → only_from f h x ≤ h + f
unfolding only_from
only_least zero h x = omega arith
only_least (suc f) h x = go (eqb x (2 ^ h)) (only_least f (h + 1) x)
  where
    go : (t : Bool) → only_from f (h + 1) x ≤ h + 1 + f → cond t h (only_from f (h + 1) x) ≤ h + suc f
    go true l = omega arith
    go false l = omega arith

pub only_few : (x : ℕ) → only_on x ≤ 10
unfolding only_on
only_few x = only_least 10 0 x

-- a relay that is found is the only one on
only_is : (f h x : ℕ) → only_from f h x < h + f → x ≡ 2 ^ only_from f h x
unfolding only_from
only_is zero h x l = absurd (omega arith)
only_is (suc f) h x l = go (eqb x (2 ^ h)) refl l (only_is f (h + 1) x)
  where
    go : (t : Bool) → eqb x (2 ^ h) ≡ t → cond t h (only_from f (h + 1) x) < h + suc f → (only_from f (h + 1) x < h + 1 + f → x ≡ 2 ^ only_from f (h + 1) x)
        → x ≡ 2 ^ cond t h (only_from f (h + 1) x)
    go true e l more = eqb-true x (2 ^ h) e
    go false e l more = more (omega arith)

-- the only relay that is on is found
only_found : (f h x g : ℕ) → h ≤ g → g < h + f → x ≡ 2 ^ g → only_from f h x < h + f
unfolding only_from
only_found zero h x g l k e = absurd (omega arith)
only_found (suc f) h x g l k e = go (eqb x (2 ^ h)) refl (λ b. only_found f (h + 1) x g b (omega arith) e)
  where
    go : (t : Bool) → eqb x (2 ^ h) ≡ t → (h + 1 ≤ g → only_from f (h + 1) x < h + 1 + f) → cond t h (only_from f (h + 1) x) < h + suc f
    go true c more = omega arith
    go false c more =
        let apart : h < g = ne_lt h g l (λ q. eqb-false x (2 ^ h) c (e ∙ ap (λ (y : ℕ). 2 ^ y) (sym q))) in
        omega (arith, more (omega arith))

-- ---- rows

-- a test of the layout, or nothing of the kind
free_e : (allowed : Bool) (v : ℕ) → (allowed || eqb v 0) ≡ true → allowed ≡ false → v ≡ 0
free_e true v e f = absurd (false≢true (sym f))
free_e false v e f = eqb-true v 0 e

free_i : (allowed : Bool) (v : ℕ) → (allowed ≡ false → v ≡ 0) → (allowed || eqb v 0) ≡ true
free_i true v f = refl
free_i false v f = eq-eqb v 0 (f refl)

single_e : (single : Bool) (x : ℕ) → (not single || ltb (only_on x) 10) ≡ true → single ≡ true → (h : ℕ) × (h < 10) × (x ≡ 2 ^ h)
unfolding only_on
single_e true x e f = let l = ltb-true (only_from 10 0 x) 10 e in (only_from 10 0 x, l, only_is 10 0 x l)
single_e false x e f = absurd (false≢true f)

single_i : (single : Bool) (x : ℕ) → (single ≡ true → (h : ℕ) × (h < 10) × (x ≡ 2 ^ h)) → (not single || ltb (only_on x) 10) ≡ true
unfolding only_on
single_i true x f = let h = f refl in lt-ltb (only_from 10 0 x) 10 (only_found 10 0 x h.0 (omega arith) h.1 h.2)
single_i false x f = refl

pub fits_e : (lay : Layout) (n : ℕ) (m : Masks) → m.width ≡ n → row_fits lay m ≡ true → Fits lay n m
unfolding row_fits
fits_e lay n m w e =
    let r = and_r (lay.dashes || eqb m.free 0) _ e in
    record {
      width = w;
      inputs = free_e lay.dashes m.free (and_l (lay.dashes || eqb m.free 0) _ e);
      outputs = free_e lay.unread m.unread (and_l (lay.unread || eqb m.unread 0) _ r);
      single = single_e lay.single m.next (and_r (lay.unread || eqb m.unread 0) _ r);
    }

pub fits_i : (lay : Layout) (n : ℕ) (m : Masks) → Fits lay n m → row_fits lay m ≡ true
unfolding row_fits
fits_i lay n m f =
    and_i _ _ (free_i lay.dashes m.free f.inputs) (and_i _ _ (free_i lay.unread m.unread f.outputs) (single_i lay.single m.next f.single))
