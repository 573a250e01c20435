-- Laws of the masks of a field of columns, and of decimal numbers.
use Prim.Native.Nat.{ℕ, ◌+◌, ◌*◌, ◌^◌, ◌≤◌, ◌<◌, min}
use mathlib.Core.Path.{◌≡◌, refl, sym, ◌∙◌, ap}
use mathlib.Core.List.{List, [], ◌∷◌, ◌++◌, append_assoc}
use mathlib.Core.Bool.{Bool, true, false, cond}
use native.Mathlib.Omega.{arith}
use native.Mathlib.Numerals.{add-one}
use native.Mathlib.Nat.{pow-suc, pow-le-pow_right}
use lib.Dec.{eqb, lit<}
use lib.ListN.{length, get_or, drop, drop_of_length-le, length-append}
use lib.Seq.{drop-cons}
use borrow.Author.Tests.{eq-eqb, ne_eqb, eqb-true, eqb-false}
use Rattle.std.specs.Prelude.{Option, Some, None}
use Rattle.std.specs.List.{push}
use Rattle.fields.specs.Bytes.{mark_of}
use Rattle.fields.specs.Values.{cube, cube_of, column_of, Small, digits, digit_of, number_of, keep, most}
use Rattle.fields.specs.declared.Mark.{Mark}
use Rattle.fields.specs.declared.Mark.TheVariants.{Digit, Dash, Space, Hash, Dot, Feed, Other}
use Rattle.fields.specs.declared.Columns.{Columns}

-- the columns of a field, read from its end: one column more, and one that is none
pub cube_more : (b : ℕ) (t : List ℕ) (m : Mark) (c : Columns) → m ≡ mark_of b → Some c ≡ cube_of t → column_of m (Some c) ≡ cube_of (b ∷ t)
unfolding cube_of
cube_more b t m c hm hc = rw (hm, hc)

pub cube_none : (front s : List ℕ) → cube_of s ≡ None → cube_of (front ++ s) ≡ None
unfolding cube_of
cube_none [] s h = h
cube_none (b ∷ front) s h = rw (cube_none front s h)

-- a cube's masks are below 2 to the number of its columns
abbrev pub Under : Option Columns → ℕ → Type 0
Under (Some c) p = (c.on < p) × (c.off < p) × (c.dashes < p)
Under None p = Unit {0}

digit_under : (t u : Bool) (on off dashes p : ℕ) → Under (cube on off dashes) p
    → Under (cond t (cube (on * 2) (off * 2 + 1) (dashes * 2)) (cond u (cube (on * 2 + 1) (off * 2) (dashes * 2)) None)) (p * 2)
digit_under true u on off dashes p h = omega arith
digit_under false true on off dashes p h = omega arith
digit_under false false on off dashes p h = tt

column_under : (m : Mark) (c : Option Columns) (p : ℕ) → Under c p → Under (column_of m c) (p * 2)
column_under m None p h = tt
column_under (Digit d) (Some c) p h = digit_under (eqb d 0) (eqb d 1) c.on c.off c.dashes p h
column_under Dash (Some c) p h = omega arith
column_under Space (Some c) p h = tt
column_under Hash (Some c) p h = tt
column_under Dot (Some c) p h = tt
column_under Feed (Some c) p h = tt
column_under Other (Some c) p h = tt

pub cube_under : (s : List ℕ) → Under (cube_of s) (2 ^ length s)
unfolding cube_of
cube_under [] = omega arith
cube_under (b ∷ s) = rw (pow-suc 2 (length s)) (column_under (mark_of b) (cube_of s) (2 ^ length s) (cube_under s))

under_small : (c : Option Columns) (p : ℕ) → p ≤ 512 → Under c p → Small c
under_small (Some c) p k h = omega arith
under_small None p k h = tt

pub cube_small : (s : List ℕ) → length s ≤ 9 → Small (cube_of s)
cube_small s h = under_small (cube_of s) (2 ^ length s) (pow-le-pow_right (lit< tt) {i = length s} {j = 9} h) (cube_under s)

-- s is the bytes left and the columns t that are read; one byte more goes from those to these
module _ (s old front t : List ℕ) (b : ℕ) where
  pub cube_before : s ≡ old ++ t → old ≡ push front b → s ≡ front ++ b ∷ t
  cube_before h e = h ∙ ap (λ (x : List ℕ). x ++ t) e ∙ append_assoc front (b ∷ []) t

  pub cube_few : length s ≤ 10 → s ≡ old ++ t → old ≡ push front b → Small (cube_of t)
  cube_few few h e = cube_small t (omega (arith, ap length (cube_before h e), length-append front (b ∷ t)))

pub cube_nil : cube 0 0 0 ≡ cube_of []
unfolding cube_of
cube_nil = refl

-- a number: what is kept of it goes on as the number itself does
digit_kept : (n : Option ℕ) (m : Mark) → keep (digit_of (keep n) m) ≡ keep (digit_of n m)
digit_kept None m = refl
digit_kept (Some v) (Digit d) = ap Some (omega arith)
digit_kept (Some v) Dash = refl
digit_kept (Some v) Space = refl
digit_kept (Some v) Hash = refl
digit_kept (Some v) Dot = refl
digit_kept (Some v) Feed = refl
digit_kept (Some v) Other = refl

digits_kept : (n : Option ℕ) (s : List ℕ) → keep (digits (keep n) s) ≡ keep (digits n s)
unfolding digits
digits_kept None [] = refl
digits_kept (Some v) [] = ap Some (omega arith)
digits_kept n (b ∷ s) =
    sym (digits_kept (digit_of (keep n) (mark_of b)) s)
    ∙ ap (λ (x : Option ℕ). keep (digits x s)) (digit_kept n (mark_of b))
    ∙ digits_kept (digit_of n (mark_of b)) s

pub kept_most : (v : ℕ) (n : Option ℕ) → Some v ≡ keep n → v ≤ most
kept_most v None h = absurd cc
kept_most v (Some w) h =
    let q : v ≡ min w most = cc in
    omega arith

-- a number that is kept, and the digits from one on
pub digits_at : (n : Option ℕ) (s : List ℕ) (i : ℕ) (m : Mark) → i < length s → m ≡ mark_of (get_or s i 0)
    → keep (digits n (drop i s)) ≡ keep (digits (keep (digit_of n m)) (drop (i + 1) s))
unfolding digits
digits_at n s i m h e = ap keep (one n s i h e) ∙ sym (digits_kept (digit_of n m) (drop (i + 1) s))
  where
    one : (n : Option ℕ) (s : List ℕ) (i : ℕ) → i < length s → m ≡ mark_of (get_or s i 0) → digits n (drop i s) ≡ digits (digit_of n m) (drop (i + 1) s)
    one n s i h e = rw (e, drop-cons s i 0 h, add-one)

pub digits_over : (n : Option ℕ) (s : List ℕ) (i : ℕ) → length s ≤ i → digits n (drop i s) ≡ n
unfolding digits
digits_over n s i h = rw (drop_of_length-le s h)

pub digits_none : (s : List ℕ) → digits None s ≡ None
unfolding digits
digits_none [] = refl
digits_none (b ∷ s) = digits_none s

-- a number: no digit, a zero before others, and any other first byte
pub number_none : (s : List ℕ) → length s ≡ 0 → None ≡ keep (number_of s)
unfolding number_of
number_none [] h = refl
number_none (b ∷ s) h = absurd (omega arith)

pub number_lead : (s : List ℕ) → 1 < length s → get_or s 0 0 ≡ 48 → None ≡ keep (number_of s)
unfolding number_of
number_lead [] h e = absurd (omega arith)
number_lead (b ∷ []) h e = absurd (omega arith)
number_lead (b ∷ d ∷ s) h e = rw e

pub number_digits : (s : List ℕ) → (length s ≡ 0 → ⊥) → (1 < length s → get_or s 0 0 ≡ 48 → ⊥) → digits (Some 0) s ≡ number_of s
unfolding number_of
number_digits [] h e = absurd (h refl)
number_digits (b ∷ []) h e = refl
number_digits (b ∷ d ∷ s) h e = rw (ne_eqb b 48 (e (omega arith)))

-- a row count below 10^19 equals what is kept of a number exactly if it equals the number
pub kept_same : (k rows : ℕ) → rows < most → eqb (min k most) rows ≡ eqb k rows
kept_same k rows h = go (eqb k rows) refl
  where
    go : (t : Bool) → eqb k rows ≡ t → eqb (min k most) rows ≡ t
    go true e = eq-eqb (min k most) rows (omega (arith, eqb-true k rows e))
    go false e = ne_eqb (min k most) rows (λ p. eqb-false k rows e (omega arith))
