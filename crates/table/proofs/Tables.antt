-- Tables in a slice: a word put in or taken out, places in order, and how long a table can be.
use mathlib.Core.Path.{◌≡◌, refl, sym, ap, ap₂, ◌∙◌, subst}
use mathlib.Core.Logic.{◌⊎◌, inl, inr}
use mathlib.Core.Bool.{Bool, true, false, not, cond}
use mathlib.Core.List.Memᴰ
use mathlib.Core.List.Memᴰ.{head as here}
use mathlib.Core.List.Memᴰ.{tail as there}
use mathlib.Core.List.{List, [], ◌∷◌, ◌++◌, append_assoc, Memᴰ as Mem}
use Prim.Native.Nat.{ℕ, zero, suc, ◌+◌, ◌-◌, ◌≤◌, ◌<◌, suc-le-suc}
use native.Mathlib.Nat.{le_of_suc-le-suc, not-suc-le-zero, zero-lt-suc, lt_irrefl, le_refl}
use native.Mathlib.Numerals.{add-one}
use native.Mathlib.Omega.{arith}
use lib.ListN.{length, take, drop, get_or, replicate, length-append, length-drop, take-append-drop}
use lib.Seq.{take_at, take-take, length-take-le, get_or-take, drop-drop, drop-append-le, take-append-le}
use lib.Dec.{ltb}
use borrow.Author.Tests.{eq-eqb, ne_eqb, lt-ltb, ltb-true}
use Rattle.table.specs.Lists.{cons_if, increasing, insert, insert_all, remove}
use Rattle.table.specs.Surgery.{removed_at, moved_at, place_of, one_more_if, cleared_from, filled, Holds}
use Rattle.table.proofs.Basics.{at_in}
use Rattle.table.proofs.Increasing.{first_below, rest_increasing}
use Rattle.table.proofs.Inserting.{insert_length}
use Rattle.table.proofs.Shifting.{slice_take, place_above, insert_place}

-- ---- members of parts

pub mem_take : (r : ℕ) (b : List ℕ) {x : ℕ} → Mem x (take r b) → Mem x b
mem_take zero b m = absurd (Memᴰ.not-nil m)
mem_take (suc r) [] m = m
mem_take (suc r) (y ∷ ys) (here e) = here e
mem_take (suc r) (y ∷ ys) (there m) = there (mem_take r ys m)

pub mem_drop : (r : ℕ) (b : List ℕ) {x : ℕ} → Mem x (drop r b) → Mem x b
mem_drop zero b m = m
mem_drop (suc r) [] m = m
mem_drop (suc r) (y ∷ ys) m = there (mem_drop r ys m)

-- a member stands at a place
pub in_at : {r : ℕ} {s : List ℕ} → Mem r s → (k : ℕ) × (k < length s) × (get_or s k 0 ≡ r)
in_at (here {xs = ys} e) = (zero, zero-lt-suc (length ys), sym e)
in_at (there m) = let k = in_at m in (suc k.0, suc-le-suc k.1, k.2)

-- ---- one in

pub inserted_table : (s e : List ℕ) (count w : ℕ) → count < length s → e ≡ insert w (take count s) ++ drop (count + 1) s
    → Holds e (count + 1) (length s) (insert w (take count s))
inserted_table s e count w l q =
    let n : length (insert w (take count s)) ≡ count + 1 =
    insert_length w (take count s) ∙ omega (arith, length-take-le count s (omega arith)) in
    let m : length e ≡ length s =
    ap length q ∙ length-append (insert w (take count s)) (drop (count + 1) s) ∙ omega (arith, n, length-drop (count + 1) s) in
    record {
      is = ap (take (count + 1)) q ∙ take_at (insert w (take count s)) (drop (count + 1) s) (count + 1) n;
      fits = omega (arith, m, l);
      same = m;
    }

-- ---- one out

rest_kept : (b : ℕ) (s : List ℕ) → ((x : ℕ) → Mem x s → x ≡ b → ⊥) → remove b s ≡ s
unfolding remove
rest_kept b [] f = refl
rest_kept b (x ∷ xs) f =
    ap₂ (λ (a : Bool) (l : List ℕ). cons_if a x l) (ap not (ne_eqb x b (f x (here refl)))) (rest_kept b xs (λ y m. f y (there m)))

pub remove_at : (s : List ℕ) (at : ℕ) → increasing s ≡ true → at < length s → remove (get_or s at 0) s ≡ take at s ++ drop (suc at) s
unfolding remove
remove_at [] at i l = absurd (not-suc-le-zero l)
remove_at (x ∷ xs) zero i l =
    ap (λ (a : Bool). cons_if (not a) x (remove x xs)) (eq-eqb x x refl)
    ∙ rest_kept x xs (λ y m e. lt_irrefl x (subst (λ (z : ℕ). x < z) e (first_below x xs i m)))
remove_at (x ∷ xs) (suc at) i l =
    ap (λ (a : Bool). cons_if (not a) x (remove (get_or xs at 0) xs)) (ne_eqb x (get_or xs at 0) (λ e. lt_irrefl x (subst (λ (z : ℕ). x < z) (sym e) (first_below x xs i (at_in xs at (le_of_suc-le-suc l))))))
    ∙ ap (λ (l : List ℕ). x ∷ l) (remove_at xs at (rest_increasing x xs i) (le_of_suc-le-suc l))

pub removed_table : (s e : List ℕ) (count at : ℕ) → at < count → count ≤ length s → increasing (take count s) ≡ true → e ≡ removed_at count at s
    → Holds e (count - 1) (length s) (remove (get_or s at 0) (take count s))
unfolding removed_at moved_at
removed_table s e count at l h i p =
    let a : List ℕ = take at s in
    let b : List ℕ = take (count - (at + 1)) (drop (at + 1) s) in
    let r : List ℕ = 0 ∷ drop count s in
    let q : e ≡ (a ++ b) ++ r = p ∙ sym (append_assoc a b r) in
    let na : length a ≡ at = length-take-le at s (omega arith) in
    let nb : length b ≡ count - (at + 1) = length-take-le (count - (at + 1)) (drop (at + 1) s) (omega (arith, length-drop (at + 1) s)) in
    let nab : length (a ++ b) ≡ count - 1 = length-append a b ∙ omega (arith, na, nb) in
    let tab : List ℕ = take count s in
    let ntab : length tab ≡ count = length-take-le count s h in
    let m : length e ≡ length s = ap length q ∙ length-append (a ++ b) r ∙ omega (arith, nab, length-drop count s) in
    let ga : get_or tab at 0 ≡ get_or s at 0 = get_or-take count s at 0 l in
    let w : remove (get_or s at 0) tab ≡ take at tab ++ drop (suc at) tab =
    ap (λ (x : ℕ). remove x tab) (sym ga) ∙ remove_at tab at i (omega (arith, ntab)) in
    let ta : take at tab ≡ a = take-take at count s (omega arith) in
    let tb : drop (suc at) tab ≡ b = slice_take (suc at) count s l ∙ ap (λ (k : ℕ). take (count - k) (drop k s)) (sym (add-one at)) in
    record {
      is = ap (take (count - 1)) q ∙ take_at (a ++ b) r (count - 1) nab ∙ sym (w ∙ ap₂ (λ (x y : List ℕ). x ++ y) ta tb);
      fits = omega (arith, m);
      same = m;
    }

-- ---- words that go behind all of a front part leave it alone

insert_past : (h : ℕ) (xs ys : List ℕ) → ((x : ℕ) → Mem x xs → x < h) → insert h (xs ++ ys) ≡ xs ++ insert h ys
insert_past h [] ys f = refl
insert_past h (x ∷ xs) ys f =
    ap (λ (a : Bool). cond a (x ∷ insert h (xs ++ ys)) (h ∷ x ∷ xs ++ ys)) (lt-ltb x h (f x (here refl)))
    ∙ ap (λ (l : List ℕ). x ∷ l) (insert_past h xs ys (λ y m. f y (there m)))

pub insert_all_past : (hs xs ys : List ℕ) → ((h x : ℕ) → Mem h hs → Mem x xs → x < h) → insert_all hs (xs ++ ys) ≡ xs ++ insert_all hs ys
insert_all_past [] xs ys f = refl
insert_all_past (h ∷ hs) xs ys f =
    ap (insert_all hs) (insert_past h xs ys (λ x m. f h x (here refl) m))
    ∙ insert_all_past hs xs (insert h ys) (λ k x m n. f k x (there m) n)

-- the words before a place are below the word there
pub before_below : (s : List ℕ) (at : ℕ) → increasing s ≡ true → at < length s → (x : ℕ) → Mem x (take at s) → x < get_or s at 0
before_below [] at i l x m = absurd (not-suc-le-zero l)
before_below (y ∷ s) zero i l x m = absurd (Memᴰ.not-nil m)
before_below (y ∷ s) (suc at) i l x (here e) = rw e (first_below y s i (at_in s at (le_of_suc-le-suc l)))
before_below (y ∷ s) (suc at) i l x (there m) = before_below s at (rest_increasing y s i) (le_of_suc-le-suc l) x m

-- ---- one out, and a larger one in

-- the words before a place count in full towards the place of a word above them all
place_past : (w k : ℕ) (s : List ℕ) → k ≤ length s → ((x : ℕ) → Mem x (take k s) → x < w) → place_of w s ≡ k + place_of w (drop k s)
place_past w zero s l f = omega arith
place_past w (suc k) [] l f = absurd (not-suc-le-zero l)
place_past w (suc k) (x ∷ s) l f =
    ap (λ (b : Bool). one_more_if b (place_of w s)) (lt-ltb x w (f x (here refl)))
    ∙ omega (arith, place_past w k s (le_of_suc-le-suc l) (λ y m. f y (there m)))

-- the words up to a place are below what the word there is below
upto_below : (s : List ℕ) (at w : ℕ) → increasing s ≡ true → at < length s → get_or s at 0 < w → (x : ℕ) → Mem x (take (suc at) s) → x < w
upto_below [] at w i l h x m = absurd (not-suc-le-zero l)
upto_below (y ∷ s) zero w i l h x (here e) = rw e h
upto_below (y ∷ s) zero w i l h x (there m) = absurd (Memᴰ.not-nil m)
upto_below (y ∷ s) (suc at) w i l h x (here e) = let k = first_below y s i (at_in s at (le_of_suc-le-suc l)) in rw e (omega (arith, k, h))
upto_below (y ∷ s) (suc at) w i l h x (there m) = upto_below s at w (rest_increasing y s i) (le_of_suc-le-suc l) h x m

replaced_list : (s : List ℕ) (to at w : ℕ) → increasing s ≡ true → at < length s → get_or s at 0 < w → to ≡ place_of w s
    → moved_at to at w s ≡ insert w (remove (get_or s at 0) s)
unfolding moved_at
replaced_list s to at w i l h e =
    let p : ℕ = place_of w (drop (suc at) s) in
    let k : to ≡ suc at + p = e ∙ place_past w (suc at) s l (upto_below s at w i l h) in
    let d : drop to s ≡ drop p (drop (suc at) s) = ap (λ (j : ℕ). drop j s) k ∙ sym (drop-drop p (suc at) s) in
    let t : to - (at + 1) ≡ p = omega (arith, k) in
    let a : at + 1 ≡ suc at = add-one at in
    ap₂ (λ (j m : ℕ). take at s ++ (take j (drop m s) ++ (w ∷ drop to s))) t a
    ∙ ap (λ (r : List ℕ). take at s ++ (take p (drop (suc at) s) ++ (w ∷ r))) d
    ∙ sym (ap (λ (r : List ℕ). take at s ++ r) (insert_place w (drop (suc at) s)))
    ∙ sym (insert_past w (take at s) (drop (suc at) s) (λ x m. let b = before_below s at i l x m in omega (arith, b, h)))
    ∙ sym (ap (insert w) (remove_at s at i l))

moved_front : (to at w : ℕ) (xs ys : List ℕ) → at < to → to ≤ length xs → moved_at to at w (xs ++ ys) ≡ moved_at to at w xs ++ ys
unfolding moved_at
moved_front to at w xs ys l h =
    let a : take at (xs ++ ys) ≡ take at xs = take-append-le at xs ys (omega arith) in
    let m : take (to - (at + 1)) (drop (at + 1) (xs ++ ys)) ≡ take (to - (at + 1)) (drop (at + 1) xs) =
    ap (take (to - (at + 1))) (drop-append-le (at + 1) xs ys (omega arith)) ∙ take-append-le (to - (at + 1)) (drop (at + 1) xs) ys (omega (arith, length-drop (at + 1) xs)) in
    let d : drop to (xs ++ ys) ≡ drop to xs ++ ys = drop-append-le to xs ys h in
    rw (a, m, d) (sym (append_assoc (take at xs) (take (to - (at + 1)) (drop (at + 1) xs) ++ (w ∷ drop to xs)) ys
    ∙ ap (λ (r : List ℕ). take at xs ++ r) (append_assoc (take (to - (at + 1)) (drop (at + 1) xs)) (w ∷ drop to xs) ys)))

-- the place of the larger one is behind
pub replace_above : (s : List ℕ) (count at to w : ℕ) → at < count → count ≤ length s → increasing (take count s) ≡ true → get_or s at 0 < w → to ≡ place_of w (take count s) → at < to
replace_above s count at to w l h i b p =
    omega (arith, p, place_above w (take count s) at i (omega (arith, length-take-le count s h)) (omega (arith, get_or-take count s at 0 l, b)))

-- the word at a place of the table gives way to a larger one
pub replaced_table : (s e : List ℕ) (count at to w : ℕ) → at < count → count ≤ length s → increasing (take count s) ≡ true → get_or s at 0 < w
    → to ≡ place_of w (take count s) → to ≤ length (take count s) → e ≡ moved_at to at w s
    → e ≡ insert w (remove (get_or s at 0) (take count s)) ++ drop count s
replaced_table s e count at to w l h i b p k q =
    let tab : List ℕ = take count s in
    let n : length tab ≡ count = length-take-le count s h in
    let g : get_or tab at 0 ≡ get_or s at 0 = get_or-take count s at 0 l in
    let low : get_or tab at 0 < w = omega (arith, g, b) in
    q
    ∙ ap (moved_at to at w) (sym (take-append-drop count s))
    ∙ moved_front to at w tab (drop count s) (replace_above s count at to w l h i b p) k
    ∙ ap (λ (r : List ℕ). r ++ drop count s) (replaced_list tab to at w i (omega (arith, n)) low p ∙ ap (λ (x : ℕ). insert w (remove x tab)) g)

-- ---- places in order

pub place_up : (lo hi : ℕ) (s : List ℕ) → lo ≤ hi → place_of lo s ≤ place_of hi s
place_up lo hi [] l = le_refl 0
place_up lo hi (x ∷ xs) l = go (ltb x lo) refl (place_up lo hi xs l)
  where
    go : (b : Bool) → ltb x lo ≡ b → place_of lo xs ≤ place_of hi xs → one_more_if b (place_of lo xs) ≤ one_more_if (ltb x hi) (place_of hi xs)
    go true e p = rw (lt-ltb x hi (omega (arith, ltb-true x lo e))) (suc-le-suc p)
    go false e p = omega arith

-- ---- an increasing list of small numbers is short

short_from : (s : List ℕ) (lo hi : ℕ) → increasing s ≡ true → ((x : ℕ) → Mem x s → (lo ≤ x) × (x < hi)) → length s + lo ≤ hi ⊎ (length s ≡ 0)
short_from [] lo hi i h = inr refl
short_from (x ∷ xs) lo hi i h = inl (go (short_from xs (suc x) hi (rest_increasing x xs i) (λ y m. (first_below x xs i m, (h y (there m)).1))))
  where
    go : length xs + suc x ≤ hi ⊎ (length xs ≡ 0) → suc (length xs) + lo ≤ hi
    go (inl a) = omega (arith, a, (h x (here refl)).0)
    go (inr e) = omega (arith, e, (h x (here refl)).0, (h x (here refl)).1)

pub increasing_short : (s : List ℕ) (hi : ℕ) → increasing s ≡ true → ((x : ℕ) → Mem x s → x < hi) → length s ≤ hi
increasing_short s hi i h = go (short_from s 0 hi i (λ x m. (omega arith, h x m)))
  where
    go : length s + 0 ≤ hi ⊎ (length s ≡ 0) → length s ≤ hi
    go (inl a) = omega (arith, a)
    go (inr e) = omega (arith, e)

-- ---- a table with the words behind it cleared

pub holds_filled : (z e : List ℕ) (r len : ℕ) (tab : List ℕ) → Holds z r len tab → e ≡ cleared_from r z → e ≡ filled len tab
unfolding cleared_from filled
holds_filled z e r len tab h q =
    let k : r ≡ length tab = sym (length-take-le r z h.fits) ∙ ap length h.is in
    let m : length z - r ≡ len - length tab = omega (arith, h.same, k) in
    q ∙ ap₂ (λ (xs : List ℕ) (i : ℕ). xs ++ replicate i 0) h.is m

-- a list written over the front of a slice
pub over_holds : (xs s : List ℕ) (r : ℕ) → r ≡ length xs → r ≤ length s → Holds (xs ++ drop r s) r (length s) xs
over_holds xs s r e l =
    let m : length (xs ++ drop r s) ≡ length s = length-append xs (drop r s) ∙ omega (arith, length-drop r s) in
    record { is = take_at xs (drop r s) r (sym e); fits = omega (arith, m); same = m }

-- the table after a word of it gave way to a larger one
pub replaced_holds : (s e : List ℕ) (count at w : ℕ) → at < count → count ≤ length s → increasing (take count s) ≡ true
    → e ≡ insert w (remove (get_or s at 0) (take count s)) ++ drop count s → Holds e count (length s) (insert w (remove (get_or s at 0) (take count s)))
replaced_holds s e count at w l h i q =
    let tab : List ℕ = take count s in
    let n : length tab ≡ count = length-take-le count s h in
    let g : get_or tab at 0 ≡ get_or s at 0 = get_or-take count s at 0 l in
    let r : remove (get_or s at 0) tab ≡ take at tab ++ drop (suc at) tab = ap (λ (x : ℕ). remove x tab) (sym g) ∙ remove_at tab at i (omega (arith, n)) in
    let k : length (remove (get_or s at 0) tab) + 1 ≡ count =
    ap (λ (t : List ℕ). length t + 1) r ∙ ap (λ (m : ℕ). m + 1) (length-append (take at tab) (drop (suc at) tab))
    ∙ omega (arith, length-take-le at tab (omega (arith, n)), length-drop (suc at) tab, n) in
    subst (λ (t : List ℕ). Holds t count (length s) (insert w (remove (get_or s at 0) tab))) (sym q)
    (over_holds (insert w (remove (get_or s at 0) tab)) s count (sym (insert_length w (remove (get_or s at 0) tab) ∙ omega (arith, k))) h)
