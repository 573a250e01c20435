-- What the tests of names mean: a name has 1 to 16 bytes, each a digit, a letter or an underscore, and no two of a line are the same; and what follows from it.
use Prim.Native.Nat.{ℕ, zero, suc, ◌*◌, ◌≤◌, ◌<◌}
use mathlib.Core.Path.{◌≡◌, refl, sym, ◌∙◌, ap}
use mathlib.Core.List.{List, [], ◌∷◌}
use mathlib.Core.Logic.{◌↔◌, ◌⊎◌, inl, inr}
use mathlib.Core.Bool.{Bool, true, false, cond, false≢true}
use native.Mathlib.Omega.{arith}
use lib.Dec.{eqb, ltb}
use lib.ListN.{length, take, get_or, length-append}
use borrow.Author.Tests.{eqb-false, le-ltb, ltb-false, ne_eqb}
use Rattle.fields.specs.Bytes.{same}
use Rattle.fields.proofs.FieldLaws.{ne_lt}
use Rattle.names.specs.Names.{name_byte, all_name, name_ok, holds, good_names, OfName, Name, Among, Names, spaced}
use Rattle.names.proofs.Equal.{same_is, same_self}

all_e : (w : List ℕ) → all_name w ≡ true → OfName w
unfolding all_name
all_e [] h = tt
all_e (b ∷ w) h = go (name_byte b) refl h (all_e w)
  where
    go : (t : Bool) → name_byte b ≡ t → cond t (all_name w) false ≡ true → (all_name w ≡ true → OfName w) → OfName (b ∷ w)
    go true e f more = (e, more f)
    go false e f more = absurd (false≢true f)

all_i : (w : List ℕ) → OfName w → all_name w ≡ true
unfolding all_name
all_i [] h = refl
all_i (b ∷ w) h = rw h.0 (all_i w h.1)

pub name_iff : (w : List ℕ) → (name_ok w ≡ true) ↔ Name w
unfolding name_ok
name_iff w = (λ h. go (eqb (length w) 0) refl (ltb 16 (length w)) refl h, λ n. rw (ne_eqb (length w) 0 (some (length w) n.0), le-ltb 16 (length w) n.1) (all_i w n.2))
  where
    go : (t : Bool) → eqb (length w) 0 ≡ t → (u : Bool) → ltb 16 (length w) ≡ u → cond t false (cond u false (all_name w)) ≡ true → Name w
    go true e u f h = absurd (false≢true h)
    go false e true f h = absurd (false≢true h)
    go false e false f h = (ne_lt 0 (length w) (omega arith) (λ z. eqb-false (length w) 0 e (sym z)), ltb-false 16 (length w) f, all_e w h)

    some : (k : ℕ) → 1 ≤ k → k ≡ 0 → ⊥
    some k h z = omega arith

holds_e : (w : List ℕ) (vs : List (List ℕ)) → holds w vs ≡ false → Among w vs → ⊥
unfolding holds
holds_e w [] h a = a
holds_e w (v ∷ vs) h a = go (same w v) refl h a (holds_e w vs)
  where
    go : (t : Bool) → same w v ≡ t → cond t true (holds w vs) ≡ false → (w ≡ v) ⊎ Among w vs → (holds w vs ≡ false → Among w vs → ⊥) → ⊥
    go true e f a more = false≢true (sym f)
    go false e f (inl q) more = false≢true (sym e ∙ ap (λ (x : List ℕ). same w x) (sym q) ∙ same_self w)
    go false e f (inr a) more = more f a

holds_i : (w : List ℕ) (vs : List (List ℕ)) → (Among w vs → ⊥) → holds w vs ≡ false
unfolding holds
holds_i w [] n = refl
holds_i w (v ∷ vs) n = go (same w v) refl (holds_i w vs (λ a. n (inr a)))
  where
    go : (t : Bool) → same w v ≡ t → holds w vs ≡ false → cond t true (holds w vs) ≡ false
    go true e r = absurd (n (inl (same_is w v e)))
    go false e r = r

good_e : (ws : List (List ℕ)) → good_names ws ≡ true → Names ws
unfolding good_names
good_e [] h = tt
good_e (w ∷ ws) h = go (name_ok w) refl (holds w ws) refl h (good_e ws)
  where
    go : (t : Bool) → name_ok w ≡ t → (u : Bool) → holds w ws ≡ u → cond t (cond u false (good_names ws)) false ≡ true → (good_names ws ≡ true → Names ws) → Names (w ∷ ws)
    go true e true f h more = absurd (false≢true h)
    go true e false f h more = ((name_iff w).0 e, holds_e w ws f, more h)
    go false e u f h more = absurd (false≢true h)

good_i : (ws : List (List ℕ)) → Names ws → good_names ws ≡ true
unfolding good_names
good_i [] n = refl
good_i (w ∷ ws) n = rw ((name_iff w).1 n.0, holds_i w ws n.1) (good_i ws n.2)

-- the test of a name line's fields
pub good_iff : (ws : List (List ℕ)) → (good_names ws ≡ true) ↔ Names ws
good_iff ws = (good_e ws, good_i ws)

-- ---- the names of a line by their columns

name_at : (ws : List (List ℕ)) (k : ℕ) → Names ws → k < length ws → Name (get_or ws k [])
name_at [] k n h = absurd (omega arith)
name_at (w ∷ ws) zero n h = n.0
name_at (w ∷ ws) (suc k) n h = name_at ws k n.2 (omega arith)

among_at : (ws : List (List ℕ)) (k : ℕ) → k < length ws → Among (get_or ws k []) ws
among_at [] k h = absurd (omega arith)
among_at (w ∷ ws) zero h = inl refl
among_at (w ∷ ws) (suc k) h = inr (among_at ws k (omega arith))

differ_at : (ws : List (List ℕ)) (k j : ℕ) → Names ws → k < length ws → j < length ws → (k ≡ j → ⊥) → get_or ws k [] ≡ get_or ws j [] → ⊥
differ_at [] k j n h i d e = omega arith
differ_at (w ∷ ws) zero zero n h i d e = d refl
differ_at (w ∷ ws) zero (suc j) n h i d e = n.1 (rw e (among_at ws j (omega arith)))
differ_at (w ∷ ws) (suc k) zero n h i d e = n.1 (rw (← e) (among_at ws k (omega arith)))
differ_at (w ∷ ws) (suc k) (suc j) n h i d e = differ_at ws k j n.2 (omega arith) (omega arith) (λ q. d (ap suc q)) e

-- every column of a good name line has a name
pub name_of_good : (ws : List (List ℕ)) (k : ℕ) → good_names ws ≡ true → k < length ws → Name (get_or ws k [])
name_of_good ws k g h = name_at ws k (good_e ws g) h

-- two columns of a good name line have different names
pub differ_of_good : (ws : List (List ℕ)) (k j : ℕ) → good_names ws ≡ true → k < length ws → j < length ws → (k ≡ j → ⊥) → get_or ws k [] ≡ get_or ws j [] → ⊥
differ_of_good ws k j g h i d e = differ_at ws k j (good_e ws g) h i d e

-- ---- the first of some names, and how long names are when they are written

among_first : (w : List ℕ) (n : ℕ) (ws : List (List ℕ)) → Among w (take n ws) → Among w ws
among_first w zero ws a = absurd a
among_first w (suc n) [] a = a
among_first w (suc n) (v ∷ vs) (inl e) = inl e
among_first w (suc n) (v ∷ vs) (inr a) = inr (among_first w n vs a)

names_first : (n : ℕ) (ws : List (List ℕ)) → Names ws → Names (take n ws)
names_first zero ws g = tt
names_first (suc n) [] g = tt
names_first (suc n) (w ∷ ws) g = (g.0, λ a. g.1 (among_first w n ws a), names_first n ws g.2)

-- the first of some good names are good
pub good_first : (n : ℕ) (ws : List (List ℕ)) → good_names ws ≡ true → good_names (take n ws) ≡ true
good_first n ws h = good_i (take n ws) (names_first n ws (good_e ws h))

names_spaced : (ws : List (List ℕ)) → Names ws → length (spaced ws) ≤ 17 * length ws
unfolding spaced
names_spaced [] g = omega arith
names_spaced (w ∷ ws) g = omega (arith, length-append w (spaced ws), g.0.1, names_spaced ws g.2)

-- a name of at most 16 bytes, and a space before it
pub spaced_short : (ws : List (List ℕ)) → good_names ws ≡ true → length (spaced ws) ≤ 17 * length ws
spaced_short ws h = names_spaced ws (good_e ws h)
