-- Laws of stretches of bytes, and of two lists of bytes that are the same.
use Prim.Native.Nat.{ℕ, suc, ◌+◌, ◌-◌, ◌≤◌}
use mathlib.Core.Path.{◌≡◌, refl, sym, ◌∙◌, ap}
use mathlib.Core.List.{List, [], ◌∷◌}
use mathlib.Core.Bool.{Bool, true, false, cond, not, ◌&&◌}
use native.Mathlib.Omega.{arith}
use native.Mathlib.Nat.{add-sub_cancel_left}
use lib.Dec.{eqb}
use lib.ListN.{length, take, drop, length-drop}
use lib.Seq.{drop-drop, take_all}
use borrow.Author.Tests.{ltb-false}
use Rattle.std.specs.Prelude.{Option, Some, None, nat_eq, nat_lt}
use Rattle.std.specs.List.{position_or_len, position}
use Rattle.std.specs.Cmp.Lexicographic.{pointwise}
use Rattle.fields.specs.Bytes.{mark_of, is_in, run, same}
use Rattle.fields.specs.declared.Stretch.{Stretch}
use Rattle.fields.specs.declared.Stretch.TheVariants.{Gap, Field}

pub run_le : (k : Stretch) (s : List ℕ) → run k s ≤ length s
unfolding run
run_le k [] = omega arith
run_le k (b ∷ s) = go (is_in k (mark_of b)) (run_le k s)
  where
    go : (t : Bool) → run k s ≤ length s → cond t (suc (run k s)) 0 ≤ suc (length s)
    go true h = omega arith
    go false h = omega arith

-- a stretch ends at the first byte that does not belong to it
pub run_is : (k : Stretch) (s : List ℕ) → run k s ≡ position_or_len (λ b. not (is_in k (mark_of b))) s
unfolding run
run_is k [] = refl
run_is k (b ∷ s) = go (is_in k (mark_of b)) (run_is k s)
  where
    go : (t : Bool) → run k s ≡ position_or_len (λ b. not (is_in k (mark_of b))) s
        → cond t (suc (run k s)) 0 ≡ cond (not (not t)) (1 + position_or_len (λ b. not (is_in k (mark_of b))) s) 0
    go true h = rw h (omega arith)
    go false h = refl

-- where the search for that byte ends, behind the place `from`
module _ (k : Stretch) (s : List ℕ) (from : ℕ) (r : Option ℕ) (h : from ≤ length s)
    (at : r ≡ position (λ b. not (is_in k (mark_of b))) (take (length s - from) (drop from s))) where
  found : r ≡ cond (nat_lt (run k (drop from s)) (length (drop from s))) (Some (run k (drop from s))) None
  found = at ∙ rw (take_all (length s - from) (drop from s) (rw length-drop (omega arith)), ← run_is k (drop from s))

  pub run_some : (n : ℕ) → r ≡ Some n → (from + n ≡ from + run k (drop from s)) × (from + n ≤ length s)
  run_some n e = go (nat_lt (run k (drop from s)) (length (drop from s))) (sym e ∙ found)
    where
      go : (t : Bool) → Some n ≡ cond t (Some (run k (drop from s))) None → (from + n ≡ from + run k (drop from s)) × (from + n ≤ length s)
      go true f =
          let q : n ≡ run k (drop from s) = cc in
          (omega arith, omega (arith, run_le k (drop from s), length-drop from s))
      go false f = absurd cc

  pub run_none : r ≡ None → (length s ≡ from + run k (drop from s)) × (length s ≤ length s)
  run_none e = go (nat_lt (run k (drop from s)) (length (drop from s))) refl (sym e ∙ found)
    where
      go : (t : Bool) → nat_lt (run k (drop from s)) (length (drop from s)) ≡ t → None ≡ cond t (Some (run k (drop from s))) None
          → (length s ≡ from + run k (drop from s)) × (length s ≤ length s)
      go true q f = absurd cc
      go false q f = (omega (arith, run_le k (drop from s), length-drop from s, ltb-false (run k (drop from s)) (length (drop from s)) q), omega arith)

-- `==` on bytes is this test
pub same_is_eq : (a b : List ℕ) → same a b ≡ pointwise nat_eq a b
unfolding same
same_is_eq [] [] = refl
same_is_eq [] (y ∷ b) = refl
same_is_eq (x ∷ a) [] = refl
same_is_eq (x ∷ a) (y ∷ b) = go (eqb x y) (same_is_eq a b)
  where
    go : (t : Bool) → same a b ≡ pointwise nat_eq a b → cond t (same a b) false ≡ (t && pointwise nat_eq a b)
    go true h = h
    go false h = refl

-- what is left without the blanks in front; the field in front, and what follows it
unfoldable pub bare : List ℕ → List ℕ
bare s = drop (run Gap s) s

unfoldable pub field : List ℕ → List ℕ
field s = take (run Field s) s

unfoldable pub after : List ℕ → List ℕ
after s = drop (run Field s) s

-- a field between two places that the ends of stretches give
pub field_at_lem : (s : List ℕ) (a b : ℕ) → b ≡ a + run Field (drop a s) → take (b - a) (drop a s) ≡ field (drop a s)
unfolding field
field_at_lem s a b h = rw (h, add-sub_cancel_left)

pub after_at : (s : List ℕ) (a b : ℕ) → b ≡ a + run Field (drop a s) → after (drop a s) ≡ drop b s
unfolding after
after_at s a b h = drop-drop (run Field (drop a s)) a s ∙ ap (λ (n : ℕ). drop n s) (sym h)

pub bare_at : (s : List ℕ) (a b : ℕ) → b ≡ a + run Gap (drop a s) → bare (drop a s) ≡ drop b s
unfolding bare
bare_at s a b h = drop-drop (run Gap (drop a s)) a s ∙ ap (λ (n : ℕ). drop n s) (sym h)
