-- From head to head, for any test: the part of a sheet that belongs to a head, and all heads in turn.
use mathlib.Core.Path.{◌≡◌, refl, sym, ap, ap₂, ◌∙◌, subst}
use mathlib.Core.Bool.{Bool, true}
use mathlib.Core.List.{List, ◌++◌, Memᴰ as Mem}
use Prim.Native.Nat.{ℕ, ◌+◌, ◌*◌, ◌≤◌, ◌<◌}
use native.Mathlib.Omega.{arith}
use lib.ListN.{length, take, drop, length-append}
use Rattle.table.specs.Lists.{between}
use Rattle.table.proofs.Increasing.{increasing_unique}
use Rattle.table.proofs.Between.{between_none, between_whole, between_split}
use Rattle.panel.specs.Rules.{head, of_head}
use Rattle.panel.proofs.Words.{head_range, narrows_e}
use Rattle.panel.proofs.Stretches.{stretch_e, stretch_i, stretch_increasing}
use Rattle.prime.specs.Sheets.{sheet_where}
use Rattle.prime.proofs.Least.{Least, member_e, member_i, sheet_increasing}
use Rattle.spans.specs.Parts.{over, Laid}
use Rattle.spans.proofs.Overwriting.{over_over, over_length, laid}
use Rattle.spans.proofs.Walking.{Counted, Written}

-- ---- the part of one head

module _ (n : ℕ) (small : n ≤ 10) (h : ℕ) where
  least_head : (q q' : ℕ → Bool) → ((w : ℕ) → head w ≡ h → q w ≡ q' w) → (w : ℕ) → head w ≡ h → Least n q w → Least n q' w
  least_head q q' f w e l = record {
    holds = sym (f w e) ∙ l.holds;
    smallest = λ r k p t. l.smallest r k p (f r (sym (narrows_e w r p).one_head ∙ e) ∙ t);
  }

  same_stretch : (q q' : ℕ → Bool) → ((w : ℕ) → head w ≡ h → q w ≡ q' w) → (w : ℕ) → Mem w (of_head h (sheet_where n q)) → Mem w (of_head h (sheet_where n q'))
  same_stretch q q' f w m =
      let x = stretch_e h (sheet_where n q) w m in
      let k = member_e n small q w x.0 in
      stretch_i h (sheet_where n q') w (member_i n small q' w k.0 (least_head q q' f w x.1 k.1)) x.1

  -- tests that agree on the words of a head keep the same words of that head
  pub head_ext : (q q' : ℕ → Bool) → ((w : ℕ) → head w ≡ h → q w ≡ q' w) → of_head h (sheet_where n q) ≡ of_head h (sheet_where n q')
  head_ext q q' f =
      increasing_unique (of_head h (sheet_where n q)) (of_head h (sheet_where n q'))
      (stretch_increasing h (sheet_where n q) (sheet_increasing n small q)) (stretch_increasing h (sheet_where n q') (sheet_increasing n small q'))
      (λ w m. same_stretch q q' f w m) (λ w m. same_stretch q' q (λ v e. sym (f v e)) w m)

  -- a head with no word at which the test passes has nothing to keep
  pub head_none : (q : ℕ → Bool) → ((w : ℕ) → q w ≡ true → ⊥) → 0 ≡ length (of_head h (sheet_where n q))
  unfolding of_head
  head_none q f =
      ap length (sym (between_none (h * 1048576) ((h + 1) * 1048576) (sheet_where n q) (sheet_increasing n small q)
      (λ w m a b. f w (member_e n small q w m).1.holds)))

-- ---- from head to head

module _ (n : ℕ) (small : n ≤ 10) (q : ℕ → Bool) where
  below_all : between 0 (n * 1048576) (sheet_where n q) ≡ sheet_where n q
  below_all =
      between_whole 0 (n * 1048576) (sheet_where n q) (sheet_increasing n small q)
      (λ x m. (omega arith, omega (arith, (head_range (head x) x refl).1, (member_e n small q x m).0.head_lt)))

  next_head : (h : ℕ) → between 0 ((h + 1) * 1048576) (sheet_where n q) ≡ between 0 (h * 1048576) (sheet_where n q) ++ of_head h (sheet_where n q)
  unfolding of_head
  next_head h = between_split (sheet_where n q) (sheet_increasing n small q) 0 (h * 1048576) ((h + 1) * 1048576) (omega arith) (omega arith)

  -- found is the part of the head h, as the walk through the head gave it
  pub heads_more : (h k x : ℕ) (found : List ℕ) → found ≡ of_head h (sheet_where n q) → Counted (sheet_where n q) 0 (h * 1048576) k → x ≡ length found → x ≤ 1048576
      → Counted (sheet_where n q) 0 ((h + 1) * 1048576) (k + x)
  heads_more h k x found ef c e l = record {
    is = ap₂ (λ (i j : ℕ). i + j) c.is (e ∙ ap length ef) ∙ sym (length-append (between 0 (h * 1048576) (sheet_where n q)) (of_head h (sheet_where n q))) ∙ ap length (sym (next_head h));
    few = omega (arith, c.few);
  }

  pub heads_done : (h k : ℕ) → Counted (sheet_where n q) 0 (h * 1048576) k → h ≤ n → n ≤ h → k ≡ length (sheet_where n q)
  heads_done h k c a b =
      let e : h ≡ n = omega arith in
      subst (λ (x : ℕ). k ≡ length (between 0 (x * 1048576) (sheet_where n q))) e c.is ∙ ap length below_all

  module _ (h : ℕ) (l : h < n) (old cur : List ℕ) (at : ℕ) (c : Written (sheet_where n q) 0 (h * 1048576) old cur at) (room : length (sheet_where n q) ≤ length old)
      (found : List ℕ) (ef : found ≡ of_head h (sheet_where n q)) where
    part : length (between 0 ((h + 1) * 1048576) (sheet_where n q)) ≡ at + length found
    part =
        ap length (next_head h)
        ∙ length-append (between 0 (h * 1048576) (sheet_where n q)) (of_head h (sheet_where n q))
        ∙ ap₂ (λ (i j : ℕ). i + j) (sym c.place) (ap length (sym ef))

    pub heads_room : at + length found ≤ length cur
    heads_room =
        omega (
          arith,
          part,
          c.same,
          room,
          ap length below_all,
          ap length (between_split (sheet_where n q) (sheet_increasing n small q) 0 ((h + 1) * 1048576) (n * 1048576) (omega arith) (omega arith)),
          length-append (between 0 ((h + 1) * 1048576) (sheet_where n q)) (between ((h + 1) * 1048576) (n * 1048576) (sheet_where n q)),
        )

    pub heads_written : (new : List ℕ) (x : ℕ) → new ≡ take at cur ++ over found (drop at cur) → x ≡ length found → Written (sheet_where n q) 0 ((h + 1) * 1048576) old new (at + x)
    heads_written new x en ex =
        let f = heads_room in
        let e : new ≡ over (between 0 ((h + 1) * 1048576) (sheet_where n q)) old =
        en ∙ ap₂ (λ (i : ℕ) (t : List ℕ). take i t ++ over found (drop i t)) c.place c.is
        ∙ over_over (between 0 (h * 1048576) (sheet_where n q)) found old
        ∙ ap (λ (t : List ℕ). over t old) (ap (λ (t : List ℕ). between 0 (h * 1048576) (sheet_where n q) ++ t) ef ∙ sym (next_head h)) in
        record {
          is = e;
          place = ap (λ (i : ℕ). at + i) ex ∙ sym part;
          from = omega arith;
          same = ap length e ∙ over_length (between 0 ((h + 1) * 1048576) (sheet_where n q)) old (omega (arith, part, c.same));
          fits = omega (arith, c.same);
        }

  pub heads_laid : (h : ℕ) (old cur : List ℕ) (at : ℕ) → Written (sheet_where n q) 0 (h * 1048576) old cur at → length (sheet_where n q) ≤ length old → h ≤ n → n ≤ h
      → Laid old cur at (sheet_where n q)
  heads_laid h old cur at c room a b =
      let e : h ≡ n = omega arith in
      let d : between 0 (h * 1048576) (sheet_where n q) ≡ sheet_where n q = ap (λ (x : ℕ). between 0 (x * 1048576) (sheet_where n q)) e ∙ below_all in
      laid old cur (sheet_where n q) at (c.place ∙ ap length d) (c.is ∙ ap (λ (t : List ℕ). over t old) d) room
