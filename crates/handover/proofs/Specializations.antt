-- One more contact in a body is document 000's least specialization (definition 9), rule by rule.
use mathlib.Core.Path.{◌≡◌, sym, ap, ◌∙◌, subst}
use mathlib.Core.Logic.{◌⊎◌, inl, inr}
use mathlib.Core.Bool.{true}
use mathlib.Core.List.{Memᴰ as Mem}
use Prim.Native.Nat.{ℕ, ◌≤◌, ◌<◌}
use Rattle.panel.specs.Rules.{covers, Rule}
use Rattle.panel.specs.Contacts.{free, candidate}
use Rattle.panel.proofs.Candidates.{Added, added, free_must_on, free_must_off, free_i}
use Rattle.handover.specs.Document000.{Literal, pos, neg, atom_of, negated, Clause, True, Subsumes, SameRule, Inferred, Specializes, rule_of}
use Rattle.handover.proofs.Clauses.{pos_e, neg_e, pos_i, neg_i, covers_met}

-- two rules that specialize R over S by one literal are one rule
specializes_same : (R S T U : Clause) (l : Literal) → Specializes R S l T → Specializes R S l U → SameRule T U
specializes_same R S T U l a b = (one T U a b, one U T b a)
  where
    one : (A B : Clause) → Specializes R S l A → Specializes R S l B → Subsumes A B
    one A B x y = record { one_head = x.one_head ∙ sym y.one_head; within = λ k m. go k (x.nothing_else k m) }
      where
        go : (k : Literal) → Mem k R.b ⊎ (k ≡ negated l) → Mem k B.b
        go k (inl m) = y.keeps k m
        go k (inr e) = subst (λ (q : Literal). Mem q B.b) (sym e) y.adds

sides : {A B C D : Type 0} → A ⊎ B → (A → C) → (B → D) → C ⊎ D
sides (inl x) f g = inl (f x)
sides (inr y) f g = inr (g y)

-- ---- the literals of a rule c that has one contact more than w, on the atom of l, where l is true in i

module _ (n w i c : ℕ) where
  kept : (v : ℕ) → Added n w v i c → (k : Literal) → Mem k (rule_of w).b → Mem k (rule_of c).b
  kept v a (pos u) m = pos_i c u (a.must_on_keep u (pos_e w u m))
  kept v a (neg u) m = neg_i c u (a.must_off_keep u (neg_e w u m))

  new : (l : Literal) → Added n w (atom_of l) i c → True l i → Mem (negated l) (rule_of c).b
  new (pos v) a e = neg_i c v (a.must_off_new e)
  new (neg v) a e = pos_i c v (a.must_on_new e)

  old_or_new : (l k : Literal) → Added n w (atom_of l) i c → True l i → Mem k (rule_of c).b → Mem k (rule_of w).b ⊎ (k ≡ negated l)
  old_or_new (pos v) (pos u) a e m = sides (a.must_on_from u (pos_e c u m)) (pos_i w u) (λ q. absurd (q.1 e))
  old_or_new (pos v) (neg u) a e m = sides (a.must_off_from u (neg_e c u m)) (neg_i w u) (λ q. ap neg q.0)
  old_or_new (neg v) (pos u) a e m = sides (a.must_on_from u (pos_e c u m)) (pos_i w u) (λ q. ap pos q.0)
  old_or_new (neg v) (neg u) a e m = sides (a.must_off_from u (neg_e c u m)) (neg_i w u) (λ q. absurd (e q.1))

-- a free relay has no literal in the body
free_none : (w : ℕ) (l : Literal) → free (atom_of l) w ≡ true → Mem l (rule_of w).b → ⊥
free_none w (pos v) f m = free_must_on v w f (pos_e w v m)
free_none w (neg v) f m = free_must_off v w f (neg_e w v m)

-- and a relay is free if the body has neither the literal on it that is true in i, nor, covering i, the other one
none_free : (w i : ℕ) (l : Literal) → covers w i ≡ true → True l i → (Mem l (rule_of w).b → ⊥) → free (atom_of l) w ≡ true
none_free w i (pos v) c o f = free_i v w (λ q. f (pos_i w v q)) (λ q. covers_met w i c (neg v) (neg_i w v q) o)
none_free w i (neg v) c o f = free_i v w (λ q. o (covers_met w i c (pos v) (pos_i w v q))) (λ q. f (neg_i w v q))

-- ---- definition 9

module _ (n : ℕ) (small : n ≤ 10) (w i : ℕ) (r : Rule n w) (S : Clause) (s : Inferred n i S) where
  -- one more contact that disagrees with i, on a free relay: a rule of the least specialization
  pub candidate_specializes : (l : Literal) → atom_of l < n → free (atom_of l) w ≡ true → True l i → Specializes (rule_of w) S l (rule_of (candidate w (atom_of l) i))
  candidate_specializes l lv f e =
      let a = added n small w (atom_of l) r lv f i in
      record {
        in_S = s.each_atom l lv e;
        not_in_R = free_none w l f;
        one_head = a.one_head;
        keeps = kept n w i (candidate w (atom_of l) i) (atom_of l) a;
        adds = new n w i (candidate w (atom_of l) i) l a e;
        nothing_else = λ k m. old_or_new n w i (candidate w (atom_of l) i) l k a e m;
      }

  -- and every rule of the least specialization is such a rule
  pub specializes_candidate : covers w i ≡ true → (l : Literal) (T : Clause) → Specializes (rule_of w) S l T
      → (atom_of l < n) × (free (atom_of l) w ≡ true) × SameRule T (rule_of (candidate w (atom_of l) i))
  specializes_candidate c l T x =
      let lv = s.atom_in l x.in_S in
      let o = s.all_true l x.in_S in
      let f = none_free w i l c o x.not_in_R in
      (lv, f, specializes_same (rule_of w) S T (rule_of (candidate w (atom_of l) i)) l x (candidate_specializes l lv f o))
