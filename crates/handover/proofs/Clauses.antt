-- Rule words and the rules of document 000: covers, contains and narrows in its words, and the word of each of its rules.
use mathlib.Core.Path.{◌≡◌, refl, sym, ap, ap₂, ◌∙◌, subst}
use mathlib.Core.Logic.{◌⊎◌, inl, inr}
use mathlib.Core.Bool.{Bool, true, false, ◌||◌, false≢true}
use mathlib.Core.List.Memᴰ
use mathlib.Core.List.Memᴰ.{head as here}
use mathlib.Core.List.Memᴰ.{tail as there}
use mathlib.Core.List.{List, [], ◌∷◌, Memᴰ as Mem}
use Prim.Native.Nat.{ℕ, ◌^◌, ◌≤◌, ◌<◌}
use lib.Dec.{eqb}
use borrow.Author.Tests.{eqb-true, eq-eqb}
use Rattle.table.proofs.Basics.{and_l, and_r, and_i, or_e, or_l, or_r}
use Rattle.panel.specs.Masks.{on, relays, bits_where, within, apart}
use Rattle.panel.specs.Rules.{rule_word, head, must_on, must_off, covers, contains, narrows, Rule}
use Rattle.panel.proofs.Masks.{within_on, apart_on, on_within, on_apart, on_below, relays_i, bits_lt, bits_on}
use Rattle.panel.proofs.Words.{covers_e, covers_i, contains_masks, must_on_small, must_off_small, mask_small, head_word, must_on_word, must_off_word}
use Rattle.handover.specs.Document000.{Literal, pos, neg, atom_of, Clause, Met, Proper, Subsumes, SameRule, lit_if, literals, rule_of}

-- ---- the literals of a rule word

-- the literal stands in the body of w: its relay in P, or its relay in N
stands : ℕ → Literal → Bool
stands w (pos p) = on p (must_on w)
stands w (neg p) = on p (must_off w)

lit_e : (a : Bool) (l : Literal) (ls : List Literal) {k : Literal} → Mem k (lit_if a l ls) → ((k ≡ l) × (a ≡ true)) ⊎ Mem k ls
lit_e true l ls m = go (Memᴰ.cases_cons m)
  where
    go : {k : Literal} → (k ≡ l) ⊎ Mem k ls → ((k ≡ l) × (true ≡ true)) ⊎ Mem k ls
    go (inl e) = inl (e, refl)
    go (inr m) = inr m
lit_e false l ls m = inr m

lit_here : (a : Bool) (l : Literal) (ls : List Literal) {k : Literal} → k ≡ l → a ≡ true → Mem k (lit_if a l ls)
lit_here true l ls e h = here e
lit_here false l ls e h = absurd (false≢true h)

lit_there : (a : Bool) (l : Literal) (ls : List Literal) {k : Literal} → Mem k ls → Mem k (lit_if a l ls)
lit_there true l ls m = there m
lit_there false l ls m = m

literals_e : (vs : List ℕ) (w : ℕ) (l : Literal) → Mem l (literals vs w) → stands w l ≡ true
unfolding literals stands
literals_e [] w l m = absurd (Memᴰ.not-nil m)
literals_e (v ∷ vs) w l m = go (lit_e (on v (must_on w)) (pos v) (lit_if (on v (must_off w)) (neg v) (literals vs w)) m) (literals_e vs w l)
  where
    go₂ : ((l ≡ neg v) × (on v (must_off w) ≡ true)) ⊎ Mem l (literals vs w) → (Mem l (literals vs w) → stands w l ≡ true) → stands w l ≡ true
    go₂ (inl k) rec = ap (stands w) k.0 ∙ k.1
    go₂ (inr k) rec = rec k

    go : ((l ≡ pos v) × (on v (must_on w) ≡ true)) ⊎ Mem l (lit_if (on v (must_off w)) (neg v) (literals vs w)) → (Mem l (literals vs w) → stands w l ≡ true) → stands w l ≡ true
    go (inl k) rec = ap (stands w) k.0 ∙ k.1
    go (inr k) rec = go₂ (lit_e (on v (must_off w)) (neg v) (literals vs w) k) rec

literals_i : (w : ℕ) (l : Literal) {vs : List ℕ} → Mem (atom_of l) vs → stands w l ≡ true → Mem l (literals vs w)
unfolding literals stands
literals_i w (pos p) (here {x = v} {xs = vs} e) h = lit_here (on v (must_on w)) (pos v) _ (ap pos e) (subst (λ (x : ℕ). on x (must_on w) ≡ true) e h)
literals_i w (neg p) (here {x = v} {xs = vs} e) h = lit_there (on v (must_on w)) (pos v) _ (lit_here (on v (must_off w)) (neg v) _ (ap neg e) (subst (λ (x : ℕ). on x (must_off w) ≡ true) e h))
literals_i w (pos p) (there {x = v} {xs = vs} m) h = lit_there (on v (must_on w)) (pos v) _ (lit_there (on v (must_off w)) (neg v) _ (literals_i w (pos p) m h))
literals_i w (neg p) (there {x = v} {xs = vs} m) h = lit_there (on v (must_on w)) (pos v) _ (lit_there (on v (must_off w)) (neg v) _ (literals_i w (neg p) m h))

-- a relay that stands in a body is one of the ten
atom_few : (w : ℕ) (l : Literal) → stands w l ≡ true → atom_of l < 10
unfolding stands
atom_few w (pos p) h = on_below 10 (must_on w) p (must_on_small w) h
atom_few w (neg p) h = on_below 10 (must_off w) p (must_off_small w) h

literal_e : (w : ℕ) (l : Literal) → Mem l (rule_of w).b → stands w l ≡ true
literal_e w l m = literals_e relays w l m

literal_i : (w : ℕ) (l : Literal) → stands w l ≡ true → Mem l (rule_of w).b
literal_i w l h = literals_i w l (relays_i (atom_of l) (atom_few w l h)) h

pub pos_e : (w p : ℕ) → Mem (pos p) (rule_of w).b → on p (must_on w) ≡ true
unfolding stands
pos_e w p m = literal_e w (pos p) m

pub neg_e : (w p : ℕ) → Mem (neg p) (rule_of w).b → on p (must_off w) ≡ true
unfolding stands
neg_e w p m = literal_e w (neg p) m

pub pos_i : (w p : ℕ) → on p (must_on w) ≡ true → Mem (pos p) (rule_of w).b
unfolding stands
pos_i w p h = literal_i w (pos p) h

pub neg_i : (w p : ℕ) → on p (must_off w) ≡ true → Mem (neg p) (rule_of w).b
unfolding stands
neg_i w p h = literal_i w (neg p) h

-- ---- covers, contains and narrows, and the document's words for them

-- the body of w covers i exactly if the document's body is met in i
pub covers_met : (w i : ℕ) → covers w i ≡ true → Met (rule_of w).b i
covers_met w i c (pos p) m = within_on (must_on w) i p (covers_e w i c).must_on_on (pos_e w p m)
covers_met w i c (neg p) m = λ o. apart_on (must_off w) i p (covers_e w i c).must_off_off (neg_e w p m) o

pub met_covers : (w i : ℕ) → Met (rule_of w).b i → covers w i ≡ true
met_covers w i f = covers_i w i (record {
  must_on_on = on_within 10 (must_on w) i (must_on_small w) (λ v l o. f (pos v) (pos_i w v o));
  must_off_off = on_apart 10 (must_off w) i (must_off_small w) (λ v l o q. f (neg v) (neg_i w v o) q);
})

-- the body of w contains that of r exactly if b(r) ⊆ b(w)
pub contains_within : (w r : ℕ) → contains w r ≡ true → (l : Literal) → Mem l (rule_of r).b → Mem l (rule_of w).b
contains_within w r c (pos p) m =
    pos_i w p (within_on (must_on r) (must_on w) p (and_l (within (must_on r) (must_on w)) (within (must_off r) (must_off w)) (sym (contains_masks w r) ∙ c)) (pos_e r p m))
contains_within w r c (neg p) m =
    neg_i w p (within_on (must_off r) (must_off w) p (and_r (within (must_on r) (must_on w)) (within (must_off r) (must_off w)) (sym (contains_masks w r) ∙ c)) (neg_e r p m))

pub within_contains : (w r : ℕ) → ((l : Literal) → Mem l (rule_of r).b → Mem l (rule_of w).b) → contains w r ≡ true
within_contains w r f =
    contains_masks w r
    ∙ and_i (within (must_on r) (must_on w)) (within (must_off r) (must_off w))
    (on_within 10 (must_on r) (must_on w) (must_on_small r) (λ v l o. pos_e w v (f (pos v) (pos_i r v o))))
    (on_within 10 (must_off r) (must_off w) (must_off_small r) (λ v l o. neg_e w v (f (neg v) (neg_i r v o))))

-- w narrows r exactly if the rule of r subsumes the rule of w (definition 1)
pub narrows_subsumes : (w r : ℕ) → narrows w r ≡ true → Subsumes (rule_of r) (rule_of w)
unfolding narrows
narrows_subsumes w r e = record {
  one_head = sym (eqb-true (head w) (head r) (and_l (eqb (head w) (head r)) (contains w r) e));
  within = contains_within w r (and_r (eqb (head w) (head r)) (contains w r) e);
}

pub subsumes_narrows : (w r : ℕ) → Subsumes (rule_of r) (rule_of w) → narrows w r ≡ true
unfolding narrows
subsumes_narrows w r s = and_i (eqb (head w) (head r)) (contains w r) (eq-eqb (head w) (head r) (sym s.one_head)) (within_contains w r s.within)

-- ---- the word of a rule of the document

same_lit : Literal → Literal → Bool
same_lit (pos p) (pos q) = eqb p q
same_lit (pos p) (neg q) = false
same_lit (neg p) (pos q) = false
same_lit (neg p) (neg q) = eqb p q

has_lit : Literal → List Literal → Bool
has_lit l [] = false
has_lit l (k ∷ ks) = same_lit l k || has_lit l ks

same_e : (l k : Literal) → same_lit l k ≡ true → l ≡ k
unfolding same_lit
same_e (pos p) (pos q) e = ap pos (eqb-true p q e)
same_e (pos p) (neg q) e = absurd (false≢true e)
same_e (neg p) (pos q) e = absurd (false≢true e)
same_e (neg p) (neg q) e = ap neg (eqb-true p q e)

same_refl : (l : Literal) → same_lit l l ≡ true
unfolding same_lit
same_refl (pos p) = eq-eqb p p refl
same_refl (neg p) = eq-eqb p p refl

has_lit_e : (l : Literal) (ls : List Literal) → has_lit l ls ≡ true → Mem l ls
unfolding has_lit
has_lit_e l [] e = absurd (false≢true e)
has_lit_e l (k ∷ ks) e = go (or_e (same_lit l k) (has_lit l ks) e) (has_lit_e l ks)
  where
    go : (same_lit l k ≡ true) ⊎ (has_lit l ks ≡ true) → (has_lit l ks ≡ true → Mem l ks) → Mem l (k ∷ ks)
    go (inl h) rec = here (same_e l k h)
    go (inr h) rec = there (rec h)

has_lit_i : (l : Literal) {ls : List Literal} → Mem l ls → has_lit l ls ≡ true
unfolding has_lit
has_lit_i l (here {x = k} {xs = ks} e) = or_l (same_lit l k) (has_lit l ks) (subst (λ (x : Literal). same_lit l x ≡ true) e (same_refl l))
has_lit_i l (there {x = k} {xs = ks} m) = or_r (same_lit l k) (has_lit l ks) (has_lit_i l m)

module _ (n : ℕ) (small : n ≤ 10) where
  -- a rule word of the panel is a proper rule
  pub rule_proper : (w : ℕ) → Rule n w → Proper n (rule_of w)
  rule_proper w k = record {
    head_in = k.head_lt;
    pos_in = λ p m. on_below n (must_on w) p k.must_on_lt (pos_e w p m);
    neg_in = λ p m. on_below n (must_off w) p k.must_off_lt (neg_e w p m);
    one_way = λ p a b. apart_on (must_on w) (must_off w) p k.disjoint (pos_e w p a) (neg_e w p b);
  }

  module _ (R : Clause) (g : Proper n R) where
    ons : ℕ
    ons = bits_where n (λ v. has_lit (pos v) R.b)

    offs : ℕ
    offs = bits_where n (λ v. has_lit (neg v) R.b)

    pub word_of : ℕ
    word_of = rule_word R.h ons offs

    ons_lt : ons < 2 ^ n
    unfolding ons
    ons_lt = bits_lt n (λ v. has_lit (pos v) R.b)

    offs_lt : offs < 2 ^ n
    unfolding offs
    offs_lt = bits_lt n (λ v. has_lit (neg v) R.b)

    ons_is : (p : ℕ) → p < n → on p ons ≡ has_lit (pos p) R.b
    unfolding ons
    ons_is p l = bits_on n (λ v. has_lit (pos v) R.b) p l

    offs_is : (p : ℕ) → p < n → on p offs ≡ has_lit (neg p) R.b
    unfolding offs
    offs_is p l = bits_on n (λ v. has_lit (neg v) R.b) p l

    head_is : head word_of ≡ R.h
    unfolding word_of
    head_is = head_word R.h ons offs (mask_small n small ons_lt) (mask_small n small offs_lt)

    must_on_is : must_on word_of ≡ ons
    unfolding word_of
    must_on_is = must_on_word R.h ons offs (mask_small n small ons_lt) (mask_small n small offs_lt)

    must_off_is : must_off word_of ≡ offs
    unfolding word_of
    must_off_is = must_off_word R.h ons offs (mask_small n small ons_lt) (mask_small n small offs_lt)

    pub word_rule : Rule n word_of
    word_rule = record {
      head_lt = rw head_is g.head_in;
      must_on_lt = rw must_on_is ons_lt;
      must_off_lt = rw must_off_is offs_lt;
      disjoint =
          ap₂ apart must_on_is must_off_is
          ∙ on_apart n ons offs ons_lt (λ v l p q. g.one_way v (has_lit_e (pos v) R.b (sym (ons_is v l) ∙ p)) (has_lit_e (neg v) R.b (sym (offs_is v l) ∙ q)));
    }

    word_in : (l : Literal) → Mem l R.b → Mem l (rule_of word_of).b
    word_in (pos p) m = pos_i word_of p (ap (on p) must_on_is ∙ ons_is p (g.pos_in p m) ∙ has_lit_i (pos p) m)
    word_in (neg p) m = neg_i word_of p (ap (on p) must_off_is ∙ offs_is p (g.neg_in p m) ∙ has_lit_i (neg p) m)

    word_out : (l : Literal) → Mem l (rule_of word_of).b → Mem l R.b
    word_out (pos p) m =
        let o : on p ons ≡ true = sym (ap (on p) must_on_is) ∙ pos_e word_of p m in
        has_lit_e (pos p) R.b (sym (ons_is p (on_below n ons p ons_lt o)) ∙ o)
    word_out (neg p) m =
        let o : on p offs ≡ true = sym (ap (on p) must_off_is) ∙ neg_e word_of p m in
        has_lit_e (neg p) R.b (sym (offs_is p (on_below n offs p offs_lt o)) ∙ o)

    pub word_same : SameRule R (rule_of word_of)
    word_same = (record { one_head = sym head_is; within = word_in }, record { one_head = head_is; within = word_out })
