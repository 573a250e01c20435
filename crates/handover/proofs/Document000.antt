-- Document 000's definitions 4 to 7 and ours say the same, and what learn leaves is its complete prime program.
use mathlib.Core.Path.{◌≡◌, refl, sym, ap, ◌∙◌, subst}
use mathlib.Core.Bool.{true}
use mathlib.Core.List.Memᴰ.{head as here}
use mathlib.Core.List.Memᴰ.{tail as there}
use mathlib.Core.List.{List, [], ◌∷◌, Memᴰ as Mem}
use Prim.Native.Nat.{ℕ, ◌≤◌, ◌<◌}
use native.Mathlib.Nat.{lt_of_lt_of_le}
use Rattle.table.proofs.Basics.{passes}
use Rattle.panel.specs.Masks.{on}
use Rattle.panel.specs.Rules.{head, Rule}
use Rattle.panel.specs.Transitions.{state, next}
use Rattle.panel.proofs.Words.{rule_e, rule_i, narrows_antisym}
use Rattle.prime.specs.Sheets.{pulls_in, apply_sheet}
use Rattle.prime.proofs.Laws.{spared_e, spared_i, consistent_e, consistent_i}
use Rattle.prime.proofs.Apply.{consistent_covers, covers_consistent, pulls_in_e, pulls_in_i, apply_on, rests_e, rests_i, reproduces}
use Rattle.prime.specs.Primes.{Consistent, Prime}
use Rattle.handover.specs.Demands.{Left, piece_of, sheet_used, InUse, Learns}
use Rattle.handover.specs.Document000.{pos, neg, Clause, Met, Follows, Proper, Subsumes, SameRule, ConsistentWith, PrimeRule, CompletePrime, rule_of, program_of}
use Rattle.handover.proofs.Demands.{learn_complete, learns_small, learns_booked}
use Rattle.handover.proofs.Clauses.{covers_met, met_covers, contains_within, within_contains, subsumes_narrows, rule_proper, word_of, word_rule, word_same}

-- ---- consistency (definition 4)

pub consistent_with : (es : List ℕ) (w : ℕ) → head w < 10 → Consistent es w → ConsistentWith es (rule_of w)
consistent_with es w l f t m c =
    passes (on (head w) (next t)) (λ o. spared_e t w (consistent_e es w (covers_consistent es w f) m) (rests_i t (head w) l o) (met_covers w (state t) c))

pub with_consistent : (es : List ℕ) (w : ℕ) → ConsistentWith es (rule_of w) → Consistent es w
with_consistent es w f =
    consistent_covers es w (consistent_i es w (λ t m. spared_i t w (λ d c. rests_e t (head w) d (f t m (covers_met w (state t) c)))))

-- ---- one rule

subsumes_trans : (R S T : Clause) → Subsumes R S → Subsumes S T → Subsumes R T
subsumes_trans R S T a b = record { one_head = a.one_head ∙ b.one_head; within = λ l m. b.within l (a.within l m) }

-- what a rule says, a rule that it subsumes says too
consistent_subsumed : (es : List ℕ) (R S : Clause) → Subsumes R S → ConsistentWith es R → ConsistentWith es S
consistent_subsumed es R S a f t m c = subst (λ (p : ℕ). on p (next t) ≡ true) a.one_head (f t m (λ l k. c l (a.within l k)))

-- ---- prime rules (definitions 5 and 6)

module _ (n : ℕ) (small : n ≤ 10) where
  rule_few : (w : ℕ) → Rule n w → head w < 10
  rule_few w k = lt_of_lt_of_le k.head_lt small

  -- a rule that subsumes a proper rule is proper
  subsumes_proper : (R S : Clause) → Subsumes S R → Proper n R → Proper n S
  subsumes_proper R S a g = record {
    head_in = subst (λ (p : ℕ). p < n) (sym a.one_head) g.head_in;
    pos_in = λ p m. g.pos_in p (a.within (pos p) m);
    neg_in = λ p m. g.neg_in p (a.within (neg p) m);
    one_way = λ p x y. g.one_way p (a.within (pos p) x) (a.within (neg p) y);
  }

  -- a rule word is prime in our words exactly if its rule is a prime rule in the document's
  pub prime_rule : (es : List ℕ) (w : ℕ) → Prime n es w → PrimeRule es (rule_of w)
  prime_rule es w p = record {
    is_consistent = consistent_with es w (rule_few w k) p.is_consistent;
    no_other = λ S c a. other S c a (subsumes_proper (rule_of w) S a (rule_proper n small w k));
  }
    where
      k : Rule n w
      k = rule_e n w p.is_rule

      other : (S : Clause) → ConsistentWith es S → Subsumes S (rule_of w) → Proper n S → SameRule S (rule_of w)
      other S c a g =
          let r = word_of n small S g in
          let same = word_same n small S g in
          let into : Subsumes (rule_of r) (rule_of w) = subsumes_trans (rule_of r) S (rule_of w) same.1 a in
          let e : r ≡ w =
          p.no_other r (rule_i n r (word_rule n small S g)) into.one_head (within_contains w r into.within)
          (with_consistent es r (consistent_subsumed es S (rule_of r) same.0 c)) in
          subst (λ (x : ℕ). SameRule S (rule_of x)) e same

  pub rule_prime : (es : List ℕ) (w : ℕ) → Rule n w → PrimeRule es (rule_of w) → Prime n es w
  rule_prime es w k p = record {
    is_rule = rule_i n w k;
    is_consistent = with_consistent es w p.is_consistent;
    no_other = λ r v e c f.
        let s : Subsumes (rule_of r) (rule_of w) = record { one_head = e; within = contains_within w r c } in
        let q = p.no_other (rule_of r) (consistent_with es r (rule_few r (rule_e n r v)) f) s in
        narrows_antisym r w (subsumes_narrows r w q.1) (subsumes_narrows w r s);
  }

-- one rule written in two ways is prime both ways
prime_same : (es : List ℕ) (R S : Clause) → SameRule R S → PrimeRule es R → PrimeRule es S
prime_same es R S a p = record {
  is_consistent = consistent_subsumed es R S a.0 p.is_consistent;
  no_other = λ T c s.
      let k = p.no_other T c (subsumes_trans T S R s a.1) in
      (subsumes_trans T R S k.0 a.0, subsumes_trans S R T a.1 k.1);
}

-- ---- the complete prime program (definition 7)

program_e : (s : List ℕ) (R : Clause) → Mem R (program_of s) → (w : ℕ) × Mem w s × (R ≡ rule_of w)
program_e [] R m = elim m [ ]
program_e (w ∷ s) R (here e) = (w, here refl, e)
program_e (w ∷ s) R (there m) = let k = program_e s R m in (k.0, there k.1, k.2)

program_i : (w : ℕ) {s : List ℕ} → Mem w s → Mem (rule_of w) (program_of s)
program_i w (here e) = here (ap rule_of e)
program_i w (there m) = there (program_i w m)

-- T_P of a sheet is what apply computes
pub follows_pulls : (s : List ℕ) (i p : ℕ) → Follows (program_of s) i p → pulls_in s i p ≡ true
follows_pulls s i p f =
    let k = program_e s f.0 f.1 in
    pulls_in_i s i p k.0 k.1 (sym (ap (λ (R : Clause). R.h) k.2) ∙ f.2)
    (met_covers k.0 i (subst (λ (R : Clause). Met R.b i) k.2 f.3))

pub pulls_follows : (s : List ℕ) (i p : ℕ) → pulls_in s i p ≡ true → Follows (program_of s) i p
pulls_follows s i p e =
    let k = pulls_in_e s i p e in
    (rule_of k.0, program_i k.0 k.1, k.2, covers_met k.0 i k.3)

-- what a learn leaves is the complete prime program of its words
pub learn_program : (n : ℕ) (ts : List ℕ) (o : Left) → Learns n ts o → CompletePrime n ts (program_of (sheet_used o))
learn_program n ts o l = record {
  realizes = λ t m p k. (
    λ e. pulls_follows (sheet_used o) (state t) p (sym (pulled t m p k) ∙ e),
    λ f. pulled t m p k ∙ follows_pulls (sheet_used o) (state t) p f,
  );
  only_prime = λ R m.
      let k = program_e (sheet_used o) R m in
      let q = c.only_prime k.0 k.1 in
      subst (λ (S : Clause). Proper n S × PrimeRule ts S) (sym k.2) (rule_proper n small k.0 (rule_e n k.0 q.is_rule), prime_rule n small ts k.0 q);
  all_prime = λ R g p.
      let w = word_of n small R g in
      let same = word_same n small R g in (
        rule_of w,
        program_i w (c.all_prime w (rule_prime n small ts w (word_rule n small R g) (prime_same ts R (rule_of w) same p))),
        (same.1, same.0),
      );
}
  where
    small : n ≤ 10
    small = learns_small n ts o l

    c : InUse n ts (piece_of o)
    c = (learn_complete n ts o l).in_use

    pulled : (t : ℕ) → Mem t ts → (p : ℕ) → p < n → on p (next t) ≡ pulls_in (sheet_used o) (state t) p
    pulled t m p k =
        ap (on p) (sym (ap (λ (s : List ℕ). apply_sheet n s (state t)) c.is_sheet ∙ reproduces n small ts (learns_booked n ts o l) t m))
        ∙ apply_on n (sheet_used o) (state t) p k
