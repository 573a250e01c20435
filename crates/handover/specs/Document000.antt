-- Definitions 1, 4 to 7 and 9 of document 000 in its own words; an atom is a relay, an interpretation a state (the set of relays that are on), E a list of transition words.
use Rattle.std.specs.Prelude.{◌≡◌, ◌⊎◌, Bool, true, false, ℕ, ◌<◌}
use mathlib.Core.List.{List, [], ◌∷◌, Memᴰ as Mem}
use Rattle.panel.specs.Masks.{on, relays}
use Rattle.panel.specs.Rules.{head, must_on, must_off}
use Rattle.panel.specs.Transitions.{state, next}

-- ---- rules (1) and the immediate consequence operator (2)

-- an atom, or the negation of an atom
pub data Literal : Type 0 where
  pos : (atom : ℕ) → Literal
  neg : (atom : ℕ) → Literal

abbrev pub atom_of : Literal → ℕ
atom_of (pos p) = p
atom_of (neg p) = p

-- a rule R: its head h(R), and b(R), the literals in its body
pub record Clause : Type 0 where
  pub h : ℕ
  pub b : List Literal

-- the literal is true in the interpretation i
abbrev pub True : Literal → ℕ → Type 0
True (pos p) i = on p i ≡ true
True (neg p) i = on p i ≡ true → ⊥

-- the document's b ⊆ I: every literal of b is true in I
abbrev pub Met : List Literal → ℕ → Type 0
Met b i = (l : Literal) → Mem l b → True l i

-- p is in T_P(I): it is the head of a rule of P whose body is met in I
abbrev pub Follows : List Clause → ℕ → ℕ → Type 0
Follows ps i p = (R : Clause) × Mem R ps × (R.h ≡ p) × Met R.b i

-- a rule over the n atoms of the panel; as document 01 says, no atom stands in a body both ways
pub record Proper (n : ℕ) (R : Clause) : Type 0 where
  pub head_in : R.h < n
  pub pos_in : (p : ℕ) → Mem (pos p) R.b → p < n
  pub neg_in : (p : ℕ) → Mem (neg p) R.b → p < n
  pub one_way : (p : ℕ) → Mem (pos p) R.b → Mem (neg p) R.b → ⊥

-- ---- the definitions

-- definition 1: R subsumes S
pub record Subsumes (R S : Clause) : Type 0 where
  pub one_head : R.h ≡ S.h
  pub within : (l : Literal) → Mem l R.b → Mem l S.b

-- one rule: one head, and the same set of literals
abbrev pub SameRule : Clause → Clause → Type 0
SameRule R S = Subsumes R S × Subsumes S R

-- definition 4: for all (I, J) in E, when b(R) ⊆ I then h(R) is in J
abbrev pub ConsistentWith : List ℕ → Clause → Type 0
ConsistentWith es R = (t : ℕ) → Mem t es → Met R.b (state t) → on R.h (next t) ≡ true

-- definitions 5 and 6: R is consistent with E, and no other rule that is consistent with E subsumes R
pub record PrimeRule (es : List ℕ) (R : Clause) : Type 0 where
  pub is_consistent : ConsistentWith es R
  pub no_other : (S : Clause) → ConsistentWith es S → Subsumes S R → SameRule S R

-- P realizes E: T_P(I) is J for all (I, J) in E
abbrev pub Realizes : ℕ → List ℕ → List Clause → Type 0
Realizes n es ps = (t : ℕ) → Mem t es → (p : ℕ) → p < n → (on p (next t) ≡ true → Follows ps (state t) p) × (Follows ps (state t) p → on p (next t) ≡ true)

-- definition 7: P realizes E, all its rules are prime rules of E, and it has all of them
pub record CompletePrime (n : ℕ) (es : List ℕ) (ps : List Clause) : Type 0 where
  pub realizes : Realizes n es ps
  pub only_prime : (R : Clause) → Mem R ps → Proper n R × PrimeRule es R
  pub all_prime : (R : Clause) → Proper n R → PrimeRule es R → (S : Clause) × Mem S ps × SameRule S R

-- ---- least specialization

abbrev pub negated : Literal → Literal
negated (pos p) = neg p
negated (neg p) = pos p

-- the rule that is inferred from the state i: its body has each of the n atoms as it is in i
pub record Inferred (n i : ℕ) (S : Clause) : Type 0 where
  pub all_true : Met S.b i
  pub atom_in : (l : Literal) → Mem l S.b → atom_of l < n
  pub each_atom : (l : Literal) → atom_of l < n → True l i → Mem l S.b

-- definition 9: T is the rule h(R) ← b(R) ∧ ¬l of the least specialization of R over S, l being in b(S) and not in b(R)
pub record Specializes (R S : Clause) (l : Literal) (T : Clause) : Type 0 where
  pub in_S : Mem l S.b
  pub not_in_R : Mem l R.b → ⊥
  pub one_head : T.h ≡ R.h
  pub keeps : (k : Literal) → Mem k R.b → Mem k T.b
  pub adds : Mem (negated l) T.b
  pub nothing_else : (k : Literal) → Mem k T.b → Mem k R.b ⊎ (k ≡ negated l)

-- ---- rule words as rules of the document

abbrev pub lit_if : Bool → Literal → List Literal → List Literal
lit_if true l ls = l ∷ ls
lit_if false l ls = ls

-- the literals of a body on the relays vs: the relay where it must be on, its negation where it must be off
unfoldable pub literals : List ℕ → ℕ → List Literal
literals [] w = []
literals (v ∷ vs) w = lit_if (on v (must_on w)) (pos v) (lit_if (on v (must_off w)) (neg v) (literals vs w))

-- the rule that a rule word stands for
abbrev pub rule_of : ℕ → Clause
rule_of w = record { h = head w; b = literals relays w }

-- the program that a sheet stands for
abbrev pub program_of : List ℕ → List Clause
program_of [] = []
program_of (w ∷ s) = rule_of w ∷ program_of s
