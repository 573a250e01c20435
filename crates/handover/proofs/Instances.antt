-- One instance of each premise of the theorems here: K2 and K3 divided, learned and joined as K11, a session that takes the same, and a state with its rule.
use mathlib.Core.Path.{◌≡◌, refl, sym, ap, subst}
use mathlib.Core.Logic.{◌⊎◌, inl, inr}
use mathlib.Core.Bool.{true, false≢true}
use mathlib.Core.List.Memᴰ
use mathlib.Core.List.Memᴰ.{head as here}
use mathlib.Core.List.Memᴰ.{tail as there}
use mathlib.Core.List.{List, [], ◌∷◌, Memᴰ as Mem}
use Prim.Native.Nat.{ℕ, zero, suc, ◌<◌}
use native.Mathlib.Omega.{arith}
use Rattle.table.specs.Lists.{has, missing}
use Rattle.table.specs.Surgery.{filled}
use Rattle.panel.specs.Contacts.{free, candidate}
use Rattle.panel.specs.Masks.{panel_size, relays, on, all_on, all_off, bits_where}
use Rattle.panel.specs.Rules.{rule_word, head, must_on, must_off, valid_rule, covers, contains, narrows, rules}
use Rattle.panel.specs.Transitions.{transition_word, state, next, observed, valid_transition, rests, spared}
use Rattle.panel.proofs.Words.{rule_e}
use Rattle.book.specs.Books.{good_book, differ, told, against, with_word, clash, union}
use Rattle.prime.specs.Sheets.{least, sheet_where, permits, good_sheet, fresh_sheet, take_sheet, join_sheet, struck_count, added_count, pulls_in, apply_sheet}
use Rattle.answers.specs.Answers.{plain, done}
use Rattle.answers.specs.declared.Answer.{Answer}
use Rattle.calls.specs.Fresh.{fresh_code, fresh_answer, fresh_words}
use Rattle.calls.specs.Take.{given_code, entry_code, take_code, take_answer, take_book, take_words}
use Rattle.learning.specs.Learn.{taken, learn_step, learn_words, learn_start, reproduced, learn_end, learn_run, run_answer, run_book, run_sheet, Learned}
use Rattle.joining.specs.Joining.{exceeds, pieces_code, join_code, join_answer, book_after, sheet_after, Joined}
use Rattle.sessions.specs.declared.Session.{Session}
use Rattle.sessions.specs.Sessions.{fresh_session, start_session, totals_fit, session_after, session_answer, session_taken, session_book, session_words, Starts, Takes}
use Rattle.sessions.proofs.Use.{used_fits}
use Rattle.lent.specs.Lent.{TakesLent}
use Rattle.handover.specs.Demands.{Left, piece_of, Complete, Learns, Same, Divided, Joins}
use Rattle.handover.specs.Document000.{Literal, pos, neg, atom_of, Clause, True, CompletePrime, Inferred, Specializes, SameRule, literals, rule_of, program_of}
use Rattle.handover.specs.Histories.{tables, by_value, lent, History, started, took, stayed}
use Rattle.handover.proofs.Demands.{pieces_whole}
use Rattle.handover.proofs.Document000.{learn_program}
use Rattle.handover.proofs.Specializations.{candidate_specializes, specializes_candidate}
use Rattle.handover.proofs.Histories.{session_taken_lem, session_used}
use Rattle.inner.specs.Booking.{booking_code, inner_code}

-- ---- the calls

abbrev outcome : List ℕ → List ℕ → Answer → Left
outcome book sheet a = record { book = book; sheet = sheet; answer = a }

-- "0 to 0" learned alone (K2), "1 to 0" learned alone, both joined (K11), and the whole learned (K3)
abbrev left : Left
left = outcome (0 ∷ []) (1024 ∷ []) (done 1 1 1 1)

abbrev right : Left
right = outcome (1024 ∷ []) (1 ∷ []) (done 1 1 1 1)

abbrev joined : Left
joined = outcome (0 ∷ 1024 ∷ 0 ∷ []) (0 ∷ []) (done 2 0 0 0)

abbrev whole : Left
whole = outcome (0 ∷ 1024 ∷ []) (0 ∷ []) (done 2 0 2 1)

-- a session after "0 to 0", and after "1 to 0" too
abbrev one_taken : Session
one_taken = record { n = 1; book_count = 1; sheet_count = 1; struck = 1; added = 1 }

abbrev both_taken : Session
both_taken = record { n = 1; book_count = 2; sheet_count = 0; struck = 2; added = 1 }

-- each call satisfies its contract
record Contracts : Type 0 where
  k2 : Learned 1 (transition_word 0 0 ∷ []) 1 1 left.book left.sheet left.answer
  one_to_zero : Learned 1 (transition_word 1 0 ∷ []) 1 1 right.book right.sheet right.answer
  k11 : Joined 1 (piece_of left) (piece_of right) (7 ∷ 7 ∷ 7 ∷ []) (7 ∷ []) joined.book joined.sheet joined.answer
  k3 : Learned 1 (transition_word 0 0 ∷ transition_word 1 0 ∷ []) 2 1 whole.book whole.sheet whole.answer
  start : Starts 1 (7 ∷ 7 ∷ []) (0 ∷ 0 ∷ []) (record { answer = plain 0 0 0 1; session = fresh_session 1 })
  first : Takes (fresh_session 1) (7 ∷ 7 ∷ []) (0 ∷ 0 ∷ []) 0 0 (0 ∷ 0 ∷ []) (1024 ∷ 0 ∷ []) (record { answer = done 1 1 1 1; session = one_taken })
  told : Takes one_taken (0 ∷ 0 ∷ []) (1024 ∷ 0 ∷ []) 0 0 (0 ∷ 0 ∷ []) (1024 ∷ 0 ∷ []) (record { answer = plain 1 0 1 1; session = one_taken })
  second : TakesLent one_taken (0 ∷ 0 ∷ []) (1024 ∷ 0 ∷ []) 1 0 both_taken (0 ∷ 1024 ∷ []) (0 ∷ 0 ∷ []) (done 2 0 1 0)
  refused : TakesLent both_taken (0 ∷ 1024 ∷ []) (0 ∷ 0 ∷ []) 0 1 both_taken (0 ∷ 1024 ∷ []) (0 ∷ 0 ∷ []) (plain 7 0 2 0)

contracts : Contracts
unfolding has missing filled panel_size relays on all_on all_off bits_where rule_word head must_on must_off valid_rule covers contains narrows rules transition_word state next observed valid_transition rests spared good_book differ told against with_word clash union least sheet_where permits good_sheet fresh_sheet take_sheet join_sheet struck_count added_count pulls_in apply_sheet fresh_code fresh_answer fresh_words given_code booking_code entry_code inner_code take_code take_answer take_book take_words taken learn_step learn_words learn_start reproduced learn_end learn_run run_answer run_book run_sheet exceeds pieces_code join_code join_answer book_after sheet_after start_session totals_fit session_after session_answer session_taken session_book session_words
contracts = record {
  k2 = record { answer = refl; book_words = refl; sheet_words = refl };
  one_to_zero = record { answer = refl; book_words = refl; sheet_words = refl };
  k11 = record { answer = refl; book_left = refl; sheet_left = refl };
  k3 = record { answer = refl; book_words = refl; sheet_words = refl };
  start = record { answer = refl; session = refl; words = refl };
  first = record { answer = refl; session = refl; book_words = refl; sheet_words = refl };
  told = record { answer = refl; session = refl; book_words = refl; sheet_words = refl };
  second = record { answer = refl; session = refl; book_words = refl; sheet_words = refl };
  refused = record { answer = refl; session = refl; book_words = refl; sheet_words = refl };
}

-- ---- demands 2 and 3

-- the whole "0 to 0, 1 to 0" is divided into its two words
pub divided : Divided (transition_word 0 0 ∷ transition_word 1 0 ∷ []) (transition_word 0 0 ∷ []) (transition_word 1 0 ∷ [])
divided = record {
  left_in = λ t m. go t (Memᴰ.cases_cons m);
  right_in = λ t m. there m;
  covered = λ t m. part t (Memᴰ.cases_cons m);
}
  where
    go : (t : ℕ) → (t ≡ transition_word 0 0) ⊎ Mem t [] → Mem t (transition_word 0 0 ∷ transition_word 1 0 ∷ [])
    go t (inl e) = here e
    go t (inr m) = there (there m)

    part : (t : ℕ) → (t ≡ transition_word 0 0) ⊎ Mem t (transition_word 1 0 ∷ []) → Mem t (transition_word 0 0 ∷ []) ⊎ Mem t (transition_word 1 0 ∷ [])
    part t (inl e) = inl (here e)
    part t (inr m) = inr m

-- K2 as a learn that was not refused
pub k2_learns : Learns 1 (transition_word 0 0 ∷ []) left
k2_learns = record { book_room = 1; sheet_room = 1; contract = contracts.k2; learned = refl }

-- K11 as a join that was not refused, of what K2 and the learn of "1 to 0" left
pub k11_joins : Joins 1 (piece_of left) (piece_of right) joined
k11_joins = record { book_before = 7 ∷ 7 ∷ 7 ∷ []; sheet_before = 7 ∷ []; contract = contracts.k11; joined = refl }

-- demand 3 of these: K11 and K3 agree, and both are complete
pub k11_k3 : Same joined whole
    × Complete 1 (transition_word 0 0 ∷ transition_word 1 0 ∷ []) (piece_of joined)
    × Complete 1 (transition_word 0 0 ∷ transition_word 1 0 ∷ []) (piece_of whole)
k11_k3 =
    pieces_whole 1 _ _ _ whole left right joined divided
    (record { book_room = 2; sheet_room = 1; contract = contracts.k3; learned = refl })
    k2_learns
    (record { book_room = 1; sheet_room = 1; contract = contracts.one_to_zero; learned = refl })
    k11_joins

-- a session: started, "0 to 0" taken, told again (1), "1 to 0" taken with the session lent, "0 to 1" refused (7)
pub history : History 1 (transition_word 1 0 ∷ transition_word 0 0 ∷ []) both_taken (0 ∷ 1024 ∷ []) (0 ∷ 0 ∷ [])
history =
    let begun = started (7 ∷ 7 ∷ []) (7 ∷ 7 ∷ []) (0 ∷ 0 ∷ []) _ contracts.start refl in
    let one = took _ _ _ _ _ _ _ 0 0 _ begun (by_value _ _ _ contracts.first) refl in
    let again = stayed _ _ _ _ _ _ _ 0 0 _ one (by_value _ _ _ contracts.told) (λ e. omega (arith, e)) in
    let both = took _ _ _ _ _ _ _ 1 0 _ again (lent _ _ _ _ contracts.second) refl in
    stayed _ _ _ _ _ _ _ 0 1 _ both (lent _ _ _ _ contracts.refused) (λ e. omega (arith, e))

-- demand 2 of it
pub history_complete : Complete 1 (transition_word 1 0 ∷ transition_word 0 0 ∷ []) (tables both_taken (0 ∷ 1024 ∷ []) (0 ∷ 0 ∷ []))
history_complete = session_taken_lem history

-- and its totals fit, so that it is not refused with 3
pub history_fits : totals_fit both_taken ≡ true
history_fits = used_fits both_taken (session_used history) (omega arith) (omega arith)

-- ---- document 000

-- K2's sheet is the complete prime program of "0 to 0"
pub k2_program : CompletePrime 1 (transition_word 0 0 ∷ []) (program_of (1024 ∷ []))
k2_program = learn_program 1 _ left k2_learns

-- the rule inferred from state 1 of two relays, relay 0 on and relay 1 off
abbrev rule_of_one : Clause
rule_of_one = record { h = 0; b = pos 0 ∷ neg 1 ∷ [] }

pub inferred : Inferred 2 1 rule_of_one
unfolding on
inferred = record { all_true = met; atom_in = atom; each_atom = each }
  where
    met : (l : Literal) → Mem l (pos 0 ∷ neg 1 ∷ []) → True l 1
    met l (here e) = subst (λ (k : Literal). True k 1) (sym e) refl
    met l (there (here e)) = subst (λ (k : Literal). True k 1) (sym e) false≢true
    met l (there (there m)) = absurd (Memᴰ.not-nil m)

    atom : (l : Literal) → Mem l (pos 0 ∷ neg 1 ∷ []) → atom_of l < 2
    atom l (here e) = omega (arith, ap atom_of e)
    atom l (there (here e)) = omega (arith, ap atom_of e)
    atom l (there (there m)) = absurd (Memᴰ.not-nil m)

    each : (l : Literal) → atom_of l < 2 → True l 1 → Mem l (pos 0 ∷ neg 1 ∷ [])
    each (pos zero) k o = here refl
    each (pos (suc zero)) k o = absurd (false≢true o)
    each (pos (suc (suc p))) k o = absurd (omega arith)
    each (neg zero) k o = absurd (o refl)
    each (neg (suc zero)) k o = there (here refl)
    each (neg (suc (suc p))) k o = absurd (omega arith)

-- definition 9 of it: the empty rule of head 0, specialized by "relay 0 on", gets the contact "relay 0 off"
abbrev rule_when_off : Clause
rule_when_off = record { h = 0; b = neg 0 ∷ [] }

pub specialized : Specializes (rule_of 0) rule_of_one (pos 0) rule_when_off
unfolding head must_on must_off on relays literals
specialized = record {
  in_S = here refl;
  not_in_R = λ m. Memᴰ.not-nil m;
  one_head = refl;
  keeps = λ k m. absurd (Memᴰ.not-nil m);
  adds = here refl;
  nothing_else = λ k m. inr (Memᴰ.eq_of_singleton m);
}

-- and that is the candidate of the empty rule on relay 0, and the other way round
pub specialized_candidate : SameRule rule_when_off (rule_of (candidate 0 0 1))
unfolding valid_rule covers head must_on must_off on all_on all_off relays
specialized_candidate = (specializes_candidate 2 (omega arith) 0 1 (rule_e 2 0 refl) rule_of_one inferred refl (pos 0) rule_when_off specialized).2

pub candidate_specialized : Specializes (rule_of 0) rule_of_one (pos 0) (rule_of (candidate 0 0 1))
unfolding valid_rule head must_on must_off on all_off relays free
candidate_specialized = candidate_specializes 2 (omega arith) 0 1 (rule_e 2 0 refl) rule_of_one inferred (pos 0) (omega arith) refl refl
