-- No definition of learning is empty: a list that nothing stops, and one for each refusal, by the bench examples and a few lists like them.
use mathlib.Core.Path.{refl}
use mathlib.Core.List.{List, [], ◌∷◌}
use Prim.Native.Nat.{ℕ}
use native.Mathlib.Omega.{arith}
use Rattle.table.specs.Lists.{has, missing}
use Rattle.table.specs.Surgery.{filled}
use Rattle.panel.specs.Masks.{panel_size, relays, on, all_on, all_off, bits_where}
use Rattle.panel.specs.Rules.{rule_word, head, must_on, must_off, valid_rule, covers, contains, narrows, rules}
use Rattle.panel.specs.Transitions.{transition_word, state, next, observed, valid_transition, rests, spared}
use Rattle.book.specs.Books.{good_book, differ, told, against, with_word}
use Rattle.prime.specs.Sheets.{least, sheet_where, permits, good_sheet, fresh_sheet, take_sheet, struck_count, added_count, pulls_in, apply_sheet}
use Rattle.learning.specs.Learn.{taken, learn_step, learn_words, learn_start, reproduced, learn_end, learn_run, run_answer, run_book, run_sheet, Learned}
use Rattle.handover.specs.Learning.{Learnable, LearnRefused}
use Rattle.handover.proofs.Learning.{learned_exactly, refused_exactly}

-- what learn does is its contract's one result
does : (n : ℕ) (ts : List ℕ) (bookRoom sheetRoom : ℕ)
    → Learned n ts bookRoom sheetRoom (run_book bookRoom (learn_run n bookRoom sheetRoom ts)) (run_sheet sheetRoom (learn_run n bookRoom sheetRoom ts)) (run_answer (learn_run n bookRoom sheetRoom ts))
does n ts bookRoom sheetRoom = record { answer = refl; book_words = refl; sheet_words = refl }

-- three lists that nothing stops, and one or two for each refusal
pub record Instances : Type 0 where
  -- K6 in room 4
  pub k6 : Learnable 2 (transition_word 3 0 ∷ []) 1 4
  -- K8 in room 6
  pub k8 : Learnable 3 (transition_word 7 3 ∷ transition_word 3 1 ∷ []) 2 6
  -- K5: a repeat, in a book that is full
  pub k5 : Learnable 1 (transition_word 0 1 ∷ transition_word 0 1 ∷ []) 1 1
  -- 11 relays
  pub eleven_relays : LearnRefused 11 [] 0 11 2 0
  -- no room for the fresh sheet
  pub no_fresh_sheet : LearnRefused 2 [] 0 1 9 0
  -- a state 2 at n = 1
  pub state_two : LearnRefused 1 (transition_word 0 1 ∷ transition_word 2 0 ∷ []) 2 2 6 1
  -- K4
  pub k4 : LearnRefused 1 (transition_word 0 0 ∷ transition_word 0 1 ∷ []) 2 2 7 1
  -- K3 in a book of one word
  pub k3_book_full : LearnRefused 1 (transition_word 0 0 ∷ transition_word 1 0 ∷ []) 1 1 8 1
  -- K6 in room 3
  pub k6_sheet_full : LearnRefused 2 (transition_word 3 0 ∷ []) 1 3 9 0
  -- K8 in room 5
  pub k8_sheet_full : LearnRefused 3 (transition_word 7 3 ∷ transition_word 3 1 ∷ []) 2 5 9 1

pub instances : Instances
unfolding has missing filled panel_size relays on all_on all_off bits_where rule_word head must_on must_off valid_rule covers contains narrows rules transition_word state next observed valid_transition rests spared good_book differ told against with_word least sheet_where permits good_sheet fresh_sheet take_sheet struck_count added_count pulls_in apply_sheet taken learn_step learn_words learn_start reproduced learn_end learn_run run_answer
instances = record {
  k6 = (learned_exactly (does 2 (transition_word 3 0 ∷ []) 1 4)).0 refl;
  k8 = (learned_exactly (does 3 (transition_word 7 3 ∷ transition_word 3 1 ∷ []) 2 6)).0 refl;
  k5 = (learned_exactly (does 1 (transition_word 0 1 ∷ transition_word 0 1 ∷ []) 1 1)).0 refl;
  eleven_relays = (refused_exactly (does 11 [] 0 11) 2 0 (λ e. omega (arith, e))).0 (refl, refl);
  no_fresh_sheet = (refused_exactly (does 2 [] 0 1) 9 0 (λ e. omega (arith, e))).0 (refl, refl);
  state_two = (refused_exactly (does 1 (transition_word 0 1 ∷ transition_word 2 0 ∷ []) 2 2) 6 1 (λ e. omega (arith, e))).0 (refl, refl);
  k4 = (refused_exactly (does 1 (transition_word 0 0 ∷ transition_word 0 1 ∷ []) 2 2) 7 1 (λ e. omega (arith, e))).0 (refl, refl);
  k3_book_full = (refused_exactly (does 1 (transition_word 0 0 ∷ transition_word 1 0 ∷ []) 1 1) 8 1 (λ e. omega (arith, e))).0 (refl, refl);
  k6_sheet_full = (refused_exactly (does 2 (transition_word 3 0 ∷ []) 1 3) 9 0 (λ e. omega (arith, e))).0 (refl, refl);
  k8_sheet_full = (refused_exactly (does 3 (transition_word 7 3 ∷ transition_word 3 1 ∷ []) 2 5) 9 1 (λ e. omega (arith, e))).0 (refl, refl);
}
