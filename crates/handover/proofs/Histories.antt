-- Demand 2 for a bench session, over the contracts of start and take and nothing else.
use mathlib.Core.Path.{◌≡◌, refl, sym, ap, ◌∙◌, subst}
use mathlib.Core.Bool.{not}
use mathlib.Core.List.{List, [], ◌∷◌, cons≢nil}
use Prim.Native.Nat.{ℕ, zero, suc, ◌+◌}
use native.Mathlib.Omega.{arith}
use lib.ListN.{length}
use Rattle.table.specs.Surgery.{filled}
use Rattle.panel.specs.Transitions.{transition_word}
use Rattle.prime.specs.Sheets.{fresh_sheet}
use Rattle.prime.proofs.Laws.{fresh_sheet_of}
use Rattle.book.proofs.BookOf.{book_none}
use Rattle.sheet.proofs.Fresh.{fresh_length}
use Rattle.answers.specs.Answers.{plain, if_done}
use Rattle.answers.specs.declared.Answer.{Answer}
use Rattle.calls.specs.Fresh.{fresh_code, fresh_answer, fresh_words}
use Rattle.calls.specs.Take.{Taken}
use Rattle.calls.proofs.Ends.{fresh_none}
use Rattle.joining.specs.Joining.{Piece}
use Rattle.sessions.specs.declared.Session.{Session}
use Rattle.sessions.specs.declared.Outcome.{Outcome}
use Rattle.sessions.specs.Sessions.{fresh_session, no_session, start_session, Starts, totals_fit, counted, session_after, session_answer, session_taken, session_book, session_words, Used, started as used-started, took as used-took}
use Rattle.sessions.proofs.Outcomes.{after_done, after_refused}
use Rattle.sessions.proofs.Use.{used_balanced}
use Rattle.lent.specs.Lent.{TakesLent}
use Rattle.lent.proofs.Laws.{lent_takes}
use Rattle.handover.specs.Demands.{ZeroFrom, InUse, Complete}
use Rattle.handover.specs.Histories.{tables, TakeThrough, by_value, lent, History, started, took, stayed}
use Rattle.handover.proofs.Demands.{used_is, count_in, rest_zero, in_use_of}
use Rattle.handover.proofs.Takes.{take_complete, take_kept, take_told}
use Rattle.answers.proofs.Laws.{if_done_lem}

-- ---- one take through a session

-- by value or lent, it says what the lent one says
as_lent : {s s' : Session} {book sheet book' sheet' : List ℕ} {i j : ℕ} {a : Answer} → TakeThrough s book sheet i j s' book' sheet' a → TakesLent s book sheet i j s' book' sheet' a
as_lent {s = s} {book = book} {sheet = sheet} {i = i} {j = j} (by_value book' sheet' r h) = lent_takes s book sheet i j book' sheet' r h
as_lent (lent s' book' sheet' a h) = h

module _ (s : Session) (book sheet : List ℕ) (i j : ℕ) (s' : Session) (book' sheet' : List ℕ) (a : Answer) (h : TakeThrough s book sheet i j s' book' sheet' a) where
  -- it is a take with the session's n and counts
  as_taken : Taken (not (totals_fit s)) s.n book s.book_count sheet s.sheet_count i j book' sheet' a
  unfolding session_answer session_book session_words
  as_taken = let k = as_lent h in record { answer = k.answer; book_words = k.book_words; sheet_words = k.sheet_words }

  session_is : s' ≡ session_after s a
  unfolding session_taken
  session_is = (as_lent h).session ∙ ap (session_after s) (sym (as_lent h).answer)

  through_size : s'.n ≡ s.n
  unfolding session_after
  through_size = ap (λ (q : Session). q.n) session_is ∙ picked a.code
    where
      picked : (c : ℕ) → (if_done c (counted s a) s).n ≡ s.n
      picked zero = refl
      picked (suc c) = refl

  -- done: from book and sheet of ts to the complete result for ts and the transition
  pub through_complete : (ts : List ℕ) → InUse s.n ts (tables s book sheet) → a.code ≡ 0 → Complete s.n (transition_word i j ∷ ts) (tables s' book' sheet')
  through_complete ts c z =
      subst (λ (q : Session). Complete s.n (transition_word i j ∷ ts) (tables q book' sheet')) (after_done s a z ∙ sym session_is)
      (take_complete (not (totals_fit s)) s.n book s.book_count sheet s.sheet_count i j book' sheet' a as_taken ts c z)

  -- refused or told: the session and both slices stay
  pub through_kept : (a.code ≡ 0 → ⊥) → (s' ≡ s) × (book' ≡ book) × (sheet' ≡ sheet)
  through_kept f =
      let p = take_kept (not (totals_fit s)) s.n book s.book_count sheet s.sheet_count i j book' sheet' a as_taken f in
      (session_is ∙ sym (after_refused s a f), ap (λ (q : Piece). q.book_words) p, ap (λ (q : Piece). q.sheet_words) p)

  -- told: what is in use is book and sheet of ts and the transition too
  pub through_told : (ts : List ℕ) → InUse s.n ts (tables s book sheet) → a.code ≡ 1 → InUse s.n (transition_word i j ∷ ts) (tables s book sheet)
  through_told ts c e =
      let k = take_told (not (totals_fit s)) s.n book s.book_count sheet s.sheet_count i j book' sheet' a as_taken ts c e in
      subst (InUse s.n (transition_word i j ∷ ts)) k.0 k.1

-- ---- a whole session

-- what holds of a session at every moment. The words beyond the book's count are 0 once a take is done, and before it where the caller lent zeros
record Going (n : ℕ) (ts : List ℕ) (s : Session) (book sheet : List ℕ) : Type 0 where
  size : s.n ≡ n
  in_use : InUse n ts (tables s book sheet)
  book_rest : (ts ≡ [] → ZeroFrom 0 book) → ZeroFrom s.book_count book
  sheet_rest : ZeroFrom s.sheet_count sheet

module _ (n : ℕ) (book sheet sheet' : List ℕ) (r : Outcome) (h : Starts n sheet sheet' r) (z : r.answer.code ≡ 0) where
  start_zero : fresh_code n (length sheet) ≡ 0
  unfolding fresh_answer
  start_zero = sym (picked (fresh_code n (length sheet))) ∙ sym (ap (λ (a : Answer). a.code) h.answer) ∙ z
    where
      picked : (c : ℕ) → (if_done c (plain 0 0 0 n) (plain c 0 0 0)).code ≡ c
      picked zero = refl
      picked (suc c) = refl

  start_session_lem : r.session ≡ fresh_session n
  unfolding start_session
  start_session_lem = h.session ∙ ap (λ (c : ℕ). if_done c (fresh_session n) no_session) start_zero

  start_words : sheet' ≡ filled (length sheet) (fresh_sheet n)
  unfolding fresh_words
  start_words = h.words ∙ if_done_lem (fresh_code n (length sheet)) _ _ start_zero

  going_start : Going n [] r.session book sheet'
  going_start =
      let small = (fresh_none n (length sheet) start_zero).0 in
      let count = sym (fresh_length n) in
      subst (λ (q : Session). Going n [] q book sheet') (sym start_session_lem) (record {
        size = refl;
        in_use =
            in_use_of n small [] (tables (fresh_session n) book sheet') (omega arith) (sym book_none)
            (count_in sheet' (fresh_sheet n) (length sheet) n start_words count) (used_is sheet' (fresh_sheet n) (length sheet) n start_words count ∙ fresh_sheet_of n small);
        book_rest = λ f. f refl;
        sheet_rest = rest_zero sheet' (fresh_sheet n) (length sheet) n start_words count;
      })

going : {n : ℕ} {ts : List ℕ} {s : Session} {book sheet : List ℕ} → History n ts s book sheet → Going n ts s book sheet
going {n = n} (started book sheet sheet' r h z) = going_start n book sheet sheet' r h z
going {n = n} (took ts s s' book sheet book' sheet' i j a g h z) = done (going g)
  where
    done : Going n ts s book sheet → Going n (transition_word i j ∷ ts) s' book' sheet'
    done l =
        let old : InUse s.n ts (tables s book sheet) = subst (λ (m : ℕ). InUse m ts (tables s book sheet)) (sym l.size) l.in_use in
        let new = subst (λ (m : ℕ). Complete m (transition_word i j ∷ ts) (tables s' book' sheet')) l.size (through_complete s book sheet i j s' book' sheet' a h ts old z) in
        record {
          size = through_size s book sheet i j s' book' sheet' a h ∙ l.size;
          in_use = new.in_use;
          book_rest = λ f. new.book_rest;
          sheet_rest = new.sheet_rest;
        }
going {n = n} (stayed ts s s' book sheet book' sheet' i j a g h f) = let k = through_kept s book sheet i j s' book' sheet' a h f in rw (k.0, k.1, k.2) (going g)

module _ {n : ℕ} {ts : List ℕ} {s : Session} {book sheet : List ℕ} (g : History n ts s book sheet) where
  -- at every moment what is in use is book and sheet of the transitions taken
  pub session_in_use : InUse n ts (tables s book sheet)
  session_in_use = (going g).in_use

  -- and the sheet's slice has 0 in every word beyond
  pub session_sheet_rest : ZeroFrom s.sheet_count sheet
  session_sheet_rest = (going g).sheet_rest

  -- demand 2 for a session: it holds the complete result for the transitions taken. As long as it has taken none, the book is as the caller lent it: there the caller must have lent zeros
  pub session_complete : (ts ≡ [] → ZeroFrom 0 book) → Complete n ts (tables s book sheet)
  session_complete f = record { in_use = session_in_use; book_rest = (going g).book_rest f; sheet_rest = session_sheet_rest }

-- once a transition is taken, nothing is asked of the caller
pub session_taken_lem : {n t : ℕ} {ts : List ℕ} {s : Session} {book sheet : List ℕ} → History n (t ∷ ts) s book sheet → Complete n (t ∷ ts) (tables s book sheet)
session_taken_lem g = session_complete g (λ e. absurd (cons≢nil e))

-- such a session was started and then only used through take, so its numbers balance
pub session_used : {n : ℕ} {ts : List ℕ} {s : Session} {book sheet : List ℕ} → History n ts s book sheet → Used s
session_used {n = n} (started book sheet sheet' r h z) = subst Used (sym h.session) (used-started n sheet)
session_used (took ts s s' book sheet book' sheet' i j a g h z) = subst Used (sym (as_lent h).session) (used-took s book sheet i j (session_used g))
session_used (stayed ts s s' book sheet book' sheet' i j a g h f) = subst Used (sym (as_lent h).session) (used-took s book sheet i j (session_used g))

pub session_counts : {n : ℕ} {ts : List ℕ} {s : Session} {book sheet : List ℕ} → History n ts s book sheet → s.sheet_count + s.struck ≡ n + s.added
session_counts {s = s} g = omega (arith, used_balanced s (session_used g), (going g).size)
