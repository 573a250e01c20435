-- What start, take and the step after an answer leave, refused or done; and that two outcomes of one call are the same.
use mathlib.Core.Path.{◌≡◌, refl, sym, ap, ◌∙◌}
use mathlib.Core.Bool.{Bool, not}
use mathlib.Core.List.{List}
use Prim.Native.Nat.{ℕ, zero, suc}
use native.Mathlib.Omega.{arith}
use lib.ListN.{length}
use Rattle.answers.specs.Answers.{plain, if_done}
use Rattle.answers.specs.declared.Answer.{Answer}
use Rattle.calls.specs.Fresh.{fresh_code, fresh_answer, Fresh}
use Rattle.calls.specs.Take.{Taken}
use Rattle.sessions.specs.declared.Session.{Session}
use Rattle.sessions.specs.declared.Outcome.{Outcome}
use Rattle.sessions.specs.Sessions.{no_session, fresh_session, start_session, Starts, totals_fit, counted, session_after, Summable, session_answer, session_taken, session_book, session_words, Takes}
use Rattle.sessions.proofs.Totals.{fit_struck, fit_added}
use Rattle.sessions.proofs.Taking.{totals_fitted, few_struck, few_added}
use Rattle.answers.proofs.Laws.{if_refused, if_done_lem}

-- ---- start

-- the session that `default` gives
pub zeros : (s : Session) → (s.n ≡ 0) × ((s.book_count ≡ 0) × ((s.sheet_count ≡ 0) × ((s.struck ≡ 0) × (s.added ≡ 0)))) → s ≡ no_session
zeros s e = λ x. record { n = e.0 x; book_count = e.1.0 x; sheet_count = e.1.1.0 x; struck = e.1.1.1.0 x; added = e.1.1.1.1 x }

module _ (n : ℕ) (sheet sheet' : List ℕ) (a : Answer) (h : Fresh n sheet sheet' a) where
  code_is : a.code ≡ fresh_code n (length sheet)
  unfolding fresh_answer
  code_is = ap (λ (x : Answer). x.code) h.answer ∙ picked (fresh_code n (length sheet))
    where
      picked : (c : ℕ) → (if_done c (plain 0 0 0 n) (plain c 0 0 0)).code ≡ c
      picked zero = refl
      picked (suc c) = refl

  pub start_refused : (a.code ≡ 0 → ⊥) → (t : Session) → t ≡ no_session → Starts n sheet sheet' (record { answer = a; session = t })
  unfolding start_session
  start_refused f t et = record {
    answer = h.answer;
    session = et ∙ sym (if_refused (fresh_code n (length sheet)) (fresh_session n) no_session (λ e. f (code_is ∙ e)));
    words = h.words;
  }

  pub start_done : a.code ≡ 0 → (t : Session) → t ≡ fresh_session n → Starts n sheet sheet' (record { answer = a; session = t })
  unfolding start_session
  start_done e t et = record {
    answer = h.answer;
    session = et ∙ sym (if_done_lem (fresh_code n (length sheet)) (fresh_session n) no_session (sym code_is ∙ e));
    words = h.words;
  }

-- ---- the session after an answer

pub after_done : (s : Session) (a : Answer) → a.code ≡ 0 → counted s a ≡ session_after s a
unfolding session_after
after_done s a e = sym (if_done_lem a.code (counted s a) s e)

pub after_refused : (s : Session) (a : Answer) → (a.code ≡ 0 → ⊥) → s ≡ session_after s a
unfolding session_after
after_refused s a f = sym (if_refused a.code (counted s a) s f)

-- ---- take

module _ (s : Session) (book sheet : List ℕ) (i j : ℕ) where
  -- the totals after a done take are small
  pub answer_summable : Summable s (session_answer s book sheet i j)
  answer_summable = record {
    struck_few = λ z. omega (arith, few_struck s book sheet i j z, fit_struck s (totals_fitted s book sheet i j z));
    added_few = λ z. omega (arith, few_added s book sheet i j z, fit_added s (totals_fitted s book sheet i j z));
  }

  module _ (fit : Bool) (ef : fit ≡ totals_fit s) (book' sheet' : List ℕ) (a : Answer) (h : Taken (not fit) s.n book s.book_count sheet s.sheet_count i j book' sheet' a) where
    same_taken : Taken (not (totals_fit s)) s.n book s.book_count sheet s.sheet_count i j book' sheet' a
    same_taken = rw (ef) at h

    taken_answer : a ≡ session_answer s book sheet i j
    unfolding session_answer
    taken_answer = same_taken.answer

    pub take_summable : Summable s a
    take_summable = rw taken_answer answer_summable

    pub take_outcome : (t : Session) → t ≡ session_after s a → Takes s book sheet i j book' sheet' (record { answer = a; session = t })
    unfolding session_taken session_book session_words
    take_outcome t et = record {
      answer = taken_answer;
      session = et ∙ ap (session_after s) taken_answer;
      book_words = same_taken.book_words;
      sheet_words = same_taken.sheet_words;
    }

-- ---- determinacy

same_outcome : (r r' : Outcome) → r.answer ≡ r'.answer → r.session ≡ r'.session → r ≡ r'
same_outcome r r' p q = λ x. record { answer = p x; session = q x }

-- any two results of start are equal, and so are the sheets that they leave
pub start_determined : (n : ℕ) (sheet sheet₁ sheet₂ : List ℕ) (r₁ r₂ : Outcome) → Starts n sheet sheet₁ r₁ → Starts n sheet sheet₂ r₂ → (r₁ ≡ r₂) × (sheet₁ ≡ sheet₂)
start_determined n sheet sheet₁ sheet₂ r₁ r₂ h k =
    (same_outcome r₁ r₂ (h.answer ∙ sym k.answer) (h.session ∙ sym k.session), h.words ∙ sym k.words)

-- any two results of a take through a session are equal, and so are the books and the sheets that they leave
pub take_determined : (s : Session) (book sheet : List ℕ) (i j : ℕ) (book₁ sheet₁ book₂ sheet₂ : List ℕ) (r₁ r₂ : Outcome)
    → Takes s book sheet i j book₁ sheet₁ r₁ → Takes s book sheet i j book₂ sheet₂ r₂ → (r₁ ≡ r₂) × (book₁ ≡ book₂) × (sheet₁ ≡ sheet₂)
take_determined s book sheet i j book₁ sheet₁ book₂ sheet₂ r₁ r₂ h k =
    (same_outcome r₁ r₂ (h.answer ∙ sym k.answer) (h.session ∙ sym k.session), h.book_words ∙ sym k.book_words, h.sheet_words ∙ sym k.sheet_words)
