-- The lent take says what the take by value says; and any two of its results are equal.
use mathlib.Core.Path.{◌≡◌, sym, ◌∙◌}
use mathlib.Core.List.{List}
use Prim.Native.Nat.{ℕ}
use Rattle.answers.specs.declared.Answer.{Answer}
use Rattle.sessions.specs.declared.Session.{Session}
use Rattle.sessions.specs.declared.Outcome.{Outcome}
use Rattle.sessions.specs.Sessions.{Takes}
use Rattle.lent.specs.Lent.{TakesLent}

module _ (s : Session) (book sheet : List ℕ) (i j : ℕ) where
  -- the outcome by value, taken apart
  pub lent_takes : (book' sheet' : List ℕ) (r : Outcome) → Takes s book sheet i j book' sheet' r → TakesLent s book sheet i j r.session book' sheet' r.answer
  lent_takes book' sheet' r h =
      record { answer = h.answer; session = h.session; book_words = h.book_words; sheet_words = h.sheet_words }

  -- any two answers of a lent take are equal, and so are the sessions, the books and the sheets that they leave
  pub lent_determined : (s₁ s₂ : Session) (book₁ book₂ sheet₁ sheet₂ : List ℕ) (r₁ r₂ : Answer) → TakesLent s book sheet i j s₁ book₁ sheet₁ r₁ → TakesLent s book sheet i j s₂ book₂ sheet₂ r₂
      → (r₁ ≡ r₂) × (s₁ ≡ s₂) × (book₁ ≡ book₂) × (sheet₁ ≡ sheet₂)
  lent_determined s₁ s₂ book₁ book₂ sheet₁ sheet₂ r₁ r₂ h k =
      (h.answer ∙ sym k.answer, h.session ∙ sym k.session, h.book_words ∙ sym k.book_words, h.sheet_words ∙ sym k.sheet_words)
