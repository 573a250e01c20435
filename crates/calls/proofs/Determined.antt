-- Any two results that satisfy the contract of fresh, of take, or of apply, are equal.
use mathlib.Core.Path.{◌≡◌, sym, ◌∙◌}
use mathlib.Core.Bool.{Bool}
use mathlib.Core.List.{List}
use Prim.Native.Nat.{ℕ}
use Rattle.answers.specs.declared.Answer.{Answer}
use Rattle.calls.specs.Fresh.{Fresh}
use Rattle.calls.specs.Take.{Taken}
use Rattle.calls.specs.Apply.{apply_answer}
use Rattle.calls.specs.declared.Applied.{Applied}

pub fresh_determined : (n : ℕ) (sheet s s' : List ℕ) (r r' : Answer) → Fresh n sheet s r → Fresh n sheet s' r' → (r ≡ r') × (s ≡ s')
fresh_determined n sheet s s' r r' x y = (x.answer ∙ sym y.answer, x.words ∙ sym y.words)

pub take_determined : (spoilt : Bool) (n : ℕ) (book : List ℕ) (bookCount : ℕ) (sheet : List ℕ) (sheetCount i j : ℕ) (b b' s s' : List ℕ) (r r' : Answer)
    → Taken spoilt n book bookCount sheet sheetCount i j b s r → Taken spoilt n book bookCount sheet sheetCount i j b' s' r' → (r ≡ r') × (b ≡ b') × (s ≡ s')
take_determined spoilt n book bookCount sheet sheetCount i j b b' s s' r r' x y =
    (x.answer ∙ sym y.answer, x.book_words ∙ sym y.book_words, x.sheet_words ∙ sym y.sheet_words)

-- the contract of apply is one equation, and its sheet is lent to be read only
pub apply_determined : (n : ℕ) (sheet : List ℕ) (sheetCount x : ℕ) (r r' : Applied) → r ≡ apply_answer n sheet sheetCount x → r' ≡ apply_answer n sheet sheetCount x → r ≡ r'
apply_determined n sheet sheetCount x r r' e f = e ∙ sym f
