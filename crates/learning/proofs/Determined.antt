-- Any two results that satisfy the contract of learn are equal.
use mathlib.Core.Path.{◌≡◌, sym, ◌∙◌}
use mathlib.Core.List.{List}
use Prim.Native.Nat.{ℕ}
use Rattle.answers.specs.declared.Answer.{Answer}
use Rattle.learning.specs.Learn.{Learned}

pub learn_determined : (n : ℕ) (ts : List ℕ) (bookRoom sheetRoom : ℕ) (b b' s s' : List ℕ) (r r' : Answer)
    → Learned n ts bookRoom sheetRoom b s r → Learned n ts bookRoom sheetRoom b' s' r' → (r ≡ r') × (b ≡ b') × (s ≡ s')
learn_determined n ts bookRoom sheetRoom b b' s s' r r' x y =
    (x.answer ∙ sym y.answer, x.book_words ∙ sym y.book_words, x.sheet_words ∙ sym y.sheet_words)
