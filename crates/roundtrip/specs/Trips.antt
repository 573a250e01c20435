-- What a text is that `write_sheet` wrote, and what `read_sheet` gives of a text.
use Rattle.std.specs.Prelude.{ℕ, ◌≡◌, List, length, take}
use Rattle.table.specs.Surgery.{filled}
use Rattle.reading.specs.declared.ReadAnswer.{ReadAnswer}
use Rattle.writing.specs.Writing.{Writes}
use Rattle.writing.specs.declared.WriteAnswer.{WriteAnswer}
use Rattle.returned.specs.Returned.{ReadsSheet}

-- t is what `write_sheet` wrote of the first count of some words, with the names that two texts give
pub record Written (n : ℕ) (words : List ℕ) (count : ℕ) (panel maker t : List ℕ) : Type 0 where
  pub before : List ℕ
  pub after : List ℕ
  pub answer : WriteAnswer
  pub writes : Writes n words count panel maker before after answer
  pub done : answer.answer.code ≡ 0
  pub text : t ≡ take answer.length after

-- t is read with code 0, for n relays, and leaves count words at the start of a slice
pub record Read (t : List ℕ) (n : ℕ) (words : List ℕ) (count : ℕ) : Type 0 where
  pub before : List ℕ
  pub answer : ReadAnswer
  pub reads : ReadsSheet t before words answer
  pub done : answer.code ≡ 0
  pub size : answer.n ≡ n
  pub counted : answer.count ≡ count

-- the answer and the slice of so many words after reading the first count of some words, for n relays: code 0, and 0 in every word beyond them
abbrev pub ReadAs : ℕ → List ℕ → ℕ → ℕ → List ℕ → ReadAnswer → Type 0
ReadAs n words count room after r = (r ≡ record { code = 0; place = 0; n = n; count = count }) × (after ≡ filled room (take count words))

-- the answer and the bytes after writing t: code 0, its length, and t at the start
pub record WrittenAgain (t after : List ℕ) (r : WriteAnswer) : Type 0 where
  pub done : r.answer.code ≡ 0
  pub long : r.length ≡ length t
  pub text : take (length t) after ≡ t
