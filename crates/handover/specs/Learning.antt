-- Learning a list in given rooms: exactly when nothing stops it, and else with which code and at which word it is refused. Only the words up to that word are asked.
use Rattle.std.specs.Prelude.{◌≡◌, true, false, ℕ, ◌≤◌, ◌<◌, length}
use mathlib.Core.List.{List, [], ◌∷◌, ◌++◌, Memᴰ as Mem}
use Rattle.panel.specs.Masks.{panel_size}
use Rattle.panel.specs.Transitions.{valid_transition}
use Rattle.prime.specs.Sheets.{sheet_of}
use Rattle.book.specs.Books.{against, OneNext, book_of}

-- nothing stops learning of ts: n is 1 to 10, every word is valid, no state has two successors, the book of the words fits into its slice,
-- and so does the sheet of the first words, however many, from the fresh sheet of none of them on
pub record Learnable (n : ℕ) (ts : List ℕ) (bookRoom sheetRoom : ℕ) : Type 0 where
  pub size : panel_size n ≡ true
  pub valid : (t : ℕ) → Mem t ts → valid_transition n t ≡ true
  pub one_next : OneNext ts
  pub book_fits : length (book_of ts) ≤ bookRoom
  pub sheets_fit : (ps rest : List ℕ) → ts ≡ ps ++ rest → length (sheet_of n ps) ≤ sheetRoom

-- the words ps stand before word number k of ts, which is w
pub record Before (ts ps : List ℕ) (w k : ℕ) : Type 0 where
  pub rest : List ℕ
  pub whole : ts ≡ ps ++ w ∷ rest
  pub number : k ≡ length ps

-- w passes 6 and 7 after the words ps: it is valid, and up to it no state has two successors
pub record Agrees (n : ℕ) (ps : List ℕ) (w : ℕ) : Type 0 where
  pub valid : valid_transition n w ≡ true
  pub one_next : OneNext (ps ++ w ∷ [])

-- the code with which w is refused after the words ps, which nothing stopped: by 6, 7, 8, 9. A repeat of a word of ps has none: it is passed over
pub data Stops (n : ℕ) (ps : List ℕ) (w bookRoom sheetRoom : ℕ) : ℕ → Type 0 where
  -- it is not I × 1,024 + J with both below 2^n
  invalid : valid_transition n w ≡ false → Stops n ps w bookRoom sheetRoom 6
  -- it is against the words before it: its state stands there with another successor
  contradicted : valid_transition n w ≡ true → against w ps ≡ true → Stops n ps w bookRoom sheetRoom 7
  -- the book of the words up to it needs more words than its slice
  book_full : Agrees n ps w → bookRoom < length (book_of (ps ++ w ∷ [])) → Stops n ps w bookRoom sheetRoom 8
  -- the sheet of the words up to it has more rules than its slice
  sheet_full : Agrees n ps w → length (book_of (ps ++ w ∷ [])) ≤ bookRoom → sheetRoom < length (sheet_of n (ps ++ w ∷ [])) → Stops n ps w bookRoom sheetRoom 9

-- learning of ts is refused with a code and a place: 2, then 9 for the fresh sheet, then each word in turn by 6, 7, 8, 9; and no other code
pub data LearnRefused (n : ℕ) (ts : List ℕ) (bookRoom sheetRoom : ℕ) : ℕ → ℕ → Type 0 where
  no_panel : panel_size n ≡ false → LearnRefused n ts bookRoom sheetRoom 2 0
  no_room : panel_size n ≡ true → sheetRoom < n → LearnRefused n ts bookRoom sheetRoom 9 0
  at_word : (ps : List ℕ) (w k code : ℕ) → Before ts ps w k → Learnable n ps bookRoom sheetRoom → Stops n ps w bookRoom sheetRoom code → LearnRefused n ts bookRoom sheetRoom code k
