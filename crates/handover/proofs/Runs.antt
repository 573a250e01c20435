-- Learn's run, word by word: while nothing is refused, book and sheet are those of the words read.
use mathlib.Core.Path.{◌≡◌, refl, sym, ap, ap₂, ◌∙◌, subst}
use mathlib.Core.Bool.{Bool, true, false, cond}
use mathlib.Core.List.Memᴰ.{head as here}
use mathlib.Core.List.Memᴰ.{tail as there}
use mathlib.Core.List.{List, [], ◌∷◌, ◌++◌, Memᴰ as Mem}
use Prim.Native.Nat.{ℕ, ◌+◌, ◌≤◌}
use native.Mathlib.Omega.{arith}
use lib.ListN.{length}
use borrow.Author.Tests.{eq-eqb, le-ltb}
use Rattle.table.specs.Lists.{increasing}
use Rattle.table.specs.Surgery.{one_more_if}
use Rattle.panel.specs.Transitions.{state, next, valid_transition}
use Rattle.prime.specs.Sheets.{sheet_of, apply_sheet, take_sheet, fresh_sheet, struck_count, added_count}
use Rattle.prime.proofs.Apply.{Booked, reproduces}
use Rattle.prime.proofs.Laws.{sheet_of_good, take_sheet_of, take_good, fresh_sheet_of}
use Rattle.heirs.proofs.Counts.{counts_balance}
use Rattle.book.specs.Books.{good_book, told, against, with_word, book_of}
use Rattle.book.proofs.Books.{book_e, one_word}
use Rattle.book.proofs.Telling.{with_good}
use Rattle.book.proofs.BookOf.{book_from, book_to, book_none, book_with, book_more, book_repeat, book_sheet}
use Rattle.sheet.proofs.Fresh.{fresh_length}
use Rattle.calls.proofs.Codes.{size_of}
use Rattle.learning.specs.Learn.{Run, going, refused, learn_words, learn_start, reproduced, learn_end, learn_run}
use Rattle.learning.proofs.Ways.{Opening, two, nine_at_once, opened, Way, six, passed_over, seven, eight, nine, taken_up, run_keeps}

-- the words ts have been read: book b, sheet s, sums x and y
pub record Read (n : ℕ) (ts b s : List ℕ) (x y : ℕ) : Type 0 where
  pub small : n ≤ 10
  pub is_book : b ≡ book_of ts
  pub good : good_book n b ≡ true
  pub is_sheet : s ≡ sheet_of n ts
  pub counts : length s + x ≡ n + y

-- a run after the words ts; a refusal has a code from 1 to 9
abbrev pub After : ℕ → List ℕ → Run → Type 0
After n ts (refused c p) = (1 ≤ c) × (c ≤ 9)
After n ts (going b s x y) = Read n ts b s x y

-- the words read are those of the book
pub read_in : (n : ℕ) (ts b s : List ℕ) (x y : ℕ) → Read n ts b s x y → (t : ℕ) → Mem t ts → Mem t b
read_in n ts b s x y l t m = subst (λ (z : List ℕ). Mem t z) (sym l.is_book) (book_to ts t m)

-- they are valid, and no state has two successors
pub read_booked : (n : ℕ) (ts b s : List ℕ) (x y : ℕ) → Read n ts b s x y → Booked n ts
read_booked n ts b s x y l =
    let g = book_e n b l.good in
    let into = read_in n ts b s x y l in
    record {
      state_lt = λ t m. (g.valid t (into t m)).state_lt;
      next_lt = λ t m. (g.valid t (into t m)).next_lt;
      one_next = λ t u m k e. ap next (one_word b g.rising t u (into t m) (into u k) e);
    }

-- ---- one word

-- where the book of a list is that of another, so is the sheet
pub same_sheet : (n : ℕ) → n ≤ 10 → (ts us : List ℕ) → book_of ts ≡ book_of us → sheet_of n ts ≡ sheet_of n us
same_sheet n small ts us e = sym (book_sheet n small ts) ∙ ap (sheet_of n) e ∙ book_sheet n small us

module _ (n t : ℕ) (ts b s : List ℕ) (x y : ℕ) (l : Read n ts b s x y) where
  -- a word that was told leaves what it finds
  pub again : told t b ≡ true → Read n (ts ++ t ∷ []) b s x y
  again e = record {
    small = l.small;
    is_book = l.is_book ∙ sym stays;
    good = l.good;
    is_sheet = l.is_sheet ∙ same_sheet n l.small ts (ts ++ t ∷ []) (sym stays);
    counts = l.counts;
  }
    where
      stays : book_of (ts ++ t ∷ []) ≡ book_of ts
      stays = book_repeat t ts (ap (told t) (sym l.is_book) ∙ e)

  abbrev new : List ℕ
  new = take_sheet n s t

  -- a word that is not against the book is taken
  pub one_more : valid_transition n t ≡ true → against t b ≡ false → Read n (ts ++ t ∷ []) (with_word t b) new (x + struck_count s new) (y + added_count s new)
  one_more ok free = record {
    small = l.small;
    is_book = ap (with_word t) l.is_book ∙ book_more t ts;
    good = with_good n t b l.good ok free;
    is_sheet =
        ap (λ (z : List ℕ). take_sheet n z t) l.is_sheet ∙ take_sheet_of n l.small ts t
        ∙ same_sheet n l.small (t ∷ ts) (ts ++ t ∷ []) (sym (book_with t ts) ∙ book_more t ts);
    counts = omega (arith, l.counts, counts_balance s new (ap increasing l.is_sheet ∙ (sheet_of_good n l.small ts).sorted) (take_good n l.small s t).sorted);
  }

  -- on every way through the word
  word : (bookRoom sheetRoom k c : ℕ) (r : Run) → Way n bookRoom sheetRoom k t b s x y c r → After n (ts ++ t ∷ []) r
  word bookRoom sheetRoom k _ _ (six e) = (omega arith, omega arith)
  word bookRoom sheetRoom k _ _ (passed_over v e) = again e
  word bookRoom sheetRoom k _ _ (seven v e f) = (omega arith, omega arith)
  word bookRoom sheetRoom k _ _ (eight v e f) = (omega arith, omega arith)
  word bookRoom sheetRoom k _ _ (nine v e f g) = (omega arith, omega arith)
  word bookRoom sheetRoom k _ _ (taken_up v e f g) = one_more v e

-- ---- all words

pub start_read : (n : ℕ) → n ≤ 10 → Read n [] [] (fresh_sheet n) 0 0
unfolding good_book
start_read n l = record {
  small = l;
  is_book = sym book_none;
  good = refl;
  is_sheet = fresh_sheet_of n l;
  counts = omega (arith, fresh_length n);
}

module _ (n bookRoom sheetRoom : ℕ) where
  start_run : (r : Run) → Opening n sheetRoom r → After n [] r
  start_run _ (two e) = (omega arith, omega arith)
  start_run _ (nine_at_once e f) = (omega arith, omega arith)
  start_run _ (opened e f) = start_read n (size_of n e).1

  words_run : (ts : List ℕ) → After n ts (learn_words n bookRoom sheetRoom 0 ts (learn_start n sheetRoom))
  words_run ts =
      run_keeps n bookRoom sheetRoom (After n) start_run (λ ps t c p f. f) (λ ps t b s x y c r l w. word n t ps b s x y l bookRoom sheetRoom (length ps) c r w) ts

  -- ---- the check at the end passes

  reproduced_all : (s b : List ℕ) → ((t : ℕ) → Mem t b → apply_sheet n s (state t) ≡ next t) → reproduced n s b ≡ length b
  unfolding reproduced
  reproduced_all s [] h = refl
  reproduced_all s (t ∷ b) h =
      ap₂ one_more_if (eq-eqb (apply_sheet n s (state t)) (next t) (h t (here refl))) (reproduced_all s b (λ u m. h u (there m)))

  end_run : (ts : List ℕ) (r : Run) → After n ts r → learn_end n r ≡ r
  unfolding learn_end
  end_run ts (refused c p) f = refl
  end_run ts (going b s x y) f =
      ap (λ (a : Bool). cond a (refused 10 (reproduced n s b)) (going b s x y))
      (le-ltb (reproduced n s b) (length b) (omega (
        arith,
        reproduced_all s b (λ t m.
            ap (λ (z : List ℕ). apply_sheet n z (state t)) f.is_sheet ∙ reproduces n f.small ts (read_booked n ts b s x y f) t (book_from ts t (subst (λ (z : List ℕ). Mem t z) f.is_book m))),
      )))

  -- so the run is that of the words alone
  pub run_words : (ts : List ℕ) → learn_run n bookRoom sheetRoom ts ≡ learn_words n bookRoom sheetRoom 0 ts (learn_start n sheetRoom)
  unfolding learn_run
  run_words ts = end_run ts (learn_words n bookRoom sheetRoom 0 ts (learn_start n sheetRoom)) (words_run ts)

  -- learn that is not refused has read all words of the list
  pub run_read : (ts : List ℕ) → After n ts (learn_run n bookRoom sheetRoom ts)
  run_read ts = subst (After n ts) (sym (run_words ts)) (words_run ts)
