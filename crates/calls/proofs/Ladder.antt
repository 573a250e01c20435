-- Take's refusals on one page, in the order in which 01 has take ask: a second reading of `take_code`.
use mathlib.Core.Path.{◌≡◌, refl}
use mathlib.Core.Bool.{Bool, true, false, not, ◌&&◌, ◌||◌}
use mathlib.Core.List.{List}
use Prim.Native.Nat.{ℕ, ◌^◌}
use lib.Dec.{eqb, ltb}
use lib.ListN.{length, take}
use Rattle.panel.specs.Masks.{panel_size}
use Rattle.panel.specs.Transitions.{transition_word}
use Rattle.book.specs.Books.{good_book, told, against, with_word}
use Rattle.prime.specs.Sheets.{good_sheet, take_sheet}
use Rattle.answers.specs.Answers.{refuse}
use Rattle.calls.specs.Take.{given_code, entry_code, take_code}
use Rattle.inner.specs.Booking.{booking_code, inner_code}

-- nine tests, one after the other
ladder : (a b c d e f g h k : Bool) → ℕ
ladder a b c d e f g h k = refuse a 2 (refuse b 3 (refuse c 4 (refuse d 5 (refuse e 6 (refuse f 1 (refuse g 7 (refuse h 8 (refuse k 9 0))))))))

-- asked in three parts, they come to the same
parts : (a b c d e f g h k : Bool)
    → (let lent = refuse a 2 (refuse b 3 (refuse c 4 (refuse d 5 (refuse e 6 0)))) in
    let entry = refuse (not (eqb lent 0)) lent (refuse f 1 (refuse g 7 (refuse h 8 0))) in
    refuse (not (eqb entry 0)) entry (refuse k 9 0)) ≡ ladder a b c d e f g h k
unfolding ladder
parts true b c d e f g h k = refl
parts false true c d e f g h k = refl
parts false false true d e f g h k = refl
parts false false false true e f g h k = refl
parts false false false false true f g h k = refl
parts false false false false false true g h k = refl
parts false false false false false false true h k = refl
parts false false false false false false false true k = refl
parts false false false false false false false false true = refl
parts false false false false false false false false false = refl

-- 2, 3, 4, 5, 6, then 1 beside 7, then 8, then 9
pub take_asks : (spoilt : Bool) (n : ℕ) (book : List ℕ) (bookCount : ℕ) (sheet : List ℕ) (sheetCount i j : ℕ)
    → take_code spoilt n book bookCount sheet sheetCount i j
    ≡ refuse (not (panel_size n)) 2
    (refuse (spoilt || (ltb (length book) bookCount || ltb (length sheet) sheetCount)) 3
    (refuse (not (good_book n (take bookCount book))) 4
    (refuse (not (good_sheet n (take sheetCount sheet))) 5
    (refuse (not (ltb i (2 ^ n) && ltb j (2 ^ n))) 6
    (refuse (told (transition_word i j) (take bookCount book)) 1
    (refuse (against (transition_word i j) (take bookCount book)) 7
    (refuse (ltb (length book) (length (with_word (transition_word i j) (take bookCount book)))) 8
    (refuse (ltb (length sheet) (length (take_sheet n (take sheetCount sheet) (transition_word i j)))) 9
    0))))))))
unfolding take_code entry_code given_code booking_code inner_code ladder
take_asks spoilt n book bookCount sheet sheetCount i j =
    parts (not (panel_size n)) (spoilt || (ltb (length book) bookCount || ltb (length sheet) sheetCount)) (not (good_book n (take bookCount book)))
    (not (good_sheet n (take sheetCount sheet))) (not (ltb i (2 ^ n) && ltb j (2 ^ n))) (told (transition_word i j) (take bookCount book))
    (against (transition_word i j) (take bookCount book)) (ltb (length book) (length (with_word (transition_word i j) (take bookCount book))))
    (ltb (length sheet) (length (take_sheet n (take sheetCount sheet) (transition_word i j))))
