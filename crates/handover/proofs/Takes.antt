-- Demand 2 over the contract of take and nothing else: if the sheet was that of the book, the new one is that of the new book.
use mathlib.Core.Path.{◌≡◌, refl, sym, ap, ◌∙◌, subst}
use mathlib.Core.Bool.{Bool, true, false, not, ◌&&◌, ◌||◌}
use mathlib.Core.List.{List, ◌∷◌, Memᴰ as Mem}
use Prim.Native.Nat.{ℕ, zero, suc, ◌^◌, ◌≤◌}
use native.Mathlib.Omega.{arith}
use lib.Dec.{ltb}
use lib.ListN.{length, take}
use Rattle.panel.specs.Masks.{panel_size}
use Rattle.panel.specs.Transitions.{transition_word}
use Rattle.prime.specs.Sheets.{sheet_of, take_sheet, good_sheet, struck_count, added_count}
use Rattle.prime.proofs.Laws.{take_sheet_of, sheet_of_members}
use Rattle.book.specs.Books.{good_book, told, against, with_word, book_of}
use Rattle.book.proofs.Books.{book_e, book_increasing}
use Rattle.book.proofs.Telling.{with_told}
use Rattle.book.proofs.BookOf.{book_members, book_self, book_with, book_sheet}
use Rattle.answers.specs.Answers.{refuse, plain, done, if_done}
use Rattle.answers.specs.declared.Answer.{Answer}
use Rattle.answers.proofs.Laws.{refuse_both, if_refused, if_done_lem}
use Rattle.calls.specs.Take.{entry_code, take_code, take_answer, take_book, take_words, Taken}
use Rattle.calls.proofs.Codes.{Lent, size_of}
use Rattle.calls.proofs.Ends.{entry_known}
use Rattle.calls.proofs.Ladder.{take_asks}
use Rattle.joining.specs.Joining.{Piece, piece, book_in, sheet_in}
use Rattle.handover.specs.Demands.{InUse, Complete}
use Rattle.handover.proofs.Runs.{same_sheet}
use Rattle.handover.proofs.Demands.{in_use_of, complete}

-- book and sheet after a take, with the counts that it answered
abbrev pub after : List ℕ → List ℕ → Answer → Piece
after book sheet r = piece book r.book_count sheet r.sheet_count

-- a list with the same members has the same book and sheet
pub in_use_members : (n : ℕ) → n ≤ 10 → (ts us : List ℕ) (p : Piece) → ((t : ℕ) → Mem t ts → Mem t us) → ((t : ℕ) → Mem t us → Mem t ts) → InUse n ts p → InUse n us p
in_use_members n small ts us p f g c =
    in_use_of n small us p c.book_in_slice (c.is_book ∙ book_members ts us f g) c.sheet_in_slice (c.is_sheet ∙ sheet_of_members n small ts us f g)

-- where take's ladder ends with 1, the panel's size was right and the transition was found in the book
ends_with_1 : (a b c d e f g h k : Bool) → refuse a 2 (refuse b 3 (refuse c 4 (refuse d 5 (refuse e 6 (refuse f 1 (refuse g 7 (refuse h 8 (refuse k 9 0)))))))) ≡ 1 → (a ≡ false) × (f ≡ true)
ends_with_1 true b c d e f g h k q = absurd (omega (arith, q))
ends_with_1 false true c d e f g h k q = absurd (omega (arith, q))
ends_with_1 false false true d e f g h k q = absurd (omega (arith, q))
ends_with_1 false false false true e f g h k q = absurd (omega (arith, q))
ends_with_1 false false false false true f g h k q = absurd (omega (arith, q))
ends_with_1 false false false false false true g h k q = (refl, refl)
ends_with_1 false false false false false false true h k q = absurd (omega (arith, q))
ends_with_1 false false false false false false false true k q = absurd (omega (arith, q))
ends_with_1 false false false false false false false false true q = absurd (omega (arith, q))
ends_with_1 false false false false false false false false false q = absurd (omega (arith, q))

module _ (spoilt : Bool) (n : ℕ) (book : List ℕ) (bookCount : ℕ) (sheet : List ℕ) (sheetCount i j : ℕ) where
  abbrev code : ℕ
  code = take_code spoilt n book bookCount sheet sheetCount i j

  abbrev t : ℕ
  t = transition_word i j

  abbrev before : Piece
  before = piece book bookCount sheet sheetCount

  abbrev new : List ℕ
  new = take_sheet n (sheet_in before) t

  -- what is known of the slices where take is done
  known : code ≡ 0 → Lent n book bookCount sheet sheetCount i j
  unfolding take_code
  known z = entry_known spoilt n book bookCount sheet sheetCount i j 0 (sym (refuse_both (entry_code spoilt n book bookCount sheet sheetCount i j) _ z).0) refl

  module _ (book' sheet' : List ℕ) (r : Answer) (h : Taken spoilt n book bookCount sheet sheetCount i j book' sheet' r) where
    code_is : r.code ≡ code
    unfolding take_answer
    code_is = ap (λ (a : Answer). a.code) h.answer ∙ picked code
      where
        picked : (c : ℕ) → (if_done c (done (length (with_word t (book_in before))) (length new) (struck_count (sheet_in before) new) (added_count (sheet_in before) new)) (plain c 0 bookCount sheetCount)).code ≡ c
        picked zero = refl
        picked (suc c) = refl

    -- done: where book and sheet were those of ts, the new ones are the complete result for ts and the transition
    taken_complete : r.code ≡ 0 → (ts : List ℕ) → book_in before ≡ book_of ts → sheet_in before ≡ sheet_of n ts → Complete n (t ∷ ts) (after book' sheet' r)
    unfolding take_answer take_book take_words
    taken_complete z ts is_book is_sheet =
        complete n k.small (t ∷ ts) (with_word t (book_in before)) new (after book' sheet' r) (length book) (length sheet)
        (h.book_words ∙ if_done_lem code _ _ c)
        (ap (λ (a : Answer). a.book_count) answers)
        (h.sheet_words ∙ if_done_lem code _ _ c)
        (ap (λ (a : Answer). a.sheet_count) answers)
        (ap (with_word t) is_book ∙ book_with t ts)
        (ap (λ (z : List ℕ). take_sheet n z t) is_sheet ∙ take_sheet_of n k.small ts t)
      where
        c : code ≡ 0
        c = sym code_is ∙ z

        k : Lent n book bookCount sheet sheetCount i j
        k = known c

        answers : r ≡ done (length (with_word t (book_in before))) (length new) (struck_count (sheet_in before) new) (added_count (sheet_in before) new)
        answers = h.answer ∙ if_done_lem code _ _ c

    -- done: from book and sheet of ts to the complete result for ts and the transition
    pub take_complete : (ts : List ℕ) → InUse n ts before → r.code ≡ 0 → Complete n (t ∷ ts) (after book' sheet' r)
    take_complete ts c z = taken_complete z ts c.is_book c.is_sheet

    -- refused, or told of a transition booked before: all words and both counts stay
    pub take_kept : (r.code ≡ 0 → ⊥) → after book' sheet' r ≡ before
    unfolding take_answer take_book take_words
    take_kept f = λ x. piece (eb x) (er x).book_count (es x) (er x).sheet_count
      where
        g : code ≡ 0 → ⊥
        g e = f (code_is ∙ e)

        eb : book' ≡ book
        eb = h.book_words ∙ if_refused code _ _ g

        es : sheet' ≡ sheet
        es = h.sheet_words ∙ if_refused code _ _ g

        er : r ≡ plain code 0 bookCount sheetCount
        er = h.answer ∙ if_refused code _ _ g

    -- told: the panel's size is right, and the book tells of the transition
    told_old : r.code ≡ 1 → (n ≤ 10) × (told t (book_in before) ≡ true)
    told_old e = ((size_of n (sized (panel_size n) k.0)).1, k.1)
      where
        k : (not (panel_size n) ≡ false) × (told t (book_in before) ≡ true)
        k =
            ends_with_1 (not (panel_size n)) (spoilt || (ltb (length book) bookCount || ltb (length sheet) sheetCount)) (not (good_book n (take bookCount book)))
            (not (good_sheet n (take sheetCount sheet))) (not (ltb i (2 ^ n) && ltb j (2 ^ n))) (told t (take bookCount book))
            (against t (take bookCount book)) (ltb (length book) (length (with_word t (take bookCount book)))) (ltb (length sheet) (length new))
            (sym (take_asks spoilt n book bookCount sheet sheetCount i j) ∙ sym code_is ∙ e)

        sized : (b : Bool) → not b ≡ false → b ≡ true
        sized true q = refl
        sized false q = sym q

    -- told: nothing changes, and what is in use is book and sheet of ts and the transition too. Words beyond the counts are 0 where they were before: code 1 clears nothing
    pub take_told : (ts : List ℕ) → InUse n ts before → r.code ≡ 1 → (after book' sheet' r ≡ before) × InUse n (t ∷ ts) (after book' sheet' r)
    take_told ts c e =
        let q = told_old e in
        let same = take_kept (λ z. omega (arith, z, e)) in
        let stays : book_of ts ≡ book_of (t ∷ ts) = sym (with_told t (book_of ts) (ap (told t) (sym c.is_book) ∙ q.1)) ∙ book_with t ts in
        (same, subst (InUse n (t ∷ ts)) (sym same) (in_use_of n q.0 (t ∷ ts) before c.book_in_slice (c.is_book ∙ stays) c.sheet_in_slice (c.is_sheet ∙ same_sheet n q.0 ts (t ∷ ts) stays)))

    -- 01's own sentence, whatever take answers: if the sheet was that of the book, the new one is that of the new book
    pub sheet_of_book : sheet_in before ≡ sheet_of n (book_in before) → sheet_in (after book' sheet' r) ≡ sheet_of n (book_in (after book' sheet' r))
    sheet_of_book e = go r.code refl
      where
        go : (c : ℕ) → r.code ≡ c → sheet_in (after book' sheet' r) ≡ sheet_of n (book_in (after book' sheet' r))
        go zero z =
            let l = known (sym code_is ∙ z) in
            let own = sym (book_self (book_in before) (book_increasing (book_in before) (book_e n (book_in before) l.book_is_good).rising)) in
            let k = (taken_complete z (book_in before) own e).in_use in
            k.is_sheet ∙ sym (book_sheet n l.small (t ∷ book_in before)) ∙ ap (sheet_of n) (sym k.is_book)
        go (suc c) q = subst (λ (p : Piece). sheet_in p ≡ sheet_of n (book_in p)) (sym (take_kept (λ z. omega (arith, z, q)))) e
