-- What the code says: 0 exactly where the two pieces are good, do not contradict each other, and there is room.
use mathlib.Core.Path.{◌≡◌, refl, sym, ap, ◌∙◌}
use mathlib.Core.Bool.{Bool, true, false, not, ◌&&◌, ◌||◌, false≢true}
use Prim.Native.Nat.{ℕ, ◌≤◌}
use native.Mathlib.Omega.{arith}
use lib.Dec.{ltb}
use lib.ListN.{length}
use borrow.Author.Tests.{ltb-true, ltb-false, le-ltb, not-false}
use Rattle.table.proofs.Basics.{and_l, and_r}
use Rattle.panel.specs.Masks.{panel_size}
use mathlib.Core.List.{List}
use Rattle.book.specs.Books.{good_book, clash, states_up}
use Rattle.book.proofs.Books.{book_e}
use Rattle.prime.specs.Sheets.{good_sheet}
use Rattle.answers.specs.Answers.{refuse}
use Rattle.joining.specs.Joining.{Piece, book_in, sheet_in, exceeds, joined_book, joined_sheet, pieces_code, join_code, GoodPiece, GoodPieces, Joinable}
use Rattle.answers.proofs.Laws.{refuse_none}

-- ---- counts and size

or_false : (x y : Bool) → (x || y) ≡ false → (x ≡ false) × (y ≡ false)
or_false true y e = absurd (false≢true (sym e))
or_false false y e = (refl, e)

pub counts_in : (a : Piece) (x : Bool) → x ≡ exceeds a → x ≡ false → (a.book_count ≤ length a.book_words) × (a.sheet_count ≤ length a.sheet_words)
unfolding exceeds
counts_in a x ex e =
    let p = or_false (ltb (length a.book_words) a.book_count) (ltb (length a.sheet_words) a.sheet_count) (sym ex ∙ e) in
    (ltb-false (length a.book_words) a.book_count p.0, ltb-false (length a.sheet_words) a.sheet_count p.1)

pub size_in : (n : ℕ) (x : Bool) → x ≡ panel_size n → not x ≡ false → n ≤ 10
unfolding panel_size
size_in n x ex e = omega (arith, ltb-true n 11 (and_r (ltb 0 n) (ltb n 11) (sym ex ∙ not-false x e)))

-- a good book's states increase
pub rising : (n : ℕ) (b : List ℕ) → good_book n b ≡ true → states_up b ≡ true
rising n b e = (book_e n b e).rising

-- ---- what the code of the pieces says

pub pieces_e : (n : ℕ) (a b : Piece) (later : ℕ) → pieces_code n a b later ≡ 0 → GoodPieces n a b × (later ≡ 0)
unfolding pieces_code
pieces_e n a b later e =
    let p₂ = refuse_none (not (panel_size n)) 1 _ e in
    let p₃ = refuse_none (exceeds a || exceeds b) 2 _ p₂.1 in
    let p₄ = refuse_none (not (good_book n (book_in a) && good_book n (book_in b))) 3 _ p₃.1 in
    let p₅ = refuse_none (not (good_sheet n (sheet_in a) && good_sheet n (sheet_in b))) 4 _ p₄.1 in
    let within = or_false (exceeds a) (exceeds b) p₃.0 in
    let books = not-false (good_book n (book_in a) && good_book n (book_in b)) p₄.0 in
    let sheets = not-false (good_sheet n (sheet_in a) && good_sheet n (sheet_in b)) p₅.0 in (
      record {
        size = not-false (panel_size n) p₂.0;
        left = record {
          book_in_slice = (counts_in a (exceeds a) refl within.0).0;
          sheet_in_slice = (counts_in a (exceeds a) refl within.0).1;
          book_is_good = and_l (good_book n (book_in a)) (good_book n (book_in b)) books;
          sheet_is_good = and_l (good_sheet n (sheet_in a)) (good_sheet n (sheet_in b)) sheets;
        };
        right = record {
          book_in_slice = (counts_in b (exceeds b) refl within.1).0;
          sheet_in_slice = (counts_in b (exceeds b) refl within.1).1;
          book_is_good = and_r (good_book n (book_in a)) (good_book n (book_in b)) books;
          sheet_is_good = and_r (good_sheet n (sheet_in a)) (good_sheet n (sheet_in b)) sheets;
        };
      },
      p₅.1,
    )

piece_in : (n : ℕ) (a : Piece) → GoodPiece n a → exceeds a ≡ false
unfolding exceeds
piece_in n a g =
    ap (λ (x : Bool). x || ltb (length a.sheet_words) a.sheet_count) (le-ltb (length a.book_words) a.book_count g.book_in_slice)
    ∙ le-ltb (length a.sheet_words) a.sheet_count g.sheet_in_slice

pub pieces_i : (n : ℕ) (a b : Piece) (later : ℕ) → GoodPieces n a b → later ≡ pieces_code n a b later
unfolding pieces_code
pieces_i n a b later g =
    rw (g.size, piece_in n a g.left, piece_in n b g.right, g.left.book_is_good, g.right.book_is_good, g.left.sheet_is_good, g.right.sheet_is_good)

-- a refusal of the pieces does not ask what comes later
pub pieces_refused : (n : ℕ) (a b : Piece) (later : ℕ) → (pieces_code n a b 0 ≡ 0 → ⊥) → pieces_code n a b 0 ≡ pieces_code n a b later
unfolding pieces_code
pieces_refused n a b later h =
    go (not (panel_size n)) (exceeds a || exceeds b) (not (good_book n (book_in a) && good_book n (book_in b))) (not (good_sheet n (sheet_in a) && good_sheet n (sheet_in b))) h
  where
    ladder : Bool → Bool → Bool → Bool → ℕ → ℕ
    ladder w x y z k = refuse w 2 (refuse x 3 (refuse y 4 (refuse z 5 k)))

    go : (w x y z : Bool) → (ladder w x y z 0 ≡ 0 → ⊥) → ladder w x y z 0 ≡ ladder w x y z later
    go true x y z h = refl
    go false true y z h = refl
    go false false true z h = refl
    go false false false true h = refl
    go false false false false h = absurd (h refl)

-- ---- what the code says: 0 exactly where the pieces can be joined and there is room

pub joinable_e : (n : ℕ) (a b : Piece) (bookRoom sheetRoom : ℕ) → join_code n a b bookRoom sheetRoom ≡ 0 → Joinable n a b bookRoom sheetRoom
unfolding join_code
joinable_e n a b bookRoom sheetRoom e =
    let p₅ = pieces_e n a b _ e in
    let p₇ = refuse_none (clash (book_in a) (book_in b)) 6 _ p₅.1 in
    let p₈ = refuse_none (ltb bookRoom (length (joined_book a b))) 7 _ p₇.1 in
    let p₉ = refuse_none (ltb sheetRoom (length (joined_sheet n a b))) 8 _ p₈.1 in
    record {
      pieces = p₅.0;
      agree = p₇.0;
      book_fits = ltb-false bookRoom (length (joined_book a b)) p₈.0;
      sheet_fits = ltb-false sheetRoom (length (joined_sheet n a b)) p₉.0;
    }

pub joinable_i : (n : ℕ) (a b : Piece) (bookRoom sheetRoom : ℕ) → Joinable n a b bookRoom sheetRoom → join_code n a b bookRoom sheetRoom ≡ 0
unfolding join_code
joinable_i n a b bookRoom sheetRoom j =
    rw (← pieces_i n a b _ j.pieces, j.agree, le-ltb bookRoom (length (joined_book a b)) j.book_fits, le-ltb sheetRoom (length (joined_sheet n a b)) j.sheet_fits)
