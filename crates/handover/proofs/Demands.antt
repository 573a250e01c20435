-- Demands 2 and 3, over the contracts of learn and join and nothing else.
use mathlib.Core.Path.{◌≡◌, refl, sym, ap, ap₂, ◌∙◌, subst}
use mathlib.Core.Logic.{◌⊎◌, inl, inr}
use mathlib.Core.List.Memᴰ
use mathlib.Core.List.{List, ◌++◌, Memᴰ as Mem}
use Prim.Native.Nat.{ℕ, zero, suc, ◌+◌, ◌-◌, ◌≤◌}
use native.Mathlib.Omega.{arith}
use lib.ListN.{length, take, drop, replicate, length-append, length-replicate}
use lib.Seq.{take_at, drop_at, length-take-le}
use Rattle.table.specs.Lists.{increasing}
use Rattle.table.specs.Surgery.{filled}
use Rattle.prime.specs.Sheets.{sheet_of, join_sheet}
use Rattle.prime.proofs.Laws.{sheet_of_good, sheet_of_members}
use Rattle.prime.proofs.Primes.{sheet_of_prime, prime_sheet_of, join_members}
use Rattle.prime.proofs.Apply.{Booked}
use Rattle.book.specs.Books.{book_of, union}
use Rattle.book.proofs.BookOf.{book_from, book_to, book_rises, book_members, book_union}
use Rattle.answers.specs.Answers.{plain, done, if_done}
use Rattle.answers.specs.declared.Answer.{Answer}
use Rattle.learning.specs.Learn.{Run, going, refused, learn_run, run_answer, run_book, run_sheet, Learned}
use Rattle.joining.specs.Joining.{Piece, book_in, sheet_in, joined_book, joined_sheet, join_code, join_answer, book_after, sheet_after}
use Rattle.handover.specs.Demands.{Left, piece_of, book_used, sheet_used, ZeroFrom, InUse, Complete, Learns, Same, Divided, Joins}
use Rattle.handover.proofs.Runs.{Read, After, read_booked, run_read}
use Rattle.answers.proofs.Laws.{if_done_lem}

-- ---- a table at the front of a slice, and 0 in every word beyond

module _ (s ws : List ℕ) (room count : ℕ) (es : s ≡ filled room ws) (ec : count ≡ length ws) where
  pub used_is : take count s ≡ ws
  unfolding filled
  used_is = ap (take count) es ∙ take_at ws (replicate (room - length ws) 0) count (sym ec)

  length_is : length s ≡ length ws + (room - length ws)
  unfolding filled
  length_is = ap length es ∙ length-append ws (replicate (room - length ws) 0) ∙ ap (λ (k : ℕ). length ws + k) (length-replicate (room - length ws) 0)

  pub count_in : count ≤ length s
  count_in = omega (arith, length_is, ec)

  pub rest_zero : ZeroFrom count s
  unfolding filled
  rest_zero =
      let k : room - length ws ≡ length s - count = omega (arith, length_is, ec) in
      ap (drop count) es ∙ drop_at ws (replicate (room - length ws) 0) count (sym ec) ∙ ap (λ (m : ℕ). replicate m 0) k

-- ---- demand 2

-- the book and the sheet of ts, each in use in its slice
module _ (n : ℕ) (small : n ≤ 10) (ts : List ℕ) (p : Piece)
    (book_in_slice : p.book_count ≤ length p.book_words) (is_book : book_in p ≡ book_of ts) (sheet_in_slice : p.sheet_count ≤ length p.sheet_words) (is_sheet : sheet_in p ≡ sheet_of n ts) where
  pub in_use_of : InUse n ts p
  in_use_of = record {
    book_in_slice = book_in_slice;
    is_book = is_book;
    book_rising = ap increasing is_book ∙ book_rises ts;
    book_only = λ t m. book_from ts t (subst (λ (z : List ℕ). Mem t z) is_book m);
    book_all = λ t m. subst (λ (z : List ℕ). Mem t z) (sym is_book) (book_to ts t m);
    sheet_in_slice = sheet_in_slice;
    is_sheet = is_sheet;
    sheet_rising = ap increasing is_sheet ∙ (sheet_of_good n small ts).sorted;
    only_prime = λ w m. sheet_of_prime n small ts w (subst (λ (z : List ℕ). Mem w z) is_sheet m);
    all_prime = λ w p. subst (λ (z : List ℕ). Mem w z) (sym is_sheet) (prime_sheet_of n small ts w p);
  }

-- the same, each at the front of its slice with 0 beyond: the piece is complete
pub complete : (n : ℕ) → n ≤ 10 → (ts b s : List ℕ) (p : Piece) (bookRoom sheetRoom : ℕ)
    → p.book_words ≡ filled bookRoom b → p.book_count ≡ length b → p.sheet_words ≡ filled sheetRoom s → p.sheet_count ≡ length s
    → b ≡ book_of ts → s ≡ sheet_of n ts → Complete n ts p
complete n small ts b s p bookRoom sheetRoom eb cb es cs is_book is_sheet = record {
  in_use =
      in_use_of n small ts p (count_in p.book_words b bookRoom p.book_count eb cb) (used_is p.book_words b bookRoom p.book_count eb cb ∙ is_book)
      (count_in p.sheet_words s sheetRoom p.sheet_count es cs) (used_is p.sheet_words s sheetRoom p.sheet_count es cs ∙ is_sheet);
  book_rest = rest_zero p.book_words b bookRoom p.book_count eb cb;
  sheet_rest = rest_zero p.sheet_words s sheetRoom p.sheet_count es cs;
}

-- what a learn that is not refused has done
record Held (n : ℕ) (ts : List ℕ) (bookRoom sheetRoom : ℕ) (book sheet : List ℕ) (r : Answer) : Type 0 where
  b : List ℕ
  s : List ℕ
  x : ℕ
  y : ℕ
  read : Read n ts b s x y
  answers : r ≡ done (length b) (length s) x y
  books : book ≡ filled bookRoom b
  sheets : sheet ≡ filled sheetRoom s

held : (n : ℕ) (ts : List ℕ) (bookRoom sheetRoom : ℕ) (book sheet : List ℕ) (r : Answer) → Learned n ts bookRoom sheetRoom book sheet r → r.code ≡ 0 → Held n ts bookRoom sheetRoom book sheet r
unfolding run_answer run_book run_sheet
held n ts bookRoom sheetRoom book sheet r l z =
    go (learn_run n bookRoom sheetRoom ts) (run_read n bookRoom sheetRoom ts) l.answer l.book_words l.sheet_words
  where
    go : (q : Run) → After n ts q → r ≡ run_answer q → book ≡ run_book bookRoom q → sheet ≡ run_sheet sheetRoom q → Held n ts bookRoom sheetRoom book sheet r
    go (refused c p) f e eb es = absurd (omega (arith, f.0, ap (λ (a : Answer). a.code) e, z))
    go (going b s x y) f e eb es = record { b = b; s = s; x = x; y = y; read = f; answers = e; books = eb; sheets = es }

-- demand 2: what a learn of ts leaves is the complete result for ts
pub learn_complete : (n : ℕ) (ts : List ℕ) (o : Left) → Learns n ts o → Complete n ts (piece_of o)
learn_complete n ts o l =
    let h = held n ts l.book_room l.sheet_room o.book o.sheet o.answer l.contract l.learned in
    complete n h.read.small ts h.b h.s (piece_of o) l.book_room l.sheet_room
    h.books (ap (λ (a : Answer). a.book_count) h.answers) h.sheets (ap (λ (a : Answer). a.sheet_count) h.answers)
    h.read.is_book h.read.is_sheet

-- the panel of a learn that is not refused has at most 10 relays
pub learns_small : (n : ℕ) (ts : List ℕ) (o : Left) → Learns n ts o → n ≤ 10
learns_small n ts o l = (held n ts l.book_room l.sheet_room o.book o.sheet o.answer l.contract l.learned).read.small

-- its words are valid, and no state has two successors
pub learns_booked : (n : ℕ) (ts : List ℕ) (o : Left) → Learns n ts o → Booked n ts
learns_booked n ts o l =
    let h = held n ts l.book_room l.sheet_room o.book o.sheet o.answer l.contract l.learned in
    read_booked n ts h.b h.s h.x h.y h.read

-- the sheet count is n less struck, and added
pub learn_counts : (n : ℕ) (ts : List ℕ) (o : Left) → Learns n ts o → o.answer.sheet_count + o.answer.struck ≡ n + o.answer.added
learn_counts n ts o l =
    let h = held n ts l.book_room l.sheet_room o.book o.sheet o.answer l.contract l.learned in
    omega (
      arith,
      h.read.counts,
      ap (λ (a : Answer). a.sheet_count) h.answers,
      ap (λ (a : Answer). a.struck) h.answers,
      ap (λ (a : Answer). a.added) h.answers,
    )

-- learn's own check never refuses: code 10 is never given
pub never_ten : (n : ℕ) (ts : List ℕ) (bookRoom sheetRoom : ℕ) (book sheet : List ℕ) (r : Answer) → Learned n ts bookRoom sheetRoom book sheet r → r.code ≤ 9
unfolding run_answer
never_ten n ts bookRoom sheetRoom book sheet r l = go (learn_run n bookRoom sheetRoom ts) (run_read n bookRoom sheetRoom ts) l.answer
  where
    go : (q : Run) → After n ts q → r ≡ run_answer q → r.code ≤ 9
    go (refused c p) f e = omega (arith, f.1, ap (λ (a : Answer). a.code) e)
    go (going b s x y) f e = omega (arith, ap (λ (a : Answer). a.code) e)

-- ---- one complete result

-- lists with the same members have one book and one sheet in use, number for number
pub in_use_same : (n : ℕ) → n ≤ 10 → (ts us : List ℕ) (o q : Left) → InUse n ts (piece_of o) → InUse n us (piece_of q)
    → ((t : ℕ) → Mem t ts → Mem t us) → ((t : ℕ) → Mem t us → Mem t ts) → Same o q
in_use_same n small ts us o q c d f g = record {
  books = same_book;
  sheets = same_sheet;
  book_counts = sym (length-take-le o.answer.book_count o.book c.book_in_slice) ∙ ap length same_book ∙ length-take-le q.answer.book_count q.book d.book_in_slice;
  sheet_counts = sym (length-take-le o.answer.sheet_count o.sheet c.sheet_in_slice) ∙ ap length same_sheet ∙ length-take-le q.answer.sheet_count q.sheet d.sheet_in_slice;
}
  where
    same_book : book_used o ≡ book_used q
    same_book = c.is_book ∙ book_members ts us f g ∙ sym d.is_book

    same_sheet : sheet_used o ≡ sheet_used q
    same_sheet = c.is_sheet ∙ sheet_of_members n small ts us f g ∙ sym d.is_sheet

-- rows in any order, repeats allowed: learns of lists with the same members agree
pub order_free : (n : ℕ) (ts us : List ℕ) (o q : Left) → Learns n ts o → Learns n us q
    → ((t : ℕ) → Mem t ts → Mem t us) → ((t : ℕ) → Mem t us → Mem t ts) → Same o q
order_free n ts us o q l k f g =
    in_use_same n (learns_small n ts o l) ts us o q (learn_complete n ts o l).in_use (learn_complete n us q k).in_use f g

-- ---- demand 3

-- the answer of a join has the code of its ladder
join_code_lem : (c books sheets : ℕ) → (if_done c (done books sheets 0 0) (plain c 0 0 0)).code ≡ c
join_code_lem zero books sheets = refl
join_code_lem (suc c) books sheets = refl

-- what a join of two pieces with the books and sheets of ps and qs leaves is the complete result for any whole that they divide
pub join_complete : (n : ℕ) → n ≤ 10 → (ts ps qs : List ℕ) (p q : Piece) (o : Left) → Divided ts ps qs → InUse n ps p → InUse n qs q → Joins n p q o → Complete n ts (piece_of o)
unfolding join_answer book_after sheet_after
join_complete n small ts ps qs p q o v c d j =
    complete n small ts (joined_book p q) (joined_sheet n p q) (piece_of o) (length j.book_before) (length j.sheet_before)
    (j.contract.book_left ∙ if_done_lem code (filled (length j.book_before) (joined_book p q)) j.book_before zero_code)
    (ap (λ (a : Answer). a.book_count) answers)
    (j.contract.sheet_left ∙ if_done_lem code (filled (length j.sheet_before) (joined_sheet n p q)) j.sheet_before zero_code)
    (ap (λ (a : Answer). a.sheet_count) answers)
    (ap₂ union c.is_book d.is_book ∙ book_union ps qs ∙ book_members (ps ++ qs) ts (λ t m. into t (Memᴰ.append_cases ps m)) (λ t m. out t (v.covered t m)))
    (ap₂ (join_sheet n) c.is_sheet d.is_sheet ∙ join_members n small ps qs ts v.covered v.left_in v.right_in)
  where
    code : ℕ
    code = join_code n p q (length j.book_before) (length j.sheet_before)

    zero_code : code ≡ 0
    zero_code = sym (join_code_lem code (length (joined_book p q)) (length (joined_sheet n p q))) ∙ sym (ap (λ (a : Answer). a.code) j.contract.answer) ∙ j.joined

    answers : o.answer ≡ done (length (joined_book p q)) (length (joined_sheet n p q)) 0 0
    answers = j.contract.answer ∙ if_done_lem code (done (length (joined_book p q)) (length (joined_sheet n p q)) 0 0) (plain code 0 0 0) zero_code

    into : (t : ℕ) → Mem t ps ⊎ Mem t qs → Mem t ts
    into t (inl m) = v.left_in t m
    into t (inr m) = v.right_in t m

    out : (t : ℕ) → Mem t ps ⊎ Mem t qs → Mem t (ps ++ qs)
    out t (inl m) = Memᴰ.append_left qs m
    out t (inr m) = Memᴰ.append_right ps m

-- demand 3: the pieces learned apart and joined, and the whole learned in any order, agree number for number, and both are what demand 2 defines.
-- That no state has two successors needs no premise: the calls would have been refused.
pub pieces_whole : (n : ℕ) (ts ps qs : List ℕ) (whole a b o : Left) → Divided ts ps qs
    → Learns n ts whole → Learns n ps a → Learns n qs b → Joins n (piece_of a) (piece_of b) o → Same o whole × Complete n ts (piece_of o) × Complete n ts (piece_of whole)
pieces_whole n ts ps qs whole a b o v w l k j =
    let small = learns_small n ts whole w in
    let all = learn_complete n ts whole w in
    let joined = join_complete n small ts ps qs (piece_of a) (piece_of b) o v (learn_complete n ps a l).in_use (learn_complete n qs b k).in_use j in
    (in_use_same n small ts ts o whole joined.in_use all.in_use (λ t m. m) (λ t m. m), joined, all)
