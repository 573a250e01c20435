-- No room, one theorem for each call that answers 8, 9 or 12, over its contract and nothing else.
use mathlib.Core.Path.{◌≡◌, refl, sym, ap, ◌∙◌, subst}
use mathlib.Core.Logic.{◌⊎◌, inl, inr, ◌↔◌}
use mathlib.Core.Bool.{Bool, true, false, not, ◌&&◌, ◌||◌, cond, false≢true}
use mathlib.Core.List.{List, [], ◌∷◌}
use Prim.Native.Nat.{ℕ, zero, suc, ◌^◌, ◌≤◌, ◌<◌}
use native.Mathlib.Omega.{arith}
use lib.Dec.{ltb, leb, eqb}
use lib.ListN.{length, take}
use borrow.Author.Tests.{ltb-true, ltb-false, lt-ltb, le-ltb, leb-true, leb-false, eqb-true, eqb-false, not-false}
use Rattle.panel.specs.Masks.{panel_size}
use Rattle.panel.specs.Transitions.{transition_word}
use Rattle.prime.specs.Sheets.{good_sheet, fresh_sheet, take_sheet, struck_count, added_count}
use Rattle.book.specs.Books.{good_book, told, against, with_word, clash}
use Rattle.sheet.proofs.Fresh.{fresh_length}
use Rattle.answers.specs.Answers.{refuse, plain, done, if_done}
use Rattle.answers.specs.declared.Answer.{Answer}
use Rattle.answers.proofs.Laws.{refuse_first, refuse_after}
use Rattle.calls.specs.Fresh.{fresh_code, fresh_answer, Fresh}
use Rattle.calls.specs.Take.{given_code, entry_code, take_code, take_answer, Taken}
use Rattle.learning.specs.Learn.{Learned}
use Rattle.joining.specs.Joining.{Piece, book_in, sheet_in, joined_book, joined_sheet, exceeds, pieces_code, join_code, join_answer, Joined, GoodPieces}
use Rattle.joining.proofs.Judging.{pieces_e, pieces_i, pieces_refused}
use Rattle.sessions.specs.Sessions.{totals_fit, session_answer, Starts, Takes}
use Rattle.sessions.specs.declared.Session.{Session}
use Rattle.sessions.specs.declared.Outcome.{Outcome}
use Rattle.lent.specs.Lent.{TakesLent}
use Rattle.headers.specs.Layouts.{recording, sheet}
use Rattle.headers.specs.Accepted.{Accepted}
use Rattle.headers.specs.Verdicts.{judge_of}
use Rattle.headers.proofs.Accepting.{good_iff_text}
use Rattle.headers.specs.Verdicts.{Verdict}
use Rattle.std.specs.Prelude.{Ok, Err}
use Rattle.reading.specs.Rows.{text_words, sheet_words}
use Rattle.returned.specs.Returned.{sheet_answer_for, sheet_answer, ReadsSheet}
use Rattle.sorting.specs.Orders.{sorted}
use Rattle.reading.specs.Reading.{refusal, answer_for, Reads, laid_answer}
use Rattle.reading.specs.declared.ReadAnswer.{ReadAnswer}
use Rattle.naming.specs.Columns.{names_for}
use Rattle.writing.specs.SheetText.{sheet_text}
use Rattle.writing.specs.Writing.{write_code, Writes}
use Rattle.writing.specs.declared.WriteAnswer.{WriteAnswer}
use Rattle.writing.proofs.WriteLaws.{size_small}
use Rattle.program.specs.Program.{Runs}
use Rattle.handover.specs.Learning.{invalid, contradicted, book_full, sheet_full, LearnRefused, no_panel, no_room, at_word}
use Rattle.handover.proofs.Learning.{refused_exactly}
use Rattle.handover.proofs.LearnInstances.{instances}
use Rattle.promises.specs.NoRoom.{FreshNine, TakeEight, TakeNine, SessionEight, SessionNine, BookFull, SheetFull, LearnEight, LearnNine, JoinEight, JoinNine, ReadEight, SheetReadEight, WriteTwelve, RunEight, RunNine, RunTwelve}
use Rattle.promises.specs.Printed.{Recorded, Refused, too_long, faulty, too_many, contradicted as told-twice, too_large, Rooms}
use Rattle.promises.proofs.Exactly.{refusal_exactly}
use Rattle.inner.specs.Booking.{booking_code, inner_code}

-- ---- ladders of refusals

-- a ladder comes to a later code exactly where the test fails and the rest comes to it
rung : (b : Bool) (c later d : ℕ) → (c ≡ d → ⊥) → (refuse b c later ≡ d) ↔ ((b ≡ false) × (later ≡ d))
rung true c later d f = (λ e. absurd (f e), λ k. absurd (false≢true (sym k.0)))
rung false c later d f = (λ e. (refl, e), λ k. k.1)

-- and to the code of a test of room exactly where the count exceeds the room, if no later test has that code
exceeded : (room count c later : ℕ) → (later ≡ c → ⊥) → (refuse (ltb room count) c later ≡ c) ↔ (room < count)
exceeded room count c later f = (λ e. go (ltb room count) refl e, λ l. ap (λ (b : Bool). refuse b c later) (lt-ltb room count l))
  where
    go : (b : Bool) → ltb room count ≡ b → refuse b c later ≡ c → room < count
    go true q e = ltb-true room count q
    go false q e = absurd (f e)

-- a code that is asked first, and then others
first : (c later d : ℕ) → refuse (not (eqb c 0)) c later ≡ d → (c ≡ d) ⊎ ((c ≡ 0) × (later ≡ d))
first zero later d e = inr (refl, e)
first (suc c) later d e = inl (refuse_first (suc c) later (λ q. omega (arith, q)) ∙ e)

most : (b : Bool) (c later m : ℕ) → c ≤ m → later ≤ m → refuse b c later ≤ m
most true c later m h k = h
most false c later m h k = k

-- the code of an answer that a code picks
picked : (c : ℕ) (a : Answer) (p b s : ℕ) → a.code ≡ 0 → (if_done c a (plain c p b s)).code ≡ c
picked zero a p b s e = e
picked (suc c) a p b s e = refl

-- an answer has the code of its ladder
coded : {x y d : ℕ} {P : Type 0} → x ≡ y → ((y ≡ d) ↔ P) → ((x ≡ d) ↔ P)
coded e i = (λ q. i.0 (sym e ∙ q), λ p. e ∙ i.1 p)

-- ---- fresh, and the start of a session

fresh_ladder : (n room : ℕ) → (fresh_code n room ≡ 9) ↔ ((panel_size n ≡ true) × (room < length (fresh_sheet n)))
unfolding fresh_code
fresh_ladder n room =
    let asks = rung (not (panel_size n)) 2 (refuse (ltb room n) 9 0) 9 (λ q. omega (arith, q)) in
    let full = exceeded room n 9 0 (λ q. omega (arith, q)) in (
      λ e. (not-false (panel_size n) (asks.0 e).0, omega (arith, full.0 (asks.0 e).1, fresh_length n)),
      λ k. asks.1 (ap not k.0, full.1 (omega (arith, k.1, fresh_length n))),
    )

fresh_code_lem : (n : ℕ) (sheet : List ℕ) → (fresh_answer n sheet).code ≡ fresh_code n (length sheet)
unfolding fresh_answer
fresh_code_lem n sheet = picked (fresh_code n (length sheet)) (plain 0 0 0 n) 0 0 0 refl

pub fresh_nine : {n : ℕ} {sheet sheet' : List ℕ} {r : Answer} → Fresh n sheet sheet' r → FreshNine n sheet r
fresh_nine {n = n} {sheet = sheet} q = coded (ap (λ (a : Answer). a.code) q.answer ∙ fresh_code_lem n sheet) (fresh_ladder n (length sheet))

pub start_nine : {n : ℕ} {sheet sheet' : List ℕ} {r : Outcome} → Starts n sheet sheet' r → FreshNine n sheet r.answer
start_nine {n = n} {sheet = sheet} q = coded (ap (λ (a : Answer). a.code) q.answer ∙ fresh_code_lem n sheet) (fresh_ladder n (length sheet))

-- ---- take, by itself and through a session

module _ (spoilt : Bool) (n : ℕ) (book : List ℕ) (bookCount : ℕ) (sheet : List ℕ) (sheetCount i j : ℕ) where
  abbrev t : ℕ
  t = transition_word i j

  abbrev b : List ℕ
  b = take bookCount book

  abbrev lent : ℕ
  lent = given_code spoilt n book bookCount sheet sheetCount i j

  abbrev entry : ℕ
  entry = entry_code spoilt n book bookCount sheet sheetCount i j

  -- 2 to 6 are asked first
  lent_most : lent ≤ 6
  unfolding given_code
  lent_most =
      go (not (panel_size n)) (spoilt || (ltb (length book) bookCount || ltb (length sheet) sheetCount)) (not (good_book n b)) (not (good_sheet n (take sheetCount sheet))) (not (ltb i (2 ^ n) && ltb j (2 ^ n)))
    where
      go : (v w x y z : Bool) → refuse v 2 (refuse w 3 (refuse x 4 (refuse y 5 (refuse z 6 0)))) ≤ 6
      go v w x y z =
          most v 2 _ 6 (omega arith) (most w 3 _ 6 (omega arith) (most x 4 _ 6 (omega arith) (most y 5 _ 6 (omega arith) (most z 6 0 6 (omega arith) (omega arith)))))

  booking_8 : (booking_code t (length book) b ≡ 8) ↔ ((told t b ≡ false) × (against t b ≡ false) × (length book < length (with_word t b)))
  unfolding booking_code
  booking_8 =
      let one = rung (told t b) 1 (refuse (against t b) 7 (refuse (ltb (length book) (length (with_word t b))) 8 0)) 8 (λ q. omega (arith, q)) in
      let seven = rung (against t b) 7 (refuse (ltb (length book) (length (with_word t b))) 8 0) 8 (λ q. omega (arith, q)) in
      let full = exceeded (length book) (length (with_word t b)) 8 0 (λ q. omega (arith, q)) in (
        λ e. let h = one.0 e in let k = seven.0 h.1 in (h.0, k.0, full.0 k.1),
        λ k. one.1 (k.0, seven.1 (k.1, full.1 k.2)),
      )

  booking_most : booking_code t (length book) b ≤ 8
  unfolding booking_code
  booking_most =
      most (told t b) 1 (refuse (against t b) 7 (refuse (ltb (length book) (length (with_word t b))) 8 0)) 8 (omega arith)
      (most (against t b) 7 (refuse (ltb (length book) (length (with_word t b))) 8 0) 8 (omega arith) (most (ltb (length book) (length (with_word t b))) 8 0 8 (omega arith) (omega arith)))

  entry_8 : (entry ≡ 8) ↔ ((lent ≡ 0) × (told t b ≡ false) × (against t b ≡ false) × (length book < length (with_word t b)))
  unfolding entry_code
  entry_8 = (
    λ e. go (first lent (booking_code t (length book) b) 8 e),
    λ k. refuse_after lent (booking_code t (length book) b) k.0 ∙ booking_8.1 (k.1, k.2, k.3),
  )
    where
      go : (lent ≡ 8) ⊎ ((lent ≡ 0) × (booking_code t (length book) b ≡ 8)) → (lent ≡ 0) × (told t b ≡ false) × (against t b ≡ false) × (length book < length (with_word t b))
      go (inl e) = absurd (omega (arith, e, lent_most))
      go (inr k) = let f = booking_8.0 k.1 in (k.0, f.0, f.1, f.2)

  entry_most : entry ≤ 8
  unfolding entry_code
  entry_most = most (not (eqb lent 0)) lent (booking_code t (length book) b) 8 (omega (arith, lent_most)) booking_most

  inner_9 : (inner_code n t sheet sheetCount ≡ 9) ↔ (length sheet < length (take_sheet n (take sheetCount sheet) t))
  unfolding inner_code
  inner_9 = exceeded (length sheet) (length (take_sheet n (take sheetCount sheet) t)) 9 0 (λ q. omega (arith, q))

  -- the new sheet is asked for 9 alone
  inner_only : inner_code n t sheet sheetCount ≡ 8 → ⊥
  unfolding inner_code
  inner_only e =
      let k = (rung (ltb (length sheet) (length (take_sheet n (take sheetCount sheet) t))) 9 0 8 (λ q. omega (arith, q))).0 e in
      omega (arith, k.1)

  take_ladder_8 : (take_code spoilt n book bookCount sheet sheetCount i j ≡ 8) ↔ ((lent ≡ 0) × (told t b ≡ false) × (against t b ≡ false) × (length book < length (with_word t b)))
  unfolding take_code
  take_ladder_8 = (
    λ e. go (first entry (inner_code n t sheet sheetCount) 8 e),
    λ k. let e = entry_8.1 k in sym (refuse_first entry (inner_code n t sheet sheetCount) (λ q. omega (arith, e, q))) ∙ e,
  )
    where
      go : (entry ≡ 8) ⊎ ((entry ≡ 0) × (inner_code n t sheet sheetCount ≡ 8)) → (lent ≡ 0) × (told t b ≡ false) × (against t b ≡ false) × (length book < length (with_word t b))
      go (inl e) = entry_8.0 e
      go (inr k) = absurd (inner_only k.1)

  take_ladder_9 : (take_code spoilt n book bookCount sheet sheetCount i j ≡ 9) ↔ ((entry ≡ 0) × (length sheet < length (take_sheet n (take sheetCount sheet) t)))
  unfolding take_code
  take_ladder_9 = (
    λ e. go (first entry (inner_code n t sheet sheetCount) 9 e),
    λ k. refuse_after entry (inner_code n t sheet sheetCount) k.0 ∙ inner_9.1 k.1,
  )
    where
      go : (entry ≡ 9) ⊎ ((entry ≡ 0) × (inner_code n t sheet sheetCount ≡ 9)) → (entry ≡ 0) × (length sheet < length (take_sheet n (take sheetCount sheet) t))
      go (inl e) = absurd (omega (arith, e, entry_most))
      go (inr k) = (k.0, inner_9.0 k.1)

  take_code_lem : (take_answer spoilt n book bookCount sheet sheetCount i j).code ≡ take_code spoilt n book bookCount sheet sheetCount i j
  unfolding take_answer
  take_code_lem =
      picked (take_code spoilt n book bookCount sheet sheetCount i j)
      (done (length (with_word t b)) (length (take_sheet n (take sheetCount sheet) t)) (struck_count (take sheetCount sheet) (take_sheet n (take sheetCount sheet) t)) (added_count (take sheetCount sheet) (take_sheet n (take sheetCount sheet) t)))
      0 bookCount sheetCount refl

  module _ {book' sheet' : List ℕ} {r : Answer} (q : Taken spoilt n book bookCount sheet sheetCount i j book' sheet' r) where
    pub take_eight : TakeEight spoilt n book bookCount sheet sheetCount i j r
    take_eight = coded (ap (λ (a : Answer). a.code) q.answer ∙ take_code_lem) take_ladder_8

    pub take_nine : TakeNine spoilt n book bookCount sheet sheetCount i j r
    take_nine = coded (ap (λ (a : Answer). a.code) q.answer ∙ take_code_lem) take_ladder_9

module _ (s : Session) (book sheet : List ℕ) (i j : ℕ) where
  session_code : (session_answer s book sheet i j).code ≡ take_code (not (totals_fit s)) s.n book s.book_count sheet s.sheet_count i j
  unfolding session_answer
  session_code = take_code_lem (not (totals_fit s)) s.n book s.book_count sheet s.sheet_count i j

  session_8 : {r : Answer} → r ≡ session_answer s book sheet i j → SessionEight s book sheet i j r
  session_8 e = coded (ap (λ (a : Answer). a.code) e ∙ session_code) (take_ladder_8 (not (totals_fit s)) s.n book s.book_count sheet s.sheet_count i j)

  session_9 : {r : Answer} → r ≡ session_answer s book sheet i j → SessionNine s book sheet i j r
  session_9 e = coded (ap (λ (a : Answer). a.code) e ∙ session_code) (take_ladder_9 (not (totals_fit s)) s.n book s.book_count sheet s.sheet_count i j)

  -- by value
  module _ {book' sheet' : List ℕ} {r : Outcome} (q : Takes s book sheet i j book' sheet' r) where
    pub session_eight : SessionEight s book sheet i j r.answer
    session_eight = session_8 q.answer

    pub session_nine : SessionNine s book sheet i j r.answer
    session_nine = session_9 q.answer

  -- and lent
  module _ {s' : Session} {book' sheet' : List ℕ} {r : Answer} (q : TakesLent s book sheet i j s' book' sheet' r) where
    pub lent_eight : SessionEight s book sheet i j r
    lent_eight = session_8 q.answer

    pub lent_nine : SessionNine s book sheet i j r
    lent_nine = session_9 q.answer

-- ---- learn

module _ (n : ℕ) (ts : List ℕ) (bookRoom sheetRoom : ℕ) where
  refused_8 : {c k : ℕ} → LearnRefused n ts bookRoom sheetRoom c k → c ≡ 8 → BookFull n ts bookRoom sheetRoom k
  refused_8 (no_panel e) q = absurd (omega (arith, q))
  refused_8 (no_room e g) q = absurd (omega (arith, q))
  refused_8 (at_word ps w k c b l (invalid e)) q = absurd (omega (arith, q))
  refused_8 (at_word ps w k c b l (contradicted v e)) q = absurd (omega (arith, q))
  refused_8 (at_word ps w k c b l (book_full a g)) q = record { ps = ps; w = w; before = b; learned = l; agrees = a; many = g }
  refused_8 (at_word ps w k c b l (sheet_full a h g)) q = absurd (omega (arith, q))

  abbrev FreshFull : ℕ → Type 0
  FreshFull k = (k ≡ 0) × (panel_size n ≡ true) × (sheetRoom < length (fresh_sheet n))

  refused_9 : {c k : ℕ} → LearnRefused n ts bookRoom sheetRoom c k → c ≡ 9 → FreshFull k ⊎ SheetFull n ts bookRoom sheetRoom k
  refused_9 (no_panel e) q = absurd (omega (arith, q))
  refused_9 (no_room e g) q = inl (refl, e, omega (arith, g, fresh_length n))
  refused_9 (at_word ps w k c b l (invalid e)) q = absurd (omega (arith, q))
  refused_9 (at_word ps w k c b l (contradicted v e)) q = absurd (omega (arith, q))
  refused_9 (at_word ps w k c b l (book_full a g)) q = absurd (omega (arith, q))
  refused_9 (at_word ps w k c b l (sheet_full a h g)) q = inr (record { ps = ps; w = w; before = b; learned = l; agrees = a; book_fits = h; many = g })

  nine_refused : (k : ℕ) → FreshFull k ⊎ SheetFull n ts bookRoom sheetRoom k → LearnRefused n ts bookRoom sheetRoom 9 k
  nine_refused k (inl f) = subst (LearnRefused n ts bookRoom sheetRoom 9) (sym f.0) (no_room f.1 (omega (arith, f.2, fresh_length n)))
  nine_refused k (inr f) = at_word f.ps f.w k 9 f.before f.learned (sheet_full f.agrees f.book_fits f.many)

module _ {n : ℕ} {ts : List ℕ} {bookRoom sheetRoom : ℕ} {book' sheet' : List ℕ} {r : Answer} (l : Learned n ts bookRoom sheetRoom book' sheet' r) where
  pub learn_eight : LearnEight n ts bookRoom sheetRoom r
  learn_eight k =
      let exact = refused_exactly l 8 k (λ q. omega (arith, q)) in
      (λ e. refused_8 n ts bookRoom sheetRoom (exact.0 e) refl, λ f. exact.1 (at_word f.ps f.w k 8 f.before f.learned (book_full f.agrees f.many)))

  pub learn_nine : LearnNine n ts bookRoom sheetRoom r
  learn_nine k =
      let exact = refused_exactly l 9 k (λ q. omega (arith, q)) in
      (λ e. refused_9 n ts bookRoom sheetRoom (exact.0 e) refl, λ f. exact.1 (nine_refused n ts bookRoom sheetRoom k f))

-- K3 in a book of one word, and K6 in a sheet of three: neither definition is empty
pub book_full_k3 : BookFull 1 (transition_word 0 0 ∷ transition_word 1 0 ∷ []) 1 1 1
book_full_k3 = refused_8 1 (transition_word 0 0 ∷ transition_word 1 0 ∷ []) 1 1 instances.k3_book_full refl

pub sheet_full_k6 : SheetFull 2 (transition_word 3 0 ∷ []) 1 3 0
sheet_full_k6 = go (refused_9 2 (transition_word 3 0 ∷ []) 1 3 instances.k6_sheet_full refl)
  where
    go : FreshFull 2 (transition_word 3 0 ∷ []) 1 3 0 ⊎ SheetFull 2 (transition_word 3 0 ∷ []) 1 3 0 → SheetFull 2 (transition_word 3 0 ∷ []) 1 3 0
    go (inl f) = absurd (omega (arith, f.2, fresh_length 2))
    go (inr f) = f

-- ---- join

module _ (n : ℕ) (a b : Piece) (bookRoom sheetRoom : ℕ) where
  pieces_most : pieces_code n a b 0 ≤ 5
  unfolding pieces_code
  pieces_most =
      go (not (panel_size n)) (exceeds a || exceeds b) (not (good_book n (book_in a) && good_book n (book_in b))) (not (good_sheet n (sheet_in a) && good_sheet n (sheet_in b)))
    where
      go : (w x y z : Bool) → refuse w 2 (refuse x 3 (refuse y 4 (refuse z 5 0))) ≤ 5
      go w x y z = most w 2 _ 5 (omega arith) (most x 3 _ 5 (omega arith) (most y 4 _ 5 (omega arith) (most z 5 0 5 (omega arith) (omega arith))))

  -- a later code is given exactly where the pieces are good and the rest of the ladder gives it
  pieces_later : (later d : ℕ) → 5 < d → (pieces_code n a b later ≡ d) ↔ (GoodPieces n a b × (later ≡ d))
  pieces_later later d h = (λ e. go (eqb (pieces_code n a b 0) 0) refl e, λ k. sym (pieces_i n a b later k.0) ∙ k.1)
    where
      go : (z : Bool) → eqb (pieces_code n a b 0) 0 ≡ z → pieces_code n a b later ≡ d → GoodPieces n a b × (later ≡ d)
      go true q e = let g = (pieces_e n a b 0 (eqb-true (pieces_code n a b 0) 0 q)).0 in (g, pieces_i n a b later g ∙ e)
      go false q e = absurd (omega (arith, h, e, pieces_most, pieces_refused n a b later (eqb-false (pieces_code n a b 0) 0 q)))

  abbrev nine : ℕ
  nine = refuse (ltb sheetRoom (length (joined_sheet n a b))) 9 0

  abbrev eight : ℕ
  eight = refuse (ltb bookRoom (length (joined_book a b))) 8 nine

  join_ladder_8 : (join_code n a b bookRoom sheetRoom ≡ 8) ↔ (GoodPieces n a b × (clash (book_in a) (book_in b) ≡ false) × (bookRoom < length (joined_book a b)))
  unfolding join_code
  join_ladder_8 =
      let pieces = pieces_later (refuse (clash (book_in a) (book_in b)) 7 eight) 8 (omega arith) in
      let seven = rung (clash (book_in a) (book_in b)) 7 eight 8 (λ q. omega (arith, q)) in
      let full = exceeded bookRoom (length (joined_book a b)) 8 nine nine_not in (
        λ e. let k = pieces.0 e in let f = seven.0 k.1 in (k.0, f.0, full.0 f.1),
        λ k. pieces.1 (k.0, seven.1 (k.1, full.1 k.2)),
      )
    where
      nine_not : nine ≡ 8 → ⊥
      nine_not e = let k = (rung (ltb sheetRoom (length (joined_sheet n a b))) 9 0 8 (λ q. omega (arith, q))).0 e in omega (arith, k.1)

  join_ladder_9 : (join_code n a b bookRoom sheetRoom ≡ 9)
      ↔ (GoodPieces n a b × (clash (book_in a) (book_in b) ≡ false) × (length (joined_book a b) ≤ bookRoom) × (sheetRoom < length (joined_sheet n a b)))
  unfolding join_code
  join_ladder_9 =
      let pieces = pieces_later (refuse (clash (book_in a) (book_in b)) 7 eight) 9 (omega arith) in
      let seven = rung (clash (book_in a) (book_in b)) 7 eight 9 (λ q. omega (arith, q)) in
      let fits = rung (ltb bookRoom (length (joined_book a b))) 8 nine 9 (λ q. omega (arith, q)) in
      let full = exceeded sheetRoom (length (joined_sheet n a b)) 9 0 (λ q. omega (arith, q)) in (
        λ e.
            let k = pieces.0 e in
            let f = seven.0 k.1 in
            let g = fits.0 f.1 in
            (k.0, f.0, ltb-false bookRoom (length (joined_book a b)) g.0, full.0 g.1),
        λ k. pieces.1 (k.0, seven.1 (k.1, fits.1 (le-ltb bookRoom (length (joined_book a b)) k.2, full.1 k.3))),
      )

  join_code_lem : (join_answer n a b bookRoom sheetRoom).code ≡ join_code n a b bookRoom sheetRoom
  unfolding join_answer
  join_code_lem = picked (join_code n a b bookRoom sheetRoom) (done (length (joined_book a b)) (length (joined_sheet n a b)) 0 0) 0 0 0 refl

module _ {n : ℕ} {a b : Piece} {book sheet book' sheet' : List ℕ} {r : Answer} (q : Joined n a b book sheet book' sheet' r) where
  pub join_eight : JoinEight n a b book sheet r
  join_eight = coded (ap (λ (x : Answer). x.code) q.answer ∙ join_code_lem n a b (length book) (length sheet)) (join_ladder_8 n a b (length book) (length sheet))

  pub join_nine : JoinNine n a b book sheet r
  join_nine = coded (ap (λ (x : Answer). x.code) q.answer ∙ join_code_lem n a b (length book) (length sheet)) (join_ladder_9 n a b (length book) (length sheet))

-- ---- text

-- 8 of a text that is bad: never
bad_ladder : (k : ℕ) (ws : List ℕ) (room : ℕ) → ((refusal 11 k).code ≡ 8) ↔ (((n : ℕ) × (◌≡◌ {A = Verdict} (Err k) (Ok n))) × (room < length ws))
bad_ladder k ws room = (λ e. absurd (omega (arith, e)), λ f. absurd (never f.0.0 f.0.1))
  where
    never : (n : ℕ) → ◌≡◌ {A = Verdict} (Err k) (Ok n) → ⊥
    never n e = let z : ◌≡◌ {A = ℕ} 0 1 = cc in omega arith

-- of a good one: exactly where its words are more than the room, if what is answered else is no 8
good_ladder : (n : ℕ) (ws : List ℕ) (room : ℕ) (d : ReadAnswer) → (d.code ≡ 8 → ⊥) → (b : Bool) → leb (length ws) room ≡ b
    → ((cond b d (refusal 8 0)).code ≡ 8) ↔ (((m : ℕ) × (◌≡◌ {A = Verdict} (Ok n) (Ok m))) × (room < length ws))
good_ladder n ws room d other true e = (λ q. absurd (other q), λ f. absurd (omega (arith, f.1, leb-true (length ws) room e)))
good_ladder n ws room d other false e = (λ q. ((n, refl), leb-false (length ws) room e), λ f. refl)

read_ladder : (v : Verdict) (ws : List ℕ) (room : ℕ) → ((answer_for v ws room).code ≡ 8) ↔ (((n : ℕ) × (v ≡ Ok n)) × (room < length ws))
read_ladder (Err k) ws room = bad_ladder k ws room
read_ladder (Ok n) ws room = good_ladder n ws room (record { code = 0; place = 0; n = n; count = length ws }) (λ q. omega (arith, q)) (leb (length ws) room) refl

sheet_ladder : (v : Verdict) (ws : List ℕ) (room : ℕ) → ((sheet_answer_for v ws room).code ≡ 8) ↔ (((n : ℕ) × (v ≡ Ok n)) × (room < length ws))
sheet_ladder (Err k) ws room = bad_ladder k ws room
sheet_ladder (Ok n) ws room = good_ladder n ws room _ (five (good_sheet n (sorted ws))) (leb (length ws) room) refl
  where
    five : (g : Bool) → (cond g (record { code = 0; place = 0; n = n; count = length ws }) (refusal 5 0)).code ≡ 8 → ⊥
    five true q = omega (arith, q)
    five false q = omega (arith, q)

pub read_eight : {t list list' : List ℕ} {r : ReadAnswer} → Reads t list list' r → ReadEight t list r
unfolding laid_answer
read_eight {t = t} {list = list} q =
    let ladder = coded (ap (λ (a : ReadAnswer). a.code) q.answer) (read_ladder (judge_of recording t) (text_words t) (length list)) in (
      λ e. let k = ladder.0 e in ((k.0.0, (good_iff_text recording t k.0.0).0 k.0.1), k.1),
      λ k. ladder.1 ((k.0.0, (good_iff_text recording t k.0.0).1 k.0.1), k.1),
    )

pub sheet_read_eight : {t words words' : List ℕ} {r : ReadAnswer} → ReadsSheet t words words' r → SheetReadEight t words r
unfolding sheet_answer
sheet_read_eight {t = t} {words = words} q =
    let ladder = coded (ap (λ (a : ReadAnswer). a.code) q.answer) (sheet_ladder (judge_of sheet t) (sheet_words t) (length words)) in (
      λ e. let k = ladder.0 e in ((k.0.0, (good_iff_text sheet t k.0.0).0 k.0.1), k.1),
      λ k. ladder.1 ((k.0.0, (good_iff_text sheet t k.0.0).1 k.0.1), k.1),
    )

module _ (n : ℕ) (names : List (List ℕ)) (sheet : List ℕ) (count room : ℕ) where
  abbrev s : List ℕ
  s = take count sheet

  abbrev twelve : ℕ
  twelve = refuse (ltb room (length (sheet_text n names s))) 12 0

  write_ladder : (write_code n names sheet count room ≡ 12) ↔ ((panel_size n ≡ true) × (count ≤ length sheet) × (good_sheet n s ≡ true) × (room < length (sheet_text n names s)))
  unfolding write_code
  write_ladder =
      let two = rung (not (panel_size n)) 2 (refuse (ltb (length sheet) count) 3 (refuse (not (good_sheet n s)) 5 twelve)) 12 (λ q. omega (arith, q)) in
      let three = rung (ltb (length sheet) count) 3 (refuse (not (good_sheet n s)) 5 twelve) 12 (λ q. omega (arith, q)) in
      let five = rung (not (good_sheet n s)) 5 twelve 12 (λ q. omega (arith, q)) in
      let full = exceeded room (length (sheet_text n names s)) 12 0 (λ q. omega (arith, q)) in (
        λ e.
            let f = two.0 e in
            let g = three.0 f.1 in
            let h = five.0 g.1 in
            (not-false (panel_size n) f.0, ltb-false (length sheet) count g.0, not-false (good_sheet n s) h.0, full.0 h.1),
        λ k. two.1 (ap not k.0, three.1 (le-ltb (length sheet) count k.1, five.1 (ap not k.2, full.1 k.3))),
      )

pub write_twelve : {n : ℕ} {sheet : List ℕ} {count : ℕ} {out out' : List ℕ} {r : WriteAnswer} (panel maker : List ℕ) → Writes n sheet count panel maker out out' r → WriteTwelve n sheet count panel maker out r
write_twelve {n = n} {sheet = sheet} {count = count} {out = out} panel maker q = coded (ap (λ (a : WriteAnswer). a.answer.code) q.answer) (write_ladder n (names_for panel maker n) sheet count (length out))

-- ---- the program in its rooms

abbrev ManyWords : List ℕ → ℕ → Type 0
ManyWords t k = (k ≡ 0) × (length t ≤ 24576) × ((n : ℕ) × Accepted recording n t) × (1024 < length (text_words t))

text_8 : (t : List ℕ) (c k : ℕ) → Refused t c k → c ≡ 8 → ManyWords t k
text_8 t _ _ (too_long l) q = absurd (omega (arith, q))
text_8 t _ _ (faulty k s p) q = absurd (omega (arith, q))
text_8 t _ _ (too_many n s g m) q = (refl, s, (n, g), m)
text_8 t _ _ (told-twice n k ts a f) q = absurd (omega (arith, q))
text_8 t _ _ (too_large n k ts a f) q = absurd (omega (arith, q))

text_9 : (t : List ℕ) (c k : ℕ) → Refused t c k → c ≡ 9 → (n : ℕ) × (ts : List ℕ) × Recorded t n ts × SheetFull n ts 1024 1024 k
text_9 t _ _ (too_long l) q = absurd (omega (arith, q))
text_9 t _ _ (faulty k s p) q = absurd (omega (arith, q))
text_9 t _ _ (too_many n s g m) q = absurd (omega (arith, q))
text_9 t _ _ (told-twice n k ts a f) q = absurd (omega (arith, q))
text_9 t _ _ (too_large n k ts a f) q = go (refused_9 n ts 1024 1024 f refl)
  where
    go : FreshFull n ts 1024 1024 k ⊎ SheetFull n ts 1024 1024 k → (m : ℕ) × (us : List ℕ) × Recorded t m us × SheetFull m us 1024 1024 k
    go (inl g) = absurd (omega (arith, g.2, fresh_length n, size_small n g.1))
    go (inr g) = (n, ts, a, g)

text_12 : (t : List ℕ) (c k : ℕ) → Refused t c k → c ≡ 12 → ⊥
text_12 t _ _ (too_long l) q = omega (arith, q)
text_12 t _ _ (faulty k s p) q = omega (arith, q)
text_12 t _ _ (too_many n s g m) q = omega (arith, q)
text_12 t _ _ (told-twice n k ts a f) q = omega (arith, q)
text_12 t _ _ (too_large n k ts a f) q = omega (arith, q)

module _ {t list book sheet out l b s out' : List ℕ} {r : ℕ} (rooms : Rooms list book sheet out) (runs : Runs t list book sheet out l b s out' r) where
  pub run_eight : RunEight t out out' r
  run_eight k = (
    λ f. text_8 t 8 k ((refusal_exactly rooms runs 8 k).0 f) refl,
    λ f. (refusal_exactly rooms runs 8 k).1 (subst (Refused t 8) (sym f.0) (too_many f.2.0 f.1 f.2.1 f.3)),
  )

  pub run_nine : RunNine t out out' r
  run_nine k = (
    λ f. text_9 t 9 k ((refusal_exactly rooms runs 9 k).0 f) refl,
    λ f. (refusal_exactly rooms runs 9 k).1 (too_large f.0 k f.1 f.2 (nine_refused f.0 f.1 1024 1024 k (inr f.3))),
  )

  pub run_twelve : RunTwelve t out out' r
  run_twelve k f = text_12 t 12 k ((refusal_exactly rooms runs 12 k).0 f) refl
