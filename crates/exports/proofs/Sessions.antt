-- A session in C's five numbers, whose first may be too large for the session's n: take is made with another n then. Neither is a panel size, so both are refused with 2 and nothing changes.
use mathlib.Core.Path.{◌≡◌, refl, sym, ap, subst, ◌∙◌}
use mathlib.Core.Bool.{Bool, true, false, not, ◌&&◌}
use mathlib.Core.List.{List, [], ◌∷◌}
use Prim.Native.Nat.{ℕ, zero, suc, ◌<◌}
use native.Mathlib.Omega.{arith}
use lib.Dec.{leb, ltb}
use lib.ListN.{get_or}
use Rattle.std.specs.Prelude.{Result, Ok, Err, OkIff}
use Rattle.std.specs.Result.{result_unwrap_or}
use borrow.Author.Tests.{le-ltb, leb-false, le-leb, lt-leb}
use Rattle.std.proofs.Math.Nat.{lt_of_not-le}
use Rattle.panel.specs.Masks.{panel_size}
use Rattle.answers.specs.Answers.{plain, if_done}
use Rattle.answers.specs.declared.Answer.{Answer}
use Rattle.answers.proofs.Laws.{refuse_now, if_refused}
use Rattle.calls.specs.Take.{take_code, take_answer, take_book, take_words}
use Rattle.calls.proofs.Ladder.{take_asks}
use Rattle.sessions.specs.declared.Session.{Session}
use Rattle.sessions.specs.declared.Outcome.{Outcome}
use Rattle.sessions.specs.Sessions.{counted, totals_fit, session_after, session_answer, session_taken, session_book, session_words}
use Rattle.sessions.proofs.Outcomes.{after_refused}
use Rattle.lent.specs.Lent.{TakesLent}
use Rattle.lent.proofs.Laws.{lent_determined}
use Rattle.public.specs.PublicCalls.{session_take_lent}
use Rattle.exports.specs.Numbers.{numbers, session_numbers, session_in, Hands}
use Rattle.exports.specs.Sizes.{narrowed, sized}

-- a number that fits is read as it stands, and any other as a number above 10
narrowed_same : (k : ℕ) → leb k 4294967295 ≡ true → narrowed k ≡ k
unfolding narrowed
narrowed_same k p = simp p

narrowed_large : (k : ℕ) → leb k 4294967295 ≡ false → 10 < narrowed k
unfolding narrowed
narrowed_large k p = simp p (omega arith)

-- what `try_from` and `unwrap_or` make of a number of 64 bits
pub narrowed_tried : {E : Type 0} (x : ℕ) (r : Result ℕ E) → OkIff r (x < 4294967296) x → result_unwrap_or r 4294967295 ≡ narrowed x
unfolding narrowed
narrowed_tried x (Ok y) h = h.1 ∙ sym (narrowed_same x (le-leb x 4294967295 (omega (arith, h.0))))
narrowed_tried x (Err e) h = simp (lt-leb x 4294967295 (let g : 4294967296 < suc x = lt_of_not-le h in omega (arith, g)))

-- take leaves n as it is
n_stays : (s : Session) (book sheet : List ℕ) (i j : ℕ) → (session_taken s book sheet i j).n ≡ s.n
unfolding session_taken session_after
n_stays s book sheet i j = go (session_answer s book sheet i j).code
  where
    go : (c : ℕ) → (if_done c (counted s (session_answer s book sheet i j)) s).n ≡ s.n
    go zero = refl
    go (suc c) = refl

module _ (s : Session) (book sheet : List ℕ) (i j : ℕ) where
  -- a take through a session of k relays, above 10
  module _ (k : ℕ) (large : 10 < k) where
    code : ℕ
    code = take_code (not (totals_fit (sized k s))) k book s.book_count sheet s.sheet_count i j

    no_size : not (panel_size k) ≡ true
    unfolding panel_size
    no_size = simp (le-ltb k 11 large) (no_both (ltb 0 k))
      where
        no_both : (b : Bool) → not (b && false) ≡ true
        no_both true = refl
        no_both false = refl

    code_two : code ≡ 2
    unfolding code
    code_two = take_asks (not (totals_fit (sized k s))) k book s.book_count sheet s.sheet_count i j ∙ refuse_now (not (panel_size k)) 2 _ no_size

    refused : code ≡ 0 → ⊥
    refused e = omega (arith, code_two, e)

    answer_two : session_answer (sized k s) book sheet i j ≡ plain 2 0 s.book_count s.sheet_count
    unfolding code session_answer take_answer
    answer_two = if_refused code _ _ refused ∙ ap (λ (c : ℕ). plain c 0 s.book_count s.sheet_count) code_two

    -- it is refused, and nothing changes
    size_refused : TakesLent (sized k s) book sheet i j (sized k s) book sheet (plain 2 0 s.book_count s.sheet_count)
    unfolding code session_taken session_book session_words take_book take_words
    size_refused = record {
      answer = sym answer_two;
      session = after_refused (sized k s) (session_answer (sized k s) book sheet i j) (λ e. absurd (two (sym (ap (λ (a : Answer). a.code) answer_two) ∙ e)));
      book_words = sym (if_refused code _ _ refused);
      sheet_words = sym (if_refused code _ _ refused);
    }
      where
        two : ◌≡◌ {A = ℕ} 2 0 → ⊥
        two e = omega (arith, e)

  -- the take with m in place of k is the take with k
  module _ (k m : ℕ) (t : Session) (book' sheet' : List ℕ) (r : Answer) (h : TakesLent (sized m s) book sheet i j t book' sheet' r) where
    -- where they are one
    same_size : m ≡ k → TakesLent (sized k s) book sheet i j (sized k t) book' sheet' r
    same_size e = record { answer = g.answer; session = stays ∙ g.session; book_words = g.book_words; sheet_words = g.sheet_words }
      where
        g : TakesLent (sized k s) book sheet i j t book' sheet' r
        g = subst (λ (x : ℕ). TakesLent (sized x s) book sheet i j t book' sheet' r) e h

        stays : sized k t ≡ t
        stays = ap (λ (x : ℕ). sized x t) (sym (ap (λ (x : Session). x.n) g.session ∙ n_stays (sized k s) book sheet i j))

    -- where neither is a panel size
    both_large : 10 < k → 10 < m → TakesLent (sized k s) book sheet i j (sized k t) book' sheet' r
    both_large lk lm =
        let e = lent_determined (sized m s) book sheet i j t (sized m s) book' book sheet' sheet r _ h (size_refused m lm) in
        let g = size_refused k lk in
        record { answer = e.0 ∙ g.answer; session = ap (sized k) e.1 ∙ g.session; book_words = e.2 ∙ g.book_words; sheet_words = e.3 ∙ g.sheet_words }

  -- the take with the narrowed k is the take with k
  pub take_narrowed : (k : ℕ) (u t : Session) (book' sheet' : List ℕ) (r : Answer) → u ≡ sized (narrowed k) s → TakesLent u book sheet i j t book' sheet' r → TakesLent (sized k s) book sheet i j (sized k t) book' sheet' r
  take_narrowed k u t book' sheet' r e h = go (leb k 4294967295) refl
    where
      g : TakesLent (sized (narrowed k) s) book sheet i j t book' sheet' r
      g = subst (λ (x : Session). TakesLent x book sheet i j t book' sheet' r) e h

      go : (b : Bool) → leb k 4294967295 ≡ b → TakesLent (sized k s) book sheet i j (sized k t) book' sheet' r
      go true p = same_size k (narrowed k) t book' sheet' r g (narrowed_same k p)
      go false p = both_large k (narrowed k) t book' sheet' r g (omega (arith, leb-false k 4294967295 p)) (narrowed_large k p)

-- a session xs in five numbers: what take handed back of it, its first number being left as it stood
pub take_handed : (xs book sheet : List ℕ) (i j : ℕ) (u : Session) (o : Outcome) (xs' book' sheet' out : List ℕ) (r : ℕ)
    → u ≡ sized (narrowed (get_or xs 0 0)) (session_in xs) → TakesLent u book sheet i j o.session book' sheet' o.answer
    → xs' ≡ session_numbers (sized (get_or xs 0 0) o.session) → out ≡ numbers o.answer → r ≡ o.answer.code
    → Hands (session_take_lent (session_in xs) book sheet i j) (xs' ∷ book' ∷ sheet' ∷ []) out r
take_handed xs book sheet i j u o xs' book' sheet' out r e h kept stored told = record {
  result = (o.answer, sized (get_or xs 0 0) o.session, book', sheet');
  meets = take_narrowed (session_in xs) book sheet i j (get_or xs 0 0) u o.session book' sheet' o.answer e h;
  found = ap (λ (ys : List ℕ). ys ∷ book' ∷ sheet' ∷ []) kept;
  stored = stored;
  told = told;
}
