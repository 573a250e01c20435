-- The definitions of learning leave no choice: what is learnable is not refused, and a refusal has one code and one place.
use mathlib.Core.Path.{◌≡◌, refl, sym, ap, ◌∙◌, subst}
use mathlib.Core.Bool.{true, false, false≢true}
use mathlib.Core.List.Memᴰ
use mathlib.Core.List.Memᴰ.{head as here}
use mathlib.Core.List.{List, [], ◌∷◌, ◌++◌, append_assoc, head-eq_of_cons-eq, tail-eq_of_cons-eq}
use Prim.Native.Nat.{ℕ, ◌≤◌}
use native.Mathlib.Omega.{arith}
use lib.ListN.{length}
use Rattle.prime.proofs.Laws.{fresh_sheet_of}
use Rattle.book.specs.Books.{against, book_of}
use Rattle.book.proofs.Telling.{against_e, against_i}
use Rattle.book.proofs.BookOf.{book_within}
use Rattle.sheet.proofs.Fresh.{fresh_length}
use Rattle.calls.proofs.Codes.{size_of}
use Rattle.handover.specs.Learning.{Learnable, Before, Agrees, Stops, invalid, contradicted, book_full, sheet_full, LearnRefused, no_panel, no_room, at_word}

-- ---- words of a list

-- two words of one list, each with those before it: they are the same, or one stands before the other
data Order (ps qs : List ℕ) (w v : ℕ) : Type 0 where
  same : ps ≡ qs → w ≡ v → Order ps qs w v
  first : (m : List ℕ) → qs ≡ ps ++ w ∷ m → Order ps qs w v
  second : (m : List ℕ) → ps ≡ qs ++ v ∷ m → Order ps qs w v

compare : (ps qs : List ℕ) (w v : ℕ) (rest others : List ℕ) → ps ++ w ∷ rest ≡ qs ++ v ∷ others → Order ps qs w v
compare [] [] w v rest others e = same refl (head-eq_of_cons-eq e)
compare [] (q ∷ qs) w v rest others e = first qs (ap (λ (z : ℕ). z ∷ qs) (sym (head-eq_of_cons-eq e)))
compare (p ∷ ps) [] w v rest others e = second ps (ap (λ (z : ℕ). z ∷ ps) (head-eq_of_cons-eq e))
compare (p ∷ ps) (q ∷ qs) w v rest others e = go (compare ps qs w v rest others (tail-eq_of_cons-eq e))
  where
    h : p ≡ q
    h = head-eq_of_cons-eq e

    go : Order ps qs w v → Order (p ∷ ps) (q ∷ qs) w v
    go (same k l) = same (ap (λ (z : ℕ). z ∷ ps) h ∙ ap (λ (z : List ℕ). q ∷ z) k) l
    go (first m k) = first m (ap (λ (z : List ℕ). q ∷ z) k ∙ ap (λ (z : ℕ). z ∷ (ps ++ w ∷ m)) (sym h))
    go (second m k) = second m (ap (λ (z : List ℕ). p ∷ z) k ∙ ap (λ (z : ℕ). z ∷ (qs ++ v ∷ m)) h)

-- a word that is against the words before it is against the whole list
against_more : (ps : List ℕ) (w : ℕ) (m : List ℕ) → against w ps ≡ true → against w (ps ++ w ∷ m) ≡ false → ⊥
against_more ps w m e f =
    let k = against_e w ps e in
    false≢true (sym f ∙ against_i w (ps ++ w ∷ m) k.0 (Memᴰ.append_left (w ∷ m) k.1) k.2)

module _ (n bookRoom sheetRoom : ℕ) where
  -- ---- what is refused is not learnable

  -- a refused word stops learning, whatever follows it
  stops_all : (ps : List ℕ) (w : ℕ) {c : ℕ} → Stops n ps w bookRoom sheetRoom c → (m : List ℕ) → Learnable n (ps ++ w ∷ m) bookRoom sheetRoom → ⊥
  stops_all ps w (invalid e) m l = false≢true (sym e ∙ l.valid w (Memᴰ.append_right ps (here refl)))
  stops_all ps w (contradicted v e) m l = against_more ps w m e (l.one_next w (Memᴰ.append_right ps (here refl)))
  stops_all ps w (book_full a g) m l =
      omega (
        arith,
        g,
        l.book_fits,
        ap (λ (z : List ℕ). length (book_of z)) (append_assoc ps (w ∷ []) m),
        book_within (ps ++ w ∷ []) ((ps ++ w ∷ []) ++ m) (λ t k. Memᴰ.append_left m k),
      )
  stops_all ps w (sheet_full a h g) m l = omega (arith, g, l.sheets_fit (ps ++ w ∷ []) m (sym (append_assoc ps (w ∷ []) m)))

  -- the fresh sheet of what is learnable fits
  pub fresh_fits : {ts : List ℕ} → Learnable n ts bookRoom sheetRoom → n ≤ sheetRoom
  fresh_fits {ts = ts} l = omega (arith, l.sheets_fit [] ts refl, ap length (fresh_sheet_of n (size_of n l.size).1), fresh_length n)

  pub learnable_not_refused : {ts : List ℕ} {c p : ℕ} → Learnable n ts bookRoom sheetRoom → LearnRefused n ts bookRoom sheetRoom c p → ⊥
  learnable_not_refused l (no_panel e) = false≢true (sym e ∙ l.size)
  learnable_not_refused l (no_room e g) = omega (arith, g, fresh_fits l)
  learnable_not_refused l (at_word ps w k c a q s) = stops_all ps w s a.rest (subst (λ (z : List ℕ). Learnable n z bookRoom sheetRoom) a.whole l)

  -- ---- one code and one place

  -- a word that contradicts an earlier one does not agree
  disagrees : (ps : List ℕ) (w : ℕ) → against w ps ≡ true → Agrees n ps w → ⊥
  disagrees ps w e a = against_more ps w [] e (a.one_next w (Memᴰ.append_right ps (here refl)))

  -- a word is refused by one code
  stops_once : (ps : List ℕ) (w : ℕ) {c d : ℕ} → Stops n ps w bookRoom sheetRoom c → Stops n ps w bookRoom sheetRoom d → c ≡ d
  stops_once ps w (invalid e) (invalid f) = refl
  stops_once ps w (invalid e) (contradicted v i) = absurd (false≢true (sym e ∙ v))
  stops_once ps w (invalid e) (book_full a g) = absurd (false≢true (sym e ∙ a.valid))
  stops_once ps w (invalid e) (sheet_full a h g) = absurd (false≢true (sym e ∙ a.valid))
  stops_once ps w (contradicted v i) (invalid e) = absurd (false≢true (sym e ∙ v))
  stops_once ps w (contradicted v e) (contradicted u f) = refl
  stops_once ps w (contradicted v i) (book_full a g) = absurd (disagrees ps w i a)
  stops_once ps w (contradicted v i) (sheet_full a h g) = absurd (disagrees ps w i a)
  stops_once ps w (book_full a g) (invalid e) = absurd (false≢true (sym e ∙ a.valid))
  stops_once ps w (book_full a g) (contradicted v i) = absurd (disagrees ps w i a)
  stops_once ps w (book_full a g) (book_full b f) = refl
  stops_once ps w (book_full a g) (sheet_full b h f) = absurd (omega (arith, g, h))
  stops_once ps w (sheet_full a h g) (invalid e) = absurd (false≢true (sym e ∙ a.valid))
  stops_once ps w (sheet_full a h g) (contradicted v i) = absurd (disagrees ps w i a)
  stops_once ps w (sheet_full a h g) (book_full b f) = absurd (omega (arith, f, h))
  stops_once ps w (sheet_full a h g) (sheet_full b i f) = refl

  -- a list is refused at one word, and by one code
  words_once : {ts ps qs : List ℕ} {w v k j c d : ℕ} → Before ts ps w k → Before ts qs v j → Learnable n ps bookRoom sheetRoom → Learnable n qs bookRoom sheetRoom
      → Stops n ps w bookRoom sheetRoom c → Stops n qs v bookRoom sheetRoom d → (c ≡ d) × (k ≡ j)
  words_once {ps = ps} {qs = qs} {w = w} {v = v} {k = k} {j = j} {c = c} {d = d} a b l m s t =
      go (compare ps qs w v a.rest b.rest (sym a.whole ∙ b.whole))
    where
      go : Order ps qs w v → (c ≡ d) × (k ≡ j)
      go (same e f) = (
        stops_once qs v (subst (λ (z : ℕ). Stops n qs z bookRoom sheetRoom c) f (subst (λ (z : List ℕ). Stops n z w bookRoom sheetRoom c) e s)) t,
        omega (arith, a.number, ap length e, b.number),
      )
      go (first r e) = absurd (stops_all ps w s r (subst (λ (z : List ℕ). Learnable n z bookRoom sheetRoom) e m))
      go (second r e) = absurd (stops_all qs v t r (subst (λ (z : List ℕ). Learnable n z bookRoom sheetRoom) e l))

  pub learn_refused_once : {ts : List ℕ} {c p d q : ℕ} → LearnRefused n ts bookRoom sheetRoom c p → LearnRefused n ts bookRoom sheetRoom d q → (c ≡ d) × (p ≡ q)
  learn_refused_once (no_panel e) (no_panel f) = (refl, refl)
  learn_refused_once (no_panel e) (no_room f g) = absurd (false≢true (sym e ∙ f))
  learn_refused_once (no_panel e) (at_word qs v j d b m t) = absurd (false≢true (sym e ∙ m.size))
  learn_refused_once (no_room e h) (no_panel f) = absurd (false≢true (sym f ∙ e))
  learn_refused_once (no_room e h) (no_room f g) = (refl, refl)
  learn_refused_once (no_room e h) (at_word qs v j d b m t) = absurd (omega (arith, h, fresh_fits m))
  learn_refused_once (at_word ps w k c a l s) (no_panel f) = absurd (false≢true (sym f ∙ l.size))
  learn_refused_once (at_word ps w k c a l s) (no_room f g) = absurd (omega (arith, g, fresh_fits l))
  learn_refused_once (at_word ps w k c a l s) (at_word qs v j d b m t) = words_once a b l m s t
