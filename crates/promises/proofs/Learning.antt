-- Learning in the program's rooms: at most 1,024 valid words of a panel are stopped by a state with two successors or by too many prime rules, and by nothing else.
use mathlib.Core.Path.{◌≡◌, refl, sym, ap, ◌∙◌}
use mathlib.Core.Logic.{◌⊎◌, inl, inr}
use mathlib.Core.Bool.{true, false≢true}
use mathlib.Core.List.Memᴰ
use mathlib.Core.List.Memᴰ.{head as here}
use mathlib.Core.List.{List, [], ◌∷◌, ◌++◌, Memᴰ as Mem, append_assoc}
use Prim.Native.Nat.{ℕ, ◌≤◌}
use native.Mathlib.Omega.{arith}
use lib.ListN.{length, length-append}
use Rattle.table.specs.Lists.{all}
use Rattle.table.proofs.Basics.{all_e}
use Rattle.panel.specs.Masks.{panel_size}
use Rattle.panel.specs.Transitions.{valid_transition}
use Rattle.prime.specs.Sheets.{sheet_of}
use Rattle.book.specs.Books.{OneNext, book_of}
use Rattle.book.proofs.BookOf.{book_few}
use Rattle.writing.proofs.WriteLaws.{size_small}
use Rattle.handover.specs.Learning.{Learnable, invalid, contradicted, book_full, sheet_full, LearnRefused, no_panel, no_room, at_word}

module _ (n : ℕ) (size : panel_size n ≡ true) (ts : List ℕ) (ok : all (valid_transition n) ts ≡ true) (few : length ts ≤ 1024) where
  valid_word : (ps rest : List ℕ) → ts ≡ ps ++ rest → (w : ℕ) → Mem w ps → valid_transition n w ≡ true
  valid_word ps rest e w m = all_e (valid_transition n) (Memᴰ.append_left rest m) (ap (all (valid_transition n)) (sym e) ∙ ok)

  book_room : (ps rest : List ℕ) → ts ≡ ps ++ rest → length (book_of ps) ≤ 1024
  book_room ps rest e = omega (arith, book_few ps, ap length e, length-append ps rest)

  -- nothing else stops the first of the words, or all of them
  pub words_learnable : (ps rest : List ℕ) → ts ≡ ps ++ rest → OneNext ps → ((qs more : List ℕ) → ps ≡ qs ++ more → length (sheet_of n qs) ≤ 1024) → Learnable n ps 1024 1024
  words_learnable ps rest e one fits = record { size = size; valid = valid_word ps rest e; one_next = one; book_fits = book_room ps rest e; sheets_fit = fits }

  up_to : (ps : List ℕ) (w : ℕ) (rest : List ℕ) → ts ≡ ps ++ w ∷ rest → ts ≡ (ps ++ w ∷ []) ++ rest
  up_to ps w rest e = e ∙ sym (append_assoc ps (w ∷ []) rest)

  -- they are refused with 7 or 9, and with no other code
  pub learn_ended : {c p : ℕ} → LearnRefused n ts 1024 1024 c p → (c ≡ 7) ⊎ (c ≡ 9)
  learn_ended (no_panel e) = absurd (false≢true (sym e ∙ size))
  learn_ended (no_room e g) = absurd (omega (arith, g, size_small n e))
  learn_ended (at_word ps w k c b l (invalid e)) =
      absurd (false≢true (sym e ∙ valid_word (ps ++ w ∷ []) b.rest (up_to ps w b.rest b.whole) w (Memᴰ.append_right ps (here refl))))
  learn_ended (at_word ps w k c b l (contradicted v e)) = inl refl
  learn_ended (at_word ps w k c b l (book_full g h)) = absurd (omega (arith, h, book_room (ps ++ w ∷ []) b.rest (up_to ps w b.rest b.whole)))
  learn_ended (at_word ps w k c b l (sheet_full g h f)) = inr refl
