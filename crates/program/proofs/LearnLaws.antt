-- What learn leaves can be written: a refusal has a code, and else the sheet is good and inside its room.
use Prim.Native.Nat.{ℕ, ◌≤◌, ◌<◌}
use mathlib.Core.Path.{◌≡◌}
use mathlib.Core.List.{List}
use mathlib.Core.Bool.{Bool, true, false, cond}
use native.Mathlib.Omega.{arith}
use lib.Dec.{ltb}
use lib.ListN.{length}
use Rattle.panel.specs.Masks.{panel_size}
use Rattle.prime.specs.Sheets.{good_sheet, take_sheet}
use Rattle.prime.proofs.Least.{good_i}
use Rattle.prime.proofs.Laws.{take_good}
use Rattle.sheet.proofs.Fresh.{fresh_length}
use Rattle.writing.proofs.WriteLaws.{size_small}
use Rattle.learning.specs.Learn.{Run, going, refused, reproduced, learn_end, learn_run}
use Rattle.learning.proofs.Lists.{fresh_good}
use Rattle.learning.proofs.Ways.{Opening, two, nine_at_once, opened, Way, six, passed_over, seven, eight, nine, taken_up, run_keeps}

-- n is a panel's size, and the sheet is good and inside its room; or a refusal has a code
abbrev pub Writable : ℕ → ℕ → Run → Type 0
Writable n room (going b s x y) = (panel_size n ≡ true) × (good_sheet n s ≡ true) × (length s ≤ room)
Writable n room (refused c p) = 0 < c

module _ (n room : ℕ) where
  start_writable : (r : Run) → Opening n room r → Writable n room r
  start_writable _ (two e) = omega arith
  start_writable _ (nine_at_once e f) = omega arith
  start_writable _ (opened e f) = (e, fresh_good n (size_small n e), omega (arith, fresh_length n, f))

  word_writable : (bookRoom k t : ℕ) (b s : List ℕ) (x y c : ℕ) (r : Run) → Writable n room (going b s x y) → Way n bookRoom room k t b s x y c r → Writable n room r
  word_writable bookRoom k t b s x y _ _ h (six e) = omega arith
  word_writable bookRoom k t b s x y _ _ h (passed_over v e) = h
  word_writable bookRoom k t b s x y _ _ h (seven v e f) = omega arith
  word_writable bookRoom k t b s x y _ _ h (eight v e f) = omega arith
  word_writable bookRoom k t b s x y _ _ h (nine v e f g) = omega arith
  word_writable bookRoom k t b s x y _ _ h (taken_up v e f g) = (h.0, good_i n (take_sheet n s t) (take_good n (size_small n h.0) s t), g)

  end_writable : (r : Run) → Writable n room r → Writable n room (learn_end n r)
  unfolding learn_end
  end_writable (refused c p) h = h
  end_writable (going b s x y) h = go (ltb (reproduced n s b) (length b))
    where
      go : (t : Bool) → Writable n room (cond t (refused 10 (reproduced n s b)) (going b s x y))
      go true = omega arith
      go false = h

  pub learn_writable : (bookRoom : ℕ) (ts : List ℕ) → Writable n room (learn_run n bookRoom room ts)
  unfolding learn_run
  learn_writable bookRoom ts =
      end_writable _ (run_keeps n bookRoom room (λ ps r. Writable n room r) start_writable (λ ps t c p h. h)
      (λ ps t b s x y c r h w. word_writable bookRoom (length ps) t b s x y c r h w) ts)
