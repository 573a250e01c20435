-- The quick test inside one head: a rule permits a word when all its bits are on there.
use mathlib.Core.Path.{◌≡◌}
use mathlib.Core.List.{List, Memᴰ as Mem}
use Prim.Native.Nat.{ℕ}
use Rattle.table.specs.Lists.{any}
use Rattle.table.proofs.Basics.{same_test, any_e, any_i}
use Rattle.panel.specs.Rules.{head, narrows}
use Rattle.panel.specs.Masks.{within}
use Rattle.panel.proofs.Masks.{within_eq, eq_within, within_trans}
use Rattle.panel.proofs.Words.{narrows_word, word_narrows}
use Rattle.prime.specs.Sheets.{permits}
use Rattle.prime.proofs.Least.{Upward, both_up}
use Rattle.spans.specs.Touching.{touches, both_touch}

-- a sheet of one head permits what it touches
pub touches_permits : (s : List ℕ) (w : ℕ) → ((r : ℕ) → Mem r s → head w ≡ head r) → touches s w ≡ permits s w
unfolding touches permits
touches_permits s w f =
    same_test (any (λ r. within r w) s) (any (narrows w) s)
    (λ e. let k = any_e (λ r. within r w) s e in any_i (narrows w) k.1 (word_narrows w k.0 (f k.0 k.1) (within_eq k.0 w k.2)))
    (λ e. let k = any_e (narrows w) s e in any_i (λ r. within r w) k.1 (eq_within k.0 w (narrows_word w k.0 k.2)))

touches_up : (n : ℕ) (s : List ℕ) → Upward n (touches s)
unfolding touches
touches_up n s w r rw' rr p e =
    let k = any_e (λ x. within x r) s e in
    any_i (λ x. within x w) k.1 (within_trans k.0 r w k.2 (eq_within r w (narrows_word w r p)))

pub both_touch_up : (n : ℕ) (s t : List ℕ) → Upward n (both_touch s t)
unfolding both_touch
both_touch_up n s t = both_up n (touches s) (touches t) (touches_up n s) (touches_up n t)
