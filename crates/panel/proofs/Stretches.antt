-- The stretch of a head: which words of a list are in it, and the places of an increasing list between which it stands.
use mathlib.Core.Path.{◌≡◌, ap₂, ◌∙◌}
use mathlib.Core.Bool.{true}
use mathlib.Core.List.{List, Memᴰ as Mem}
use Prim.Native.Nat.{ℕ, ◌+◌, ◌-◌, ◌*◌, ◌≤◌}
use native.Mathlib.Omega.{arith}
use lib.ListN.{take, drop}
use Rattle.table.specs.Lists.{increasing}
use Rattle.table.specs.Surgery.{place_of}
use Rattle.table.proofs.Tables.{place_up}
use Rattle.table.proofs.Between.{between_e, between_i, between_increasing, between_places}
use Rattle.panel.specs.Rules.{head, of_head}
use Rattle.panel.proofs.Words.{head_range, range_head}

-- the words of a list that have the head
pub stretch_e : (h : ℕ) (s : List ℕ) (w : ℕ) → Mem w (of_head h s) → Mem w s × (head w ≡ h)
unfolding of_head
stretch_e h s w m = let k = between_e (h * 1048576) ((h + 1) * 1048576) s w m in (k.0, range_head h w k.1 k.2)

pub stretch_i : (h : ℕ) (s : List ℕ) (w : ℕ) → Mem w s → head w ≡ h → Mem w (of_head h s)
unfolding of_head
stretch_i h s w m e = let k = head_range h w e in between_i (h * 1048576) ((h + 1) * 1048576) s w m k.0 k.1

pub stretch_increasing : (h : ℕ) (s : List ℕ) → increasing s ≡ true → increasing (of_head h s) ≡ true
unfolding of_head
stretch_increasing h s i = between_increasing (h * 1048576) ((h + 1) * 1048576) s i

-- by the places of two words
pub stretch_places : (h : ℕ) (s : List ℕ) → increasing s ≡ true → (lo hi : ℕ) → lo ≡ place_of (h * 1048576) s → hi ≡ place_of ((h + 1) * 1048576) s
    → take (hi - lo) (drop lo s) ≡ of_head h s
unfolding of_head
stretch_places h s e lo hi p q =
    ap₂ (λ (i j : ℕ). take (j - i) (drop i s)) p q ∙ between_places (h * 1048576) ((h + 1) * 1048576) (omega arith) s e

pub stretch_order : (h : ℕ) (s : List ℕ) (lo hi : ℕ) → lo ≡ place_of (h * 1048576) s → hi ≡ place_of ((h + 1) * 1048576) s → lo ≤ hi
stretch_order h s lo hi p q = omega (arith, place_up (h * 1048576) ((h + 1) * 1048576) s (omega arith))
