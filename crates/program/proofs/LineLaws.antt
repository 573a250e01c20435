-- Laws of the line of a refusal: how long it is, and that its parts one behind the other are the line.
use Prim.Native.Nat.{ℕ, zero, suc, ◌+◌, ◌/◌, ◌^◌, ◌≤◌, ◌<◌}
use mathlib.Core.Path.{◌≡◌, refl, ap}
use mathlib.Core.List.{List, [], ◌∷◌}
use mathlib.Core.Bool.{Bool, true, false}
use native.Mathlib.Omega.{arith}
use native.Mathlib.Nat.{pow-suc}
use lib.Dec.{ltb}
use lib.ListN.{length, length-append}
use borrow.Author.Tests.{le-leb, lt-leb, ltb-true, ltb-false}
use Rattle.fields.specs.Decimals.{decimal}
use Rattle.fields.proofs.DecimalLaws.{decimal_one, decimal_longer}
use Rattle.writing.specs.TableText.{header_text}
use Rattle.writing.specs.Writing.{Put, Wrote}
use Rattle.writing.specs.declared.Page.{Page}
use Rattle.writing.proofs.PutLaws.{put_none, put_page, wrote_then}
use Rattle.writing.proofs.TextLaws.{header_length}
use Rattle.program.specs.Program.{refusal_line, if_room}

-- a number below 10^k has at most k digits
pub decimal_most : (k v : ℕ) → v < 10 ^ suc k → length (decimal v) ≤ suc k
decimal_most zero v h = omega (arith, ap length (decimal_one v (omega arith)))
decimal_most (suc k) v h = go (ltb v 10) refl (λ q. decimal_most k (v / 10) q)
  where
    go : (t : Bool) → ltb v 10 ≡ t → (v / 10 < 10 ^ suc k → length (decimal (v / 10)) ≤ suc k) → length (decimal v) ≤ suc (suc k)
    go true e r = omega (arith, ap length (decimal_one v (ltb-true v 10 e)))
    go false e r =
        let q = r (omega (arith, pow-suc 10 (suc k))) in
        omega (arith, decimal_longer v (ltb-false v 10 e))

-- a number of 64 bits has at most 20
pub digits_few : (v : ℕ) → v < 18446744073709551616 → length (decimal v) ≤ 20
digits_few v h = decimal_most 19 v (omega arith)

pub line_length_is : (c p : ℕ) → length (refusal_line c p) ≡ 13 + length (decimal c) + length (decimal p)
unfolding refusal_line
line_length_is c p =
    let h = header_length (32 ∷ 97 ∷ 116 ∷ 32 ∷ []) p in
    let l = length-append (decimal c) (header_text (32 ∷ 97 ∷ 116 ∷ 32 ∷ []) p) in
    omega arith

pub room_yes : (room : ℕ) (s : List ℕ) → length s ≤ room → if_room room s ≡ s
unfolding if_room
room_yes room s h = rw (le-leb (length s) room h)

pub room_no : (room : ℕ) (s : List ℕ) → room < length s → if_room room s ≡ []
unfolding if_room
room_no room s h = rw (lt-leb (length s) room h)

pub put_no_line : (d : List ℕ) (c p k : ℕ) → k ≡ length (refusal_line c p) → length d < k → Put d 0 (if_room (length d) (refusal_line c p)) d 0
put_no_line d c p k e h = rw (room_no (length d) (refusal_line c p) (omega arith)) (put_none d 0)

pub put_line : (d d' : List ℕ) (c p k e : ℕ) {a x y q : Page} → k ≡ length (refusal_line c p) → k ≤ length d → a.out.now ≡ d → a.at ≡ 0
    → Wrote a (114 ∷ 101 ∷ 102 ∷ 117 ∷ 115 ∷ 101 ∷ 100 ∷ 32 ∷ []) x → Wrote x (decimal c) y → Wrote y (header_text (32 ∷ 97 ∷ 116 ∷ 32 ∷ []) p) q
    → d' ≡ q.out.now → e ≡ q.at → Put d 0 (if_room (length d) (refusal_line c p)) d' e
unfolding refusal_line
put_line d d' c p k e h l o z u v w m n =
    rw (room_yes (length d) (refusal_line c p) (omega arith)) (put_page o z (wrote_then u (wrote_then v w)) m n)
