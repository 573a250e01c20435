-- One more contact in a body.
use Rattle.std.specs.Prelude.{ℕ, ◌+◌, ◌-◌, ◌*◌, ◌^◌, Bool, true, false, not, ◌&&◌, cond, eqb}
use Rattle.std.specs.Int.Bits.{bit_and}
use Rattle.panel.specs.Masks.{on}
use Rattle.panel.specs.Rules.{head, must_on, must_off}

-- the relay v is in neither mask of the body of w
unfoldable pub free : ℕ → ℕ → Bool
free v w = not (on v (must_on w)) && not (on v (must_off w))

-- what a contact on the relay v adds to a rule's word if it is to disagree with a state: in N where v is on there, in P where v is off
abbrev pub contact : Bool → ℕ → ℕ
contact true v = 2 ^ v
contact false v = 2 ^ v * 1024

-- the rule w with one more contact, on the relay v, that disagrees with the state i
unfoldable pub candidate : ℕ → ℕ → ℕ → ℕ
candidate w v i = w + contact (on v i) v

-- ---- what one rule has beyond another

-- the bits of the word r that the word b lacks
unfoldable pub beyond : ℕ → ℕ → ℕ
beyond b r = r - bit_and r b

-- no more than one bit of d is on
unfoldable pub lone : ℕ → Bool
lone d = eqb (bit_and d (d - 1)) 0

-- the contact that the rule r has beyond the rule b, as its bit in the word: where they have one head and it is the only one; else 0
unfoldable pub near : ℕ → ℕ → ℕ
near b r = cond (eqb (head r) (head b) && lone (beyond b r)) (beyond b r) 0

abbrev pub place_by : Bool → ℕ → ℕ
place_by true v = v
place_by false v = v + 10

-- which bit of a rule's word is the contact on the relay v that disagrees with the state i
unfoldable pub contact_place : ℕ → ℕ → ℕ
contact_place v i = place_by (on v i) v
