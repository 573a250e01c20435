-- Panels, states and masks: which relays are on, bit by bit.
use Rattle.std.specs.Prelude.{ℕ, zero, suc, ◌+◌, ◌/◌, ◌%◌, ◌^◌, Bool, true, false, not, ◌&&◌, ◌||◌, List, [], ◌∷◌, eqb, ltb}
use Rattle.std.specs.Int.Bits.{bit_and}
use Rattle.table.specs.Lists.{all}

-- a panel has 1 to 10 relays
unfoldable pub panel_size : ℕ → Bool
panel_size n = ltb 0 n && ltb n 11

-- the numbers of the relays that a panel may have
unfoldable pub relays : List ℕ
relays = 0 ∷ 1 ∷ 2 ∷ 3 ∷ 4 ∷ 5 ∷ 6 ∷ 7 ∷ 8 ∷ 9 ∷ []

-- relay v is on in the mask or state x: bit v of x is 1
unfoldable pub on : ℕ → ℕ → Bool
on v x = eqb (x / 2 ^ v % 2) 1

-- every bit of a is on in b
unfoldable pub all_on : ℕ → ℕ → Bool
all_on a b = all (λ v. not (on v a) || on v b) relays

-- every bit of a is off in b
unfoldable pub all_off : ℕ → ℕ → Bool
all_off a b = all (λ v. not (on v a) || not (on v b)) relays

-- the same two tests as code makes them, by one `&`: every bit of a is on in b
unfoldable pub within : ℕ → ℕ → Bool
within a b = eqb (bit_and a b) a

-- and every bit of a is off in b
unfoldable pub apart : ℕ → ℕ → Bool
apart a b = eqb (bit_and a b) 0

abbrev pub bit_if : Bool → ℕ → ℕ
bit_if true v = 2 ^ v
bit_if false v = 0

-- the mask in which exactly the relays below n are on at which f passes
unfoldable pub bits_where : ℕ → (ℕ → Bool) → ℕ
bits_where zero f = 0
bits_where (suc v) f = bits_where v f + bit_if (f v) v
