-- Rules: a head and a body, as one word; what a body covers, and when one contains another.
use Rattle.std.specs.Prelude.{◌≡◌, ℕ, ◌+◌, ◌*◌, ◌^◌, ◌<◌, Bool, true, ◌&&◌, List, [], eqb, ltb}
use Rattle.table.specs.Lists.{each, cons_if, between}
use Rattle.panel.specs.Masks.{all_on, all_off, apart}
use Rattle.panel.specs.Codec.{word_of, high, middle, low}

-- the word of the rule with the head h and the body p, m: h × 1,048,576 + P × 1,024 + N
unfoldable pub rule_word : ℕ → ℕ → ℕ → ℕ
rule_word h p m = word_of h p m

-- the relay that the rule pulls in
unfoldable pub head : ℕ → ℕ
head w = high w

-- P, the relays that must be on
unfoldable pub must_on : ℕ → ℕ
must_on w = middle w

-- N, the relays that must be off
unfoldable pub must_off : ℕ → ℕ
must_off w = low w

-- w is the word of a rule of a panel with n relays: masks below 2^n, with no bit in both
unfoldable pub valid_rule : ℕ → ℕ → Bool
valid_rule n w = ltb (head w) n && (ltb (must_on w) (2 ^ n) && (ltb (must_off w) (2 ^ n) && all_off (must_on w) (must_off w)))

-- the same, as facts
pub record Rule (n w : ℕ) : Type 0 where
  pub head_lt : head w < n
  pub must_on_lt : must_on w < 2 ^ n
  pub must_off_lt : must_off w < 2 ^ n
  pub disjoint : apart (must_on w) (must_off w) ≡ true

-- the body of w covers the state i: every bit of P is on in i, and every bit of N is off
unfoldable pub covers : ℕ → ℕ → Bool
covers w i = all_on (must_on w) i && all_off (must_off w) i

-- the body of w contains the body of r: both its masks include the other's
unfoldable pub contains : ℕ → ℕ → Bool
contains w r = all_on (must_on r) (must_on w) && all_on (must_off r) (must_off w)

-- w narrows r: they are rules of one head, and the body of w contains the body of r
unfoldable pub narrows : ℕ → ℕ → Bool
narrows w r = eqb (head w) (head r) && contains w r

-- all rules of a panel with n relays, in the order of their words
unfoldable pub rules : ℕ → List ℕ
rules n = each n (λ h. each (2 ^ n) (λ p. each (2 ^ n) (λ m. cons_if (all_off p m) (rule_word h p m) [])))

-- the words of s that belong to the head h: its stretch
unfoldable pub of_head : ℕ → List ℕ → List ℕ
of_head h s = between (h * 1048576) ((h + 1) * 1048576) s
