-- What two sheets permit together, and the quick test of it inside one head.
use Rattle.std.specs.Prelude.{ℕ, Bool, ◌&&◌, List}
use Rattle.table.specs.Lists.{any}
use Rattle.panel.specs.Masks.{within}
use Rattle.prime.specs.Sheets.{permits}

-- both sheets permit w
unfoldable pub both_permit : List ℕ → List ℕ → ℕ → Bool
both_permit s t w = permits s w && permits t w

-- every bit of some word of s is on in w: what `permits` comes to where all heads are the same
unfoldable pub touches : List ℕ → ℕ → Bool
touches s w = any (λ r. within r w) s

-- both sheets touch w
unfoldable pub both_touch : List ℕ → List ℕ → ℕ → Bool
both_touch s t w = touches s w && touches t w
