-- What 02 says of a lookup, over recordings and sheets as they are accepted.
use Rattle.std.specs.Prelude.{ℕ, ◌≤◌, ◌<◌, ◌≡◌, List, [], get_or}
use Rattle.names.specs.Names.{Name}
use Rattle.lines.specs.declared.Part.TheVariants.{Ins}
use Rattle.lines.specs.declared.Kind.{Kind}
use Rattle.headers.specs.Layouts.{layout_of}
use Rattle.headers.specs.Accepted.{times, Accepted}
use Rattle.headers.specs.declared.Layout.{Layout}
use Rattle.headers.specs.declared.Header.TheVariants.{Names}
use Rattle.naming.specs.Naming.{no_name, spot_of, name_of}

-- the columns below n have these names, each a good one and none twice; the others have the empty part at the start of the panel's text
pub record Answers (panel maker : List ℕ) (n : ℕ) (ns : List (List ℕ)) : Type 0 where
  pub below : (v : ℕ) → v < n → name_of panel maker v ≡ get_or ns v []
  pub name : (v : ℕ) → v < n → Name (name_of panel maker v)
  pub differ : (v w : ℕ) → v < n → w < n → (v ≡ w → ⊥) → name_of panel maker v ≡ name_of panel maker w → ⊥
  pub beyond : (v : ℕ) → n ≤ v → spot_of panel maker v ≡ no_name

-- an accepted text has name lines
abbrev pub WithNames : (lay : Layout) (n : ℕ) (t : List ℕ) → Accepted lay n t → Type 0
WithNames lay n t x = times (Names Ins) x.top ≡ 1

-- an accepted text has none
abbrev pub WithoutNames : (lay : Layout) (n : ℕ) (t : List ℕ) → Accepted lay n t → Type 0
WithoutNames lay n t x = times (Names Ins) x.top ≡ 0

-- a text that is accepted as neither kind, for no n: both readers refuse it with 11
abbrev pub BadText : List ℕ → Type 0
BadText t = (kind : Kind) (n : ℕ) → Accepted (layout_of kind) n t → ⊥
