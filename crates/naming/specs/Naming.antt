-- The name of a column: which part of which of two texts it is.
use Rattle.std.specs.Prelude.{ℕ, ◌+◌, ◌-◌, ◌≤◌, ◌≡◌, List, [], ◌∷◌, Bool, true, false, cond, ltb, length, take, drop, Option, Some, None, Ok, Err}
use Rattle.std.specs.Borrow.{Bor}
use Rattle.fields.specs.Texts.{lines_of}
use Rattle.fields.specs.declared.Span.{Span}
use Rattle.names.specs.Spans.{bytes_of, name_span}
use Rattle.lines.specs.Lines.{line_of, view_of}
use Rattle.lines.specs.declared.Part.TheVariants.{Ins}
use Rattle.headers.specs.Layouts.{recording, sheet}
use Rattle.headers.specs.Accepted.{is_header}
use Rattle.headers.specs.Verdicts.{judge_of}
use Rattle.headers.specs.Places.{is_aside}
use Rattle.headers.specs.declared.Header.TheVariants.{Names}
use Rattle.headers.specs.Verdicts.{Verdict}
use Rattle.naming.specs.declared.NameLine.{NameLine}
use Rattle.naming.specs.declared.Naming.{Naming}
use Rattle.naming.specs.declared.Naming.TheVariants.{Refused, Nameless, Named}
use Rattle.naming.specs.declared.Source.{Source}
use Rattle.naming.specs.declared.Spot.{Spot}

-- ---- one text

-- where the `.ilb` line of some lines stands, before the first row and the end mark; the first line starts at a place
unfoldable pub home_from : ℕ → List (List ℕ) → Option Span
home_from at [] = None
home_from at (l ∷ ls) =
    cond (is_header (Names Ins) (line_of l)) (Some (record { from = at; to = at + length l }))
    (cond (is_aside (view_of (line_of l))) (home_from (at + length l + 1) ls) None)

-- where the `.ilb` line of a text stands
unfoldable pub home_of : List ℕ → Option Span
home_of t = home_from 0 (lines_of t)

-- the first verdict, and where that is bad the second
abbrev pub either_of : Verdict → Verdict → Verdict
either_of (Ok n) v = Ok n
either_of (Err k) v = v

-- the verdict on a text of either kind: as a recording, and where that is bad as a sheet
unfoldable pub judge_either : List ℕ → Verdict
judge_either t = either_of (judge_of recording t) (judge_of sheet t)

-- by the verdict on a text and its `.ilb` line
abbrev pub naming_for : Verdict → Option Span → Naming
naming_for (Err k) h = Refused
naming_for (Ok n) None = Nameless
naming_for (Ok n) (Some p) = Named (record { columns = n; at = p })

-- what a text says of names: both readers refuse it with 11, it has no name lines, or its name line
unfoldable pub naming_of : List ℕ → Naming
naming_of t = naming_for (judge_either t) (home_of t)

-- ---- two texts

-- the maker's names, if it has any
abbrev pub makers_source : Naming → Option Source
makers_source Refused = None
makers_source Nameless = None
makers_source (Named l) = Some (record { maker = true; names = l })

-- the panel's own names; the maker's only where the panel's text has no name lines
abbrev pub source_for : Naming → Naming → Option Source
source_for Refused maker = None
source_for Nameless maker = makers_source maker
source_for (Named l) maker = Some (record { maker = false; names = l })

-- the name line that two texts give
unfoldable pub source_of : List ℕ → List ℕ → Option Source
source_of panel maker = source_for (naming_of panel) (naming_of maker)

-- ---- a column

-- the empty part at the start of the panel's text
abbrev pub no_name : Spot
no_name = record { maker = false; start = 0; length = 0 }

-- a part of the line that starts at a
abbrev pub spot_at : Bool → ℕ → Span → Spot
spot_at maker a p = record { maker = maker; start = a + p.from; length = p.to - p.from }

-- a column's name in the name line of a text; none if the text has no such column
abbrev pub spot_in : Bool → List ℕ → NameLine → ℕ → Spot
spot_in maker t l column = cond (ltb column l.columns) (spot_at maker l.at.from (name_span (bytes_of l.at t) column)) no_name

-- by the name line that two texts give
abbrev pub spot_for : Option Source → List ℕ → List ℕ → ℕ → Spot
spot_for (Some s) panel maker column = spot_in s.maker (cond s.maker maker panel) s.names column
spot_for None panel maker column = no_name

-- where the name of a column is looked up: in the panel's text, or in the maker's
unfoldable pub spot_of : List ℕ → List ℕ → ℕ → Spot
spot_of panel maker column = spot_for (source_of panel maker) panel maker column

-- the text that a spot is a part of
abbrev pub text_of : {A : Type 0} → Spot → A → A → A
text_of s panel maker = cond s.maker maker panel

-- a spot lies in its text
pub record Within (panel maker : List ℕ) (s : Spot) : Type 0 where
  pub ends : s.start + s.length ≤ length (text_of s panel maker)

-- the bytes of a spot
abbrev pub bytes_at : Spot → List ℕ → List ℕ → List ℕ
bytes_at s panel maker = take s.length (drop s.start (text_of s panel maker))

-- the name of a column, as bytes
unfoldable pub name_of : List ℕ → List ℕ → ℕ → List ℕ
name_of panel maker column = bytes_at (spot_of panel maker column) panel maker

-- what `lookup` ensures: some bytes that begin at a place of a block of memory are the part of one of two lent texts that a spot tells
pub record PartOf (panel maker : Bor (List ℕ)) (s : Spot) (bytes : List ℕ) (block place : ℕ) : Type 0 where
  pub the_bytes : bytes ≡ bytes_at s panel.now maker.now
  pub the_block : block ≡ text_of s panel.ref_ptr.0 maker.ref_ptr.0
  pub the_place : place ≡ text_of s panel.ref_ptr.1 maker.ref_ptr.1 + s.start
