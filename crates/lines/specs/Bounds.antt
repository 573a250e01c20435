-- What every line that is read keeps to: sizes of 1 to 10, good names, and masks of no more columns than the row has.
use Rattle.std.specs.Prelude.{ℕ, ◌^◌, ◌<◌, ◌≤◌, ◌≡◌, List, true, length}
use Rattle.names.specs.Names.{good_names}
use Rattle.lines.specs.declared.Masks.{Masks}
use Rattle.lines.specs.declared.View.{View}
use Rattle.lines.specs.declared.View.TheVariants.{Cells, EndMark, Aside}
use Rattle.lines.specs.declared.Line.{Line}
use Rattle.lines.specs.declared.Line.TheVariants.{Empty, Sized, Named, Typed, Rows, Row, End, Fault}

-- a row has 1 to 10 columns, and its masks are below 2 to their number
pub record RowOk (m : Masks) : Type 0 where
  pub some : 1 ≤ m.width
  pub few : m.width ≤ 10
  pub on_small : m.on < 2 ^ m.width
  pub off_small : m.off < 2 ^ m.width
  pub next_small : m.next < 2 ^ m.width
  pub unread_small : m.unread < 2 ^ m.width

-- a size or a number of names is 1 to 10, and a row keeps to its bounds
abbrev pub LineOk : Line → Type 0
LineOk Empty = Unit {0}
LineOk (Sized p n) = (1 ≤ n) × (n ≤ 10)
LineOk (Named p n) = (1 ≤ n) × (n ≤ 10)
LineOk (Typed t) = Unit {0}
LineOk (Rows v) = Unit {0}
LineOk (Row m) = RowOk m
LineOk End = Unit {0}
LineOk Fault = Unit {0}

-- the names of a name line are good, and as many as it says
abbrev pub NamesOk : Line → List (List ℕ) → Type 0
NamesOk Empty ns = Unit {0}
NamesOk (Sized p n) ns = Unit {0}
NamesOk (Named p n) ns = (good_names ns ≡ true) × (length ns ≡ n)
NamesOk (Typed t) ns = Unit {0}
NamesOk (Rows v) ns = Unit {0}
NamesOk (Row m) ns = Unit {0}
NamesOk End ns = Unit {0}
NamesOk Fault ns = Unit {0}

-- a row keeps to its bounds
abbrev pub ViewOk : View → Type 0
ViewOk (Cells m) = RowOk m
ViewOk EndMark = Unit {0}
ViewOk Aside = Unit {0}
