-- The texts of a layout, in the words of documents 01 and 02, over the list of their lines.
use Rattle.std.specs.Prelude.{ℕ, ◌+◌, ◌^◌, ◌≤◌, ◌<◌, ◌≡◌, List, [], ◌∷◌, ◌++◌, ◌⊎◌, Bool, true, false, cond}
use Rattle.fields.specs.Texts.{lines_of}
use Rattle.names.specs.Names.{names_in}
use Rattle.lines.specs.Lines.{line_of, view_of}
use Rattle.lines.specs.declared.Masks.{Masks}
use Rattle.lines.specs.declared.Part.{Part}
use Rattle.lines.specs.declared.Part.TheVariants.{Ins, Outs}
use Rattle.lines.specs.declared.View.{View}
use Rattle.lines.specs.declared.View.TheVariants.{Cells, EndMark, Aside}
use Rattle.lines.specs.declared.Line.{Line}
use Rattle.lines.specs.declared.Line.TheVariants.{Empty, Sized, Named, Typed, Rows, Row, End, Fault}
use Rattle.headers.specs.Layouts.{same_header}
use Rattle.headers.specs.declared.Layout.{Layout}
use Rattle.headers.specs.declared.Header.{Header}
use Rattle.headers.specs.declared.Header.TheVariants.{Size, Names, TypeWord, Count}

-- a line is this header
abbrev pub is_header : Header → Line → Bool
is_header h Empty = false
is_header h (Sized p n) = same_header h (Size p)
is_header h (Named p n) = same_header h (Names p)
is_header h (Typed t) = same_header h TypeWord
is_header h (Rows v) = same_header h Count
is_header h (Row m) = false
is_header h End = false
is_header h Fault = false

-- a line is a row
abbrev pub is_row : View → Bool
is_row (Cells m) = true
is_row EndMark = false
is_row Aside = false

-- 1 for yes, 0 for no
abbrev pub one : Bool → ℕ
one b = cond b 1 0

-- how often this header stands among lines
unfoldable pub times : Header → List (List ℕ) → ℕ
times h [] = 0
times h (l ∷ ls) = one (is_header h (line_of l)) + times h ls

-- the number of rows among lines
unfoldable pub rows_in : List (List ℕ) → ℕ
rows_in [] = 0
rows_in (l ∷ ls) = one (is_row (view_of (line_of l))) + rows_in ls

-- a row of n columns that fits the layout: `-` only where it is allowed, and where one output of `1` is asked for, it is that of a relay h
pub record Fits (lay : Layout) (n : ℕ) (m : Masks) : Type 0 where
  pub width : m.width ≡ n
  pub inputs : lay.dashes ≡ false → m.free ≡ 0
  pub outputs : lay.unread ≡ false → m.unread ≡ 0
  pub single : lay.single ≡ true → (h : ℕ) × (h < 10) × (m.next ≡ 2 ^ h)

-- an empty line, or a header of a text of n columns, r rows and the names ns, `own` being the fields after its first: both sizes are n,
-- a name line has n names, and these; the type word is the layout's, `.p` is r
abbrev pub HeaderLine : Layout → ℕ → ℕ → List (List ℕ) → Line → List (List ℕ) → Type 0
HeaderLine lay n r ns Empty own = Unit {0}
HeaderLine lay n r ns (Sized p s) own = s ≡ n
HeaderLine lay n r ns (Named p s) own = (s ≡ n) × (own ≡ ns)
HeaderLine lay n r ns (Typed t) own = t ≡ lay.kind
HeaderLine lay n r ns (Rows v) own = v ≡ r
HeaderLine lay n r ns (Row m) own = ⊥
HeaderLine lay n r ns End own = ⊥
HeaderLine lay n r ns Fault own = ⊥

-- an empty line, or a row that fits; its fields are no names
abbrev pub RowLine : Layout → ℕ → Line → List (List ℕ) → Type 0
RowLine lay n l own = (l ≡ Empty) ⊎ ((m : Masks) × (l ≡ Row m) × Fits lay n m)

-- an empty line
abbrev pub EmptyLine : Line → List (List ℕ) → Type 0
EmptyLine l own = l ≡ Empty

-- every one of some lines is such
abbrev pub All : (Line → List (List ℕ) → Type 0) → List (List ℕ) → Type 0
All P [] = Unit {0}
All P (l ∷ ls) = P (line_of l) (names_in l) × All P ls

-- the lines of a text of n columns: headers, then rows, then one end mark, then blank lines and comments; each header stands at most
-- once, both sizes exactly once, the type line too where the layout requires it, and both name lines or neither; `names` are what the name
-- lines have, and mean nothing where there are none
pub record Text (lay : Layout) (n : ℕ) (ls : List (List ℕ)) : Type 0 where
  pub top : List (List ℕ)
  pub middle : List (List ℕ)
  pub mark : List ℕ
  pub rest : List (List ℕ)
  pub names : List (List ℕ)
  pub lines : ls ≡ top ++ (middle ++ mark ∷ rest)
  pub headers : All (HeaderLine lay n (rows_in middle) names) top
  pub once : (h : Header) → times h top ≤ 1
  pub sized : (p : Part) → times (Size p) top ≡ 1
  pub typed : lay.typed ≡ true → times TypeWord top ≡ 1
  pub both : times (Names Ins) top ≡ times (Names Outs) top
  pub rows : All (RowLine lay n) middle
  pub ends : line_of mark ≡ End
  pub empty : All EmptyLine rest

-- a text of this layout, for a panel of n relays
abbrev pub Accepted : Layout → ℕ → List ℕ → Type 0
Accepted lay n t = Text lay n (lines_of t)
