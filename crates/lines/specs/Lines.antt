-- What one line says: its comment is cut, its first field says what kind of line it is, and the others follow.
use Rattle.std.specs.Prelude.{ℕ, min, List, [], ◌∷◌, Option, Some, None, cond, eqb, leb, ltb, length}
use Rattle.fields.specs.Bytes.{mark_of, same}
use Rattle.fields.specs.Texts.{body}
use Rattle.fields.specs.Fields.{fields_in, only_of}
use Rattle.fields.specs.Values.{cube_of, number_of, most}
use Rattle.fields.specs.declared.Mark.{Mark}
use Rattle.fields.specs.declared.Mark.TheVariants.{Digit, Dash, Space, Hash, Dot, Feed, Other}
use Rattle.fields.specs.declared.Columns.{Columns}
use Rattle.names.specs.Names.{names_count}
use Rattle.lines.specs.declared.Part.{Part}
use Rattle.lines.specs.declared.Part.TheVariants.{Ins, Outs}
use Rattle.lines.specs.declared.Kind.TheVariants.{Recording, Sheet}
use Rattle.lines.specs.declared.Key.{Key}
use Rattle.lines.specs.declared.Key.TheVariants.{Size, Names, TypeWord, Count, Stop}
use Rattle.lines.specs.declared.View.{View}
use Rattle.lines.specs.declared.View.TheVariants.{Cells, EndMark, Aside}
use Rattle.lines.specs.declared.Line.{Line}
use Rattle.lines.specs.declared.Line.TheVariants.{Empty, Sized, Named, Typed, Rows, Row, End, Fault}

-- what a word stands for in a table of words
abbrev pub meaning : {T : Type 0} → List (List ℕ × T) → List ℕ → Option T
meaning [] w = None
meaning (e ∷ es) w = cond (same w e.0) (Some e.1) (meaning es w)

-- `.type`, `.p`, `.e` or `.end`
unfoldable pub other_key : List ℕ → Option Key
other_key w =
    cond (same w (46 ∷ 116 ∷ 121 ∷ 112 ∷ 101 ∷ [])) (Some TypeWord)
    (cond (same w (46 ∷ 112 ∷ [])) (Some Count)
    (cond (same w (46 ∷ 101 ∷ [])) (Some Stop)
    (cond (same w (46 ∷ 101 ∷ 110 ∷ 100 ∷ [])) (Some Stop) None)))

-- `.i`, `.o`, `.ilb`, `.ob`, or one of the others
unfoldable pub key_of : List ℕ → Option Key
key_of w =
    cond (same w (46 ∷ 105 ∷ [])) (Some (Size Ins))
    (cond (same w (46 ∷ 111 ∷ [])) (Some (Size Outs))
    (cond (same w (46 ∷ 105 ∷ 108 ∷ 98 ∷ [])) (Some (Names Ins))
    (cond (same w (46 ∷ 111 ∷ 98 ∷ [])) (Some (Names Outs)) (other_key w))))

-- a number of columns: 1 to 10
abbrev pub columns_of : Option ℕ → Option ℕ
columns_of None = None
columns_of (Some v) = cond (eqb v 0) None (cond (ltb 10 v) None (Some v))

-- `.i n` or `.o n`
abbrev pub sized_of : Part → Option ℕ → Line
sized_of p None = Fault
sized_of p (Some n) = Sized p n

-- `.ilb` or `.ob` with n names
abbrev pub named_of : Part → Option ℕ → Line
named_of p None = Fault
named_of p (Some n) = Named p n

-- `.type fr` stands in a recording, `.type f` in a sheet
unfoldable pub typed_of : List ℕ → Line
typed_of v = cond (same v (102 ∷ 114 ∷ [])) (Typed Recording) (cond (same v (102 ∷ [])) (Typed Sheet) Fault)

-- `.p k`, k of any length
abbrev pub count_of : Option ℕ → Line
count_of None = Fault
count_of (Some v) = Rows v

-- `.e` or `.end`, with no field after it
abbrev pub stop_of : List (List ℕ) → Line
stop_of [] = End
stop_of (f ∷ fs) = Fault

-- a keyword and the fields after it
abbrev pub key_line : Option Key → List (List ℕ) → Line
key_line (Some (Size p)) fs = sized_of p (columns_of (number_of (only_of fs)))
key_line (Some (Names p)) fs = named_of p (columns_of (names_count fs))
key_line (Some TypeWord) fs = typed_of (only_of fs)
key_line (Some Count) fs = count_of (number_of (only_of fs))
key_line (Some Stop) fs = stop_of fs
key_line None fs = Fault

-- a row by the masks of its two fields, w columns wide
abbrev pub row_of : Option Columns → Option Columns → ℕ → Line
row_of None b w = Fault
row_of (Some a) None w = Fault
row_of (Some a) (Some b) w =
    Row (record { on = a.on; off = a.off; free = a.dashes; next = b.on; unread = b.dashes; width = w })

-- a row: two fields of one width, at most ten
unfoldable pub row_line : List ℕ → List ℕ → Line
row_line w v = cond (eqb (length w) (length v)) (cond (leb (length w) 10) (row_of (cube_of w) (cube_of v) (length w)) Fault) Fault

-- the first byte decides: a dot starts a keyword, a digit or a dash a row
abbrev pub start_line : Mark → List ℕ → List (List ℕ) → Line
start_line (Digit d) w fs = row_line w (only_of fs)
start_line Dash w fs = row_line w (only_of fs)
start_line Dot w fs = key_line (key_of w) fs
start_line Space w fs = Fault
start_line Hash w fs = Fault
start_line Feed w fs = Fault
start_line Other w fs = Fault

-- a line of the field w and the fields fs after it
unfoldable pub class_of : List ℕ → List (List ℕ) → Line
class_of [] fs = Empty
class_of (b ∷ w) fs = start_line (mark_of b) (b ∷ w) fs

-- a line by its fields
unfoldable pub of_fields : List (List ℕ) → Line
of_fields [] = Empty
of_fields (w ∷ fs) = class_of w fs

-- what a line says
unfoldable pub line_of : List ℕ → Line
line_of s = of_fields (fields_in (body s))

-- a line with another number after `.p`
abbrev pub recounted : (ℕ → ℕ) → Line → Line
recounted f Empty = Empty
recounted f (Sized p n) = Sized p n
recounted f (Named p n) = Named p n
recounted f (Typed t) = Typed t
recounted f (Rows v) = Rows (f v)
recounted f (Row m) = Row m
recounted f End = End
recounted f Fault = Fault

-- a line as the code keeps it: a number of rows above 10^19 as 10^19
abbrev pub keep_line : Line → Line
keep_line l = recounted (λ v. min v most) l

-- a line to those who only care for rows and the end mark: the cells of a row, the end mark, or neither
abbrev pub view_of : Line → View
view_of Empty = Aside
view_of (Sized p n) = Aside
view_of (Named p n) = Aside
view_of (Typed t) = Aside
view_of (Rows v) = Aside
view_of (Row m) = Cells m
view_of End = EndMark
view_of Fault = Aside
