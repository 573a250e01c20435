-- Which lines may follow which in a text of a layout: the state after some lines, what is missing there, and what it allows.
use Rattle.std.specs.Prelude.{ℕ, zero, suc, ◌+◌, ◌^◌, List, [], ◌∷◌, Bool, true, false, cond, not, ◌&&◌, ◌||◌, eqb, ltb}
use Rattle.names.specs.Names.{same_fields, names_in}
use Rattle.lines.specs.Lines.{line_of}
use Rattle.lines.specs.declared.Masks.{Masks}
use Rattle.lines.specs.declared.Part.TheVariants.{Ins, Outs}
use Rattle.lines.specs.declared.Kind.{Kind}
use Rattle.lines.specs.declared.Kind.TheVariants.{Recording, Sheet}
use Rattle.lines.specs.declared.Line.{Line}
use Rattle.lines.specs.declared.Line.TheVariants.{Empty, Sized, Named, Typed, Rows, Row, End, Fault}
use Rattle.headers.specs.Layouts.{same_header, asks}
use Rattle.headers.specs.declared.Layout.{Layout}
use Rattle.headers.specs.declared.Header.{Header}
use Rattle.headers.specs.declared.Header.TheVariants.{Size, Names, TypeWord, Count}
use Rattle.headers.specs.declared.Seen.{Seen}
use Rattle.headers.specs.declared.State.{State}

-- every header: `.i`, `.o`, `.ilb`, `.ob`, `.type`, `.p`
abbrev pub every_header : List Header
every_header = Size Ins ∷ Size Outs ∷ Names Ins ∷ Names Outs ∷ TypeWord ∷ Count ∷ []

-- this header stood there
abbrev pub has_header : Seen → Header → Bool
has_header s (Size Ins) = s.ins
has_header s (Size Outs) = s.outs
has_header s (Names Ins) = s.in_names
has_header s (Names Outs) = s.out_names
has_header s TypeWord = s.word
has_header s Count = s.count

-- this header must stand before the first row and the end mark, and does not stand there yet
unfoldable pub lacks : Layout → Seen → Header → Bool
lacks lay s h = not (has_header s h) && asks lay s h

-- none of some headers is missing
unfoldable pub lacks_none : Layout → Seen → List Header → Bool
lacks_none lay s [] = true
lacks_none lay s (h ∷ hs) = not (lacks lay s h) && lacks_none lay s hs

-- the first row and the end mark may stand: no header is missing
unfoldable pub ready_of : Layout → Seen → Bool
ready_of lay s = lacks_none lay s every_header

-- two type words are the same
abbrev pub same_kind : Kind → Kind → Bool
same_kind Recording Recording = true
same_kind Recording Sheet = false
same_kind Sheet Recording = false
same_kind Sheet Sheet = true

-- the first of the f relays from h on whose bit is the whole of x, else h + f
unfoldable pub only_from : ℕ → ℕ → ℕ → ℕ
only_from zero h x = h
only_from (suc f) h x = cond (eqb x (2 ^ h)) h (only_from f (h + 1) x)

-- the relay whose bit is the only one on in x; 10 if there is none
unfoldable pub only_on : ℕ → ℕ
only_on x = only_from 10 0 x

-- a row fits the layout: `-` stands only where it is allowed, and there is one output of `1` where it is asked for
unfoldable pub row_fits : Layout → Masks → Bool
row_fits lay m = (lay.dashes || eqb m.free 0) && ((lay.unread || eqb m.unread 0) && (not lay.single || ltb (only_on m.next) 10))

-- headers may stand: no row and no end mark yet
unfoldable pub open_of : State → Bool
open_of st = not st.ended && eqb st.rows 0

-- two numbers of columns are equal: no size is given yet, or it is the same
unfoldable pub fits_of : ℕ → ℕ → Bool
fits_of size n = eqb size 0 || eqb size n

-- a header, fitting or not: before the first row, and at most once
unfoldable pub header_allowed : State → Header → Bool → Bool
header_allowed st h fits = open_of st && (not (has_header st.seen h) && fits)

-- the end mark: not after another, and with nothing missing
unfoldable pub end_allowed : Layout → State → Bool
end_allowed lay st = not st.ended && ready_of lay st.seen

-- a row: where the end mark might stand, as wide as the size, and fitting the layout
unfoldable pub row_allowed : Layout → State → Masks → Bool
row_allowed lay st m = end_allowed lay st && (eqb st.size m.width && row_fits lay m)

-- whether a line may stand where the lines before it led to this state, the names themselves left aside
abbrev pub allowed_of : Layout → State → Line → Bool
allowed_of lay st Empty = true
allowed_of lay st (Sized p n) = header_allowed st (Size p) (fits_of st.size n)
allowed_of lay st (Named p n) = header_allowed st (Names p) (fits_of st.size n)
allowed_of lay st (Typed t) = header_allowed st TypeWord (same_kind lay.kind t)
allowed_of lay st (Rows v) = header_allowed st Count true
allowed_of lay st (Row m) = row_allowed lay st m
allowed_of lay st End = end_allowed lay st
allowed_of lay st Fault = false

-- a name line stood there
unfoldable pub named : Seen → Bool
named s = s.in_names || s.out_names

-- a line is a name line
abbrev pub is_names : Line → Bool
is_names Empty = false
is_names (Sized p n) = false
is_names (Named p n) = true
is_names (Typed t) = false
is_names (Rows v) = false
is_names (Row m) = false
is_names End = false
is_names Fault = false

-- the names ns of a name line are those that are held, if a name line stood there before
abbrev pub agrees_of : Seen → List (List ℕ) → Line → List (List ℕ) → Bool
agrees_of s held l ns = not (is_names l) || (not (named s) || same_fields held ns)

-- what is held after a line: its own if it is a name line, else what was held
abbrev pub held_of : {A : Type 0} → Line → A → A → A
held_of l own held = cond (is_names l) own held

-- the headers with one more
abbrev pub with_header : Seen → Header → Seen
with_header s h = record {
  ins = same_header (Size Ins) h || s.ins;
  outs = same_header (Size Outs) h || s.outs;
  in_names = same_header (Names Ins) h || s.in_names;
  out_names = same_header (Names Outs) h || s.out_names;
  word = same_header TypeWord h || s.word;
  count = same_header Count h || s.count;
}

-- the state after a line, number k
abbrev pub next_of : State → Line → ℕ → State
next_of st Empty k = st
next_of st (Sized p n) k = record { seen = with_header st.seen (Size p); size = n; want = st.want; place = st.place; rows = st.rows; ended = st.ended }
next_of st (Named p n) k = record { seen = with_header st.seen (Names p); size = n; want = st.want; place = st.place; rows = st.rows; ended = st.ended }
next_of st (Typed t) k = record { seen = with_header st.seen TypeWord; size = st.size; want = st.want; place = st.place; rows = st.rows; ended = st.ended }
next_of st (Rows v) k = record { seen = with_header st.seen Count; size = st.size; want = v; place = k; rows = st.rows; ended = st.ended }
next_of st (Row m) k = record { seen = st.seen; size = st.size; want = st.want; place = st.place; rows = st.rows + 1; ended = st.ended }
next_of st End k = record { seen = st.seen; size = st.size; want = st.want; place = st.place; rows = st.rows; ended = true }
next_of st Fault k = st

-- before the first line
abbrev pub fresh_state : State
fresh_state = record { seen = record { ins = false; outs = false; in_names = false; out_names = false; word = false; count = false }; size = 0; want = 0; place = 0; rows = 0; ended = false }

-- where a text is read: the state, and the names of the name line that stood there
pub record Point : Type 0 where
  pub state : State
  pub held : List (List ℕ)

-- before the first line
abbrev pub fresh_point : Point
fresh_point = record { state = fresh_state; held = [] }

-- a line that says x, with the names ns: whether it may stand, and the point after it
unfoldable pub allowed_by : Layout → Point → Line → List (List ℕ) → Bool
allowed_by lay pt x ns = allowed_of lay pt.state x && agrees_of pt.state.seen pt.held x ns

abbrev pub next_by : Point → Line → List (List ℕ) → ℕ → Point
next_by pt x ns k = record { state = next_of pt.state x k; held = held_of x ns pt.held }

-- the same of a line as it stands in the text
unfoldable pub allowed_at : Layout → Point → List ℕ → Bool
allowed_at lay pt l = allowed_by lay pt (line_of l) (names_in l)

unfoldable pub next_at : Point → List ℕ → ℕ → Point
next_at pt l k = next_by pt (line_of l) (names_in l) k
