-- An accepted text is for a panel of 1 to 10 relays, and every row of it has that many columns and fits the layout.
use Prim.Native.Nat.{ℕ, ◌+◌, ◌≤◌}
use mathlib.Core.Path.{◌≡◌}
use mathlib.Core.Logic.{inl, inr}
use mathlib.Core.List.{List, [], ◌∷◌, ◌++◌}
use native.Mathlib.Omega.{arith}
use Rattle.names.specs.Names.{names_in}
use Rattle.lines.specs.Lines.{line_of, view_of}
use Rattle.lines.specs.Bounds.{LineOk}
use Rattle.lines.specs.declared.Part.TheVariants.{Ins}
use Rattle.lines.specs.declared.View.{View}
use Rattle.lines.specs.declared.View.TheVariants.{Cells, EndMark, Aside}
use Rattle.lines.specs.declared.Line.{Line}
use Rattle.lines.specs.declared.Line.TheVariants.{Empty, Sized, Named, Typed, Rows, Row, End, Fault}
use Rattle.lines.proofs.BoundLaws.{line_ok}
use Rattle.headers.specs.Accepted.{one, is_header, times, rows_in, Fits, HeaderLine, RowLine, EmptyLine, All, Text}
use Rattle.headers.specs.declared.Layout.{Layout}
use Rattle.headers.specs.declared.Header.{Header}
use Rattle.headers.specs.declared.Header.TheVariants.{Size}

size_line : (lay : Layout) (n r t : ℕ) (ns own : List (List ℕ)) (l : Line) → LineOk l → HeaderLine lay n r ns l own → 1 ≤ one (is_header (Size Ins) l) + t → (1 ≤ t → (1 ≤ n) × (n ≤ 10)) → (1 ≤ n) × (n ≤ 10)
size_line lay n r t ns own Empty o p c more = more (omega arith)
size_line lay n r t ns own (Sized q s) o p c more = (rw (← p) o.0, rw (← p) o.1)
size_line lay n r t ns own (Named q s) o p c more = (rw (← p.0) o.0, rw (← p.0) o.1)
size_line lay n r t ns own (Typed k) o p c more = more (omega arith)
size_line lay n r t ns own (Rows v) o p c more = more (omega arith)
size_line lay n r t ns own (Row m) o p c more = absurd p
size_line lay n r t ns own End o p c more = absurd p
size_line lay n r t ns own Fault o p c more = absurd p

size_top : (lay : Layout) (n r : ℕ) (ns top : List (List ℕ)) → All (HeaderLine lay n r ns) top → 1 ≤ times (Size Ins) top → (1 ≤ n) × (n ≤ 10)
unfolding times
size_top lay n r ns [] a c = absurd (omega arith)
size_top lay n r ns (l ∷ top) a c = size_line lay n r (times (Size Ins) top) ns (names_in l) (line_of l) (line_ok l) a.0 c (size_top lay n r ns top a.1)

pub text_size : (lay : Layout) (n : ℕ) (ls : List (List ℕ)) → Text lay n ls → (1 ≤ n) × (n ≤ 10)
text_size lay n ls t = size_top lay n _ t.names t.top t.headers (omega (arith, t.sized Ins))

-- a row has n columns and fits the layout
abbrev pub ViewFits : Layout → ℕ → View → Type 0
ViewFits lay n (Cells m) = Fits lay n m
ViewFits lay n EndMark = Unit {0}
ViewFits lay n Aside = Unit {0}

abbrev pub RowFits : Layout → ℕ → Line → List (List ℕ) → Type 0
RowFits lay n l own = ViewFits lay n (view_of l)

header_fits : (lay : Layout) (n r : ℕ) (ns : List (List ℕ)) (l : Line) (own : List (List ℕ)) → HeaderLine lay n r ns l own → RowFits lay n l own
header_fits lay n r ns Empty own p = tt
header_fits lay n r ns (Sized q s) own p = tt
header_fits lay n r ns (Named q s) own p = tt
header_fits lay n r ns (Typed t) own p = tt
header_fits lay n r ns (Rows v) own p = tt
header_fits lay n r ns (Row m) own p = absurd p
header_fits lay n r ns End own p = tt
header_fits lay n r ns Fault own p = tt

row_fits_lem : (lay : Layout) (n : ℕ) (l : Line) (own : List (List ℕ)) → RowLine lay n l own → RowFits lay n l own
row_fits_lem lay n l own (inl e) = rw e tt
row_fits_lem lay n l own (inr p) = rw p.1 p.2

pub all_map : (P Q : Line → List (List ℕ) → Type 0) → ((l : Line) (own : List (List ℕ)) → P l own → Q l own) → (ls : List (List ℕ)) → All P ls → All Q ls
all_map P Q f [] a = tt
all_map P Q f (l ∷ ls) a = (f (line_of l) (names_in l) a.0, all_map P Q f ls a.1)

pub all_append : (P : Line → List (List ℕ) → Type 0) (ls ms : List (List ℕ)) → All P ls → All P ms → All P (ls ++ ms)
all_append P [] ms a b = b
all_append P (l ∷ ls) ms a b = (a.0, all_append P ls ms a.1 b)

-- what every header, every row or empty line and the end mark of a text is, all its lines are
pub text_all : (P : Line → List (List ℕ) → Type 0) (lay : Layout) (n : ℕ) (ls : List (List ℕ)) (t : Text lay n ls)
    → ((l : Line) (own : List (List ℕ)) → HeaderLine lay n (rows_in t.middle) t.names l own → P l own)
    → ((l : Line) (own : List (List ℕ)) → RowLine lay n l own → P l own) → ((own : List (List ℕ)) → P End own) → All P ls
text_all P lay n ls t h r e =
    rw t.lines
    (all_append P t.top (t.middle ++ t.mark ∷ t.rest) (all_map (HeaderLine lay n (rows_in t.middle) t.names) P h t.top t.headers)
    (all_append P t.middle (t.mark ∷ t.rest) (all_map (RowLine lay n) P r t.middle t.rows)
    (rw t.ends (e (names_in t.mark)), all_map EmptyLine P (λ l own q. r l own (inl q)) t.rest t.empty)))

-- every row of a text has n columns and fits the layout
pub text_rows_lem : (lay : Layout) (n : ℕ) (ls : List (List ℕ)) → Text lay n ls → All (RowFits lay n) ls
text_rows_lem lay n ls t = text_all (RowFits lay n) lay n ls t (header_fits lay n (rows_in t.middle) t.names) (row_fits_lem lay n) (λ own. tt)

-- how often a header stands among lines and others
pub times_append : (h : Header) (ls ms : List (List ℕ)) → times h (ls ++ ms) ≡ times h ls + times h ms
unfolding times
times_append h [] ms = omega arith
times_append h (l ∷ ls) ms = let r = times_append h ls ms in omega arith
