-- What is allowed, and what follows, does not depend on the number after `.p`: any function may change it.
use Prim.Native.Nat.{ℕ}
use mathlib.Core.Path.{◌≡◌, refl}
use mathlib.Core.List.{List}
use Rattle.lines.specs.Lines.{recounted}
use Rattle.lines.specs.declared.Line.{Line}
use Rattle.lines.specs.declared.Line.TheVariants.{Empty, Sized, Named, Typed, Rows, Row, End, Fault}
use Rattle.headers.specs.Headers.{open_of, header_allowed, end_allowed, row_allowed, Point, allowed_by, next_by}
use Rattle.headers.specs.declared.Layout.{Layout}
use Rattle.headers.specs.declared.State.{State}

-- a state with another number after `.p`
abbrev pub on_want : (ℕ → ℕ) → State → State
on_want f st = record { seen = st.seen; size = st.size; want = f st.want; place = st.place; rows = st.rows; ended = st.ended }

abbrev pub on_point : (ℕ → ℕ) → Point → Point
on_point f pt = record { state = on_want f pt.state; held = pt.held }

pub allowed_on_count : (f : ℕ → ℕ) (lay : Layout) (pt : Point) (l : Line) (ns : List (List ℕ)) → allowed_by lay (on_point f pt) (recounted f l) ns ≡ allowed_by lay pt l ns
unfolding allowed_by open_of header_allowed end_allowed row_allowed
allowed_on_count f lay pt Empty ns = refl
allowed_on_count f lay pt (Sized p n) ns = refl
allowed_on_count f lay pt (Named p n) ns = refl
allowed_on_count f lay pt (Typed t) ns = refl
allowed_on_count f lay pt (Rows v) ns = refl
allowed_on_count f lay pt (Row m) ns = refl
allowed_on_count f lay pt End ns = refl
allowed_on_count f lay pt Fault ns = refl

pub next_on_count : (f : ℕ → ℕ) (pt : Point) (l : Line) (ns : List (List ℕ)) (k : ℕ) → next_by (on_point f pt) (recounted f l) ns k ≡ on_point f (next_by pt l ns k)
next_on_count f pt Empty ns k = refl
next_on_count f pt (Sized p n) ns k = refl
next_on_count f pt (Named p n) ns k = refl
next_on_count f pt (Typed t) ns k = refl
next_on_count f pt (Rows v) ns k = refl
next_on_count f pt (Row m) ns k = refl
next_on_count f pt End ns k = refl
next_on_count f pt Fault ns k = refl
