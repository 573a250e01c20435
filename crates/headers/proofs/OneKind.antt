-- A text is of one kind: the type lines of all layouts that accept it have one word, and where they require the line it is there.
use Prim.Native.Nat.{ℕ, ◌+◌, ◌≤◌}
use mathlib.Core.Path.{◌≡◌, refl, sym, ◌∙◌, ap}
use mathlib.Core.List.{List, [], ◌∷◌, ◌++◌}
use mathlib.Core.Logic.{inl, inr}
use mathlib.Core.Bool.{true, false≢true}
use native.Mathlib.Omega.{arith}
use Rattle.fields.specs.Texts.{lines_of}
use Rattle.names.specs.Names.{names_in}
use Rattle.lines.specs.Lines.{line_of}
use Rattle.lines.specs.declared.Kind.{Kind}
use Rattle.lines.specs.declared.Kind.TheVariants.{Recording}
use Rattle.lines.specs.declared.Line.{Line}
use Rattle.lines.specs.declared.Line.TheVariants.{Empty, Sized, Named, Typed, Rows, Row, End, Fault}
use Rattle.headers.specs.Layouts.{recording, sheet}
use Rattle.headers.specs.Headers.{same_kind}
use Rattle.headers.specs.Accepted.{is_header, one, times, HeaderLine, RowLine, All, Text, Accepted}
use Rattle.headers.specs.declared.Layout.{Layout}
use Rattle.headers.specs.declared.Header.TheVariants.{TypeWord}
use Rattle.headers.proofs.Sizes.{text_all, times_append}

-- a type line has this word
abbrev OfKind : Kind → Line → List (List ℕ) → Type 0
OfKind k Empty own = Unit {0}
OfKind k (Sized p n) own = Unit {0}
OfKind k (Named p n) own = Unit {0}
OfKind k (Typed t) own = t ≡ k
OfKind k (Rows v) own = Unit {0}
OfKind k (Row m) own = Unit {0}
OfKind k End own = Unit {0}
OfKind k Fault own = Unit {0}

header_kind : (lay : Layout) (n r : ℕ) (ns : List (List ℕ)) (l : Line) (own : List (List ℕ)) → HeaderLine lay n r ns l own → OfKind lay.kind l own
header_kind lay n r ns Empty own h = tt
header_kind lay n r ns (Sized p s) own h = tt
header_kind lay n r ns (Named p s) own h = tt
header_kind lay n r ns (Typed t) own h = h
header_kind lay n r ns (Rows v) own h = tt
header_kind lay n r ns (Row m) own h = tt
header_kind lay n r ns End own h = tt
header_kind lay n r ns Fault own h = tt

row_kind : (lay : Layout) (n : ℕ) (k : Kind) (l : Line) (own : List (List ℕ)) → RowLine lay n l own → OfKind k l own
row_kind lay n k l own (inl e) = rw e tt
row_kind lay n k l own (inr p) = rw p.1 tt

-- every type line of a text has the word of its layout
text_kind : (lay : Layout) (n : ℕ) (ls : List (List ℕ)) → Text lay n ls → All (OfKind lay.kind) ls
text_kind lay n ls t = text_all (OfKind lay.kind) lay n ls t (header_kind lay n _ t.names) (row_kind lay n lay.kind) (λ own. tt)

-- where a type line stands, it has one word
typed_once : (a b : Kind) (ls : List (List ℕ)) → All (OfKind a) ls → All (OfKind b) ls → 1 ≤ times TypeWord ls → a ≡ b
unfolding times
typed_once a b [] p q c = absurd (omega arith)
typed_once a b (l ∷ ls) p q c = go (line_of l) (names_in l) p.0 q.0 c (typed_once a b ls p.1 q.1)
  where
    go : (x : Line) (own : List (List ℕ)) → OfKind a x own → OfKind b x own → 1 ≤ one (is_header TypeWord x) + times TypeWord ls → (1 ≤ times TypeWord ls → a ≡ b) → a ≡ b
    go Empty own p q c more = more (omega arith)
    go (Sized s n) own p q c more = more (omega arith)
    go (Named s n) own p q c more = more (omega arith)
    go (Typed t) own p q c more = sym p ∙ q
    go (Rows v) own p q c more = more (omega arith)
    go (Row m) own p q c more = more (omega arith)
    go End own p q c more = more (omega arith)
    go Fault own p q c more = more (omega arith)

-- a type line that a layout requires stands in each of its texts
pub typed_stands : (lay : Layout) (n : ℕ) (ls : List (List ℕ)) → lay.typed ≡ true → Text lay n ls → 1 ≤ times TypeWord ls
typed_stands lay n ls r t =
    omega (arith, ap (times TypeWord) t.lines, times_append TypeWord t.top (t.middle ++ t.mark ∷ t.rest), t.typed r)

-- layouts that accept one text have one word, if one of them requires the type line
pub one_kind : (lay other : Layout) (m n : ℕ) (t : List ℕ) → lay.typed ≡ true → Accepted lay m t → Accepted other n t → lay.kind ≡ other.kind
one_kind lay other m n t r x y =
    typed_once lay.kind other.kind (lines_of t) (text_kind lay m (lines_of t) x) (text_kind other n (lines_of t) y) (typed_stands lay m (lines_of t) r x)

-- no text is a recording and a sheet
pub never_both : (m n : ℕ) (t : List ℕ) → Accepted recording m t → Accepted sheet n t → ⊥
never_both m n t x y = false≢true (sym (ap (same_kind Recording) (one_kind recording sheet m n t refl x y)))
