-- Where the fields of a line stand, and the name of a column among them.
use Rattle.std.specs.Prelude.{ℕ, zero, suc, ◌+◌, ◌-◌, ◌≤◌, ◌≡◌, List, length, take, drop}
use Rattle.fields.specs.Bytes.{run}
use Rattle.fields.specs.Texts.{body}
use Rattle.fields.specs.declared.Span.{Span}
use Rattle.fields.specs.declared.Stretch.TheVariants.{Gap, Field}

-- the bytes from one place to another
abbrev pub between : ℕ → ℕ → List ℕ → List ℕ
between a e s = take (e - a) (drop a s)

-- the bytes of a span
abbrev pub bytes_of : Span → List ℕ → List ℕ
bytes_of p s = between p.from p.to s

-- where the gap at a place ends
unfoldable pub start_at : List ℕ → ℕ → ℕ
start_at s i = i + run Gap (drop i s)

-- where the field at a place ends
unfoldable pub end_at : List ℕ → ℕ → ℕ
end_at s i = i + run Field (drop i s)

-- the field at or after a place
unfoldable pub span_at : List ℕ → ℕ → Span
span_at s i = record { from = start_at s i; to = end_at s (start_at s i) }

-- field number k, counted from a place on
unfoldable pub field_at : List ℕ → ℕ → ℕ → Span
field_at s i zero = span_at s i
field_at s i (suc k) = field_at s (span_at s i).to k

-- the name of a column: the keyword is field 0 of its line, and the comment is cut
unfoldable pub name_span : List ℕ → ℕ → Span
name_span line column = field_at (body line) 0 (suc column)

-- r is the span p, and lies in s
pub record SpanIs (s : List ℕ) (p r : Span) : Type 0 where
  pub is : r ≡ p
  pub ordered : r.from ≤ r.to
  pub inside : r.to ≤ length s
