-- Where the fields of a line stand: one field after the other, and what stands at the place of a column's name is that name.
use Prim.Native.Nat.{ℕ, zero, suc, ◌+◌, ◌-◌, ◌≤◌}
use mathlib.Core.Path.{◌≡◌, refl, sym, ◌∙◌, ap}
use mathlib.Core.List.{List, [], ◌∷◌}
use mathlib.Core.Logic.{⊎_elim}
use native.Mathlib.Omega.{arith}
use native.Mathlib.Nat.{zero-add}
use lib.ListN.{length, get_or, take, drop, length-take, length-drop, drop_of_length-le, get_or-eq_default}
use lib.Seq.{take-nil, take-take, length-take-le}
use Rattle.fields.specs.Bytes.{run}
use Rattle.fields.specs.Texts.{body}
use Rattle.fields.specs.Fields.{fields_from, fields_in, Spans}
use Rattle.fields.specs.declared.Span.{Span}
use Rattle.fields.specs.declared.Stretch.TheVariants.{Gap, Field, Body}
use Rattle.fields.proofs.ByteLaws.{run_le}
use Rattle.fields.proofs.FieldLaws.{end_or, span_none, span_some, span_in}
use Rattle.names.specs.Names.{tail_of, names_in}
use Rattle.names.specs.Spans.{between, bytes_of, start_at, end_at, span_at, field_at, name_span, SpanIs}
use Rattle.names.proofs.NameLaws.{drop_take_is}

-- ---- the field at a place

span_same : (p q : Span) → p.from ≡ q.from → p.to ≡ q.to → p ≡ q
span_same p q a b = λ i. record { from = a i; to = b i }

-- the field that `field_at` finds is the one that the place defines
pub span_is : (s : List ℕ) (i : ℕ) (p : Span) → Spans s i p → p ≡ span_at s i
unfolding span_at start_at end_at
span_is s i p h = span_same p _ h.starts (h.ends ∙ ap (λ (a : ℕ). a + run Field (drop a s)) h.starts)

run_in : (s : List ℕ) (i : ℕ) (m : ℕ) → i ≤ length s → m ≤ length (drop i s) → i + m ≤ length s
run_in s i m h k = omega (arith, length-drop i s)

pub span_spans : (s : List ℕ) (i : ℕ) → i ≤ length s → Spans s i (span_at s i)
unfolding span_at start_at end_at
span_spans s i h =
    let from_in : start_at s i ≤ length s = run_in s i (run Gap (drop i s)) h (run_le Gap (drop i s)) in
    record {
      starts = refl;
      ends = refl;
      start_in = from_in;
      end_in = run_in s (start_at s i) (run Field (drop (start_at s i) s)) from_in (run_le Field (drop (start_at s i) s));
    }

-- ---- field number k: one field is passed, and the last is the field at the place

pub field_more : (s : List ℕ) (i left rest : ℕ) (p : Span) → Spans s i p → left ≡ suc rest → field_at s p.to rest ≡ field_at s i left
unfolding field_at
field_more s i left rest p h e = rw (e, span_is s i p h)

pub field_done : (s : List ℕ) (i left : ℕ) (p q : Span) → Spans s i p → left ≤ 0 → field_at s i left ≡ q → SpanIs s q p
unfolding field_at
field_done s i zero p q h l e = record { is = span_is s i p h ∙ e; ordered = span_in s i p h; inside = h.end_in }
field_done s i (suc k) p q h l e = absurd (omega arith)

-- ---- the name of a column

pub name_at : (line : List ℕ) (c column : ℕ) (p r : Span) → c ≡ 0 + run Body (drop 0 line) → c ≤ length line → Spans (take c line) 0 p
    → SpanIs (take c line) (field_at (take c line) p.to column) r → SpanIs line (name_span line column) r
unfolding name_span field_at body
name_at line c column p r hc lc h f =
    let body_is : take c line ≡ body line = ap (λ (n : ℕ). take n line) (hc ∙ zero-add _) in
    record {
      is = f.is ∙ rw (span_is (take c line) 0 p h) (ap (λ (s : List ℕ). field_at s (span_at s 0).to column) body_is);
      ordered = f.ordered;
      inside = omega (arith, f.inside, length-take-le c line lc);
    }

-- ---- what stands there

none_left : (s : List ℕ) (i : ℕ) → length s ≤ i → fields_in (drop i s) ≡ []
unfolding fields_in fields_from
none_left s i h = rw (drop_of_length-le s {i = i} h)

-- the fields after the first of those left
pub tail_at : (s : List ℕ) (i : ℕ) → i ≤ length s → tail_of (fields_in (drop i s)) ≡ fields_in (drop (span_at s i).to s)
tail_at s i h =
    let p = span_at s i in
    let at_p = span_spans s i h in
    ⊎_elim
    (λ e. rw (span_none s i p at_p e, none_left s p.to (omega (arith, span_in s i p at_p))))
    (λ l. rw (span_some s i p at_p l))
    (end_or p.from (length s) at_p.start_in)

pub field_in : (k : ℕ) (s : List ℕ) (i : ℕ) → i ≤ length s → ((field_at s i k).from ≤ (field_at s i k).to) × ((field_at s i k).to ≤ length s)
unfolding field_at
field_in zero s i h = (span_in s i (span_at s i) (span_spans s i h), (span_spans s i h).end_in)
field_in (suc k) s i h = field_in k s (span_at s i).to (span_spans s i h).end_in

get_tail : (ws : List (List ℕ)) (k : ℕ) → get_or (tail_of ws) k [] ≡ get_or ws (suc k) []
get_tail [] k = get_or-eq_default [] [] {n = k} (omega arith)
get_tail (w ∷ ws) k = refl

-- the bytes of field number k, counted from a place on, are field number k of what is left there; nothing if there are fewer
pub field_bytes : (k : ℕ) (s : List ℕ) (i : ℕ) → i ≤ length s → bytes_of (field_at s i k) s ≡ get_or (fields_in (drop i s)) k []
unfolding field_at
field_bytes zero s i h =
    let p = span_at s i in
    let at_p = span_spans s i h in
    ⊎_elim
    (λ e. rw (span_none s i p at_p e, drop_of_length-le s {i = p.from} (omega arith), take-nil))
    (λ l. rw (span_some s i p at_p l))
    (end_or p.from (length s) at_p.start_in)
field_bytes (suc k) s i h =
    field_bytes k s (span_at s i).to (span_spans s i h).end_in
    ∙ ap (λ (ws : List (List ℕ)). get_or ws k []) (sym (tail_at s i h))
    ∙ get_tail (fields_in (drop i s)) k

-- bytes of the front of a list
between_front : (a e c : ℕ) (s : List ℕ) → e ≤ length (take c s) → between a e (take c s) ≡ between a e s
between_front a e c s h = rw (drop_take_is a c s) (take-take (e - a) (c - a) (drop a s) (omega (arith, length-take c s)))

-- the place of a column's name lies in the line
pub name_in : (line : List ℕ) (column : ℕ) → ((name_span line column).from ≤ (name_span line column).to) × ((name_span line column).to ≤ length line)
unfolding name_span body
name_in line column =
    let i = field_in (suc column) (body line) 0 (omega arith) in
    (i.0, omega (arith, i.1, length-take (run Body line) line))

-- what stands at the place of a column's name is name number `column` of the line; nothing if it has fewer
pub name_bytes_lem : (line : List ℕ) (column : ℕ) → bytes_of (name_span line column) line ≡ get_or (names_in line) column []
unfolding name_span names_in body
name_bytes_lem line column =
    let p = field_at (body line) 0 (suc column) in
    sym (between_front p.from p.to (run Body line) line (field_in (suc column) (body line) 0 (omega arith)).1)
    ∙ field_bytes (suc column) (body line) 0 (omega arith)
    ∙ sym (get_tail (fields_in (body line)) column)
