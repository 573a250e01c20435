-- Laws of one line: what each kind of line is when its number is kept, and what `scan_line` does.
use Prim.Native.Nat.{ℕ, ◌+◌, ◌-◌, ◌≤◌, ◌<◌}
use mathlib.Core.Path.{◌≡◌, refl, ◌∙◌, ap}
use mathlib.Core.List.{List, [], ◌∷◌, map}
use mathlib.Core.Bool.{Bool, true, false, cond}
use mathlib.Core.Logic.{◌⊎◌, inl, inr, ⊎_elim}
use native.Mathlib.Omega.{arith}
use lib.Dec.{eqb, leb}
use lib.ListN.{length, get_or, take, drop, drop_of_length-le}
use lib.Seq.{take-nil, drop-cons}
use native.Mathlib.Numerals.{add-one}
use borrow.Author.Tests.{eq-eqb, ne_eqb, le-leb, lt-leb}
use denote.Ref.{Bor}
use Rattle.std.specs.Prelude.{Option, Some, None, unwrap_or, option_map, nat_eq}
use Rattle.std.specs.List.{slice_get}
use Rattle.std.specs.Cmp.Lexicographic.{pointwise}
use Rattle.fields.proofs.ByteLaws.{same_is_eq}
use Rattle.fields.specs.Bytes.{mark_of}
use Rattle.fields.specs.Fields.{fields_in, only_of, Spans}
use Rattle.fields.specs.Values.{cube_of}
use Rattle.fields.specs.declared.Span.{Span}
use Rattle.fields.specs.declared.Columns.{Columns}
use Rattle.fields.specs.declared.Mark.{Mark}
use Rattle.fields.specs.declared.Mark.TheVariants.{Digit, Dash, Space, Hash, Dot, Feed, Other}
use Rattle.fields.proofs.FieldLaws.{end_or, span_none, span_some}
use Rattle.lines.specs.Lines.{meaning, row_of, row_line, start_line, class_of, of_fields, keep_line}
use Rattle.lines.specs.declared.Kind.TheVariants.{Recording, Sheet}
use Rattle.lines.specs.declared.Line.{Line}
use Rattle.lines.specs.declared.Line.TheVariants.{Empty, Typed, Fault}

-- a row has no number that is kept
row_of_kept : (a b : Option Columns) (w : ℕ) → row_of a b w ≡ keep_line (row_of a b w)
row_of_kept None b w = refl
row_of_kept (Some a) None w = refl
row_of_kept (Some a) (Some b) w = refl

row_kept : (w v : List ℕ) → row_line w v ≡ keep_line (row_line w v)
unfolding row_line
row_kept w v = go (eqb (length w) (length v)) (leb (length w) 10)
  where
    go : (t u : Bool) → cond t (cond u (row_of (cube_of w) (cube_of v) (length w)) Fault) Fault
        ≡ keep_line (cond t (cond u (row_of (cube_of w) (cube_of v) (length w)) Fault) Fault)
    go false u = refl
    go true false = refl
    go true true = row_of_kept (cube_of w) (cube_of v) (length w)

pub row_line_lem : (s o : List ℕ) → o ≡ only_of (fields_in s) → (l : Line) (w : List ℕ) → l ≡ row_line w o → l ≡ keep_line (row_line w (only_of (fields_in s)))
row_line_lem s o ho l w h = h ∙ row_kept w o ∙ ap (λ (x : List ℕ). keep_line (row_line w x)) ho

-- a line by the first byte of its first field
pub class_none : (w : List ℕ) (fs : List (List ℕ)) → None ≡ slice_get w 0 → Empty ≡ keep_line (class_of w fs)
unfolding class_of
class_none [] fs h = refl
class_none (b ∷ w) fs h = absurd cc

pub class_start : (w : List ℕ) (fs : List (List ℕ)) (b : ℕ) (m : Mark) → Some b ≡ slice_get w 0 → m ≡ mark_of b → class_of w fs ≡ start_line m w fs
unfolding class_of
class_start [] fs b m h e = absurd cc
class_start (x ∷ w) fs b m h e =
    let q : b ≡ x = cc in
    rw (e, q)

-- a line by its first field and what stands after it
pub class_of_line : (s : List ℕ) (r : Span) → Spans s 0 r → class_of (take (r.to - r.from) (drop r.from s)) (fields_in (drop r.to s)) ≡ of_fields (fields_in s)
unfolding class_of of_fields
class_of_line s r h =
    ⊎_elim
    (λ e. rw (drop_of_length-le s {i = r.from} (omega arith), take-nil) (rw (span_none s 0 r h e)))
    (λ l. rw (span_some s 0 r h l))
    (end_or r.from (length s) h.start_in)

-- a table's words from the entry x on: w is x's word, or it is looked for behind x
abbrev entries : {T : Type 0} → List (Bor (List ℕ) × T) → List (List ℕ × T)
entries es = map (λ e. (e.0.now, e.1)) es

module _ {T : Type 0} (es : List (Bor (List ℕ) × T)) (w : List ℕ) (i : ℕ) (x : Bor (List ℕ) × T) (k : Option T)
    (h : i < length es) (q : x ≡ get_or es i x) (left : meaning (entries (drop i es)) w ≡ k) where
  pub word_hit : true ≡ pointwise nat_eq w x.0.now → Some x.1 ≡ k
  word_hit e = rw (drop-cons es i x h, ← q, same_is_eq w x.0.now, ← e) at left

  pub word_miss : false ≡ pointwise nat_eq w x.0.now → meaning (entries (drop (i + 1) es)) w ≡ k
  word_miss e = rw add-one (rw (drop-cons es i x h, ← q, same_is_eq w x.0.now, ← e) at left)

-- what a text is, by the tests of its two words
pub typed_by : (v : List ℕ) (t u : Bool) → unwrap_or (option_map Typed (cond t (Some Recording) (cond u (Some Sheet) None))) Fault ≡ cond t (Typed Recording) (cond u (Typed Sheet) Fault)
typed_by v true u = refl
typed_by v false true = refl
typed_by v false false = refl

-- a row of two fields of one width, and two fields that are none
pub row_apart : (w v : List ℕ) → (length w ≡ length v → ⊥) → Fault ≡ row_line w v
unfolding row_line
row_apart w v h = rw (ne_eqb (length w) (length v) h)

pub row_wide : (w v : List ℕ) → 10 < length w → Fault ≡ row_line w v
unfolding row_line
row_wide w v h = rw (lt-leb (length w) 10 h) (go (eqb (length w) (length v)))
  where
    go : (t : Bool) → Fault ≡ cond t Fault Fault
    go true = refl
    go false = refl

pub row_read : (w v : List ℕ) (a b : Option Columns) → length w ≡ length v → length w ≤ 10 → a ≡ cube_of w → b ≡ cube_of v → row_of a b (length w) ≡ row_line w v
unfolding row_line
row_read w v a b h k e f = rw (eq-eqb (length w) (length v) h, le-leb (length w) 10 k, e, f)

-- a line by its first byte: it starts a row, a keyword, or neither
pub start_row : (m : Mark) (w : List ℕ) (fs : List (List ℕ)) → ((d : ℕ) × (m ≡ Digit d)) ⊎ (m ≡ Dash) → start_line m w fs ≡ row_line w (only_of fs)
start_row m w fs (inl e) = rw e.1
start_row m w fs (inr e) = rw e

-- a first byte that starts neither a row nor a keyword
pub start_fault : (m : Mark) (w : List ℕ) (fs : List (List ℕ)) → ((d : ℕ) → m ≡ Digit d → ⊥) → (m ≡ Dash → ⊥) → (m ≡ Dot → ⊥) → Fault ≡ keep_line (start_line m w fs)
start_fault (Digit d) w fs a b c = absurd (a d refl)
start_fault Dash w fs a b c = absurd (b refl)
start_fault Dot w fs a b c = absurd (c refl)
start_fault Space w fs a b c = refl
start_fault Hash w fs a b c = refl
start_fault Feed w fs a b c = refl
start_fault Other w fs a b c = refl
