-- Every line that is read keeps to its bounds.
use Prim.Native.Nat.{ℕ, ◌^◌, ◌≤◌}
use mathlib.Core.Path.{◌≡◌, refl, sym}
use mathlib.Core.List.{List, [], ◌∷◌}
use mathlib.Core.Bool.{Bool, true, false, cond}
use native.Mathlib.Omega.{arith}
use lib.Dec.{eqb, leb, ltb}
use lib.ListN.{length}
use borrow.Author.Tests.{eqb-true, eqb-false, leb-true, ltb-false}
use Rattle.std.specs.Prelude.{Option, Some, None}
use Rattle.fields.specs.Bytes.{mark_of, same}
use Rattle.fields.specs.Fields.{only_of}
use Rattle.fields.specs.Values.{cube_of, number_of}
use Rattle.fields.specs.declared.Mark.{Mark}
use Rattle.fields.specs.declared.Mark.TheVariants.{Digit, Dash, Space, Hash, Dot, Feed, Other}
use Rattle.fields.specs.declared.Columns.{Columns}
use Rattle.fields.proofs.FieldLaws.{ne_lt}
use Rattle.fields.proofs.ValueLaws.{Under, cube_under}
use Rattle.lines.specs.Lines.{key_of, columns_of, sized_of, named_of, typed_of, count_of, stop_of, key_line, row_of, row_line, start_line, class_of, of_fields, line_of, keep_line, view_of}
use Rattle.names.specs.Names.{good_names, names_count, names_in, tail_of}
use Rattle.fields.specs.Texts.{body}
use Rattle.fields.specs.Fields.{fields_in}
use Rattle.lines.specs.Bounds.{RowOk, LineOk, NamesOk, ViewOk}
use Rattle.lines.specs.declared.Part.{Part}
use Rattle.lines.specs.declared.Masks.{Masks}
use Rattle.lines.specs.declared.Kind.{Kind}
use Rattle.lines.specs.declared.Kind.TheVariants.{Recording, Sheet}
use Rattle.lines.specs.declared.Key.{Key}
use Rattle.lines.specs.declared.Key.TheVariants.{Size, Names, TypeWord, Count, Stop}
use Rattle.lines.specs.declared.Line.{Line}
use Rattle.lines.specs.declared.Line.TheVariants.{Empty, Sized, Named, Typed, Rows, Row, End, Fault}

-- what a line can say, ns being the fields after its first: one walk, from which all bounds are read
pub data Said (ns : List (List ℕ)) : Line → Type 0 where
  blank : Said ns Empty
  sized : (p : Part) (n : ℕ) → 1 ≤ n → n ≤ 10 → Said ns (Sized p n)
  names : (p : Part) (n : ℕ) → 1 ≤ n → n ≤ 10 → good_names ns ≡ true → length ns ≡ n → Said ns (Named p n)
  typed : (t : Kind) → Said ns (Typed t)
  counts : (v : ℕ) → Said ns (Rows v)
  cells : (m : Masks) → RowOk m → Said ns (Row m)
  ends : Said ns End
  faulty : Said ns Fault

some_columns : (n : ℕ) → eqb n 0 ≡ false → 1 ≤ n
some_columns n e = ne_lt 0 n (omega arith) (λ z. eqb-false n 0 e (sym z))

module _ (ns : List (List ℕ)) where
  said_size : (p : Part) (n : Option ℕ) → Said ns (sized_of p (columns_of n))
  said_size p None = faulty
  said_size p (Some v) = some (eqb v 0) refl (ltb 10 v) refl
    where
      some : (t : Bool) → eqb v 0 ≡ t → (u : Bool) → ltb 10 v ≡ u → Said ns (sized_of p (cond t None (cond u None (Some v))))
      some true e u f = faulty
      some false e true f = faulty
      some false e false f = sized p v (some_columns v e) (ltb-false 10 v f)

  said_names : (p : Part) → Said ns (named_of p (columns_of (names_count ns)))
  unfolding names_count
  said_names p = go (good_names ns) refl (length ns) refl
    where
      some : (v : ℕ) → good_names ns ≡ true → length ns ≡ v → (t : Bool) → eqb v 0 ≡ t → (u : Bool) → ltb 10 v ≡ u
          → Said ns (named_of p (cond t None (cond u None (Some v))))
      some v g q true e u f = faulty
      some v g q false e true f = faulty
      some v g q false e false f = names p v (some_columns v e) (ltb-false 10 v f) g q

      go : (t : Bool) → good_names ns ≡ t → (v : ℕ) → length ns ≡ v → Said ns (named_of p (columns_of (cond t (Some v) None)))
      go false g v q = faulty
      go true g v q = some v g q (eqb v 0) refl (ltb 10 v) refl

  said_count : (n : Option ℕ) → Said ns (count_of n)
  said_count (Some v) = counts v
  said_count None = faulty

  said_type : (v : List ℕ) → Said ns (typed_of v)
  unfolding typed_of
  said_type v = go (same v (102 ∷ 114 ∷ [])) (same v (102 ∷ []))
    where
      go : (t u : Bool) → Said ns (cond t (Typed Recording) (cond u (Typed Sheet) Fault))
      go true u = typed Recording
      go false true = typed Sheet
      go false false = faulty

  said_stop : (fs : List (List ℕ)) → Said ns (stop_of fs)
  said_stop [] = ends
  said_stop (f ∷ fs) = faulty

  said_key : (k : Option Key) → Said ns (key_line k ns)
  said_key (Some (Size p)) = said_size p (number_of (only_of ns))
  said_key (Some (Names p)) = said_names p
  said_key (Some TypeWord) = said_type (only_of ns)
  said_key (Some Count) = said_count (number_of (only_of ns))
  said_key (Some Stop) = said_stop ns
  said_key None = faulty

  said_cells : (a b : Option Columns) (w : ℕ) → 1 ≤ w → w ≤ 10 → Under a (2 ^ w) → Under b (2 ^ w) → Said ns (row_of a b w)
  said_cells None b w o h u v = faulty
  said_cells (Some a) None w o h u v = faulty
  said_cells (Some a) (Some b) w o h u v =
      cells _ (record { some = o; few = h; on_small = u.0; off_small = u.1; next_small = v.0; unread_small = v.2 })

  said_row : (w v : List ℕ) → 1 ≤ length w → Said ns (row_line w v)
  unfolding row_line
  said_row w v o = go (eqb (length w) (length v)) refl (leb (length w) 10) refl
    where
      go : (t : Bool) → eqb (length w) (length v) ≡ t → (u : Bool) → leb (length w) 10 ≡ u
          → Said ns (cond t (cond u (row_of (cube_of w) (cube_of v) (length w)) Fault) Fault)
      go false e u f = faulty
      go true e false f = faulty
      go true e true f =
          let q : length v ≡ length w = sym (eqb-true (length w) (length v) e) in
          said_cells (cube_of w) (cube_of v) (length w) o (leb-true (length w) 10 f) (cube_under w) (rw q at (cube_under v))

  said_start : (m : Mark) (w : List ℕ) → 1 ≤ length w → Said ns (start_line m w ns)
  said_start (Digit d) w o = said_row w _ o
  said_start Dash w o = said_row w _ o
  said_start Dot w o = said_key (key_of w)
  said_start Space w o = faulty
  said_start Hash w o = faulty
  said_start Feed w o = faulty
  said_start Other w o = faulty

  said_class : (w : List ℕ) → Said ns (class_of w ns)
  unfolding class_of
  said_class [] = blank
  said_class (b ∷ w) = said_start (mark_of b) (b ∷ w) (omega arith)

said_fields : (fs : List (List ℕ)) → Said (tail_of fs) (of_fields fs)
unfolding of_fields
said_fields [] = blank
said_fields (w ∷ fs) = said_class fs w

pub said : (s : List ℕ) → Said (names_in s) (line_of s)
unfolding line_of names_in
said s = said_fields (fields_in (body s))

-- ---- the bounds

said_ok : (ns : List (List ℕ)) (l : Line) → Said ns l → LineOk l
said_ok ns _ blank = tt
said_ok ns _ (sized p n o h) = (o, h)
said_ok ns _ (names p n o h g q) = (o, h)
said_ok ns _ (typed t) = tt
said_ok ns _ (counts v) = tt
said_ok ns _ (cells m h) = h
said_ok ns _ ends = tt
said_ok ns _ faulty = tt

pub line_ok : (s : List ℕ) → LineOk (line_of s)
line_ok s = said_ok (names_in s) (line_of s) (said s)

said_good : (ns : List (List ℕ)) (l : Line) → Said ns l → NamesOk l ns
said_good ns _ blank = tt
said_good ns _ (sized p n o h) = tt
said_good ns _ (names p n o h g q) = (g, q)
said_good ns _ (typed t) = tt
said_good ns _ (counts v) = tt
said_good ns _ (cells m h) = tt
said_good ns _ ends = tt
said_good ns _ faulty = tt

pub names_ok : (s : List ℕ) → NamesOk (line_of s) (names_in s)
names_ok s = said_good (names_in s) (line_of s) (said s)

pub kept_ok : (l : Line) → LineOk l → LineOk (keep_line l)
kept_ok Empty h = h
kept_ok (Sized p n) h = h
kept_ok (Named p n) h = h
kept_ok (Typed t) h = h
kept_ok (Rows v) h = h
kept_ok (Row m) h = h
kept_ok End h = h
kept_ok Fault h = h

-- ---- the view of a line

pub view_ok : (l : Line) → LineOk l → ViewOk (view_of l)
view_ok Empty h = tt
view_ok (Sized p n) h = tt
view_ok (Named p n) h = tt
view_ok (Typed t) h = tt
view_ok (Rows v) h = tt
view_ok (Row m) h = h
view_ok End h = tt
view_ok Fault h = tt

-- a line as the code keeps it has the same view
pub view_kept : (l : Line) → view_of (keep_line l) ≡ view_of l
view_kept Empty = refl
view_kept (Sized p n) = refl
view_kept (Named p n) = refl
view_kept (Typed t) = refl
view_kept (Rows v) = refl
view_kept (Row m) = refl
view_kept End = refl
view_kept Fault = refl
