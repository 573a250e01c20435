-- Short texts, accepted and refused, by computing the verdict, and what each verdict means by the definitions; one text built by hand to the
-- definition of an accepted text, and one fault of each kind.
use Prim.Native.Nat.{ℕ, ◌≤◌}
use mathlib.Core.Path.{◌≡◌, refl, sym}
use mathlib.Core.List.{List, [], ◌∷◌, ◌++◌}
use mathlib.Core.Logic.{inr}
use mathlib.Core.Bool.{false≢true}
use native.Mathlib.Omega.{arith}
use Rattle.fields.specs.Bytes.{mark_of, run, same}
use Rattle.fields.specs.Texts.{body, lines_of}
use Rattle.fields.specs.Fields.{fields_from, fields_in}
use Rattle.fields.specs.Values.{cube_of, digits, number_of}
use Rattle.fields.proofs.JoinLaws.{lines_no_feeds}
use Rattle.names.specs.Names.{name_byte, all_name, name_ok, holds, good_names, names_count, same_fields, names_in}
use Rattle.lines.specs.Lines.{other_key, key_of, typed_of, row_line, class_of, of_fields, line_of}
use Rattle.lines.specs.declared.Part.{Part}
use Rattle.lines.specs.declared.Part.TheVariants.{Ins, Outs}
use Rattle.lines.specs.declared.Kind.{Kind}
use Rattle.lines.specs.declared.Kind.TheVariants.{Recording, Sheet}
use Rattle.headers.specs.Layouts.{recording, sheet}
use Rattle.headers.specs.Headers.{lacks, lacks_none, ready_of, only_from, only_on, row_fits, open_of, fits_of, header_allowed, end_allowed, row_allowed, named, allowed_by, allowed_at, next_at}
use Rattle.headers.specs.Verdicts.{finish_of, judge_lines, judge_of}
use Rattle.headers.specs.Accepted.{times, rows_in, Accepted}
use Rattle.headers.specs.Places.{Begins, end_in, FaultyLine, Untyped, EndMissing, WrongCount, Place}
use Rattle.headers.specs.declared.Layout.{Layout}
use Rattle.headers.specs.declared.Header.{Header}
use Rattle.headers.specs.declared.Header.TheVariants.{Size, Names, TypeWord, Count}
use Rattle.headers.specs.Verdicts.{Verdict}
use Rattle.std.specs.Prelude.{Ok, Err}
use Rattle.headers.proofs.Passing.{all_pass}
use Rattle.headers.proofs.Accepting.{good_iff_text}
use Rattle.headers.proofs.PlaceLaws.{passes_begins, begins_passes, bad_iff_place}
use Rattle.headers.proofs.TypeLines.{untyped_bad}

-- ---- lines, each with its LF

-- `.i 2`
abbrev i2 : List ℕ
i2 = 46 ∷ 105 ∷ 32 ∷ 50 ∷ 10 ∷ []

-- `.i 1`
abbrev i1 : List ℕ
i1 = 46 ∷ 105 ∷ 32 ∷ 49 ∷ 10 ∷ []

-- `.o 1`
abbrev o1 : List ℕ
o1 = 46 ∷ 111 ∷ 32 ∷ 49 ∷ 10 ∷ []

-- `.o 2`
abbrev o2 : List ℕ
o2 = 46 ∷ 111 ∷ 32 ∷ 50 ∷ 10 ∷ []

-- `.type fr`
abbrev fr : List ℕ
fr = 46 ∷ 116 ∷ 121 ∷ 112 ∷ 101 ∷ 32 ∷ 102 ∷ 114 ∷ 10 ∷ []

-- `.type f`
abbrev f : List ℕ
f = 46 ∷ 116 ∷ 121 ∷ 112 ∷ 101 ∷ 32 ∷ 102 ∷ 10 ∷ []

-- `.p 0`
abbrev p0 : List ℕ
p0 = 46 ∷ 112 ∷ 32 ∷ 48 ∷ 10 ∷ []

-- `.p 1`
abbrev p1 : List ℕ
p1 = 46 ∷ 112 ∷ 32 ∷ 49 ∷ 10 ∷ []

-- `.p 2`
abbrev p2 : List ℕ
p2 = 46 ∷ 112 ∷ 32 ∷ 50 ∷ 10 ∷ []

-- `.ilb A`
abbrev ilb_a : List ℕ
ilb_a = 46 ∷ 105 ∷ 108 ∷ 98 ∷ 32 ∷ 65 ∷ 10 ∷ []

-- `.ob A`, with a comment
abbrev ob_a : List ℕ
ob_a = 46 ∷ 111 ∷ 98 ∷ 32 ∷ 65 ∷ 35 ∷ 66 ∷ 10 ∷ []

-- `.ob B`
abbrev ob_b : List ℕ
ob_b = 46 ∷ 111 ∷ 98 ∷ 32 ∷ 66 ∷ 10 ∷ []

-- `.ilb A B`
abbrev ilb_aB : List ℕ
ilb_aB = 46 ∷ 105 ∷ 108 ∷ 98 ∷ 32 ∷ 65 ∷ 32 ∷ 66 ∷ 10 ∷ []

-- `.ilb A A`
abbrev ilb_aA : List ℕ
ilb_aA = 46 ∷ 105 ∷ 108 ∷ 98 ∷ 32 ∷ 65 ∷ 32 ∷ 65 ∷ 10 ∷ []

-- `.ilb`
abbrev ilb_none : List ℕ
ilb_none = 46 ∷ 105 ∷ 108 ∷ 98 ∷ 10 ∷ []

-- `1 0`
abbrev row : List ℕ
row = 49 ∷ 32 ∷ 48 ∷ 10 ∷ []

-- `- 1`
abbrev dash : List ℕ
dash = 45 ∷ 32 ∷ 49 ∷ 10 ∷ []

-- `1 -`
abbrev unread : List ℕ
unread = 49 ∷ 32 ∷ 45 ∷ 10 ∷ []

-- `10 01`
abbrev wide : List ℕ
wide = 49 ∷ 48 ∷ 32 ∷ 48 ∷ 49 ∷ 10 ∷ []

-- `1- 01`
abbrev rule : List ℕ
rule = 49 ∷ 45 ∷ 32 ∷ 48 ∷ 49 ∷ 10 ∷ []

-- `-0 10`
abbrev other : List ℕ
other = 45 ∷ 48 ∷ 32 ∷ 49 ∷ 48 ∷ 10 ∷ []

-- `-0 11`
abbrev two : List ℕ
two = 45 ∷ 48 ∷ 32 ∷ 49 ∷ 49 ∷ 10 ∷ []

-- `.e`
abbrev end : List ℕ
end = 46 ∷ 101 ∷ 10 ∷ []

-- a blank
abbrev blank : List ℕ
blank = 32 ∷ 10 ∷ []

-- `# lamps`
abbrev note : List ℕ
note = 35 ∷ 32 ∷ 108 ∷ 97 ∷ 109 ∷ 112 ∷ 115 ∷ 10 ∷ []

-- ---- verdicts

-- the verdict on each text of a layout is as written
abbrev Judged : Layout → List (List ℕ × Verdict) → Type 0
Judged lay [] = Unit {0}
Judged lay (e ∷ es) = (judge_of lay e.0 ≡ e.1) × Judged lay es

-- accepted: headers in any order, with and without `.p`, with dashes for states, no rows;
-- refused: no lines; the later of unequal sizes; `.i`, `.type`, `.p` twice; `.type f`; a row, the end mark before both sizes; `.type`, `.p`,
-- `.i` after a row; a row too wide; `-` in outputs; a row, the end mark, a header after the end mark; no end mark; the wrong number of rows,
-- and the same with another fault
abbrev texts : List (List ℕ × Verdict)
texts =
    (i1 ++ o1 ++ fr ++ row ++ end, Ok 1)
    ∷ (o1 ++ note ++ fr ++ p2 ++ i1 ++ blank ++ row ++ note ++ dash ++ end ++ blank ++ note, Ok 1)
    ∷ (i1 ++ o1 ++ p0 ++ fr ++ end, Ok 1)
    ∷ ([], Err 1)
    ∷ (i1 ++ o2 ++ fr ++ row ++ end, Err 2)
    ∷ (i1 ++ i1 ++ o1 ++ fr ++ end, Err 2)
    ∷ (i1 ++ o1 ++ fr ++ fr ++ row ++ end, Err 4)
    ∷ (i1 ++ o1 ++ p1 ++ p1 ++ fr ++ row ++ end, Err 4)
    ∷ (f ++ i1 ++ o1 ++ fr ++ row ++ end, Err 1)
    ∷ (i1 ++ fr ++ row ++ o1 ++ end, Err 3)
    ∷ (i1 ++ fr ++ end, Err 3)
    ∷ (i1 ++ o1 ++ fr ++ row ++ fr ++ end, Err 5)
    ∷ (i1 ++ o1 ++ fr ++ row ++ p1 ++ end, Err 5)
    ∷ (i1 ++ o1 ++ fr ++ row ++ i1 ++ end, Err 5)
    ∷ (i1 ++ o1 ++ fr ++ wide ++ end, Err 4)
    ∷ (i1 ++ o1 ++ fr ++ unread ++ end, Err 4)
    ∷ (i1 ++ o1 ++ fr ++ end ++ row, Err 5)
    ∷ (i1 ++ o1 ++ fr ++ end ++ end, Err 5)
    ∷ (i1 ++ o1 ++ fr ++ end ++ p0, Err 5)
    ∷ (i1 ++ o1 ++ fr ++ row ++ blank, Err 6)
    ∷ (i1 ++ p2 ++ o1 ++ fr ++ row ++ end, Err 2)
    ∷ (i1 ++ p2 ++ o1 ++ fr ++ row ++ unread ++ end, Err 6)
    ∷ []

-- with no type line before it: the first row; the end mark, of a text with no rows; the first row, though the type line follows it, and though
-- the number after `.p` is wrong; the same with names; neither row nor end mark; `.type f` is faulty itself
abbrev untyped_texts : List (List ℕ × Verdict)
untyped_texts =
    (i1 ++ o1 ++ row ++ row ++ end, Err 3)
    ∷ (i1 ++ o1 ++ note ++ end, Err 4)
    ∷ (i1 ++ o1 ++ row ++ fr ++ end, Err 3)
    ∷ (i1 ++ p2 ++ o1 ++ row ++ end, Err 4)
    ∷ (i1 ++ o1 ++ ilb_a ++ ob_a ++ row ++ end, Err 5)
    ∷ (i1 ++ o1, Err 3)
    ∷ (i1 ++ o1 ++ f ++ row ++ end, Err 3)
    ∷ []

-- with names, accepted: behind the sizes, and in any order among the headers;
-- refused: the later of two lines with other names; more names than the size before, and the size after; twice; a name twice; no name; after a
-- row; one line alone, at the first row and at the end mark
abbrev named_texts : List (List ℕ × Verdict)
named_texts =
    (i1 ++ o1 ++ ilb_a ++ ob_a ++ fr ++ row ++ end, Ok 1)
    ∷ (ob_a ++ fr ++ o1 ++ note ++ ilb_a ++ p1 ++ i1 ++ row ++ end, Ok 1)
    ∷ (i1 ++ ilb_a ++ o1 ++ ob_b ++ fr ++ row ++ end, Err 4)
    ∷ (i1 ++ ilb_aB ++ o1 ++ fr ++ row ++ end, Err 2)
    ∷ (ilb_aB ++ i1 ++ o1 ++ fr ++ row ++ end, Err 2)
    ∷ (ilb_aB ++ ob_a ++ fr ++ row ++ end, Err 2)
    ∷ (ilb_a ++ ilb_a ++ fr ++ row ++ end, Err 2)
    ∷ (ilb_aA ++ fr ++ end, Err 1)
    ∷ (i1 ++ o1 ++ ilb_none ++ fr ++ end, Err 3)
    ∷ (i1 ++ o1 ++ fr ++ row ++ ilb_a ++ ob_a ++ end, Err 5)
    ∷ (i1 ++ ilb_a ++ o1 ++ fr ++ row ++ end, Err 5)
    ∷ (ob_a ++ i1 ++ o1 ++ fr ++ end, Err 5)
    ∷ []

pub texts_judged : Judged recording texts
unfolding mark_of run same body lines_of fields_from fields_in cube_of digits number_of other_key key_of typed_of row_line class_of of_fields line_of name_byte all_name name_ok holds good_names names_count same_fields names_in lacks lacks_none ready_of row_fits open_of fits_of header_allowed end_allowed row_allowed named allowed_by allowed_at next_at finish_of judge_lines judge_of
texts_judged = (refl, (refl, (refl, (refl, (refl, (refl, (refl, (refl, (refl, (refl, (refl, (refl, (refl, (refl, (refl, (refl, (refl, (refl, (refl, (refl, (refl, (refl, tt))))))))))))))))))))))

pub untyped_judged : Judged recording untyped_texts
unfolding mark_of run same body lines_of fields_from fields_in cube_of digits number_of other_key key_of typed_of row_line class_of of_fields line_of name_byte all_name name_ok holds good_names names_count same_fields names_in lacks lacks_none ready_of row_fits open_of fits_of header_allowed end_allowed row_allowed named allowed_by allowed_at next_at finish_of judge_lines judge_of
untyped_judged = (refl, (refl, (refl, (refl, (refl, (refl, (refl, tt)))))))

pub named_judged : Judged recording named_texts
unfolding mark_of run same body lines_of fields_from fields_in cube_of digits number_of other_key key_of typed_of row_line class_of of_fields line_of name_byte all_name name_ok holds good_names names_count same_fields names_in lacks lacks_none ready_of row_fits open_of fits_of header_allowed end_allowed row_allowed named allowed_by allowed_at next_at finish_of judge_lines judge_of
named_judged = (refl, (refl, (refl, (refl, (refl, (refl, (refl, (refl, (refl, (refl, (refl, (refl, tt))))))))))))

-- ---- sheets

-- accepted: rows in any order, comments, names, a row twice, no rows;
-- refused: two `1`s in an output, none, a `-`; `.type fr`; a row before the type line, the end mark with none; `.type f` twice; the wrong number of
-- rows; no end mark; one name line alone; the later of unequal sizes
abbrev sheet_texts : List (List ℕ × Verdict)
sheet_texts =
    (i2 ++ o2 ++ f ++ p2 ++ rule ++ other ++ end, Ok 2)
    ∷ (o2 ++ note ++ f ++ i2 ++ other ++ blank ++ rule ++ note ++ end ++ blank, Ok 2)
    ∷ (i1 ++ o1 ++ ilb_a ++ ob_a ++ f ++ dash ++ end, Ok 1)
    ∷ (i1 ++ o1 ++ f ++ dash ++ dash ++ end, Ok 1)
    ∷ (i1 ++ o1 ++ f ++ end, Ok 1)
    ∷ (i2 ++ o2 ++ f ++ rule ++ two ++ end, Err 5)
    ∷ (i1 ++ o1 ++ f ++ row ++ end, Err 4)
    ∷ (i1 ++ o1 ++ f ++ unread ++ end, Err 4)
    ∷ (i1 ++ o1 ++ fr ++ dash ++ end, Err 3)
    ∷ (i1 ++ o1 ++ dash ++ f ++ end, Err 3)
    ∷ (i1 ++ o1 ++ end, Err 3)
    ∷ (i1 ++ o1 ++ f ++ f ++ dash ++ end, Err 4)
    ∷ (i1 ++ p2 ++ o1 ++ f ++ dash ++ end, Err 2)
    ∷ (i1 ++ o1 ++ f ++ dash, Err 5)
    ∷ (i1 ++ ilb_a ++ o1 ++ f ++ dash ++ end, Err 5)
    ∷ (i1 ++ o2 ++ f ++ dash ++ end, Err 2)
    ∷ []

pub sheets_judged : Judged sheet sheet_texts
unfolding mark_of run same body lines_of fields_from fields_in cube_of digits number_of other_key key_of typed_of row_line class_of of_fields line_of name_byte all_name name_ok holds good_names names_count same_fields names_in lacks lacks_none ready_of only_from only_on row_fits open_of fits_of header_allowed end_allowed row_allowed named allowed_by allowed_at next_at finish_of judge_lines judge_of
sheets_judged = (refl, (refl, (refl, (refl, (refl, (refl, (refl, (refl, (refl, (refl, (refl, (refl, (refl, (refl, (refl, (refl, tt))))))))))))))))

-- what a verdict means: the text is one of the layout, for n relays, or k is the place of its fault
abbrev Means : Layout → List ℕ → Verdict → Type 0
Means lay t (Ok n) = Accepted lay n t
Means lay t (Err k) = Place lay t k

abbrev Meant : Layout → List (List ℕ × Verdict) → Type 0
Meant lay [] = Unit {0}
Meant lay (e ∷ es) = Means lay e.0 e.1 × Meant lay es

means : (lay : Layout) (t : List ℕ) (v : Verdict) → judge_of lay t ≡ v → Means lay t v
means lay t (Ok n) e = (good_iff_text lay t n).0 e
means lay t (Err k) e = (bad_iff_place lay t k).0 e

meant : (lay : Layout) (es : List (List ℕ × Verdict)) → Judged lay es → Meant lay es
meant lay [] h = tt
meant lay (e ∷ es) h = (means lay e.0 e.1 h.0, meant lay es h.1)

pub texts_meant : Meant recording texts × (Meant recording untyped_texts × Meant recording named_texts)
texts_meant = (meant recording texts texts_judged, (meant recording untyped_texts untyped_judged, meant recording named_texts named_judged))

pub sheets_meant : Meant sheet sheet_texts
sheets_meant = meant sheet sheet_texts sheets_judged

-- ---- an accepted text by hand

abbrev pub whole : List ℕ
whole = i1 ++ o1 ++ fr ++ row ++ end

abbrev heads : List (List ℕ)
heads = (46 ∷ 105 ∷ 32 ∷ 49 ∷ []) ∷ (46 ∷ 111 ∷ 32 ∷ 49 ∷ []) ∷ (46 ∷ 116 ∷ 121 ∷ 112 ∷ 101 ∷ 32 ∷ 102 ∷ 114 ∷ []) ∷ []

heads_once : (h : Header) → times h heads ≤ 1
unfolding times mark_of run same body fields_from fields_in digits number_of other_key key_of typed_of class_of of_fields line_of
heads_once (Size Ins) = omega arith
heads_once (Size Outs) = omega arith
heads_once (Names Ins) = omega arith
heads_once (Names Outs) = omega arith
heads_once TypeWord = omega arith
heads_once Count = omega arith

heads_sized : (p : Part) → times (Size p) heads ≡ 1
unfolding times mark_of run same body fields_from fields_in digits number_of other_key key_of typed_of class_of of_fields line_of
heads_sized Ins = refl
heads_sized Outs = refl

heads_typed : times TypeWord heads ≡ 1
unfolding times mark_of run same body fields_from fields_in digits number_of other_key key_of typed_of class_of of_fields line_of
heads_typed = refl

no_names : times (Names Ins) heads ≡ times (Names Outs) heads
unfolding times mark_of run same body fields_from fields_in digits number_of other_key key_of typed_of class_of of_fields line_of
no_names = refl

pub whole_accepted : Accepted recording 1 whole
unfolding mark_of run same body lines_of fields_from fields_in cube_of digits number_of other_key key_of typed_of row_line class_of of_fields line_of
whole_accepted =
    record {
      top = heads;
      middle = (49 ∷ 32 ∷ 48 ∷ []) ∷ [];
      mark = 46 ∷ 101 ∷ [];
      rest = [];
      names = [];
      lines = refl;
      headers = (refl, (refl, (refl, tt)));
      once = heads_once;
      sized = heads_sized;
      typed = λ e. heads_typed;
      both = no_names;
      rows = (inr (record { on = 1; off = 0; free = 0; next = 0; unread = 0; width = 1 }, refl, record { width = refl; inputs = λ e. absurd (false≢true (sym e)); outputs = λ e. refl; single = λ e. absurd (false≢true e) }), tt);
      ends = refl;
      empty = tt;
    }

-- ---- the same with names

abbrev pub named_whole : List ℕ
named_whole = i1 ++ o1 ++ ilb_a ++ ob_a ++ fr ++ row ++ end

-- `.type` with the word of a kind
abbrev type_line : Kind → List ℕ
type_line Recording = 46 ∷ 116 ∷ 121 ∷ 112 ∷ 101 ∷ 32 ∷ 102 ∷ 114 ∷ []
type_line Sheet = 46 ∷ 116 ∷ 121 ∷ 112 ∷ 101 ∷ 32 ∷ 102 ∷ []

abbrev headers : Kind → List (List ℕ)
headers kind = (46 ∷ 105 ∷ 32 ∷ 49 ∷ []) ∷ (46 ∷ 111 ∷ 32 ∷ 49 ∷ []) ∷ (46 ∷ 105 ∷ 108 ∷ 98 ∷ 32 ∷ 65 ∷ []) ∷ (46 ∷ 111 ∷ 98 ∷ 32 ∷ 65 ∷ 35 ∷ 66 ∷ []) ∷ type_line kind ∷ []

headers_once : (kind : Kind) (h : Header) → times h (headers kind) ≤ 1
unfolding times mark_of run same body fields_from fields_in digits number_of other_key key_of typed_of class_of of_fields line_of name_byte all_name name_ok holds good_names names_count
headers_once Recording (Size Ins) = omega arith
headers_once Recording (Size Outs) = omega arith
headers_once Recording (Names Ins) = omega arith
headers_once Recording (Names Outs) = omega arith
headers_once Recording TypeWord = omega arith
headers_once Recording Count = omega arith
headers_once Sheet (Size Ins) = omega arith
headers_once Sheet (Size Outs) = omega arith
headers_once Sheet (Names Ins) = omega arith
headers_once Sheet (Names Outs) = omega arith
headers_once Sheet TypeWord = omega arith
headers_once Sheet Count = omega arith

headers_sized : (kind : Kind) (p : Part) → times (Size p) (headers kind) ≡ 1
unfolding times mark_of run same body fields_from fields_in digits number_of other_key key_of typed_of class_of of_fields line_of name_byte all_name name_ok holds good_names names_count
headers_sized Recording Ins = refl
headers_sized Recording Outs = refl
headers_sized Sheet Ins = refl
headers_sized Sheet Outs = refl

headers_typed : (kind : Kind) → times TypeWord (headers kind) ≡ 1
unfolding times mark_of run same body fields_from fields_in digits number_of other_key key_of typed_of class_of of_fields line_of name_byte all_name name_ok holds good_names names_count
headers_typed Recording = refl
headers_typed Sheet = refl

headers_both : (kind : Kind) → times (Names Ins) (headers kind) ≡ times (Names Outs) (headers kind)
unfolding times mark_of run same body fields_from fields_in digits number_of other_key key_of typed_of class_of of_fields line_of name_byte all_name name_ok holds good_names names_count
headers_both Recording = refl
headers_both Sheet = refl

pub named_accepted : Accepted recording 1 named_whole
unfolding mark_of run same body lines_of fields_from fields_in cube_of digits number_of other_key key_of typed_of row_line class_of of_fields line_of name_byte all_name name_ok holds good_names names_count names_in
named_accepted =
    record {
      top = headers Recording;
      middle = (49 ∷ 32 ∷ 48 ∷ []) ∷ [];
      mark = 46 ∷ 101 ∷ [];
      rest = [];
      names = (65 ∷ []) ∷ [];
      lines = refl;
      headers = (refl, (refl, ((refl, refl), ((refl, refl), (refl, tt)))));
      once = headers_once Recording;
      sized = headers_sized Recording;
      typed = λ e. headers_typed Recording;
      both = headers_both Recording;
      rows = (inr (record { on = 1; off = 0; free = 0; next = 0; unread = 0; width = 1 }, refl, record { width = refl; inputs = λ e. absurd (false≢true (sym e)); outputs = λ e. refl; single = λ e. absurd (false≢true e) }), tt);
      ends = refl;
      empty = tt;
    }

-- ---- a sheet with the same names

abbrev pub sheet_whole : List ℕ
sheet_whole = i1 ++ o1 ++ ilb_a ++ ob_a ++ f ++ dash ++ end

pub sheet_accepted : Accepted sheet 1 sheet_whole
unfolding mark_of run same body lines_of fields_from fields_in cube_of digits number_of other_key key_of typed_of row_line class_of of_fields line_of name_byte all_name name_ok holds good_names names_count names_in
sheet_accepted =
    record {
      top = headers Sheet;
      middle = (45 ∷ 32 ∷ 49 ∷ []) ∷ [];
      mark = 46 ∷ 101 ∷ [];
      rest = [];
      names = (65 ∷ []) ∷ [];
      lines = refl;
      headers = (refl, (refl, ((refl, refl), ((refl, refl), (refl, tt)))));
      once = headers_once Sheet;
      sized = headers_sized Sheet;
      typed = λ e. headers_typed Sheet;
      both = headers_both Sheet;
      rows = (inr (record { on = 0; off = 0; free = 1; next = 1; unread = 0; width = 1 }, refl, record { width = refl; inputs = λ e. absurd (false≢true (sym e)); outputs = λ e. refl; single = λ e. (0, omega arith, refl) }), tt);
      ends = refl;
      empty = tt;
    }

pub sheet_stands : times (Names Ins) sheet_accepted.top ≡ 1
unfolding sheet_accepted times mark_of run same body fields_from fields_in digits number_of other_key key_of typed_of class_of of_fields line_of name_byte all_name name_ok holds good_names names_count
sheet_stands = refl

-- the one has name lines, the other has none
pub named_stands : times (Names Ins) named_accepted.top ≡ 1
unfolding named_accepted times mark_of run same body fields_from fields_in digits number_of other_key key_of typed_of class_of of_fields line_of name_byte all_name name_ok holds good_names names_count
named_stands = refl

pub none_stands : times (Names Ins) whole_accepted.top ≡ 0
unfolding whole_accepted times mark_of run same body fields_from fields_in digits number_of other_key key_of typed_of class_of of_fields line_of
none_stands = refl

-- ---- one fault of each kind

-- `.i 1` and `.o 1` begin an accepted text
pub sizes_begin : Begins recording (lines_of (i1 ++ o1))
unfolding mark_of run same body lines_of fields_from fields_in cube_of digits number_of other_key key_of typed_of row_line class_of of_fields line_of name_byte all_name name_ok holds good_names names_count same_fields names_in lacks lacks_none ready_of row_fits open_of fits_of header_allowed end_allowed row_allowed named allowed_by allowed_at next_at all_pass
sizes_begin = passes_begins recording (lines_of (i1 ++ o1)) (lines_no_feeds (i1 ++ o1)) refl

-- a header after a row
pub header_faulty : FaultyLine recording (i1 ++ o1 ++ fr ++ row ++ p1 ++ end) 5
unfolding mark_of run same body lines_of fields_from fields_in cube_of digits number_of other_key key_of typed_of row_line class_of of_fields line_of name_byte all_name name_ok holds good_names names_count same_fields names_in lacks lacks_none ready_of row_fits open_of fits_of header_allowed end_allowed row_allowed named allowed_by allowed_at next_at all_pass
header_faulty =
    record {
      before = lines_of (i1 ++ o1 ++ fr ++ row);
      line = 46 ∷ 112 ∷ 32 ∷ 49 ∷ [];
      after = lines_of end;
      lines = refl;
      number = refl;
      begins = passes_begins recording (lines_of (i1 ++ o1 ++ fr ++ row)) (lines_no_feeds (i1 ++ o1 ++ fr ++ row)) refl;
      begins_no_more = λ b. false≢true (begins_passes recording (lines_of (i1 ++ o1 ++ fr ++ row ++ p1)) b);
    }

-- a row, and the end mark of a text without rows, with no type line before it (02, Ask 2)
pub row_untyped : Untyped recording (i1 ++ o1 ++ row ++ end) 3
unfolding mark_of run same body lines_of fields_from fields_in cube_of digits number_of other_key key_of typed_of row_line class_of of_fields line_of name_byte all_name name_ok holds good_names names_count same_fields names_in lacks lacks_none ready_of row_fits open_of fits_of header_allowed end_allowed row_allowed named allowed_by allowed_at next_at all_pass times
row_untyped =
    record {
      before = lines_of (i1 ++ o1);
      line = 49 ∷ 32 ∷ 48 ∷ [];
      after = lines_of end;
      lines = refl;
      number = refl;
      begins = sizes_begin;
      none = refl;
      ends = refl;
    }

pub end_untyped : Untyped recording (i1 ++ o1 ++ end) 3
unfolding mark_of run same body lines_of fields_from fields_in cube_of digits number_of other_key key_of typed_of row_line class_of of_fields line_of name_byte all_name name_ok holds good_names names_count same_fields names_in lacks lacks_none ready_of row_fits open_of fits_of header_allowed end_allowed row_allowed named allowed_by allowed_at next_at all_pass times
end_untyped = record { before = lines_of (i1 ++ o1); line = 46 ∷ 101 ∷ []; after = []; lines = refl; number = refl; begins = sizes_begin; none = refl; ends = refl }

pub untyped_refused : (judge_of recording (i1 ++ o1 ++ row ++ end) ≡ Err 3) × (judge_of recording (i1 ++ o1 ++ end) ≡ Err 3)
untyped_refused = (untyped_bad recording refl _ 3 row_untyped, untyped_bad recording refl _ 3 end_untyped)

pub end_missing : EndMissing recording (i1 ++ o1 ++ fr ++ row) 5
unfolding mark_of run same body lines_of fields_from fields_in cube_of digits number_of other_key key_of typed_of row_line class_of of_fields line_of name_byte all_name name_ok holds good_names names_count same_fields names_in lacks lacks_none ready_of row_fits open_of fits_of header_allowed end_allowed row_allowed named allowed_by allowed_at next_at all_pass end_in
end_missing =
    record { begins = passes_begins recording (lines_of (i1 ++ o1 ++ fr ++ row)) (lines_no_feeds (i1 ++ o1 ++ fr ++ row)) refl; endless = refl; number = refl }

pub count_wrong : WrongCount recording (i1 ++ p2 ++ o1 ++ fr ++ row ++ end) 2
unfolding mark_of run same body lines_of fields_from fields_in cube_of digits number_of other_key key_of typed_of row_line class_of of_fields line_of name_byte all_name name_ok holds good_names names_count same_fields names_in lacks lacks_none ready_of row_fits open_of fits_of header_allowed end_allowed row_allowed named allowed_by allowed_at next_at all_pass end_in rows_in
count_wrong =
    record {
      before = lines_of i1;
      line = 46 ∷ 112 ∷ 32 ∷ 50 ∷ [];
      after = lines_of (o1 ++ fr ++ row ++ end);
      count = 2;
      lines = refl;
      number = refl;
      counts = refl;
      begins = passes_begins recording (lines_of (i1 ++ p2 ++ o1 ++ fr ++ row ++ end)) (lines_no_feeds (i1 ++ p2 ++ o1 ++ fr ++ row ++ end)) refl;
      ended = refl;
      wrong = λ e. omega (arith, e);
    }
