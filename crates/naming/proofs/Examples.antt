-- Lookups in short texts, computed: the panel's names, the maker's, and none; and the names that a sheet is written with.
use Prim.Native.Nat.{ℕ}
use mathlib.Core.Path.{◌≡◌, refl}
use mathlib.Core.List.{List, [], ◌∷◌, ◌++◌}
use mathlib.Core.Bool.{true, false}
use Rattle.fields.specs.Bytes.{mark_of, run, same}
use Rattle.fields.specs.Texts.{body, lines_of}
use Rattle.fields.specs.Fields.{fields_from, fields_in}
use Rattle.fields.specs.Values.{cube_of, digits, number_of}
use Rattle.names.specs.Names.{name_byte, all_name, name_ok, holds, good_names, names_count, same_fields, names_in}
use Rattle.names.specs.Spans.{start_at, end_at, span_at, field_at, name_span}
use Rattle.lines.specs.Lines.{other_key, key_of, typed_of, row_line, class_of, of_fields, line_of}
use Rattle.headers.specs.Headers.{lacks, lacks_none, ready_of, only_from, only_on, row_fits, open_of, fits_of, header_allowed, end_allowed, row_allowed, named, allowed_by, allowed_at, next_at}
use Rattle.headers.specs.Verdicts.{finish_of, judge_lines, judge_of}
use Rattle.naming.specs.Naming.{home_from, home_of, naming_of, source_of, no_name, spot_of, name_of, judge_either}
use Rattle.naming.specs.Columns.{column_names, all_named, names_for, name_line}
use Rattle.naming.specs.declared.Spot.{Spot}

-- ---- lines, each with its LF

-- `.i 2`
abbrev i2 : List ℕ
i2 = 46 ∷ 105 ∷ 32 ∷ 50 ∷ 10 ∷ []

-- `.o 2`
abbrev o2 : List ℕ
o2 = 46 ∷ 111 ∷ 32 ∷ 50 ∷ 10 ∷ []

-- `.i 3`
abbrev i3 : List ℕ
i3 = 46 ∷ 105 ∷ 32 ∷ 51 ∷ 10 ∷ []

-- `.o 3`
abbrev o3 : List ℕ
o3 = 46 ∷ 111 ∷ 32 ∷ 51 ∷ 10 ∷ []

-- `.ilb K1 lamp # two`, with a tab before `lamp`
abbrev ilb_kL : List ℕ
ilb_kL = 46 ∷ 105 ∷ 108 ∷ 98 ∷ 32 ∷ 75 ∷ 49 ∷ 9 ∷ 108 ∷ 97 ∷ 109 ∷ 112 ∷ 32 ∷ 35 ∷ 32 ∷ 116 ∷ 119 ∷ 111 ∷ 10 ∷ []

-- `.ob K1 lamp`
abbrev ob_kL : List ℕ
ob_kL = 46 ∷ 111 ∷ 98 ∷ 32 ∷ 75 ∷ 49 ∷ 32 ∷ 108 ∷ 97 ∷ 109 ∷ 112 ∷ 10 ∷ []

-- `.ilb A B C`
abbrev ilb_aBC : List ℕ
ilb_aBC = 46 ∷ 105 ∷ 108 ∷ 98 ∷ 32 ∷ 65 ∷ 32 ∷ 66 ∷ 32 ∷ 67 ∷ 10 ∷ []

-- `.ob A B C`
abbrev ob_aBC : List ℕ
ob_aBC = 46 ∷ 111 ∷ 98 ∷ 32 ∷ 65 ∷ 32 ∷ 66 ∷ 32 ∷ 67 ∷ 10 ∷ []

-- `.type fr`
abbrev fr : List ℕ
fr = 46 ∷ 116 ∷ 121 ∷ 112 ∷ 101 ∷ 32 ∷ 102 ∷ 114 ∷ 10 ∷ []

-- `.type f`
abbrev f : List ℕ
f = 46 ∷ 116 ∷ 121 ∷ 112 ∷ 101 ∷ 32 ∷ 102 ∷ 10 ∷ []

-- `10 01`
abbrev row : List ℕ
row = 49 ∷ 48 ∷ 32 ∷ 48 ∷ 49 ∷ 10 ∷ []

-- `10 00`
abbrev none : List ℕ
none = 49 ∷ 48 ∷ 32 ∷ 48 ∷ 48 ∷ 10 ∷ []

-- `.e`
abbrev end : List ℕ
end = 46 ∷ 101 ∷ 10 ∷ []

-- ---- texts

-- a panel's recording of two relays, `K1` and `lamp`
abbrev named2 : List ℕ
named2 = i2 ++ o2 ++ ilb_kL ++ ob_kL ++ fr ++ row ++ end

-- a maker's recording of three relays, `A`, `B` and `C`
abbrev named3 : List ℕ
named3 = ilb_aBC ++ i3 ++ o3 ++ ob_aBC ++ fr ++ end

-- a recording without names
abbrev plain : List ℕ
plain = i2 ++ o2 ++ fr ++ row ++ end

-- a sheet of three relays, `A`, `B` and `C`, without rules
abbrev sheet3 : List ℕ
sheet3 = ilb_aBC ++ i3 ++ o3 ++ ob_aBC ++ f ++ end

-- a sheet without names
abbrev plain_sheet : List ℕ
plain_sheet = i2 ++ o2 ++ f ++ row ++ row ++ end

-- neither: of a sheet and a recording one row each
abbrev neither : List ℕ
neither = i2 ++ o2 ++ ilb_kL ++ ob_kL ++ f ++ row ++ none ++ end

-- no recording: the end mark is missing
abbrev bad : List ℕ
bad = i2 ++ o2 ++ ilb_kL ++ ob_kL ++ fr ++ row

-- nor this: it has no type line
abbrev untyped : List ℕ
untyped = i2 ++ o2 ++ ilb_kL ++ ob_kL ++ row ++ end

-- ---- where a name stands

-- two texts, a column, and where its name stands
pub record Look : Type 0 where
  pub panel : List ℕ
  pub maker : List ℕ
  pub column : ℕ
  pub spot : Spot

abbrev look : List ℕ → List ℕ → ℕ → Spot → Look
look p m v s = record { panel = p; maker = m; column = v; spot = s }

abbrev Looked : List Look → Type 0
Looked [] = Unit {0}
Looked (l ∷ ls) = (spot_of l.panel l.maker l.column ≡ l.spot) × Looked ls

abbrev own : ℕ → ℕ → Spot
own a k = record { maker = false; start = a; length = k }

abbrev makers : ℕ → ℕ → Spot
makers a k = record { maker = true; start = a; length = k }

-- the panel's own names, whatever the maker's text is; no name beyond them, though the maker's text has one there; the maker's where the panel's
-- has none, and none beyond; none where both have none, where the maker's is bad, and where the panel's is, for want of a type line too; a sheet's
-- names, as the panel's text and as the maker's, though its rows are no good sheet; none of a text that is neither a recording nor a sheet
abbrev looks : List Look
looks =
    look named2 named3 0 (own 15 2)
    ∷ look named2 bad 1 (own 18 4)
    ∷ look named2 named3 2 no_name
    ∷ look plain named3 0 (makers 5 1)
    ∷ look plain named3 2 (makers 9 1)
    ∷ look plain named3 3 no_name
    ∷ look plain plain 0 no_name
    ∷ look plain bad 0 no_name
    ∷ look bad named3 0 no_name
    ∷ look plain untyped 0 no_name
    ∷ look untyped named3 0 no_name
    ∷ look sheet3 named2 1 (own 7 1)
    ∷ look plain sheet3 2 (makers 9 1)
    ∷ look plain_sheet named3 0 (makers 5 1)
    ∷ look neither named3 0 no_name
    ∷ []

looked : Looked looks
unfolding mark_of run same body lines_of fields_from fields_in cube_of digits number_of other_key key_of typed_of row_line class_of of_fields line_of name_byte all_name name_ok holds good_names names_count same_fields names_in start_at end_at span_at field_at name_span lacks lacks_none ready_of only_from only_on row_fits open_of fits_of header_allowed end_allowed row_allowed named allowed_by allowed_at next_at finish_of judge_lines judge_of home_from home_of judge_either naming_of source_of spot_of
looked = (refl, (refl, (refl, (refl, (refl, (refl, (refl, (refl, (refl, (refl, (refl, (refl, (refl, (refl, (refl, tt)))))))))))))))

-- `lamp`
lamp_looked : name_of named2 bad 1 ≡ 108 ∷ 97 ∷ 109 ∷ 112 ∷ []
unfolding mark_of run same body lines_of fields_from fields_in cube_of digits number_of other_key key_of typed_of row_line class_of of_fields line_of name_byte all_name name_ok holds good_names names_count same_fields names_in start_at end_at span_at field_at name_span lacks lacks_none ready_of only_from only_on row_fits open_of fits_of header_allowed end_allowed row_allowed named allowed_by allowed_at next_at finish_of judge_lines judge_of home_from home_of judge_either naming_of source_of spot_of name_of
lamp_looked = refl

-- `C`
c_looked : name_of plain named3 2 ≡ 67 ∷ []
unfolding mark_of run same body lines_of fields_from fields_in cube_of digits number_of other_key key_of typed_of row_line class_of of_fields line_of name_byte all_name name_ok holds good_names names_count same_fields names_in start_at end_at span_at field_at name_span lacks lacks_none ready_of only_from only_on row_fits open_of fits_of header_allowed end_allowed row_allowed named allowed_by allowed_at next_at finish_of judge_lines judge_of home_from home_of judge_either naming_of source_of spot_of name_of
c_looked = refl

-- ---- the names of a sheet

-- all columns of the panel's, the first of the maker's, and none where one column has no name
sheet_of_own : names_for named2 bad 2 ≡ (75 ∷ 49 ∷ []) ∷ (108 ∷ 97 ∷ 109 ∷ 112 ∷ []) ∷ []
unfolding mark_of run same body lines_of fields_from fields_in cube_of digits number_of other_key key_of typed_of row_line class_of of_fields line_of name_byte all_name name_ok holds good_names names_count same_fields names_in start_at end_at span_at field_at name_span lacks lacks_none ready_of only_from only_on row_fits open_of fits_of header_allowed end_allowed row_allowed named allowed_by allowed_at next_at finish_of judge_lines judge_of home_from home_of judge_either naming_of source_of spot_of name_of column_names all_named names_for
sheet_of_own = refl

sheet_of_makers : names_for plain named3 2 ≡ (65 ∷ []) ∷ (66 ∷ []) ∷ []
unfolding mark_of run same body lines_of fields_from fields_in cube_of digits number_of other_key key_of typed_of row_line class_of of_fields line_of name_byte all_name name_ok holds good_names names_count same_fields names_in start_at end_at span_at field_at name_span lacks lacks_none ready_of only_from only_on row_fits open_of fits_of header_allowed end_allowed row_allowed named allowed_by allowed_at next_at finish_of judge_lines judge_of home_from home_of judge_either naming_of source_of spot_of name_of column_names all_named names_for
sheet_of_makers = refl

sheet_of_none : names_for named2 named3 3 ≡ []
unfolding mark_of run same body lines_of fields_from fields_in cube_of digits number_of other_key key_of typed_of row_line class_of of_fields line_of name_byte all_name name_ok holds good_names names_count same_fields names_in start_at end_at span_at field_at name_span lacks lacks_none ready_of only_from only_on row_fits open_of fits_of header_allowed end_allowed row_allowed named allowed_by allowed_at next_at finish_of judge_lines judge_of home_from home_of judge_either naming_of source_of spot_of name_of column_names all_named names_for
sheet_of_none = refl

-- the line that `name_line` hands back, without its LF
line_of_makers : name_line plain named3 2 ≡ 46 ∷ 105 ∷ 108 ∷ 98 ∷ 32 ∷ 65 ∷ 32 ∷ 66 ∷ 32 ∷ 67 ∷ []
unfolding mark_of run same body lines_of fields_from fields_in cube_of digits number_of other_key key_of typed_of row_line class_of of_fields line_of name_byte all_name name_ok holds good_names names_count same_fields names_in start_at end_at span_at field_at name_span lacks lacks_none ready_of only_from only_on row_fits open_of fits_of header_allowed end_allowed row_allowed named allowed_by allowed_at next_at finish_of judge_lines judge_of home_from home_of judge_either naming_of source_of spot_of name_line
line_of_makers = refl
