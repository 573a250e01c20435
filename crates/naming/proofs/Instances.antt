-- One instance of each premise of what is said of a lookup: a text with names, one without, and two bad ones: the empty text, and one without a type line.
use Prim.Native.Nat.{ℕ}
use mathlib.Core.Path.{◌≡◌, refl}
use mathlib.Core.List.{List, [], ◌∷◌}
use Rattle.fields.specs.Bytes.{mark_of, run, same}
use Rattle.fields.specs.Texts.{body, lines_of}
use Rattle.fields.specs.Fields.{fields_from, fields_in}
use Rattle.fields.specs.Values.{cube_of, digits, number_of}
use Rattle.names.specs.Names.{name_byte, all_name, name_ok, holds, good_names, names_count}
use Rattle.lines.specs.Lines.{other_key, key_of, row_line, class_of, of_fields, line_of}
use Rattle.lines.specs.declared.Kind.TheVariants.{Recording, Sheet}
use Rattle.headers.specs.Layouts.{layout_of}
use Rattle.headers.specs.Verdicts.{finish_of, judge_lines, judge_of}
use Rattle.headers.specs.Accepted.{times}
use Rattle.headers.specs.declared.Header.TheVariants.{TypeWord}
use Rattle.headers.proofs.PlaceLaws.{bad_iff_place, accepted_no_place}
use Rattle.headers.proofs.Examples.{whole, whole_accepted, none_stands, named_whole, named_accepted, named_stands, sheet_whole, sheet_accepted, sheet_stands}
use Rattle.naming.specs.Naming.{no_name, spot_of}
use Rattle.naming.specs.Columns.{names_for}
use Rattle.naming.specs.Answers.{Answers, BadText}
use Rattle.naming.proofs.Request.{own_names, makers_names, no_names, bad_panel, bad_maker, typeless_bad, own_written, none_written}

-- the panel's own names, whatever the maker's text
pub own_answers : (maker : List ℕ) → Answers named_whole maker 1 named_accepted.names
own_answers maker = own_names Recording named_whole maker 1 named_accepted named_stands

-- a sheet's names, and a sheet's as the maker's text (02, Ask 3)
pub sheet_answers : (maker : List ℕ) → Answers sheet_whole maker 1 sheet_accepted.names
sheet_answers maker = own_names Sheet sheet_whole maker 1 sheet_accepted sheet_stands

pub makers_sheet_answers : Answers whole sheet_whole 1 sheet_accepted.names
makers_sheet_answers = makers_names Recording Sheet whole sheet_whole 1 1 whole_accepted sheet_accepted none_stands sheet_stands

-- the maker's, where the panel's text has none
pub makers_answers : Answers whole named_whole 1 named_accepted.names
makers_answers = makers_names Recording Recording whole named_whole 1 1 whole_accepted named_accepted none_stands named_stands

-- neither
pub no_answers : (v : ℕ) → spot_of whole whole v ≡ no_name
no_answers = no_names Recording Recording whole whole 1 1 whole_accepted whole_accepted none_stands none_stands

-- the empty text has no end mark
pub empty_bad : BadText []
unfolding lines_of finish_of judge_lines judge_of
empty_bad kind n h = accepted_no_place (layout_of kind) [] n 1 h ((bad_iff_place (layout_of kind) [] 1).0 refl)

pub bad_panel_answers : (maker : List ℕ) (v : ℕ) → spot_of [] maker v ≡ no_name
bad_panel_answers maker = bad_panel [] maker empty_bad

pub bad_maker_answers : (v : ℕ) → spot_of whole [] v ≡ no_name
bad_maker_answers = bad_maker Recording whole [] 1 whole_accepted none_stands empty_bad

-- nor has a text a good layout that has no type line:
--   .i 1⏎.o 1⏎.ilb A⏎.ob A⏎1 0⏎.e⏎
abbrev typeless : List ℕ
typeless = 46 ∷ 105 ∷ 32 ∷ 49 ∷ 10 ∷ 46 ∷ 111 ∷ 32 ∷ 49 ∷ 10 ∷ 46 ∷ 105 ∷ 108 ∷ 98 ∷ 32 ∷ 65 ∷ 10 ∷ 46 ∷ 111 ∷ 98 ∷ 32 ∷ 65 ∷ 10 ∷ 49 ∷ 32 ∷ 48 ∷ 10 ∷ 46 ∷ 101 ∷ 10 ∷ []

typeless_none : times TypeWord (lines_of typeless) ≡ 0
unfolding times mark_of run same body lines_of fields_from fields_in cube_of digits number_of other_key key_of row_line class_of of_fields line_of name_byte all_name name_ok holds good_names names_count
typeless_none = refl

pub typeless_answers : (maker : List ℕ) (v : ℕ) → (spot_of typeless maker v ≡ no_name) × (spot_of whole typeless v ≡ no_name)
typeless_answers maker v =
    let b = typeless_bad typeless typeless_none in
    (bad_panel typeless maker b v, bad_maker Recording whole typeless 1 whole_accepted none_stands b v)

-- a sheet is written with the names of its recording, or without any: the program lends an empty maker's text
pub own_lines : names_for named_whole [] 1 ≡ named_accepted.names
own_lines = own_written Recording named_whole [] 1 named_accepted named_stands

pub no_lines : (k : ℕ) → names_for whole [] k ≡ []
no_lines = none_written Recording whole [] 1 whole_accepted none_stands empty_bad
