-- The worked example of 01, a recording with names, and refusals, from text to text.
use Prim.Native.Nat.{ℕ}
use mathlib.Core.Path.{◌≡◌, refl}
use mathlib.Core.List.{List, [], ◌∷◌}
use Rattle.fields.specs.Bytes.{mark_of, run, same}
use Rattle.fields.specs.Decimals.{decimal, decimal_from}
use Rattle.fields.specs.Fields.{fields_from, fields_in}
use Rattle.fields.specs.Texts.{body, lines_of}
use Rattle.fields.specs.Values.{cube_of, digits, number_of}
use Rattle.headers.specs.Headers.{lacks, lacks_none, ready_of, row_fits, open_of, fits_of, header_allowed, end_allowed, row_allowed, named, allowed_by, allowed_at, next_at}
use Rattle.headers.specs.Verdicts.{finish_of, judge_lines, judge_of}
use Rattle.names.specs.Names.{name_byte, all_name, name_ok, holds, good_names, names_count, same_fields, names_in, spaced}
use Rattle.names.specs.Spans.{start_at, end_at, span_at, field_at, name_span}
use Rattle.naming.specs.Naming.{home_from, home_of, naming_of, source_of, spot_of, name_of, judge_either}
use Rattle.naming.specs.Columns.{column_names, all_named, names_for}
use Rattle.learning.specs.Learn.{learn_end, learn_run, learn_start, learn_step, learn_words, reproduced, taken}
use Rattle.lines.specs.Lines.{class_of, key_of, line_of, other_key, of_fields, row_line, typed_of}
use Rattle.panel.specs.Masks.{all_off, all_on, bits_where, on, panel_size, relays}
use Rattle.panel.specs.Rules.{contains, covers, head, must_off, must_on, narrows, rule_word, rules}
use Rattle.panel.specs.Transitions.{next, observed, rests, spared, state, transition_word, valid_transition}
use Rattle.book.specs.Books.{differ, told, against, with_word}
use Rattle.prime.specs.Sheets.{added_count, apply_sheet, fresh_sheet, least, permits, pulls_in, sheet_where, struck_count, take_sheet}
use Rattle.reading.specs.Reading.{laid_answer, laid_list}
use Rattle.reading.specs.Rows.{lines_words, matches_of, words_below, words_in}
use Rattle.table.specs.Lists.{has, missing}
use Rattle.table.specs.Surgery.{filled}
use Rattle.writing.specs.TableText.{body_byte, head_byte, columns, row_text, rows_text, header_text, name_text, name_lines, type_text, count_text, table_text}
use Rattle.writing.specs.SheetText.{sheet_text}
use Rattle.program.specs.Program.{refusal_line, if_room, reading_code, reading_place, learned_run, written_run, run_text, run_printed, printed}

-- .i 3⏎.o 3⏎.type fr⏎111 110⏎110 100⏎100 000⏎000 001⏎001 001⏎011 101⏎101 010⏎010 101⏎.e⏎
abbrev panel : List ℕ
panel = 46 ∷ 105 ∷ 32 ∷ 51 ∷ 10 ∷ 46 ∷ 111 ∷ 32 ∷ 51 ∷ 10 ∷ 46 ∷ 116 ∷ 121 ∷ 112 ∷ 101 ∷ 32 ∷ 102 ∷ 114 ∷ 10 ∷ 49 ∷ 49 ∷ 49 ∷ 32 ∷ 49 ∷ 49 ∷ 48 ∷ 10 ∷ 49 ∷ 49 ∷ 48 ∷ 32 ∷ 49 ∷ 48 ∷ 48 ∷ 10 ∷ 49 ∷ 48 ∷ 48 ∷ 32 ∷ 48 ∷ 48 ∷ 48 ∷ 10 ∷ 48 ∷ 48 ∷ 48 ∷ 32 ∷ 48 ∷ 48 ∷ 49 ∷ 10 ∷ 48 ∷ 48 ∷ 49 ∷ 32 ∷ 48 ∷ 48 ∷ 49 ∷ 10 ∷ 48 ∷ 49 ∷ 49 ∷ 32 ∷ 49 ∷ 48 ∷ 49 ∷ 10 ∷ 49 ∷ 48 ∷ 49 ∷ 32 ∷ 48 ∷ 49 ∷ 48 ∷ 10 ∷ 48 ∷ 49 ∷ 48 ∷ 32 ∷ 49 ∷ 48 ∷ 49 ∷ 10 ∷ 46 ∷ 101 ∷ 10 ∷ []

-- .i 3⏎.o 3⏎.type f⏎.p 3⏎-1- 100⏎1-1 010⏎0-- 001⏎.e⏎
abbrev sheet : List ℕ
sheet = 46 ∷ 105 ∷ 32 ∷ 51 ∷ 10 ∷ 46 ∷ 111 ∷ 32 ∷ 51 ∷ 10 ∷ 46 ∷ 116 ∷ 121 ∷ 112 ∷ 101 ∷ 32 ∷ 102 ∷ 10 ∷ 46 ∷ 112 ∷ 32 ∷ 51 ∷ 10 ∷ 45 ∷ 49 ∷ 45 ∷ 32 ∷ 49 ∷ 48 ∷ 48 ∷ 10 ∷ 49 ∷ 45 ∷ 49 ∷ 32 ∷ 48 ∷ 49 ∷ 48 ∷ 10 ∷ 48 ∷ 45 ∷ 45 ∷ 32 ∷ 48 ∷ 48 ∷ 49 ∷ 10 ∷ 46 ∷ 101 ∷ 10 ∷ []

-- 8 words, 8 book words, 7 rules on the way, 50 bytes
pub panel_printed : printed panel 8 8 7 50 ≡ sheet
unfolding filled on relays all_on all_off transition_word mark_of run same lines_of body cube_of digits number_of fields_from fields_in other_key key_of typed_of row_line class_of of_fields line_of lacks lacks_none ready_of row_fits open_of fits_of header_allowed end_allowed row_allowed named allowed_by allowed_at next_at finish_of judge_lines judge_of matches_of words_below lines_words words_in laid_answer laid_list learn_run learn_start learn_words learn_step taken learn_end reproduced has missing panel_size bits_where rule_word head must_on must_off covers contains narrows rules state next observed valid_transition rests spared differ told against with_word least sheet_where permits fresh_sheet take_sheet struck_count added_count pulls_in apply_sheet decimal_from decimal body_byte head_byte columns row_text rows_text header_text name_text name_lines type_text count_text table_text sheet_text name_byte all_name name_ok holds good_names names_count same_fields names_in spaced start_at end_at span_at field_at name_span home_from home_of judge_either naming_of source_of spot_of name_of column_names all_named names_for refusal_line if_room reading_code reading_place learned_run written_run run_text run_printed printed
panel_printed = refl

-- a recording with names: .i 1⏎.ob A⏎.o 1⏎.ilb A⏎.type fr⏎0 0⏎.e⏎
abbrev named_panel : List ℕ
named_panel = 46 ∷ 105 ∷ 32 ∷ 49 ∷ 10 ∷ 46 ∷ 111 ∷ 98 ∷ 32 ∷ 65 ∷ 10 ∷ 46 ∷ 111 ∷ 32 ∷ 49 ∷ 10 ∷ 46 ∷ 105 ∷ 108 ∷ 98 ∷ 32 ∷ 65 ∷ 10 ∷ 46 ∷ 116 ∷ 121 ∷ 112 ∷ 101 ∷ 32 ∷ 102 ∷ 114 ∷ 10 ∷ 48 ∷ 32 ∷ 48 ∷ 10 ∷ 46 ∷ 101 ∷ 10 ∷ []

-- its sheet has them behind the sizes: .i 1⏎.o 1⏎.ilb A⏎.ob A⏎.type f⏎.p 1⏎1 1⏎.e⏎
abbrev named_sheet : List ℕ
named_sheet = 46 ∷ 105 ∷ 32 ∷ 49 ∷ 10 ∷ 46 ∷ 111 ∷ 32 ∷ 49 ∷ 10 ∷ 46 ∷ 105 ∷ 108 ∷ 98 ∷ 32 ∷ 65 ∷ 10 ∷ 46 ∷ 111 ∷ 98 ∷ 32 ∷ 65 ∷ 10 ∷ 46 ∷ 116 ∷ 121 ∷ 112 ∷ 101 ∷ 32 ∷ 102 ∷ 10 ∷ 46 ∷ 112 ∷ 32 ∷ 49 ∷ 10 ∷ 49 ∷ 32 ∷ 49 ∷ 10 ∷ 46 ∷ 101 ∷ 10 ∷ []

pub named_printed : printed named_panel 1 1 1 43 ≡ named_sheet
unfolding filled on relays all_on all_off transition_word mark_of run same lines_of body cube_of digits number_of fields_from fields_in other_key key_of typed_of row_line class_of of_fields line_of lacks lacks_none ready_of row_fits open_of fits_of header_allowed end_allowed row_allowed named allowed_by allowed_at next_at finish_of judge_lines judge_of matches_of words_below lines_words words_in laid_answer laid_list learn_run learn_start learn_words learn_step taken learn_end reproduced has missing panel_size bits_where rule_word head must_on must_off covers contains narrows rules state next observed valid_transition rests spared differ told against with_word least sheet_where permits fresh_sheet take_sheet struck_count added_count pulls_in apply_sheet decimal_from decimal body_byte head_byte columns row_text rows_text header_text name_text name_lines type_text count_text table_text sheet_text name_byte all_name name_ok holds good_names names_count same_fields names_in spaced start_at end_at span_at field_at name_span home_from home_of judge_either naming_of source_of spot_of name_of column_names all_named names_for refusal_line if_room reading_code reading_place learned_run written_run run_text run_printed printed
named_printed = refl

-- `refused 8 at 0` for a list of 7 words, `refused 12 at 0` for 49 bytes, and nothing at all for 15, one less than that line has
pub panel_refused : (printed panel 7 8 7 50 ≡ 114 ∷ 101 ∷ 102 ∷ 117 ∷ 115 ∷ 101 ∷ 100 ∷ 32 ∷ 56 ∷ 32 ∷ 97 ∷ 116 ∷ 32 ∷ 48 ∷ 10 ∷ []) × (printed panel 8 8 7 49 ≡ 114 ∷ 101 ∷ 102 ∷ 117 ∷ 115 ∷ 101 ∷ 100 ∷ 32 ∷ 49 ∷ 50 ∷ 32 ∷ 97 ∷ 116 ∷ 32 ∷ 48 ∷ 10 ∷ []) × (printed panel 8 8 7 15 ≡ [])
unfolding filled on relays all_on all_off transition_word mark_of run same lines_of body cube_of digits number_of fields_from fields_in other_key key_of typed_of row_line class_of of_fields line_of lacks lacks_none ready_of row_fits open_of fits_of header_allowed end_allowed row_allowed named allowed_by allowed_at next_at finish_of judge_lines judge_of matches_of words_below lines_words words_in laid_answer laid_list learn_run learn_start learn_words learn_step taken learn_end reproduced has missing panel_size bits_where rule_word head must_on must_off covers contains narrows rules state next observed valid_transition rests spared differ told against with_word least sheet_where permits fresh_sheet take_sheet struck_count added_count pulls_in apply_sheet decimal_from decimal body_byte head_byte columns row_text rows_text header_text name_text name_lines type_text count_text table_text sheet_text name_byte all_name name_ok holds good_names names_count same_fields names_in spaced start_at end_at span_at field_at name_span home_from home_of judge_either naming_of source_of spot_of name_of column_names all_named names_for refusal_line if_room reading_code reading_place learned_run written_run run_text run_printed printed
panel_refused = (refl, refl, refl)

-- with no type line, `refused 11 at 3`: .i 1⏎.o 1⏎0 0⏎.e⏎
abbrev untyped_panel : List ℕ
untyped_panel = 46 ∷ 105 ∷ 32 ∷ 49 ∷ 10 ∷ 46 ∷ 111 ∷ 32 ∷ 49 ∷ 10 ∷ 48 ∷ 32 ∷ 48 ∷ 10 ∷ 46 ∷ 101 ∷ 10 ∷ []

pub untyped_refused : printed untyped_panel 1 1 1 43 ≡ 114 ∷ 101 ∷ 102 ∷ 117 ∷ 115 ∷ 101 ∷ 100 ∷ 32 ∷ 49 ∷ 49 ∷ 32 ∷ 97 ∷ 116 ∷ 32 ∷ 51 ∷ 10 ∷ []
unfolding filled on relays all_on all_off transition_word mark_of run same lines_of body cube_of digits number_of fields_from fields_in other_key key_of typed_of row_line class_of of_fields line_of lacks lacks_none ready_of row_fits open_of fits_of header_allowed end_allowed row_allowed named allowed_by allowed_at next_at finish_of judge_lines judge_of matches_of words_below lines_words words_in laid_answer laid_list learn_run learn_start learn_words learn_step taken learn_end reproduced has missing panel_size bits_where rule_word head must_on must_off covers contains narrows rules state next observed valid_transition rests spared differ told against with_word least sheet_where permits fresh_sheet take_sheet struck_count added_count pulls_in apply_sheet decimal_from decimal body_byte head_byte columns row_text rows_text header_text name_text name_lines type_text count_text table_text sheet_text name_byte all_name name_ok holds good_names names_count same_fields names_in spaced start_at end_at span_at field_at name_span home_from home_of judge_either naming_of source_of spot_of name_of column_names all_named names_for refusal_line if_room reading_code reading_place learned_run written_run run_text run_printed printed
untyped_refused = refl
