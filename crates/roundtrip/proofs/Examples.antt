-- A sheet with names, and the same with its rows in another order and comments, by the definitions; and one instance of each premise.
use Prim.Native.Nat.{ℕ}
use mathlib.Core.Path.{◌≡◌, refl, sym, ◌∙◌}
use mathlib.Core.List.{List, [], ◌∷◌, ◌++◌}
use native.Mathlib.Omega.{arith}
use lib.ListN.{replicate}
use Rattle.table.specs.Surgery.{filled}
use Rattle.panel.specs.Masks.{panel_size, relays, on, all_off}
use Rattle.panel.specs.Rules.{rule_word, head, must_on, must_off, valid_rule, narrows}
use Rattle.prime.specs.Sheets.{good_sheet}
use Rattle.fields.specs.Bytes.{mark_of, run, same}
use Rattle.fields.specs.Texts.{lines_of, body}
use Rattle.fields.specs.Values.{cube_of, digits, number_of}
use Rattle.fields.specs.Fields.{fields_from, fields_in}
use Rattle.fields.specs.Decimals.{decimal_from, decimal}
use Rattle.names.specs.Names.{name_byte, all_name, name_ok, holds, good_names, names_count, same_fields, names_in, spaced}
use Rattle.names.specs.Spans.{start_at, end_at, span_at, field_at, name_span}
use Rattle.lines.specs.Lines.{other_key, key_of, typed_of, row_line, class_of, of_fields, line_of}
use Rattle.lines.specs.declared.Masks.{Masks}
use Rattle.headers.specs.Headers.{lacks, lacks_none, ready_of, only_from, only_on, row_fits, open_of, fits_of, header_allowed, end_allowed, row_allowed, named, allowed_by, allowed_at, next_at}
use Rattle.headers.specs.Verdicts.{finish_of, judge_lines, judge_of}
use Rattle.naming.specs.Naming.{home_from, home_of, judge_either, naming_of, source_of, spot_of, name_of}
use Rattle.naming.specs.Columns.{column_names, all_named, names_for}
use Rattle.reading.specs.Rows.{rule_of, lines_words, words_in}
use Rattle.reading.specs.Reading.{refusal}
use Rattle.returned.specs.Returned.{sheet_answer, sheet_list, ReadsSheet}
use Rattle.writing.specs.TableText.{body_byte, head_byte, columns, row_text, rows_text, header_text, name_text, name_lines, type_text, count_text, table_text}
use Rattle.writing.specs.SheetText.{sheet_text}
use Rattle.writing.specs.Writing.{written, write_code, with_length, WritesNamed}
use Rattle.sorting.specs.Orders.{Same}
use Rattle.roundtrip.specs.Rows.{lines_rows, text_rows, RowsMoved}
use Rattle.roundtrip.specs.Labels.{Labels}
use Rattle.roundtrip.specs.Trips.{Written, Read, WrittenAgain}
use Rattle.roundtrip.proofs.NameLaws.{labels}
use Rattle.roundtrip.proofs.ReadingLaws.{read_back}
use Rattle.roundtrip.proofs.RoundTrips.{moved_back}

-- the sheet of the panel of document 000, and names
abbrev rules : List ℕ
rules = 2048 ∷ 1053696 ∷ 2097153 ∷ []

abbrev letters : List (List ℕ)
letters = (65 ∷ []) ∷ (66 ∷ []) ∷ (67 ∷ []) ∷ []

-- its text:
--   .i 3⏎.o 3⏎.ilb A B C⏎.ob A B C⏎.type f⏎.p 3⏎-1- 100⏎1-1 010⏎0-- 001⏎.e⏎
abbrev text : List ℕ
text = 46 ∷ 105 ∷ 32 ∷ 51 ∷ 10 ∷ 46 ∷ 111 ∷ 32 ∷ 51 ∷ 10 ∷ 46 ∷ 105 ∷ 108 ∷ 98 ∷ 32 ∷ 65 ∷ 32 ∷ 66 ∷ 32 ∷ 67 ∷ 10 ∷ 46 ∷ 111 ∷ 98 ∷ 32 ∷ 65 ∷ 32 ∷ 66 ∷ 32 ∷ 67 ∷ 10 ∷ 46 ∷ 116 ∷ 121 ∷ 112 ∷ 101 ∷ 32 ∷ 102 ∷ 10 ∷ 46 ∷ 112 ∷ 32 ∷ 51 ∷ 10 ∷ 45 ∷ 49 ∷ 45 ∷ 32 ∷ 49 ∷ 48 ∷ 48 ∷ 10 ∷ 49 ∷ 45 ∷ 49 ∷ 32 ∷ 48 ∷ 49 ∷ 48 ∷ 10 ∷ 48 ∷ 45 ∷ 45 ∷ 32 ∷ 48 ∷ 48 ∷ 49 ∷ 10 ∷ 46 ∷ 101 ∷ 10 ∷ []

-- its rows in another order, with comments, a tab and a blank line, and without `.p`:
--   .i 3⏎.type f⏎.o 3 # lamps⏎.ob A B C⏎.ilb A B C⏎0-- 001⏎-1- 100 # first⏎⏎1-1⇥010⏎.end
abbrev shuffled : List ℕ
shuffled = 46 ∷ 105 ∷ 32 ∷ 51 ∷ 10 ∷ 46 ∷ 116 ∷ 121 ∷ 112 ∷ 101 ∷ 32 ∷ 102 ∷ 10 ∷ 46 ∷ 111 ∷ 32 ∷ 51 ∷ 32 ∷ 35 ∷ 32 ∷ 108 ∷ 97 ∷ 109 ∷ 112 ∷ 115 ∷ 10 ∷ 46 ∷ 111 ∷ 98 ∷ 32 ∷ 65 ∷ 32 ∷ 66 ∷ 32 ∷ 67 ∷ 10 ∷ 46 ∷ 105 ∷ 108 ∷ 98 ∷ 32 ∷ 65 ∷ 32 ∷ 66 ∷ 32 ∷ 67 ∷ 10 ∷ 48 ∷ 45 ∷ 45 ∷ 32 ∷ 48 ∷ 48 ∷ 49 ∷ 10 ∷ 45 ∷ 49 ∷ 45 ∷ 32 ∷ 49 ∷ 48 ∷ 48 ∷ 32 ∷ 35 ∷ 32 ∷ 102 ∷ 105 ∷ 114 ∷ 115 ∷ 116 ∷ 10 ∷ 10 ∷ 49 ∷ 45 ∷ 49 ∷ 9 ∷ 48 ∷ 49 ∷ 48 ∷ 10 ∷ 46 ∷ 101 ∷ 110 ∷ 100 ∷ []

pub rules_written : sheet_text 3 letters rules ≡ text
unfolding head must_on must_off on decimal_from decimal spaced body_byte head_byte columns row_text rows_text header_text name_text name_lines type_text count_text table_text sheet_text
rules_written = refl

-- a row twice: 8 in a room of one word, 5 in one of two:
--   .i 3⏎.o 3⏎.type f⏎-1- 100⏎-1- 100⏎.e⏎
abbrev twice : List ℕ
twice = 46 ∷ 105 ∷ 32 ∷ 51 ∷ 10 ∷ 46 ∷ 111 ∷ 32 ∷ 51 ∷ 10 ∷ 46 ∷ 116 ∷ 121 ∷ 112 ∷ 101 ∷ 32 ∷ 102 ∷ 10 ∷ 45 ∷ 49 ∷ 45 ∷ 32 ∷ 49 ∷ 48 ∷ 48 ∷ 10 ∷ 45 ∷ 49 ∷ 45 ∷ 32 ∷ 49 ∷ 48 ∷ 48 ∷ 10 ∷ 46 ∷ 101 ∷ 10 ∷ []

texts_read : ((sheet_answer shuffled 4 ≡ record { code = 0; place = 0; n = 3; count = 3 }) × (sheet_list shuffled 4 ≡ filled 4 rules)) × ((sheet_answer twice 1 ≡ refusal 8 0) × (sheet_answer twice 2 ≡ refusal 5 0) × (sheet_list twice 2 ≡ replicate 2 0))
unfolding relays on all_off rule_word head must_on must_off valid_rule narrows good_sheet mark_of run same lines_of body cube_of digits number_of fields_from fields_in name_byte all_name name_ok holds good_names names_count same_fields names_in other_key key_of typed_of row_line class_of of_fields line_of lacks lacks_none ready_of only_from only_on row_fits open_of fits_of header_allowed end_allowed row_allowed named allowed_by allowed_at next_at finish_of judge_lines judge_of rule_of lines_words words_in sheet_answer sheet_list
texts_read = ((refl, refl), (refl, refl, refl))

-- ---- one instance of each premise

-- a recording with these names and no rows, as the panel's text:
--   .i 3⏎.o 3⏎.ilb A B C⏎.ob A B C⏎.type fr⏎.e⏎
abbrev panel : List ℕ
panel = 46 ∷ 105 ∷ 32 ∷ 51 ∷ 10 ∷ 46 ∷ 111 ∷ 32 ∷ 51 ∷ 10 ∷ 46 ∷ 105 ∷ 108 ∷ 98 ∷ 32 ∷ 65 ∷ 32 ∷ 66 ∷ 32 ∷ 67 ∷ 10 ∷ 46 ∷ 111 ∷ 98 ∷ 32 ∷ 65 ∷ 32 ∷ 66 ∷ 32 ∷ 67 ∷ 10 ∷ 46 ∷ 116 ∷ 121 ∷ 112 ∷ 101 ∷ 32 ∷ 102 ∷ 114 ∷ 10 ∷ 46 ∷ 101 ∷ 10 ∷ []

both_names : (names_for panel [] 3 ≡ letters) × (names_for shuffled [] 3 ≡ letters)
unfolding mark_of run same lines_of body cube_of digits number_of fields_from fields_in name_byte all_name name_ok holds good_names names_count same_fields names_in other_key key_of typed_of row_line class_of of_fields line_of lacks lacks_none ready_of only_from only_on row_fits open_of fits_of header_allowed end_allowed row_allowed named allowed_by allowed_at next_at finish_of judge_lines judge_of start_at end_at span_at field_at name_span home_from home_of judge_either naming_of source_of spot_of name_of column_names all_named names_for
both_names = (refl, refl)

pub letters_labels : Labels 3 letters
letters_labels = rw both_names.0 at (labels panel [] 3)

-- the same rows: the last of the one text is the first of the other
turned : (a b c : Masks) → Same (a ∷ b ∷ c ∷ []) (c ∷ a ∷ b ∷ [])
turned a b c = record { totals = λ f. omega arith }

abbrev first : Masks
first = record { on = 2; off = 0; free = 5; next = 1; unread = 0; width = 3 }

abbrev second : Masks
second = record { on = 5; off = 0; free = 2; next = 2; unread = 0; width = 3 }

abbrev third : Masks
third = record { on = 0; off = 1; free = 6; next = 4; unread = 0; width = 3 }

both_rows : (text_rows text ≡ first ∷ second ∷ third ∷ []) × (text_rows shuffled ≡ third ∷ first ∷ second ∷ [])
unfolding mark_of run same lines_of body cube_of fields_from fields_in digits number_of name_byte all_name name_ok holds good_names names_count other_key key_of typed_of row_line class_of of_fields line_of lines_rows text_rows
both_rows = (refl, refl)

pub rows_same : RowsMoved text shuffled
rows_same = rw (both_rows.0, both_rows.1) (turned first second third)

-- the other text is read
pub shuffled_reads : ReadsSheet shuffled (replicate 4 0) (filled 4 rules) (record { code = 0; place = 0; n = 3; count = 3 })
shuffled_reads = record { answer = sym texts_read.0.0; words = sym texts_read.0.1 }

pub shuffled_is_read : Read shuffled 3 (filled 4 rules) 3
shuffled_is_read = record { before = replicate 4 0; answer = record { code = 0; place = 0; n = 3; count = 3 }; reads = shuffled_reads; done = refl; size = refl; counted = refl }

-- both are written: the words that there were, and those that were read, each with its own names
abbrev room : List ℕ
room = replicate 100 0

abbrev filled_room : List ℕ
filled_room = text ++ replicate 29 0

both_written : WritesNamed 3 letters rules 3 room filled_room (with_length 0 71) × WritesNamed 3 letters (filled 4 rules) 3 room filled_room (with_length 0 71)
unfolding head must_on must_off on relays all_off valid_rule narrows good_sheet panel_size decimal_from decimal spaced body_byte head_byte columns row_text rows_text header_text name_text name_lines type_text count_text table_text sheet_text write_code written filled
both_written = (record { answer = refl; bytes = refl }, record { answer = refl; bytes = refl })

pub text_written : Written 3 rules 3 panel [] text
text_written = record { before = room; after = filled_room; answer = with_length 0 71; writes = rw both_names.0 both_written.0; done = refl; text = refl }

-- so the text is had again
pub text_again : WrittenAgain text filled_room (with_length 0 71)
text_again =
    moved_back 3 rules 3 panel [] text text_written shuffled [] (read_back shuffled 3 (filled 4 rules) 3 shuffled_is_read).accepted rows_same (both_names.1 ∙ sym both_names.0)
    (replicate 4 0) (filled 4 rules) (record { code = 0; place = 0; n = 3; count = 3 }) shuffled_reads (omega arith) room filled_room (with_length 0 71) (rw both_names.1 both_written.1) (omega arith)
