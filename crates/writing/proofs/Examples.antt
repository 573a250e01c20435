-- Worked examples: the sheet of 01 is written exactly, and refused in one byte less; a sheet with names has both lines behind its sizes.
use Prim.Native.Nat.{ℕ}
use mathlib.Core.Path.{◌≡◌, refl}
use mathlib.Core.List.{List, [], ◌∷◌}
use Rattle.panel.specs.Masks.{panel_size, relays, on, all_on, all_off}
use Rattle.panel.specs.Rules.{head, must_on, must_off, valid_rule, contains, narrows}
use Rattle.prime.specs.Sheets.{good_sheet}
use Rattle.fields.specs.Decimals.{decimal_from, decimal}
use Rattle.names.specs.Names.{spaced}
use Rattle.writing.specs.TableText.{body_byte, head_byte, columns, row_text, rows_text, header_text, name_text, name_lines, type_text, count_text, table_text}
use Rattle.writing.specs.SheetText.{sheet_text}
use Rattle.writing.specs.Writing.{write_code}

-- the sheet of the panel of document 000
abbrev sheet : List ℕ
sheet = 2048 ∷ 1053696 ∷ 2097153 ∷ []

-- .i 3⏎.o 3⏎.type f⏎.p 3⏎-1- 100⏎1-1 010⏎0-- 001⏎.e⏎
abbrev text : List ℕ
text = 46 ∷ 105 ∷ 32 ∷ 51 ∷ 10 ∷ 46 ∷ 111 ∷ 32 ∷ 51 ∷ 10 ∷ 46 ∷ 116 ∷ 121 ∷ 112 ∷ 101 ∷ 32 ∷ 102 ∷ 10 ∷ 46 ∷ 112 ∷ 32 ∷ 51 ∷ 10 ∷ 45 ∷ 49 ∷ 45 ∷ 32 ∷ 49 ∷ 48 ∷ 48 ∷ 10 ∷ 49 ∷ 45 ∷ 49 ∷ 32 ∷ 48 ∷ 49 ∷ 48 ∷ 10 ∷ 48 ∷ 45 ∷ 45 ∷ 32 ∷ 48 ∷ 48 ∷ 49 ∷ 10 ∷ 46 ∷ 101 ∷ 10 ∷ []

pub panel_sheet : sheet_text 3 [] sheet ≡ text
unfolding decimal_from decimal on head must_on must_off body_byte head_byte columns row_text rows_text header_text name_text name_lines type_text count_text table_text sheet_text
panel_sheet = refl

-- in 50 bytes it is done; in one less, 12; with 4 rules, 3; for 11 relays, 2; and words 0 and 1024 are no good sheet of one relay
pub panel_codes : ((write_code 3 [] sheet 3 50 ≡ 0) × (write_code 3 [] sheet 3 49 ≡ 12)) × (((write_code 3 [] sheet 4 50 ≡ 3) × (write_code 11 [] sheet 4 0 ≡ 2)) × (write_code 1 [] (0 ∷ 1024 ∷ []) 2 0 ≡ 5))
unfolding panel_size relays on all_on all_off head must_on must_off valid_rule contains narrows good_sheet decimal_from decimal body_byte head_byte columns row_text rows_text header_text name_text name_lines type_text count_text table_text sheet_text write_code
panel_codes = ((refl, refl), ((refl, refl), refl))

-- the names `A` and `B_1`
abbrev names : List (List ℕ)
names = (65 ∷ []) ∷ (66 ∷ 95 ∷ 49 ∷ []) ∷ []

-- .i 2⏎.o 2⏎.ilb A B_1⏎.ob A B_1⏎.type f⏎.p 2⏎-- 10⏎-- 01⏎.e⏎
abbrev named : List ℕ
named = 46 ∷ 105 ∷ 32 ∷ 50 ∷ 10 ∷ 46 ∷ 111 ∷ 32 ∷ 50 ∷ 10 ∷ 46 ∷ 105 ∷ 108 ∷ 98 ∷ 32 ∷ 65 ∷ 32 ∷ 66 ∷ 95 ∷ 49 ∷ 10 ∷ 46 ∷ 111 ∷ 98 ∷ 32 ∷ 65 ∷ 32 ∷ 66 ∷ 95 ∷ 49 ∷ 10 ∷ 46 ∷ 116 ∷ 121 ∷ 112 ∷ 101 ∷ 32 ∷ 102 ∷ 10 ∷ 46 ∷ 112 ∷ 32 ∷ 50 ∷ 10 ∷ 45 ∷ 45 ∷ 32 ∷ 49 ∷ 48 ∷ 10 ∷ 45 ∷ 45 ∷ 32 ∷ 48 ∷ 49 ∷ 10 ∷ 46 ∷ 101 ∷ 10 ∷ []

-- the fresh sheet of two relays
pub named_sheet : sheet_text 2 names (0 ∷ 1048576 ∷ []) ≡ named
unfolding decimal_from decimal on head must_on must_off body_byte head_byte columns row_text rows_text header_text spaced name_text name_lines type_text count_text table_text sheet_text
named_sheet = refl

-- in 59 bytes it is done; in one less, 12
pub named_codes : (write_code 2 names (0 ∷ 1048576 ∷ []) 2 59 ≡ 0) × (write_code 2 names (0 ∷ 1048576 ∷ []) 2 58 ≡ 12)
unfolding panel_size relays on all_on all_off head must_on must_off valid_rule contains narrows good_sheet decimal_from decimal body_byte head_byte columns row_text rows_text header_text spaced name_text name_lines type_text count_text table_text sheet_text write_code
named_codes = (refl, refl)
