-- One instance of each premise of the theorems here: two short recordings with the same rows and names, one that contradicts itself, one too long, one too large for the list, and the empty text.
use mathlib.Core.Path.{◌≡◌, refl, sym, ap, ◌∙◌, subst}
use mathlib.Core.Bool.{cond}
use mathlib.Core.List.Memᴰ
use mathlib.Core.List.Memᴰ.{head as here}
use mathlib.Core.List.Memᴰ.{tail as there}
use mathlib.Core.List.{List, [], ◌∷◌, Memᴰ as Mem}
use Prim.Native.Nat.{ℕ, zero, suc, ◌≤◌, ◌<◌}
use native.Mathlib.Omega.{arith}
use lib.ListN.{length, take, replicate, length-replicate}
use Rattle.table.proofs.Counting.{parted}
use Rattle.panel.specs.Masks.{on, relays, all_on, all_off, panel_size}
use Rattle.panel.specs.Rules.{rule_word, rules}
use Rattle.panel.specs.Transitions.{transition_word, state, next, valid_transition}
use Rattle.prime.specs.Sheets.{consistent, least, sheet_where, sheet_of}
use Rattle.book.specs.Books.{differ, against}
use Rattle.book.proofs.Telling.{one_next_i}
use Rattle.answers.specs.Answers.{if_done}
use Rattle.fields.specs.Bytes.{mark_of, run, same}
use Rattle.fields.specs.Texts.{lines_of, body}
use Rattle.fields.specs.Values.{cube_of, digits, number_of}
use Rattle.fields.specs.Fields.{fields_from, fields_in}
use Rattle.names.specs.Names.{name_byte, all_name, name_ok, holds, good_names, names_count, same_fields, names_in}
use Rattle.names.specs.Spans.{start_at, end_at, span_at, field_at, name_span}
use Rattle.naming.specs.Naming.{home_from, home_of, naming_of, source_of, spot_of, name_of, judge_either}
use Rattle.lines.specs.Lines.{other_key, key_of, typed_of, row_line, class_of, of_fields, line_of}
use Rattle.headers.specs.Layouts.{recording}
use Rattle.headers.specs.Accepted.{Accepted}
use Rattle.headers.specs.Places.{Place}
use Rattle.headers.specs.Headers.{lacks, lacks_none, ready_of, row_fits, open_of, fits_of, header_allowed, end_allowed, row_allowed, named, allowed_by, allowed_at, next_at}
use Rattle.headers.specs.Verdicts.{finish_of, judge_lines, judge_of}
use Rattle.headers.proofs.Accepting.{good_iff_text}
use Rattle.headers.proofs.PlaceLaws.{one_size, bad_iff_place}
use Rattle.reading.specs.Rows.{matches_of, words_below, lines_words, text_words, words_in}
use Rattle.reading.specs.Reading.{read_list}
use Rattle.learning.specs.Learn.{run_book, run_sheet}
use Rattle.writing.specs.Writing.{written}
use Rattle.program.specs.Program.{is_too_long, reading_code, learned_run, printed, Runs}
use Rattle.handover.specs.Learning.{Learnable, contradicted as stopped, LearnRefused, at_word}
use Rattle.promises.specs.Printed.{Recorded, SameRows, SameNames, Refused, too_long, faulty, too_many, contradicted, SheetPrinted, RefusalPrinted, Rooms}
use Rattle.promises.proofs.Learning.{words_learnable}
use Rattle.promises.proofs.Exactly.{sheet_printed, refusal_printed}
use Rattle.promises.proofs.OneText.{one_text}

-- ---- texts

-- the rows "1 0" and "0 0" of a relay K:
--   .i 1⏎.o 1⏎.ilb K⏎.ob K⏎.type fr⏎1 0⏎0 0⏎.e⏎
abbrev two_rows : List ℕ
two_rows = 46 ∷ 105 ∷ 32 ∷ 49 ∷ 10 ∷ 46 ∷ 111 ∷ 32 ∷ 49 ∷ 10 ∷ 46 ∷ 105 ∷ 108 ∷ 98 ∷ 32 ∷ 75 ∷ 10 ∷ 46 ∷ 111 ∷ 98 ∷ 32 ∷ 75 ∷ 10 ∷ 46 ∷ 116 ∷ 121 ∷ 112 ∷ 101 ∷ 32 ∷ 102 ∷ 114 ∷ 10 ∷ 49 ∷ 32 ∷ 48 ∷ 10 ∷ 48 ∷ 32 ∷ 48 ∷ 10 ∷ 46 ∷ 101 ∷ 10 ∷ []

-- the same rows and names, with a dash, comments and a repeat, and laid out in another way:
--   .ob K⏎.type fr⏎.o 1⏎.i 1⏎.ilb K # both⏎- 0 # both⏎0 0⏎.end
abbrev one_dash : List ℕ
one_dash = 46 ∷ 111 ∷ 98 ∷ 32 ∷ 75 ∷ 10 ∷ 46 ∷ 116 ∷ 121 ∷ 112 ∷ 101 ∷ 32 ∷ 102 ∷ 114 ∷ 10 ∷ 46 ∷ 111 ∷ 32 ∷ 49 ∷ 10 ∷ 46 ∷ 105 ∷ 32 ∷ 49 ∷ 10 ∷ 46 ∷ 105 ∷ 108 ∷ 98 ∷ 32 ∷ 75 ∷ 32 ∷ 35 ∷ 32 ∷ 98 ∷ 111 ∷ 116 ∷ 104 ∷ 10 ∷ 45 ∷ 32 ∷ 48 ∷ 32 ∷ 35 ∷ 32 ∷ 98 ∷ 111 ∷ 116 ∷ 104 ∷ 10 ∷ 48 ∷ 32 ∷ 48 ∷ 10 ∷ 46 ∷ 101 ∷ 110 ∷ 100 ∷ []

-- K4 as a recording: "0 0" and then "0 1":
--   .i 1⏎.o 1⏎.type fr⏎0 0⏎0 1⏎.e⏎
abbrev two_ways : List ℕ
two_ways = 46 ∷ 105 ∷ 32 ∷ 49 ∷ 10 ∷ 46 ∷ 111 ∷ 32 ∷ 49 ∷ 10 ∷ 46 ∷ 116 ∷ 121 ∷ 112 ∷ 101 ∷ 32 ∷ 102 ∷ 114 ∷ 10 ∷ 48 ∷ 32 ∷ 48 ∷ 10 ∷ 48 ∷ 32 ∷ 49 ∷ 10 ∷ 46 ∷ 101 ∷ 10 ∷ []

-- 1,025 words:
--   .i 10⏎.o 10⏎.type fr⏎---------- 0000000000⏎0000000000 0000000000⏎.e⏎
abbrev too_many_rows : List ℕ
too_many_rows = 46 ∷ 105 ∷ 32 ∷ 49 ∷ 48 ∷ 10 ∷ 46 ∷ 111 ∷ 32 ∷ 49 ∷ 48 ∷ 10 ∷ 46 ∷ 116 ∷ 121 ∷ 112 ∷ 101 ∷ 32 ∷ 102 ∷ 114 ∷ 10 ∷ 45 ∷ 45 ∷ 45 ∷ 45 ∷ 45 ∷ 45 ∷ 45 ∷ 45 ∷ 45 ∷ 45 ∷ 32 ∷ 48 ∷ 48 ∷ 48 ∷ 48 ∷ 48 ∷ 48 ∷ 48 ∷ 48 ∷ 48 ∷ 48 ∷ 10 ∷ 48 ∷ 48 ∷ 48 ∷ 48 ∷ 48 ∷ 48 ∷ 48 ∷ 48 ∷ 48 ∷ 48 ∷ 32 ∷ 48 ∷ 48 ∷ 48 ∷ 48 ∷ 48 ∷ 48 ∷ 48 ∷ 48 ∷ 48 ∷ 48 ∷ 10 ∷ 46 ∷ 101 ∷ 10 ∷ []

-- no type line:
--   .i 1⏎.o 1⏎1 0⏎.e⏎
abbrev typeless : List ℕ
typeless = 46 ∷ 105 ∷ 32 ∷ 49 ∷ 10 ∷ 46 ∷ 111 ∷ 32 ∷ 49 ∷ 10 ∷ 49 ∷ 32 ∷ 48 ∷ 10 ∷ 46 ∷ 101 ∷ 10 ∷ []

-- their words, and their layout; the empty text has no good one, nor has a text without a type line
record Texts : Type 0 where
  two_rows_words : text_words two_rows ≡ 1024 ∷ 0 ∷ []
  one_dash_words : text_words one_dash ≡ 0 ∷ 1024 ∷ 0 ∷ []
  two_ways_words : text_words two_ways ≡ 0 ∷ 1 ∷ []
  many_words : 1024 < length (text_words too_many_rows)
  two_rows_good : Accepted recording 1 two_rows
  one_dash_good : Accepted recording 1 one_dash
  two_ways_good : Accepted recording 1 two_ways
  many_good : Accepted recording 10 too_many_rows
  empty_bad : Place recording [] 1
  typeless_bad : Place recording typeless 3

texts : Texts
unfolding on relays all_on all_off transition_word mark_of run same lines_of body cube_of digits number_of fields_from fields_in other_key key_of typed_of row_line class_of of_fields line_of name_byte all_name name_ok holds good_names names_count same_fields names_in lacks lacks_none ready_of row_fits open_of fits_of header_allowed end_allowed row_allowed named allowed_by allowed_at next_at finish_of judge_lines judge_of matches_of words_below lines_words words_in
texts = record {
  two_rows_words = refl;
  one_dash_words = refl;
  two_ways_words = refl;
  many_words = omega arith;
  two_rows_good = (good_iff_text recording two_rows 1).0 refl;
  one_dash_good = (good_iff_text recording one_dash 1).0 refl;
  two_ways_good = (good_iff_text recording two_ways 1).0 refl;
  many_good = (good_iff_text recording too_many_rows 10).0 refl;
  empty_bad = (bad_iff_place recording [] 1).0 refl;
  typeless_bad = (bad_iff_place recording typeless 3).0 refl;
}

-- ---- the recordings

-- a panel of one relay has three rules, so no words have more prime ones
three_rules : length (rules 1) ≡ 3
unfolding rules rule_word all_off relays on
three_rules = refl

one_relay_fits : (ps : List ℕ) → length (sheet_of 1 ps) ≤ 1024
unfolding sheet_of sheet_where
one_relay_fits ps = omega (arith, parted (least 1 (consistent ps)) (rules 1), three_rules)

-- "1 to 0" and "0 to 0" have one successor
zero_next : (t : ℕ) → Mem t (1024 ∷ 0 ∷ []) → next t ≡ 0
unfolding next
zero_next t (here e) = ap next e
zero_next t (there (here e)) = ap next e
zero_next t (there (there m)) = absurd (Memᴰ.not-nil m)

-- two_rows is a recording of one relay
pub two_rows_recorded : Recorded two_rows 1 (1024 ∷ 0 ∷ [])
two_rows_recorded = record { short = omega arith; good = texts.two_rows_good; words = sym texts.two_rows_words; listed = omega arith }

pub two_rows_learnable : Learnable 1 (1024 ∷ 0 ∷ []) 1024 1024
unfolding panel_size state next valid_transition
two_rows_learnable =
    words_learnable 1 refl (1024 ∷ 0 ∷ []) refl (omega arith) (1024 ∷ 0 ∷ []) [] refl (one_next_i (1024 ∷ 0 ∷ []) (λ t u m k e. zero_next t m ∙ sym (zero_next u k))) (λ ps rest e. one_relay_fits ps)

-- in the words of one_dash they stand in another order, one of them twice
turned : (w : ℕ) → Mem w (1024 ∷ 0 ∷ []) → Mem w (0 ∷ 1024 ∷ 0 ∷ [])
turned w (here e) = there (here e)
turned w (there (here e)) = here e
turned w (there (there m)) = absurd (Memᴰ.not-nil m)

back : (w : ℕ) → Mem w (0 ∷ 1024 ∷ 0 ∷ []) → Mem w (1024 ∷ 0 ∷ [])
back w (here e) = there (here e)
back w (there (here e)) = here e
back w (there (there (here e))) = there (here e)
back w (there (there (there m))) = absurd (Memᴰ.not-nil m)

-- the two texts have the same rows
pub same_rows : SameRows two_rows one_dash
same_rows = record {
  there = λ w m. subst (λ (z : List ℕ). Mem w z) (sym texts.one_dash_words) (turned w (subst (λ (z : List ℕ). Mem w z) texts.two_rows_words m));
  back = λ w m. subst (λ (z : List ℕ). Mem w z) (sym texts.two_rows_words) (back w (subst (λ (z : List ℕ). Mem w z) texts.one_dash_words m));
}

-- and the same name
name_same : (v : ℕ) → v < 1 → name_of two_rows [] v ≡ name_of one_dash [] v
unfolding mark_of run same lines_of body cube_of digits number_of fields_from fields_in other_key key_of typed_of row_line class_of of_fields line_of name_byte all_name name_ok holds good_names names_count same_fields names_in start_at end_at span_at field_at name_span lacks lacks_none ready_of row_fits open_of fits_of header_allowed end_allowed row_allowed named allowed_by allowed_at next_at finish_of judge_lines judge_of home_from home_of judge_either naming_of source_of spot_of name_of
name_same zero l = refl
name_same (suc v) l = absurd (omega arith)

pub same_names : SameNames 1 two_rows one_dash
same_names = record { same = name_same }

-- one_dash is a recording of one relay too
pub one_dash_recorded : Recorded one_dash 1 (0 ∷ 1024 ∷ 0 ∷ [])
one_dash_recorded = record { short = omega arith; good = texts.one_dash_good; words = sym texts.one_dash_words; listed = omega arith }

pub one_dash_learnable : Learnable 1 (0 ∷ 1024 ∷ 0 ∷ []) 1024 1024
unfolding panel_size state next valid_transition
one_dash_learnable =
    words_learnable 1 refl (0 ∷ 1024 ∷ 0 ∷ []) refl (omega arith) (0 ∷ 1024 ∷ 0 ∷ []) [] refl (one_next_i (0 ∷ 1024 ∷ 0 ∷ []) (λ t u m k e. zero_next t (back t m) ∙ sym (zero_next u (back u k)))) (λ ps rest e. one_relay_fits ps)

-- ---- the program's slices and its runs

-- the list, the book and the sheet of the program, and its output
abbrev words : List ℕ
words = replicate 1024 0

abbrev output : List ℕ
output = replicate 24576 0

-- slices of zeros have the program's rooms
pub rooms : Rooms words words words output
rooms = record {
  list_room = length-replicate {A = ℕ} 1024 0;
  book_room = length-replicate {A = ℕ} 1024 0;
  sheet_room = length-replicate {A = ℕ} 1024 0;
  out_room = omega (arith, length-replicate {A = ℕ} 24576 0);
}

-- what is printed for a text
abbrev answer : List ℕ → List ℕ
answer t = printed t (length words) (length words) (length words) (length output)

-- a run: what the contract says, word for word
runs : (t : List ℕ) → Runs t words words words output (cond (is_too_long t) words (read_list t (length words)))
    (if_done (reading_code t (length words)) (run_book (length words) (learned_run t (length words) (length words) (length words))) words)
    (if_done (reading_code t (length words)) (run_sheet (length words) (learned_run t (length words) (length words) (length words))) words)
    (written output 0 (answer t)) (length (answer t))
runs t = record { long = refl; bytes = refl; list_words = refl; book_words = refl; sheet_words = refl }

-- two_rows is answered with its sheet
pub two_rows_printed : SheetPrinted two_rows output (written output 0 (answer two_rows)) (length (answer two_rows))
two_rows_printed = sheet_printed rooms (runs two_rows) 1 _ two_rows_recorded two_rows_learnable

-- and so is one_dash
pub one_dash_printed : SheetPrinted one_dash output (written output 0 (answer one_dash)) (length (answer one_dash))
one_dash_printed = sheet_printed rooms (runs one_dash) 1 _ one_dash_recorded one_dash_learnable

-- both with the same bytes
pub one_text_printed : (length (answer two_rows) ≡ length (answer one_dash))
    × (take (length (answer two_rows)) (written output 0 (answer two_rows)) ≡ take (length (answer one_dash)) (written output 0 (answer one_dash)))
one_text_printed =
    let n = one_size recording two_rows two_rows_printed.n 1 two_rows_printed.recorded.good texts.two_rows_good in
    one_text two_rows_printed one_dash_printed
    (n ∙ sym (one_size recording one_dash one_dash_printed.n 1 one_dash_printed.recorded.good texts.one_dash_good))
    (subst (λ (k : ℕ). SameNames k two_rows one_dash) (sym n) same_names)
    same_rows

-- ---- refusals

-- 7 at word 1: "0 to 1" after "0 to 0"
pub two_ways_contradicted : LearnRefused 1 (0 ∷ 1 ∷ []) 1024 1024 7 1
unfolding panel_size state next valid_transition differ against
two_ways_contradicted =
    at_word (0 ∷ []) 1 1 7 (record { rest = []; whole = refl; number = refl })
    (words_learnable 1 refl (0 ∷ 1 ∷ []) refl (omega arith) (0 ∷ []) (1 ∷ []) refl (λ t m. ap (λ (x : ℕ). against x (0 ∷ [])) (Memᴰ.eq_of_singleton m)) (λ ps rest e. one_relay_fits ps))
    (stopped refl refl)

-- 13: one byte too many
pub long_refused : Refused (replicate 24577 0) 13 0
long_refused = too_long (omega (arith, length-replicate {A = ℕ} 24577 0))

-- 11: the empty text
pub empty_refused : Refused [] 11 1
empty_refused = faulty 1 (omega arith) texts.empty_bad

-- 11: its first row, with no type line before it
pub typeless_refused : Refused typeless 11 3
typeless_refused = faulty 3 (omega arith) texts.typeless_bad

-- 8: one word more than the list has
pub many_refused : Refused too_many_rows 8 0
many_refused = too_many 10 (omega arith) texts.many_good texts.many_words

-- 7: K4 as a text
pub two_ways_refused : Refused two_ways 7 1
two_ways_refused = contradicted 1 1 (0 ∷ 1 ∷ []) (record { short = omega arith; good = texts.two_ways_good; words = sym texts.two_ways_words; listed = omega arith }) two_ways_contradicted

-- `refused 7 at 1` is printed for it
pub two_ways_printed : RefusalPrinted two_ways output (written output 0 (answer two_ways)) (length (answer two_ways))
two_ways_printed = record { code = 7; place = 1; refused = two_ways_refused; prints = refusal_printed rooms (runs two_ways) 7 1 two_ways_refused }
