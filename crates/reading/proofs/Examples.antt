-- Short recordings, read by the definitions: the worked example of 01, and one for each thing that is easy to get wrong.
use Prim.Native.Nat.{ℕ}
use mathlib.Core.Path.{◌≡◌, refl}
use mathlib.Core.List.{List, [], ◌∷◌}
use lib.ListN.{length}
use Rattle.table.specs.Surgery.{filled}
use Rattle.panel.specs.Masks.{on, relays, all_on, all_off}
use Rattle.panel.specs.Transitions.{transition_word}
use Rattle.fields.specs.Bytes.{mark_of, run, same}
use Rattle.fields.specs.Texts.{lines_of, body}
use Rattle.fields.specs.Values.{cube_of, digits, number_of}
use Rattle.fields.specs.Fields.{fields_from, fields_in}
use Rattle.lines.specs.Lines.{other_key, key_of, typed_of, row_line, class_of, of_fields, line_of}
use Rattle.headers.specs.Headers.{lacks, lacks_none, ready_of, row_fits, open_of, fits_of, header_allowed, end_allowed, row_allowed, named, allowed_by, allowed_at, next_at}
use Rattle.headers.specs.Verdicts.{finish_of, judge_lines, judge_of}
use Rattle.reading.specs.Rows.{matches_of, words_below, lines_words, words_in}
use Rattle.reading.specs.Reading.{refusal, laid_answer, laid_list, read_answer, read_list}
use Rattle.reading.specs.declared.ReadAnswer.{ReadAnswer}

-- a text, the room, the answer, and the words in use
record Example : Type 0 where
  pub text : List ℕ
  pub room : ℕ
  pub answer : ReadAnswer
  pub words : List ℕ

-- reading gives the answer, and leaves the words and then zeros
abbrev Holds : List Example → Type 0
Holds [] = Unit {0}
Holds (e ∷ es) = ((read_answer e.text e.room ≡ e.answer) × (read_list e.text e.room ≡ filled e.room e.words)) × Holds es

abbrev done : ℕ → List ℕ → ReadAnswer
done n ws = record { code = 0; place = 0; n = n; count = length ws }

-- the recording of the panel of document 000:
--   .i 3⏎.o 3⏎.type fr⏎111 110⏎110 100⏎100 000⏎000 001⏎001 001⏎011 101⏎101 010⏎010 101⏎.e⏎
abbrev panel : Example
panel = record { text = 46 ∷ 105 ∷ 32 ∷ 51 ∷ 10 ∷ 46 ∷ 111 ∷ 32 ∷ 51 ∷ 10 ∷ 46 ∷ 116 ∷ 121 ∷ 112 ∷ 101 ∷ 32 ∷ 102 ∷ 114 ∷ 10 ∷ 49 ∷ 49 ∷ 49 ∷ 32 ∷ 49 ∷ 49 ∷ 48 ∷ 10 ∷ 49 ∷ 49 ∷ 48 ∷ 32 ∷ 49 ∷ 48 ∷ 48 ∷ 10 ∷ 49 ∷ 48 ∷ 48 ∷ 32 ∷ 48 ∷ 48 ∷ 48 ∷ 10 ∷ 48 ∷ 48 ∷ 48 ∷ 32 ∷ 48 ∷ 48 ∷ 49 ∷ 10 ∷ 48 ∷ 48 ∷ 49 ∷ 32 ∷ 48 ∷ 48 ∷ 49 ∷ 10 ∷ 48 ∷ 49 ∷ 49 ∷ 32 ∷ 49 ∷ 48 ∷ 49 ∷ 10 ∷ 49 ∷ 48 ∷ 49 ∷ 32 ∷ 48 ∷ 49 ∷ 48 ∷ 10 ∷ 48 ∷ 49 ∷ 48 ∷ 32 ∷ 49 ∷ 48 ∷ 49 ∷ 10 ∷ 46 ∷ 101 ∷ 10 ∷ []; room = 8; answer = done 3 (7171 ∷ 3073 ∷ 1024 ∷ 4 ∷ 4100 ∷ 6149 ∷ 5122 ∷ 2053 ∷ []); words = 7171 ∷ 3073 ∷ 1024 ∷ 4 ∷ 4100 ∷ 6149 ∷ 5122 ∷ 2053 ∷ [] }

-- a row with dashes stands for all matching states in increasing number, the leftmost column being relay 0:
--   .o 2 # lamps⏎⇥.i 2⏎.type fr⏎.p 1⏎-1 10⏎.end
abbrev dashes : Example
dashes = record { text = 46 ∷ 111 ∷ 32 ∷ 50 ∷ 32 ∷ 35 ∷ 32 ∷ 108 ∷ 97 ∷ 109 ∷ 112 ∷ 115 ∷ 10 ∷ 9 ∷ 46 ∷ 105 ∷ 32 ∷ 50 ∷ 10 ∷ 46 ∷ 116 ∷ 121 ∷ 112 ∷ 101 ∷ 32 ∷ 102 ∷ 114 ∷ 10 ∷ 46 ∷ 112 ∷ 32 ∷ 49 ∷ 10 ∷ 45 ∷ 49 ∷ 32 ∷ 49 ∷ 48 ∷ 10 ∷ 46 ∷ 101 ∷ 110 ∷ 100 ∷ []; room = 3; answer = done 2 (2049 ∷ 3073 ∷ []); words = 2049 ∷ 3073 ∷ [] }

-- a text without rows is accepted:
--   .i 1⏎.o 1⏎.type fr⏎.p 0⏎.e⏎
abbrev no_rows : Example
no_rows = record { text = 46 ∷ 105 ∷ 32 ∷ 49 ∷ 10 ∷ 46 ∷ 111 ∷ 32 ∷ 49 ∷ 10 ∷ 46 ∷ 116 ∷ 121 ∷ 112 ∷ 101 ∷ 32 ∷ 102 ∷ 114 ∷ 10 ∷ 46 ∷ 112 ∷ 32 ∷ 48 ∷ 10 ∷ 46 ∷ 101 ∷ 10 ∷ []; room = 1; answer = done 1 ([]); words = [] }

-- one word more than the room:
--   .i 1⏎.o 1⏎.type fr⏎- 1⏎.e⏎
abbrev full : Example
full = record { text = 46 ∷ 105 ∷ 32 ∷ 49 ∷ 10 ∷ 46 ∷ 111 ∷ 32 ∷ 49 ∷ 10 ∷ 46 ∷ 116 ∷ 121 ∷ 112 ∷ 101 ∷ 32 ∷ 102 ∷ 114 ∷ 10 ∷ 45 ∷ 32 ∷ 49 ∷ 10 ∷ 46 ∷ 101 ∷ 10 ∷ []; room = 1; answer = refusal 8 0; words = [] }

-- an empty text has no lines:
--
abbrev empty : Example
empty = record { text = []; room = 1; answer = refusal 11 1; words = [] }

-- the end mark is missing:
--   .i 1⏎.o 1⏎.type fr⏎.p 3⏎
abbrev endless : Example
endless = record { text = 46 ∷ 105 ∷ 32 ∷ 49 ∷ 10 ∷ 46 ∷ 111 ∷ 32 ∷ 49 ∷ 10 ∷ 46 ∷ 116 ∷ 121 ∷ 112 ∷ 101 ∷ 32 ∷ 102 ∷ 114 ∷ 10 ∷ 46 ∷ 112 ∷ 32 ∷ 51 ∷ 10 ∷ []; room = 0; answer = refusal 11 5; words = [] }

-- the end mark without the sizes is faulty itself:
--   .e⏎
abbrev early_end : Example
early_end = record { text = 46 ∷ 101 ∷ 10 ∷ []; room = 0; answer = refusal 11 1; words = [] }

-- of unequal sizes the later:
--   .i 1⏎.o 2⏎.type fr⏎.p 5⏎.e⏎
abbrev unequal : Example
unequal = record { text = 46 ∷ 105 ∷ 32 ∷ 49 ∷ 10 ∷ 46 ∷ 111 ∷ 32 ∷ 50 ∷ 10 ∷ 46 ∷ 116 ∷ 121 ∷ 112 ∷ 101 ∷ 32 ∷ 102 ∷ 114 ∷ 10 ∷ 46 ∷ 112 ∷ 32 ∷ 53 ∷ 10 ∷ 46 ∷ 101 ∷ 10 ∷ []; room = 0; answer = refusal 11 2; words = [] }

-- the wrong number after `.p`, of any length, is refused at its own line, and only where nothing else is wrong:
--   .i 1⏎.p 18446744073709551617⏎.o 1⏎.type fr⏎1 0⏎.e⏎
abbrev miscounted : Example
miscounted = record { text = 46 ∷ 105 ∷ 32 ∷ 49 ∷ 10 ∷ 46 ∷ 112 ∷ 32 ∷ 49 ∷ 56 ∷ 52 ∷ 52 ∷ 54 ∷ 55 ∷ 52 ∷ 52 ∷ 48 ∷ 55 ∷ 51 ∷ 55 ∷ 48 ∷ 57 ∷ 53 ∷ 53 ∷ 49 ∷ 54 ∷ 49 ∷ 55 ∷ 10 ∷ 46 ∷ 111 ∷ 32 ∷ 49 ∷ 10 ∷ 46 ∷ 116 ∷ 121 ∷ 112 ∷ 101 ∷ 32 ∷ 102 ∷ 114 ∷ 10 ∷ 49 ∷ 32 ∷ 48 ∷ 10 ∷ 46 ∷ 101 ∷ 10 ∷ []; room = 1; answer = refusal 11 2; words = [] }

-- a number has no leading zeros:
--   .i 01⏎
abbrev leading_zero : Example
leading_zero = record { text = 46 ∷ 105 ∷ 32 ∷ 48 ∷ 49 ∷ 10 ∷ []; room = 1; answer = refusal 11 1; words = [] }

-- with no type line before it the first row is faulty:
--   .i 1⏎.o 1⏎1 0⏎.type fr⏎.e⏎
abbrev untyped_row : Example
untyped_row = record { text = 46 ∷ 105 ∷ 32 ∷ 49 ∷ 10 ∷ 46 ∷ 111 ∷ 32 ∷ 49 ∷ 10 ∷ 49 ∷ 32 ∷ 48 ∷ 10 ∷ 46 ∷ 116 ∷ 121 ∷ 112 ∷ 101 ∷ 32 ∷ 102 ∷ 114 ∷ 10 ∷ 46 ∷ 101 ∷ 10 ∷ []; room = 1; answer = refusal 11 3; words = [] }

-- or the end mark, where no row stands:
--   .i 1⏎.o 1⏎.p 0⏎.e⏎
abbrev untyped_end : Example
untyped_end = record { text = 46 ∷ 105 ∷ 32 ∷ 49 ∷ 10 ∷ 46 ∷ 111 ∷ 32 ∷ 49 ∷ 10 ∷ 46 ∷ 112 ∷ 32 ∷ 48 ∷ 10 ∷ 46 ∷ 101 ∷ 10 ∷ []; room = 1; answer = refusal 11 4; words = [] }

pub examples_hold : Holds (panel ∷ dashes ∷ no_rows ∷ full ∷ empty ∷ endless ∷ early_end ∷ unequal ∷ miscounted ∷ leading_zero ∷ untyped_row ∷ untyped_end ∷ [])
unfolding filled on relays all_on all_off transition_word mark_of run same lines_of body cube_of digits number_of fields_from fields_in other_key key_of typed_of row_line class_of of_fields line_of lacks lacks_none ready_of row_fits open_of fits_of header_allowed end_allowed row_allowed named allowed_by allowed_at next_at finish_of judge_lines judge_of matches_of words_below lines_words words_in laid_answer laid_list
examples_hold = ((refl, refl), ((refl, refl), ((refl, refl), ((refl, refl), ((refl, refl), ((refl, refl), ((refl, refl), ((refl, refl), ((refl, refl), ((refl, refl), ((refl, refl), ((refl, refl), tt))))))))))))
