-- The words that the rows of a text stand for: transitions in a recording, rules in a sheet.
use Rattle.std.specs.Prelude.{ℕ, zero, suc, ◌^◌, List, [], ◌∷◌, ◌++◌, Bool, cond, ◌&&◌}
use Rattle.panel.specs.Masks.{all_on, all_off}
use Rattle.panel.specs.Transitions.{transition_word}
use Rattle.panel.specs.Rules.{rule_word}
use Rattle.fields.specs.Texts.{lines_of}
use Rattle.lines.specs.Lines.{line_of, view_of}
use Rattle.lines.specs.declared.Kind.{Kind}
use Rattle.lines.specs.declared.Kind.TheVariants.{Recording, Sheet}
use Rattle.lines.specs.declared.Masks.{Masks}
use Rattle.lines.specs.declared.View.{View}
use Rattle.lines.specs.declared.View.TheVariants.{Cells, EndMark, Aside}
use Rattle.lines.specs.declared.Line.{Line}
use Rattle.headers.specs.Headers.{only_on}

-- a state matches a row's input: every relay of `on` is on in it, and every relay of `off` is off
unfoldable pub matches_of : Masks → ℕ → Bool
matches_of m i = all_on m.on i && all_off m.off i

-- the words of the matching states below a number, in increasing order
unfoldable pub words_below : Masks → ℕ → List ℕ
words_below m zero = []
words_below m (suc i) = words_below m i ++ cond (matches_of m i) (transition_word i m.next ∷ []) []

-- the rule of a sheet's row: its head is the relay whose output is the one `1`, P the inputs `1`, N the inputs `0`
unfoldable pub rule_of : Masks → ℕ
rule_of m = rule_word (only_on m.next) m.on m.off

-- a recording's row stands for all matching states, in increasing number; a sheet's row for its rule
abbrev pub row_words : Kind → Masks → List ℕ
row_words Recording m = words_below m (2 ^ m.width)
row_words Sheet m = rule_of m ∷ []

-- the words of a line by its view: those of a row, or none
abbrev pub view_words : Kind → View → List ℕ
view_words kind (Cells m) = row_words kind m
view_words kind EndMark = []
view_words kind Aside = []

-- the words of a line
abbrev pub line_words : Kind → Line → List ℕ
line_words kind l = view_words kind (view_of l)

-- the words of lines, one after the other
unfoldable pub lines_words : Kind → List (List ℕ) → List ℕ
lines_words kind [] = []
lines_words kind (l ∷ ls) = line_words kind (line_of l) ++ lines_words kind ls

-- the words of a text of either kind
unfoldable pub words_in : Kind → List ℕ → List ℕ
words_in kind t = lines_words kind (lines_of t)

-- the transition words of a recording
abbrev pub text_words : List ℕ → List ℕ
text_words t = words_in Recording t

-- the rule words of a sheet, in the order of its rows
abbrev pub sheet_words : List ℕ → List ℕ
sheet_words t = words_in Sheet t
