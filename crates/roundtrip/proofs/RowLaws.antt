-- The rows of a text are what its words are made of, and rows of lines add up.
use Prim.Native.Nat.{ℕ}
use mathlib.Core.Path.{◌≡◌, refl, sym, ap}
use mathlib.Core.List.{List, [], ◌∷◌, ◌++◌, map, append_assoc}
use Rattle.fields.specs.Texts.{lines_of}
use Rattle.lines.specs.Lines.{line_of, view_of}
use Rattle.lines.specs.declared.Kind.TheVariants.{Sheet}
use Rattle.lines.specs.declared.Masks.{Masks}
use Rattle.lines.specs.declared.View.{View}
use Rattle.lines.specs.declared.View.TheVariants.{Cells, EndMark, Aside}
use Rattle.reading.specs.Rows.{rule_of, view_words, lines_words, words_in, sheet_words}
use Rattle.roundtrip.specs.Rows.{view_rows, lines_rows, text_rows}

view_words_lem : (v : View) (ws : List ℕ) (ms : List Masks) → ws ≡ map rule_of ms → view_words Sheet v ++ ws ≡ map rule_of (view_rows v ++ ms)
view_words_lem (Cells m) ws ms e = ap (λ (x : List ℕ). rule_of m ∷ x) e
view_words_lem EndMark ws ms e = e
view_words_lem Aside ws ms e = e

lines_words_lem : (ls : List (List ℕ)) → lines_words Sheet ls ≡ map rule_of (lines_rows ls)
unfolding lines_words lines_rows
lines_words_lem [] = refl
lines_words_lem (l ∷ ls) = view_words_lem (view_of (line_of l)) (lines_words Sheet ls) (lines_rows ls) (lines_words_lem ls)

-- the words of a sheet are the rules of its rows, in their order
pub words_of_rows : (t : List ℕ) → sheet_words t ≡ map rule_of (text_rows t)
unfolding words_in text_rows
words_of_rows t = lines_words_lem (lines_of t)

pub rows_append : (ls ms : List (List ℕ)) → lines_rows (ls ++ ms) ≡ lines_rows ls ++ lines_rows ms
unfolding lines_rows
rows_append [] ms = refl
rows_append (l ∷ ls) ms = rw (rows_append ls ms) (sym (append_assoc (view_rows (view_of (line_of l))) (lines_rows ls) (lines_rows ms)))
