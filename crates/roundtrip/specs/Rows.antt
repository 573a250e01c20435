-- The rows of a text, in their order: what reading a sheet makes its words of.
use Rattle.std.specs.Prelude.{ℕ, List, [], ◌∷◌, ◌++◌}
use Rattle.fields.specs.Texts.{lines_of}
use Rattle.lines.specs.Lines.{line_of, view_of}
use Rattle.lines.specs.declared.Masks.{Masks}
use Rattle.lines.specs.declared.View.{View}
use Rattle.lines.specs.declared.View.TheVariants.{Cells, EndMark, Aside}
use Rattle.sorting.specs.Orders.{Same}

-- the row that a line is, if it is one
abbrev pub view_rows : View → List Masks
view_rows (Cells m) = m ∷ []
view_rows EndMark = []
view_rows Aside = []

-- the rows among lines
unfoldable pub lines_rows : List (List ℕ) → List Masks
lines_rows [] = []
lines_rows (l ∷ ls) = view_rows (view_of (line_of l)) ++ lines_rows ls

-- the rows of a text
unfoldable pub text_rows : List ℕ → List Masks
text_rows t = lines_rows (lines_of t)

-- the rows of one text are those of the other, each as often, in any order
abbrev pub RowsMoved : List ℕ → List ℕ → Type 0
RowsMoved t u = Same (text_rows t) (text_rows u)
