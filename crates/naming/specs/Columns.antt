-- The names of all columns of a sheet: each is looked up, and they stand there only together.
use Rattle.std.specs.Prelude.{ℕ, zero, suc, List, [], ◌∷◌, ◌++◌, Bool, true, false, cond, leb, Option, Some, None}
use Rattle.names.specs.Spans.{bytes_of}
use Rattle.naming.specs.Naming.{source_of, name_of}
use Rattle.naming.specs.declared.NameLine.{NameLine}
use Rattle.naming.specs.declared.Source.{Source}

-- the names of the columns 0 to n - 1, looked up one by one
unfoldable pub column_names : List ℕ → List ℕ → ℕ → List (List ℕ)
column_names panel maker zero = []
column_names panel maker (suc v) = column_names panel maker v ++ name_of panel maker v ∷ []

-- no name is empty
unfoldable pub all_named : List (List ℕ) → Bool
all_named [] = true
all_named ([] ∷ ws) = false
all_named ((b ∷ w) ∷ ws) = all_named ws

-- the names that a sheet of n columns is written with: all of them if every column has one, else none
unfoldable pub names_for : List ℕ → List ℕ → ℕ → List (List ℕ)
names_for panel maker n = cond (all_named (column_names panel maker n)) (column_names panel maker n) []

-- ---- as the code finds them

-- the name line of a text, if it names every column below n
abbrev pub line_in : List ℕ → NameLine → ℕ → List ℕ
line_in t l n = cond (leb n l.columns) (bytes_of l.at t) []

-- by the name line that two texts give
abbrev pub line_for : Option Source → List ℕ → List ℕ → ℕ → List ℕ
line_for (Some s) panel maker n = line_in (cond s.maker maker panel) s.names n
line_for None panel maker n = []

-- the name line of two texts, if it names every column below n
unfoldable pub name_line : List ℕ → List ℕ → ℕ → List ℕ
name_line panel maker n = line_for (source_of panel maker) panel maker n
