-- The text of a sheet: a table of type `f`, with `.p`, whose rows show the body and the head of a rule.
use Rattle.std.specs.Prelude.{ℕ, List, [], ◌∷◌, true}
use Rattle.writing.specs.TableText.{table_text}
use Rattle.writing.specs.declared.Column.TheVariants.{Body, Head}
use Rattle.writing.specs.declared.Table.{Table}

-- `.p` stands there; a rule's body is its inputs, and its head its output
abbrev pub sheet_table : Table
sheet_table = record { counted = true; ins = Body; outs = Head }

-- the type word of a sheet
abbrev pub sheet_word : List ℕ
sheet_word = 102 ∷ []

-- `.i n`, `.o n`, `.ilb` and `.ob` with the names or neither, `.type f`, `.p count`, one row per rule in word order, `.e`
unfoldable pub sheet_text : ℕ → List (List ℕ) → List ℕ → List ℕ
sheet_text n names ws = table_text sheet_table sheet_word n names ws
