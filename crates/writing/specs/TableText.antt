-- The text of a table of words: two sizes, two name lines or none, the type word, the number of rows or not, one row for each word, and the end mark.
use Rattle.std.specs.Prelude.{ℕ, zero, suc, List, [], ◌∷◌, ◌++◌, Bool, cond, eqb, length}
use Rattle.fields.specs.Decimals.{decimal}
use Rattle.names.specs.Names.{spaced}
use Rattle.panel.specs.Masks.{on}
use Rattle.panel.specs.Rules.{head, must_on, must_off}
use Rattle.writing.specs.declared.Column.{Column}
use Rattle.writing.specs.declared.Column.TheVariants.{Body, Head}
use Rattle.writing.specs.declared.Table.{Table}

-- ---- what a column says of a word

-- relay v in the body of a rule: `1` for P, `0` for N, else `-`
unfoldable pub body_byte : ℕ → ℕ → ℕ
body_byte w v = cond (on v (must_on w)) 49 (cond (on v (must_off w)) 48 45)

-- relay v and the head of a rule: `1` at the head, `0` elsewhere
unfoldable pub head_byte : ℕ → ℕ → ℕ
head_byte w v = cond (eqb v (head w)) 49 48

-- what stands in the column of relay v for the word w
abbrev pub column_byte : Column → ℕ → ℕ → ℕ
column_byte Body = body_byte
column_byte Head = head_byte

-- ---- rows, by what the input and the output columns say of a word

-- the columns of the relays 0 to n - 1, from the left
unfoldable pub columns : (ℕ → ℕ) → ℕ → List ℕ
columns f zero = []
columns f (suc v) = columns f v ++ f v ∷ []

-- the row of a word: inputs, a space, outputs, LF
unfoldable pub row_text : (ℕ → ℕ → ℕ) → (ℕ → ℕ → ℕ) → ℕ → ℕ → List ℕ
row_text ins outs n w = columns (ins w) n ++ 32 ∷ (columns (outs w) n ++ 10 ∷ [])

-- one row for each word, in their order
unfoldable pub rows_text : (ℕ → ℕ → ℕ) → (ℕ → ℕ → ℕ) → ℕ → List ℕ → List ℕ
rows_text ins outs n [] = []
rows_text ins outs n (w ∷ ws) = row_text ins outs n w ++ rows_text ins outs n ws

-- ---- headers

-- a keyword and a space, a number, LF
unfoldable pub header_text : List ℕ → ℕ → List ℕ
header_text key v = key ++ (decimal v ++ 10 ∷ [])

-- a keyword, each name after one space, LF
unfoldable pub name_text : List ℕ → List (List ℕ) → List ℕ
name_text key names = key ++ (spaced names ++ 10 ∷ [])

-- `.ilb`
abbrev pub ilb : List ℕ
ilb = 46 ∷ 105 ∷ 108 ∷ 98 ∷ []

-- `.ob`
abbrev pub ob : List ℕ
ob = 46 ∷ 111 ∷ 98 ∷ []

-- `.ilb` and `.ob`, each with the names; neither where there are none
unfoldable pub name_lines : List (List ℕ) → List ℕ
name_lines [] = []
name_lines (w ∷ ws) = name_text ilb (w ∷ ws) ++ name_text ob (w ∷ ws)

-- `.type` with its word, LF
unfoldable pub type_text : List ℕ → List ℕ
type_text word = (46 ∷ 116 ∷ 121 ∷ 112 ∷ 101 ∷ 32 ∷ []) ++ (word ++ 10 ∷ [])

-- `.p` with the number of rows, where the table has that line
unfoldable pub count_text : Bool → ℕ → List ℕ
count_text counted k = cond counted (header_text (46 ∷ 112 ∷ 32 ∷ []) k) []

-- ---- the whole

-- `.i n`, `.o n`, `.ilb` and `.ob` with the names or neither, `.type` with the word, `.p` or not, the rows, `.e`
unfoldable pub table_text : Table → List ℕ → ℕ → List (List ℕ) → List ℕ → List ℕ
table_text t word n names ws =
    header_text (46 ∷ 105 ∷ 32 ∷ []) n
    ++ (header_text (46 ∷ 111 ∷ 32 ∷ []) n
    ++ (name_lines names
    ++ (type_text word
    ++ (count_text t.counted (length ws)
    ++ (rows_text (column_byte t.ins) (column_byte t.outs) n ws
    ++ (46 ∷ 101 ∷ 10 ∷ []))))))
