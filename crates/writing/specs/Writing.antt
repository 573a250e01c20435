-- What writing a sheet answers, and what it leaves in the lent bytes.
use Rattle.std.specs.Prelude.{ℕ, ◌+◌, ◌*◌, ◌≡◌, List, [], ◌∷◌, ◌++◌, Bool, cond, not, ltb, length, take, drop, ◌≤◌, Result, Ok, Err}
use Rattle.std.specs.Iterator.Adapters.{take_source, take_count}
use Rattle.std.specs.declared.iter.Take.{Take}
use Rattle.answers.specs.Answers.{refuse, plain, if_done}
use Rattle.answers.specs.Refusals.{code_of}
use Rattle.answers.specs.declared.Refusal.{Refusal}
use Rattle.fields.specs.Decimals.{decimal}
use Rattle.fields.specs.Fields.{fields_left}
use Rattle.fields.specs.declared.Fields.{Fields}
use Rattle.names.specs.Names.{spaced}
use Rattle.naming.specs.Columns.{names_for}
use Rattle.panel.specs.Masks.{panel_size}
use Rattle.prime.specs.Sheets.{good_sheet}
use Rattle.writing.specs.SheetText.{sheet_text}
use Rattle.writing.specs.declared.Page.{Page}
use Rattle.writing.specs.declared.Table.{Table}
use Rattle.writing.specs.declared.WriteAnswer.{WriteAnswer}

-- the bytes d with s written at a place; those after it are unchanged
unfoldable pub written : List ℕ → ℕ → List ℕ → List ℕ
written d at s = take at d ++ (s ++ drop (at + length s) d)

-- s was written at a place of d, which gave d', and e is the place behind it
pub record Put (d : List ℕ) (at : ℕ) (s d' : List ℕ) (e : ℕ) : Type 0 where
  pub bytes : d' ≡ written d at s
  pub behind : e ≡ at + length s

-- the page p has room for s
abbrev pub Room : Page → List ℕ → Type 0
Room p s = p.at + length s ≤ length p.out.now

-- s was written on the page p, which had room for it, and q is the page then: the same lent bytes, with s behind what stood there
pub record Wrote (p : Page) (s : List ℕ) (q : Page) : Type 0 where
  pub same_reference : q.out.ghost_name ≡ p.out.ghost_name
  pub room : p.at + length s ≤ length p.out.now
  pub long : length q.out.now ≡ length p.out.now
  pub put : Put p.out.now p.at s q.out.now q.at

-- the names that an iterator over the first fields of a line has left
abbrev pub names_left : Take Fields → List (List ℕ)
names_left it = take (take_count it) (fields_left (take_source it))

-- how long a line `.p k` is, where there is one
unfoldable pub count_length : Bool → ℕ → ℕ
count_length counted k = cond counted (4 + length (decimal k)) 0

-- how long the two name lines are, where there are names
unfoldable pub names_length : List (List ℕ) → ℕ
names_length [] = 0
names_length (w ∷ ws) = 9 + 2 * length (spaced (w ∷ ws))

-- how long the text of a table of k rows is, before it is written
unfoldable pub text_length : Table → List ℕ → ℕ → List (List ℕ) → ℕ → ℕ
text_length t word n names k = 18 + length word + 2 * length (decimal n) + count_length t.counted k + names_length names + k * (2 * n + 2)

-- 2, 3, 5 and 12, in this order; else 0
unfoldable pub write_code : ℕ → List (List ℕ) → List ℕ → ℕ → ℕ → ℕ
write_code n names sheet count room =
    refuse (not (panel_size n)) 2
    (refuse (ltb (length sheet) count) 3
    (refuse (not (good_sheet n (take count sheet))) 5
    (refuse (ltb room (length (sheet_text n names (take count sheet)))) 12 0)))

-- a code and a length; the numbers that writing has no use for are 0
abbrev pub with_length : ℕ → ℕ → WriteAnswer
with_length code len = record { answer = plain code 0 0 0; length = len }

-- the length of what was written, or the code of a refusal
abbrev pub write_answer : Result ℕ Refusal → WriteAnswer
write_answer (Ok len) = with_length 0 len
write_answer (Err why) = with_length (code_of why) 0

-- a sheet is written with some names: done, the text stands at the start and its length is returned; refused, the length is 0 and no byte is changed
pub record WritesNamed (n : ℕ) (names : List (List ℕ)) (sheet : List ℕ) (count : ℕ) (before after : List ℕ) (r : WriteAnswer) : Type 0 where
  pub answer : r ≡ with_length (write_code n names sheet count (length before)) (if_done (write_code n names sheet count (length before)) (length (sheet_text n names (take count sheet))) 0)
  pub bytes : after ≡ if_done (write_code n names sheet count (length before)) (written before 0 (sheet_text n names (take count sheet))) before

-- what `write_sheet` ensures: the names are those that the panel's text and the maker's give all columns, or none
abbrev pub Writes : ℕ → List ℕ → ℕ → List ℕ → List ℕ → List ℕ → List ℕ → WriteAnswer → Type 0
Writes n sheet count panel maker before after r = WritesNamed n (names_for panel maker n) sheet count before after r
