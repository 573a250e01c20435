-- The verdict on a whole text: its lines in turn, numbered from 1, and then what can be judged only at the end.
use Rattle.std.specs.Prelude.{ℕ, ◌+◌, List, [], ◌∷◌, cond, eqb, Result, Ok, Err}
use Rattle.fields.specs.Texts.{lines_of}
use Rattle.headers.specs.Headers.{Point, allowed_at, next_at, fresh_point}
use Rattle.headers.specs.declared.Layout.{Layout}
use Rattle.headers.specs.declared.State.{State}

-- a text keeps the layout, for a panel of so many relays, or its fault has a place
abbrev pub Verdict : Type 0
Verdict = Result ℕ ℕ

-- at the end of the text, k being the number after the last line: the end mark is required, and `.p` is the number of rows
unfoldable pub finish_of : State → ℕ → Verdict
finish_of st k =
    cond st.ended (cond st.seen.count (cond (eqb st.want st.rows) (Ok st.size) (Err st.place)) (Ok st.size)) (Err k)

-- the lines ls, numbered from k, after lines that led to a point: the first that is not allowed is faulty
unfoldable pub judge_lines : Layout → List (List ℕ) → Point → ℕ → Verdict
judge_lines lay [] pt k = finish_of pt.state k
judge_lines lay (l ∷ ls) pt k = cond (allowed_at lay pt l) (judge_lines lay ls (next_at pt l k) (k + 1)) (Err k)

-- the verdict on a text of a layout
unfoldable pub judge_of : Layout → List ℕ → Verdict
judge_of lay text = judge_lines lay (lines_of text) fresh_point 1
