-- What reading a text answers, and what it leaves in the list.
use Rattle.std.specs.Prelude.{ℕ, ◌+◌, ◌≡◌, ◌≤◌, ◌<◌, List, ◌++◌, cond, leb, length, take, replicate, Option, Some, None, Result, Ok, Err}
use Rattle.table.specs.Surgery.{cleared_from, filled}
use Rattle.answers.specs.Refusals.{code_of}
use Rattle.answers.specs.declared.Refused.{Refused}
use Rattle.headers.specs.Layouts.{recording}
use Rattle.headers.specs.Verdicts.{judge_of}
use Rattle.headers.specs.declared.Layout.{Layout}
use Rattle.headers.specs.Verdicts.{Verdict}
use Rattle.reading.specs.Rows.{words_in}
use Rattle.reading.specs.declared.WordsRead.{WordsRead}
use Rattle.reading.specs.declared.ReadAnswer.{ReadAnswer}
use Rattle.reading.specs.declared.Words.{Words}

-- words stand in a list behind the first `from` of what it held before, and end at k
pub record Put (ws before : List ℕ) (from : ℕ) (after : List ℕ) (k : ℕ) : Type 0 where
  pub ends : k ≡ from + length ws
  pub fits : k ≤ length before
  pub words : take k after ≡ take from before ++ ws

-- words are put there: where they end, or `None` if they are more than the room
abbrev pub Puts : List ℕ → List ℕ → ℕ → List ℕ → Option ℕ → Type 0
Puts ws before from after (Some k) = Put ws before from after k
Puts ws before from after None = length before < from + length ws

-- where words end, or `None` if they found no room
abbrev pub end_if : Option (Unit {0}) → ℕ → Option ℕ
end_if (Some x) k = Some k
end_if None k = None

-- words are put behind those of p, and q is what stands there then, in the same lent list
pub record Adds (p : Words) (ws : List ℕ) (q : Words) (r : Option (Unit {0})) : Type 0 where
  pub same_reference : q.list.ghost_name ≡ p.list.ghost_name
  pub long : length q.list.now ≡ length p.list.now
  pub puts : Puts ws p.list.now p.count q.list.now (end_if r q.count)

-- a refusal has a code and a place; n and the count are 0
abbrev pub refusal : ℕ → ℕ → ReadAnswer
refusal code place = record { code = code; place = place; n = 0; count = 0 }

-- the answer to what was read: the size and how many words, or why it is refused and where
abbrev pub answer_of : Result WordsRead Refused → ReadAnswer
answer_of (Ok p) = record { code = 0; place = 0; n = p.n; count = p.count }
answer_of (Err w) = refusal (code_of w.why) w.place

-- the list after it: 0 in every word beyond the words; all 0 where refused
abbrev pub list_of : Result WordsRead Refused → List ℕ → List ℕ
list_of (Ok p) list = cleared_from p.count list
list_of (Err w) list = replicate (length list) 0

-- 11 with its place; else 8 if the words are more than the room; else done
abbrev pub answer_for : Verdict → List ℕ → ℕ → ReadAnswer
answer_for (Err place) ws room = refusal 11 place
answer_for (Ok n) ws room = cond (leb (length ws) room) (record { code = 0; place = 0; n = n; count = length ws }) (refusal 8 0)

-- the words, and 0 in every word beyond them; all 0 where refused
abbrev pub list_for : Verdict → List ℕ → ℕ → List ℕ
list_for (Err place) ws room = replicate room 0
list_for (Ok n) ws room = cond (leb (length ws) room) (filled room ws) (replicate room 0)

-- the answer to a text of a layout, with room for so many words
unfoldable pub laid_answer : Layout → List ℕ → ℕ → ReadAnswer
laid_answer lay t room = answer_for (judge_of lay t) (words_in lay.kind t) room

-- the list after it
unfoldable pub laid_list : Layout → List ℕ → ℕ → List ℕ
laid_list lay t room = list_for (judge_of lay t) (words_in lay.kind t) room

-- a text of a layout is read: the list before and after, and the answer
pub record ReadsLaid (lay : Layout) (t before after : List ℕ) (r : ReadAnswer) : Type 0 where
  pub answer : r ≡ laid_answer lay t (length before)
  pub list : after ≡ laid_list lay t (length before)

-- the answer to a recording
abbrev pub read_answer : List ℕ → ℕ → ReadAnswer
read_answer t room = laid_answer recording t room

-- the list after it
abbrev pub read_list : List ℕ → ℕ → List ℕ
read_list t room = laid_list recording t room

-- what `read` ensures: the text, the list before and after, and the answer
abbrev pub Reads : List ℕ → List ℕ → List ℕ → ReadAnswer → Type 0
Reads t before after r = ReadsLaid recording t before after r
