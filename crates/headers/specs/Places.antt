-- The place of a fault as 01 defines it: by what can still follow, apart from how `judge_lines` finds it.
use Rattle.std.specs.Prelude.{ℕ, ◌+◌, ◌≡◌, List, [], ◌∷◌, ◌++◌, ◌⊎◌, Bool, true, false, ◌||◌, length}
use Rattle.fields.specs.Texts.{lines_of}
use Rattle.lines.specs.Lines.{line_of, view_of}
use Rattle.lines.specs.declared.View.{View}
use Rattle.lines.specs.declared.View.TheVariants.{Cells, EndMark, Aside}
use Rattle.lines.specs.declared.Line.TheVariants.{Rows}
use Rattle.headers.specs.Accepted.{times, rows_in, Accepted}
use Rattle.headers.specs.declared.Layout.{Layout}
use Rattle.headers.specs.declared.Header.TheVariants.{TypeWord}

-- a line `.p k`
abbrev pub Counts : List ℕ → Type 0
Counts l = (k : ℕ) × (line_of l ≡ Rows k)

-- the same lines, the number after `.p` left aside
abbrev pub Alike : List (List ℕ) → List (List ℕ) → Type 0
Alike [] [] = Unit {0}
Alike [] (m ∷ ms) = ⊥
Alike (l ∷ ls) [] = ⊥
Alike (l ∷ ls) (m ∷ ms) = ((l ≡ m) ⊎ (Counts l × Counts m)) × Alike ls ms

-- lines begin an accepted text, the number after `.p` left aside
pub record Begins (lay : Layout) (ls : List (List ℕ)) : Type 0 where
  pub text : List ℕ
  pub first : List (List ℕ)
  pub others : List (List ℕ)
  pub lines : lines_of text ≡ first ++ others
  pub alike : Alike ls first
  pub size : ℕ
  pub accepted : Accepted lay size text

-- a line is the end mark
abbrev pub is_end : View → Bool
is_end (Cells m) = false
is_end EndMark = true
is_end Aside = false

-- a line is neither a row nor the end mark
abbrev pub is_aside : View → Bool
is_aside (Cells m) = false
is_aside EndMark = false
is_aside Aside = true

-- the end mark stands among lines
unfoldable pub end_in : List (List ℕ) → Bool
end_in [] = false
end_in (l ∷ ls) = is_end (view_of (line_of l)) || end_in ls

-- line number k is faulty: the lines before it begin an accepted text, and with it they begin none
pub record FaultyLine (lay : Layout) (t : List ℕ) (k : ℕ) : Type 0 where
  pub before : List (List ℕ)
  pub line : List ℕ
  pub after : List (List ℕ)
  pub lines : lines_of t ≡ before ++ line ∷ after
  pub number : k ≡ length before + 1
  pub begins : Begins lay before
  pub begins_no_more : Begins lay (before ++ line ∷ []) → ⊥

-- line number k is a row or the end mark, the lines before it begin an accepted text, and no type line is among them (02, Ask 2)
pub record Untyped (lay : Layout) (t : List ℕ) (k : ℕ) : Type 0 where
  pub before : List (List ℕ)
  pub line : List ℕ
  pub after : List (List ℕ)
  pub lines : lines_of t ≡ before ++ line ∷ after
  pub number : k ≡ length before + 1
  pub begins : Begins lay before
  pub none : times TypeWord before ≡ 0
  pub ends : is_aside (view_of (line_of line)) ≡ false

-- every line passes but the end mark is missing: k is the number after the last line
pub record EndMissing (lay : Layout) (t : List ℕ) (k : ℕ) : Type 0 where
  pub begins : Begins lay (lines_of t)
  pub endless : end_in (lines_of t) ≡ false
  pub number : k ≡ length (lines_of t) + 1

-- the text has no other fault, and the number after `.p`, of any length, is not the number of rows: k is its line
pub record WrongCount (lay : Layout) (t : List ℕ) (k : ℕ) : Type 0 where
  pub before : List (List ℕ)
  pub line : List ℕ
  pub after : List (List ℕ)
  pub count : ℕ
  pub lines : lines_of t ≡ before ++ line ∷ after
  pub number : k ≡ length before + 1
  pub counts : line_of line ≡ Rows count
  pub begins : Begins lay (lines_of t)
  pub ended : end_in (lines_of t) ≡ true
  pub wrong : count ≡ rows_in (lines_of t) → ⊥

-- k is the place of a fault
abbrev pub Place : Layout → List ℕ → ℕ → Type 0
Place lay t k = FaultyLine lay t k ⊎ (EndMissing lay t k ⊎ WrongCount lay t k)
