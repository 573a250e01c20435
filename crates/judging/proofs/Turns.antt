-- One turn of `judge`: the line that comes, the name line that is held, and the lines left after it.
use Prim.Native.Nat.{ℕ, ◌+◌, ◌^◌, ◌<◌}
use mathlib.Core.Path.{◌≡◌, refl}
use mathlib.Core.List.{List, [], ◌∷◌}
use mathlib.Core.Logic.{◌⊎◌, inl, inr}
use mathlib.Core.Bool.{Bool, true, false, ◌&&◌}
use native.Mathlib.Omega.{arith}
use lib.ListN.{length}
use Rattle.fields.specs.Bytes.{run}
use Rattle.fields.specs.Texts.{body, lines_of}
use Rattle.fields.specs.Fields.{fields_from, fields_in}
use Rattle.fields.proofs.TextLaws.{lines_few}
use Rattle.names.specs.Names.{names_in}
use Rattle.lines.specs.Lines.{line_of, keep_line}
use Rattle.headers.specs.declared.Layout.{Layout}
use Rattle.lines.specs.declared.Line.{Line}
use Rattle.headers.specs.Headers.{allowed_of, agrees_of, held_of, next_of, Point, allowed_by, fresh_state, fresh_point}
use Rattle.headers.specs.Verdicts.{Verdict, finish_of, judge_of}
use Rattle.headers.specs.declared.State.{State}
use Rattle.std.specs.Prelude.{Err}
use Rattle.judging.proofs.Kept.{judge_kept, judge_kept_lem}

-- the point of a state, where this name line is held
abbrev pub point_of : State → List ℕ → Point
point_of st held = record { state = st; held = names_in held }

pub turns_start : (lay : Layout) (text : List ℕ) (st : State) → st ≡ fresh_state → length text < 2 ^ 63 → judge_kept lay (lines_of text) (point_of st []) 1 ≡ judge_of lay text
unfolding judge_of names_in body fields_in fields_from run
turns_start lay text st e h = rw e (judge_kept_lem lay (lines_of text) fresh_point 1 (omega (arith, lines_few text)))

no : (b : Bool) → (b && false) ≡ false
no true = refl
no false = refl

module _ (lay : Layout) (ls : List (List ℕ)) (st : State) (held : List ℕ) (k : ℕ) (v : Verdict) (inv : judge_kept lay ls (point_of st held) k ≡ v)
    (line : List ℕ) (rest : List (List ℕ)) (comes : ls ≡ line ∷ rest) (l : Line) (says : l ≡ keep_line (line_of line)) where
  abbrev agree : Bool
  agree = agrees_of st.seen (names_in held) l (names_in line)

  pub turn_bad : (allowed_of lay st l ≡ false) ⊎ (agree ≡ false) → Err k ≡ v
  unfolding judge_kept allowed_by
  turn_bad p = rw (comes, ← says, bad p) at inv
    where
      bad : (allowed_of lay st l ≡ false) ⊎ (agree ≡ false) → (allowed_of lay st l && agree) ≡ false
      bad (inl a) = rw a refl
      bad (inr f) = rw f (no (allowed_of lay st l))

  pub turn_go : allowed_of lay st l ≡ true → agree ≡ true → (kept : List ℕ) → names_in kept ≡ held_of l (names_in line) (names_in held)
      → judge_kept lay rest (point_of (next_of st l k) kept) (k + 1) ≡ v
  unfolding judge_kept allowed_by
  turn_go p q kept e = rw e (rw (comes, ← says, p, q) at inv)

pub turns_end : (lay : Layout) (ls : List (List ℕ)) (st : State) (held : List ℕ) (k : ℕ) (v : Verdict) → judge_kept lay ls (point_of st held) k ≡ v → ls ≡ [] → finish_of st k ≡ v
unfolding judge_kept
turns_end lay ls st held k v inv e = rw e at inv
