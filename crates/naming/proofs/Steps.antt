-- Steps of `judge_either` and `source_for` that docs/PORT.md names: a bad recording is judged as a sheet, and the panel's line is that of its own text.
use mathlib.Core.Path.{◌≡◌, sym, ◌∙◌, ap}
use mathlib.Core.List.{List}
use mathlib.Core.Bool.{true, false, false≢true}
use Prim.Native.Nat.{ℕ}
use Rattle.std.specs.Prelude.{Some, Err}
use Rattle.std.proofs.lemmas.Option.{none-some}
use Rattle.headers.specs.Layouts.{recording, sheet}
use Rattle.headers.specs.Verdicts.{Verdict, judge_of}
use Rattle.headers.specs.declared.Layout.{Layout}
use Rattle.naming.specs.Naming.{judge_either, source_for}
use Rattle.naming.specs.declared.NameLine.{NameLine}
use Rattle.naming.specs.declared.Naming.{Naming}
use Rattle.naming.specs.declared.Naming.TheVariants.{Refused, Nameless, Named}
use Rattle.naming.specs.declared.Source.{Source}

-- as the code finds the verdict: as a recording, and else as a sheet
pub either_second : (t : List ℕ) (lay : Layout) (v : Verdict) → lay ≡ recording → v ≡ judge_of lay t → (k : ℕ) (other : Layout) (r : Verdict) → v ≡ Err k → other ≡ sheet → r ≡ judge_of other t → r ≡ judge_either t
unfolding judge_either
either_second t lay v hl hv k other r g ho hr =
    let verdict_is : judge_of recording t ≡ v = sym (hv ∙ ap (λ (l : Layout). judge_of l t) hl) in
    hr ∙ ap (λ (l : Layout). judge_of l t) ho ∙ rw (verdict_is, g)

-- the panel's line is used only where the panel's text has it
pub source_cases : (w v : Naming) (l : NameLine) → source_for w v ≡ Some (record { maker = false; names = l }) → w ≡ Named l
source_cases Refused v l h = absurd (none-some (record { maker = false; names = l }) h)
source_cases Nameless Refused l h = absurd (none-some (record { maker = false; names = l }) h)
source_cases Nameless Nameless l h = absurd (none-some (record { maker = false; names = l }) h)
source_cases Nameless (Named m) l h =
    let e : ◌≡◌ {A = Source} (record { maker = true; names = m }) (record { maker = false; names = l }) = cc in
    absurd (false≢true (sym (ap (λ (s : Source). s.maker) e)))
source_cases (Named m) v l h =
    let e : ◌≡◌ {A = Source} (record { maker = false; names = m }) (record { maker = false; names = l }) = cc in
    ap (λ (s : Source). Named s.names) e
