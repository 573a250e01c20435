-- Which name line two texts give, where it stands, and the part of it that is a column's name.
use Prim.Native.Nat.{ℕ, ◌+◌, ◌-◌, ◌≤◌, ◌<◌}
use mathlib.Core.Path.{◌≡◌, refl, ◌∙◌, ap}
use mathlib.Core.List.{List, []}
use mathlib.Core.Bool.{Bool, true, false, false≢true, cond}
use native.Mathlib.Omega.{arith}
use native.Mathlib.Nat.{add-sub_cancel_left}
use lib.Dec.{ltb}
use lib.ListN.{length, take, drop, length-take, length-drop}
use borrow.Author.Tests.{lt-ltb, le-ltb}
use denote.Ref.{Bor}
use Rattle.std.specs.Prelude.{Option, Some, None, Ok, Err}
use Rattle.std.proofs.lemmas.Option.{none-some}
use Rattle.fields.specs.declared.Span.{Span}
use Rattle.names.specs.Spans.{bytes_of, name_span}
use Rattle.names.proofs.SpanLaws.{name_in}
use Rattle.lines.specs.declared.Kind.{Kind}
use Rattle.lines.specs.declared.Kind.TheVariants.{Recording, Sheet}
use Rattle.headers.specs.Layouts.{recording, sheet, layout_of}
use Rattle.headers.specs.Verdicts.{judge_of}
use Rattle.headers.specs.Verdicts.{Verdict}
use Rattle.naming.specs.Naming.{home_of, either_of, judge_either, naming_for, naming_of, makers_source, source_for, source_of, no_name, spot_at, spot_in, spot_of, Within, PartOf}
use Rattle.naming.specs.Columns.{line_in, name_line}
use Rattle.naming.specs.declared.NameLine.{NameLine}
use Rattle.naming.specs.declared.Naming.{Naming}
use Rattle.naming.specs.declared.Naming.TheVariants.{Refused, Nameless, Named}
use Rattle.naming.specs.declared.Source.{Source}
use Rattle.naming.specs.declared.Spot.{Spot}
use Rattle.naming.proofs.HomeLaws.{home_stands}

-- ---- one text

-- a good text of either kind is good for one of them
either_kind : (t : List ℕ) (n : ℕ) → judge_either t ≡ Ok n → (kind : Kind) × (judge_of (layout_of kind) t ≡ Ok n)
unfolding judge_either
either_kind t n h = go (judge_of recording t) refl h
  where
    go : (v : Verdict) → judge_of recording t ≡ v → either_of v (judge_of sheet t) ≡ Ok n → (kind : Kind) × (judge_of (layout_of kind) t ≡ Ok n)
    go (Ok m) e q = (Recording, e ∙ q)
    go (Err k) e q = (Sheet, q)

-- a text with a name line is a good one, and the line is its `.ilb` line
pub naming_e : (t : List ℕ) (l : NameLine) → naming_of t ≡ Named l → ((kind : Kind) × (judge_of (layout_of kind) t ≡ Ok l.columns)) × (home_of t ≡ Some l.at)
unfolding naming_of
naming_e t l h = let k = go (judge_either t) refl (home_of t) refl h in (either_kind t l.columns k.0, k.1)
  where
    go : (v : Verdict) → judge_either t ≡ v → (m : Option Span) → home_of t ≡ m → naming_for v m ≡ Named l → (judge_either t ≡ Ok l.columns) × (home_of t ≡ Some l.at)
    go (Err k) p m q h = absurd (let z : ◌≡◌ {A = ℕ} 0 1 = cc in omega arith)
    go (Ok k) p None q h = absurd (let z : ◌≡◌ {A = ℕ} 0 1 = cc in omega arith)
    go (Ok k) p (Some b) q h =
        let e : record { columns = k; at = b } ≡ l = cc in
        (p ∙ ap (λ (x : NameLine). Ok x.columns) e, q ∙ ap (λ (x : NameLine). Some x.at) e)

-- the name line lies in its text
pub named_in : (t : List ℕ) (l : NameLine) → naming_of t ≡ Named l → (l.at.from ≤ l.at.to) × (l.at.to ≤ length t)
named_in t l h = let s = home_stands t l.at (naming_e t l h).1 in (s.ordered, s.inside)

-- ---- two texts

source_cases_of : (panel maker : List ℕ) (s : Source) (w v : Naming) → naming_of panel ≡ w → naming_of maker ≡ v → source_for w v ≡ Some s → naming_of (cond s.maker maker panel) ≡ Named s.names
source_cases_of panel maker s Refused v p q h = absurd (none-some s h)
source_cases_of panel maker s Nameless Refused p q h = absurd (none-some s h)
source_cases_of panel maker s Nameless Nameless p q h = absurd (none-some s h)
source_cases_of panel maker s Nameless (Named l) p q h = let e : record { maker = true; names = l } ≡ s = cc in rw (← e) q
source_cases_of panel maker s (Named l) v p q h = let e : record { maker = false; names = l } ≡ s = cc in rw (← e) p

-- the line that is used is that of its text
pub source_is : (panel maker : List ℕ) (s : Source) → source_of panel maker ≡ Some s → naming_of (cond s.maker maker panel) ≡ Named s.names
unfolding source_of
source_is panel maker s h = source_cases_of panel maker s (naming_of panel) (naming_of maker) refl refl h

maker_cases : (panel maker : List ℕ) (s : Source) (w v : Naming) → naming_of panel ≡ w → naming_of maker ≡ v → source_for w v ≡ Some s → s.maker ≡ true → (naming_of panel ≡ Nameless) × (naming_of maker ≡ Named s.names)
maker_cases panel maker s Refused v p q h m = absurd (none-some s h)
maker_cases panel maker s Nameless Refused p q h m = absurd (none-some s h)
maker_cases panel maker s Nameless Nameless p q h m = absurd (none-some s h)
maker_cases panel maker s Nameless (Named l) p q h m = let e : record { maker = true; names = l } ≡ s = cc in (p, rw (← e) q)
maker_cases panel maker s (Named l) v p q h m = let e : record { maker = false; names = l } ≡ s = cc in absurd (false≢true (ap (λ (x : Source). x.maker) e ∙ m))

-- the maker's line is used only where the panel's text is good and has none
pub source_maker : (panel maker : List ℕ) (s : Source) → source_of panel maker ≡ Some s → s.maker ≡ true → (naming_of panel ≡ Nameless) × (naming_of maker ≡ Named s.names)
unfolding source_of
source_maker panel maker s h = maker_cases panel maker s (naming_of panel) (naming_of maker) refl refl h

-- by what the panel's text says
pub source_nameless : (panel maker : List ℕ) → naming_of panel ≡ Nameless → makers_source (naming_of maker) ≡ source_of panel maker
unfolding source_of
source_nameless panel maker h = rw h

pub source_named : (panel maker : List ℕ) (l : NameLine) → naming_of panel ≡ Named l → Some (record { maker = false; names = l }) ≡ source_of panel maker
unfolding source_of
source_named panel maker l h = rw h

-- the line lies in its text
pub source_in : (panel maker : List ℕ) (s : Source) → source_of panel maker ≡ Some s → (s.names.at.from ≤ s.names.at.to) × (s.names.at.to ≤ length (cond s.maker maker panel))
source_in panel maker s h = named_in (cond s.maker maker panel) s.names (source_is panel maker s h)

-- ---- a column

pub spot_beyond : (b : Bool) (t : List ℕ) (l : NameLine) (column : ℕ) → l.columns ≤ column → no_name ≡ spot_in b t l column
spot_beyond b t l column h = rw (le-ltb column l.columns h)

pub spot_below : (b : Bool) (t : List ℕ) (l : NameLine) (column : ℕ) (p : Span) → column < l.columns → p ≡ name_span (bytes_of l.at t) column → spot_at b l.at.from p ≡ spot_in b t l column
spot_below b t l column p h q = rw (lt-ltb column l.columns h, q)

-- the part of the line that is a name lies in the line
pub part_in : (t : List ℕ) (l p : Span) → l.from ≤ l.to → l.to ≤ length t → p.from ≤ p.to → p.to ≤ length (bytes_of l t) → l.from + p.from + (p.to - p.from) ≤ length t
part_in t l p h k o i = omega (arith, length-take (l.to - l.from) (drop l.from t), length-drop l.from t)

pub spot_some : (panel maker : List ℕ) (s : Source) (column : ℕ) → source_of panel maker ≡ Some s → spot_in s.maker (cond s.maker maker panel) s.names column ≡ spot_of panel maker column
unfolding spot_of
spot_some panel maker s column h = rw h

pub spot_none : (panel maker : List ℕ) (column : ℕ) → source_of panel maker ≡ None → no_name ≡ spot_of panel maker column
unfolding spot_of
spot_none panel maker column h = rw h

-- a name lies in its text
pub spot_within : (panel maker : List ℕ) (column : ℕ) → Within panel maker (spot_of panel maker column)
spot_within panel maker column = go (source_of panel maker) refl
  where
    part : (s : Source) → source_of panel maker ≡ Some s → (c : Bool) → Within panel maker (cond c (spot_at s.maker s.names.at.from (name_span (bytes_of s.names.at (cond s.maker maker panel)) column)) no_name)
    part s h true =
        let l = s.names.at in
        let t = cond s.maker maker panel in
        let o = source_in panel maker s h in
        let i = name_in (bytes_of l t) column in
        record { ends = part_in t l (name_span (bytes_of l t) column) o.0 o.1 i.0 i.1 }
    part s h false = record { ends = omega arith }

    go : (o : Option Source) → source_of panel maker ≡ o → Within panel maker (spot_of panel maker column)
    go (Some s) h = rw (← spot_some panel maker s column h) (part s h (ltb column s.names.columns))
    go None h = rw (← spot_none panel maker column h) (record { ends = omega arith })

-- what `find` hands back of the name line that two texts give
pub found : (panel maker : List ℕ) (column : ℕ) (s : Source) → source_of panel maker ≡ Some s → (p : Span) → column < s.names.columns → p ≡ name_span (bytes_of s.names.at (cond s.maker maker panel)) column
    → (spot_at s.maker s.names.at.from p ≡ spot_of panel maker column) × Within panel maker (spot_at s.maker s.names.at.from p)
found panel maker column s h p k q =
    let e : spot_at s.maker s.names.at.from p ≡ spot_of panel maker column = spot_below s.maker (cond s.maker maker panel) s.names column p k q ∙ spot_some panel maker s column h in
    (e, rw e (spot_within panel maker column))

-- ---- the part that is handed back

-- bytes that begin so far into a text are the part that a spot of that text tells
module _ (panel maker : Bor (List ℕ)) (s q : Spot) (e : q ≡ s) (bytes : List ℕ) (block place : ℕ) where
  pub part_of_panel : q.maker ≡ false → bytes ≡ take (q.start + q.length - q.start) (drop q.start panel.now) → block ≡ panel.ref_ptr.0 → place ≡ panel.ref_ptr.1 + q.start
      → PartOf panel maker s bytes block place
  part_of_panel m b o p = rw (← e) (record { the_bytes = rw m (b ∙ rw (add-sub_cancel_left q.start q.length)); the_block = rw m o; the_place = rw m p })

  pub part_of_maker : q.maker ≡ true → bytes ≡ take (q.start + q.length - q.start) (drop q.start maker.now) → block ≡ maker.ref_ptr.0 → place ≡ maker.ref_ptr.1 + q.start
      → PartOf panel maker s bytes block place
  part_of_maker m b o p = rw (← e) (record { the_bytes = rw m (b ∙ rw (add-sub_cancel_left q.start q.length)); the_block = rw m o; the_place = rw m p })

-- ---- the name line

pub line_some : (panel maker : List ℕ) (s : Source) (n : ℕ) → source_of panel maker ≡ Some s → line_in (cond s.maker maker panel) s.names n ≡ name_line panel maker n
unfolding name_line
line_some panel maker s n h = rw h

pub line_none : (panel maker : List ℕ) (n : ℕ) → source_of panel maker ≡ None → [] ≡ name_line panel maker n
unfolding name_line
line_none panel maker n h = rw h
