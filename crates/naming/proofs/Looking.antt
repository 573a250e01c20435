-- What a lookup hands back: the field of the name line that the column asks for, of the panel's text or else of the maker's; a good name; and one thing only.
use Prim.Native.Nat.{ℕ, ◌+◌, ◌-◌, ◌≤◌, ◌<◌}
use mathlib.Core.Path.{◌≡◌, refl, sym, ◌∙◌}
use mathlib.Core.List.{List, []}
use mathlib.Core.Bool.{true, cond}
use native.Mathlib.Omega.{arith}
use lib.ListN.{length, get_or, take, drop, length-take}
use lib.Seq.{take-take, drop-drop}
use borrow.Author.Tests.{lt-ltb}
use denote.Ref.{Bor}
use Rattle.fields.specs.declared.Span.{Span}
use Rattle.names.specs.Names.{good_names, names_in, Name}
use Rattle.names.specs.Spans.{bytes_of, name_span}
use Rattle.std.specs.Prelude.{Some}
use Rattle.names.proofs.NameLaws.{drop_take_is}
use Rattle.names.proofs.SpanLaws.{name_in, name_bytes_lem}
use Rattle.names.proofs.Meaning.{name_of_good, differ_of_good}
use Rattle.headers.specs.Layouts.{layout_of}
use Rattle.naming.specs.Naming.{naming_of, source_for, source_of, no_name, spot_in, spot_for, spot_of, bytes_at, name_of, PartOf}
use Rattle.naming.specs.declared.Naming.{Naming}
use Rattle.naming.specs.declared.Naming.TheVariants.{Refused, Nameless, Named}
use Rattle.naming.specs.declared.Source.{Source}
use Rattle.naming.specs.declared.Spot.{Spot}
use Rattle.naming.proofs.SourceLaws.{naming_e, source_is, spot_some, spot_beyond}
use Rattle.naming.proofs.Texts.{good_named}

-- ---- one result

-- any two results of `lookup` are the same bytes at the same place
pub lookup_unique : {panel maker : Bor (List ℕ)} {s : Spot} {r q : List ℕ} {b c p d : ℕ} → PartOf panel maker s r b p → PartOf panel maker s q c d → (r ≡ q) × (b ≡ c) × (p ≡ d)
lookup_unique h k = (h.the_bytes ∙ sym k.the_bytes, h.the_block ∙ sym k.the_block, h.the_place ∙ sym k.the_place)

-- ---- which text is asked

spot_for_lem : (w v u : Naming) (panel maker other : List ℕ) (column : ℕ) → (w ≡ Nameless → ⊥) → spot_for (source_for w v) panel maker column ≡ spot_for (source_for w u) panel other column
spot_for_lem Refused v u panel maker other column h = refl
spot_for_lem Nameless v u panel maker other column h = absurd (h refl)
spot_for_lem (Named l) v u panel maker other column h = refl

-- unless the panel's text is good and has no names, it does not matter what the maker's text says
pub maker_not_asked : (panel maker other : List ℕ) (column : ℕ) → (naming_of panel ≡ Nameless → ⊥) → spot_of panel maker column ≡ spot_of panel other column
unfolding spot_of source_of
maker_not_asked panel maker other column h = spot_for_lem (naming_of panel) (naming_of maker) (naming_of other) panel maker other column h

-- a bad text that is consulted gives the empty part at the start of the panel's text: the panel's, and the maker's if the panel's has no names
pub none_if_panel_refused : (panel maker : List ℕ) (column : ℕ) → naming_of panel ≡ Refused → spot_of panel maker column ≡ no_name
unfolding spot_of source_of
none_if_panel_refused panel maker column h = rw h

pub none_if_maker_refused : (panel maker : List ℕ) (column : ℕ) → naming_of panel ≡ Nameless → naming_of maker ≡ Refused → spot_of panel maker column ≡ no_name
unfolding spot_of source_of
none_if_maker_refused panel maker column h k = rw (h, k)

-- and so do two texts without names
pub none_if_nameless : (panel maker : List ℕ) (column : ℕ) → naming_of panel ≡ Nameless → naming_of maker ≡ Nameless → spot_of panel maker column ≡ no_name
unfolding spot_of source_of
none_if_nameless panel maker column h k = rw (h, k)

-- ---- the bytes of a name

-- a part of a line, as a part of the text that the line stands in
part_of_line : (t : List ℕ) (l p : Span) → p.to ≤ length (bytes_of l t) → take (p.to - p.from) (drop (l.from + p.from) t) ≡ bytes_of p (bytes_of l t)
part_of_line t l p h =
    sym (rw (drop_take_is p.from (l.to - l.from) (drop l.from t), drop-drop p.from l.from t)
    (take-take (p.to - p.from) (l.to - l.from - p.from) (drop (l.from + p.from) t) (omega (arith, length-take (l.to - l.from) (drop l.from t)))))

bytes_below : (panel maker : List ℕ) (s : Source) (v : ℕ) → v < s.names.columns
    → bytes_at (spot_in s.maker (cond s.maker maker panel) s.names v) panel maker ≡ get_or (names_in (bytes_of s.names.at (cond s.maker maker panel))) v []
bytes_below panel maker s v h =
    let line = bytes_of s.names.at (cond s.maker maker panel) in
    rw (lt-ltb v s.names.columns h) (part_of_line (cond s.maker maker panel) s.names.at (name_span line v) (name_in line v).1 ∙ name_bytes_lem line v)

name_some : (panel maker : List ℕ) (s : Source) (v : ℕ) → source_of panel maker ≡ Some s → name_of panel maker v ≡ bytes_at (spot_in s.maker (cond s.maker maker panel) s.names v) panel maker
unfolding name_of
name_some panel maker s v h = rw (← spot_some panel maker s v h)

-- ---- the names of the columns

-- the columns below n have the names of a line, all good, and the others none
pub record NamedBy (panel maker line : List ℕ) (n : ℕ) : Type 0 where
  pub many : length (names_in line) ≡ n
  pub good : good_names (names_in line) ≡ true
  pub below : (v : ℕ) → v < n → name_of panel maker v ≡ get_or (names_in line) v []
  pub beyond : (v : ℕ) → n ≤ v → spot_of panel maker v ≡ no_name

-- of the line that two texts give
pub named_by_source : (panel maker : List ℕ) (s : Source) → source_of panel maker ≡ Some s → NamedBy panel maker (bytes_of s.names.at (cond s.maker maker panel)) s.names.columns
named_by_source panel maker s h =
    let t = cond s.maker maker panel in
    let w = naming_e t s.names (source_is panel maker s h) in
    let x = good_named (layout_of w.0.0) t s.names.columns s.names.at w.0.1 w.1 in
    record {
      many = x.many;
      good = x.good;
      below = λ v l. name_some panel maker s v h ∙ bytes_below panel maker s v l;
      beyond = λ v l. sym (spot_beyond s.maker t s.names v l ∙ spot_some panel maker s v h);
    }

-- the empty part is no name
pub none_empty : (panel maker : List ℕ) (v : ℕ) → spot_of panel maker v ≡ no_name → name_of panel maker v ≡ []
unfolding name_of
none_empty panel maker v h = rw h

module _ (panel maker line : List ℕ) (n : ℕ) (x : NamedBy panel maker line n) where
  -- it is a name: 1 to 16 letters, digits or underscores
  pub name_is_name : (v : ℕ) → v < n → Name (name_of panel maker v)
  name_is_name v h = rw (x.below v h) (name_of_good (names_in line) v x.good (rw x.many h))

  -- no other column has it
  pub names_differ : (v w : ℕ) → v < n → w < n → (v ≡ w → ⊥) → name_of panel maker v ≡ name_of panel maker w → ⊥
  names_differ v w h k d e = differ_of_good (names_in line) v w x.good (rw x.many h) (rw x.many k) d (sym (x.below v h) ∙ e ∙ x.below w k)
