-- The lookup in the words of 02, over accepted texts of either kind: the panel's own names, else the maker's; none beyond n, of two texts without names, and where a text consulted is bad, as one without a type line is.
use Prim.Native.Nat.{ℕ, ◌≤◌}
use mathlib.Core.Path.{◌≡◌, refl, sym, ◌∙◌, ap}
use mathlib.Core.List.Memᴰ.{head as here}
use mathlib.Core.List.Memᴰ.{tail as there}
use mathlib.Core.List.{List, [], ◌∷◌, ◌++◌, Memᴰ as Mem}
use mathlib.Core.Logic.{◌⊎◌, inl, inr}
use mathlib.Core.Bool.{true, false}
use native.Mathlib.Omega.{arith}
use lib.ListN.{get_or}
use lib.Seq.{take_all}
use Rattle.fields.specs.Texts.{lines_of}
use Rattle.names.specs.Names.{names_in}
use Rattle.names.specs.Spans.{bytes_of}
use Rattle.fields.specs.declared.Span.{Span}
use Rattle.lines.specs.Lines.{line_of}
use Rattle.lines.specs.declared.Part.TheVariants.{Ins}
use Rattle.lines.specs.declared.Line.{Line}
use Rattle.lines.specs.declared.Line.TheVariants.{End}
use Rattle.lines.specs.declared.Kind.{Kind}
use Rattle.lines.specs.declared.Kind.TheVariants.{Recording, Sheet}
use Rattle.headers.specs.Layouts.{recording, sheet, layout_of}
use Rattle.headers.specs.Verdicts.{judge_of}
use Rattle.headers.specs.Accepted.{is_header, one, times, RowLine, EmptyLine, All, Accepted}
use Rattle.headers.specs.declared.Header.{Header}
use Rattle.headers.specs.declared.Header.TheVariants.{Names, TypeWord}
use Rattle.headers.specs.declared.Layout.{Layout}
use Rattle.headers.specs.Verdicts.{Verdict}
use Rattle.std.specs.Prelude.{Option, Some, None, Ok, Err}
use Rattle.headers.proofs.Accepting.{good_iff_text}
use Rattle.headers.proofs.Sizes.{times_append}
use Rattle.headers.proofs.OneKind.{typed_stands, never_both}
use Rattle.naming.specs.Columns.{names_for}
use Rattle.naming.specs.Answers.{Answers, WithNames, WithoutNames, BadText}
use Rattle.naming.specs.Naming.{home_of, either_of, judge_either, naming_for, naming_of, no_name, spot_of}
use Rattle.naming.specs.declared.Naming.TheVariants.{Refused, Nameless, Named}
use Rattle.naming.proofs.HomeLaws.{home_stands}
use Rattle.naming.proofs.SourceLaws.{source_nameless, source_named}
use Rattle.naming.proofs.Texts.{nowhere_nameless, names_of_text}
use Rattle.naming.proofs.ColumnLaws.{all_written, nothing_written}
use Rattle.naming.proofs.Looking.{NamedBy, named_by_source, none_empty, name_is_name, names_differ, none_if_panel_refused, none_if_maker_refused, none_if_nameless}

-- ---- how often a header stands

header_times : (h : Header) {l : List ℕ} {ls : List (List ℕ)} → Mem l ls → is_header h (line_of l) ≡ true → 1 ≤ times h ls
unfolding times
header_times h (here {x = y} e) i = rw (ap (λ (x : List ℕ). is_header h (line_of x)) (sym e) ∙ i) (omega arith)
header_times h (there m) i = let r = header_times h m i in omega arith

never_times : (h : Header) (P : Line → List (List ℕ) → Type 0) → ((l : Line) (own : List (List ℕ)) → P l own → is_header h l ≡ false) → (ls : List (List ℕ)) → All P ls → times h ls ≡ 0
unfolding times
never_times h P f [] a = refl
never_times h P f (l ∷ ls) a = rw (f (line_of l) (names_in l) a.0) (let r = never_times h P f ls a.1 in omega arith)

row_no_header : (h : Header) (lay : Layout) (n : ℕ) (l : Line) (own : List (List ℕ)) → RowLine lay n l own → is_header h l ≡ false
row_no_header h lay n l own (inl q) = rw q
row_no_header h lay n l own (inr q) = rw q.1

end_no_header : (h : Header) (l : Line) → l ≡ End → is_header h l ≡ false
end_no_header h l q = rw q

empty_no_header : (h : Header) (l : Line) (own : List (List ℕ)) → EmptyLine l own → is_header h l ≡ false
empty_no_header h l own q = rw q

-- every header stands among the first lines
top_times : (lay : Layout) (h : Header) (n : ℕ) (t : List ℕ) (x : Accepted lay n t) → times h (lines_of t) ≡ times h x.top
unfolding times
top_times lay h n t x =
    let rows : times h x.middle ≡ 0 = never_times h (RowLine lay n) (row_no_header h lay n) x.middle x.rows in
    let rest : times h x.rest ≡ 0 = never_times h EmptyLine (empty_no_header h) x.rest x.empty in
    let mark : one (is_header h (line_of x.mark)) ≡ 0 = ap one (end_no_header h (line_of x.mark) x.ends) in
    let whole = ap (λ (ls : List (List ℕ)). times h ls) x.lines in
    omega (arith, whole, times_append h x.top (x.middle ++ x.mark ∷ x.rest), times_append h x.middle (x.mark ∷ x.rest))

-- ---- the home of the names

home_of_names : (lay : Layout) (n : ℕ) (t : List ℕ) (x : Accepted lay n t) → WithNames lay n t x → (p : Span) × (home_of t ≡ Some p)
home_of_names lay n t x w = go (home_of t) refl
  where
    go : (o : Option Span) → home_of t ≡ o → (p : Span) × (home_of t ≡ Some p)
    go (Some p) h = (p, h)
    go None h = absurd (omega (arith, w, nowhere_nameless lay t n x h Ins))

home_of_none : (lay : Layout) (n : ℕ) (t : List ℕ) (x : Accepted lay n t) → WithoutNames lay n t x → home_of t ≡ None
home_of_none lay n t x w = go (home_of t) refl
  where
    go : (o : Option Span) → home_of t ≡ o → home_of t ≡ None
    go None h = h
    go (Some p) h =
        let s = home_stands t p h in
        absurd (omega (arith, header_times (Names Ins) s.among s.inputs, top_times lay (Names Ins) n t x, w))

-- ---- what the texts say

-- a text of either kind is judged as what it is: no text is of both
either_good : (kind : Kind) (n : ℕ) (t : List ℕ) → Accepted (layout_of kind) n t → judge_either t ≡ Ok n
unfolding judge_either
either_good Recording n t x = rw ((good_iff_text recording t n).1 x)
either_good Sheet n t x = go (judge_of recording t) refl
  where
    go : (v : Verdict) → judge_of recording t ≡ v → either_of v (judge_of sheet t) ≡ Ok n
    go (Ok m) e = absurd (never_both m n t ((good_iff_text recording t m).0 e) x)
    go (Err k) e = (good_iff_text sheet t n).1 x

naming_with : (kind : Kind) (n : ℕ) (t : List ℕ) (x : Accepted (layout_of kind) n t) (p : Span) → home_of t ≡ Some p → naming_of t ≡ Named (record { columns = n; at = p })
unfolding naming_of
naming_with kind n t x p h = rw (either_good kind n t x, h)

naming_without : (kind : Kind) (n : ℕ) (t : List ℕ) (x : Accepted (layout_of kind) n t) → WithoutNames (layout_of kind) n t x → naming_of t ≡ Nameless
unfolding naming_of
naming_without kind n t x w = rw (either_good kind n t x, home_of_none (layout_of kind) n t x w)

naming_refused : (t : List ℕ) → BadText t → naming_of t ≡ Refused
unfolding naming_of judge_either
naming_refused t b = go (judge_of recording t) refl (judge_of sheet t) refl
  where
    go : (v : Verdict) → judge_of recording t ≡ v → (w : Verdict) → judge_of sheet t ≡ w → naming_for (either_of v w) (home_of t) ≡ Refused
    go (Ok n) g w e = absurd (b Recording n ((good_iff_text recording t n).0 g))
    go (Err k) g (Ok n) e = absurd (b Sheet n ((good_iff_text sheet t n).0 e))
    go (Err k) g (Err j) e = refl

-- every text says what it said where recordings alone were read, or is a sheet (02, Ask 3)
pub as_before_or_sheet : (t : List ℕ) → (naming_of t ≡ naming_for (judge_of recording t) (home_of t)) ⊎ ((n : ℕ) × Accepted sheet n t)
unfolding naming_of judge_either
as_before_or_sheet t = go (judge_of recording t) (judge_of sheet t) refl
  where
    go : (v w : Verdict) → judge_of sheet t ≡ w → (naming_for (either_of v w) (home_of t) ≡ naming_for v (home_of t)) ⊎ ((n : ℕ) × Accepted sheet n t)
    go (Ok n) w e = inl refl
    go (Err k) (Ok n) e = inr (n, (good_iff_text sheet t n).0 e)
    go (Err k) (Err j) e = inl refl

-- ---- the answers

answers_by : (panel maker line : List ℕ) (n : ℕ) (ns : List (List ℕ)) → names_in line ≡ ns → NamedBy panel maker line n → Answers panel maker n ns
answers_by panel maker line n ns q x =
    record {
      below = λ v h. x.below v h ∙ ap (λ (ws : List (List ℕ)). get_or ws v []) q;
      name = name_is_name panel maker line n x;
      differ = names_differ panel maker line n x;
      beyond = x.beyond;
    }

-- the panel's own names
pub own_names : (kind : Kind) (panel maker : List ℕ) (n : ℕ) (x : Accepted (layout_of kind) n panel) → WithNames (layout_of kind) n panel x → Answers panel maker n x.names
own_names kind panel maker n x w =
    let h = home_of_names (layout_of kind) n panel x w in
    answers_by panel maker (bytes_of h.0 panel) n x.names (names_of_text (layout_of kind) panel n h.0 x h.1)
    (named_by_source panel maker _ (sym (source_named panel maker _ (naming_with kind n panel x h.0 h.1))))

-- the maker's, where the panel's text has none
pub makers_names : (kind other : Kind) (panel maker : List ℕ) (m n : ℕ) (x : Accepted (layout_of kind) m panel) (y : Accepted (layout_of other) n maker)
    → WithoutNames (layout_of kind) m panel x → WithNames (layout_of other) n maker y → Answers panel maker n y.names
makers_names kind other panel maker m n x y w u =
    let h = home_of_names (layout_of other) n maker y u in
    let k = naming_with other n maker y h.0 h.1 in
    answers_by panel maker (bytes_of h.0 maker) n y.names (names_of_text (layout_of other) maker n h.0 y h.1)
    (named_by_source panel maker (record { maker = true; names = record { columns = n; at = h.0 } }) (sym (source_nameless panel maker (naming_without kind m panel x w)) ∙ rw k))

-- neither has names
pub no_names : (kind other : Kind) (panel maker : List ℕ) (m n : ℕ) (x : Accepted (layout_of kind) m panel) (y : Accepted (layout_of other) n maker)
    → WithoutNames (layout_of kind) m panel x → WithoutNames (layout_of other) n maker y → (v : ℕ) → spot_of panel maker v ≡ no_name
no_names kind other panel maker m n x y w u v = none_if_nameless panel maker v (naming_without kind m panel x w) (naming_without other n maker y u)

-- a bad text that is consulted: the panel's always is, the maker's where the panel's has no names
pub bad_panel : (panel maker : List ℕ) → BadText panel → (v : ℕ) → spot_of panel maker v ≡ no_name
bad_panel panel maker b v = none_if_panel_refused panel maker v (naming_refused panel b)

pub bad_maker : (kind : Kind) (panel maker : List ℕ) (m : ℕ) (x : Accepted (layout_of kind) m panel) → WithoutNames (layout_of kind) m panel x → BadText maker
    → (v : ℕ) → spot_of panel maker v ≡ no_name
bad_maker kind panel maker m x w b v = none_if_maker_refused panel maker v (naming_without kind m panel x w) (naming_refused maker b)

-- a text without a type line is bad (02, Ask 2)
pub typeless_bad : (t : List ℕ) → times TypeWord (lines_of t) ≡ 0 → BadText t
typeless_bad t e kind n x = absurd (omega (arith, e, typed_stands (layout_of kind) n (lines_of t) (required kind) x))
  where
    required : (kind : Kind) → (layout_of kind).typed ≡ true
    required Recording = refl
    required Sheet = refl

-- ---- the names of a sheet

module _ (kind : Kind) (panel maker : List ℕ) (n : ℕ) (x : Accepted (layout_of kind) n panel) where
  -- a sheet of the panel's own size is written with the panel's names, if it has any
  pub own_written : WithNames (layout_of kind) n panel x → names_for panel maker n ≡ x.names
  own_written w =
      let h = home_of_names (layout_of kind) n panel x w in
      let q : NamedBy panel maker (bytes_of h.0 panel) n =
      named_by_source panel maker _ (sym (source_named panel maker _ (naming_with kind n panel x h.0 h.1))) in
      let ns = names_of_text (layout_of kind) panel n h.0 x h.1 in
      sym (all_written panel maker (bytes_of h.0 panel) n q n (omega arith)) ∙ take_all n (names_in (bytes_of h.0 panel)) (omega (arith, q.many)) ∙ ns

  -- and with none, if it has none and the maker's text is bad
  pub none_written : WithoutNames (layout_of kind) n panel x → BadText maker → (k : ℕ) → names_for panel maker k ≡ []
  none_written w b k = nothing_written panel maker k (λ v. none_empty panel maker v (bad_maker kind panel maker n x w b v))
