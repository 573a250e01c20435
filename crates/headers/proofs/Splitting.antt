-- Lines that all pass up to an end mark are headers, then rows, then that mark, then empty lines.
use Prim.Native.Nat.{ℕ, ◌+◌}
use mathlib.Core.Path.{◌≡◌, refl, sym, ◌∙◌, ap, subst}
use mathlib.Core.List.{List, [], ◌∷◌, ◌++◌}
use mathlib.Core.Logic.{inl, inr}
use mathlib.Core.Bool.{true, false, false≢true}
use native.Mathlib.Omega.{arith}
use lib.Dec.{eqb}
use borrow.Author.Tests.{eqb-true}
use Rattle.table.proofs.Basics.{and_l, and_r, or_r}
use Rattle.names.specs.Names.{names_in}
use Rattle.lines.specs.Lines.{line_of, view_of}
use Rattle.lines.specs.Bounds.{LineOk}
use Rattle.lines.specs.declared.Masks.{Masks}
use Rattle.lines.specs.declared.Part.{Part}
use Rattle.lines.specs.declared.Part.TheVariants.{Ins, Outs}
use Rattle.lines.specs.declared.Line.{Line}
use Rattle.lines.specs.declared.Line.TheVariants.{Empty, Sized, Named, Typed, Rows, Row, End, Fault}
use Rattle.lines.proofs.BoundLaws.{line_ok}
use Rattle.headers.specs.Headers.{has_header, ready_of, open_of, end_allowed, row_allowed, allowed_of, named, with_header, next_of, Point, next_by, next_at}
use Rattle.headers.specs.Accepted.{is_row, one, times, rows_in, Fits, HeaderLine, RowLine, EmptyLine, All}
use Rattle.headers.specs.declared.Layout.{Layout}
use Rattle.headers.specs.declared.Header.{Header}
use Rattle.headers.specs.declared.Header.TheVariants.{Size, Names, TypeWord, Count}
use Rattle.headers.specs.declared.Seen.{Seen}
use Rattle.headers.specs.declared.State.{State}
use Rattle.headers.proofs.Passing.{state_after}
use Rattle.headers.proofs.Machine.{passes, after}
use Rattle.headers.proofs.After.{allowed_state, pass_state, pass_next, size_stays, held_stays, after_counted}
use Rattle.headers.proofs.Fitting.{fits_e}
use Rattle.headers.proofs.Seeing.{same_kind_lem, open_e, header_open, header_fits, end_going, end_ready, new_header, tally_next}

-- a row that is allowed
row_parts : (lay : Layout) (st : State) (m : Masks) → row_allowed lay st m ≡ true → (end_allowed lay st ≡ true) × Fits lay st.size m
unfolding row_allowed
row_parts lay st m a =
    let r = and_r (end_allowed lay st) _ a in
    (and_l (end_allowed lay st) _ a, fits_e lay st.size m (sym (eqb-true st.size m.width (and_l (eqb st.size m.width) _ r))) (and_r (eqb st.size m.width) _ r))

-- a line that is allowed: an empty one, a header before the first row and the end mark, a row, or the end mark
pub data Stands (lay : Layout) (st : State) (l : Line) : Type 0 where
  blank : l ≡ Empty → Stands lay st l
  heads : open_of st ≡ true → Stands lay st l
  rows : (m : Masks) → l ≡ Row m → row_allowed lay st m ≡ true → Stands lay st l
  ends : l ≡ End → end_allowed lay st ≡ true → Stands lay st l

stands : (lay : Layout) (st : State) (l : Line) → allowed_of lay st l ≡ true → Stands lay st l
stands lay st Empty a = blank refl
stands lay st (Sized p n) a = heads (header_open st (Size p) _ a)
stands lay st (Named p n) a = heads (header_open st (Names p) _ a)
stands lay st (Typed t) a = heads (header_open st TypeWord _ a)
stands lay st (Rows v) a = heads (header_open st Count _ a)
stands lay st (Row m) a = rows m refl a
stands lay st End a = ends refl a
stands lay st Fault a = absurd (false≢true a)

-- ---- after the end mark

only_empty : (lay : Layout) (st : State) (l : Line) → st.ended ≡ true → Stands lay st l → l ≡ Empty
only_empty lay st l e (blank q) = q
only_empty lay st l e (heads o) = absurd (false≢true (sym (open_e st o).0 ∙ e))
only_empty lay st l e (rows m q a) = absurd (false≢true (sym (end_going lay st (row_parts lay st m a).0) ∙ e))
only_empty lay st l e (ends q a) = absurd (false≢true (sym (end_going lay st a) ∙ e))

after_end : (lay : Layout) (ls : List (List ℕ)) (pt : Point) (k : ℕ) → pt.state.ended ≡ true → passes lay ls pt k ≡ true → All EmptyLine ls × (after ls pt k ≡ pt)
unfolding state_after next_at
after_end lay [] pt k e h = (tt, refl)
after_end lay (l ∷ ls) pt k e h =
    let x = only_empty lay pt.state (line_of l) e (stands lay pt.state (line_of l) (allowed_state lay pt (line_of l) (names_in l) (pass_state lay l ls pt k h))) in
    let s : next_by pt (line_of l) (names_in l) k ≡ pt = ap (λ (y : Line). next_by pt y (names_in l) k) x in
    let r = after_end lay ls (next_by pt (line_of l) (names_in l) k) (k + 1) (ap (λ (y : Point). y.state.ended) s ∙ e) (pass_next lay l ls pt k h) in
    ((x, r.0), r.1 ∙ s)

-- ---- after the first row

pub record Body (lay : Layout) (st last : State) (ls : List (List ℕ)) : Type 0 where
  pub middle : List (List ℕ)
  pub mark : List ℕ
  pub rest : List (List ℕ)
  pub lines : ls ≡ middle ++ mark ∷ rest
  pub rows : All (RowLine lay st.size) middle
  pub ends : line_of mark ≡ End
  pub empty : All EmptyLine rest
  pub number : last.rows ≡ st.rows + rows_in middle
  pub seen : last.seen ≡ st.seen
  pub size : last.size ≡ st.size

-- what is shown of the lines after a line
abbrev MoreBody : Layout → List (List ℕ) → ℕ → Type 0
MoreBody lay ls k =
    (pt : Point) → pt.state.ended ≡ false → (pt.state.rows ≡ 0 → ⊥) → passes lay ls pt k ≡ true → (after ls pt k).state.ended ≡ true
    → Body lay pt.state (after ls pt k).state ls

-- an empty line, or a row, in front
body_cons : (lay : Layout) (l : List ℕ) (ls : List (List ℕ)) (st next last : State) → RowLine lay st.size (line_of l) (names_in l) → next.rows ≡ st.rows + one (is_row (view_of (line_of l)))
    → next.seen ≡ st.seen → next.size ≡ st.size → Body lay next last ls → Body lay st last (l ∷ ls)
unfolding rows_in
body_cons lay l ls st next last p r s z b =
    record {
      middle = l ∷ b.middle;
      mark = b.mark;
      rest = b.rest;
      lines = ap (λ (y : List (List ℕ)). l ∷ y) b.lines;
      rows = (p, subst (λ (n : ℕ). All (RowLine lay n) b.middle) z b.rows);
      ends = b.ends;
      empty = b.empty;
      number = omega (arith, b.number, r);
      seen = b.seen ∙ s;
      size = b.size ∙ z;
    }

-- the end mark, and the lines after it
body_end : (lay : Layout) (l : List ℕ) (ls : List (List ℕ)) (pt : Point) (k : ℕ) → line_of l ≡ End → passes lay ls (next_by pt End (names_in l) k) (k + 1) ≡ true
    → Body lay pt.state (after ls (next_by pt End (names_in l) k) (k + 1)).state (l ∷ ls)
unfolding rows_in
body_end lay l ls pt k x h =
    let r = after_end lay ls (next_by pt End (names_in l) k) (k + 1) refl h in
    record {
      middle = [];
      mark = l;
      rest = ls;
      lines = refl;
      rows = tt;
      ends = x;
      empty = r.0;
      number = ap (λ (y : Point). y.state.rows) r.1 ∙ omega arith;
      seen = ap (λ (y : Point). y.state.seen) r.1;
      size = ap (λ (y : Point). y.state.size) r.1;
    }

-- a row that is allowed, and the lines after it
body_row : (lay : Layout) (l : List ℕ) (ls : List (List ℕ)) (pt : Point) (k : ℕ) (m : Masks) → line_of l ≡ Row m → pt.state.ended ≡ false → row_allowed lay pt.state m ≡ true
    → passes lay ls (next_by pt (Row m) (names_in l) k) (k + 1) ≡ true → (after ls (next_by pt (Row m) (names_in l) k) (k + 1)).state.ended ≡ true → MoreBody lay ls (k + 1)
    → Body lay pt.state (after ls (next_by pt (Row m) (names_in l) k) (k + 1)).state (l ∷ ls)
body_row lay l ls pt k m x e a h d more =
    body_cons lay l ls pt.state (next_of pt.state (Row m) k) _ (inr (m, x, (row_parts lay pt.state m a).1)) (rw x refl) refl refl
    (more (next_by pt (Row m) (names_in l) k) e (some pt.state.rows) h d)
  where
    some : (r : ℕ) → r + 1 ≡ 0 → ⊥
    some r z = omega arith

body_line : (lay : Layout) (l : List ℕ) (ls : List (List ℕ)) (pt : Point) (k : ℕ) (x : Line) → line_of l ≡ x → pt.state.ended ≡ false → (pt.state.rows ≡ 0 → ⊥)
    → Stands lay pt.state x → passes lay ls (next_by pt x (names_in l) k) (k + 1) ≡ true → (after ls (next_by pt x (names_in l) k) (k + 1)).state.ended ≡ true → MoreBody lay ls (k + 1)
    → Body lay pt.state (after ls (next_by pt x (names_in l) k) (k + 1)).state (l ∷ ls)
body_line lay l ls pt k x s e n (blank q) h d more =
    rw q (body_cons lay l ls pt.state pt.state _ (inl (s ∙ q)) (rw (s ∙ q) (omega arith)) refl refl (more (next_by pt Empty (names_in l) k) e n (rw q at h) (rw q at d)))
body_line lay l ls pt k x s e n (heads o) h d more = absurd (n (open_e pt.state o).1)
body_line lay l ls pt k x s e n (rows m q a) h d more = rw q (body_row lay l ls pt k m (s ∙ q) e a (rw q at h) (rw q at d) more)
body_line lay l ls pt k x s e n (ends q a) h d more = rw q (body_end lay l ls pt k (s ∙ q) (rw q at h))

body_of : (lay : Layout) (ls : List (List ℕ)) (k : ℕ) → MoreBody lay ls k
unfolding state_after next_at
body_of lay [] k pt e n h d = absurd (false≢true (sym e ∙ d))
body_of lay (l ∷ ls) k pt e n h d =
    body_line lay l ls pt k (line_of l) refl e n (stands lay pt.state (line_of l) (allowed_state lay pt (line_of l) (names_in l) (pass_state lay l ls pt k h))) (pass_next lay l ls pt k h) d (body_of lay ls (k + 1))

-- ---- from the headers on

pub record Split (lay : Layout) (st : State) (last : Point) (ls : List (List ℕ)) : Type 0 where
  pub top : List (List ℕ)
  pub middle : List (List ℕ)
  pub mark : List ℕ
  pub rest : List (List ℕ)
  pub lines : ls ≡ top ++ (middle ++ mark ∷ rest)
  pub headers : All (HeaderLine lay last.state.size last.state.rows last.held) top
  pub tally : (h : Header) → one (has_header st.seen h) + times h top ≡ one (has_header last.state.seen h)
  pub rows : All (RowLine lay last.state.size) middle
  pub ends : line_of mark ≡ End
  pub empty : All EmptyLine rest
  pub number : rows_in middle ≡ last.state.rows
  pub ready : ready_of lay last.state.seen ≡ true

-- the number after `.p` is the number of rows
abbrev pub CountsRows : State → Type 0
CountsRows last = last.seen.count ≡ true → last.want ≡ last.rows

abbrev MoreSplit : Layout → List (List ℕ) → ℕ → Type 0
MoreSplit lay ls k =
    (pt : Point) → pt.state.ended ≡ false → pt.state.rows ≡ 0 → passes lay ls pt k ≡ true → (after ls pt k).state.ended ≡ true → CountsRows (after ls pt k).state
    → Split lay pt.state (after ls pt k) ls

-- a header, or an empty line, in front
split_cons : (lay : Layout) (l : List ℕ) (ls : List (List ℕ)) (st : State) (k : ℕ) (last : Point) (x : Line) → line_of l ≡ x → allowed_of lay st x ≡ true
    → HeaderLine lay last.state.size last.state.rows last.held x (names_in l) → Split lay (next_of st x k) last ls → Split lay st last (l ∷ ls)
unfolding times
split_cons lay l ls st k last x e a p s =
    record {
      top = l ∷ s.top;
      middle = s.middle;
      mark = s.mark;
      rest = s.rest;
      lines = ap (λ (y : List (List ℕ)). l ∷ y) s.lines;
      headers = (rw e p, s.headers);
      tally = λ h. rw e (omega (arith, tally_next st x k h (new_header lay st x h a), s.tally h));
      rows = s.rows;
      ends = s.ends;
      empty = s.empty;
      number = s.number;
      ready = s.ready;
    }

-- no header, and the rows at once
split_body : (lay : Layout) (ls : List (List ℕ)) (st : State) (last : Point) → st.rows ≡ 0 → ready_of lay st.seen ≡ true → Body lay st last.state ls → Split lay st last ls
unfolding times
split_body lay ls st last n r b =
    record {
      top = [];
      middle = b.middle;
      mark = b.mark;
      rest = b.rest;
      lines = b.lines;
      headers = tt;
      tally = λ h. rw b.seen (omega arith);
      rows = rw b.size b.rows;
      ends = b.ends;
      empty = b.empty;
      number = omega (arith, b.number);
      ready = rw b.seen r;
    }

named_now : (s : Seen) (p : Part) → named (with_header s (Names p)) ≡ true
unfolding named
named_now s Ins = refl
named_now s Outs = or_r s.in_names true refl

split_line : (lay : Layout) (l : List ℕ) (ls : List (List ℕ)) (pt : Point) (k : ℕ) (x : Line) → line_of l ≡ x → LineOk x → pt.state.ended ≡ false → pt.state.rows ≡ 0
    → allowed_of lay pt.state x ≡ true → passes lay ls (next_by pt x (names_in l) k) (k + 1) ≡ true → (after ls (next_by pt x (names_in l) k) (k + 1)).state.ended ≡ true
    → CountsRows (after ls (next_by pt x (names_in l) k) (k + 1)).state → MoreSplit lay ls (k + 1) → Split lay pt.state (after ls (next_by pt x (names_in l) k) (k + 1)) (l ∷ ls)
split_line lay l ls pt k Empty x o e n a h d w more = split_cons lay l ls pt.state k _ Empty x a tt (more (next_by pt Empty (names_in l) k) e n h d w)
split_line lay l ls pt k (Sized p s) x o e n a h d w more =
    let next = next_by pt (Sized p s) (names_in l) k in
    split_cons lay l ls pt.state k _ (Sized p s) x a (sym (size_stays lay ls next (k + 1) o.0 h)) (more next e n h d w)
split_line lay l ls pt k (Named p s) x o e n a h d w more =
    let next = next_by pt (Named p s) (names_in l) k in
    split_cons lay l ls pt.state k _ (Named p s) x a
    (sym (size_stays lay ls next (k + 1) o.0 h), sym (held_stays lay ls next (k + 1) (named_now pt.state.seen p) h))
    (more next e n h d w)
split_line lay l ls pt k (Typed t) x o e n a h d w more =
    split_cons lay l ls pt.state k _ (Typed t) x a (same_kind_lem lay.kind t (header_fits pt.state TypeWord _ a)) (more (next_by pt (Typed t) (names_in l) k) e n h d w)
split_line lay l ls pt k (Rows v) x o e n a h d w more =
    let next = next_by pt (Rows v) (names_in l) k in
    let c = after_counted lay ls next (k + 1) v k (record { is = refl; count = refl; at = refl }) h in
    split_cons lay l ls pt.state k _ (Rows v) x a (sym c.count ∙ w c.is) (more next e n h d w)
split_line lay l ls pt k (Row m) x o e n a h d w more =
    split_body lay (l ∷ ls) pt.state _ n (end_ready lay pt.state (row_parts lay pt.state m a).0) (body_row lay l ls pt k m x e a h d (body_of lay ls (k + 1)))
split_line lay l ls pt k End x o e n a h d w more = split_body lay (l ∷ ls) pt.state _ n (end_ready lay pt.state a) (body_end lay l ls pt k x h)
split_line lay l ls pt k Fault x o e n a h d w more = absurd (false≢true a)

pub split_of : (lay : Layout) (ls : List (List ℕ)) (k : ℕ) → MoreSplit lay ls k
unfolding state_after next_at
split_of lay [] k pt e n h d w = absurd (false≢true (sym e ∙ d))
split_of lay (l ∷ ls) k pt e n h d w =
    split_line lay l ls pt k (line_of l) refl (line_ok l) e n (allowed_state lay pt (line_of l) (names_in l) (pass_state lay l ls pt k h)) (pass_next lay l ls pt k h) d w (split_of lay ls (k + 1))
