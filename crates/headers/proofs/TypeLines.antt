-- 02, Ask 2: where the type line is required, a row or the end mark with none before it is faulty; every other text is judged as where the
-- line may be left out.
use Prim.Native.Nat.{ℕ, ◌+◌}
use mathlib.Core.Path.{◌≡◌, refl, sym, ◌∙◌, ap}
use mathlib.Core.List.{List, [], ◌∷◌, ◌++◌}
use mathlib.Core.Logic.{◌⊎◌, inl, inr, ⊎_elim}
use mathlib.Core.Bool.{Bool, true, false, ◌||◌, false≢true}
use native.Mathlib.Omega.{arith}
use lib.ListN.{length}
use Rattle.table.proofs.Basics.{and_l}
use Rattle.fields.specs.Texts.{lines_of}
use Rattle.fields.proofs.JoinLaws.{lines_no_feeds}
use Rattle.names.specs.Names.{names_in}
use Rattle.lines.specs.Lines.{line_of, view_of}
use Rattle.lines.specs.declared.Line.{Line}
use Rattle.lines.specs.declared.Line.TheVariants.{Empty, Sized, Named, Typed, Rows, Row, End, Fault}
use Rattle.headers.specs.Layouts.{requiring}
use Rattle.headers.specs.Headers.{has_header, lacks, lacks_none, ready_of, row_fits, end_allowed, row_allowed, allowed_of, Point, allowed_by, allowed_at, next_at, fresh_point}
use Rattle.headers.specs.Verdicts.{judge_lines, judge_of}
use Rattle.headers.specs.Accepted.{is_header, one, times}
use Rattle.headers.specs.Places.{is_aside, FaultyLine, Untyped}
use Rattle.headers.specs.declared.Layout.{Layout}
use Rattle.headers.specs.declared.Header.{Header}
use Rattle.headers.specs.declared.Header.TheVariants.{TypeWord}
use Rattle.headers.specs.declared.Seen.{Seen}
use Rattle.headers.specs.declared.State.{State}
use Rattle.std.specs.Prelude.{Err}
use Rattle.headers.proofs.Passing.{state_after, pass_here, pass_others, pass_weaker, Stuck, pass_or_stuck}
use Rattle.headers.proofs.Seeing.{ready_e, end_ready, has_next}
use Rattle.headers.proofs.Machine.{passes, after, judge_passing, judge_stuck}
use Rattle.headers.proofs.After.{allowed_state}
use Rattle.headers.proofs.Accepting.{asked_has}
use Rattle.headers.proofs.PlaceLaws.{passes_begins, begins_passes, first_no_feeds, bad_iff_place}

-- ---- with no type line before it, a row or the end mark is faulty

-- a row or the end mark that is allowed finds no header missing
ends_ready : (lay : Layout) (st : State) (l : Line) → is_aside (view_of l) ≡ false → allowed_of lay st l ≡ true → ready_of lay st.seen ≡ true
unfolding row_allowed
ends_ready lay st Empty e a = absurd (false≢true (sym e))
ends_ready lay st (Sized p n) e a = absurd (false≢true (sym e))
ends_ready lay st (Named p n) e a = absurd (false≢true (sym e))
ends_ready lay st (Typed t) e a = absurd (false≢true (sym e))
ends_ready lay st (Rows v) e a = absurd (false≢true (sym e))
ends_ready lay st (Row m) e a = end_ready lay st (and_l (end_allowed lay st) _ a)
ends_ready lay st End e a = end_ready lay st a
ends_ready lay st Fault e a = absurd (false≢true (sym e))

none_first : (b : Bool) (k : ℕ) → one b + k ≡ 0 → (b ≡ false) × (k ≡ 0)
none_first true k e = absurd (omega (arith, e))
none_first false k e = (refl, omega (arith, e))

-- a header that is not among some lines stands after them only if it stood before
after_none : (h : Header) (ls : List (List ℕ)) (pt : Point) (k : ℕ) → times h ls ≡ 0 → has_header (after ls pt k).state.seen h ≡ has_header pt.state.seen h
unfolding times state_after next_at
after_none h [] pt k e = refl
after_none h (l ∷ ls) pt k e =
    let n = none_first (is_header h (line_of l)) (times h ls) e in
    after_none h ls (next_at pt l k) (k + 1) n.1 ∙ has_next pt.state (line_of l) k h ∙ ap (λ (b : Bool). b || has_header pt.state.seen h) n.0

-- and one that does not stand after them is not among them
none_after : (h : Header) (ls : List (List ℕ)) (pt : Point) (k : ℕ) → has_header (after ls pt k).state.seen h ≡ false → times h ls ≡ 0
unfolding times state_after next_at
none_after h [] pt k e = refl
none_after h (l ∷ ls) pt k e =
    let none = none_after h ls (next_at pt l k) (k + 1) e in
    rw (none, go (is_header h (line_of l)) (has_header pt.state.seen h) (sym (has_next pt.state (line_of l) k h) ∙ sym (after_none h ls (next_at pt l k) (k + 1) none) ∙ e))
  where
    go : (b c : Bool) → (b || c) ≡ false → b ≡ false
    go true c f = f
    go false c f = refl

-- where the type line is required, a row or the end mark is allowed only after it
ends_typed : (lay : Layout) (pt : Point) (l : List ℕ) → lay.typed ≡ true → is_aside (view_of (line_of l)) ≡ false → allowed_at lay pt l ≡ true → pt.state.seen.word ≡ true
unfolding allowed_at
ends_typed lay pt l required e a =
    let ready = ends_ready lay pt.state (line_of l) e (allowed_state lay pt (line_of l) (names_in l) a) in
    asked_has lay pt.state.seen TypeWord (ready_e lay pt.state.seen ready TypeWord) required

module _ (lay : Layout) (required : lay.typed ≡ true) (t : List ℕ) (k : ℕ) (u : Untyped lay t k) where
  pub untyped_faulty : FaultyLine lay t k
  untyped_faulty =
      record {
        before = u.before;
        line = u.line;
        after = u.after;
        lines = u.lines;
        number = u.number;
        begins = u.begins;
        begins_no_more = λ b.
            let p = begins_passes lay (u.before ++ u.line ∷ []) b in
            let a = pass_here (allowed_at lay) next_at u.line [] _ _ (pass_others (allowed_at lay) next_at u.before (u.line ∷ []) fresh_point 1 p) in
            false≢true (sym (after_none TypeWord u.before fresh_point 1 u.none) ∙ ends_typed lay (after u.before fresh_point 1) u.line required u.ends a);
      }

  pub untyped_bad : judge_of lay t ≡ Err k
  untyped_bad = (bad_iff_place lay t k).1 (inl untyped_faulty)

-- ---- every other text is judged as where the line may be left out

module _ (lay : Layout) where
  abbrev strict : Layout
  strict = requiring true lay

  abbrev free : Layout
  free = requiring false lay

  -- after a type line both ask for the same
  ready_same : (s : Seen) → s.word ≡ true → ready_of strict s ≡ ready_of free s
  unfolding ready_of lacks_none lacks
  ready_same s w = rw w

  end_same : (st : State) → st.seen.word ≡ true → end_allowed strict st ≡ end_allowed free st
  unfolding end_allowed
  end_same st w = rw (ready_same st.seen w)

  -- a line is allowed by both or by neither if a type line stood there or it is neither row nor end mark
  allowed_same : (st : State) (l : Line) → (st.seen.word ≡ true) ⊎ (is_aside (view_of l) ≡ true) → allowed_of strict st l ≡ allowed_of free st l
  unfolding row_allowed row_fits
  allowed_same st Empty h = refl
  allowed_same st (Sized p n) h = refl
  allowed_same st (Named p n) h = refl
  allowed_same st (Typed t) h = refl
  allowed_same st (Rows v) h = refl
  allowed_same st (Row m) (inl w) = rw (end_same st w)
  allowed_same st (Row m) (inr e) = absurd (false≢true e)
  allowed_same st End (inl w) = end_same st w
  allowed_same st End (inr e) = absurd (false≢true e)
  allowed_same st Fault h = refl

  at_same : (pt : Point) (l : List ℕ) → (pt.state.seen.word ≡ true) ⊎ (is_aside (view_of (line_of l)) ≡ true) → allowed_at strict pt l ≡ allowed_at free pt l
  unfolding allowed_at allowed_by
  at_same pt l h = rw (allowed_same pt.state (line_of l) h)

  -- what the one allows the other does
  at_free : (pt : Point) (l : List ℕ) → allowed_at strict pt l ≡ true → allowed_at free pt l ≡ true
  at_free pt l a = go (is_aside (view_of (line_of l))) refl
    where
      go : (b : Bool) → is_aside (view_of (line_of l)) ≡ b → allowed_at free pt l ≡ true
      go true e = sym (at_same pt l (inr e)) ∙ a
      go false e = sym (at_same pt l (inl (ends_typed strict pt l refl e a))) ∙ a

  -- a line that only the other allows is a row or the end mark, and no type line stood there
  only_free : (pt : Point) (l : List ℕ) → allowed_at strict pt l ≡ false → allowed_at free pt l ≡ true → (is_aside (view_of (line_of l)) ≡ false) × (pt.state.seen.word ≡ false)
  only_free pt l a f = (aside (is_aside (view_of (line_of l))) refl, typed pt.state.seen.word refl)
    where
      aside : (b : Bool) → is_aside (view_of (line_of l)) ≡ b → b ≡ false
      aside true e = absurd (false≢true (sym a ∙ at_same pt l (inr e) ∙ f))
      aside false e = refl

      typed : (b : Bool) → pt.state.seen.word ≡ b → b ≡ false
      typed true e = absurd (false≢true (sym a ∙ at_same pt l (inl e) ∙ f))
      typed false e = refl

  -- every text is judged as where the type line may be left out, or has a row or an end mark with no type line before it
  module _ (t : List ℕ) where
    abbrev Either : Type 0
    Either = (judge_of strict t ≡ judge_of free t) ⊎ ((k : ℕ) × Untyped strict t k)

    passing : passes strict (lines_of t) fresh_point 1 ≡ true → Either
    unfolding judge_of
    passing p =
        let q = pass_weaker (allowed_at strict) (allowed_at free) next_at at_free (lines_of t) fresh_point 1 p in
        inl (judge_passing strict (lines_of t) fresh_point 1 p ∙ sym (judge_passing free (lines_of t) fresh_point 1 q))

    stuck : Stuck (allowed_at strict) next_at (lines_of t) fresh_point 1 → Either
    unfolding judge_of
    stuck s = go (allowed_at free (after s.before fresh_point 1) s.line) refl
      where
        bad : (any : Layout) → passes any s.before fresh_point 1 ≡ true → allowed_at any (after s.before fresh_point 1) s.line ≡ false
            → judge_lines any (lines_of t) fresh_point 1 ≡ Err (length s.before + 1)
        bad any p a = ap (λ (x : List (List ℕ)). judge_lines any x fresh_point 1) s.lines ∙ judge_stuck any s.before s.line s.after fresh_point 1 p a

        go : (f : Bool) → allowed_at free (after s.before fresh_point 1) s.line ≡ f → Either
        go false f = inl (bad strict s.passed s.stopped ∙ sym (bad free (pass_weaker (allowed_at strict) (allowed_at free) next_at at_free s.before fresh_point 1 s.passed) f))
        go true f =
            let o = only_free (after s.before fresh_point 1) s.line s.stopped f in
            inr (
              length s.before + 1,
              record {
                before = s.before;
                line = s.line;
                after = s.after;
                lines = s.lines;
                number = refl;
                begins = passes_begins strict s.before (first_no_feeds s.before (s.line ∷ s.after) (rw s.lines at (lines_no_feeds t))) s.passed;
                none = none_after TypeWord s.before fresh_point 1 o.1;
                ends = o.0;
              },
            )

    pub same_or_untyped : Either
    same_or_untyped = ⊎_elim passing stuck (pass_or_stuck (allowed_at strict) next_at (lines_of t) fresh_point 1)
