-- The verdict is good exactly for the texts of the layout, as specs/Accepted defines them.
use Prim.Native.Nat.{ℕ, ◌+◌, ◌≤◌}
use mathlib.Core.Path.{◌≡◌, refl, sym, ◌∙◌, ap}
use mathlib.Core.List.{List, [], ◌∷◌, ◌++◌}
use mathlib.Core.Logic.{◌↔◌, ◌⊎◌, inl, inr, ⊎_elim}
use mathlib.Core.Bool.{Bool, true, false, cond, not, ◌&&◌, ◌||◌, false≢true}
use native.Mathlib.Omega.{arith}
use lib.Dec.{eqb}
use lib.ListN.{length}
use borrow.Author.Tests.{eq-eqb, eqb-true}
use Rattle.table.proofs.Basics.{and_i, or_r}
use Rattle.fields.specs.Texts.{lines_of}
use Rattle.names.specs.Names.{same_fields, names_in}
use Rattle.names.proofs.Equal.{same_fields_self}
use Rattle.lines.specs.Lines.{line_of}
use Rattle.lines.specs.declared.Part.{Part}
use Rattle.lines.specs.declared.Part.TheVariants.{Ins, Outs}
use Rattle.lines.specs.declared.Line.{Line}
use Rattle.lines.specs.declared.Line.TheVariants.{Empty, Sized, Named, Typed, Rows, Row, End, Fault}
use Rattle.headers.specs.Layouts.{asks}
use Rattle.headers.specs.Headers.{has_header, lacks, ready_of, fits_of, row_allowed, named, next_of, Point, allowed_by, next_by, allowed_at, next_at, fresh_state, fresh_point}
use Rattle.headers.specs.Verdicts.{finish_of, judge_lines, judge_of}
use Rattle.headers.specs.Accepted.{is_header, one, times, rows_in, HeaderLine, RowLine, EmptyLine, All, Text, Accepted}
use Rattle.headers.specs.declared.Layout.{Layout}
use Rattle.headers.specs.declared.Header.{Header}
use Rattle.headers.specs.declared.Header.TheVariants.{Size, Names, TypeWord, Count}
use Rattle.headers.specs.declared.Seen.{Seen}
use Rattle.headers.specs.declared.State.{State}
use Rattle.std.specs.Prelude.{Ok, Err}
use Rattle.headers.proofs.Passing.{state_after, all_pass, pass_cons, pass_append, after_append, Stuck, pass_or_stuck}
use Rattle.headers.proofs.Machine.{passes, after, judge_passing, judge_stuck, after_rows}
use Rattle.headers.proofs.Fitting.{fits_i}
use Rattle.headers.proofs.Seeing.{one_le, kind_self, header_self, has_next, ready_i, ready_e, open_i, header_i, end_i, tally_next}
use Rattle.headers.proofs.Completing.{named_size, named_word, named_count}
use Rattle.headers.proofs.Splitting.{CountsRows, Split, split_of}

-- ---- a good verdict

pub good_or_bad : (n k : ℕ) → Ok n ≡ Err k → ⊥
good_or_bad n k e = let z : ◌≡◌ {A = ℕ} 0 1 = cc in omega arith

-- what the last state of a text with a good verdict says
pub record Finished (last : State) (n : ℕ) : Type 0 where
  pub ended : last.ended ≡ true
  pub counts : CountsRows last
  pub size : last.size ≡ n

finish_e : (st : State) (k n : ℕ) → finish_of st k ≡ Ok n → Finished st n
unfolding finish_of
finish_e st k n v = go _ _ st.ended refl st.seen.count refl (eqb st.want st.rows) refl v
  where
    go : (p q : ℕ) (e : Bool) → st.ended ≡ e → (c : Bool) → st.seen.count ≡ c → (w : Bool) → eqb st.want st.rows ≡ w
        → cond e (cond c (cond w (Ok st.size) (Err p)) (Ok st.size)) (Err q) ≡ Ok n → Finished st n
    go p q false e c f w g v = absurd (good_or_bad n q (sym v))
    go p q true e false f w g v = record { ended = e; counts = λ c. absurd (false≢true (sym f ∙ c)); size = cc }
    go p q true e true f true g v = record { ended = e; counts = λ c. eqb-true st.want st.rows g; size = cc }
    go p q true e true f false g v = absurd (good_or_bad n p (sym v))

pub finish_i : (st : State) (k n : ℕ) → Finished st n → finish_of st k ≡ Ok n
unfolding finish_of
finish_i st k n f = rw f.ended (go _ st.seen.count refl) ∙ ap Ok f.size
  where
    go : (p : ℕ) (c : Bool) → st.seen.count ≡ c → cond c (cond (eqb st.want st.rows) (Ok st.size) (Err p)) (Ok st.size) ≡ Ok st.size
    go p true c = rw (eq-eqb st.want st.rows (f.counts c))
    go p false c = refl

pub good_passes : (lay : Layout) (ls : List (List ℕ)) (n : ℕ) → judge_lines lay ls fresh_point 1 ≡ Ok n → passes lay ls fresh_point 1 ≡ true
good_passes lay ls n h =
    ⊎_elim (λ p. p)
    (λ (s : Stuck (allowed_at lay) next_at ls fresh_point 1). absurd (good_or_bad n (length s.before + 1)
    (sym h ∙ ap (λ (x : List (List ℕ)). judge_lines lay x fresh_point 1) s.lines ∙ judge_stuck lay s.before s.line s.after fresh_point 1 s.passed s.stopped)))
    (pass_or_stuck (allowed_at lay) next_at ls fresh_point 1)

-- ---- a good verdict is on a text

fresh_none : (h : Header) → has_header fresh_state.seen h ≡ false
fresh_none (Size Ins) = refl
fresh_none (Size Outs) = refl
fresh_none (Names Ins) = refl
fresh_none (Names Outs) = refl
fresh_none TypeWord = refl
fresh_none Count = refl

pub asked_has : (lay : Layout) (s : Seen) (h : Header) → lacks lay s h ≡ false → asks lay s h ≡ true → has_header s h ≡ true
unfolding lacks
asked_has lay s h l a = go (has_header s h) (asks lay s h) l a
  where
    go : (b c : Bool) → (not b && c) ≡ false → c ≡ true → b ≡ true
    go true c l a = refl
    go false true l a = absurd (false≢true (sym l))
    go false false l a = absurd (false≢true a)

-- both name lines or neither
both_names : (lay : Layout) (s : Seen) → lacks lay s (Names Ins) ≡ false → lacks lay s (Names Outs) ≡ false → s.in_names ≡ s.out_names
unfolding lacks
both_names lay s a b = go s.in_names s.out_names a b
  where
    go : (x y : Bool) → (not x && y) ≡ false → (not y && x) ≡ false → x ≡ y
    go true true a b = refl
    go true false a b = absurd (false≢true (sym b))
    go false true a b = absurd (false≢true (sym a))
    go false false a b = refl

drop_none : (t m : ℕ) (b : Bool) → b ≡ false → one b + t ≡ m → t ≡ m
drop_none t m true b e = absurd (false≢true (sym b))
drop_none t m false b e = omega arith

split_text : (lay : Layout) (ls : List (List ℕ)) (last : Point) (n : ℕ) → Split lay fresh_state last ls → last.state.size ≡ n → Text lay n ls
split_text lay ls last n s z =
    let t : (h : Header) → times h s.top ≡ one (has_header last.state.seen h) = λ h. drop_none _ _ (has_header fresh_state.seen h) (fresh_none h) (s.tally h) in
    let r = ready_e lay last.state.seen s.ready in
    record {
      top = s.top;
      middle = s.middle;
      mark = s.mark;
      rest = s.rest;
      names = last.held;
      lines = s.lines;
      headers = rw (← z, s.number) s.headers;
      once = λ h. rw (t h) (one_le (has_header last.state.seen h));
      sized = λ p. t (Size p) ∙ ap one (asked_has lay last.state.seen (Size p) (r (Size p)) refl);
      typed = λ a. t TypeWord ∙ ap one (asked_has lay last.state.seen TypeWord (r TypeWord) a);
      both = t (Names Ins) ∙ ap one (both_names lay last.state.seen (r (Names Ins)) (r (Names Outs))) ∙ sym (t (Names Outs));
      rows = rw (← z) s.rows;
      ends = s.ends;
      empty = s.empty;
    }

pub good_text : (lay : Layout) (ls : List (List ℕ)) (n : ℕ) → judge_lines lay ls fresh_point 1 ≡ Ok n → Text lay n ls
good_text lay ls n h =
    let p = good_passes lay ls n h in
    let f : Finished (after ls fresh_point 1).state n = finish_e (after ls fresh_point 1).state (length ls + 1) n (sym (judge_passing lay ls fresh_point 1 p) ∙ h) in
    split_text lay ls (after ls fresh_point 1) n (split_of lay ls 1 fresh_point refl refl p f.ended f.counts) f.size

-- ---- a text gets a good verdict

-- a point among the headers of a text of n columns, r rows and the names ns
pub record Fine (n r : ℕ) (ns : List (List ℕ)) (pt : Point) : Type 0 where
  pub going : pt.state.ended ≡ false
  pub none : pt.state.rows ≡ 0
  pub size : (pt.state.size ≡ 0) ⊎ (pt.state.size ≡ n)
  pub sized : (p : Part) → has_header pt.state.seen (Size p) ≡ true → pt.state.size ≡ n
  pub wants : pt.state.seen.count ≡ true → pt.state.want ≡ r
  pub held : named pt.state.seen ≡ true → pt.held ≡ ns

fits_both : (s n : ℕ) → (s ≡ 0) ⊎ (s ≡ n) → fits_of s n ≡ true
unfolding fits_of
fits_both s n (inl e) = ap (λ (t : Bool). t || eqb s n) (eq-eqb s 0 e)
fits_both s n (inr e) = or_r (eqb s 0) (eqb s n) (eq-eqb s n e)

agrees_i : (t : Bool) (held own ns : List (List ℕ)) → (t ≡ true → held ≡ ns) → own ≡ ns → (not t || same_fields held own) ≡ true
agrees_i true held own ns h e = rw (h refl, e) (same_fields_self ns)
agrees_i false held own ns h e = refl

fine_line : (lay : Layout) (n r : ℕ) (ns : List (List ℕ)) (pt : Point) (l : Line) (own : List (List ℕ)) (k : ℕ) → Fine n r ns pt → HeaderLine lay n r ns l own
    → ((h : Header) → is_header h l ≡ true → has_header pt.state.seen h ≡ false) → (allowed_by lay pt l own ≡ true) × Fine n r ns (next_by pt l own k)
unfolding allowed_by
fine_line lay n r ns pt Empty own k f p new = (refl, record { going = f.going; none = f.none; size = f.size; sized = f.sized; wants = f.wants; held = f.held })
fine_line lay n r ns pt (Sized q s) own k f p new = (
  and_i _ _ (header_i pt.state (Size q) _ (open_i pt.state f.going f.none) (new (Size q) (header_self (Size q))) (rw p (fits_both pt.state.size n f.size))) refl,
  record {
    going = f.going;
    none = f.none;
    size = inr p;
    sized = λ x e. p;
    wants = λ e. f.wants (sym (has_next pt.state (Sized q s) k Count) ∙ e);
    held = λ e. f.held (sym (named_size pt.state.seen q) ∙ e);
  },
)
fine_line lay n r ns pt (Named q s) own k f p new = (
  and_i _ _
      (header_i pt.state (Names q) _ (open_i pt.state f.going f.none) (new (Names q) (header_self (Names q))) (rw p.0 (fits_both pt.state.size n f.size)))
      (agrees_i (named pt.state.seen) pt.held own ns f.held p.1),
  record {
    going = f.going;
    none = f.none;
    size = inr p.0;
    sized = λ x e. p.0;
    wants = λ e. f.wants (sym (has_next pt.state (Named q s) k Count) ∙ e);
    held = λ e. p.1;
  },
)
fine_line lay n r ns pt (Typed t) own k f p new = (
  and_i _ _ (header_i pt.state TypeWord _ (open_i pt.state f.going f.none) (new TypeWord refl) (rw p (kind_self lay.kind))) refl,
  record {
    going = f.going;
    none = f.none;
    size = f.size;
    sized = λ x e. f.sized x (sym (has_next pt.state (Typed t) k (Size x)) ∙ e);
    wants = f.wants;
    held = λ e. f.held (sym (named_word pt.state.seen) ∙ e);
  },
)
fine_line lay n r ns pt (Rows v) own k f p new = (
  and_i _ _ (header_i pt.state Count _ (open_i pt.state f.going f.none) (new Count refl) refl) refl,
  record {
    going = f.going;
    none = f.none;
    size = f.size;
    sized = λ x e. f.sized x (sym (has_next pt.state (Rows v) k (Size x)) ∙ e);
    wants = λ e. p;
    held = λ e. f.held (sym (named_count pt.state.seen) ∙ e);
  },
)
fine_line lay n r ns pt (Row m) own k f p new = absurd p
fine_line lay n r ns pt End own k f p new = absurd p
fine_line lay n r ns pt Fault own k f p new = absurd p

-- the headers pass
pub record Topped (lay : Layout) (n r : ℕ) (ns : List (List ℕ)) (pt : Point) (k : ℕ) (top : List (List ℕ)) : Type 0 where
  pub passed : passes lay top pt k ≡ true
  pub fine : Fine n r ns (after top pt k)
  pub tally : (h : Header) → one (has_header (after top pt k).state.seen h) ≡ one (has_header pt.state.seen h) + times h top

tops_pass : (lay : Layout) (n r : ℕ) (ns : List (List ℕ)) (top : List (List ℕ)) (pt : Point) (k : ℕ) → Fine n r ns pt → All (HeaderLine lay n r ns) top
    → ((h : Header) → one (has_header pt.state.seen h) + times h top ≤ 1) → Topped lay n r ns pt k top
unfolding state_after all_pass times allowed_at next_at
tops_pass lay n r ns [] pt k f a o = record { passed = refl; fine = f; tally = λ h. omega arith }
tops_pass lay n r ns (l ∷ top) pt k f a o =
    let new : (h : Header) → is_header h (line_of l) ≡ true → has_header pt.state.seen h ≡ false = λ h i. fresh (times h top) (is_header h (line_of l)) (has_header pt.state.seen h) i (o h) in
    let here = fine_line lay n r ns pt (line_of l) (names_in l) k f a.0 new in
    let one_more : (h : Header) → one (has_header (next_of pt.state (line_of l) k).seen h) ≡ one (has_header pt.state.seen h) + one (is_header h (line_of l)) = λ h. tally_next pt.state (line_of l) k h (new h) in
    let more = tops_pass lay n r ns top (next_by pt (line_of l) (names_in l) k) (k + 1) here.1 a.1 (λ h. omega (arith, one_more h, o h)) in
    record {
      passed = and_i _ _ here.0 more.passed;
      fine = more.fine;
      tally = λ h. omega (arith, more.tally h, one_more h);
    }
  where
    fresh : (t : ℕ) (i b : Bool) → i ≡ true → one b + (one i + t) ≤ 1 → b ≡ false
    fresh t i false e o = refl
    fresh t true true e o = absurd (omega arith)
    fresh t false true e o = absurd (false≢true e)

-- the rows pass
pub record Rowed (lay : Layout) (pt : Point) (k : ℕ) (middle : List (List ℕ)) : Type 0 where
  pub passed : passes lay middle pt k ≡ true
  pub seen : (after middle pt k).state.seen ≡ pt.state.seen
  pub size : (after middle pt k).state.size ≡ pt.state.size
  pub want : (after middle pt k).state.want ≡ pt.state.want
  pub ended : (after middle pt k).state.ended ≡ pt.state.ended

row_line_lem : (lay : Layout) (n : ℕ) (pt : Point) (l : Line) (own : List (List ℕ)) (k : ℕ) → pt.state.ended ≡ false → ready_of lay pt.state.seen ≡ true → pt.state.size ≡ n → RowLine lay n l own
    → (allowed_by lay pt l own ≡ true) × ((next_of pt.state l k).seen ≡ pt.state.seen) × ((next_of pt.state l k).size ≡ pt.state.size) × ((next_of pt.state l k).want ≡ pt.state.want) × ((next_of pt.state l k).ended ≡ pt.state.ended)
unfolding row_allowed allowed_by
row_line_lem lay n pt l own k e r s (inl q) = rw q (refl, refl, refl, refl, refl)
row_line_lem lay n pt l own k e r s (inr q) =
    let m = q.0 in
    let p = q.2 in
    let st = pt.state in
    rw q.1 (and_i _ _ (and_i _ _ (end_i lay st e r) (and_i _ _ (eq-eqb st.size m.width (s ∙ sym p.width)) (fits_i lay n m p))) refl, refl, refl, refl, refl)

rows_pass : (lay : Layout) (n : ℕ) (middle : List (List ℕ)) (pt : Point) (k : ℕ) → pt.state.ended ≡ false → ready_of lay pt.state.seen ≡ true → pt.state.size ≡ n → All (RowLine lay n) middle → Rowed lay pt k middle
unfolding state_after all_pass allowed_at next_at
rows_pass lay n [] pt k e r s a = record { passed = refl; seen = refl; size = refl; want = refl; ended = refl }
rows_pass lay n (l ∷ middle) pt k e r s a =
    let here = row_line_lem lay n pt (line_of l) (names_in l) k e r s a.0 in
    let more = rows_pass lay n middle (next_by pt (line_of l) (names_in l) k) (k + 1) (here.4 ∙ e) (rw here.1 r) (here.2 ∙ s) a.1 in
    record {
      passed = and_i _ _ here.0 more.passed;
      seen = more.seen ∙ here.1;
      size = more.size ∙ here.2;
      want = more.want ∙ here.3;
      ended = more.ended ∙ here.4;
    }

empty_line : (lay : Layout) (pt : Point) (l : Line) (own : List (List ℕ)) → l ≡ Empty → allowed_by lay pt l own ≡ true
unfolding allowed_by
empty_line lay pt l own e = rw e refl

-- empty lines pass and change nothing
rest_pass : (lay : Layout) (rest : List (List ℕ)) (pt : Point) (k : ℕ) → All EmptyLine rest → (passes lay rest pt k ≡ true) × (after rest pt k ≡ pt)
unfolding state_after all_pass allowed_at next_at
rest_pass lay [] pt k a = (refl, refl)
rest_pass lay (l ∷ rest) pt k a =
    let e : next_by pt (line_of l) (names_in l) k ≡ pt = ap (λ (y : Line). next_by pt y (names_in l) k) a.0 in
    let r = rest_pass lay rest (next_by pt (line_of l) (names_in l) k) (k + 1) a.1 in
    (and_i _ _ (empty_line lay pt (line_of l) (names_in l) a.0) r.0, r.1 ∙ e)

fine_fresh : (n r : ℕ) (ns : List (List ℕ)) → Fine n r ns fresh_point
unfolding named
fine_fresh n r ns =
    record {
      going = refl;
      none = refl;
      size = inl refl;
      sized = λ p e. absurd (false≢true (sym (fresh_none (Size p)) ∙ e));
      wants = λ e. absurd (false≢true e);
      held = λ e. absurd (false≢true e);
    }

lacks_none_lem : (lay : Layout) (s : Seen) (h : Header) → (asks lay s h ≡ true → has_header s h ≡ true) → lacks lay s h ≡ false
unfolding lacks
lacks_none_lem lay s h f = go (has_header s h) (asks lay s h) f
  where
    go : (b c : Bool) → (c ≡ true → b ≡ true) → (not b && c) ≡ false
    go true c f = refl
    go false true f = absurd (false≢true (f refl))
    go false false f = refl

one_same : (a b : Bool) → one a ≡ one b → a ≡ b
one_same true true e = refl
one_same true false e = absurd (omega arith)
one_same false true e = absurd (omega arith)
one_same false false e = refl

module _ (lay : Layout) (n : ℕ) (ls : List (List ℕ)) (t : Text lay n ls) where
  abbrev rows_of : ℕ
  rows_of = rows_in t.middle

  topped : Topped lay n rows_of t.names fresh_point 1 t.top
  topped = tops_pass lay n rows_of t.names t.top fresh_point 1 (fine_fresh n rows_of t.names) t.headers (λ h. rw (fresh_none h) (omega (arith, t.once h)))

  abbrev first : Point
  first = after t.top fresh_point 1

  first_times : (h : Header) → one (has_header first.state.seen h) ≡ times h t.top
  first_times h = topped.tally h ∙ rw (fresh_none h) (omega arith)

  first_has : (h : Header) → times h t.top ≡ 1 → has_header first.state.seen h ≡ true
  first_has h e = one_same (has_header first.state.seen h) true (first_times h ∙ e)

  first_both : has_header first.state.seen (Names Ins) ≡ has_header first.state.seen (Names Outs)
  first_both = one_same _ _ (first_times (Names Ins) ∙ t.both ∙ sym (first_times (Names Outs)))

  first_asked : (h : Header) → asks lay first.state.seen h ≡ true → has_header first.state.seen h ≡ true
  first_asked (Size p) a = first_has (Size p) (t.sized p)
  first_asked (Names Ins) a = first_both ∙ a
  first_asked (Names Outs) a = sym first_both ∙ a
  first_asked TypeWord a = first_has TypeWord (t.typed a)
  first_asked Count a = absurd (false≢true a)

  first_ready : ready_of lay first.state.seen ≡ true
  first_ready = ready_i lay first.state.seen (λ h. lacks_none_lem lay first.state.seen h (first_asked h))

  first_size : first.state.size ≡ n
  first_size = topped.fine.sized Ins (first_has (Size Ins) (t.sized Ins))

  abbrev at : ℕ
  at = length t.top + 1

  rowed : Rowed lay first at t.middle
  rowed = rows_pass lay n t.middle first at topped.fine.going first_ready first_size t.rows

  abbrev second : Point
  second = after t.middle first at

  abbrev at' : ℕ
  at' = length t.middle + at

  abbrev third : Point
  third = next_by second End (names_in t.mark) at'

  mark_next : next_at second t.mark at' ≡ third
  unfolding next_at
  mark_next = ap (λ (y : Line). next_by second y (names_in t.mark) at') t.ends

  resting : (passes lay t.rest third (at' + 1) ≡ true) × (after t.rest third (at' + 1) ≡ third)
  resting = rest_pass lay t.rest third (at' + 1) t.empty

  mark_allowed : allowed_at lay second t.mark ≡ true
  unfolding allowed_at allowed_by
  mark_allowed = rw t.ends (and_i _ _ (end_i lay second.state (rowed.ended ∙ topped.fine.going) (rw rowed.seen first_ready)) refl)

  tail_passes : passes lay (t.mark ∷ t.rest) second at' ≡ true
  tail_passes = pass_cons (allowed_at lay) next_at t.mark t.rest second at' mark_allowed (rw mark_next resting.0)

  tail_after : after (t.mark ∷ t.rest) second at' ≡ third
  unfolding state_after
  tail_after = rw mark_next resting.1

  pub text_passes : passes lay ls fresh_point 1 ≡ true
  text_passes =
      rw t.lines
      (pass_append (allowed_at lay) next_at t.top (t.middle ++ t.mark ∷ t.rest) fresh_point 1 topped.passed
      (pass_append (allowed_at lay) next_at t.middle (t.mark ∷ t.rest) first at rowed.passed tail_passes))

  pub text_after : after ls fresh_point 1 ≡ third
  text_after =
      rw t.lines
      (after_append next_at t.top (t.middle ++ t.mark ∷ t.rest) fresh_point 1
      ∙ after_append next_at t.middle (t.mark ∷ t.rest) first at
      ∙ tail_after)

  text_finished : Finished third.state n
  text_finished =
      record {
        ended = refl;
        counts = λ c. rowed.want ∙ topped.fine.wants (sym (ap (λ (s : Seen). s.count) rowed.seen) ∙ c) ∙ sym (after_rows t.middle first at ∙ rw topped.fine.none (omega arith));
        size = rowed.size ∙ first_size;
      }

  pub text_good : judge_lines lay ls fresh_point 1 ≡ Ok n
  text_good = judge_passing lay ls fresh_point 1 text_passes ∙ rw text_after (finish_i third.state (length ls + 1) n text_finished)

-- the verdict on a text is good, for a panel of n relays, exactly when it is a text of the layout for n relays
pub good_iff_text : (lay : Layout) (t : List ℕ) (n : ℕ) → (judge_of lay t ≡ Ok n) ↔ Accepted lay n t
unfolding judge_of
good_iff_text lay t n = (good_text lay (lines_of t) n, text_good lay n (lines_of t))
