-- The place of a fault is 01's: a text is refused at a line exactly when that line and those before it begin no accepted text, or the
-- end mark is missing and it is the number after the last line, or the text has no other fault and the number after `.p` is wrong.
use Prim.Native.Nat.{ℕ, ◌+◌}
use mathlib.Core.Path.{◌≡◌, refl, sym, ◌∙◌, ap}
use mathlib.Core.List.{List, [], ◌∷◌, ◌++◌, append_assoc}
use mathlib.Core.Logic.{◌↔◌, ◌⊎◌, inl, inr, ⊎_elim}
use mathlib.Core.Bool.{Bool, true, false, cond, ◌||◌, false≢true}
use native.Mathlib.Nat.{zero-add}
use lib.Dec.{eqb}
use lib.ListN.{length}
use borrow.Author.Tests.{ne_eqb, eqb-false}
use Rattle.table.proofs.Basics.{and_i, and_l}
use Rattle.fields.specs.Texts.{lines_of}
use Rattle.fields.proofs.JoinLaws.{NoFeed, NoFeeds, text_of, lines_of_text, lines_no_feeds, append_no_feeds}
use Rattle.names.specs.Names.{names_in}
use Rattle.lines.specs.Lines.{line_of, view_of}
use Rattle.lines.proofs.Written.{count_text, count_text_lem, count_no_feed}
use Rattle.headers.specs.Headers.{next_of, Point, next_by, allowed_at, next_at, fresh_point}
use Rattle.headers.specs.Verdicts.{finish_of, judge_lines, judge_of}
use Rattle.headers.specs.Accepted.{is_header, rows_in, Accepted}
use Rattle.headers.specs.Places.{Counts, Alike, Begins, end_in, FaultyLine, EndMissing, WrongCount, Place}
use Rattle.headers.specs.declared.Layout.{Layout}
use Rattle.headers.specs.declared.Header.TheVariants.{Count}
use Rattle.headers.specs.declared.State.{State}
use Rattle.headers.specs.Verdicts.{Verdict}
use Rattle.std.specs.Prelude.{Ok, Err}
use Rattle.headers.proofs.Passing.{state_after, all_pass, Stuck, pass_or_stuck, pass_first, pass_append, pass_others, after_append}
use Rattle.headers.proofs.Machine.{passes, after, judge_passing, judge_stuck, after_rows, after_ended}
use Rattle.headers.proofs.Seeing.{next_goes, has_next, count_line}
use Rattle.headers.proofs.After.{CountStood, counted_at, count_in, alike_pass}
use Rattle.headers.proofs.Completing.{sound_passing, leads_on}
use Rattle.headers.proofs.Accepting.{good_or_bad, finish_i, good_text, text_passes, good_iff_text}

-- ---- lines with another number after `.p`

recount_as : Bool → ℕ → List ℕ → List ℕ
recount_as c r l = cond c (count_text r) l

recount : ℕ → List (List ℕ) → List (List ℕ)
recount r [] = []
recount r (l ∷ ls) = recount_as (is_header Count (line_of l)) r l ∷ recount r ls

recount_alike_line : (c : Bool) (r : ℕ) (l : List ℕ) → is_header Count (line_of l) ≡ c → (l ≡ recount_as c r l) ⊎ (Counts l × Counts (recount_as c r l))
unfolding recount_as
recount_alike_line true r l e = inr (count_line (line_of l) e, (r, count_text_lem r))
recount_alike_line false r l e = inl refl

recount_alike : (r : ℕ) (ls : List (List ℕ)) → Alike ls (recount r ls)
unfolding recount
recount_alike r [] = tt
recount_alike r (l ∷ ls) = (recount_alike_line (is_header Count (line_of l)) r l refl, recount_alike r ls)

recount_clean_line : (c : Bool) (r : ℕ) (l : List ℕ) → NoFeed l → NoFeed (recount_as c r l)
unfolding recount_as
recount_clean_line true r l h = count_no_feed r
recount_clean_line false r l h = h

recount_clean : (r : ℕ) (ls : List (List ℕ)) → NoFeeds ls → NoFeeds (recount r ls)
unfolding recount
recount_clean r [] h = tt
recount_clean r (l ∷ ls) h = (recount_clean_line (is_header Count (line_of l)) r l h.0, recount_clean r ls h.1)

recount_view : (c : Bool) (r : ℕ) (l : List ℕ) → is_header Count (line_of l) ≡ c → view_of (line_of (recount_as c r l)) ≡ view_of (line_of l)
unfolding recount_as
recount_view true r l e = ap view_of (count_text_lem r) ∙ sym (ap view_of (count_line (line_of l) e).1)
recount_view false r l e = refl

recount_rows : (r : ℕ) (ls : List (List ℕ)) → rows_in (recount r ls) ≡ rows_in ls
unfolding recount rows_in
recount_rows r [] = refl
recount_rows r (l ∷ ls) = rw (recount_view (is_header Count (line_of l)) r l refl, recount_rows r ls)

-- a state whose `.p`, if it stood there, has the number r
abbrev Wants : ℕ → State → Type 0
Wants r st = st.seen.count ≡ true → st.want ≡ r

recount_want_line : (c : Bool) (r : ℕ) (l : List ℕ) (st : State) (k : ℕ) → is_header Count (line_of l) ≡ c → Wants r st → Wants r (next_of st (line_of (recount_as c r l)) k)
unfolding recount_as
recount_want_line true r l st k e h = rw (count_text_lem r) (λ c. refl)
recount_want_line false r l st k e h = λ c. (next_goes st (line_of l) k).want e ∙ h (sym (has_next st (line_of l) k Count ∙ ap (λ (t : Bool). t || st.seen.count) e) ∙ c)

recount_wants : (r : ℕ) (ls : List (List ℕ)) (pt : Point) (k : ℕ) → Wants r pt.state → Wants r (after (recount r ls) pt k).state
unfolding recount state_after next_at
recount_wants r [] pt k h = h
recount_wants r (l ∷ ls) pt k h =
    let m = recount_as (is_header Count (line_of l)) r l in
    recount_wants r ls (next_by pt (line_of m) (names_in m) k) (k + 1) (recount_want_line (is_header Count (line_of l)) r l pt.state k refl h)

-- ---- lines begin an accepted text exactly when they all pass

pub passes_begins : (lay : Layout) (ls : List (List ℕ)) → NoFeeds ls → passes lay ls fresh_point 1 ≡ true → Begins lay ls
passes_begins lay ls clean h =
    let r = rows_in ls in
    let ms = recount r ls in
    let p : passes lay ms fresh_point 1 ≡ true = sym (alike_pass lay ls ms fresh_point fresh_point 1 (recount_alike r ls) refl) ∙ h in
    let pt = after ms fresh_point 1 in
    let c = leads_on lay pt (length ms + 1) (sound_passing lay ms p) in
    let last = after c.0 pt (length ms + 1) in
    let lines : lines_of (text_of (ms ++ c.0)) ≡ ms ++ c.0 = lines_of_text (ms ++ c.0) (append_no_feeds ms c.0 (recount_clean r ls clean) c.1.clean) in
    let rows : last.state.rows ≡ r = c.1.beside.rows ∙ after_rows ms fresh_point 1 ∙ zero-add (rows_in ms) ∙ recount_rows r ls in
    let wants : Wants r last.state = λ d. c.1.beside.want ∙ recount_wants r ls fresh_point 1 (λ z. none z) (sym c.1.beside.count ∙ d) in
    let good : judge_lines lay (lines_of (text_of (ms ++ c.0))) fresh_point 1 ≡ Ok last.state.size =
    ap (λ (x : List (List ℕ)). judge_lines lay x fresh_point 1) lines
    ∙ judge_passing lay (ms ++ c.0) fresh_point 1 (pass_append (allowed_at lay) next_at ms c.0 fresh_point 1 p c.1.passing)
    ∙ ap (λ (q : Point). finish_of q.state (length (ms ++ c.0) + 1)) (after_append next_at ms c.0 fresh_point 1)
    ∙ finish_i last.state _ last.state.size (record { ended = c.1.ended; counts = λ d. wants d ∙ sym rows; size = refl }) in
    record {
      text = text_of (ms ++ c.0);
      first = ms;
      others = c.0;
      lines = lines;
      alike = recount_alike r ls;
      size = last.state.size;
      accepted = good_text lay (lines_of (text_of (ms ++ c.0))) last.state.size good;
    }
  where
    none : false ≡ true → ◌≡◌ {A = ℕ} 0 (rows_in ls)
    none e = absurd (false≢true e)

pub begins_passes : (lay : Layout) (ls : List (List ℕ)) → Begins lay ls → passes lay ls fresh_point 1 ≡ true
begins_passes lay ls b =
    alike_pass lay ls b.first fresh_point fresh_point 1 b.alike refl
    ∙ pass_first (allowed_at lay) next_at b.first b.others fresh_point 1 (rw b.lines at (text_passes lay b.size (lines_of b.text) b.accepted))

-- ---- the theorem

pub first_no_feeds : (ls ms : List (List ℕ)) → NoFeeds (ls ++ ms) → NoFeeds ls
first_no_feeds [] ms h = tt
first_no_feeds (l ∷ ls) ms h = (h.0, first_no_feeds ls ms h.1)

or_end : (a : Bool) → (a || false) ≡ a
or_end true = refl
or_end false = refl

module _ (lay : Layout) (t : List ℕ) where
  abbrev last : State
  last = (after (lines_of t) fresh_point 1).state

  ended_is : last.ended ≡ end_in (lines_of t)
  ended_is = after_ended (lines_of t) fresh_point 1 ∙ or_end (end_in (lines_of t))

  rows_are : last.rows ≡ rows_in (lines_of t)
  rows_are = after_rows (lines_of t) fresh_point 1 ∙ zero-add (rows_in (lines_of t))

  passing_verdict : passes lay (lines_of t) fresh_point 1 ≡ true → judge_of lay t ≡ finish_of last (length (lines_of t) + 1)
  unfolding judge_of
  passing_verdict p = judge_passing lay (lines_of t) fresh_point 1 p

  -- the first line that is not allowed is faulty, and the verdict's place
  module _ (pre : List (List ℕ)) (l : List ℕ) (post : List (List ℕ)) (e : lines_of t ≡ pre ++ l ∷ post) (p : passes lay pre fresh_point 1 ≡ true) where
    stuck_verdict : allowed_at lay (after pre fresh_point 1) l ≡ false → judge_of lay t ≡ Err (length pre + 1)
    unfolding judge_of
    stuck_verdict s = ap (λ (x : List (List ℕ)). judge_lines lay x fresh_point 1) e ∙ judge_stuck lay pre l post fresh_point 1 p s

    -- one line more passes exactly if it is allowed
    one_more : passes lay (pre ++ l ∷ []) fresh_point 1 ≡ true → allowed_at lay (after pre fresh_point 1) l ≡ true
    unfolding all_pass
    one_more q = and_l (allowed_at lay (after pre fresh_point 1) l) _ (pass_others (allowed_at lay) next_at pre (l ∷ []) fresh_point 1 q)

    one_more_back : allowed_at lay (after pre fresh_point 1) l ≡ true → passes lay (pre ++ l ∷ []) fresh_point 1 ≡ true
    unfolding all_pass
    one_more_back a = pass_append (allowed_at lay) next_at pre (l ∷ []) fresh_point 1 p (and_i _ _ a refl)

    pre_clean : NoFeeds (pre ++ l ∷ [])
    pre_clean = first_no_feeds (pre ++ l ∷ []) post (rw (append_assoc pre (l ∷ []) post, ← e) (lines_no_feeds t))

  stuck_faulty : (k : ℕ) → judge_of lay t ≡ Err k → Stuck (allowed_at lay) next_at (lines_of t) fresh_point 1 → FaultyLine lay t k
  stuck_faulty k h s =
      let v : Err k ≡ Err (length s.before + 1) = sym h ∙ stuck_verdict s.before s.line s.after s.lines s.passed s.stopped in
      record {
        before = s.before;
        line = s.line;
        after = s.after;
        lines = s.lines;
        number = cc;
        begins = passes_begins lay s.before (first_no_feeds s.before (s.line ∷ s.after) (rw s.lines at (lines_no_feeds t))) s.passed;
        begins_no_more = λ b.
            let a = one_more s.before s.line s.after s.lines s.passed (begins_passes lay (s.before ++ s.line ∷ []) b) in
            false≢true (sym s.stopped ∙ a);
      }

  -- a text whose lines all pass is refused only at its end
  passing_place : (k : ℕ) → judge_of lay t ≡ Err k → passes lay (lines_of t) fresh_point 1 ≡ true → EndMissing lay t k ⊎ WrongCount lay t k
  unfolding finish_of
  passing_place k h p = go last.ended refl last.seen.count refl (eqb last.want last.rows) refl (sym h ∙ passing_verdict p)
    where
      wrong : last.ended ≡ true → last.seen.count ≡ true → eqb last.want last.rows ≡ false → ◌≡◌ {A = Verdict} (Err k) (Err last.place) → WrongCount lay t k
      wrong e c w v =
          let i = count_in (lines_of t) fresh_point 1 refl c in
          let d : CountStood i.count (length i.before + 1) last = counted_at lay (lines_of t) i.before i.line i.after fresh_point 1 i.count i.lines i.counts p in
          record {
            before = i.before;
            line = i.line;
            after = i.after;
            count = i.count;
            lines = i.lines;
            number = let q : k ≡ last.place = cc in q ∙ d.at;
            counts = i.counts;
            begins = passes_begins lay (lines_of t) (lines_no_feeds t) p;
            ended = sym ended_is ∙ e;
            wrong = λ q. eqb-false last.want last.rows w (d.count ∙ q ∙ sym rows_are);
          }

      go : (e : Bool) → last.ended ≡ e → (c : Bool) → last.seen.count ≡ c → (w : Bool) → eqb last.want last.rows ≡ w
          → Err k ≡ cond e (cond c (cond w (Ok last.size) (Err last.place)) (Ok last.size)) (Err (length (lines_of t) + 1))
          → EndMissing lay t k ⊎ WrongCount lay t k
      go false e c f w g v = inl (record { begins = passes_begins lay (lines_of t) (lines_no_feeds t) p; endless = sym ended_is ∙ e; number = cc })
      go true e false f w g v = absurd (good_or_bad last.size k (sym v))
      go true e true f true g v = absurd (good_or_bad last.size k (sym v))
      go true e true f false g v = inr (wrong e f g v)

  pub bad_place : (k : ℕ) → judge_of lay t ≡ Err k → Place lay t k
  bad_place k h = ⊎_elim (λ p. inr (passing_place k h p)) (λ s. inl (stuck_faulty k h s)) (pass_or_stuck (allowed_at lay) next_at (lines_of t) fresh_point 1)

  faulty_bad : (k : ℕ) → FaultyLine lay t k → judge_of lay t ≡ Err k
  faulty_bad k f = go (allowed_at lay (after f.before fresh_point 1) f.line) refl
    where
      passed : passes lay f.before fresh_point 1 ≡ true
      passed = begins_passes lay f.before f.begins

      go : (a : Bool) → allowed_at lay (after f.before fresh_point 1) f.line ≡ a → judge_of lay t ≡ Err k
      go true a =
          absurd (f.begins_no_more (passes_begins lay (f.before ++ f.line ∷ []) (pre_clean f.before f.line f.after f.lines passed)
          (one_more_back f.before f.line f.after f.lines passed a)))
      go false a = stuck_verdict f.before f.line f.after f.lines passed a ∙ ap Err (sym f.number)

  missing_bad : (k : ℕ) → EndMissing lay t k → judge_of lay t ≡ Err k
  unfolding finish_of
  missing_bad k m = passing_verdict (begins_passes lay (lines_of t) m.begins) ∙ rw (ended_is ∙ m.endless) (ap Err (sym m.number))

  count_bad : (k : ℕ) → WrongCount lay t k → judge_of lay t ≡ Err k
  unfolding finish_of
  count_bad k w =
      let p = begins_passes lay (lines_of t) w.begins in
      let d : CountStood w.count (length w.before + 1) last = counted_at lay (lines_of t) w.before w.line w.after fresh_point 1 w.count w.lines w.counts p in
      passing_verdict p
      ∙ rw (ended_is ∙ w.ended, d.is, ne_eqb last.want last.rows (λ q. w.wrong (sym d.count ∙ q ∙ rows_are)))
      (ap Err (d.at ∙ sym w.number))

  -- a text is refused at k exactly when k is the place of a fault as 01 defines it
  pub bad_iff_place : (k : ℕ) → (judge_of lay t ≡ Err k) ↔ Place lay t k
  bad_iff_place k = (bad_place k, λ p. ⊎_elim (faulty_bad k) (λ q. ⊎_elim (missing_bad k) (count_bad k) q) p)

-- ---- the definitions leave no choice

module _ (lay : Layout) (t : List ℕ) where
  -- a text is one of the layout for some number of relays, or it has a fault
  pub accepted_or_place : ((n : ℕ) × Accepted lay n t) ⊎ ((k : ℕ) × Place lay t k)
  accepted_or_place = go (judge_of lay t) refl
    where
      go : (v : Verdict) → judge_of lay t ≡ v → ((n : ℕ) × Accepted lay n t) ⊎ ((k : ℕ) × Place lay t k)
      go (Ok n) e = inl (n, (good_iff_text lay t n).0 e)
      go (Err k) e = inr (k, (bad_iff_place lay t k).0 e)

  -- and not both
  pub accepted_no_place : (n k : ℕ) → Accepted lay n t → Place lay t k → ⊥
  accepted_no_place n k a p = good_or_bad n k (sym ((good_iff_text lay t n).1 a) ∙ (bad_iff_place lay t k).1 p)

  -- the number of relays is one, and so is the place
  pub one_size : (n m : ℕ) → Accepted lay n t → Accepted lay m t → n ≡ m
  one_size n m a b = go (sym ((good_iff_text lay t n).1 a) ∙ (good_iff_text lay t m).1 b)
    where
      go : ◌≡◌ {A = Verdict} (Ok n) (Ok m) → n ≡ m
      go e = cc

  pub one_place : (k j : ℕ) → Place lay t k → Place lay t j → k ≡ j
  one_place k j p q = go (sym ((bad_iff_place lay t k).1 p) ∙ (bad_iff_place lay t j).1 q)
    where
      go : ◌≡◌ {A = Verdict} (Err k) (Err j) → k ≡ j
      go e = cc
