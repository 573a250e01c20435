-- What stays as lines pass: a size once it is given, and the number and the place of `.p`; and where that line stands.
use Prim.Native.Nat.{ℕ, ◌+◌, ◌≤◌}
use mathlib.Core.Path.{◌≡◌, refl, sym, ◌∙◌, ap}
use mathlib.Core.List.{List, [], ◌∷◌, ◌++◌}
use mathlib.Core.Logic.{◌⊎◌, inl, inr, ⊎_elim}
use mathlib.Core.Bool.{Bool, true, false, not, ◌||◌, false≢true}
use native.Mathlib.Omega.{arith}
use lib.Dec.{eqb}
use lib.ListN.{length}
use borrow.Author.Tests.{eqb-true}
use Rattle.table.proofs.Basics.{and_l, and_r, or_r, false_test}
use Rattle.names.specs.Names.{same_fields, names_in}
use Rattle.names.proofs.Equal.{same_fields_is}
use Rattle.lines.specs.Lines.{line_of, recounted}
use Rattle.lines.specs.declared.Line.{Line}
use Rattle.lines.specs.declared.Line.TheVariants.{Empty, Sized, Named, Typed, Rows, Row, End, Fault}
use Rattle.headers.specs.Headers.{has_header, fits_of, allowed_of, named, agrees_of, held_of, next_of, with_header, Point, allowed_by, next_by, allowed_at, next_at}
use Rattle.headers.specs.declared.Seen.{Seen}
use Rattle.headers.specs.Accepted.{is_header}
use Rattle.headers.specs.Places.{Counts, Alike}
use Rattle.headers.specs.declared.Layout.{Layout}
use Rattle.lines.specs.declared.Part.TheVariants.{Ins, Outs}
use Rattle.headers.specs.declared.Header.{Header}
use Rattle.headers.specs.declared.Header.TheVariants.{Size, Names, TypeWord, Count}
use Rattle.headers.specs.declared.State.{State}
use Rattle.headers.proofs.Passing.{state_after, all_pass, pass_here, pass_more, pass_others, after_append}
use Rattle.headers.proofs.Machine.{passes, after}
use Rattle.headers.proofs.Counts.{on_point, allowed_on_count, next_on_count}
use Rattle.headers.proofs.Seeing.{next_goes, has_next, count_line, new_header, header_fits}

-- ---- the two tests of a line

pub allowed_state : (lay : Layout) (pt : Point) (x : Line) (ns : List (List ℕ)) → allowed_by lay pt x ns ≡ true → allowed_of lay pt.state x ≡ true
unfolding allowed_by
allowed_state lay pt x ns a = and_l (allowed_of lay pt.state x) _ a

pub allowed_agrees : (lay : Layout) (pt : Point) (x : Line) (ns : List (List ℕ)) → allowed_by lay pt x ns ≡ true → agrees_of pt.state.seen pt.held x ns ≡ true
unfolding allowed_by
allowed_agrees lay pt x ns a = and_r (allowed_of lay pt.state x) _ a

pub pass_state : (lay : Layout) (l : List ℕ) (ls : List (List ℕ)) (pt : Point) (k : ℕ) → passes lay (l ∷ ls) pt k ≡ true → allowed_by lay pt (line_of l) (names_in l) ≡ true
unfolding allowed_at
pass_state lay l ls pt k h = pass_here (allowed_at lay) next_at l ls pt k h

pub pass_next : (lay : Layout) (l : List ℕ) (ls : List (List ℕ)) (pt : Point) (k : ℕ) → passes lay (l ∷ ls) pt k ≡ true → passes lay ls (next_by pt (line_of l) (names_in l) k) (k + 1) ≡ true
unfolding next_at
pass_next lay l ls pt k h = pass_more (allowed_at lay) next_at l ls pt k h

-- ---- the size

pub fits_is : (s n : ℕ) → 1 ≤ s → fits_of s n ≡ true → n ≡ s
unfolding fits_of
fits_is s n h f = go (eqb s 0) refl f
  where
    go : (t : Bool) → eqb s 0 ≡ t → (t || eqb s n) ≡ true → n ≡ s
    go true e f = absurd (no (eqb-true s 0 e))
      where
        no : s ≡ 0 → ⊥
        no z = omega arith
    go false e f = sym (eqb-true s n f)

pub size_next : (lay : Layout) (st : State) (l : Line) (k : ℕ) → 1 ≤ st.size → allowed_of lay st l ≡ true → (next_of st l k).size ≡ st.size
size_next lay st Empty k h a = refl
size_next lay st (Sized p n) k h a = fits_is st.size n h (header_fits st (Size p) _ a)
size_next lay st (Named p n) k h a = fits_is st.size n h (header_fits st (Names p) _ a)
size_next lay st (Typed t) k h a = refl
size_next lay st (Rows v) k h a = refl
size_next lay st (Row m) k h a = refl
size_next lay st End k h a = refl
size_next lay st Fault k h a = refl

-- a size that is given stays
pub size_stays : (lay : Layout) (ls : List (List ℕ)) (pt : Point) (k : ℕ) → 1 ≤ pt.state.size → passes lay ls pt k ≡ true → (after ls pt k).state.size ≡ pt.state.size
unfolding state_after next_at
size_stays lay [] pt k h p = refl
size_stays lay (l ∷ ls) pt k h p =
    let e = size_next lay pt.state (line_of l) k h (allowed_state lay pt (line_of l) (names_in l) (pass_state lay l ls pt k p)) in
    size_stays lay ls (next_by pt (line_of l) (names_in l) k) (k + 1) (rw e h) (pass_next lay l ls pt k p) ∙ e

-- ---- the names that are held

-- one header more: a name line stands there still
pub named_stays : (s : Seen) (g : Header) → named s ≡ true → named (with_header s g) ≡ true
unfolding named
named_stays s (Size Ins) n = n
named_stays s (Size Outs) n = n
named_stays s (Names Ins) n = refl
named_stays s (Names Outs) n = or_r s.in_names true refl
named_stays s TypeWord n = n
named_stays s Count n = n

agree_is : (s : Seen) (held ns : List (List ℕ)) → named s ≡ true → (not (named s) || same_fields held ns) ≡ true → ns ≡ held
agree_is s held ns n a = sym (same_fields_is held ns (go (named s) n a))
  where
    go : (t : Bool) → t ≡ true → (not t || same_fields held ns) ≡ true → same_fields held ns ≡ true
    go true e a = a
    go false e a = absurd (false≢true e)

held_next : (lay : Layout) (pt : Point) (x : Line) (ns : List (List ℕ)) (k : ℕ) → named pt.state.seen ≡ true → agrees_of pt.state.seen pt.held x ns ≡ true
    → (named (next_of pt.state x k).seen ≡ true) × (held_of x ns pt.held ≡ pt.held)
held_next lay pt Empty ns k n a = (n, refl)
held_next lay pt (Sized p s) ns k n a = (named_stays pt.state.seen (Size p) n, refl)
held_next lay pt (Named p s) ns k n a = (named_stays pt.state.seen (Names p) n, agree_is pt.state.seen pt.held ns n a)
held_next lay pt (Typed t) ns k n a = (named_stays pt.state.seen TypeWord n, refl)
held_next lay pt (Rows v) ns k n a = (named_stays pt.state.seen Count n, refl)
held_next lay pt (Row m) ns k n a = (n, refl)
held_next lay pt End ns k n a = (n, refl)
held_next lay pt Fault ns k n a = (n, refl)

-- names that are held stay
pub held_stays : (lay : Layout) (ls : List (List ℕ)) (pt : Point) (k : ℕ) → named pt.state.seen ≡ true → passes lay ls pt k ≡ true → (after ls pt k).held ≡ pt.held
unfolding state_after next_at
held_stays lay [] pt k n p = refl
held_stays lay (l ∷ ls) pt k n p =
    let e = held_next lay pt (line_of l) (names_in l) k n (allowed_agrees lay pt (line_of l) (names_in l) (pass_state lay l ls pt k p)) in
    held_stays lay ls (next_by pt (line_of l) (names_in l) k) (k + 1) e.0 (pass_next lay l ls pt k p) ∙ e.1

-- ---- the number after `.p`

-- once `.p` stood there, its number and its place stay
pub record CountStood (v p : ℕ) (st : State) : Type 0 where
  pub is : st.seen.count ≡ true
  pub count : st.want ≡ v
  pub at : st.place ≡ p

count_stays : (st : State) (l : Line) (k : ℕ) → st.seen.count ≡ true → (next_of st l k).seen.count ≡ true
count_stays st l k c = has_next st l k Count ∙ or_r (is_header Count l) (has_header st.seen Count) c

next_counted : (lay : Layout) (st : State) (l : Line) (k v p : ℕ) → CountStood v p st → allowed_of lay st l ≡ true → CountStood v p (next_of st l k)
next_counted lay st l k v p c a =
    let g = next_goes st l k in
    let other : is_header Count l ≡ false = false_test (is_header Count l) (λ e. false≢true (sym (new_header lay st l Count a e) ∙ c.is)) in
    record { is = count_stays st l k c.is; count = g.want other ∙ c.count; at = g.place other ∙ c.at }

pub after_counted : (lay : Layout) (ls : List (List ℕ)) (pt : Point) (k v p : ℕ) → CountStood v p pt.state → passes lay ls pt k ≡ true → CountStood v p (after ls pt k).state
unfolding state_after next_at
after_counted lay [] pt k v p c h = c
after_counted lay (l ∷ ls) pt k v p c h =
    after_counted lay ls (next_by pt (line_of l) (names_in l) k) (k + 1) v p
    (next_counted lay pt.state (line_of l) k v p c (allowed_state lay pt (line_of l) (names_in l) (pass_state lay l ls pt k h))) (pass_next lay l ls pt k h)

pub counted_at : (lay : Layout) (ls pre : List (List ℕ)) (l : List ℕ) (post : List (List ℕ)) (pt : Point) (k v : ℕ) → ls ≡ pre ++ l ∷ post → line_of l ≡ Rows v
    → passes lay ls pt k ≡ true → CountStood v (length pre + k) (after ls pt k).state
unfolding state_after next_at
counted_at lay ls pre l post pt k v s e h =
    rw (s, after_append next_at pre (l ∷ post) pt k)
    (after_counted lay post (next_by (after pre pt k) (line_of l) (names_in l) (length pre + k)) (length pre + k + 1) v (length pre + k)
    (rw e (record { is = refl; count = refl; at = refl }))
    (pass_next lay l post (after pre pt k) (length pre + k) (pass_others (allowed_at lay) next_at pre (l ∷ post) pt k (rw s at h))))

-- a line `.p` is among lines after which it stood there
pub record CountIn (ls : List (List ℕ)) : Type 0 where
  pub before : List (List ℕ)
  pub line : List ℕ
  pub after : List (List ℕ)
  pub count : ℕ
  pub lines : ls ≡ before ++ line ∷ after
  pub counts : line_of line ≡ Rows count

next_not_counted : (st : State) (l : Line) (k : ℕ) → ((v : ℕ) × (l ≡ Rows v)) ⊎ ((next_of st l k).seen.count ≡ st.seen.count)
next_not_counted st l k = go (is_header Count l) refl
  where
    go : (c : Bool) → is_header Count l ≡ c → ((v : ℕ) × (l ≡ Rows v)) ⊎ ((next_of st l k).seen.count ≡ st.seen.count)
    go true e = inl (count_line l e)
    go false e = inr (has_next st l k Count ∙ ap (λ (t : Bool). t || st.seen.count) e)

pub count_in : (ls : List (List ℕ)) (pt : Point) (k : ℕ) → pt.state.seen.count ≡ false → (after ls pt k).state.seen.count ≡ true → CountIn ls
unfolding state_after next_at
count_in [] pt k f h = absurd (false≢true (sym f ∙ h))
count_in (l ∷ ls) pt k f h =
    ⊎_elim
    (λ r. record { before = []; line = l; after = ls; count = r.0; lines = refl; counts = r.1 })
    (λ e.
    let c = count_in ls (next_by pt (line_of l) (names_in l) k) (k + 1) (e ∙ f) h in
    record { before = l ∷ c.before; line = c.line; after = c.after; count = c.count; lines = ap (λ (x : List (List ℕ)). l ∷ x) c.lines; counts = c.counts })
    (next_not_counted pt.state (line_of l) k)

-- ---- lines that are the same but for the number after `.p`

abbrev blank : ℕ → ℕ
blank v = 0

module _ (lay : Layout) (pt pm : Point) (s : on_point blank pt ≡ on_point blank pm) (x y : Line) (ns : List (List ℕ)) (e : recounted blank x ≡ recounted blank y) where
  alike_by : allowed_by lay pt x ns ≡ allowed_by lay pm y ns
  alike_by = sym (allowed_on_count blank lay pt x ns) ∙ rw (s, e) (allowed_on_count blank lay pm y ns)

  alike_next_by : (k : ℕ) → on_point blank (next_by pt x ns k) ≡ on_point blank (next_by pm y ns k)
  alike_next_by k =
      sym (next_on_count blank pt x ns k)
      ∙ ap (λ (z : Point). next_by z (recounted blank x) ns k) s
      ∙ ap (λ (z : Line). next_by (on_point blank pm) z ns k) e
      ∙ next_on_count blank pm y ns k

-- a line `.p` has no names
rows_by : (lay : Layout) (pt : Point) (v : ℕ) (ns ms : List (List ℕ)) → allowed_by lay pt (Rows v) ns ≡ allowed_by lay pt (Rows v) ms
unfolding allowed_by
rows_by lay pt v ns ms = refl

alike_allowed : (lay : Layout) (pt pm : Point) → on_point blank pt ≡ on_point blank pm → (l m : List ℕ) → (l ≡ m) ⊎ (Counts l × Counts m) → allowed_at lay pt l ≡ allowed_at lay pm m
unfolding allowed_at
alike_allowed lay pt pm s l m (inl e) = rw (← e) (alike_by lay pt pm s (line_of l) (line_of l) (names_in l) refl)
alike_allowed lay pt pm s l m (inr c) =
    rw (c.0.1, c.1.1) (alike_by lay pt pm s (Rows c.0.0) (Rows c.1.0) (names_in l) refl ∙ rows_by lay pm c.1.0 (names_in l) (names_in m))

alike_next : (pt pm : Point) (lay : Layout) → on_point blank pt ≡ on_point blank pm → (l m : List ℕ) → (l ≡ m) ⊎ (Counts l × Counts m) → (k : ℕ) → on_point blank (next_at pt l k) ≡ on_point blank (next_at pm m k)
unfolding next_at
alike_next pt pm lay s l m (inl e) k =
    alike_next_by lay pt pm s (line_of l) (line_of l) (names_in l) refl k ∙ ap (λ (z : List ℕ). on_point blank (next_by pm (line_of z) (names_in z) k)) e
alike_next pt pm lay s l m (inr c) k =
    rw (c.0.1, c.1.1) (alike_next_by lay pt pm s (Rows c.0.0) (Rows c.1.0) (names_in l) refl k)

pub alike_pass : (lay : Layout) (ls ms : List (List ℕ)) (pt pm : Point) (k : ℕ) → Alike ls ms → on_point blank pt ≡ on_point blank pm → passes lay ls pt k ≡ passes lay ms pm k
unfolding all_pass
alike_pass lay [] [] pt pm k a s = refl
alike_pass lay [] (m ∷ ms) pt pm k a s = absurd a
alike_pass lay (l ∷ ls) [] pt pm k a s = absurd a
alike_pass lay (l ∷ ls) (m ∷ ms) pt pm k a s =
    rw (alike_allowed lay pt pm s l m a.0, alike_pass lay ls ms (next_at pt l k) (next_at pm m k) (k + 1) a.1 (alike_next pt pm lay s l m a.0 k))
