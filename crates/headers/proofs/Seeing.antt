-- What one line does to the state: the headers that stood there, the rows, the end mark; and what a line that is allowed tells.
use Prim.Native.Nat.{ℕ, ◌+◌, ◌≤◌}
use mathlib.Core.Path.{◌≡◌, refl, sym, ◌∙◌, ap}
use mathlib.Core.List.{List, [], ◌∷◌}
use mathlib.Core.Logic.{◌⊎◌, inl, inr}
use mathlib.Core.Bool.{Bool, true, false, not, ◌&&◌, ◌||◌, false≢true}
use native.Mathlib.Omega.{arith}
use lib.Dec.{eqb}
use borrow.Author.Tests.{eq-eqb, eqb-true, not-true}
use Rattle.table.proofs.Basics.{and_i, and_l, and_r}
use Rattle.lines.specs.Lines.{view_of}
use Rattle.lines.specs.declared.Part.{Part}
use Rattle.lines.specs.declared.Part.TheVariants.{Ins, Outs}
use Rattle.lines.specs.declared.Kind.{Kind}
use Rattle.lines.specs.declared.Kind.TheVariants.{Recording, Sheet}
use Rattle.lines.specs.declared.Line.{Line}
use Rattle.lines.specs.declared.Line.TheVariants.{Empty, Sized, Named, Typed, Rows, Row, End, Fault}
use Rattle.headers.specs.Headers.{every_header, has_header, lacks, lacks_none, ready_of, same_kind, open_of, header_allowed, end_allowed, allowed_of, with_header, next_of}
use Rattle.headers.specs.Layouts.{same_part, same_header}
use Rattle.headers.specs.Accepted.{is_header, is_row, one}
use Rattle.headers.specs.Places.{is_end}
use Rattle.headers.specs.declared.Layout.{Layout}
use Rattle.headers.specs.declared.Header.{Header}
use Rattle.headers.specs.declared.Header.TheVariants.{Size, Names, TypeWord, Count}
use Rattle.headers.specs.declared.Seen.{Seen}
use Rattle.headers.specs.declared.State.{State}

-- ---- two headers

pub same_kind_lem : (a b : Kind) → same_kind a b ≡ true → b ≡ a
same_kind_lem Recording Recording e = refl
same_kind_lem Recording Sheet e = absurd (false≢true e)
same_kind_lem Sheet Recording e = absurd (false≢true e)
same_kind_lem Sheet Sheet e = refl

pub kind_self : (a : Kind) → same_kind a a ≡ true
kind_self Recording = refl
kind_self Sheet = refl

pub same_part_lem : (p q : Part) → same_part p q ≡ true → p ≡ q
same_part_lem Ins Ins e = refl
same_part_lem Ins Outs e = absurd (false≢true e)
same_part_lem Outs Ins e = absurd (false≢true e)
same_part_lem Outs Outs e = refl

pub same_header_lem : (h g : Header) → same_header h g ≡ true → h ≡ g
same_header_lem (Size p) (Size q) e = ap Size (same_part_lem p q e)
same_header_lem (Size p) (Names q) e = absurd (false≢true e)
same_header_lem (Size p) TypeWord e = absurd (false≢true e)
same_header_lem (Size p) Count e = absurd (false≢true e)
same_header_lem (Names p) (Size q) e = absurd (false≢true e)
same_header_lem (Names p) (Names q) e = ap Names (same_part_lem p q e)
same_header_lem (Names p) TypeWord e = absurd (false≢true e)
same_header_lem (Names p) Count e = absurd (false≢true e)
same_header_lem TypeWord (Size q) e = absurd (false≢true e)
same_header_lem TypeWord (Names q) e = absurd (false≢true e)
same_header_lem TypeWord TypeWord e = refl
same_header_lem TypeWord Count e = absurd (false≢true e)
same_header_lem Count (Size q) e = absurd (false≢true e)
same_header_lem Count (Names q) e = absurd (false≢true e)
same_header_lem Count TypeWord e = absurd (false≢true e)
same_header_lem Count Count e = refl

pub header_self : (h : Header) → same_header h h ≡ true
header_self (Size Ins) = refl
header_self (Size Outs) = refl
header_self (Names Ins) = refl
header_self (Names Outs) = refl
header_self TypeWord = refl
header_self Count = refl

-- ---- the headers that stood there

pub has_with : (s : Seen) (h g : Header) → has_header (with_header s g) h ≡ (same_header h g || has_header s h)
has_with s (Size Ins) g = refl
has_with s (Size Outs) g = refl
has_with s (Names Ins) g = refl
has_with s (Names Outs) g = refl
has_with s TypeWord g = refl
has_with s Count g = refl

-- what a line does to the state: its header stands there, its row is counted, its end mark is known; only `.p` gives a number and its place
pub record Goes (l : Line) (st next : State) : Type 0 where
  pub has : (h : Header) → has_header next.seen h ≡ (is_header h l || has_header st.seen h)
  pub rows : next.rows ≡ st.rows + one (is_row (view_of l))
  pub ended : next.ended ≡ (is_end (view_of l) || st.ended)
  pub want : is_header Count l ≡ false → next.want ≡ st.want
  pub place : is_header Count l ≡ false → next.place ≡ st.place

pub next_goes : (st : State) (l : Line) (k : ℕ) → Goes l st (next_of st l k)
next_goes st Empty k = record { has = λ h. refl; rows = omega arith; ended = refl; want = λ e. refl; place = λ e. refl }
next_goes st (Sized p n) k = record { has = λ h. has_with st.seen h (Size p); rows = omega arith; ended = refl; want = λ e. refl; place = λ e. refl }
next_goes st (Named p n) k = record { has = λ h. has_with st.seen h (Names p); rows = omega arith; ended = refl; want = λ e. refl; place = λ e. refl }
next_goes st (Typed t) k = record { has = λ h. has_with st.seen h TypeWord; rows = omega arith; ended = refl; want = λ e. refl; place = λ e. refl }
next_goes st (Rows v) k =
    record { has = λ h. has_with st.seen h Count; rows = omega arith; ended = refl; want = λ e. absurd (false≢true (sym e)); place = λ e. absurd (false≢true (sym e)) }
next_goes st (Row m) k = record { has = λ h. refl; rows = refl; ended = refl; want = λ e. refl; place = λ e. refl }
next_goes st End k = record { has = λ h. refl; rows = omega arith; ended = refl; want = λ e. refl; place = λ e. refl }
next_goes st Fault k = record { has = λ h. refl; rows = omega arith; ended = refl; want = λ e. refl; place = λ e. refl }

pub has_next : (st : State) (l : Line) (k : ℕ) (h : Header) → has_header (next_of st l k).seen h ≡ (is_header h l || has_header st.seen h)
has_next st l k h = (next_goes st l k).has h

-- a line that is `.p`, by its test
pub count_line : (l : Line) → is_header Count l ≡ true → (v : ℕ) × (l ≡ Rows v)
count_line Empty e = absurd (false≢true e)
count_line (Sized p n) e = absurd (false≢true e)
count_line (Named p n) e = absurd (false≢true e)
count_line (Typed t) e = absurd (false≢true e)
count_line (Rows v) e = (v, refl)
count_line (Row m) e = absurd (false≢true e)
count_line End e = absurd (false≢true e)
count_line Fault e = absurd (false≢true e)

pub one_le : (b : Bool) → one b ≤ 1
one_le true = omega arith
one_le false = omega arith

pub rows_next_le : (st : State) (l : Line) (k : ℕ) → (next_of st l k).rows ≤ st.rows + 1
rows_next_le st l k = omega (arith, (next_goes st l k).rows, one_le (is_row (view_of l)))

-- ---- what is missing

-- a header is among some
abbrev pub In : Header → List Header → Type 0
In h [] = ⊥
In h (g ∷ gs) = (h ≡ g) ⊎ In h gs

-- every header is among all
pub in_every : (h : Header) → In h every_header
in_every (Size Ins) = inl refl
in_every (Size Outs) = inr (inl refl)
in_every (Names Ins) = inr (inr (inl refl))
in_every (Names Outs) = inr (inr (inr (inl refl)))
in_every TypeWord = inr (inr (inr (inr (inl refl))))
in_every Count = inr (inr (inr (inr (inr (inl refl)))))

none_missing : (lay : Layout) (s : Seen) (hs : List Header) → ((h : Header) → lacks lay s h ≡ false) → lacks_none lay s hs ≡ true
unfolding lacks_none
none_missing lay s [] n = refl
none_missing lay s (h ∷ hs) n = and_i _ _ (ap not (n h)) (none_missing lay s hs n)

none_lacked : (lay : Layout) (s : Seen) (hs : List Header) → lacks_none lay s hs ≡ true → (h : Header) → In h hs → lacks lay s h ≡ false
unfolding lacks_none
none_lacked lay s [] n h i = absurd i
none_lacked lay s (g ∷ hs) n h (inl q) = ap (λ (x : Header). lacks lay s x) q ∙ not-true (lacks lay s g) (and_l (not (lacks lay s g)) _ n)
none_lacked lay s (g ∷ hs) n h (inr j) = none_lacked lay s hs (and_r (not (lacks lay s g)) _ n) h j

-- a state is ready exactly when it lacks no header
pub ready_i : (lay : Layout) (s : Seen) → ((h : Header) → lacks lay s h ≡ false) → ready_of lay s ≡ true
unfolding ready_of
ready_i lay s n = none_missing lay s every_header n

pub ready_e : (lay : Layout) (s : Seen) → ready_of lay s ≡ true → (h : Header) → lacks lay s h ≡ false
unfolding ready_of
ready_e lay s r h = none_lacked lay s every_header r h (in_every h)

-- ---- what a line that is allowed tells of the state

pub open_e : (st : State) → open_of st ≡ true → (st.ended ≡ false) × (st.rows ≡ 0)
unfolding open_of
open_e st h = (not-true st.ended (and_l (not st.ended) _ h), eqb-true st.rows 0 (and_r (not st.ended) (eqb st.rows 0) h))

pub open_i : (st : State) → st.ended ≡ false → st.rows ≡ 0 → open_of st ≡ true
unfolding open_of
open_i st e r = and_i (not st.ended) (eqb st.rows 0) (ap not e) (eq-eqb st.rows 0 r)

pub header_open : (st : State) (h : Header) (f : Bool) → header_allowed st h f ≡ true → open_of st ≡ true
unfolding header_allowed
header_open st h f a = and_l (open_of st) _ a

pub header_new : (st : State) (h : Header) (f : Bool) → header_allowed st h f ≡ true → has_header st.seen h ≡ false
unfolding header_allowed
header_new st h f a = not-true (has_header st.seen h) (and_l (not (has_header st.seen h)) f (and_r (open_of st) _ a))

pub header_fits : (st : State) (h : Header) (f : Bool) → header_allowed st h f ≡ true → f ≡ true
unfolding header_allowed
header_fits st h f a = and_r (not (has_header st.seen h)) f (and_r (open_of st) _ a)

pub header_i : (st : State) (h : Header) (f : Bool) → open_of st ≡ true → has_header st.seen h ≡ false → f ≡ true → header_allowed st h f ≡ true
unfolding header_allowed
header_i st h f o n e = and_i _ _ o (and_i _ _ (ap not n) e)

pub end_going : (lay : Layout) (st : State) → end_allowed lay st ≡ true → st.ended ≡ false
unfolding end_allowed
end_going lay st a = not-true st.ended (and_l (not st.ended) _ a)

pub end_ready : (lay : Layout) (st : State) → end_allowed lay st ≡ true → ready_of lay st.seen ≡ true
unfolding end_allowed
end_ready lay st a = and_r (not st.ended) _ a

pub end_i : (lay : Layout) (st : State) → st.ended ≡ false → ready_of lay st.seen ≡ true → end_allowed lay st ≡ true
unfolding end_allowed
end_i lay st e r = and_i _ _ (ap not e) r

-- a header that is allowed did not stand there before
pub new_header : (lay : Layout) (st : State) (l : Line) (h : Header) → allowed_of lay st l ≡ true → is_header h l ≡ true → has_header st.seen h ≡ false
new_header lay st Empty h a i = absurd (false≢true i)
new_header lay st (Sized p n) h a i = ap (λ (x : Header). has_header st.seen x) (same_header_lem h (Size p) i) ∙ header_new st (Size p) _ a
new_header lay st (Named p n) h a i = ap (λ (x : Header). has_header st.seen x) (same_header_lem h (Names p) i) ∙ header_new st (Names p) _ a
new_header lay st (Typed t) h a i = ap (λ (x : Header). has_header st.seen x) (same_header_lem h TypeWord i) ∙ header_new st TypeWord _ a
new_header lay st (Rows v) h a i = ap (λ (x : Header). has_header st.seen x) (same_header_lem h Count i) ∙ header_new st Count _ a
new_header lay st (Row m) h a i = absurd (false≢true i)
new_header lay st End h a i = absurd (false≢true i)
new_header lay st Fault h a i = absurd (false≢true i)

-- one header more is counted once
pub tally_next : (st : State) (l : Line) (k : ℕ) (h : Header) → (is_header h l ≡ true → has_header st.seen h ≡ false)
    → one (has_header (next_of st l k).seen h) ≡ one (has_header st.seen h) + one (is_header h l)
tally_next st l k h n = ap one (has_next st l k h) ∙ go (is_header h l) (has_header st.seen h) n
  where
    go : (i b : Bool) → (i ≡ true → b ≡ false) → one (i || b) ≡ one b + one i
    go true true n = absurd (false≢true (sym (n refl)))
    go true false n = omega arith
    go false true n = omega arith
    go false false n = omega arith
