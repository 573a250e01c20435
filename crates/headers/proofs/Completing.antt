-- From every point that passing lines lead to, some lines lead on to an accepted end: each header that is missing, in turn, and the end
-- mark. The proof goes along the list of headers; a header more is one case more in `supply`, and nothing else.
use Prim.Native.Nat.{ℕ, ◌+◌, ◌≤◌}
use mathlib.Core.Path.{◌≡◌, refl, sym, ◌∙◌, ap}
use mathlib.Core.List.{List, [], ◌∷◌}
use mathlib.Core.Logic.{◌⊎◌, inl, inr, ⊎_elim}
use mathlib.Core.Bool.{Bool, true, false, cond, not, ◌&&◌, ◌||◌, false≢true}
use native.Mathlib.Omega.{arith}
use lib.Dec.{eqb}
use lib.ListN.{length}
use borrow.Author.Tests.{eq-eqb, eqb-false}
use Rattle.table.proofs.Basics.{and_i, and_l, and_r, or_l, or_r, false_test}
use Rattle.fields.proofs.FieldLaws.{ne_lt}
use Rattle.fields.proofs.JoinLaws.{NoFeed, NoFeeds}
use Rattle.names.specs.Names.{good_names, same_fields, names_in}
use Rattle.names.proofs.Equal.{same_fields_self}
use Rattle.lines.specs.Lines.{line_of}
use Rattle.lines.specs.Bounds.{LineOk, NamesOk}
use Rattle.lines.specs.declared.Masks.{Masks}
use Rattle.lines.specs.declared.Part.{Part}
use Rattle.lines.specs.declared.Part.TheVariants.{Ins, Outs}
use Rattle.lines.specs.declared.Line.{Line}
use Rattle.lines.specs.declared.Line.TheVariants.{Empty, Sized, Named, Typed, Rows, Row, End, Fault}
use Rattle.lines.proofs.BoundLaws.{line_ok, names_ok}
use Rattle.lines.proofs.Written.{size_text, size_text_lem, size_no_feed, type_text, type_text_lem, type_no_feed, end_text, end_text_lem, end_no_feed}
use Rattle.lines.proofs.NamesWritten.{name_text, name_text_lem, names_text, names_no_feed}
use Rattle.headers.specs.Layouts.{same_header, asks}
use Rattle.headers.specs.Headers.{every_header, has_header, lacks, ready_of, open_of, fits_of, row_allowed, end_allowed, allowed_of, named, with_header, next_of, Point, allowed_by, next_by, allowed_at, next_at, fresh_point}
use Rattle.headers.specs.declared.Layout.{Layout}
use Rattle.headers.specs.declared.Header.{Header}
use Rattle.headers.specs.declared.Header.TheVariants.{Size, Names, TypeWord, Count}
use Rattle.headers.specs.declared.Seen.{Seen}
use Rattle.headers.specs.declared.State.{State}
use Rattle.headers.proofs.Passing.{state_after, all_pass, pass_cons}
use Rattle.headers.proofs.Machine.{passes, after}
use Rattle.headers.proofs.After.{fits_is, allowed_state, pass_state, pass_next}
use Rattle.headers.proofs.Seeing.{kind_self, header_self, has_with, In, in_every, ready_i, ready_e, open_e, open_i, header_open, header_fits, header_i, end_ready, end_i}

-- ---- what holds of each point that passing lines lead to

-- names that may stand as a name line of this size
pub record Holds (held : List (List ℕ)) (size : ℕ) : Type 0 where
  pub good : good_names held ≡ true
  pub number : length held ≡ size
  pub some : 1 ≤ size

pub record Sound (lay : Layout) (pt : Point) : Type 0 where
  pub small : pt.state.size ≤ 10
  pub rowed : (pt.state.rows ≡ 0) ⊎ (ready_of lay pt.state.seen ≡ true)
  pub holds : named pt.state.seen ≡ true → Holds pt.held pt.state.size

row_end : (lay : Layout) (st : State) (m : Masks) → row_allowed lay st m ≡ true → end_allowed lay st ≡ true
unfolding row_allowed
row_end lay st m a = and_l (end_allowed lay st) _ a

pub named_size : (s : Seen) (p : Part) → named (with_header s (Size p)) ≡ named s
unfolding named
named_size s Ins = refl
named_size s Outs = refl

pub named_word : (s : Seen) → named (with_header s TypeWord) ≡ named s
unfolding named
named_word s = refl

pub named_count : (s : Seen) → named (with_header s Count) ≡ named s
unfolding named
named_count s = refl

-- a size beside names is theirs
holds_sized : (held : List (List ℕ)) (size n : ℕ) → Holds held size → 1 ≤ n → fits_of size n ≡ true → Holds held n
holds_sized held size n h o f = record { good = h.good; number = h.number ∙ sym (fits_is size n h.some f); some = o }

-- a line that is read and allowed keeps a point sound
sound_state : (lay : Layout) (pt : Point) (x : Line) (ns : List (List ℕ)) (k : ℕ) → Sound lay pt → LineOk x → NamesOk x ns → allowed_of lay pt.state x ≡ true → Sound lay (next_by pt x ns k)
sound_state lay pt Empty ns k s o nk a = record { small = s.small; rowed = s.rowed; holds = s.holds }
sound_state lay pt (Sized p n) ns k s o nk a =
    record {
      small = o.1;
      rowed = inl (open_e pt.state (header_open pt.state (Size p) _ a)).1;
      holds = λ d. holds_sized pt.held pt.state.size n (s.holds (sym (named_size pt.state.seen p) ∙ d)) o.0 (header_fits pt.state (Size p) _ a);
    }
sound_state lay pt (Named p n) ns k s o nk a =
    record {
      small = o.1;
      rowed = inl (open_e pt.state (header_open pt.state (Names p) _ a)).1;
      holds = λ d. record { good = nk.0; number = nk.1; some = o.0 };
    }
sound_state lay pt (Typed t) ns k s o nk a =
    record { small = s.small; rowed = inl (open_e pt.state (header_open pt.state TypeWord _ a)).1; holds = λ d. s.holds (sym (named_word pt.state.seen) ∙ d) }
sound_state lay pt (Rows v) ns k s o nk a =
    record { small = s.small; rowed = inl (open_e pt.state (header_open pt.state Count _ a)).1; holds = λ d. s.holds (sym (named_count pt.state.seen) ∙ d) }
sound_state lay pt (Row m) ns k s o nk a = record { small = s.small; rowed = inr (end_ready lay pt.state (row_end lay pt.state m a)); holds = s.holds }
sound_state lay pt End ns k s o nk a = record { small = s.small; rowed = s.rowed; holds = s.holds }
sound_state lay pt Fault ns k s o nk a = record { small = s.small; rowed = s.rowed; holds = s.holds }

sound_next : (lay : Layout) (pt : Point) (x : Line) (ns : List (List ℕ)) (k : ℕ) → Sound lay pt → LineOk x → NamesOk x ns → allowed_by lay pt x ns ≡ true → Sound lay (next_by pt x ns k)
sound_next lay pt x ns k s o nk a = sound_state lay pt x ns k s o nk (allowed_state lay pt x ns a)

sound_after : (lay : Layout) (ls : List (List ℕ)) (pt : Point) (k : ℕ) → Sound lay pt → passes lay ls pt k ≡ true → Sound lay (after ls pt k)
unfolding state_after next_at
sound_after lay [] pt k s h = s
sound_after lay (l ∷ ls) pt k s h =
    sound_after lay ls (next_by pt (line_of l) (names_in l) k) (k + 1) (sound_next lay pt (line_of l) (names_in l) k s (line_ok l) (names_ok l) (pass_state lay l ls pt k h)) (pass_next lay l ls pt k h)

fresh_nameless : named fresh_point.state.seen ≡ false
unfolding named
fresh_nameless = refl

pub sound_passing : (lay : Layout) (ls : List (List ℕ)) → passes lay ls fresh_point 1 ≡ true → Sound lay (after ls fresh_point 1)
sound_passing lay ls h = sound_after lay ls fresh_point 1 (record { small = omega arith; rowed = inl refl; holds = λ d. absurd (false≢true (sym fresh_nameless ∙ d)) }) h

-- ---- lines that lead on to the end, with no row and no `.p` among them

-- two states agree but for the headers of their text
pub record Beside (st st' : State) : Type 0 where
  pub count : st'.seen.count ≡ st.seen.count
  pub want : st'.want ≡ st.want
  pub rows : st'.rows ≡ st.rows

pub record LeadsOn (lay : Layout) (pt : Point) (k : ℕ) (more : List (List ℕ)) : Type 0 where
  pub passing : passes lay more pt k ≡ true
  pub ended : (after more pt k).state.ended ≡ true
  pub beside : Beside pt.state (after more pt k).state
  pub clean : NoFeeds more

abbrev Leads : Layout → Point → ℕ → Type 0
Leads lay pt k = (more : List (List ℕ)) × LeadsOn lay pt k more

leads_done : (lay : Layout) (pt : Point) (k : ℕ) → pt.state.ended ≡ true → Leads lay pt k
unfolding all_pass state_after
leads_done lay pt k e = ([], record { passing = refl; ended = e; beside = record { count = refl; want = refl; rows = refl }; clean = tt })

-- one line more in front
leads_cons : (lay : Layout) (pt : Point) (k : ℕ) (l : List ℕ) → NoFeed l → allowed_at lay pt l ≡ true → Beside pt.state (next_at pt l k).state
    → Leads lay (next_at pt l k) (k + 1) → Leads lay pt k
unfolding state_after
leads_cons lay pt k l f a b m = (
  l ∷ m.0,
  record {
    passing = pass_cons (allowed_at lay) next_at l m.0 pt k a m.1.passing;
    ended = m.1.ended;
    beside = record { count = m.1.beside.count ∙ b.count; want = m.1.beside.want ∙ b.want; rows = m.1.beside.rows ∙ b.rows };
    clean = (f, m.1.clean);
  },
)

-- ---- a line for a header that is missing

-- a line that may stand, and adds this header to the state and nothing else
pub record Supply (lay : Layout) (pt : Point) (h : Header) : Type 0 where
  pub line : List ℕ
  pub says : Line
  pub reads : line_of line ≡ says
  pub clean : NoFeed line
  pub allowed : allowed_by lay pt says (names_in line) ≡ true
  pub seen : (k : ℕ) → (next_of pt.state says k).seen ≡ with_header pt.state.seen h
  pub going : (k : ℕ) → (next_of pt.state says k).ended ≡ pt.state.ended
  pub beside : (k : ℕ) → Beside pt.state (next_of pt.state says k)

-- the size that is given, or 1
abbrev size_for : ℕ → ℕ
size_for s = cond (eqb s 0) 1 s

size_for_lem : (s : ℕ) → s ≤ 10 → (1 ≤ size_for s) × (size_for s ≤ 10) × (fits_of s (size_for s) ≡ true)
unfolding fits_of
size_for_lem s h = go (eqb s 0) refl
  where
    go : (t : Bool) → eqb s 0 ≡ t → (1 ≤ cond t 1 s) × (cond t 1 s ≤ 10) × ((t || eqb s (cond t 1 s)) ≡ true)
    go true e = (omega arith, omega arith, refl)
    go false e = (ne_lt 0 s (omega arith) (λ z. eqb-false s 0 e (sym z)), h, eq-eqb s s refl)

fits_same : (s n : ℕ) → n ≡ s → fits_of s n ≡ true
unfolding fits_of
fits_same s n e = or_r (eqb s 0) (eqb s n) (eq-eqb s n (sym e))

lacks_new : (lay : Layout) (s : Seen) (h : Header) → lacks lay s h ≡ true → has_header s h ≡ false
unfolding lacks
lacks_new lay s h e = false_test (has_header s h) (λ t. false≢true (sym (ap not t) ∙ and_l (not (has_header s h)) _ e))

lacks_asked : (lay : Layout) (s : Seen) (h : Header) → lacks lay s h ≡ true → asks lay s h ≡ true
unfolding lacks
lacks_asked lay s h e = and_r (not (has_header s h)) (asks lay s h) e

-- a name line is asked for only where the other one stands
asked_named : (lay : Layout) (s : Seen) (p : Part) → asks lay s (Names p) ≡ true → named s ≡ true
unfolding named
asked_named lay s Ins e = or_r s.in_names s.out_names e
asked_named lay s Outs e = or_l s.in_names s.out_names e

size_beside : (s : Seen) (p : Part) → (with_header s (Size p)).count ≡ s.count
size_beside s Ins = refl
size_beside s Outs = refl

names_beside : (s : Seen) (p : Part) → (with_header s (Names p)).count ≡ s.count
names_beside s Ins = refl
names_beside s Outs = refl

supply : (lay : Layout) (pt : Point) (h : Header) → Sound lay pt → open_of pt.state ≡ true → lacks lay pt.state.seen h ≡ true → Supply lay pt h
unfolding allowed_by
supply lay pt (Size p) s o e =
    let n = size_for_lem pt.state.size s.small in
    record {
      line = size_text p (size_for pt.state.size);
      says = Sized p (size_for pt.state.size);
      reads = size_text_lem p (size_for pt.state.size) n.0 n.1;
      clean = size_no_feed p (size_for pt.state.size);
      allowed = and_i _ _ (header_i pt.state (Size p) _ o (lacks_new lay pt.state.seen (Size p) e) n.2) refl;
      seen = λ k. refl;
      going = λ k. refl;
      beside = λ k. record { count = size_beside pt.state.seen p; want = refl; rows = refl };
    }
supply lay pt (Names p) s o e =
    let h = s.holds (asked_named lay pt.state.seen p (lacks_asked lay pt.state.seen (Names p) e)) in
    record {
      line = name_text p pt.held;
      says = Named p (length pt.held);
      reads = name_text_lem pt.held h.good p (omega (arith, h.number, h.some)) (omega (arith, h.number, s.small));
      clean = names_no_feed pt.held h.good p;
      allowed = and_i _ _
          (header_i pt.state (Names p) _ o (lacks_new lay pt.state.seen (Names p) e) (fits_same pt.state.size (length pt.held) h.number))
          (rw (names_text pt.held h.good p) (or_r (not (named pt.state.seen)) (same_fields pt.held pt.held) (same_fields_self pt.held)));
      seen = λ k. refl;
      going = λ k. refl;
      beside = λ k. record { count = names_beside pt.state.seen p; want = refl; rows = refl };
    }
supply lay pt TypeWord s o e =
    record {
      line = type_text lay.kind;
      says = Typed lay.kind;
      reads = type_text_lem lay.kind;
      clean = type_no_feed lay.kind;
      allowed = and_i _ _ (header_i pt.state TypeWord _ o (lacks_new lay pt.state.seen TypeWord e) (kind_self lay.kind)) refl;
      seen = λ k. refl;
      going = λ k. refl;
      beside = λ k. record { count = refl; want = refl; rows = refl };
    }
supply lay pt Count s o e = absurd (false≢true (lacks_asked lay pt.state.seen Count e))

-- ---- along the headers

-- every header that is missing is among some
abbrev Within : Layout → Seen → List Header → Type 0
Within lay s hs = (h : Header) → lacks lay s h ≡ true → In h hs

-- a header that was missing and is given asks for no other
asks_with : (lay : Layout) (s : Seen) (g h : Header) → asks lay s g ≡ true → has_header (with_header s g) h ≡ false → asks lay (with_header s g) h ≡ true → asks lay s h ≡ true
asks_with lay s g (Size p) b n a = refl
asks_with lay s (Size Ins) (Names Ins) b n a = a
asks_with lay s (Size Outs) (Names Ins) b n a = a
asks_with lay s (Names Ins) (Names Ins) b n a = a
asks_with lay s (Names Outs) (Names Ins) b n a = absurd (false≢true (sym n ∙ b))
asks_with lay s TypeWord (Names Ins) b n a = a
asks_with lay s Count (Names Ins) b n a = a
asks_with lay s (Size Ins) (Names Outs) b n a = a
asks_with lay s (Size Outs) (Names Outs) b n a = a
asks_with lay s (Names Ins) (Names Outs) b n a = absurd (false≢true (sym n ∙ b))
asks_with lay s (Names Outs) (Names Outs) b n a = a
asks_with lay s TypeWord (Names Outs) b n a = a
asks_with lay s Count (Names Outs) b n a = a
asks_with lay s g TypeWord b n a = a
asks_with lay s g Count b n a = a

-- one missing header more: what is still missing was missing, and is another
lacks_with : (lay : Layout) (s : Seen) (g h : Header) → lacks lay s g ≡ true → lacks lay (with_header s g) h ≡ true → (lacks lay s h ≡ true) × (h ≡ g → ⊥)
unfolding lacks
lacks_with lay s g h f e =
    let n = lacks_new lay (with_header s g) h e in
    let a = asks_with lay s g h (lacks_asked lay s g f) n (lacks_asked lay (with_header s g) h e) in
    go (same_header h g) refl (has_header s h) (sym (has_with s h g) ∙ n) a
  where
    go : (t : Bool) → same_header h g ≡ t → (b : Bool) → (t || b) ≡ false → asks lay s h ≡ true → ((not b && asks lay s h) ≡ true) × (h ≡ g → ⊥)
    go true e b f a = absurd (false≢true (sym f))
    go false e true f a = absurd (false≢true (sym f))
    go false e false f a = (a, λ q. false≢true (sym e ∙ ap (λ (x : Header). same_header x g) q ∙ header_self g))

within_with : (lay : Layout) (s : Seen) (g : Header) (hs : List Header) → lacks lay s g ≡ true → Within lay s (g ∷ hs) → Within lay (with_header s g) hs
within_with lay s g hs f w h e =
    let l = lacks_with lay s g h f e in
    ⊎_elim (λ q. absurd (l.1 q)) (λ i. i) (w h l.0)

within_less : (lay : Layout) (s : Seen) (g : Header) (hs : List Header) → Within lay s (g ∷ hs) → lacks lay s g ≡ false → Within lay s hs
within_less lay s g hs w f h e = ⊎_elim (λ q. absurd (false≢true (sym f ∙ ap (λ (x : Header). lacks lay s x) (sym q) ∙ e))) (λ i. i) (w h e)

leads_end : (lay : Layout) (pt : Point) (k : ℕ) → pt.state.ended ≡ false → ready_of lay pt.state.seen ≡ true → Leads lay pt k
unfolding allowed_at allowed_by next_at
leads_end lay pt k e r =
    leads_cons lay pt k end_text end_no_feed (rw end_text_lem (and_i _ _ (end_i lay pt.state e r) refl))
    (rw end_text_lem (record { count = refl; want = refl; rows = refl }))
    (leads_done lay (next_by pt (line_of end_text) (names_in end_text) k) (k + 1) (rw end_text_lem refl))

leads_along : (lay : Layout) (hs : List Header) (pt : Point) (k : ℕ) → Sound lay pt → pt.state.ended ≡ false → Within lay pt.state.seen hs → Leads lay pt k
unfolding next_at allowed_at
leads_along lay [] pt k s e w = leads_end lay pt k e (ready_i lay pt.state.seen (λ h. false_test (lacks lay pt.state.seen h) (λ t. w h t)))
leads_along lay (g ∷ hs) pt k s e w =
    go (lacks lay pt.state.seen g) refl s.rowed
    (λ pt' s' e' w'. leads_along lay hs pt' (k + 1) s' e' w')
    (λ f. leads_along lay hs pt k s e (within_less lay pt.state.seen g hs w f))
  where
    go : (t : Bool) → lacks lay pt.state.seen g ≡ t → (pt.state.rows ≡ 0) ⊎ (ready_of lay pt.state.seen ≡ true)
        → ((pt' : Point) → Sound lay pt' → pt'.state.ended ≡ false → Within lay pt'.state.seen hs → Leads lay pt' (k + 1))
        → (lacks lay pt.state.seen g ≡ false → Leads lay pt k) → Leads lay pt k
    go false f r more less = less f
    go true f (inr r) more less = absurd (false≢true (sym (ready_e lay pt.state.seen r g) ∙ f))
    go true f (inl r) more less =
        let y = supply lay pt g s (open_i pt.state e r) f in
        unfold next_at allowed_at in (leads_cons lay pt k y.line y.clean (rw y.reads y.allowed)
        (rw y.reads (y.beside k))
        (rw y.reads
        (more (next_by pt y.says (names_in y.line) k)
        (sound_next lay pt y.says (names_in y.line) k s (rw y.reads at (line_ok y.line)) (rw y.reads at (names_ok y.line)) y.allowed) (y.going k ∙ e)
        (rw (y.seen k) (within_with lay pt.state.seen g hs f w)))))

-- from a sound point some lines lead on to the end
pub leads_on : (lay : Layout) (pt : Point) (k : ℕ) → Sound lay pt → Leads lay pt k
leads_on lay pt k s = go pt.state.ended refl
  where
    go : (t : Bool) → pt.state.ended ≡ t → Leads lay pt k
    go true e = leads_done lay pt k e
    go false e = leads_along lay every_header pt k s e (λ h f. in_every h)
