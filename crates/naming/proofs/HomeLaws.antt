-- Where the `.ilb` line of a text stands: the loop over the lines, and what is found is a line of the text.
use Prim.Native.Nat.{ℕ, zero, suc, ◌+◌, ◌-◌, ◌≤◌, ◌<◌}
use mathlib.Core.Path.{◌≡◌, refl, sym, ◌∙◌, ap}
use mathlib.Core.List.Memᴰ.{head as here}
use mathlib.Core.List.Memᴰ.{tail as there}
use mathlib.Core.List.{List, [], ◌∷◌, Memᴰ as Mem}
use mathlib.Core.Logic.{⊎_elim}
use mathlib.Core.Bool.{Bool, true, false, cond}
use native.Mathlib.Omega.{arith}
use Rattle.std.specs.Prelude.{Option, Some, None}
use Rattle.std.proofs.lemmas.Option.{none-some}
use lib.Dec.{ltb}
use lib.ListN.{length, drop, length-take, length-drop, drop_of_length-le}
use borrow.Author.Tests.{ltb-false}
use Rattle.fields.specs.Bytes.{run}
use Rattle.fields.specs.Texts.{lines_of, past_of}
use Rattle.fields.specs.declared.Span.{Span}
use Rattle.fields.specs.declared.Stretch.TheVariants.{Whole}
use Rattle.fields.proofs.ByteLaws.{run_le}
use Rattle.fields.proofs.FieldLaws.{end_or}
use Rattle.fields.proofs.TextLaws.{line_at, past_in, past_on}
use Rattle.names.specs.Spans.{between, bytes_of}
use Rattle.lines.specs.Lines.{line_of, keep_line, view_of}
use Rattle.lines.proofs.BoundLaws.{view_kept}
use Rattle.lines.specs.declared.Part.TheVariants.{Ins}
use Rattle.lines.specs.declared.Line.{Line}
use Rattle.lines.specs.declared.Line.TheVariants.{Empty, Sized, Named, Typed, Rows, Row, End, Fault}
use Rattle.headers.specs.Accepted.{is_header}
use Rattle.headers.specs.Places.{is_aside}
use Rattle.headers.specs.declared.Header.{Header}
use Rattle.headers.specs.declared.Header.TheVariants.{Names}
use Rattle.lines.specs.Placed.{placed_from}
use Rattle.naming.specs.Naming.{home_from, home_of}

-- a line as the code keeps it is the same header
pub header_kept : (h : Header) (l : Line) → is_header h (keep_line l) ≡ is_header h l
header_kept h Empty = refl
header_kept h (Sized p n) = refl
header_kept h (Named p n) = refl
header_kept h (Typed t) = refl
header_kept h (Rows v) = refl
header_kept h (Row m) = refl
header_kept h End = refl
header_kept h Fault = refl

-- ---- the lines of a text from a place on

between_end : (t : List ℕ) (a e : ℕ) → a ≤ e → e ≤ length t → a + length (between a e t) ≡ e
between_end t a e h k = omega (arith, length-take (e - a) (drop a t), length-drop a t)

-- past the end there are no lines, whatever place they are said to start at
home_past : (t : List ℕ) (e : ℕ) → home_from (e + 1) (lines_of (drop (past_of e (length t)) t)) ≡ home_from (past_of e (length t)) (lines_of (drop (past_of e (length t)) t))
unfolding home_from lines_of
home_past t e = go (ltb e (length t)) refl
  where
    go : (b : Bool) → ltb e (length t) ≡ b → home_from (e + 1) (lines_of (drop (cond b (e + 1) e) t)) ≡ home_from (cond b (e + 1) e) (lines_of (drop (cond b (e + 1) e) t))
    go true p = refl
    go false p = rw (drop_of_length-le t {i = e} (ltb-false e (length t) p))

-- the line from `at` to `e` is the `.ilb` line, or the lines after it are looked at, or it is a row or the end mark
module _ (t : List ℕ) (at e : ℕ) (h : at < length t) (he : e ≡ at + run Whole (drop at t)) (k : e ≤ length t) where
  pub home_first : is_header (Names Ins) (line_of (between at e t)) ≡ true → home_from at (lines_of (drop at t)) ≡ Some (record { from = at; to = e })
  unfolding home_from
  home_first b = rw (line_at t at e h he, b, between_end t at e (omega arith) k)

  pub home_later : is_header (Names Ins) (line_of (between at e t)) ≡ false → is_aside (view_of (line_of (between at e t))) ≡ true
      → home_from at (lines_of (drop at t)) ≡ home_from (past_of e (length t)) (lines_of (drop (past_of e (length t)) t))
  unfolding home_from
  home_later b d = rw (line_at t at e h he, b, d, between_end t at e (omega arith) k) (home_past t e)

  pub home_none : is_header (Names Ins) (line_of (between at e t)) ≡ false → is_aside (view_of (line_of (between at e t))) ≡ false → home_from at (lines_of (drop at t)) ≡ None
  unfolding home_from
  home_none b d = rw (line_at t at e h he, b, d)

pub home_over : (t : List ℕ) (at : ℕ) → length t ≤ at → home_from at (lines_of (drop at t)) ≡ None
unfolding home_from lines_of
home_over t at h = rw (drop_of_length-le t {i = at} h)

-- ---- the loop over the lines

-- the `.ilb` line among lines with their places
abbrev pub home_in : List (Span × List ℕ) → Option Span
home_in [] = None
home_in (p ∷ ps) = cond (is_header (Names Ins) (line_of p.1)) (Some p.0) (cond (is_aside (view_of (line_of p.1))) (home_in ps) None)

pub home_placed : (at : ℕ) (ls : List (List ℕ)) → home_in (placed_from at ls) ≡ home_from at ls
unfolding placed_from home_from
home_placed at [] = refl
home_placed at (l ∷ ls) = rw (home_placed (at + length l + 1) ls) refl

-- from one line on: l is what it says, as the code keeps it, and b and d are tests of it
module _ (at : Span) (s : List ℕ) (rest : List (Span × List ℕ)) (l : Line) (hl : l ≡ keep_line (line_of s)) (b : Bool) (hb : b ≡ is_header (Names Ins) l) where
  header_test : is_header (Names Ins) (line_of s) ≡ b
  header_test = sym (hb ∙ ap (λ (x : Line). is_header (Names Ins) x) hl ∙ header_kept (Names Ins) (line_of s))

  pub home_here : b ≡ true → home_in ((at, s) ∷ rest) ≡ Some at
  home_here t = rw (header_test, t) refl

  module _ (f : b ≡ false) (d : Bool) (hd : d ≡ is_aside (view_of l)) where
    aside_test : is_aside (view_of (line_of s)) ≡ d
    aside_test = sym (hd ∙ ap (λ (x : Line). is_aside (view_of x)) hl ∙ ap is_aside (view_kept (line_of s)))

    pub home_on : d ≡ true → home_in ((at, s) ∷ rest) ≡ home_in rest
    home_on t = rw (header_test, f, aside_test, t) refl

    pub home_ends : d ≡ false → home_in ((at, s) ∷ rest) ≡ None
    home_ends t = rw (header_test, f, aside_test, t) refl

-- ---- what is found

-- the bytes of p are one of the lines from the place `at` on, and an `.ilb` line
pub record Standing (t : List ℕ) (at : ℕ) (p : Span) : Type 0 where
  pub ordered : p.from ≤ p.to
  pub inside : p.to ≤ length t
  pub inputs : is_header (Names Ins) (line_of (bytes_of p t)) ≡ true
  pub among : Mem (bytes_of p t) (lines_of (drop at t))

-- from one line on, the same being known of the lines after it
standing_turn : (t : List ℕ) (at e : ℕ) (p : Span) (b d : Bool)
    → ((at' : ℕ) → at < at' → at' ≤ length t → home_from at' (lines_of (drop at' t)) ≡ Some p → Standing t at' p)
    → at < length t → e ≡ at + run Whole (drop at t) → e ≤ length t
    → is_header (Names Ins) (line_of (between at e t)) ≡ b → is_aside (view_of (line_of (between at e t))) ≡ d
    → home_from at (lines_of (drop at t)) ≡ Some p → Standing t at p
standing_turn t at e p true d more h he k i v s =
    let q : record { from = at; to = e } ≡ p = let z = sym (home_first t at e h he k i) ∙ s in cc in
    rw (← q) (record { ordered = omega arith; inside = k; inputs = i; among = rw (line_at t at e h he) (here refl) })
standing_turn t at e p false true more h he k i v s =
    let m = more (past_of e (length t)) (past_on at e (length t) h (omega arith)) (past_in e (length t) k) (sym (home_later t at e h he k i v) ∙ s) in
    record { ordered = m.ordered; inside = m.inside; inputs = m.inputs; among = rw (line_at t at e h he) (there m.among) }
standing_turn t at e p false false more h he k i v s = absurd (none-some p (sym (home_none t at e h he k i v) ∙ s))

standing_from : (f : ℕ) (t : List ℕ) (at : ℕ) (p : Span) → length t - at ≤ f → at ≤ length t → home_from at (lines_of (drop at t)) ≡ Some p → Standing t at p
standing_from zero t at p m h s = absurd (none-some p (sym (home_over t at (omega arith)) ∙ s))
standing_from (suc f) t at p m h s =
    ⊎_elim
    (λ over. absurd (none-some p (sym (home_over t at (omega arith)) ∙ s)))
    (λ l.
    standing_turn t at (at + run Whole (drop at t)) p _ _
    (λ at' on in-text s'. standing_from f t at' p (omega arith) in-text s')
    l refl (omega (arith, run_le Whole (drop at t), length-drop at t)) refl refl s)
    (end_or at (length t) h)

-- what `home_of` tells is an `.ilb` line of the text
pub home_stands : (t : List ℕ) (p : Span) → home_of t ≡ Some p → Standing t 0 p
unfolding home_of
home_stands t p s = standing_from (length t) t 0 p (omega arith) (omega arith) s
