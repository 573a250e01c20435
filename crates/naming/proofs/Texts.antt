-- The name lines of a text: the line that is found names every column, its names are good, and every name line of the text has them.
use Prim.Native.Nat.{ℕ, ◌+◌, ◌≤◌}
use mathlib.Core.Path.{◌≡◌, refl, sym, ◌∙◌, ap}
use mathlib.Core.List.Memᴰ.{head as here}
use mathlib.Core.List.Memᴰ.{tail as there}
use mathlib.Core.List.{List, [], ◌∷◌, ◌++◌, Memᴰ as Mem}
use mathlib.Core.Logic.{inl, inr}
use mathlib.Core.Bool.{Bool, true, false, cond, false≢true}
use native.Mathlib.Omega.{arith}
use lib.ListN.{length}
use Rattle.fields.specs.Texts.{lines_of}
use Rattle.fields.specs.declared.Span.{Span}
use Rattle.names.specs.Names.{good_names, names_in}
use Rattle.names.specs.Spans.{bytes_of}
use Rattle.lines.specs.Lines.{line_of, view_of}
use Rattle.lines.specs.Bounds.{NamesOk}
use Rattle.lines.specs.declared.Part.{Part}
use Rattle.lines.specs.declared.Part.TheVariants.{Ins, Outs}
use Rattle.lines.specs.declared.Line.{Line}
use Rattle.lines.specs.declared.Line.TheVariants.{Empty, Sized, Named, Typed, Rows, Row, End, Fault}
use Rattle.lines.proofs.BoundLaws.{names_ok}
use Rattle.headers.specs.Verdicts.{judge_of}
use Rattle.headers.specs.Accepted.{is_header, one, times, rows_in, HeaderLine, RowLine, All, Text, Accepted}
use Rattle.headers.specs.Places.{is_aside}
use Rattle.headers.specs.declared.Layout.{Layout}
use Rattle.headers.specs.declared.Header.TheVariants.{Names}
use Rattle.std.specs.Prelude.{Some, None, Ok}
use Rattle.headers.proofs.Accepting.{good_iff_text}
use Rattle.headers.proofs.Sizes.{text_all}
use Rattle.headers.proofs.Seeing.{same_part_lem}
use Rattle.naming.specs.Naming.{home_from, home_of}
use Rattle.naming.proofs.HomeLaws.{home_stands}

-- a name line, of inputs or of outputs, has n names, and these
abbrev pub NameLine : ℕ → List (List ℕ) → Line → List (List ℕ) → Type 0
NameLine n ns l own = (p : Part) → is_header (Names p) l ≡ true → (l ≡ Named p n) × (own ≡ ns)

-- ---- lists of lines

pub all_at : (P : Line → List (List ℕ) → Type 0) {l : List ℕ} {ls : List (List ℕ)} → All P ls → Mem l ls → P (line_of l) (names_in l)
all_at P a (here e) = rw e a.0
all_at P a (there m) = all_at P a.1 m

-- ---- the lines of a text

name_line_header : (lay : Layout) (n r : ℕ) (ns : List (List ℕ)) (l : Line) (own : List (List ℕ)) → HeaderLine lay n r ns l own → NameLine n ns l own
name_line_header lay n r ns Empty own h p e = absurd (false≢true e)
name_line_header lay n r ns (Sized q s) own h p e = absurd (false≢true e)
name_line_header lay n r ns (Named q s) own h p e = (rw (same_part_lem p q e, h.0) refl, h.1)
name_line_header lay n r ns (Typed t) own h p e = absurd (false≢true e)
name_line_header lay n r ns (Rows v) own h p e = absurd (false≢true e)
name_line_header lay n r ns (Row m) own h p e = absurd h
name_line_header lay n r ns End own h p e = absurd h
name_line_header lay n r ns Fault own h p e = absurd h

name_line_row : (lay : Layout) (n : ℕ) (ns : List (List ℕ)) (l : Line) (own : List (List ℕ)) → RowLine lay n l own → NameLine n ns l own
name_line_row lay n ns l own (inl q) p e = absurd (false≢true (rw q at e))
name_line_row lay n ns l own (inr q) p e = absurd (false≢true (rw q.1 at e))

-- every name line of an accepted text has its n names
pub text_name_lines : (lay : Layout) (n : ℕ) (ls : List (List ℕ)) (t : Text lay n ls) → All (NameLine n t.names) ls
text_name_lines lay n ls t =
    text_all (NameLine n t.names) lay n ls t (name_line_header lay n (rows_in t.middle) t.names) (name_line_row lay n t.names) (λ own p e. absurd (false≢true e))

-- ---- the line that is found

-- the line p of a text of n columns: it is the `.ilb` line, has n good names, and every name line of the text has them
pub record NamedText (t : List ℕ) (n : ℕ) (p : Span) : Type 0 where
  pub ordered : p.from ≤ p.to
  pub inside : p.to ≤ length t
  pub line : line_of (bytes_of p t) ≡ Named Ins n
  pub good : good_names (names_in (bytes_of p t)) ≡ true
  pub many : length (names_in (bytes_of p t)) ≡ n
  pub every : All (NameLine n (names_in (bytes_of p t))) (lines_of t)

module _ (lay : Layout) (t : List ℕ) (n : ℕ) (p : Span) (x : Accepted lay n t) (h : home_of t ≡ Some p) where
  found_line : (line_of (bytes_of p t) ≡ Named Ins n) × (names_in (bytes_of p t) ≡ x.names)
  found_line =
      let s = home_stands t p h in
      all_at (NameLine n x.names) (text_name_lines lay n (lines_of t) x) s.among Ins s.inputs

  -- its names are those of the text, as 02 defines them
  pub names_of_text : names_in (bytes_of p t) ≡ x.names
  names_of_text = found_line.1

  pub accepted_named : NamedText t n p
  accepted_named =
      let s = home_stands t p h in
      let ok : NamesOk (Named Ins n) (names_in (bytes_of p t)) = rw found_line.0 at (names_ok (bytes_of p t)) in
      record {
        ordered = s.ordered;
        inside = s.inside;
        line = found_line.0;
        good = ok.0;
        many = ok.1;
        every = rw names_of_text (text_name_lines lay n (lines_of t) x);
      }

-- ---- a text without name lines

header_aside : (lay : Layout) (n r : ℕ) (ns : List (List ℕ)) (l : Line) (own : List (List ℕ)) → HeaderLine lay n r ns l own → is_aside (view_of l) ≡ true
header_aside lay n r ns Empty own h = refl
header_aside lay n r ns (Sized p s) own h = refl
header_aside lay n r ns (Named p s) own h = refl
header_aside lay n r ns (Typed t) own h = refl
header_aside lay n r ns (Rows v) own h = refl
header_aside lay n r ns (Row m) own h = absurd h
header_aside lay n r ns End own h = absurd h
header_aside lay n r ns Fault own h = absurd h

nowhere_top : (lay : Layout) (n r : ℕ) (ns : List (List ℕ)) (at : ℕ) (top others : List (List ℕ)) → All (HeaderLine lay n r ns) top → home_from at (top ++ others) ≡ None
    → times (Names Ins) top ≡ 0
unfolding home_from times
nowhere_top lay n r ns at [] others a h = refl
nowhere_top lay n r ns at (l ∷ top) others a h =
    go (is_header (Names Ins) (line_of l)) (rw (header_aside lay n r ns (line_of l) (names_in l) a.0) at h) (λ k. nowhere_top lay n r ns (at + length l + 1) top others a.1 k)
  where
    go : (b : Bool) → cond b (Some (record { from = at; to = at + length l })) (home_from (at + length l + 1) (top ++ others)) ≡ None
        → (home_from (at + length l + 1) (top ++ others) ≡ None → times (Names Ins) top ≡ 0) → one b + times (Names Ins) top ≡ 0
    go true k more = absurd (let z : ◌≡◌ {A = ℕ} 0 1 = cc in omega arith)
    go false k more = omega (arith, more k)

-- where no `.ilb` line is found, the text has no name lines at all
pub nowhere_nameless : (lay : Layout) (t : List ℕ) (n : ℕ) (x : Accepted lay n t) → home_of t ≡ None → (p : Part) → times (Names p) x.top ≡ 0
unfolding home_of
nowhere_nameless lay t n x h p =
    both p (nowhere_top lay n (rows_in x.middle) x.names 0 x.top (x.middle ++ x.mark ∷ x.rest) x.headers (ap (home_from 0) (sym x.lines) ∙ h))
  where
    both : (p : Part) → times (Names Ins) x.top ≡ 0 → times (Names p) x.top ≡ 0
    both Ins z = z
    both Outs z = omega (arith, x.both)

-- ---- by the verdict

-- a good text with an `.ilb` line
pub good_named : (lay : Layout) (t : List ℕ) (n : ℕ) (p : Span) → judge_of lay t ≡ Ok n → home_of t ≡ Some p → NamedText t n p
good_named lay t n p g h = accepted_named lay t n p ((good_iff_text lay t n).0 g) h
