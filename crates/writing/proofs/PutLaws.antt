-- Laws of writing one thing behind another.
use Prim.Native.Nat.{ℕ, ◌+◌, ◌/◌, ◌%◌, ◌≤◌, ◌<◌}
use mathlib.Core.Path.{◌≡◌, refl, sym, ◌∙◌, ap}
use mathlib.Core.List.{List, [], ◌∷◌, ◌++◌, append_assoc}
use native.Mathlib.Omega.{arith}
use native.Mathlib.Numerals.{add-one}
use native.Mathlib.Nat.{add-zero, add_assoc}
use lib.ListN.{length, get_or, set, take, drop, length-append, length-drop, take-append-drop}
use lib.Seq.{length-take-le, take-suc, take_at, drop_at, set_split, drop-drop}
use Rattle.fields.specs.Decimals.{decimal}
use Rattle.fields.proofs.DecimalLaws.{decimal_one, decimal_more}
use Rattle.writing.specs.Writing.{written, Put, Wrote}
use Rattle.writing.specs.declared.Page.{Page}

pub put_none : (d : List ℕ) (at : ℕ) → Put d at [] d at
unfolding written
put_none d at = record { bytes = sym (ap (λ (k : ℕ). take at d ++ drop k d) (add-zero at) ∙ take-append-drop at d); behind = sym (add-zero at) }

pub put_one : (d : List ℕ) (at b : ℕ) → at < length d → Put d at (b ∷ []) (set d at b) (at + 1)
unfolding written
put_one d at b h = record { bytes = set_split d at b h ∙ rw (← add-one at); behind = refl }

-- what stands before a place, and from it on, after something was written up to there
module _ (d : List ℕ) (at : ℕ) (s : List ℕ) (h : at + length s ≤ length d) where
  front_length : length (take at d ++ s) ≡ at + length s
  front_length = length-append (take at d) s ∙ ap (λ (k : ℕ). k + length s) (length-take-le at d (omega arith))

  written_front : take (at + length s) (written d at s) ≡ take at d ++ s
  unfolding written
  written_front = rw (← append_assoc (take at d) s (drop (at + length s) d)) (take_at (take at d ++ s) _ (at + length s) front_length)

  written_back : drop (at + length s) (written d at s) ≡ drop (at + length s) d
  unfolding written
  written_back = rw (← append_assoc (take at d) s (drop (at + length s) d)) (drop_at (take at d ++ s) _ (at + length s) front_length)

  written_length : length (written d at s) ≡ length d
  unfolding written
  written_length = simp (length-append, length-drop) (omega (arith, length-take-le at d (omega arith)))

pub put_length : (d : List ℕ) (at : ℕ) (s d' : List ℕ) (e : ℕ) → at + length s ≤ length d → Put d at s d' e → length d' ≡ length d
put_length d at s d' e h p = ap length p.bytes ∙ written_length d at s h

-- one thing behind another
pub put_then : (d : List ℕ) (at : ℕ) (s d' : List ℕ) (e : ℕ) (u d'' : List ℕ) (f : ℕ) → at + length s ≤ length d → Put d at s d' e → Put d' e u d'' f → Put d at (s ++ u) d'' f
unfolding written
put_then d at s d' e u d'' f h p q =
    record {
      bytes =
          q.bytes ∙ rw (p.behind, p.bytes, written_front d at s h)
          (append_assoc (take at d) s (u ++ drop (at + length s + length u) (written d at s))
          ∙ ap (λ (x : List ℕ). take at d ++ x) (sym (append_assoc s u _) ∙ ap (λ (x : List ℕ). (s ++ u) ++ x) behind));
      behind = q.behind ∙ rw (p.behind, length-append s u) (omega arith);
    }
  where
    behind : drop (at + length s + length u) (written d at s) ≡ drop (at + length (s ++ u)) d
    behind =
        sym (drop-drop (length u) (at + length s) (written d at s)) ∙ ap (λ (x : List ℕ). drop (length u) x) (written_back d at s h)
        ∙ drop-drop (length u) (at + length s) d ∙ rw (length-append s u) (ap (λ (k : ℕ). drop k d) (add_assoc at (length s) (length u)))

-- ---- on a page

pub wrote_none : (p : Page) → p.at ≤ length p.out.now → Wrote p [] p
wrote_none p h = record { same_reference = refl; room = omega arith; long = refl; put = put_none _ _ }

-- a byte set in the lent bytes
pub wrote_byte : (p q : Page) (b : ℕ) → p.at < length p.out.now → q.out.ghost_name ≡ p.out.ghost_name → q.out.now ≡ set p.out.now p.at b → q.at ≡ p.at + 1 → Wrote p (b ∷ []) q
wrote_byte p q b h g o e =
    let w = put_one p.out.now p.at b h in
    record {
      same_reference = g;
      room = omega arith;
      long = ap length o ∙ ap length w.bytes ∙ written_length p.out.now p.at (b ∷ []) (omega arith);
      put = record { bytes = o ∙ w.bytes; behind = e };
    }

-- one thing behind another
pub wrote_then : {p q r : Page} {s u : List ℕ} → Wrote p s q → Wrote q u r → Wrote p (s ++ u) r
wrote_then {p} {q} {r} {s} {u} a b =
    record {
      same_reference = b.same_reference ∙ a.same_reference;
      room = omega (arith, a.room, a.long, a.put.behind, b.room, length-append s u);
      long = b.long ∙ a.long;
      put = put_then _ _ s _ _ u _ _ a.room a.put b.put;
    }

-- one byte more of a list of bytes
pub wrote_next : {p q r : Page} (s : List ℕ) (i : ℕ) → i < length s → Wrote p (take i s) q → Wrote q (get_or s i 0 ∷ []) r → Wrote p (take (i + 1) s) r
wrote_next s i l a b = rw (add-one i, take-suc s i 0 l) (wrote_then a b)

-- on a page that was empty
pub put_page : {p q : Page} {s d d' : List ℕ} {e : ℕ} → p.out.now ≡ d → p.at ≡ 0 → Wrote p s q → d' ≡ q.out.now → e ≡ q.at → Put d 0 s d' e
put_page o z w a l = rw (a, l) (rw (o, z) at w.put)

-- a line: a keyword, what it says, LF
pub line_length : (key s : List ℕ) → length (key ++ (s ++ 10 ∷ [])) ≡ length key + (length s + 1)
line_length key s = length-append key (s ++ 10 ∷ []) ∙ ap (λ (k : ℕ). length key + k) (length-append s (10 ∷ []))

pub wrote_line : {p q r t : Page} {key s : List ℕ} → Wrote p key q → Wrote q s r → Wrote r (10 ∷ []) t → Wrote p (key ++ (s ++ 10 ∷ [])) t
wrote_line a b c = wrote_then a (wrote_then b c)

-- a number: its only digit, or those of its tenth and the last
pub wrote_digit : {p q : Page} (v : ℕ) → v < 10 → Wrote p ((48 + v % 10) ∷ []) q → Wrote p (decimal v) q
wrote_digit v h w = let e : v % 10 ≡ v = omega arith in rw (decimal_one v h, ← e) w

pub wrote_digits : {p q r : Page} (v : ℕ) → 10 ≤ v → Wrote p (decimal (v / 10)) q → Wrote q ((48 + v % 10) ∷ []) r → Wrote p (decimal v) r
wrote_digits v h a b = rw (decimal_more v h) (wrote_then a b)
