-- Laws of names as they are written: a line's fields one by one, and both name lines.
use Prim.Native.Nat.{ℕ, zero, suc, ◌+◌, ◌*◌, ◌≤◌, ◌<◌}
use mathlib.Core.Path.{◌≡◌, refl, sym, ◌∙◌, ap}
use mathlib.Core.List.{List, [], ◌∷◌, ◌++◌, append-nil, append_assoc}
use mathlib.Core.Bool.{Bool, true, false, cond}
use native.Mathlib.Numerals.{add-one}
use native.Mathlib.Omega.{arith}
use lib.ListN.{length, take, length-append}
use Rattle.std.specs.Iterator.Adapters.{take_source, take_count}
use Rattle.fields.specs.Bytes.{mark_of, space_mark}
use Rattle.fields.specs.Fields.{close, fields_from, fields_in, fields_left}
use Rattle.std.specs.declared.iter.Take.{Take}
use Rattle.fields.specs.declared.Fields.{Fields}
use Rattle.names.specs.Names.{spaced}
use Rattle.writing.specs.TableText.{ilb, ob, name_text, name_lines}
use Rattle.writing.specs.Writing.{Wrote, names_left, names_length}
use Rattle.writing.specs.declared.Page.{Page}
use Rattle.writing.proofs.PutLaws.{wrote_none, wrote_then, wrote_line, line_length}

-- ---- the first fields of a line, as an iterator takes them

pub left_next : (s t : Take Fields) (w : List ℕ) → fields_left (take_source s) ≡ w ∷ fields_left (take_source t) → take_count t + 1 ≡ take_count s → names_left s ≡ w ∷ names_left t
left_next s t w e k = rw (e, ← k, add-one)

pub left_none : (s : Take Fields) → (0 < take_count s → fields_left (take_source s) ≡ []) → names_left s ≡ []
left_none s h = go (take_count s) h
  where
    go : (k : ℕ) → (0 < k → fields_left (take_source s) ≡ []) → take k (fields_left (take_source s)) ≡ []
    go zero e = refl
    go (suc k) e = rw (e (omega arith))

-- each field has a byte, so that the spaces are no more than the bytes
close_most : (w : List ℕ) (ws : List (List ℕ)) → length (spaced (close w ws)) ≤ 2 * length w + length (spaced ws)
unfolding spaced
close_most [] ws = omega arith
close_most (b ∷ w) ws = omega (arith, length-append w (spaced ws))

from_most : (w s : List ℕ) → length (spaced (fields_from w s)) ≤ 2 * (length w + length s)
unfolding spaced fields_from
from_most w [] = omega (arith, close_most w [])
from_most w (b ∷ s) = go (space_mark (mark_of b)) (omega (arith, from_most [] s)) (from_most (w ++ b ∷ []) s)
  where
    go : (t : Bool) → length (spaced (fields_from [] s)) ≤ 2 * length s → length (spaced (fields_from (w ++ b ∷ []) s)) ≤ 2 * (length (w ++ b ∷ []) + length s)
        → length (spaced (cond t (close w (fields_from [] s)) (fields_from (w ++ b ∷ []) s))) ≤ 2 * (length w + suc (length s))
    go true h k = omega (arith, close_most w (fields_from [] s))
    go false h k = omega (arith, length-append w (b ∷ []))

spaced_part : (n : ℕ) (ws : List (List ℕ)) → length (spaced (take n ws)) ≤ length (spaced ws)
unfolding spaced
spaced_part zero ws = omega arith
spaced_part (suc n) [] = omega arith
spaced_part (suc n) (w ∷ ws) = omega (arith, length-append w (spaced (take n ws)), length-append w (spaced ws), spaced_part n ws)

pub spaced_most : (n : ℕ) (s : List ℕ) → length (spaced (take n (fields_in s))) ≤ 2 * length s
unfolding fields_in
spaced_most n s = omega (arith, spaced_part n (fields_from [] s), from_most [] s)

pub spaced_next : (ws us : List (List ℕ)) (w : List ℕ) → ws ≡ w ∷ us → spaced ws ≡ 32 ∷ (w ++ spaced us)
unfolding spaced
spaced_next ws us w e = rw e

pub spaced_count : (ws us : List (List ℕ)) (w : List ℕ) → ws ≡ w ∷ us → length (spaced ws) ≡ 1 + length w + length (spaced us)
spaced_count ws us w e = ap length (spaced_next ws us w e) ∙ omega (arith, length-append w (spaced us))

pub spaced_end : (ws : List (List ℕ)) → ws ≡ [] → length (spaced ws) ≡ 0
unfolding spaced
spaced_end ws e = rw e

-- of some names those that an iterator has left are still to be written on the page q, which was p
pub record Spacing (p : Page) (names : List (List ℕ)) (q : Page) (left : List (List ℕ)) : Type 0 where
  pub done : List ℕ
  pub all : done ++ spaced left ≡ spaced names
  pub wrote : Wrote p done q

pub spacing_start : (p : Page) (names : List (List ℕ)) → p.at ≤ length p.out.now → Spacing p names p names
spacing_start p names h = record { done = []; all = refl; wrote = wrote_none p h }

pub spacing_end : (p : Page) (names : List (List ℕ)) (q : Page) (left : List (List ℕ)) → left ≡ [] → Spacing p names q left → Wrote p (spaced names) q
unfolding spaced
spacing_end p names q left z c = let e : c.done ≡ spaced names = sym (append-nil c.done) ∙ ap (λ (x : List (List ℕ)). c.done ++ spaced x) (sym z) ∙ c.all in rw e at c.wrote

module _ (p : Page) (names : List (List ℕ)) (q : Page) (left others : List (List ℕ)) (w : List ℕ) (e : left ≡ w ∷ others) (c : Spacing p names q left) where
  pub spacing_room : p.at + length (spaced names) ≤ length p.out.now → q.at + (1 + length w) ≤ length q.out.now
  spacing_room h =
      omega (arith, h, c.wrote, ap length c.all, length-append c.done (spaced left), spaced_count left others w e)

  pub spacing_more : {r t : Page} → Wrote q (32 ∷ []) r → Wrote r w t → Spacing p names t others
  spacing_more a b = record {
    done = c.done ++ 32 ∷ w;
    all = append_assoc c.done (32 ∷ w) (spaced others) ∙ ap (λ (x : List ℕ). c.done ++ x) (sym (spaced_next left others w e)) ∙ c.all;
    wrote = wrote_then c.wrote (wrote_then a b);
  }

-- ---- both name lines

pub name_length : (key : List ℕ) (names : List (List ℕ)) → length (name_text key names) ≡ length key + (length (spaced names) + 1)
unfolding name_text
name_length key names = line_length key (spaced names)

pub wrote_names : {p q r t : Page} {key : List ℕ} (names : List (List ℕ)) → Wrote p key q → Wrote q (spaced names) r → Wrote r (10 ∷ []) t → Wrote p (name_text key names) t
unfolding name_text
wrote_names names a b c = wrote_line a b c

-- there are names exactly where they make bytes
lines_none : (names : List (List ℕ)) → length (spaced names) ≡ 0 → name_lines names ≡ []
unfolding spaced name_lines
lines_none [] z = refl
lines_none (w ∷ ws) z = absurd (omega arith)

lines_some : (names : List (List ℕ)) → (length (spaced names) ≡ 0 → ⊥) → name_lines names ≡ name_text ilb names ++ name_text ob names
unfolding spaced name_lines
lines_some [] f = absurd (f refl)
lines_some (w ∷ ws) f = refl

pub names_length_none : (names : List (List ℕ)) → length (spaced names) ≡ 0 → names_length names ≡ 0
unfolding spaced names_length
names_length_none [] z = refl
names_length_none (w ∷ ws) z = absurd (omega arith)

pub names_length_some : (names : List (List ℕ)) → (length (spaced names) ≡ 0 → ⊥) → names_length names ≡ 9 + 2 * length (spaced names)
unfolding spaced names_length
names_length_some [] f = absurd (f refl)
names_length_some (w ∷ ws) f = refl

pub names_length_most : (names : List (List ℕ)) → names_length names ≤ 9 + 2 * length (spaced names)
unfolding names_length
names_length_most [] = omega arith
names_length_most (w ∷ ws) = omega arith

pub lines_length : (names : List (List ℕ)) → length (name_lines names) ≡ names_length names
unfolding name_lines names_length
lines_length [] = refl
lines_length (w ∷ ws) =
    length-append (name_text ilb (w ∷ ws)) (name_text ob (w ∷ ws))
    ∙ omega (arith, name_length ilb (w ∷ ws), name_length ob (w ∷ ws))

-- over the number of their bytes
module _ (names : List (List ℕ)) (k : ℕ) (hk : k ≡ length (spaced names)) where
  pub wrote_no_lines : (p : Page) → k ≡ 0 → p.at ≤ length p.out.now → Wrote p (name_lines names) p
  wrote_no_lines p z h = rw (lines_none names (sym hk ∙ z)) (wrote_none p h)

  module _ (f : k ≡ 0 → ⊥) where
    lines_are : name_lines names ≡ name_text ilb names ++ name_text ob names
    lines_are = lines_some names (λ z. f (hk ∙ z))

    pub lines_parts : length (name_lines names) ≡ length (name_text ilb names) + length (name_text ob names)
    lines_parts = ap length lines_are ∙ length-append (name_text ilb names) (name_text ob names)

    pub wrote_lines : {p q r : Page} → Wrote p (name_text ilb names) q → Wrote q (name_text ob names) r → Wrote p (name_lines names) r
    wrote_lines a b = rw lines_are (wrote_then a b)
