-- What a name line says that is written by rule: `.ilb` or `.ob`, and each name after one space.
use Prim.Native.Nat.{ℕ, ◌-◌, ◌≤◌}
use mathlib.Core.Path.{◌≡◌, refl, ◌∙◌, ap}
use mathlib.Core.List.{List, [], ◌∷◌}
use mathlib.Core.Bool.{Bool, true, false, cond, ◌&&◌, ◌||◌, false≢true}
use native.Mathlib.Omega.{arith}
use lib.Dec.{eqb, leb}
use lib.ListN.{length}
use borrow.Author.Tests.{le-leb, leb-true, eqb-true, ne_eqb, le-ltb}
use Rattle.std.specs.Prelude.{Option, Some}
use Rattle.fields.specs.Bytes.{mark_of, space_mark, hash_mark, feed_mark, run, same}
use Rattle.fields.specs.Texts.{body}
use Rattle.fields.specs.Fields.{fields_from, fields_in}
use Rattle.fields.specs.declared.Mark.TheVariants.{Digit, Other}
use Rattle.fields.proofs.JoinLaws.{NoFeed}
use Rattle.names.specs.Names.{name_byte, good_names, names_count, names_in, OfName, Names, spaced}
use Rattle.names.proofs.Meaning.{good_iff}
use Rattle.lines.proofs.Clear.{Clear, NoHash, no_hash_body, clear_no_hash, clear_no_feed, close_some, clear_field}
use Rattle.lines.specs.Lines.{key_of, columns_of, named_of, class_of, of_fields, line_of}
use Rattle.lines.specs.declared.Part.{Part}
use Rattle.lines.specs.declared.Part.TheVariants.{Ins, Outs}
use Rattle.lines.specs.declared.Line.TheVariants.{Named}

-- ---- a name is clear

digit_or_other : (t : Bool) (d : ℕ) → (space_mark (cond t (Digit d) Other) ≡ false) × (hash_mark (cond t (Digit d) Other) ≡ false) × (feed_mark (cond t (Digit d) Other) ≡ false)
digit_or_other true d = (refl, refl, refl)
digit_or_other false d = (refl, refl, refl)

-- every byte of a name is at least `0`
least_byte : (b : ℕ) → name_byte b ≡ true → 48 ≤ b
unfolding name_byte
least_byte b h = go (leb 48 b) refl (leb 65 b) refl (eqb b 95) refl (leb 97 b) refl h
  where
    go : (x : Bool) → leb 48 b ≡ x → (y : Bool) → leb 65 b ≡ y → (z : Bool) → eqb b 95 ≡ z → (u : Bool) → leb 97 b ≡ u
        → ((x && leb b 57) || ((y && leb b 90) || (z || (u && leb b 122)))) ≡ true → 48 ≤ b
    go true e y f z g u k h = leb-true 48 b e
    go false e true f z g u k h = omega (arith, leb-true 65 b f)
    go false e false f true g u k h = omega (arith, eqb-true b 95 g)
    go false e false f false g true k h = omega (arith, leb-true 97 b k)
    go false e false f false g false k h = absurd (false≢true h)

clear_byte : (b : ℕ) → name_byte b ≡ true → (space_mark (mark_of b) ≡ false) × (hash_mark (mark_of b) ≡ false) × (feed_mark (mark_of b) ≡ false)
unfolding mark_of
clear_byte b h = rw (le-leb 48 b (least_byte b h)) (digit_or_other (leb b 57) (b - 48))

clear_name : (w : List ℕ) → OfName w → Clear w
clear_name [] h = tt
clear_name (b ∷ w) h = (clear_byte b h.0, clear_name w h.1)

-- ---- the line

-- `.ilb` or `.ob`, and the names
abbrev pub name_text : Part → List (List ℕ) → List ℕ
name_text Ins ns = 46 ∷ 105 ∷ 108 ∷ 98 ∷ spaced ns
name_text Outs ns = 46 ∷ 111 ∷ 98 ∷ spaced ns

spaced_no_hash : (ns : List (List ℕ)) → Names ns → NoHash (spaced ns)
unfolding mark_of spaced
spaced_no_hash [] g = tt
spaced_no_hash (w ∷ ws) g = (refl, clear_no_hash w (spaced ws) (clear_name w g.0.2) (spaced_no_hash ws g.2))

spaced_no_feed : (ns : List (List ℕ)) → Names ns → NoFeed (spaced ns)
unfolding mark_of spaced
spaced_no_feed [] g = tt
spaced_no_feed (w ∷ ws) g = (refl, clear_no_feed w (spaced ws) (clear_name w g.0.2) (spaced_no_feed ws g.2))

spaced_fields : (f : List ℕ) (ns : List (List ℕ)) → 1 ≤ length f → Names ns → fields_from f (spaced ns) ≡ f ∷ ns
unfolding fields_from mark_of spaced
spaced_fields f [] h g = close_some f [] h
spaced_fields f (w ∷ ws) h g =
    close_some f _ h ∙ ap (λ (x : List (List ℕ)). f ∷ x) (clear_field [] w (spaced ws) (clear_name w g.0.2) ∙ spaced_fields w ws g.0.0 g.2)

module _ (ns : List (List ℕ)) (g : good_names ns ≡ true) where
  names : Names ns
  names = (good_iff ns).0 g

  in_fields : fields_in (body (name_text Ins ns)) ≡ (46 ∷ 105 ∷ 108 ∷ 98 ∷ []) ∷ ns
  unfolding body fields_in fields_from mark_of run
  in_fields = rw (no_hash_body (spaced ns) (spaced_no_hash ns names)) (spaced_fields (46 ∷ 105 ∷ 108 ∷ 98 ∷ []) ns (omega arith) names)

  out_fields : fields_in (body (name_text Outs ns)) ≡ (46 ∷ 111 ∷ 98 ∷ []) ∷ ns
  unfolding body fields_in fields_from mark_of run
  out_fields = rw (no_hash_body (spaced ns) (spaced_no_hash ns names)) (spaced_fields (46 ∷ 111 ∷ 98 ∷ []) ns (omega arith) names)

  pub names_text : (p : Part) → names_in (name_text p ns) ≡ ns
  unfolding names_in
  names_text Ins = rw in_fields refl
  names_text Outs = rw out_fields refl

  pub names_no_feed : (p : Part) → NoFeed (name_text p ns)
  unfolding mark_of
  names_no_feed Ins = (refl, (refl, (refl, (refl, spaced_no_feed ns names))))
  names_no_feed Outs = (refl, (refl, (refl, spaced_no_feed ns names)))

  counted : names_count ns ≡ Some (length ns)
  unfolding names_count
  counted = rw g refl

  named_of_lem : (p : Part) → 1 ≤ length ns → length ns ≤ 10 → named_of p (columns_of (names_count ns)) ≡ Named p (length ns)
  named_of_lem p h k = ap (λ (x : Option ℕ). named_of p (columns_of x)) counted ∙ rw (ne_eqb (length ns) 0 (nope (length ns) h), le-ltb 10 (length ns) k)
    where
      nope : (n : ℕ) → 1 ≤ n → n ≡ 0 → ⊥
      nope n h e = omega arith

  pub name_text_lem : (p : Part) → 1 ≤ length ns → length ns ≤ 10 → line_of (name_text p ns) ≡ Named p (length ns)
  unfolding line_of of_fields class_of key_of same mark_of
  name_text_lem Ins h k = rw in_fields (named_of_lem Ins h k)
  name_text_lem Outs h k = rw out_fields (named_of_lem Outs h k)
