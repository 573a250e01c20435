-- What lines say that are written by rule: `.i n`, `.o n`, `.type w`, `.p k` and `.e`, with one space and a decimal number.
use Prim.Native.Nat.{ℕ, ◌≤◌}
use mathlib.Core.Path.{◌≡◌, refl, ◌∙◌, ap}
use mathlib.Core.List.{List, [], ◌∷◌}
use native.Mathlib.Omega.{arith}
use lib.ListN.{length}
use borrow.Author.Tests.{ne_eqb, le-ltb}
use Rattle.std.specs.Prelude.{Option, Some}
use Rattle.fields.specs.Bytes.{mark_of, run, same}
use Rattle.fields.specs.Texts.{body}
use Rattle.fields.specs.Fields.{fields_from, fields_in}
use Rattle.fields.specs.Values.{number_of}
use Rattle.fields.specs.Decimals.{decimal}
use Rattle.fields.proofs.DecimalLaws.{AllDigits, decimal_all_digits, decimal_length, number_decimal}
use Rattle.fields.proofs.JoinLaws.{NoFeed, digits_no_feed}
use Rattle.lines.proofs.Clear.{Clear, digits_clear, clear_body, clear_alone}
use Rattle.lines.specs.Lines.{other_key, key_of, key_line, columns_of, sized_of, typed_of, count_of, class_of, of_fields, line_of}
use Rattle.lines.specs.declared.Part.{Part}
use Rattle.lines.specs.declared.Part.TheVariants.{Ins, Outs}
use Rattle.lines.specs.declared.Kind.{Kind}
use Rattle.lines.specs.declared.Kind.TheVariants.{Recording, Sheet}
use Rattle.lines.specs.declared.Key.TheVariants.{Size, Count}
use Rattle.lines.specs.declared.Line.TheVariants.{Sized, Typed, Rows, End}

-- a keyword of one letter, a space, and digits
abbrev pub keyed : ℕ → List ℕ → List ℕ
keyed c s = 46 ∷ c ∷ 32 ∷ s

module _ (s : List ℕ) (h : AllDigits s) (some : 1 ≤ length s) where
  clear : Clear s
  clear = digits_clear s h

  ins_fields : line_of (keyed 105 s) ≡ key_line (Some (Size Ins)) (s ∷ [])
  unfolding line_of body run mark_of fields_in fields_from of_fields class_of other_key key_of same
  ins_fields = rw (clear_body s clear, clear_alone s clear some)

  outs_fields : line_of (keyed 111 s) ≡ key_line (Some (Size Outs)) (s ∷ [])
  unfolding line_of body run mark_of fields_in fields_from of_fields class_of other_key key_of same
  outs_fields = rw (clear_body s clear, clear_alone s clear some)

  count_fields : line_of (keyed 112 s) ≡ key_line (Some Count) (s ∷ [])
  unfolding line_of body run mark_of fields_in fields_from of_fields class_of other_key key_of same
  count_fields = rw (clear_body s clear, clear_alone s clear some)

  keyed_no_feed : (c : ℕ) → NoFeed (c ∷ []) → NoFeed (keyed c s)
  unfolding mark_of
  keyed_no_feed c k = (refl, (k.0, (refl, digits_no_feed s h)))

-- `.i n` or `.o n`
abbrev pub size_text : Part → ℕ → List ℕ
size_text Ins n = keyed 105 (decimal n)
size_text Outs n = keyed 111 (decimal n)

pub size_text_lem : (p : Part) (n : ℕ) → 1 ≤ n → n ≤ 10 → line_of (size_text p n) ≡ Sized p n
size_text_lem p n h k = fields p ∙ ap (λ (x : Option ℕ). sized_of p (columns_of x)) (number_decimal n) ∙ rw (ne_eqb n 0 (nope n h), le-ltb 10 n k)
  where
    nope : (n : ℕ) → 1 ≤ n → n ≡ 0 → ⊥
    nope n h e = omega arith

    fields : (p : Part) → line_of (size_text p n) ≡ sized_of p (columns_of (number_of (decimal n)))
    fields Ins = ins_fields (decimal n) (decimal_all_digits n) (decimal_length n)
    fields Outs = outs_fields (decimal n) (decimal_all_digits n) (decimal_length n)

pub size_no_feed : (p : Part) (n : ℕ) → NoFeed (size_text p n)
unfolding mark_of
size_no_feed Ins n = keyed_no_feed (decimal n) (decimal_all_digits n) (decimal_length n) 105 (refl, tt)
size_no_feed Outs n = keyed_no_feed (decimal n) (decimal_all_digits n) (decimal_length n) 111 (refl, tt)

-- `.type fr` or `.type f`
abbrev pub type_text : Kind → List ℕ
type_text Recording = 46 ∷ 116 ∷ 121 ∷ 112 ∷ 101 ∷ 32 ∷ 102 ∷ 114 ∷ []
type_text Sheet = 46 ∷ 116 ∷ 121 ∷ 112 ∷ 101 ∷ 32 ∷ 102 ∷ []

pub type_text_lem : (t : Kind) → line_of (type_text t) ≡ Typed t
unfolding line_of body run mark_of fields_in fields_from of_fields class_of other_key key_of same typed_of
type_text_lem Recording = refl
type_text_lem Sheet = refl

pub type_no_feed : (t : Kind) → NoFeed (type_text t)
unfolding mark_of
type_no_feed Recording = (refl, (refl, (refl, (refl, (refl, (refl, (refl, (refl, tt))))))))
type_no_feed Sheet = (refl, (refl, (refl, (refl, (refl, (refl, (refl, tt)))))))

-- `.p k`
abbrev pub count_text : ℕ → List ℕ
count_text k = keyed 112 (decimal k)

pub count_text_lem : (k : ℕ) → line_of (count_text k) ≡ Rows k
count_text_lem k = count_fields (decimal k) (decimal_all_digits k) (decimal_length k) ∙ ap count_of (number_decimal k)

pub count_no_feed : (k : ℕ) → NoFeed (count_text k)
unfolding mark_of
count_no_feed k = keyed_no_feed (decimal k) (decimal_all_digits k) (decimal_length k) 112 (refl, tt)

-- `.e`
abbrev pub end_text : List ℕ
end_text = 46 ∷ 101 ∷ []

pub end_text_lem : line_of end_text ≡ End
unfolding line_of body run mark_of fields_in fields_from of_fields class_of other_key key_of same
end_text_lem = refl

pub end_no_feed : NoFeed end_text
unfolding mark_of
end_no_feed = (refl, (refl, tt))
