-- The headers of the text of a sheet: each fits, none stands twice, and there are both name lines or none.
use Prim.Native.Nat.{ℕ, ◌+◌, ◌≤◌}
use mathlib.Core.Path.{◌≡◌, refl, sym, ◌∙◌, ap}
use mathlib.Core.List.{List, [], ◌∷◌}
use native.Mathlib.Omega.{arith}
use Rattle.lines.specs.Lines.{line_of}
use Rattle.lines.specs.declared.Kind.TheVariants.{Sheet}
use Rattle.lines.specs.declared.Part.{Part}
use Rattle.lines.specs.declared.Part.TheVariants.{Ins, Outs}
use Rattle.lines.specs.declared.Line.TheVariants.{Named}
use Rattle.lines.proofs.Written.{size_text_lem, type_text, type_text_lem, count_text, count_text_lem}
use Rattle.lines.proofs.NamesWritten.{name_text, names_text, name_text_lem}
use Rattle.headers.specs.Layouts.{same_header, sheet}
use Rattle.headers.specs.Accepted.{one, times, HeaderLine, All}
use Rattle.headers.specs.declared.Header.{Header}
use Rattle.headers.specs.declared.Header.TheVariants.{Size, Names, TypeWord, Count}
use Rattle.headers.proofs.Sizes.{all_append, times_append}
use Rattle.roundtrip.specs.Rows.{lines_rows}
use Rattle.roundtrip.specs.Labels.{Labels}
use Rattle.roundtrip.proofs.RowLaws.{rows_append}
use Rattle.roundtrip.proofs.LineLaws.{name_rows, top_lines}

module _ (n : ℕ) (some : 1 ≤ n) (few : n ≤ 10) where
  -- ---- the name lines

  -- each says that it names n columns
  name_says : (w : List ℕ) (ws : List (List ℕ)) → Labels n (w ∷ ws) → (p : Part) → line_of (name_text p (w ∷ ws)) ≡ Named p n
  name_says w ws f p =
      name_text_lem (w ∷ ws) f.good p (omega (arith, f.many)) (omega (arith, f.many)) ∙ ap (λ (k : ℕ). Named p k) f.many

  names_headers : (r : ℕ) (ns : List (List ℕ)) → Labels n ns → All (HeaderLine sheet n r ns) (name_rows ns)
  names_headers r [] f = tt
  names_headers r (w ∷ ws) f =
      rw (name_says w ws f Ins, name_says w ws f Outs) ((refl, names_text (w ∷ ws) f.good Ins), ((refl, names_text (w ∷ ws) f.good Outs), tt))

  names_times : (h : Header) (w : List ℕ) (ws : List (List ℕ)) → Labels n (w ∷ ws) → times h (name_rows (w ∷ ws)) ≡ one (same_header h (Names Ins)) + (one (same_header h (Names Outs)) + 0)
  unfolding times
  names_times h w ws f = rw (name_says w ws f Ins, name_says w ws f Outs)

  names_most : (h : Header) (ns : List (List ℕ)) → Labels n ns → times h (name_rows ns) ≤ one (same_header h (Names Ins)) + one (same_header h (Names Outs))
  unfolding times
  names_most h [] f = omega arith
  names_most h (w ∷ ws) f = omega (arith, names_times h w ws f)

  names_both : (ns : List (List ℕ)) → Labels n ns → times (Names Ins) (name_rows ns) ≡ times (Names Outs) (name_rows ns)
  unfolding times
  names_both [] f = refl
  names_both (w ∷ ws) f = names_times (Names Ins) w ws f ∙ sym (names_times (Names Outs) w ws f)

  names_named : (ns : List (List ℕ)) → Labels n ns → (ns ≡ [] → ⊥) → times (Names Ins) (name_rows ns) ≡ 1
  names_named [] f some-names = absurd (some-names refl)
  names_named (w ∷ ws) f some-names = names_times (Names Ins) w ws f

  names_rowless : (ns : List (List ℕ)) → Labels n ns → lines_rows (name_rows ns) ≡ []
  unfolding lines_rows
  names_rowless [] f = refl
  names_rowless (w ∷ ws) f = rw (name_says w ws f Ins, name_says w ws f Outs)

  -- ---- all headers

  module _ (ns : List (List ℕ)) (f : Labels n ns) (k : ℕ) where
    pub top_headers : All (HeaderLine sheet n k ns) (top_lines n ns k)
    top_headers =
        rw (size_text_lem Ins n some few, size_text_lem Outs n some few)
        (refl, (refl, all_append (HeaderLine sheet n k ns) (name_rows ns) (type_text Sheet ∷ count_text k ∷ []) (names_headers k ns f) (rw (type_text_lem Sheet, count_text_lem k) (refl, (refl, tt)))))

    top_times : (h : Header) → times h (top_lines n ns k)
        ≡ one (same_header h (Size Ins)) + (one (same_header h (Size Outs)) + (times h (name_rows ns) + (one (same_header h TypeWord) + (one (same_header h Count) + 0))))
    unfolding times
    top_times h = rw (size_text_lem Ins n some few, size_text_lem Outs n some few, times_append h (name_rows ns) (type_text Sheet ∷ count_text k ∷ []), type_text_lem Sheet, count_text_lem k)

    pub top_once : (h : Header) → times h (top_lines n ns k) ≤ 1
    top_once (Size Ins) = omega (arith, top_times (Size Ins), names_most (Size Ins) ns f)
    top_once (Size Outs) = omega (arith, top_times (Size Outs), names_most (Size Outs) ns f)
    top_once (Names Ins) = omega (arith, top_times (Names Ins), names_most (Names Ins) ns f)
    top_once (Names Outs) = omega (arith, top_times (Names Outs), names_most (Names Outs) ns f)
    top_once TypeWord = omega (arith, top_times TypeWord, names_most TypeWord ns f)
    top_once Count = omega (arith, top_times Count, names_most Count ns f)

    pub top_sized : (p : Part) → times (Size p) (top_lines n ns k) ≡ 1
    top_sized Ins = omega (arith, top_times (Size Ins), names_most (Size Ins) ns f)
    top_sized Outs = omega (arith, top_times (Size Outs), names_most (Size Outs) ns f)

    pub top_typed : times TypeWord (top_lines n ns k) ≡ 1
    top_typed = omega (arith, top_times TypeWord, names_most TypeWord ns f)

    pub top_both : times (Names Ins) (top_lines n ns k) ≡ times (Names Outs) (top_lines n ns k)
    top_both = omega (arith, top_times (Names Ins), top_times (Names Outs), names_both ns f)

    pub top_named : (ns ≡ [] → ⊥) → times (Names Ins) (top_lines n ns k) ≡ 1
    top_named some-names = omega (arith, top_times (Names Ins), names_named ns f some-names)

    pub top_nameless : ns ≡ [] → times (Names Ins) (top_lines n ns k) ≡ 0
    unfolding times
    top_nameless none = omega (arith, top_times (Names Ins), ap (λ (x : List (List ℕ)). times (Names Ins) (name_rows x)) none)

    -- no header is a row
    pub top_rowless : lines_rows (top_lines n ns k) ≡ []
    unfolding lines_rows
    top_rowless = rw (size_text_lem Ins n some few, size_text_lem Outs n some few, rows_append (name_rows ns) (type_text Sheet ∷ count_text k ∷ []), names_rowless ns f, type_text_lem Sheet, count_text_lem k)
