-- The names of the text of a sheet are the names that it was written with, and such names may be written.
use Prim.Native.Nat.{ℕ, zero, suc, ◌<◌}
use mathlib.Core.Path.{◌≡◌, refl, sym, ◌∙◌, ap}
use mathlib.Core.List.{List, [], ◌∷◌}
use mathlib.Core.Logic.{⊎_elim}
use mathlib.Core.Bool.{Bool, true, false, cond}
use native.Mathlib.Omega.{arith}
use lib.ListN.{length, get_or, length-append, get_or-append}
use lib.Seq.{get_or_at}
use Rattle.table.specs.Lists.{all}
use Rattle.panel.specs.Masks.{panel_size}
use Rattle.panel.specs.Rules.{valid_rule}
use Rattle.fields.proofs.FieldLaws.{end_or}
use Rattle.lines.specs.declared.Kind.TheVariants.{Sheet}
use Rattle.naming.specs.Naming.{name_of}
use Rattle.naming.specs.Columns.{column_names, all_named, names_for}
use Rattle.naming.proofs.ColumnLaws.{written_good}
use Rattle.naming.proofs.Request.{own_written, none_written}
use Rattle.naming.proofs.Instances.{empty_bad}
use Rattle.writing.specs.SheetText.{sheet_text}
use Rattle.roundtrip.specs.Labels.{NoneOrAll, Labels}
use Rattle.roundtrip.proofs.SheetLaws.{sheet_accepted, accepted_names, accepted_named, accepted_nameless}

-- ---- the names that a sheet is written with

module _ (panel maker : List ℕ) where
  columns_count : (n : ℕ) → length (column_names panel maker n) ≡ n
  unfolding column_names
  columns_count zero = refl
  columns_count (suc n) = omega (arith, columns_count n, length-append (column_names panel maker n) (name_of panel maker n ∷ []))

  column_at : (n v : ℕ) → v < n → get_or (column_names panel maker n) v [] ≡ name_of panel maker v
  unfolding column_names
  column_at zero v h = absurd (omega arith)
  column_at (suc n) v h =
      ⊎_elim
      (λ e. get_or_at (column_names panel maker n) (name_of panel maker n) [] [] v (columns_count n ∙ sym e) ∙ ap (name_of panel maker) (sym e))
      (λ l. get_or-append (column_names panel maker n) (name_of panel maker n ∷ []) [] v (omega (arith, columns_count n)) ∙ column_at n v l)
      (end_or v n (omega arith))

  -- are none, or one for each column, and good
  pub labels : (n : ℕ) → Labels n (names_for panel maker n)
  unfolding names_for
  labels n = record { good = written_good panel maker n; many = go (all_named (column_names panel maker n)) }
    where
      whole : (ns : List (List ℕ)) → length ns ≡ n → NoneOrAll n ns
      whole [] e = tt
      whole (w ∷ ws) e = e

      go : (b : Bool) → NoneOrAll n (cond b (column_names panel maker n) [])
      go true = whole (column_names panel maker n) (columns_count n)
      go false = tt

  -- and, if there are any, those of the columns
  pub label_at : (n v : ℕ) → (names_for panel maker n ≡ [] → ⊥) → v < n → name_of panel maker v ≡ get_or (names_for panel maker n) v []
  unfolding names_for
  label_at n v some h = go (all_named (column_names panel maker n)) some
    where
      go : (b : Bool) → (cond b (column_names panel maker n) [] ≡ [] → ⊥) → name_of panel maker v ≡ get_or (cond b (column_names panel maker n) []) v []
      go true s = sym (column_at n v h)
      go false s = absurd (s refl)

-- ---- the text has the names that it was written with

module _ (n : ℕ) (p : panel_size n ≡ true) (ws : List ℕ) (h : all (valid_rule n) ws ≡ true) where
  -- whatever the maker's text
  pub names_back : (ns : List (List ℕ)) → Labels n ns → (ns ≡ [] → ⊥) → (m : List ℕ) → names_for (sheet_text n ns ws) m n ≡ ns
  names_back ns f some m = own_written Sheet (sheet_text n ns ws) m n (sheet_accepted n p ns f ws h) (accepted_named n p ns f ws h some) ∙ accepted_names n p ns f ws h

  -- and where there were none, none, if the maker's text is empty
  pub none_back : (ns : List (List ℕ)) → Labels n ns → ns ≡ [] → names_for (sheet_text n ns ws) [] n ≡ []
  none_back ns f none = none_written Sheet (sheet_text n ns ws) [] n (sheet_accepted n p ns f ws h) (accepted_nameless n p ns f ws h none) empty_bad n

  -- so with an empty maker's text they are the same in either case
  pub same_back : (ns : List (List ℕ)) → Labels n ns → names_for (sheet_text n ns ws) [] n ≡ ns
  same_back [] f = none_back [] f refl
  same_back (w ∷ vs) f = names_back (w ∷ vs) f (λ e. omega (arith, ap length e)) []

  -- column by column
  pub name_back : (ns : List (List ℕ)) → Labels n ns → (ns ≡ [] → ⊥) → (m : List ℕ) (v : ℕ) → v < n → name_of (sheet_text n ns ws) m v ≡ get_or ns v []
  name_back ns f some m v l =
      let q = names_back ns f some m in
      label_at (sheet_text n ns ws) m n v (λ e. some (sym q ∙ e)) l ∙ ap (λ (x : List (List ℕ)). get_or x v []) q
