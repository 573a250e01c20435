-- One sheet has one text, and back: sheets of different words, of different names or of different panels are written differently.
use Prim.Native.Nat.{ℕ}
use mathlib.Core.Path.{◌≡◌, sym, ◌∙◌, ap, ap₂}
use mathlib.Core.List.{List, []}
use mathlib.Core.Bool.{true}
use Rattle.table.specs.Lists.{all}
use Rattle.panel.specs.Masks.{panel_size}
use Rattle.panel.specs.Rules.{valid_rule}
use Rattle.prime.specs.Sheets.{good_sheet}
use Rattle.headers.specs.Layouts.{sheet}
use Rattle.headers.specs.Verdicts.{judge_of}
use Rattle.std.specs.Prelude.{Ok}
use Rattle.naming.specs.Columns.{names_for}
use Rattle.reading.specs.Rows.{sheet_words}
use Rattle.writing.specs.SheetText.{sheet_text}
use Rattle.roundtrip.specs.Labels.{Labels}
use Rattle.roundtrip.proofs.SheetLaws.{sheet_good, sheet_back, good_valid}
use Rattle.roundtrip.proofs.NameLaws.{same_back}

module _ (n m : ℕ) (p : panel_size n ≡ true) (q : panel_size m ≡ true) (a b : List (List ℕ)) (f : Labels n a) (g : Labels m b) (ws us : List ℕ) where
  -- what a text is read as tells what was written
  pub text_unique : all (valid_rule n) ws ≡ true → all (valid_rule m) us ≡ true → sheet_text n a ws ≡ sheet_text m b us → (n ≡ m) × (a ≡ b) × (ws ≡ us)
  text_unique h k e =
      let good : Ok n ≡ Ok m = sym (sheet_good n p a f ws h) ∙ ap (judge_of sheet) e ∙ sheet_good m q b g us k in
      let size : n ≡ m = cc in (
        size,
        sym (same_back n p ws h a f) ∙ ap₂ (λ (t : List ℕ) (i : ℕ). names_for t [] i) e size ∙ same_back m q us k b g,
        sym (sheet_back n p a f ws h) ∙ ap sheet_words e ∙ sheet_back m q b g us k,
      )

  -- two good sheets that have one text are one sheet of one panel with the same names
  pub good_text_unique : good_sheet n ws ≡ true → good_sheet m us ≡ true → sheet_text n a ws ≡ sheet_text m b us → (n ≡ m) × (a ≡ b) × (ws ≡ us)
  good_text_unique h k e = text_unique (good_valid n ws h) (good_valid m us k) e
