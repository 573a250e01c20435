-- The text of a sheet is accepted for its panel, and its rows and its words are those of the sheet.
use Prim.Native.Nat.{ℕ, ◌≤◌}
use mathlib.Core.Path.{◌≡◌, refl, sym, ◌∙◌, ap, ap₂, subst}
use mathlib.Core.List.{List, [], ◌∷◌, ◌++◌, map}
use mathlib.Core.Logic.{inr}
use mathlib.Core.Bool.{true, ◌&&◌}
use native.Mathlib.Omega.{arith}
use lib.Dec.{ltb}
use lib.ListN.{length}
use borrow.Author.Tests.{ltb-true}
use Rattle.table.specs.Lists.{all, increasing}
use Rattle.table.proofs.Basics.{and_l, and_r}
use Rattle.panel.specs.Masks.{panel_size}
use Rattle.panel.specs.Rules.{valid_rule, Rule}
use Rattle.panel.proofs.Words.{rule_e}
use Rattle.prime.specs.Sheets.{good_sheet, antichain}
use Rattle.lines.specs.declared.Masks.{Masks}
use Rattle.lines.specs.declared.Part.TheVariants.{Ins}
use Rattle.lines.proofs.Written.{end_text, end_text_lem}
use Rattle.headers.specs.Layouts.{sheet}
use Rattle.headers.specs.Verdicts.{judge_of}
use Rattle.headers.specs.Accepted.{times, rows_in, HeaderLine, RowLine, All, Accepted}
use Rattle.headers.specs.declared.Header.TheVariants.{Names}
use Rattle.std.specs.Prelude.{Ok}
use Rattle.headers.proofs.Accepting.{good_iff_text}
use Rattle.reading.specs.Rows.{rule_of, sheet_words}
use Rattle.writing.specs.SheetText.{sheet_text}
use Rattle.writing.proofs.WriteLaws.{size_small}
use Rattle.roundtrip.specs.Rows.{lines_rows, text_rows}
use Rattle.roundtrip.specs.Labels.{Labels}
use Rattle.roundtrip.proofs.RuleLaws.{rule_masks, rule_line_lem, rule_fits, rule_back}
use Rattle.roundtrip.proofs.RowLaws.{words_of_rows, rows_append}
use Rattle.roundtrip.proofs.LineLaws.{top_lines, row_lines, sheet_lines_lem}
use Rattle.roundtrip.proofs.HeaderLaws.{top_headers, top_once, top_sized, top_typed, top_both, top_named, top_nameless, top_rowless}

-- ---- the rows

-- the rules of a good sheet are valid
pub good_valid : (n : ℕ) (s : List ℕ) → good_sheet n s ≡ true → all (valid_rule n) s ≡ true
unfolding good_sheet
good_valid n s g = and_l (all (valid_rule n) s) (increasing s && antichain s) g

-- the first of some valid rules, and the others
first_rule : (n w : ℕ) (ws : List ℕ) → all (valid_rule n) (w ∷ ws) ≡ true → Rule n w × (all (valid_rule n) ws ≡ true)
first_rule n w ws h = (rule_e n w (and_l (valid_rule n w) _ h), and_r (valid_rule n w) _ h)

module _ (n : ℕ) (some : 1 ≤ n) (few : n ≤ 10) where
  rows_lines : (ws : List ℕ) → all (valid_rule n) ws ≡ true → All (RowLine sheet n) (row_lines n ws)
  rows_lines [] h = tt
  rows_lines (w ∷ ws) h = let r = first_rule n w ws h in (inr (rule_masks n w, rule_line_lem n w r.0 some few, rule_fits n w r.0 few), rows_lines ws r.1)

  rows_count : (ws : List ℕ) → all (valid_rule n) ws ≡ true → rows_in (row_lines n ws) ≡ length ws
  unfolding rows_in
  rows_count [] h = refl
  rows_count (w ∷ ws) h = let r = first_rule n w ws h in rw (rule_line_lem n w r.0 some few, rows_count ws r.1) (omega arith)

  rows_masks : (ws : List ℕ) → all (valid_rule n) ws ≡ true → lines_rows (row_lines n ws ++ end_text ∷ []) ≡ map (rule_masks n) ws
  unfolding lines_rows
  rows_masks [] h = rw end_text_lem
  rows_masks (w ∷ ws) h = let r = first_rule n w ws h in rw (rule_line_lem n w r.0 some few, rows_masks ws r.1)

  rules_back : (ws : List ℕ) → all (valid_rule n) ws ≡ true → map rule_of (map (rule_masks n) ws) ≡ ws
  rules_back [] h = refl
  rules_back (w ∷ ws) h = let r = first_rule n w ws h in ap₂ (λ (x : ℕ) (xs : List ℕ). x ∷ xs) (rule_back n w few r.0) (rules_back ws r.1)

-- ---- the whole

-- a panel has 1 to 10 relays
size_bounds : (n : ℕ) → panel_size n ≡ true → (1 ≤ n) × (n ≤ 10)
unfolding panel_size
size_bounds n h = (ltb-true 0 n (and_l (ltb 0 n) (ltb n 11) h), size_small n h)

module _ (n : ℕ) (p : panel_size n ≡ true) (ns : List (List ℕ)) (f : Labels n ns) (ws : List ℕ) (h : all (valid_rule n) ws ≡ true) where
  -- the text of a sheet is that of a sheet, in the words of the documents
  pub sheet_accepted : Accepted sheet n (sheet_text n ns ws)
  sheet_accepted =
      let some = (size_bounds n p).0 in
      let few = (size_bounds n p).1 in
      let k = length ws in
      record {
        top = top_lines n ns k;
        middle = row_lines n ws;
        mark = end_text;
        rest = [];
        names = ns;
        lines = sheet_lines_lem n ns ws f.good;
        headers = subst (λ (r : ℕ). All (HeaderLine sheet n r ns) (top_lines n ns k)) (sym (rows_count n some few ws h)) (top_headers n some few ns f k);
        once = top_once n some few ns f k;
        sized = top_sized n some few ns f k;
        typed = λ e. top_typed n some few ns f k;
        both = top_both n some few ns f k;
        rows = rows_lines n some few ws h;
        ends = end_text_lem;
        empty = tt;
      }

  -- with these names
  pub accepted_names : sheet_accepted.names ≡ ns
  unfolding sheet_accepted
  accepted_names = refl

  -- in name lines, if there are any
  pub accepted_named : (ns ≡ [] → ⊥) → times (Names Ins) sheet_accepted.top ≡ 1
  unfolding sheet_accepted
  accepted_named some = top_named n (size_bounds n p).0 (size_bounds n p).1 ns f (length ws) some

  pub accepted_nameless : ns ≡ [] → times (Names Ins) sheet_accepted.top ≡ 0
  unfolding sheet_accepted
  accepted_nameless none = top_nameless n (size_bounds n p).0 (size_bounds n p).1 ns f (length ws) none

  -- so it is accepted, for its panel
  pub sheet_good : judge_of sheet (sheet_text n ns ws) ≡ Ok n
  sheet_good = (good_iff_text sheet (sheet_text n ns ws) n).1 sheet_accepted

  -- its rows are the rows of the rules, in their order
  pub sheet_rows : text_rows (sheet_text n ns ws) ≡ map (rule_masks n) ws
  unfolding text_rows
  sheet_rows =
      let some = (size_bounds n p).0 in
      let few = (size_bounds n p).1 in
      ap lines_rows (sheet_lines_lem n ns ws f.good) ∙ rows_append (top_lines n ns (length ws)) _
      ∙ ap (λ (x : List Masks). x ++ lines_rows (row_lines n ws ++ end_text ∷ [])) (top_rowless n some few ns f (length ws)) ∙ rows_masks n some few ws h

  -- and its words are the words of the sheet
  pub sheet_back : sheet_words (sheet_text n ns ws) ≡ ws
  sheet_back = words_of_rows (sheet_text n ns ws) ∙ ap (map rule_of) sheet_rows ∙ rules_back n (size_bounds n p).0 (size_bounds n p).1 ws h
