-- Laws of the codes of writing, of what it leaves, and that its contract fixes both.
use Prim.Native.Nat.{ℕ, ◌+◌, ◌*◌, ◌/◌, ◌-◌, ◌≤◌, ◌<◌}
use mathlib.Core.Path.{◌≡◌, refl, sym, ◌∙◌, ap}
use mathlib.Core.List.{List}
use mathlib.Core.Bool.{Bool, true, false, not}
use native.Mathlib.Omega.{arith}
use native.Mathlib.Nat.{sub-zero}
use lib.Dec.{leb, ltb}
use lib.ListN.{length, take, drop}
use lib.Seq.{length-take-le}
use borrow.Author.Tests.{lt-ltb, le-ltb, ltb-true, ltb-false, leb-true, leb-false, le-leb, lt-leb}
use Rattle.table.proofs.Basics.{and_r}
use Rattle.answers.proofs.Laws.{refuse_none}
use Rattle.std.specs.Prelude.{Ok}
use Rattle.fields.specs.Decimals.{decimal}
use Rattle.fields.specs.Fields.{fields_in}
use Rattle.fields.specs.declared.Span.{Span}
use Rattle.names.specs.Names.{spaced, names_in, NamesAt}
use Rattle.naming.specs.Columns.{name_line, names_for}
use Rattle.naming.proofs.ColumnLaws.{line_names}
use Rattle.panel.specs.Masks.{panel_size}
use Rattle.prime.specs.Sheets.{good_sheet}
use Rattle.writing.specs.TableText.{table_text}
use Rattle.writing.specs.SheetText.{sheet_table, sheet_word, sheet_text}
use Rattle.writing.specs.Writing.{Put, Room, count_length, names_length, text_length, write_code, with_length, write_answer, WritesNamed}
use Rattle.writing.specs.declared.Page.{Page}
use Rattle.writing.specs.declared.Table.{Table}
use Rattle.writing.specs.declared.WriteAnswer.{WriteAnswer}
use Rattle.writing.proofs.NameLines.{names_length_none, names_length_some}
use Rattle.writing.proofs.TextLaws.{sheet_length, rows_fit}

-- ---- whether the name lines and the rows fit, over the bytes of the names

module _ (names : List (List ℕ)) (n count room k : ℕ) (hk : k ≡ length (spaced names)) where
  pub rows_alone : k ≡ 0 → leb count (room / (2 * n + 2)) ≡ leb (names_length names + count * (2 * n + 2)) room
  rows_alone z = rw (names_length_none names (sym hk ∙ z)) (ap (λ (x : ℕ). leb count (x / (2 * n + 2))) (sym (sub-zero room)) ∙ rows_fit 0 count (2 * n + 2) room (omega arith) (omega arith))

  module _ (f : k ≡ 0 → ⊥) where
    length_is : names_length names ≡ 9 + 2 * k
    length_is = names_length_some names (λ z. f (hk ∙ z)) ∙ omega arith

    pub lines_not : room < 9 + 2 * k → false ≡ leb (names_length names + count * (2 * n + 2)) room
    lines_not h = sym (lt-leb _ room (omega (arith, length_is)))

    pub rows_behind : 9 + 2 * k ≤ room → leb count ((room - (9 + 2 * k)) / (2 * n + 2)) ≡ leb (names_length names + count * (2 * n + 2)) room
    rows_behind h = rw length_is (rows_fit (9 + 2 * k) count (2 * n + 2) room (omega arith) h)

-- ---- whether the text fits behind its headers, over the digits of its size and the length of its line `.p`

leb_behind : (head rest room : ℕ) → head ≤ room → leb rest (room - head) ≡ leb (head + rest) room
leb_behind head rest room h = go (leb rest (room - head)) refl
  where
    go : (u : Bool) → leb rest (room - head) ≡ u → u ≡ leb (head + rest) room
    go true q = sym (le-leb _ room (omega (arith, leb-true rest (room - head) q)))
    go false q = sym (lt-leb _ room (omega (arith, leb-false rest (room - head) q)))

module _ (t : Table) (word : List ℕ) (n : ℕ) (names : List (List ℕ)) (count room a b : ℕ) (ha : a ≡ length (decimal n)) (hb : b ≡ count_length t.counted count) where
  pub fits_not : room < 18 + length word + 2 * a + b → false ≡ leb (text_length t word n names count) room
  unfolding text_length
  fits_not h = sym (lt-leb _ room (omega arith))

  pub fits_rest : (r : Bool) → 18 + length word + 2 * a + b ≤ room → r ≡ leb (names_length names + count * (2 * n + 2)) (room - (18 + length word + 2 * a + b)) → r ≡ leb (text_length t word n names count) room
  unfolding text_length
  fits_rest r h e =
      e ∙ leb_behind (18 + length word + 2 * a + b) (names_length names + count * (2 * n + 2)) room h ∙ ap (λ (x : ℕ). leb x room) (omega arith)

-- ---- the codes in order

pub size_small : (n : ℕ) → panel_size n ≡ true → n ≤ 10
unfolding panel_size
size_small n h = omega (arith, ltb-true n 11 (and_r (ltb 0 n) (ltb n 11) h))

-- the text of the rules is longer than the room exactly where its length before it is written does not fit
pub text_kept : (n : ℕ) (names : List (List ℕ)) (sheet : List ℕ) (count room : ℕ) → count ≤ length sheet → ltb room (length (sheet_text n names (take count sheet))) ≡ not (leb (text_length sheet_table sheet_word n names count) room)
text_kept n names sheet count room c =
    ap (ltb room) (sheet_length n names (take count sheet) ∙ ap (text_length sheet_table sheet_word n names) (length-take-le count sheet c))
    ∙ go (leb (text_length sheet_table sheet_word n names count) room) refl
  where
    go : (b : Bool) → leb (text_length sheet_table sheet_word n names count) room ≡ b → ltb room (text_length sheet_table sheet_word n names count) ≡ not b
    go true e = le-ltb room _ (leb-true _ room e)
    go false e = lt-ltb room _ (leb-false _ room e)

-- code 0: the text is in the room
text_room : (n : ℕ) (names : List (List ℕ)) (sheet : List ℕ) (count room : ℕ) → 0 ≡ write_code n names sheet count room → length (sheet_text n names (take count sheet)) ≤ room
unfolding write_code
text_room n names sheet count room h =
    let p = refuse_none (not (panel_size n)) 1 _ (sym h) in
    let c = refuse_none (ltb (length sheet) count) 2 _ p.1 in
    let g = refuse_none (not (good_sheet n (take count sheet))) 4 _ c.1 in
    let f = refuse_none (ltb room (length (sheet_text n names (take count sheet)))) 11 0 g.1 in
    ltb-false room _ f.0

-- ---- what `write_sheet` leaves, over what its calls answer

module _ (n : ℕ) (names : List (List ℕ)) (sheet : List ℕ) (count : ℕ) (before : List ℕ) where
  -- with code 0 there is room for the text, and it is written
  module _ (rules : List ℕ) (h : 0 ≡ write_code n names sheet count (length before)) (r : rules ≡ take count sheet) where
    pub page_room : (p : Page) → p.out.now ≡ before → p.at ≡ 0 → Room p (table_text sheet_table sheet_word n names rules)
    unfolding sheet_text
    page_room p o z = rw (o, z, r) (omega (arith, text_room n names sheet count (length before) h))

    pub write_done : (after : List ℕ) (e : ℕ) → Put before 0 (table_text sheet_table sheet_word n names rules) after e → WritesNamed n names sheet count before after (write_answer (Ok e))
    unfolding sheet_text
    write_done after e q =
        let p : Put before 0 (sheet_text n names (take count sheet)) after e = rw (← r) q in
        record { answer = rw (← h) (ap (with_length 0) (omega (arith, p.behind))); bytes = rw (← h) p.bytes }

-- the names that `write_sheet` finds in a name line
pub names_found : (panel maker : List ℕ) (n : ℕ) (line : List ℕ) (p : Span) → line ≡ name_line panel maker n → NamesAt line p
    → take n (fields_in (take (p.to - p.from) (drop p.from line))) ≡ names_for panel maker n
names_found panel maker n line p e h = ap (take n) h.names ∙ ap (λ (x : List ℕ). take n (names_in x)) e ∙ line_names panel maker n

pub write_with : (n : ℕ) (names others : List (List ℕ)) (sheet : List ℕ) (count : ℕ) (before after : List ℕ) (r : WriteAnswer) → names ≡ others → WritesNamed n names sheet count before after r → WritesNamed n others sheet count before after r
write_with n names others sheet count before after r e w = rw e at w

-- any two results that satisfy the contract of `write_sheet` are equal
pub write_unique : {n count : ℕ} {names : List (List ℕ)} {sheet before x y : List ℕ} {r s : WriteAnswer} → WritesNamed n names sheet count before x r → WritesNamed n names sheet count before y s → (r ≡ s) × (x ≡ y)
write_unique a b = (a.answer ∙ sym b.answer, a.bytes ∙ sym b.bytes)
