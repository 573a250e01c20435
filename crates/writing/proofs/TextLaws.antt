-- Laws of the text of a table: its parts one behind the other, and its length before it is written.
use Prim.Native.Nat.{ℕ, zero, suc, ◌+◌, ◌-◌, ◌*◌, ◌/◌, ◌≤◌, ◌<◌}
use mathlib.Core.Path.{◌≡◌, refl, sym, ◌∙◌, ap}
use mathlib.Core.List.{List, [], ◌∷◌, ◌++◌, append-nil, append_assoc}
use mathlib.Core.Bool.{Bool, true, false}
use native.Mathlib.Omega.{arith}
use native.Mathlib.Numerals.{add-one}
use native.Mathlib.Nat.{suc-mul, le-div_iff_mul-le, div-lt_iff_lt-mul}
use lib.Dec.{leb}
use lib.ListN.{length, get_or, take, drop, length-append, take-append-drop}
use lib.Seq.{take-suc}
use borrow.Author.Tests.{le-leb, lt-leb, leb-true, leb-false}
use Rattle.fields.specs.Decimals.{decimal}
use Rattle.writing.specs.TableText.{column_byte, columns, row_text, rows_text, header_text, name_lines, type_text, count_text, table_text}
use Rattle.writing.specs.SheetText.{sheet_table, sheet_word, sheet_text}
use Rattle.writing.specs.Writing.{Wrote, count_length, text_length, Put}
use Rattle.writing.specs.declared.Page.{Page}
use Rattle.writing.specs.declared.Table.{Table}
use Rattle.writing.proofs.PutLaws.{wrote_none, wrote_then, line_length, wrote_line, put_length, put_then}
use Rattle.writing.proofs.NameLines.{lines_length}

-- ---- columns

pub columns_more : (f : ℕ → ℕ) (v : ℕ) → columns f (v + 1) ≡ columns f v ++ f v ∷ []
unfolding columns
columns_more f v = rw (add-one v)

pub columns_length : (f : ℕ → ℕ) (n : ℕ) → length (columns f n) ≡ n
unfolding columns
columns_length f zero = refl
columns_length f (suc n) = length-append (columns f n) (f n ∷ []) ∙ rw (columns_length f n) (omega arith)

pub no_columns : (p : Page) (f : ℕ → ℕ) → p.at ≤ length p.out.now → Wrote p (columns f 0) p
unfolding columns
no_columns p f h = wrote_none p h

pub wrote_column : {p q r : Page} (f : ℕ → ℕ) (v b : ℕ) → b ≡ f v → Wrote p (columns f v) q → Wrote q (b ∷ []) r → Wrote p (columns f (v + 1)) r
wrote_column f v b e p q = rw (columns_more f v, ← e) (wrote_then p q)

-- ---- rows

module _ (ins outs : ℕ → ℕ → ℕ) (n : ℕ) where
  pub no_rows : (p : Page) → p.at ≤ length p.out.now → Wrote p (rows_text ins outs n []) p
  unfolding rows_text
  no_rows p h = wrote_none p h

  pub row_length : (w : ℕ) → length (row_text ins outs n w) ≡ 2 * n + 2
  unfolding row_text
  row_length w =
      length-append (columns (ins w) n) (32 ∷ (columns (outs w) n ++ 10 ∷ []))
      ∙ omega (arith, columns_length (ins w) n, columns_length (outs w) n, length-append (columns (outs w) n) (10 ∷ []))

  pub rows_length : (ws : List ℕ) → length (rows_text ins outs n ws) ≡ length ws * (2 * n + 2)
  unfolding rows_text
  rows_length [] = omega arith
  rows_length (w ∷ ws) =
      length-append (row_text ins outs n w) (rows_text ins outs n ws) ∙ omega (arith, row_length w, rows_length ws, suc-mul (length ws) (2 * n + 2))

  rows_append : (ws us : List ℕ) → rows_text ins outs n (ws ++ us) ≡ rows_text ins outs n ws ++ rows_text ins outs n us
  unfolding rows_text
  rows_append [] us = refl
  rows_append (w ∷ ws) us = rw (rows_append ws us) (sym (append_assoc (row_text ins outs n w) (rows_text ins outs n ws) (rows_text ins outs n us)))

  rows_one : (w : ℕ) → rows_text ins outs n (w ∷ []) ≡ row_text ins outs n w
  unfolding rows_text
  rows_one w = append-nil (row_text ins outs n w)

  module _ (ws : List ℕ) (i : ℕ) (l : i < length ws) where
    rows_next : rows_text ins outs n (take (i + 1) ws) ≡ rows_text ins outs n (take i ws) ++ row_text ins outs n (get_or ws i 0)
    rows_next = rw (add-one i, take-suc ws i 0 l, rows_append (take i ws) (get_or ws i 0 ∷ []), rows_one (get_or ws i 0))

    -- the rows before a row, and the row, are not longer than all
    pub rows_room : length (rows_text ins outs n (take i ws)) + length (row_text ins outs n (get_or ws i 0)) ≤ length (rows_text ins outs n ws)
    rows_room =
        omega (
          arith,
          length-append (rows_text ins outs n (take i ws)) (row_text ins outs n (get_or ws i 0)),
          ap length rows_next,
          length-append (rows_text ins outs n (take (i + 1) ws)) (rows_text ins outs n (drop (i + 1) ws)),
          ap length (sym (rows_append (take (i + 1) ws) (drop (i + 1) ws)) ∙ ap (rows_text ins outs n) (take-append-drop (i + 1) ws)),
        )

    pub wrote_row : {p q r : Page} → Wrote p (rows_text ins outs n (take i ws)) q → Wrote q (row_text ins outs n (get_or ws i 0)) r → Wrote p (rows_text ins outs n (take (i + 1) ws)) r
    wrote_row p q = rw rows_next (wrote_then p q)

-- ---- headers

pub header_length : (key : List ℕ) (v : ℕ) → length (header_text key v) ≡ length key + (length (decimal v) + 1)
unfolding header_text
header_length key v = line_length key (decimal v)

pub type_length : (word : List ℕ) → length (type_text word) ≡ 7 + length word
unfolding type_text
type_length word = line_length (46 ∷ 116 ∷ 121 ∷ 112 ∷ 101 ∷ 32 ∷ []) word ∙ omega arith

pub count_length_lem : (counted : Bool) (k : ℕ) → length (count_text counted k) ≡ count_length counted k
unfolding count_text count_length
count_length_lem true k = header_length (46 ∷ 112 ∷ 32 ∷ []) k ∙ omega arith
count_length_lem false k = refl

-- ---- the whole

pub table_parts : (t : Table) (word : List ℕ) (n : ℕ) (names : List (List ℕ)) (ws : List ℕ) → length (table_text t word n names ws)
    ≡ length (header_text (46 ∷ 105 ∷ 32 ∷ []) n) + (length (header_text (46 ∷ 111 ∷ 32 ∷ []) n) + (length (name_lines names) + (length (type_text word) + (length (count_text t.counted (length ws)) + (length (rows_text (column_byte t.ins) (column_byte t.outs) n ws) + 3)))))
unfolding table_text
table_parts t word n names ws = simp length-append (omega arith)

-- three and four things one behind the other
pub wrote_header : {p q r t : Page} {key : List ℕ} (v : ℕ) → Wrote p key q → Wrote q (decimal v) r → Wrote r (10 ∷ []) t → Wrote p (header_text key v) t
unfolding header_text
wrote_header v a b c = wrote_line a b c

pub wrote_type : {p q r t : Page} {word : List ℕ} → Wrote p (46 ∷ 116 ∷ 121 ∷ 112 ∷ 101 ∷ 32 ∷ []) q → Wrote q word r → Wrote r (10 ∷ []) t → Wrote p (type_text word) t
unfolding type_text
wrote_type a b c = wrote_line a b c

pub wrote_row_text : {p q r t u : Page} (ins outs : ℕ → ℕ → ℕ) (n w : ℕ) → Wrote p (columns (ins w) n) q → Wrote q (32 ∷ []) r → Wrote r (columns (outs w) n) t → Wrote t (10 ∷ []) u → Wrote p (row_text ins outs n w) u
unfolding row_text
wrote_row_text ins outs n w a b c d = wrote_then a (wrote_then b (wrote_then c d))

-- seven things one behind the other, of lent bytes and places
module _ (d : List ℕ) (at : ℕ) where
  pub put_table_text : (t : Table) (word : List ℕ) (n : ℕ) (names : List (List ℕ)) (ws d₁ : List ℕ) (a : ℕ) (d₂ : List ℕ) (b : ℕ) (d₃ : List ℕ) (c : ℕ) (d₄ : List ℕ) (e : ℕ) (d₅ : List ℕ) (f : ℕ) (d₆ : List ℕ) (g : ℕ) (d₇ : List ℕ) (k : ℕ)
      → at + length (table_text t word n names ws) ≤ length d
      → Put d at (header_text (46 ∷ 105 ∷ 32 ∷ []) n) d₁ a → Put d₁ a (header_text (46 ∷ 111 ∷ 32 ∷ []) n) d₂ b → Put d₂ b (name_lines names) d₃ c
      → Put d₃ c (type_text word) d₄ e → Put d₄ e (count_text t.counted (length ws)) d₅ f
      → Put d₅ f (rows_text (column_byte t.ins) (column_byte t.outs) n ws) d₆ g → Put d₆ g (46 ∷ 101 ∷ 10 ∷ []) d₇ k → Put d at (table_text t word n names ws) d₇ k
  unfolding table_text
  put_table_text tb word n names ws d₁ a d₂ b d₃ c d₄ e d₅ f d₆ g d₇ k h i o m y p r u =
      let l = table_parts tb word n names ws in
      let l₁ = put_length d at _ d₁ a (omega arith) i in
      let l₂ = put_length d₁ a _ d₂ b (omega (arith, i.behind)) o in
      let l₃ = put_length d₂ b _ d₃ c (omega (arith, i.behind, o.behind)) m in
      let l₄ = put_length d₃ c _ d₄ e (omega (arith, i.behind, o.behind, m.behind)) y in
      let l₅ = put_length d₄ e _ d₅ f (omega (arith, i.behind, o.behind, m.behind, y.behind)) p in
      put_then d at _ d₁ a _ d₇ k (omega arith) i
      (put_then d₁ a _ d₂ b _ d₇ k (omega (arith, i.behind)) o
      (put_then d₂ b _ d₃ c _ d₇ k (omega (arith, i.behind, o.behind)) m
      (put_then d₃ c _ d₄ e _ d₇ k (omega (arith, i.behind, o.behind, m.behind)) y
      (put_then d₄ e _ d₅ f _ d₇ k (omega (arith, i.behind, o.behind, m.behind, y.behind)) p
      (put_then d₅ f _ d₆ g _ d₇ k (omega (arith, i.behind, o.behind, m.behind, y.behind, p.behind)) r u)))))

-- the same on a page
pub wrote_table_text : {p a b c d e f q : Page} (t : Table) (word : List ℕ) (n : ℕ) (names : List (List ℕ)) (ws : List ℕ)
    → Wrote p (header_text (46 ∷ 105 ∷ 32 ∷ []) n) a → Wrote a (header_text (46 ∷ 111 ∷ 32 ∷ []) n) b → Wrote b (name_lines names) c
    → Wrote c (type_text word) d → Wrote d (count_text t.counted (length ws)) e
    → Wrote e (rows_text (column_byte t.ins) (column_byte t.outs) n ws) f → Wrote f (46 ∷ 101 ∷ 10 ∷ []) q → Wrote p (table_text t word n names ws) q
wrote_table_text {p} {a} {b} {c} {d} {e} {f} {q} t word n names ws i o m y k r u =
    let fits : p.at + length (table_text t word n names ws) ≤ length p.out.now =
    omega (
      arith,
      table_parts t word n names ws,
      i.put.behind,
      o.put.behind,
      m.put.behind,
      y.put.behind,
      k.put.behind,
      r.put.behind,
      u.room,
      i.long,
      o.long,
      m.long,
      y.long,
      k.long,
      r.long,
    ) in
    record {
      same_reference =
          u.same_reference ∙ r.same_reference ∙ k.same_reference ∙ y.same_reference ∙ m.same_reference ∙ o.same_reference ∙ i.same_reference;
      room = fits;
      long = u.long ∙ r.long ∙ k.long ∙ y.long ∙ m.long ∙ o.long ∙ i.long;
      put = put_table_text p.out.now p.at t word n names ws _ _ _ _ _ _ _ _ _ _ _ _ _ _ fits i.put o.put m.put y.put k.put r.put u.put;
    }

-- the length of the text is known before it is written
pub table_length : (t : Table) (word : List ℕ) (n : ℕ) (names : List (List ℕ)) (ws : List ℕ) → length (table_text t word n names ws) ≡ text_length t word n names (length ws)
unfolding text_length
table_length t word n names ws =
    table_parts t word n names ws
    ∙ omega (
      arith,
      header_length (46 ∷ 105 ∷ 32 ∷ []) n,
      header_length (46 ∷ 111 ∷ 32 ∷ []) n,
      lines_length names,
      type_length word,
      count_length_lem t.counted (length ws),
      rows_length (column_byte t.ins) (column_byte t.outs) n ws,
    )

pub sheet_length : (n : ℕ) (names : List (List ℕ)) (ws : List ℕ) → length (sheet_text n names ws) ≡ text_length sheet_table sheet_word n names (length ws)
unfolding sheet_text
sheet_length n names ws = table_length sheet_table sheet_word n names ws

-- rows fit behind the rest exactly if there are no more than the rest leaves room for
pub rows_fit : (head count row room : ℕ) → 0 < row → head ≤ room → leb count ((room - head) / row) ≡ leb (head + count * row) room
rows_fit head count row room h l = go (leb count ((room - head) / row)) refl
  where
    go : (t : Bool) → leb count ((room - head) / row) ≡ t → t ≡ leb (head + count * row) room
    go true e = sym (le-leb _ room (omega (arith, (le-div_iff_mul-le {k = row} {x = count} {y = room - head} h).0 (leb-true _ _ e))))
    go false e = sym (lt-leb _ room (omega (arith, (div-lt_iff_lt-mul {k = row} {x = room - head} {y = count} h).0 (leb-false _ _ e))))
