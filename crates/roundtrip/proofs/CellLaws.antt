-- A row that is written column by column, each column by two tests: what its line says.
use Prim.Native.Nat.{ℕ, zero, suc, ◌+◌, ◌*◌, ◌≤◌}
use mathlib.Core.Path.{◌≡◌, refl, ◌∙◌, ap}
use mathlib.Core.List.{List, [], ◌∷◌, ◌++◌, append-nil}
use mathlib.Core.Bool.{Bool, true, false, cond, not, ◌&&◌}
use native.Mathlib.Omega.{arith}
use native.Mathlib.Nat.{pow-suc, add-zero}
use lib.ListN.{length}
use borrow.Author.Tests.{eq-eqb, le-leb}
use Rattle.panel.specs.Masks.{bit_if, bits_where}
use Rattle.fields.specs.Bytes.{mark_of}
use Rattle.fields.specs.Texts.{body}
use Rattle.fields.specs.Fields.{fields_from, fields_in}
use Rattle.fields.specs.Values.{cube, column_of, cube_of}
use Rattle.fields.proofs.JoinLaws.{NoFeed}
use Rattle.lines.specs.Lines.{row_line, class_of, of_fields, line_of}
use Rattle.lines.specs.declared.Masks.{Masks}
use Rattle.lines.specs.declared.Line.TheVariants.{Row}
use Rattle.lines.proofs.Clear.{Clear, no_hash_body, clear_no_hash, clear_no_feed, close_some, clear_field, clear_alone}
use Rattle.writing.specs.TableText.{columns}
use Rattle.writing.proofs.TextLaws.{columns_length}

-- `1` where the first test passes, else `0` where the second does, else `-`
abbrev pub cell : Bool → Bool → ℕ
cell a b = cond a 49 (cond b 48 45)

-- n columns by two tests
abbrev pub cells : (ℕ → Bool) → (ℕ → Bool) → ℕ → List ℕ
cells a b n = columns (λ v. cell (a v) (b v)) n

-- a row: inputs by the tests a and b, a space, outputs by the tests c and d
abbrev pub cells_line : ℕ → (ℕ → Bool) → (ℕ → Bool) → (ℕ → Bool) → (ℕ → Bool) → List ℕ
cells_line n a b c d = cells a b n ++ 32 ∷ cells c d n

-- what it says: where a `1`, a `0` or a `-` stands
abbrev pub masks_by : ℕ → (ℕ → Bool) → (ℕ → Bool) → (ℕ → Bool) → (ℕ → Bool) → Masks
masks_by n a b c d =
    record {
      on = bits_where n a;
      off = bits_where n (λ v. not (a v) && b v);
      free = bits_where n (λ v. not (a v) && not (b v));
      next = bits_where n c;
      unread = bits_where n (λ v. not (c v) && not (d v));
      width = n;
    }

-- ---- from the left

columns_none : (f : ℕ → ℕ) → columns f 0 ≡ []
unfolding columns
columns_none f = refl

columns_front : (f : ℕ → ℕ) (n : ℕ) → columns f (suc n) ≡ f 0 ∷ columns (λ v. f (suc v)) n
unfolding columns
columns_front f zero = refl
columns_front f (suc n) = ap (λ (s : List ℕ). s ++ f (suc n) ∷ []) (columns_front f n)

bit_up : (t : Bool) (n : ℕ) → bit_if t (suc n) ≡ bit_if t n * 2
bit_up true n = pow-suc 2 n
bit_up false n = refl

bits_front : (f : ℕ → Bool) (n : ℕ) → bits_where (suc n) f ≡ bits_where n (λ v. f (suc v)) * 2 + bit_if (f 0) 0
unfolding bits_where
bits_front f zero = refl
bits_front f (suc n) = omega (arith, bits_front f n, bit_up (f (suc n)) n)

-- ---- the masks

cell_front : (a b : Bool) (x y z : ℕ)
    → column_of (mark_of (cell a b)) (cube x y z) ≡ cube (x * 2 + bit_if a 0) (y * 2 + bit_if (not a && b) 0) (z * 2 + bit_if (not a && not b) 0)
unfolding mark_of
cell_front true b x y z = simp add-zero
cell_front false true x y z = simp add-zero
cell_front false false x y z = simp add-zero

cube_bits : (n : ℕ) (a b : ℕ → Bool) → cube_of (cells a b n) ≡ cube (bits_where n a) (bits_where n (λ v. not (a v) && b v)) (bits_where n (λ v. not (a v) && not (b v)))
unfolding cube_of
cube_bits zero a b = rw (columns_none (λ v. cell (a v) (b v))) (unfold bits_where in refl)
cube_bits (suc n) a b =
    rw (
      columns_front (λ v. cell (a v) (b v)) n,
      cube_bits n (λ v. a (suc v)) (λ v. b (suc v)),
      bits_front a n,
      bits_front (λ v. not (a v) && b v) n,
      bits_front (λ v. not (a v) && not (b v)) n,
    )
    (cell_front (a 0) (b 0) _ _ _)

-- ---- the fields

clear_append : (s t : List ℕ) → Clear s → Clear t → Clear (s ++ t)
clear_append [] t h k = k
clear_append (b ∷ s) t h k = (h.0, clear_append s t h.1 k)

cell_clear : (a b : Bool) → Clear (cell a b ∷ [])
unfolding mark_of
cell_clear true b = ((refl, refl, refl), tt)
cell_clear false true = ((refl, refl, refl), tt)
cell_clear false false = ((refl, refl, refl), tt)

cells_clear : (a b : ℕ → Bool) (n : ℕ) → Clear (cells a b n)
unfolding columns
cells_clear a b zero = tt
cells_clear a b (suc n) = clear_append (cells a b n) (cell (a n) (b n) ∷ []) (cells_clear a b n) (cell_clear (a n) (b n))

-- two fields with a space between them
two_fields : (f g : List ℕ) → Clear f → Clear g → 1 ≤ length f → 1 ≤ length g → fields_in (body (f ++ 32 ∷ g)) ≡ f ∷ g ∷ []
unfolding fields_in body fields_from mark_of
two_fields f g c d h k =
    ap (λ (s : List ℕ). fields_from [] s) (no_hash_body (f ++ 32 ∷ g) (clear_no_hash f (32 ∷ g) c (refl, rw append-nil at (clear_no_hash g [] d tt))))
    ∙ clear_field [] f (32 ∷ g) c ∙ close_some f (fields_from [] g) h ∙ ap (λ (fs : List (List ℕ)). f ∷ fs) (clear_alone g d k)

-- a first column starts a row
cell_starts : (a b : Bool) (s v : List ℕ) → class_of (cell a b ∷ s) (v ∷ []) ≡ row_line (cell a b ∷ s) v
unfolding class_of mark_of
cell_starts true b s v = refl
cell_starts false true s v = refl
cell_starts false false s v = refl

cells_start : (n : ℕ) (a b : ℕ → Bool) (v : List ℕ) → 1 ≤ n → class_of (cells a b n) (v ∷ []) ≡ row_line (cells a b n) v
cells_start zero a b v h = absurd (omega arith)
cells_start (suc n) a b v h = rw (columns_front (λ u. cell (a u) (b u)) n) (cell_starts (a 0) (b 0) (cells (λ u. a (suc u)) (λ u. b (suc u)) n) v)

module _ (n : ℕ) (a b c d : ℕ → Bool) where
  -- the line of a row has no LF
  pub cells_no_feed : NoFeed (cells_line n a b c d)
  unfolding mark_of
  cells_no_feed = clear_no_feed (cells a b n) (32 ∷ cells c d n) (cells_clear a b n) (refl, rw append-nil at (clear_no_feed (cells c d n) [] (cells_clear c d n) tt))

  cells_rows : n ≤ 10 → row_line (cells a b n) (cells c d n) ≡ Row (masks_by n a b c d)
  unfolding row_line
  cells_rows k =
      rw (columns_length (λ v. cell (a v) (b v)) n, columns_length (λ v. cell (c v) (d v)) n, eq-eqb n n refl, le-leb n 10 k, cube_bits n a b, cube_bits n c d)

  -- and says the row
  pub cells_row : 1 ≤ n → n ≤ 10 → line_of (cells_line n a b c d) ≡ Row (masks_by n a b c d)
  unfolding line_of of_fields
  cells_row h k =
      ap of_fields
      (two_fields (cells a b n) (cells c d n) (cells_clear a b n) (cells_clear c d n) (rw (columns_length (λ v. cell (a v) (b v)) n) h) (rw (columns_length (λ v. cell (c v) (d v)) n) h))
      ∙ cells_start n a b (cells c d n) h ∙ cells_rows k
