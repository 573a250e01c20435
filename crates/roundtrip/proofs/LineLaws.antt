-- The text of a sheet is put together from lines: its headers, a row for each rule, and the end mark.
use Prim.Native.Nat.{ℕ}
use mathlib.Core.Path.{◌≡◌, refl, sym, ◌∙◌, ap, ap₂}
use mathlib.Core.List.{List, [], ◌∷◌, ◌++◌, map, append_assoc}
use mathlib.Core.Bool.{true}
use lib.ListN.{length}
use Rattle.fields.specs.Texts.{lines_of}
use Rattle.fields.proofs.JoinLaws.{NoFeeds, text_of, lines_of_text, append_no_feeds}
use Rattle.names.specs.Names.{good_names}
use Rattle.lines.specs.declared.Kind.TheVariants.{Sheet}
use Rattle.lines.specs.declared.Part.TheVariants.{Ins, Outs}
use Rattle.lines.proofs.Written.{size_text, size_no_feed, type_text, type_no_feed, count_text, count_no_feed, end_text, end_no_feed}
use Rattle.lines.proofs.NamesWritten.{name_text, names_no_feed}
use Rattle.writing.specs.TableText.{body_byte, head_byte, columns, row_text, rows_text, header_text, name_text as name_bytes, name_lines, type_text as type_bytes, count_text as countBytes, table_text}
use Rattle.writing.specs.SheetText.{sheet_text}
use Rattle.roundtrip.proofs.RuleLaws.{rule_line, rule_no_feed}

-- both name lines, or none
abbrev pub name_rows : List (List ℕ) → List (List ℕ)
name_rows [] = []
name_rows (w ∷ ws) = name_text Ins (w ∷ ws) ∷ name_text Outs (w ∷ ws) ∷ []

-- the headers, with k rows
abbrev pub top_lines : ℕ → List (List ℕ) → ℕ → List (List ℕ)
top_lines n ns k = size_text Ins n ∷ size_text Outs n ∷ (name_rows ns ++ type_text Sheet ∷ count_text k ∷ [])

-- one row for each rule
abbrev pub row_lines : ℕ → List ℕ → List (List ℕ)
row_lines n ws = map (rule_line n) ws

-- headers, rows, `.e`
abbrev sheet_lines : ℕ → List (List ℕ) → List ℕ → List (List ℕ)
sheet_lines n ns ws = top_lines n ns (length ws) ++ (row_lines n ws ++ end_text ∷ [])

-- ---- part by part

text_append : (ls ms : List (List ℕ)) → text_of (ls ++ ms) ≡ text_of ls ++ text_of ms
text_append [] ms = refl
text_append (l ∷ ls) ms = ap (λ (x : List ℕ). l ++ 10 ∷ x) (text_append ls ms) ∙ sym (append_assoc l (10 ∷ text_of ls) (text_of ms))

-- parts that are the texts of lines, one behind the other
joined : (p q : List ℕ) (ls ms : List (List ℕ)) → p ≡ text_of ls → q ≡ text_of ms → p ++ q ≡ text_of (ls ++ ms)
joined p q ls ms e f = ap₂ (λ (x y : List ℕ). x ++ y) e f ∙ sym (text_append ls ms)

names_part : (ns : List (List ℕ)) → name_lines ns ≡ text_of (name_rows ns)
unfolding name_lines name_bytes
names_part [] = refl
names_part (w ∷ ws) = joined _ _ (name_text Ins (w ∷ ws) ∷ []) (name_text Outs (w ∷ ws) ∷ []) refl refl

rows_part : (n : ℕ) (ws : List ℕ) → rows_text body_byte head_byte n ws ≡ text_of (row_lines n ws)
unfolding rows_text row_text
rows_part n [] = refl
rows_part n (w ∷ ws) = joined _ _ (rule_line n w ∷ []) (row_lines n ws) (sym (append_assoc (columns (body_byte w) n) (32 ∷ columns (head_byte w) n) (10 ∷ []))) (rows_part n ws)

sheet_text_lem : (n : ℕ) (ns : List (List ℕ)) (ws : List ℕ) → sheet_text n ns ws ≡ text_of (sheet_lines n ns ws)
unfolding sheet_text table_text header_text type_bytes countBytes
sheet_text_lem n ns ws =
    let rows = row_lines n ws ++ end_text ∷ [] in
    let typed = type_text Sheet ∷ count_text (length ws) ∷ rows in
    joined _ _ (size_text Ins n ∷ []) (size_text Outs n ∷ (name_rows ns ++ typed)) refl
    (joined _ _ (size_text Outs n ∷ []) (name_rows ns ++ typed) refl
    (joined _ _ (name_rows ns) typed (names_part ns)
    (joined _ _ (type_text Sheet ∷ []) (count_text (length ws) ∷ rows) refl
    (joined _ _ (count_text (length ws) ∷ []) rows refl
    (joined _ _ (row_lines n ws) (end_text ∷ []) (rows_part n ws) refl)))))
    ∙ ap (λ (x : List (List ℕ)). text_of (size_text Ins n ∷ size_text Outs n ∷ x)) (sym (append_assoc (name_rows ns) (type_text Sheet ∷ count_text (length ws) ∷ []) rows))

names_no_feeds : (ns : List (List ℕ)) → good_names ns ≡ true → NoFeeds (name_rows ns)
names_no_feeds [] g = tt
names_no_feeds (w ∷ ws) g = (names_no_feed (w ∷ ws) g Ins, (names_no_feed (w ∷ ws) g Outs, tt))

rows_no_feeds : (n : ℕ) (ws : List ℕ) → NoFeeds (row_lines n ws)
rows_no_feeds n [] = tt
rows_no_feeds n (w ∷ ws) = (rule_no_feed n w, rows_no_feeds n ws)

top_no_feeds : (n : ℕ) (ns : List (List ℕ)) (k : ℕ) → good_names ns ≡ true → NoFeeds (top_lines n ns k)
top_no_feeds n ns k g =
    (size_no_feed Ins n, (size_no_feed Outs n, append_no_feeds (name_rows ns) _ (names_no_feeds ns g) (type_no_feed Sheet, (count_no_feed k, tt))))

-- the lines of the text of a sheet
pub sheet_lines_lem : (n : ℕ) (ns : List (List ℕ)) (ws : List ℕ) → good_names ns ≡ true → lines_of (sheet_text n ns ws) ≡ top_lines n ns (length ws) ++ (row_lines n ws ++ end_text ∷ [])
sheet_lines_lem n ns ws g =
    ap lines_of (sheet_text_lem n ns ws)
    ∙ lines_of_text (sheet_lines n ns ws)
    (append_no_feeds (top_lines n ns (length ws)) _ (top_no_feeds n ns (length ws) g) (append_no_feeds (row_lines n ws) _ (rows_no_feeds n ws) (end_no_feed, tt)))
