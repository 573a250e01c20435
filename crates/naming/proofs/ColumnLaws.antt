-- The names that a sheet is written with: the names of the line that `name_line` hands back are the names of the columns, looked up one by one.
use Prim.Native.Nat.{ℕ, zero, suc, ◌≤◌, ◌<◌}
use mathlib.Core.Path.{◌≡◌, refl, sym, ◌∙◌, ap}
use mathlib.Core.List.{List, [], ◌∷◌, ◌++◌}
use mathlib.Core.Logic.{⊎_elim}
use mathlib.Core.Bool.{Bool, true, false, cond}
use native.Mathlib.Omega.{arith}
use lib.Dec.{leb}
use lib.ListN.{length, take, length-take}
use lib.Seq.{take-nil, take-suc}
use borrow.Author.Tests.{leb-true, leb-false}
use Rattle.fields.specs.Bytes.{run}
use Rattle.fields.specs.Texts.{body}
use Rattle.fields.specs.Fields.{fields_from, fields_in}
use Rattle.fields.proofs.FieldLaws.{end_or}
use Rattle.names.specs.Names.{good_names, names_in, Names}
use Rattle.names.specs.Spans.{bytes_of}
use Rattle.std.specs.Prelude.{Option, Some, None}
use Rattle.names.proofs.Meaning.{good_iff, good_first}
use Rattle.naming.specs.Naming.{source_of, name_of}
use Rattle.naming.specs.Columns.{column_names, all_named, names_for, line_in, name_line}
use Rattle.naming.specs.declared.NameLine.{NameLine}
use Rattle.naming.specs.declared.Source.{Source}
use Rattle.naming.proofs.Looking.{NamedBy, named_by_source, none_empty}
use Rattle.naming.proofs.SourceLaws.{spot_none, line_some, line_none}

-- ---- lists of names

-- good names are not empty
all_named_good : (n : ℕ) (ws : List (List ℕ)) → Names ws → all_named (take n ws) ≡ true
unfolding all_named
all_named_good zero ws g = refl
all_named_good (suc n) [] g = refl
all_named_good (suc n) ([] ∷ ws) g = absurd (omega (arith, g.0.0))
all_named_good (suc n) ((b ∷ w) ∷ ws) g = all_named_good n ws g.2

-- an empty one among them shows
named_append : (ws vs : List (List ℕ)) → all_named (ws ++ vs) ≡ cond (all_named ws) (all_named vs) false
unfolding all_named
named_append [] vs = refl
named_append ([] ∷ ws) vs = refl
named_append ((b ∷ w) ∷ ws) vs = named_append ws vs

no_both : (t : Bool) → cond t false false ≡ false
no_both true = refl
no_both false = refl

-- ---- the columns one by one

module _ (panel maker : List ℕ) where
  last_missing : (n v : ℕ) → name_of panel maker v ≡ [] → v ≡ n → cond (all_named (column_names panel maker n)) (all_named (name_of panel maker n ∷ [])) false ≡ false
  unfolding all_named
  last_missing n v e q = rw (← q, e) (no_both (all_named (column_names panel maker v)))

  -- a column without a name, and no list of names is written
  column_missing : (n v : ℕ) → v < n → name_of panel maker v ≡ [] → all_named (column_names panel maker n) ≡ false
  unfolding column_names all_named
  column_missing zero v h e = absurd (omega arith)
  column_missing (suc n) v h e =
      named_append (column_names panel maker n) (name_of panel maker n ∷ [])
      ∙ ⊎_elim
      (λ q. last_missing n v e q)
      (λ l. ap (λ (t : Bool). cond t (all_named (name_of panel maker n ∷ [])) false) (column_missing n v l e))
      (end_or v n (omega arith))

  none_written : (n v : ℕ) → v < n → name_of panel maker v ≡ [] → names_for panel maker n ≡ []
  unfolding names_for
  none_written n v h e = rw (column_missing n v h e)

  -- nothing is asked for, or there is no name to write
  pub nothing_written : (n : ℕ) → ((v : ℕ) → name_of panel maker v ≡ []) → names_for panel maker n ≡ []
  unfolding names_for column_names all_named
  nothing_written zero h = refl
  nothing_written (suc n) h = none_written (suc n) 0 (omega arith) (h 0)

  module _ (line : List ℕ) (m : ℕ) (x : NamedBy panel maker line m) where
    -- the columns below n have the first n names of the line
    columns_of_line : (n : ℕ) → n ≤ m → column_names panel maker n ≡ take n (names_in line)
    unfolding column_names
    columns_of_line zero h = refl
    columns_of_line (suc n) h =
        rw (columns_of_line n (omega arith), x.below n (omega arith)) (sym (take-suc (names_in line) n [] (rw x.many (omega arith))))

    pub all_written : (n : ℕ) → n ≤ m → take n (names_in line) ≡ names_for panel maker n
    unfolding names_for
    all_written n h = rw (columns_of_line n h, all_named_good n (names_in line) ((good_iff (names_in line)).0 x.good))

    some_missing : (n : ℕ) → m < n → names_for panel maker n ≡ []
    some_missing n h = none_written n m h (none_empty panel maker m (x.beyond m (omega arith)))

-- ---- by the line

-- nothing has no names
no_line : (n : ℕ) → take n (names_in []) ≡ []
unfolding names_in body run fields_in fields_from
no_line n = take-nil n

no_line_good : good_names (names_in []) ≡ true
unfolding names_in body run fields_in fields_from good_names
no_line_good = refl

-- what the names of a line come to, if it names every column below n and if not: they are the names of the columns, all of them or none, and good
pub record Written (panel maker line : List ℕ) (n : ℕ) : Type 0 where
  pub columns : take n (names_in line) ≡ names_for panel maker n
  pub good : good_names (names_in line) ≡ true

by_line : (panel maker t : List ℕ) (l : NameLine) (n : ℕ) → NamedBy panel maker (bytes_of l.at t) l.columns → Written panel maker (line_in t l n) n
by_line panel maker t l n x = go (leb n l.columns) refl
  where
    go : (b : Bool) → leb n l.columns ≡ b → Written panel maker (cond b (bytes_of l.at t) []) n
    go true k = record { columns = all_written panel maker (bytes_of l.at t) l.columns x n (leb-true n l.columns k); good = x.good }
    go false k = record { columns = no_line n ∙ sym (some_missing panel maker (bytes_of l.at t) l.columns x n (leb-false n l.columns k)); good = no_line_good }

-- so are those of the line that `name_line` hands back
line_written : (panel maker : List ℕ) (n : ℕ) → Written panel maker (name_line panel maker n) n
line_written panel maker n = go (source_of panel maker) refl
  where
    go : (o : Option Source) → source_of panel maker ≡ o → Written panel maker (name_line panel maker n) n
    go (Some s) h = rw (← line_some panel maker s n h) (by_line panel maker (cond s.maker maker panel) s.names n (named_by_source panel maker s h))
    go None h =
        rw (← line_none panel maker n h)
        (record { columns = no_line n ∙ sym (nothing_written panel maker n (λ v. none_empty panel maker v (sym (spot_none panel maker v h)))); good = no_line_good })

pub line_names : (panel maker : List ℕ) (n : ℕ) → take n (names_in (name_line panel maker n)) ≡ names_for panel maker n
line_names panel maker n = (line_written panel maker n).columns

-- ---- what is written

-- the names that a sheet is written with are good, and no more than its columns
pub written_good : (panel maker : List ℕ) (n : ℕ) → good_names (names_for panel maker n) ≡ true
written_good panel maker n = rw (← line_names panel maker n) (good_first n (names_in (name_line panel maker n)) (line_written panel maker n).good)

pub written_few : (panel maker : List ℕ) (n : ℕ) → length (names_for panel maker n) ≤ n
written_few panel maker n = rw (← line_names panel maker n) (omega (arith, length-take n (names_in (name_line panel maker n))))
