-- Laws of filling a list: words behind those that stand in it.
use Prim.Native.Nat.{ℕ, ◌≤◌}
use mathlib.Core.Path.{◌≡◌, refl, sym, ◌∙◌, ap}
use mathlib.Core.List.{List, [], ◌∷◌, ◌++◌, append-nil, append_assoc}
use native.Mathlib.Omega.{arith}
use native.Mathlib.Nat.{add-zero}
use lib.ListN.{length, take, length-append}
use Rattle.lines.specs.Lines.{line_of, keep_line}
use Rattle.lines.specs.Bounds.{LineOk}
use Rattle.lines.specs.declared.Kind.{Kind}
use Rattle.lines.specs.declared.Line.{Line}
use Rattle.lines.proofs.BoundLaws.{line_ok, kept_ok, view_kept}
use Rattle.reading.specs.Rows.{view_words, line_words, lines_words}
use Rattle.reading.specs.Reading.{Put, Puts, Adds, end_if}
use Rattle.reading.specs.declared.Words.{Words}
use Rattle.std.specs.Prelude.{Option, Some, None}

-- no words
pub adds_nothing : (p : Words) → p.count ≤ length p.list.now → Adds p [] p (Some tt)
adds_nothing p h =
    record { same_reference = refl; long = refl; puts = record { ends = sym (add-zero p.count); fits = h; words = sym (append-nil (take p.count p.list.now)) } }

-- some words, and more behind them, if there is room
pub adds_next : {p q r : Words} {ws vs : List ℕ} (o : Option (Unit {0})) → Adds p ws q (Some tt) → Adds q vs r o → Adds p (ws ++ vs) r o
adds_next {p} {q} {r} {ws} {vs} o a b = record { same_reference = b.same_reference ∙ a.same_reference; long = b.long ∙ a.long; puts = go o b.puts }
  where
    go : (o : Option (Unit {0})) → Puts vs q.list.now q.count r.list.now (end_if o r.count) → Puts (ws ++ vs) p.list.now p.count r.list.now (end_if o r.count)
    go (Some x) k =
        record {
          ends = omega (arith, a.puts.ends, k.ends, length-append ws vs);
          fits = omega (arith, k.fits, a.long);
          words = k.words ∙ rw a.puts.words (append_assoc (take p.count p.list.now) ws vs);
        }
    go None k = omega (arith, k, a.long, a.puts.ends, length-append ws vs)

-- where some words found no room, no longer list of words does
pub adds_less : {p q : Words} {ws vs : List ℕ} → length ws ≤ length vs → Adds p ws q None → Adds p vs q None
adds_less h a = record { same_reference = a.same_reference; long = a.long; puts = omega (arith, h, a.puts) }

-- a line as the code keeps it has the line's words, and keeps to the bounds of a line
pub words_next : (kind : Kind) (ws tw : List ℕ) (s : List ℕ) (ls it : List (List ℕ)) (l : Line) → it ≡ s ∷ ls → l ≡ keep_line (line_of s) → ws ++ lines_words kind it ≡ tw
    → (ws ++ line_words kind l) ++ lines_words kind ls ≡ tw
unfolding lines_words
words_next kind ws tw s ls it l i h e =
    append_assoc ws (line_words kind l) (lines_words kind ls)
    ∙ rw h (ap (λ (us : List ℕ). ws ++ (us ++ lines_words kind ls)) (ap (view_words kind) (view_kept (line_of s))))
    ∙ rw i at e

pub scanned_ok : (s : List ℕ) (l : Line) → l ≡ keep_line (line_of s) → LineOk l
scanned_ok s l h = rw h (kept_ok (line_of s) (line_ok s))

-- the words that were put from the start of a list on
pub fill_done : {p q : Words} {ws list after : List ℕ} → p.list.now ≡ list → p.count ≡ 0 → Adds p ws q (Some tt) → after ≡ q.list.now → Put ws list 0 after q.count
fill_done o z a n = rw n (rw (o, z) at a.puts)
