use Rattle.std.proofs.Common.{◌≡◌, length, rules, ◌∙◌, sym, ap}
use mathlib.Core.Logic.{inl, inr}
use native.Mathlib.Omega.{arith}
use Rattle.fields.proofs.TextLaws.{lines_few}
use Rattle.names.specs.Names.{names_in}
use Rattle.headers.specs.Headers.{fresh_state, held_of}
use Rattle.headers.proofs.Seeing.{rows_next_le}
use Rattle.judging.proofs.Turns.{turns_start, turn_bad, turn_go, turns_end}
use Rattle.judging.proofs.judge.Goals.{then-not-allowed-via-then-not-allowed, then-not-allowed-via-else-not-allowed+then-not-agrees, then-is_names, else-is_names}
use Rattle.judging.proofs.judge.Goals as goal

pub loop-line-init : goal.loop-line-init
loop-line-init c =
    let starts = c.into_iter-line-iterator.ensures.into_iter_gives ∙ c.new-line-items.ensures in
    let fresh : c.default-st.result ≡ fresh_state = search rules in
    (omega arith, omega (arith, lines_few c.args.text.now, ap length starts), rw starts (turns_start c.args.lay c.args.text.now c.default-st.result fresh (omega arith)), omega arith)

pub returns-then-not-allowed : goal.returns-then-not-allowed
returns-then-not-allowed c =
    let l = c.loop-line in
    turn_bad c.args.lay _ l.st l.held.now l.k _ l.invariant.2 c.in-Some.line.now _ c.in-Some.ensures.steps c.scan_line-l.result c.scan_line-l.ensures
    (elim c.then-not-allowed.branch [ then-not-allowed-via-then-not-allowed w ↦ inl (sym w.if-not-allowed.ensures) | then-not-allowed-via-else-not-allowed+then-not-agrees w ↦ inr (sym w.if-not-agrees.ensures) ])

pub loop-line-preserved : goal.loop-line-preserved
loop-line-preserved c =
    let l = c.loop-line in
    let counts = ap length c.in-Some.ensures.steps in
    let names : names_in c.if-is_names.held.now ≡ held_of c.scan_line-l.result (names_in c.in-Some.line.now) (names_in l.held.now) =
    elim c.if-is_names.branch [ then-is_names w ↦ search rules | else-is_names w ↦ search rules ] in (
      rw c.next-st.ensures (omega (arith, l.invariant.0, rows_next_le l.st c.scan_line-l.result l.k)),
      omega (arith, l.invariant, counts),
      rw c.next-st.ensures
          (turn_go c.args.lay _ l.st l.held.now l.k _ l.invariant.2 c.in-Some.line.now _ c.in-Some.ensures.steps c.scan_line-l.result c.scan_line-l.ensures (sym c.if-not-allowed.ensures) (sym c.if-not-agrees.ensures) c.if-is_names.held.now names),
      l.invariant.3,
    )

pub returns : goal.returns
returns c =
    let l = c.loop-line in
    c.finish.ensures ∙ turns_end c.args.lay _ l.st l.held.now l.k _ l.invariant.2 c.in-None.ensures.steps.0
