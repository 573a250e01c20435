-- `fields::read_number` meets its contract.
use Rattle.std.proofs.Common.{ℕ, ◌+◌, drop, Option, Some, sym, ap, ◌∙◌, rules, arith}
use Rattle.fields.specs.Values.{keep, digits}
use Rattle.fields.proofs.ValueLaws.{number_none, number_lead, number_digits, digits_at, digits_over, digits_none, kept_most}
use Rattle.fields.proofs.read_number.Goals.{else-s-gt1-via-then-s-gt1+else-s-eq48, else-s-gt1-via-else-s-gt1}
use Rattle.fields.proofs.read_number.Goals as goal

pub returns-then-is_empty : goal.returns-then-is_empty
returns-then-is_empty c = number_none _ (search rules)

pub returns-then-s-eq48 : goal.returns-then-s-eq48
returns-then-s-eq48 c = number_lead _ (omega arith) (search rules)

pub loop-b-init : goal.loop-b-init
loop-b-init c =
    (omega arith, ap keep (number_digits c.args.s.now (search rules) (λ l e. elim c.else-s-gt1.branch [ else-s-gt1-via-then-s-gt1+else-s-eq48 w ↦ w.if-s-eq48.false e | else-s-gt1-via-else-s-gt1 w ↦ omega (arith, w.if-s-gt1.false) ])))

pub returns-in_err-n : goal.returns-in_err-n
returns-in_err-n c =
    let rest = drop (c.loop-b.b-index + 1) c.args.s.now in
    c.from_residual.ensures ∙ ap keep (sym (digits_none rest)) ∙ ap (λ (o : Option ℕ). keep (digits o rest)) c.in_err-n.ensures
    ∙ sym (digits_at (Some c.loop-b.n) _ _ _ c.loop-b-test.true c.mark_of.ensures) ∙ c.loop-b.invariant.1

pub loop-b-preserved : goal.loop-b-preserved
loop-b-preserved c =
    let rest = drop (c.loop-b.b-index + 1) c.args.s.now in
    (kept_most _ _ c.in_ok-n.ensures, ap (λ (o : Option ℕ). keep (digits o rest)) c.in_ok-n.ensures ∙ sym (digits_at (Some c.loop-b.n) _ _ _ c.loop-b-test.true c.mark_of.ensures) ∙ c.loop-b.invariant.1)

pub returns : goal.returns
returns c =
    let most = c.loop-b.invariant.0 in
    ap Some (omega arith) ∙ ap keep (sym (digits_over (Some c.loop-b.n) c.args.s.now c.loop-b.b-index c.loop-b-test.false)) ∙ c.loop-b.invariant.1
