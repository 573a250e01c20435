-- `names::names_count` meets its contract.
use Rattle.std.proofs.Common.{arith, length, sym, ap, ◌∙◌}
use Rattle.fields.proofs.FieldLaws.{fields_few}
use Rattle.names.specs.Names.{names_count}
use Rattle.names.proofs.NameLaws.{count_from, count_start, count_none, count_bad, count_twice, count_on}
use Rattle.names.proofs.names_count.Goals.{then-not-name_ok-via-then-not-name_ok, then-not-name_ok-via-else-not-name_ok+then-has_field}
use Rattle.names.proofs.names_count.Goals as goal

pub loop-w-init : goal.loop-w-init
loop-w-init c =
    (omega (arith, ap length c.new-left.ensures, fields_few c.args.s.now), count_start _ ∙ ap names_count c.new-left.ensures)

pub returns-then-not-name_ok : goal.returns-then-not-name_ok
returns-then-not-name_ok c =
    sym (sym c.loop-w.invariant.1 ∙ ap (count_from c.loop-w.count) c.in-Some.ensures.steps
    ∙ elim c.then-not-name_ok.branch [ then-not-name_ok-via-then-not-name_ok w ↦ count_bad _ _ _ (sym w.if-not-name_ok.ensures) | then-not-name_ok-via-else-not-name_ok+then-has_field w ↦ count_twice _ _ _ (sym w.if-not-name_ok.ensures) (sym w.if-has_field.ensures) ])

pub loop-w-preserved : goal.loop-w-preserved
loop-w-preserved c =
    let steps = c.in-Some.ensures.steps in (
      omega (arith, ap length steps),
      sym (count_on _ _ _ (sym c.if-not-name_ok.ensures) (sym c.if-has_field.ensures)) ∙ sym (ap (count_from c.loop-w.count) steps) ∙ c.loop-w.invariant.1,
    )

pub returns : goal.returns
returns c = sym (sym c.loop-w.invariant.1 ∙ ap (count_from c.loop-w.count) c.in_default.ensures.steps.0 ∙ count_none c.loop-w.count)
