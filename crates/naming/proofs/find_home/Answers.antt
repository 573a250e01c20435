-- Each line left is the `.ilb` line, or ends the search, or is passed over.
use mathlib.Core.Path.{sym, ap, ◌∙◌}
use Rattle.naming.specs.Naming.{home_of}
use Rattle.naming.proofs.HomeLaws.{home_in, home_placed, home_here, home_on, home_ends}
use Rattle.naming.proofs.find_home.Goals as goal

pub loop-at-init : goal.loop-at-init
unfolding home_of
loop-at-init c = rw (c.into_iter-at-iterator.ensures.into_iter_gives, c.new-at-items.ensures) (home_placed 0 _)

pub returns-then-names_inputs : goal.returns-then-names_inputs
returns-then-names_inputs c =
    sym (home_here c.in-Some.at c.in-Some.line.now c.next.new.self _ c.scan_line-l.ensures _ c.names_inputs.ensures c.if-names_inputs.true)
    ∙ sym (ap home_in c.in-Some.ensures.steps) ∙ c.loop-at.invariant

pub returns-then-not-is_aside : goal.returns-then-not-is_aside
returns-then-not-is_aside c =
    sym (home_ends c.in-Some.at c.in-Some.line.now c.next.new.self _ c.scan_line-l.ensures _ c.names_inputs.ensures c.if-names_inputs.false _ c.is_aside.ensures c.if-not-is_aside.true)
    ∙ sym (ap home_in c.in-Some.ensures.steps) ∙ c.loop-at.invariant

pub loop-at-preserved : goal.loop-at-preserved
loop-at-preserved c =
    sym (home_on c.in-Some.at c.in-Some.line.now c.next.new.self _ c.scan_line-l.ensures _ c.names_inputs.ensures c.if-names_inputs.false _ c.is_aside.ensures c.if-not-is_aside.false)
    ∙ sym (ap home_in c.in-Some.ensures.steps) ∙ c.loop-at.invariant

pub returns : goal.returns
returns c = sym (ap home_in c.in-None.ensures.steps.0) ∙ c.loop-at.invariant
