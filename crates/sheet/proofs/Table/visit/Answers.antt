-- `sheet::Table::visit` meets its contract.
use mathlib.Core.Path.{refl, ap, ◌∙◌}
use Rattle.prime.proofs.Passes.{rule_small}
use Rattle.heirs.specs.Heirs.{heir_mask}
use Rattle.sheet.proofs.Planting.{visit_spared, visit_later, visit_can, visit_done}
use Rattle.sheet.proofs.Table.visit.Goals as goal

pub returns-then-is_spared : goal.returns-then-is_spared
returns-then-is_spared c =
    record { same_reference = refl; holds = visit_spared _ _ _ _ _ _ _ c.is_spared.ensures c.if-is_spared.true c.requires.fits }

pub returns-else-goes : goal.returns-else-goes
returns-else-goes c =
    record {
      same_reference = refl;
      holds = visit_later _ _ _ _ _ _ _ c.is_spared.ensures c.if-is_spared.false _ (c.heirs_of-mask.ensures ∙ ap (heir_mask c.args.n c.args.t _) c.rules.ensures) _ c.goes.ensures c.if-goes.false c.requires.fits;
    }

pub replant-requires : goal.replant-requires
replant-requires c =
    (rule_small _ _ c.requires.size _ refl c.requires.rule, c.requires.inside, c.requires.fits, c.requires.sorted, visit_can _ _ _ _ c.args.self.now.words.now c.args.self.now.have _ c.is_spared.ensures c.if-is_spared.false _ (c.heirs_of-mask.ensures ∙ ap (heir_mask c.args.n c.args.t _) c.rules.ensures) _ c.goes.ensures c.if-goes.true c.requires.plants _ c.state_of.ensures)

pub returns-then-goes : goal.returns-then-goes
returns-then-goes c =
    record {
      same_reference = c.replant.ensures.same_reference;
      holds = visit_done _ _ _ _ c.args.self.now.words.now c.args.self.now.have _ c.is_spared.ensures c.if-is_spared.false _ (c.heirs_of-mask.ensures ∙ ap (heir_mask c.args.n c.args.t _) c.rules.ensures) _ c.goes.ensures c.if-goes.true _ c.state_of.ensures _ _ c.replant.ensures.holds;
    }
