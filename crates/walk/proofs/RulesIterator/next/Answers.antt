use native.Mathlib.Omega.{arith}
use Rattle.walk.proofs.Keeping.{head_in}
use Rattle.walk.proofs.RulesIterator.next.Goals as goal

pub next_word-self-requires : goal.next_word-self-requires
next_word-self-requires c = let s = c.args.self.now in
    (s.stands, omega (arith, s.small, head_in _ _ _ s.inside c.if-self-w.false))
