use mathlib.Core.Bool.{not}
use Rattle.std.proofs.Common.{rules}
use borrow.Author.Tests.{tests}
use Rattle.std.proofs.lemmas.Iterator.{YieldsList-from_slice}
use Rattle.std.proofs.lemmas.Iterator.Search.{all_from_yields_List}
use Rattle.headers.specs.Headers.{every_header, lacks, lacks_none, ready_of}
use Rattle.judging.proofs.is_ready.Goals as goal

pub returns : goal.returns
unfolding ready_of lacks_none
returns c =
    all_from_yields_List (λ h. not (lacks c.args.lay c.args.s h)) _ _ _ c.all.ensures.ran (YieldsList-from_slice every_header (cc)) (λ x b q k. search (rules, tests))
