-- `program::put_refusal` meets its contract.
use Rattle.std.proofs.Common.{rules}
use Rattle.program.proofs.LineLaws.{line_length_is, put_no_line, put_line}
use lib.ListN.{length}
use mathlib.Core.Path.{ap}
use mathlib.Core.List.{[], ◌∷◌}
use native.Mathlib.Omega.{arith}
use Rattle.writing.proofs.TextLaws.{header_length}
use Rattle.program.proofs.put_refusal.Goals as goal

pub returns-then-out-line_length : goal.returns-then-out-line_length
returns-then-out-line_length c = put_no_line _ _ _ _ c.line_length.ensures c.if-out-line_length.true

pub bytes-requires : goal.bytes-requires
bytes-requires c = omega (arith, ap length c.new-page.ensures.empty.0, line_length_is c.args.code c.args.place)

pub number-requires : goal.number-requires
number-requires c = omega (arith, ap length c.new-page.ensures.empty.0, line_length_is c.args.code c.args.place)

pub header-requires : goal.header-requires
header-requires c = omega (arith, ap length c.new-page.ensures.empty.0, line_length_is c.args.code c.args.place, header_length (32 ∷ 97 ∷ 116 ∷ 32 ∷ []) c.args.place)

pub returns : goal.returns
returns c =
    let page = c.new-page in
    put_line _ _ _ _ _ _ c.line_length.ensures c.if-out-line_length.false page.ensures.empty.0 page.ensures.empty.1 c.bytes.ensures c.number.ensures c.header.ensures (search rules) c.length.ensures
