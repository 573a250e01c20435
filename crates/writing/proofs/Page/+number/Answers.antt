-- `writing::Page::number` meets its contract. It calls itself at a tenth of its number, which is less.
use native.Mathlib.Omega.{arith}
use Rattle.fields.proofs.DecimalLaws.{decimal_length, decimal_longer}
use Rattle.writing.proofs.PutLaws.{wrote_digit, wrote_digits}
use Rattle.writing.proofs.Page.+number.Goals.{then-v-ge10, else-v-ge10}
use Rattle.writing.proofs.Page.+number.Goals as goal

pub number-requires : goal.number-requires
number-requires t c = (omega arith, omega (arith, decimal_longer c.args.v c.if-v-ge10.true))

pub byte-requires : goal.byte-requires
byte-requires t c =
    elim c.if-v-ge10.branch [
      | then-v-ge10 w ↦ rw w.self-is (omega (arith, decimal_longer c.args.v w.if-v-ge10.true))
      | else-v-ge10 w ↦ rw w.self-is (omega (arith, decimal_length c.args.v))
    ]

pub returns : goal.returns
returns t c =
    elim c.if-v-ge10.branch [
      | then-v-ge10 w ↦ wrote_digits c.args.v w.if-v-ge10.true w.number.ensures (rw w.self-is at c.byte.ensures)
      | else-v-ge10 w ↦ wrote_digit c.args.v w.if-v-ge10.false (rw w.self-is at c.byte.ensures)
    ]
