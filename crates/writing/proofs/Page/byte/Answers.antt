-- `writing::Page::byte` meets its contract.
use Rattle.writing.proofs.PutLaws.{wrote_byte}
use mathlib.Core.Path.{refl}
use native.Mathlib.Omega.{arith}
use Rattle.writing.proofs.Page.byte.Goals as goal

pub returns : goal.returns
returns c = wrote_byte _ _ _ (omega arith) refl refl refl
