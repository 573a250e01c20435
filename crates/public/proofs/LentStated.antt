-- `lent::take_lent` is lent a record by `&mut`; no function here passes it on, so its `ensures` is held against `Contract` as it stands: what the check made of its source is the contract of the call `session_take_lent`.
use mathlib.Core.Path.{◌≡◌, refl}
use seplogic.Ra.Ura.{Ura}
use base.Logic.{SProp}
use contract.Lifetimes.{Lfts}
use contract.Monad.{Fun, fact}
use prog.Memory.{Memory}
use prog.Routine.{Routine}
use types.Logic.{Logic}
use Rattle.lent.specs.contracts.take_lent as take-lent
use Rattle.public.specs.PublicCalls.{session_take_lent, Contract}

pub lent_stated : {M : Type 1} {𝓤 : Ura M} (𝓛 : Logic 𝓤) (κs : Lfts 3) (mem : Memory → SProp 𝓤) (run : Routine → Fun 𝓤)
    → take-lent.ensures-1 𝓛 κs mem run
    ≡ (λ _ _ _ i j session book sheet _ _ r. fact 𝓤 (Contract (session_take_lent session.entry.now book.entry.now sheet.entry.now i j) (r, session.exit.now, book.exit.now, sheet.exit.now)))
lent_stated 𝓛 κs mem run = refl
