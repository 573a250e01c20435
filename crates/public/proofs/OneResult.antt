-- Any two results that satisfy the contract of a public call are equal: one theorem for all calls, by the theorem of each.
use mathlib.Core.Path.{◌≡◌, sym, ◌∙◌}
use mathlib.Core.Bool.{false}
use Rattle.calls.proofs.Determined.{fresh_determined, take_determined, apply_determined}
use Rattle.learning.proofs.Determined.{learn_determined}
use Rattle.joining.proofs.Promises.{joined_unique}
use Rattle.sessions.proofs.Outcomes.{start_determined, take_determined as session-determined}
use Rattle.lent.proofs.Laws.{lent_determined}
use Rattle.naming.proofs.Looking.{lookup_unique}
use Rattle.reading.proofs.ReadLaws.{read_unique}
use Rattle.returned.proofs.SheetReadLaws.{sheet_read_unique}
use Rattle.writing.proofs.WriteLaws.{write_unique}
use Rattle.program.proofs.Promises.{run_unique}
use Rattle.public.specs.PublicCalls.{Call, fresh, take, learn, join, apply, session_start, session_take, session_take_lent, read, read_sheet, find_name, lookup, write_sheet, run, Result, Contract}

pub one_result : (c : Call) (r q : Result c) → Contract c r → Contract c q → r ≡ q
one_result (fresh n sheet) r q x y = let e = fresh_determined n sheet r.1 q.1 r.0 q.0 x y in λ i. (e.0 i, e.1 i)
one_result (take n book bookCount sheet sheetCount i j) r q x y =
    let e = take_determined false n book bookCount sheet sheetCount i j r.1 q.1 r.2 q.2 r.0 q.0 x y in λ i. (e.0 i, e.1 i, e.2 i)
one_result (learn n words book sheet) r q x y = let e = learn_determined n words _ _ r.1 q.1 r.2 q.2 r.0 q.0 x y in λ i. (e.0 i, e.1 i, e.2 i)
one_result (join n a b book sheet) r q x y = let e = joined_unique n a b book sheet r.0 q.0 r.1 r.2 q.1 q.2 x y in λ i. (e.0 i, e.1 i, e.2 i)
one_result (apply n sheet sheetCount z) r q x y = apply_determined n sheet sheetCount z r q x y
one_result (session_start n sheet) r q x y = let e = start_determined n sheet r.1 q.1 r.0 q.0 x y in λ i. (e.0 i, e.1 i)
one_result (session_take s book sheet i j) r q x y =
    let e = session-determined s book sheet i j r.1 r.2 q.1 q.2 r.0 q.0 x y in λ i. (e.0 i, e.1 i, e.2 i)
one_result (session_take_lent s book sheet i j) r q x y =
    let e = lent_determined s book sheet i j r.1 q.1 r.2 q.2 r.3 q.3 r.0 q.0 x y in λ i. (e.0 i, e.1 i, e.2 i, e.3 i)
one_result (read text list) r q x y = let e = read_unique x y in λ i. (e.0 i, e.1 i)
one_result (read_sheet text words) r q x y = let e = sheet_read_unique x y in λ i. (e.0 i, e.1 i)
one_result (find_name panel maker column) r q x y = x ∙ sym y
one_result (lookup panel maker column) r q x y = let e = lookup_unique x y in λ i. (e.0 i, e.1 i, e.2 i)
one_result (write_sheet n sheet count panel maker out) r q x y = let e = write_unique x y in λ i. (e.0 i, e.1 i)
one_result (run input list book sheet output) r q x y = let e = run_unique x y in λ i. (e.0 i, e.2 i, e.3 i, e.4 i, e.1 i)
