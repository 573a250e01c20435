-- `reading::read_words` meets its contract: the verdict's place, or no room, or the words.
use Prim.Native.Nat.{ℕ}
use Rattle.answers.specs.Refusals.{code_of}
use Rattle.answers.specs.declared.Refusal.{Refusal}
use Rattle.answers.specs.declared.Refusal.TheVariants.{Faulty, BookRoom}
use Rattle.reading.proofs.ReadLaws.{read_err, read_bad, read_full, read_done}
use Rattle.reading.specs.Reading.{refusal, ReadsLaid}
use Rattle.std.proofs.Common.{rules, Ok, Err}
use lib.ListN.{replicate}
use mathlib.Core.Path.{◌≡◌, refl, sym, ◌∙◌, ap}
use native.Mathlib.Omega.{arith}
use Rattle.reading.proofs.read_words.Goals as goal

pub returns-in_err-n-clause-read : goal.returns-in_err-n-clause-read
returns-in_err-n-clause-read c =
    let a = c.args in
    let w = c.in_err-n.field-0.0 in
    let v : (c.judge.result ≡ Err w.place) × (w.why ≡ Faulty) = search rules in
    read_err (λ list r. ReadsLaid a.lay a.text.now a.list.now list r) a.list.now w _ c.from_residual.ensures.1
    (read_bad a.lay a.text.now a.list.now _ _ w.place (sym v.0 ∙ c.judge.ensures) (ap (λ (why : Refusal). refusal (code_of why) w.place) v.1) refl)

pub returns-in_err-count-clause-read : goal.returns-in_err-count-clause-read
returns-in_err-count-clause-read c =
    let a = c.args in
    let w = c.in_err-count.field-0.0 in
    let v : c.judge.result ≡ Ok c.in_ok-n.n = search rules in
    let e : w ≡ BookRoom = search rules in
    let more = rw c.in_err-count.ensures.ok_part at c.fill.ensures in
    read_err (λ list r. ReadsLaid a.lay a.text.now a.list.now list r) c.fill.new.list (record { why = w; place = 0 }) _ c.from_residual-in_err-count.ensures.1
    (read_full a.lay a.text.now a.list.now _ _ c.in_ok-n.n (sym v ∙ c.judge.ensures) (omega (arith, more)) (ap (λ (why : Refusal). refusal (code_of why) 0) e) (ap (λ (k : ℕ). replicate k 0) c.fill.auto.list))

pub returns-clause-read : goal.returns-clause-read
returns-clause-read c =
    let a = c.args in
    let v : c.judge.result ≡ Ok c.in_ok-n.n = search rules in
    let p = rw c.in_ok-count.ensures.ok_part at c.fill.ensures in
    read_done a.lay a.text.now a.list.now _ _ c.in_ok-n.n c.in_ok-count.count c.fill.new.list (sym v ∙ c.judge.ensures) (omega (arith, p.ends)) p.fits (omega arith) p.words refl refl
