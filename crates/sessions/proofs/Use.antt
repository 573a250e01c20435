-- A session that was started and then only used through take is balanced, so that only a total above 1,000,000,000 spoils it.
use mathlib.Core.Path.{◌≡◌, refl}
use mathlib.Core.Bool.{true}
use mathlib.Core.List.{List}
use Prim.Native.Nat.{ℕ, zero, suc, ◌≤◌}
use native.Mathlib.Omega.{arith}
use lib.ListN.{length}
use Rattle.calls.specs.Fresh.{fresh_code}
use Rattle.sessions.specs.declared.Session.{Session}
use Rattle.sessions.specs.Sessions.{no_session, fresh_session, start_session, Balanced, totals_fit, counted, session_after, session_answer, session_taken, Used, started, took}
use Rattle.sessions.proofs.Totals.{fit_i}
use Rattle.sessions.proofs.Taking.{counts_balanced}
use Rattle.answers.specs.Answers.{if_done}

pub start_balanced : (n : ℕ) (sheet : List ℕ) → Balanced (start_session n sheet)
unfolding start_session
start_balanced n sheet = go (fresh_code n (length sheet))
  where
    go : (c : ℕ) → Balanced (if_done c (fresh_session n) no_session)
    go zero = refl
    go (suc c) = refl

-- whatever is lent and taken, done or refused
pub take_balanced : (s : Session) (book sheet : List ℕ) (i j : ℕ) → Balanced s → Balanced (session_taken s book sheet i j)
unfolding session_taken session_after
take_balanced s book sheet i j b = go (session_answer s book sheet i j).code refl
  where
    go : (c : ℕ) → (session_answer s book sheet i j).code ≡ c → Balanced (if_done c (counted s (session_answer s book sheet i j)) s)
    go zero e = omega (arith, b, counts_balanced s book sheet i j e)
    go (suc c) e = b

pub used_balanced : (s : Session) → Used s → Balanced s
used_balanced _ (started n sheet) = start_balanced n sheet
used_balanced _ (took s book sheet i j u) = take_balanced s book sheet i j (used_balanced s u)

-- such a session is never refused for the equation
pub used_fits : (s : Session) → Used s → s.struck ≤ 1000000000 → s.added ≤ 1000000000 → totals_fit s ≡ true
used_fits s u ls la = fit_i s ls la (used_balanced s u)
