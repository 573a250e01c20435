-- The rules below h are written, and the words behind them are as they were.
use mathlib.Core.Path.{◌≡◌}
use mathlib.Core.List.{◌++◌}
use lib.ListN.{drop}
use Rattle.prime.specs.Sheets.{fresh_sheet}
use Rattle.sheet.proofs.write_fresh.Given as goal

abbrev pub invariant-loop-h : goal.invariant-loop-h
invariant-loop-h l = l.sheet ≡ fresh_sheet l.h ++ drop l.h l.initial.sheet
