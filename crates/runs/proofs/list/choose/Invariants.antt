-- The chosen places are those picked from the order's first j. Each place is noted behind them, and counted where it is marked.
use Prim.Native.Nat.{◌≤◌}
use mathlib.Core.Path.{◌≡◌}
use lib.ListN.{length}
use Rattle.runs.specs.Table.{order, large_limit}
use Rattle.runs.specs.Chosen.{picked, chosen}
use Rattle.runs.proofs.list.choose.Given as goal

abbrev pub invariant-loop-j : goal.invariant-loop-j
invariant-loop-j l = record {
  few : l.c.count ≤ l.j;
  long : length l.c.places ≡ large_limit;
  places : chosen l.c ≡ picked l.on (order l.limit l.table l.j);
}
