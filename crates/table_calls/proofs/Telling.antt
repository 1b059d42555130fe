-- The cells of a window told one after the other into a buffer: what a turn of the loop takes, and what the first and the last leave. Assumes nothing.
use Prim.Native.Nat.{ℕ}
use mathlib.Core.Path.{◌≡◌}
use mathlib.Core.List.{List, []}
use native.Mathlib.Omega.{arith}
use lib.ListN.{length-set}
use Rattle.record.specs.Place.{cell_at}
use Rattle.record.proofs.Laying.{sets_more}
use Rattle.record.proofs.Windows.{cells_from_none, cells_from_past, cells_from_start}
use Rattle.table_calls.specs.Look.{cell_mark}

pub ruleset telling = (length-set, sets_more, cells_from_none, cells_from_past, cells_from_start)

-- whether a number waits is told by its mark alone
pub mark_alone : (w h k : List ℕ) (j : ℕ) → cell_mark (cell_at [] [] k j) ≡ cell_mark (cell_at w h k j)
mark_alone w h k j = grind arith
