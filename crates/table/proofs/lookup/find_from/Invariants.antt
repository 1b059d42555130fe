-- At each turn the places from i on hold the first that stores the key, if one does.
use Rattle.std.proofs.Common.{◌≡◌, ◌-◌, ◌≤◌}
use Rattle.table.specs.First.{first_from, stores, places}
use Rattle.table.proofs.lookup.find_from.Given as goal

abbrev pub invariant-loop-i : goal.invariant-loop-i
invariant-loop-i l = record {
  high : l.i ≤ places;
  still : first_from (stores l.keys l.first l.second) l.from (places - l.from) ≡ first_from (stores l.keys l.first l.second) l.i (places - l.i);
}

abbrev pub decreases-loop-i : goal.decreases-loop-i
decreases-loop-i l = places - l.i
