-- At each turn the places from the one with j words before it hold the first that has the word, if one does.
use Rattle.std.proofs.Common.{◌-◌}
use Rattle.table.specs.Table.{table_keys}
use Rattle.table.proofs.Walking.{Walked}
use Rattle.table.proofs.lookup.first_with.Given as goal

abbrev pub invariant-loop-j : goal.invariant-loop-j
invariant-loop-j l = Walked l.keys l.which l.word l.j

abbrev pub decreases-loop-j : goal.decreases-loop-j
decreases-loop-j l = table_keys - l.j
