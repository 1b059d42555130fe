-- At each turn both buffers still lack the cells from here on.
use Rattle.std.proofs.Common.{◌≡◌, ◌-◌, map}
use Rattle.std.proofs.lemmas.List.Edits.{sets}
use Rattle.ring.specs.Ring.{forward}
use Rattle.record.specs.Place.{cells_from, cell_at}
use Rattle.table_calls.specs.Look.{cell_mark, cell_value}
use Rattle.table_calls.proofs.looking.tell.Given as goal

abbrev pub invariant-loop-k : goal.invariant-loop-k
invariant-loop-k l = record {
  marks : sets l.waits l.k (map cell_mark (cells_from (cell_at l.words l.handles l.marks) (forward l.from.0 l.k) (l.n - l.k)))
      ≡ sets l.initial.waits 0 (map cell_mark (cells_from (cell_at l.words l.handles l.marks) l.from.0 l.n));
  cells : sets l.values l.k (map cell_value (cells_from (cell_at l.words l.handles l.marks) (forward l.from.0 l.k) (l.n - l.k)))
      ≡ sets l.initial.values 0 (map cell_value (cells_from (cell_at l.words l.handles l.marks) l.from.0 l.n));
}
