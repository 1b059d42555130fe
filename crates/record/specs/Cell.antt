-- What each case of a cell by value means.
use Rattle.std.specs.Prelude.{ℕ}
use Rattle.larq.specs.Channel as channel
use Rattle.record.specs.declared.cell.Cell.{Cell}
use Rattle.record.specs.declared.cell.Cell.TheVariants.{Missing, Waits}

abbrev pub cell_of : Cell → channel.Cell ℕ
cell_of (Missing t) = channel.missing t
cell_of (Waits h) = channel.waits h
