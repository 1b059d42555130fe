-- The four slices are zeros where they are those of a table (Zeroing).
use Rattle.std.proofs.Common.{sym, ◌∙◌}
use Rattle.table_calls.proofs.Zeroing.{cleared}
use Rattle.table_calls.proofs.emptying.empty.Goals as goal

pub returns : goal.returns
returns c =
    cleared _ _ _ _ _ _ _ _ (sym c.is_whole.ensures ∙ c.if-not-is_whole.false) c.zero.ensures c.zero-2.ensures c.zero-3.ensures c.zero-4.ensures
