-- By the way that `way_of` gives, a tick refuses, or lends the parts of the channel's place to the call on one place (Events of table_calls).
use Rattle.std.proofs.Common.{refl, arith}
use Rattle.larq.specs.Events.{tick}
use Rattle.place.specs.Call.{parts, buffers}
use Rattle.table.specs.Words.{key_in}
use Rattle.table_calls.proofs.Events.{asked, Goes, goes, kept_did, turned_did}
use Rattle.table_upkeep.proofs.ticks.tick.Goals as goal

-- the parts of the channel's place lie within the slices
going : (c : goal.In_ok-i) → let a = c.args in
    Goes (asked a.keys.now a.words.now a.handles.now a.marks.now a.up.now a.returned.now a.nack.now (key_in a.key) a.time) c.in_ok-i.i
going c = goes _ tick 0 refl c.of-lent.ensures c.stored.ensures _ c.in_ok-i.ensures

pub overflow_mul-from : goal.overflow_mul-from
overflow_mul-from c = omega (arith, going c)

pub overflow_mul-slot : goal.overflow_mul-slot
overflow_mul-slot c = omega (arith, going c)

pub overflow_add-from : goal.overflow_add-from
overflow_add-from c = omega (arith, going c)

pub offset_bounds-words-from : goal.offset_bounds-words-from
offset_bounds-words-from c = omega (arith, going c)

pub slice_bounds-tick-end : goal.slice_bounds-tick-end
slice_bounds-tick-end c = omega (arith, going c)

pub returns-in_err-i : goal.returns-in_err-i
returns-in_err-i c = turned_did _ tick 0 refl c.of-lent.ensures c.stored.ensures refl _ c.in_err-i.ensures _ c.from_residual.ensures.1

pub returns : goal.returns
returns c =
    kept_did _ tick 0 refl c.of-lent.ensures c.stored.ensures refl _ c.in_ok-i.ensures (parts _ _ _) (buffers _ _ _) _
    (record { words = c.tick.auto.words; handles = c.tick.auto.handles; marks = c.tick.auto.marks }) c.tick.ensures
