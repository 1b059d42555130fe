-- By the way that `way_of` gives, a close refuses, or lends the parts of the channel's place to the call on one place, and clears the key of the
-- place that this call freed (Events of table_calls).
use Rattle.std.proofs.Common.{refl, arith}
use Rattle.larq.specs.Events.{close}
use Rattle.place.specs.Call.{parts, buffers}
use Rattle.table.specs.Words.{key_in}
use Rattle.table_calls.proofs.Events.{asked, Goes, goes, turned_did, closed_did, close_refused_did}
use Rattle.table_upkeep.proofs.closes.close.Goals as goal

-- the parts of the channel's place lie within the slices
going : (c : goal.In_ok-i) → let a = c.args in
    Goes (asked a.keys.now a.words.now a.handles.now a.marks.now a.up.now a.returned.now a.nack.now (key_in a.key) a.time) c.in_ok-i.i
going c = goes _ close 0 refl c.of-lent.ensures c.stored.ensures _ c.in_ok-i.ensures

pub overflow_mul-from : goal.overflow_mul-from
overflow_mul-from c = omega (arith, going c)

pub overflow_mul-slot : goal.overflow_mul-slot
overflow_mul-slot c = omega (arith, going c)

pub overflow_add-from : goal.overflow_add-from
overflow_add-from c = omega (arith, going c)

pub offset_bounds-words-from : goal.offset_bounds-words-from
offset_bounds-words-from c = omega (arith, going c)

pub slice_bounds-close-end : goal.slice_bounds-close-end
slice_bounds-close-end c = omega (arith, going c)

-- by `omega`, as it is so of any slice of that length: a close that frees another one is refused by what it leaves
pub free_key-requires : goal.free_key-requires
free_key-requires c =
    let a = c.args in
    let t = asked a.keys.now a.words.now a.handles.now a.marks.now a.up.now a.returned.now a.nack.now (key_in a.key) a.time in
    let at = goes t close 0 refl c.of-lent.ensures c.stored.ensures _ c.in_ok-i.ensures in
    (omega (arith, at.keys_sized), at.here)

pub returns-in_err-i : goal.returns-in_err-i
returns-in_err-i c = turned_did _ close 0 refl c.of-lent.ensures c.stored.ensures refl _ c.in_err-i.ensures _ c.from_residual.ensures.1

pub returns-in_err-answer : goal.returns-in_err-answer
returns-in_err-answer c =
    close_refused_did _ c.of-lent.ensures c.stored.ensures _ c.in_ok-i.ensures (parts _ _ _) (buffers _ _ _) _
    (record { words = c.close.auto.words; handles = c.close.auto.handles; marks = c.close.auto.marks }) c.in_err-answer.ensures _ c.from_residual-in_err-answer.ensures.1

pub returns : goal.returns
returns c =
    closed_did _ c.of-lent.ensures c.stored.ensures _ c.in_ok-i.ensures _ (parts _ _ _) (buffers _ _ _) _
    (record { words = c.close.auto.words; handles = c.close.auto.handles; marks = c.close.auto.marks }) c.in_ok-answer.ensures c.free_key.ensures
