-- By the way that `data_way_of` gives, data refuses, opens a channel at the free place, or lends the parts of the channel's place to the call on
-- one place (Events of table_calls).
use Rattle.std.proofs.Common.{arith}
use Rattle.place.specs.Call.{parts, buffers}
use Rattle.table.specs.Words.{key_in}
use Rattle.table_calls.proofs.Events.{asked, Goes, data_goes, data_kept_did, data_turned_did, ready, opening_did}
use Rattle.table_frame.proofs.data.Goals as goal

-- the parts of the channel's place lie within the slices
going : (c : goal.In-Known) → let a = c.args in
    Goes (asked a.keys.now a.words.now a.handles.now a.marks.now a.up.now a.returned.now a.nack.now (key_in a.key) a.time) c.in-Known.i
going c = data_goes _ c.args.number c.args.handle c.of-lent.ensures c.stored-key.ensures _ _ c.in_ok-i.ensures c.in-Known.is

pub overflow_mul-from : goal.overflow_mul-from
overflow_mul-from c = omega (arith, going c)

pub overflow_mul-slot : goal.overflow_mul-slot
overflow_mul-slot c = omega (arith, going c)

pub overflow_add-from : goal.overflow_add-from
overflow_add-from c = omega (arith, going c)

pub offset_bounds-words-from : goal.offset_bounds-words-from
offset_bounds-words-from c = omega (arith, going c)

pub slice_bounds-data-end : goal.slice_bounds-data-end
slice_bounds-data-end c = omega (arith, going c)

pub open_at-requires : goal.open_at-requires
open_at-requires c =
    let a = c.args in
    let t = asked a.keys.now a.words.now a.handles.now a.marks.now a.up.now a.returned.now a.nack.now (key_in a.key) a.time in
    ready t a.number a.handle c.of-lent.ensures c.stored-key.ensures _ _ c.in_ok-i.ensures c.in-Free.is

pub returns-in_err-i : goal.returns-in_err-i
returns-in_err-i c =
    data_turned_did _ c.args.number c.args.handle c.of-lent.ensures c.stored-key.ensures _ c.in_err-i.ensures _ c.from_residual.ensures.1

pub returns-in-Known : goal.returns-in-Known
returns-in-Known c =
    data_kept_did _ c.args.number c.args.handle c.of-lent.ensures c.stored-key.ensures _ _ c.in_ok-i.ensures c.in-Known.is (parts _ _ _) (buffers _ _ _) _
    (record { words = c.data.auto.words; handles = c.data.auto.handles; marks = c.data.auto.marks }) c.data.ensures

pub returns-in-Free : goal.returns-in-Free
returns-in-Free c =
    opening_did _ c.args.number c.args.handle c.of-lent.ensures c.stored-key.ensures _ _ c.in_ok-i.ensures c.in-Free.is _ _ _ _ c.open_at.ensures
