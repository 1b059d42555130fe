-- A look hands on what `way_of` refuses, or looks at the parts of the channel's place (Viewing).
use Rattle.std.proofs.Common.{arith}
use Rattle.table.specs.Words.{key_in}
use Rattle.table_calls.proofs.Viewing.{Goes, goes, known_looked, turned_looked}
use Rattle.table_calls.proofs.looking.look.Goals as goal

pub returns-in_err-i : goal.returns-in_err-i
returns-in_err-i c =
    let a = c.args in
    turned_looked a.keys.now a.words.now a.handles.now a.marks.now a.waits.now a.values.now (key_in a.key) c.stored.ensures c.in_err-i.field-0.0
    c.in_err-i.ensures _ c.from_residual.ensures.1

-- the slices, and the two buffers, are long enough for the place that was found
going : (c : goal.In_ok-i) → Goes c.args.keys.now c.args.words.now c.args.handles.now c.args.marks.now c.args.waits.now c.args.values.now
    (key_in c.args.key) c.in_ok-i.i
going c =
    let a = c.args in
    goes a.keys.now a.words.now a.handles.now a.marks.now a.waits.now a.values.now (key_in a.key) c.stored.ensures c.in_ok-i.i c.in_ok-i.ensures

pub overflow_mul-from : goal.overflow_mul-from
overflow_mul-from c = omega (arith, going c)

pub overflow_mul-slot : goal.overflow_mul-slot
overflow_mul-slot c = omega (arith, going c)

pub overflow_add-from : goal.overflow_add-from
overflow_add-from c = omega (arith, going c)

pub offset_bounds-words-from : goal.offset_bounds-words-from
offset_bounds-words-from c = omega (arith, going c)

pub slice_bounds-look_at-end : goal.slice_bounds-look_at-end
slice_bounds-look_at-end c = omega (arith, going c)

pub returns : goal.returns
returns c =
    let a = c.args in
    known_looked a.keys.now a.words.now a.handles.now a.marks.now a.waits.now a.values.now (key_in a.key) c.stored.ensures c.in_ok-i.i c.in_ok-i.ensures
    _ _ _ c.look_at.ensures
