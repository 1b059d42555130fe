-- `rate::writer::put` meets its contract: six runs are laid one behind the other, and they are the frame's parts in order.
use Rattle.std.proofs.Common.{ℕ, ◌≡◌, ◌-◌, ap, length, arith, rules}
use Rattle.rate.specs.Writing.{ss_length_for, fixed_part}
use Rattle.rate.proofs.Frame.{length_frame, length_laid, laid_header, laid_all}
use Rattle.rate.proofs.writer.put.Goals as goal

pub overflow_sub-frame_length : goal.overflow_sub-frame_length
unfolding fixed_part ss_length_for
overflow_sub-frame_length c =
    let q = c.args.request in
    let a = c.args.addresses.now in
    let d6 : length q.destination ≡ 6 = search rules in
    let s6 : length q.source ≡ 6 = search rules in
    let laid = laid_header q a d6 s6 c.requires.two c.args.out.now c.requires.room c.lay-at.ensures c.lay-at-2.ensures c.lay-at-3.ensures c.lay_bands-at.ensures c.lay-at-4.ensures in
    omega (arith, laid.end, length_frame q a d6 s6 c.requires.two, length_laid q a d6 s6 c.requires.two, c.frame_length.ensures)

pub returns : goal.returns
unfolding fixed_part ss_length_for
returns c =
    let q = c.args.request in
    let a = c.args.addresses.now in
    let d6 : length q.destination ≡ 6 = search rules in
    let s6 : length q.source ≡ 6 = search rules in
    let laid = laid_header q a d6 s6 c.requires.two c.args.out.now c.requires.room c.lay-at.ensures c.lay-at-2.ensures c.lay-at-3.ensures c.lay_bands-at.ensures c.lay-at-4.ensures in
    laid_all q a d6 s6 c.requires.two c.args.out.now c.requires.room laid (ap (λ (n : ℕ). n - c.lay-at-4.result) c.frame_length.ensures) c.clear.ensures
