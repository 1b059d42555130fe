-- `arrive` meets its contract: by where the number lies (Frames).
use Rattle.std.proofs.Common.{arith}
use Rattle.judging.proofs.Spots.{lies_at}
use Rattle.place.proofs.Opening.{ahead_some, ahead_frame}
use Rattle.place_frame.proofs.Frames.{frame_next, frame_ahead, frame_missing, frame_unwanted, frame_far}
use Rattle.place_frame.proofs.arrive.Goals as goal

pub overflow_sub-d : goal.overflow_sub-d
overflow_sub-d c = ahead_some _ _ _ (lies_at c.args.r _ _ c.in-Ahead.ensures).is

pub ahead-requires-clause-ahead : goal.ahead-requires-clause-ahead
ahead-requires-clause-ahead c = ahead_frame _ _ _ (lies_at c.args.r _ _ c.in-Ahead.ensures).is _

pub returns-in-Ahead : goal.returns-in-Ahead
returns-in-Ahead c = frame_ahead _ _ _ c.requires.ready.0 _ (lies_at c.args.r _ _ c.in-Ahead.ensures).is c.ahead.ensures c.from.ensures

pub returns-in-Next : goal.returns-in-Next
returns-in-Next c =
    let p = c.requires in
    let e = c.begun.ensures in
    frame_next _ _ _ p.ready.0 _ _ _ p.ready.1 (lies_at c.args.r _ _ c.in-Next.ensures) (omega (arith, p.window_in_bounds.0)) e.head e.frame e.answer

pub returns-in-Missing : goal.returns-in-Missing
returns-in-Missing c = frame_missing _ _ _ c.requires.ready.0 _ _ (lies_at c.args.r _ _ c.in-Missing.ensures) c.filled.ensures c.from-in-Missing.ensures

pub returns-in-Unwanted : goal.returns-in-Unwanted
returns-in-Unwanted c =
    let p = c.requires in
    let e = c.sent_back.ensures in
    frame_unwanted _ _ _ p.ready.0 _ _ _ (lies_at c.args.r _ _ c.in-Unwanted.ensures) (omega (arith, p.window_in_bounds.1)) e.0 e.1 e.2

pub returns-in-Far : goal.returns-in-Far
returns-in-Far c = frame_far _ _ _ c.requires.ready.0 _ (lies_at c.args.r _ _ c.in-Far.ensures) c.restarted.ensures
