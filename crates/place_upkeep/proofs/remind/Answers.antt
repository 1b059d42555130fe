-- By the side on which the number lies (Reminders).
use Rattle.std.proofs.Common.{◌∙◌, ap, sym}
use Rattle.ring.specs.Ring.{Ahead}
use Rattle.ring.proofs.Sides.{seen_far, seen_ahead, seen_behind}
use Rattle.place.proofs.Opening.{ahead_reminder}
use Rattle.place_upkeep.proofs.Reminders.{reminder_ahead, reminder_behind, reminder_far}
use Rattle.place_upkeep.proofs.remind.Goals as goal

pub returns-then-is_far : goal.returns-then-is_far
returns-then-is_far c =
    reminder_far c.requires.ready.0 _ _ _ _ (seen_far _ _ (rw (c.is_far.ensures, c.distance-d.ensures) at c.if-is_far.true))

pub returns-then-not-is_ahead : goal.returns-then-not-is_ahead
returns-then-not-is_ahead c =
    reminder_behind c.requires.ready.0 _ _ _ _
    (seen_behind _ _ (rw (c.is_far.ensures, c.distance-d.ensures) at c.if-is_far.false)
    (rw (c.is_ahead.ensures, c.distance-d.ensures) at c.if-not-is_ahead.true)).1 c.noted.ensures.0 c.noted.ensures.1

pub reminded-requires-clause-ahead : goal.reminded-requires-clause-ahead
reminded-requires-clause-ahead c =
    ahead_reminder _ _ _ (seen_ahead _ _ (rw (c.is_ahead.ensures, c.distance-d.ensures) at c.if-not-is_ahead.false) ∙ ap Ahead (sym c.steps.ensures))

pub returns : goal.returns
returns c =
    reminder_ahead c.requires.ready.0 _ _
    (seen_ahead _ _ (rw (c.is_ahead.ensures, c.distance-d.ensures) at c.if-not-is_ahead.false) ∙ ap Ahead (sym c.steps.ensures))
    c.reminded.ensures c.into.ensures
