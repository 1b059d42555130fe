-- The loop keeps: what M's walk makes of the rest is what it made of the whole (Settling, `Settles-on`); C and the latest time stay.
use Rattle.std.proofs.Common.{◌≡◌}
use Rattle.record.proofs.Settling.{Settles-on}
use Rattle.record.proofs.Record.settled.Given as goal

abbrev pub invariant-loop : goal.invariant-loop
invariant-loop l =
    Settles-on l.until l.words l.handles l.marks l.initial.kept.oldest.0 l.numbers l.at l.initial.up l.up l.kept.oldest.0 l.counter l.gone l.lost
    × (l.kept.current.0 ≡ l.initial.kept.current.0)
    × (l.kept.latest ≡ l.initial.kept.latest)
