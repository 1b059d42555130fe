-- The kinds of a body by name: the number of each (docs/LAYOUT.md, 'Sessions'), and the form that goes with it.
use Rattle.std.specs.Prelude.{ℕ, Option, Some, None}
use Rattle.std.proofs.Math.Option as optional
use Rattle.session.specs.Layout.{Form, form_of}
use Rattle.session.specs.declared.kind.Kind.{Kind}
use Rattle.session.specs.declared.kind.Kind.TheVariants.{Data, Reminder, Tick, Close, Look, Fresh, Use, Period, Received, Read, Write}

abbrev pub number_of : Kind → ℕ
number_of Data = 1
number_of Reminder = 2
number_of Tick = 3
number_of Close = 4
number_of Look = 5
number_of Fresh = 6
number_of Use = 7
number_of Period = 8
number_of Received = 9
number_of Read = 10
number_of Write = 11

-- the form of a kind that is named, if one is
abbrev pub form_named : Option Kind → optional.Option Form
form_named None = optional.none
form_named (Some k) = form_of (number_of k)
