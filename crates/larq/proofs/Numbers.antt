-- Every case of the table of numbers gives its number, and leaves the table as it says, by computation.
use mathlib.Core.Path.{refl}
use Rattle.ring.specs.Ring.{side, distance}
use Rattle.larq.specs.Channel.{sound}
use Rattle.larq.specs.Events.{asked, act_on}
use Rattle.larq.specs.Table.{same_key, one, outcome, step}
use Rattle.larq.specs.NumberCases.{cases, Holds}
use Rattle.larq.specs.Rows.{Every}

pub numbers : Every Holds cases
unfolding one outcome step sound same_key act_on asked side distance
numbers =
    ((refl, refl), ((refl, refl), ((refl, refl), ((refl, refl), ((refl, refl), ((refl, refl), ((refl, refl), ((refl, refl), ((refl, refl), ((refl, refl), ((refl, refl), ((refl, refl), ((refl, refl), ((refl, refl), ((refl, refl), ((refl, refl), ((refl, refl), ((refl, refl), ((refl, refl), ((refl, refl), ((refl, refl), ((refl, refl), ((refl, refl), ((refl, refl), ((refl, refl), ((refl, refl), ((refl, refl), ((refl, refl), ((refl, refl), ((refl, refl), ((refl, refl), ((refl, refl), ((refl, refl), ((refl, refl), ((refl, refl), ((refl, refl), ((refl, refl), ((refl, refl), ((refl, refl), ((refl, refl), ((refl, refl), ((refl, refl), ((refl, refl), ((refl, refl), tt))))))))))))))))))))))))))))))))))))))))))))
