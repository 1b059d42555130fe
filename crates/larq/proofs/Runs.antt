-- Every case of document 01's 'Runs at the edges' gives the answers that the paper gives, and leaves the record that its rules make, by computation. Demand 2:
-- whose rules does the box follow?
use mathlib.Core.Path.{refl}
use Rattle.ring.specs.Ring.{side, distance}
use Rattle.larq.specs.Channel.{sound}
use Rattle.larq.specs.Events.{asked, act_on}
use Rattle.larq.specs.Table.{same_key, one, outcome, step}
use Rattle.larq.specs.Edges.{cases, Holds}
use Rattle.larq.specs.Rows.{Every}

pub runs : Every Holds cases
unfolding one outcome step sound same_key act_on asked side distance
runs =
    ((refl, refl), ((refl, refl), ((refl, refl), ((refl, refl), ((refl, refl), ((refl, refl), ((refl, refl), ((refl, refl), ((refl, refl), ((refl, refl), ((refl, refl), ((refl, refl), ((refl, refl), ((refl, refl), ((refl, refl), ((refl, refl), ((refl, refl), ((refl, refl), tt))))))))))))))))))
