-- Every row of the table of cases holds, by computation.
use mathlib.Core.Path.{refl}
use Rattle.capability.specs.Events.{taken_away}
use Rattle.capability.specs.Cases.{All, cases}

pub all_hold : All cases
unfolding cases taken_away
all_hold =
    ((refl, refl), ((refl, refl), ((refl, refl), (refl, (refl, (refl, (refl, (refl, (refl, (refl, (refl, (refl, (refl, (refl, (refl, (refl, (refl, (refl, (refl, (refl, (refl, (refl, (refl, (refl, (refl, (refl, (refl, (refl, (refl, (refl, (refl, (refl, (refl, (refl, (refl, (refl, (refl, (refl, tt))))))))))))))))))))))))))))))))))))))
