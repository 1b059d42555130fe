-- The refusals by name. Their numbers are those of the rules' list, in its order, whatever the event; and in the table of cases each case that a
-- number refuses has the number of the name that stands for it here. Document 01, 'Numbers the box may answer with'. Assumes nothing.
use Prim.Native.Nat.{ℕ}
use mathlib.Core.Path.{◌≡◌, refl}
use mathlib.Core.Bool.{Bool}
use mathlib.Core.List.{List, [], ◌∷◌, map}
use Rattle.wire.specs.Refusals.{Refusal}
use Rattle.larq.specs.declared.refused.Refused.{Refused}
use Rattle.larq.specs.declared.refused.Refused.TheVariants.{Lent, Number, Priority, Unknown, Full, Broken, Earlier, Far}
use Rattle.larq.specs.Channel.{Channel}
use Rattle.larq.specs.Table.{Event, refusals}
use Rattle.larq.specs.NumberCases.{Case, each}
use Rattle.larq.specs.Refused.{number_of}

-- in the order of the numbers
abbrev names : List Refused
names = Lent ∷ Number ∷ Priority ∷ Unknown ∷ Full ∷ Broken ∷ Earlier ∷ Far ∷ []

pub in_order : {H : Type 0} (w : ℕ) (spare : Bool) (cs : List (Channel H)) (e : Event H)
    → map (λ (r : Refusal). r.number) (refusals w spare cs e) ≡ map number_of names
in_order w spare cs e = refl

-- what each case of `each` is refused by
abbrev refused_by : List Refused
refused_by =
    Lent ∷ Lent ∷ Lent ∷ Lent
    ∷ Number ∷ Number
    ∷ Priority
    ∷ Unknown ∷ Unknown ∷ Unknown
    ∷ Full
    ∷ Broken ∷ Broken ∷ Broken ∷ Broken ∷ Broken ∷ Broken
    ∷ Earlier ∷ Earlier ∷ Earlier ∷ Earlier
    ∷ Far ∷ Far ∷ []

pub cases_named : map (λ (c : Case). c.number) each ≡ map number_of refused_by
cases_named = refl
