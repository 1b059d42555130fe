-- What is lent for a call on a place, by its lengths.
use Rattle.std.specs.Prelude.{ℕ, List, length}
use Rattle.larq.specs.Table.{Lent}
use Rattle.record.specs.Place.{place_lent}
use Rattle.record.specs.declared.Lengths.{Lengths}

abbrev pub lengths_of : List ℕ → List ℕ → List ℕ → List ℕ → List ℕ → List ℕ → Lengths
lengths_of words handles marks up returned nack =
    record { words = length words; handles = length handles; marks = length marks; up = length up; returned = length returned; nack = length nack }

abbrev pub lent_by : Lengths → Lent
lent_by l = place_lent l.words l.handles l.marks l.up l.returned l.nack
