-- Calls one after the other on one table, each with buffers of its own, and what the host hears from each.
use Rattle.std.specs.Prelude.{ℕ, List, [], ◌∷◌, take}
use Rattle.larq.specs.Answer as rule
use Rattle.larq.specs.Table.{Event}
use Rattle.place.specs.Call.{Buffers, Told}
use Rattle.table.specs.Table.{Slices}
use Rattle.table_calls.specs.Event.{Did}

-- what the host reads: the number, as many entries of each buffer as its count says, and the lost count
abbrev pub heard : Buffers → Told → rule.Answer ℕ
heard b given =
    record {
      number = given.number;
      up = take given.up b.up;
      returned = take given.returned b.returned;
      nack = take given.nack b.nack;
      lost = given.lost;
    }

pub data Calls : Slices → List (Event ℕ) → List (rule.Answer ℕ) → Slices → Type 0 where
  none : {s : Slices} → Calls s [] [] s
  call : {s m x : Slices} {e : Event ℕ} {es : List (Event ℕ)} {rs : List (rule.Answer ℕ)} (had has : Buffers) (given : Told)
      → Did e s m had has given → Calls m es rs x → Calls s (e ∷ es) (heard has given ∷ rs) x
