-- The place that a call addresses, counted from the start of the table: where the key first stands, or for a new channel where a place is first
-- free. Document 01, 'The channel table'.
use Rattle.std.specs.Prelude.{ℕ, Bool, true, false, Option, Some, None}
use Rattle.larq.specs.Table.{Key, same_key, Place, free, held}
use Rattle.table.specs.First.{first_place}
use Rattle.table.specs.Table.{Slices, place_at}

-- an open place with this key
abbrev pub is_of : Key → Place ℕ → Bool
is_of k free = false
is_of k (held j c) = same_key j k

abbrev pub is_free : Place ℕ → Bool
is_free free = true
is_free (held j c) = false

abbrev pub or_else : Option ℕ → Option ℕ → Option ℕ
or_else (Some i) other = Some i
or_else None other = other

-- the first open place with the key; where none is open, the first free one
abbrev pub addressed : Key → Slices → Option ℕ
addressed k s = or_else (first_place (λ i. is_of k (place_at s i))) (first_place (λ i. is_free (place_at s i)))
