-- What the four slices of a lent table mean: so many places, each with its key and the parts that crate slots tells of.
-- Document 01, 'The channel table'; docs/LAYOUT.md has the layout.
use Rattle.std.specs.Prelude.{ℕ, zero, suc, ◌*◌, Bool, cond, ◌&&◌, List, [], ◌∷◌, get_or, take, drop, replicate, eqb}
use Rattle.larq.specs.Table.{Place, free, held, Table}
use Rattle.slots.specs.Slots.{slots, place_words}
use Rattle.record.specs.Place.{record_of}
use Rattle.table.specs.Key.{key_words, stored_key}
use Rattle.table.specs.First.{places}

-- how long the slices are: the keys, the words, and the handles as the marks
abbrev pub table_keys : ℕ
table_keys = key_words * places

abbrev pub table_words : ℕ
table_words = place_words * places

abbrev pub table_slots : ℕ
table_slots = slots * places

pub record Slices : Type 0 where
  pub keys : List ℕ
  pub words : List ℕ
  pub handles : List ℕ
  pub marks : List ℕ

abbrev pub slices : List ℕ → List ℕ → List ℕ → List ℕ → Slices
slices keys words handles marks = record { keys = keys; words = words; handles = handles; marks = marks }

-- the slices are those of a table of 64 places: no shorter and no longer
abbrev pub whole : ℕ → ℕ → ℕ → ℕ → Bool
whole keys words handles marks = eqb keys table_keys && (eqb words table_words && (eqb handles table_slots && eqb marks table_slots))

-- what of a slice belongs to place i, where each place has n elements
unfoldable pub part : ℕ → ℕ → List ℕ → List ℕ
part n i l = take n (drop (n * i) l)

-- the very words of place i
abbrev pub at_place : ℕ → Slices → Slices
at_place i s = slices (part key_words i s.keys) (part place_words i s.words) (part slots i s.handles) (part slots i s.marks)

-- the words of a place as in an empty table
abbrev pub zeros : Slices
zeros = slices (replicate key_words 0) (replicate place_words 0) (replicate slots 0) (replicate slots 0)

-- what the words of a place mean: free where the first word of the key is 0, else that key and its record
unfoldable pub place_of : Slices → Place ℕ
place_of p =
    cond (eqb (get_or p.keys 0 0) 0) free
    (held (stored_key (get_or p.keys 0 0) (get_or p.keys 1 0)) (record_of p.words p.handles p.marks))

abbrev pub place_at : Slices → ℕ → Place ℕ
place_at s i = place_of (at_place i s)

-- n places from the i-th on
unfoldable pub places_from : (ℕ → Place ℕ) → ℕ → ℕ → Table ℕ
places_from place i zero = []
places_from place i (suc n) = place i ∷ places_from place (suc i) n

-- the table that the slices hold
abbrev pub table_of : Slices → Table ℕ
table_of s = places_from (place_at s) 0 places
