-- Where an event goes: to a place, or nowhere, by a number that no record has a part in.
-- Document 01, 'Numbers the box may answer with', 1 to 5.
use Rattle.std.specs.Prelude.{ℕ, List, [], ◌∷◌, Bool, true, false, Option, Some, None, Result}
use Rattle.wire.specs.Refusals.{first, answered}
use Rattle.wire.specs.Answers.{Said, accepted, refused, result_says}
use Rattle.larq.specs.Channel.{window}
use Rattle.larq.specs.Events.{Act, frame, reminder}
use Rattle.larq.specs.Table.{Key, Lent, Event, early, way_refusals}
use Rattle.table.specs.First.{first_place, stores}
use Rattle.table.specs.Key.{first_word}
use Rattle.table.specs.Table.{whole}
use Rattle.record.specs.declared.Lengths.{Lengths}
use Rattle.larq.specs.Refused.{number_of}
use Rattle.larq.specs.declared.refused.Refused.{Refused}
use Rattle.table.specs.declared.way.DataPlace.{DataPlace}
use Rattle.table.specs.declared.way.DataPlace.TheVariants.{Known, Free}

-- what is lent, by the lengths of the table's four slices and of the three answer buffers
abbrev pub table_lent : ℕ → ℕ → ℕ → ℕ → ℕ → ℕ → ℕ → Lent
table_lent keys words handles marks up returned nack =
    record { up = up; returned = returned; nack = nack; whole = whole keys words handles marks }

abbrev pub table_lent_by : ℕ → Lengths → Lent
table_lent_by keys l = table_lent keys l.words l.handles l.marks l.up l.returned l.nack

-- an event as far as numbers 1 to 5 see it: its addresses tell its place, which is looked up, and its time and handle have no part in them
abbrev pub event_by : Lent → ℕ → Act Unit → Event Unit
event_by l priority act = record { key = record { destination = 0; source = 0; priority = priority }; time = 0; act = act; lent = l }

-- the number that 1 to 3 lead to, or 0: data and a reminder are alike in it, and a tick, a close and a look are judged as a reminder with number 0
unfoldable pub early_number : Lent → ℕ → ℕ → ℕ
early_number l number priority = first (early window (event_by l priority (reminder number)))

-- the first place that stores a key
abbrev pub place_for : List ℕ → Key → Option ℕ
place_for keys k = first_place (stores keys (first_word k) k.source)

-- What each case says: document 01's number, 0 where the event goes to a place, and the values that come with it.

-- a way: the place
abbrev pub way_says : Result ℕ Refused → Said
way_says = result_says (λ i. i ∷ []) number_of

-- a way of data: 1 if it opens a channel there, else 0, and the place
abbrev pub data_place_values : DataPlace → List ℕ
data_place_values (Known i) = 0 ∷ (i ∷ [])
data_place_values (Free i) = 1 ∷ (i ∷ [])

abbrev pub data_way_says : Result DataPlace Refused → Said
data_way_says = result_says data_place_values number_of

abbrev pub is_found : Option ℕ → Bool
is_found (Some i) = true
is_found None = false

abbrev pub places_of : Option ℕ → List ℕ
places_of (Some i) = i ∷ []
places_of None = []

-- the place of the channel, or else the free one, which is opened
abbrev pub leads_to : Option ℕ → Option ℕ → List ℕ
leads_to (Some i) spare = 0 ∷ (i ∷ [])
leads_to None spare = 1 ∷ places_of spare

-- What is to be said of an event by the rules' list of numbers 1 to 5. `place` is the key's and `spare` the free one: that they are found says of the
-- table what the list asks of it (`known_is_open`, `spare_is_room` of proofs/Stored).

-- of a reminder, tick, close or look: the first number that refuses it, or the place of its channel. That a place is free has no part in it, since
-- number 4 comes before number 5
abbrev pub way_for : Lent → ℕ → ℕ → Option ℕ → Said
way_for l number priority place =
    answered refused (way_refusals window (is_found place) false (event_by l priority (reminder number))) (accepted (places_of place))

-- of data: that number, or the place of its channel or the free one
abbrev pub data_way_for : Lent → ℕ → ℕ → Option ℕ → Option ℕ → Said
data_way_for l number priority place spare =
    answered refused (way_refusals window (is_found place) (is_found spare) (event_by l priority (frame number tt))) (accepted (leads_to place spare))
