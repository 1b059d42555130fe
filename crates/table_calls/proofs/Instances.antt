-- An instance of the laws of lent tables, so that none of them is about nothing: a whole table that no box has made. A key stands twice in it, and
-- its later record is broken. Assumes nothing.
use Prim.Native.Nat.{ℕ}
use mathlib.Core.Path.{◌≡◌, refl, ap}
use mathlib.Core.List.{[], ◌∷◌, ◌++◌}
use lib.ListN.{replicate}
use Rattle.ring.specs.Ring.{rising, side, distance}
use Rattle.larq.specs.Channel.{waits, missing, Channel, window, sound}
use Rattle.larq.specs.Events.{frame, asked, act_on}
use Rattle.larq.specs.Table.{Key, same_key, channels, Event, one, outcome}
use Rattle.larq.specs.Demands.{UpFirst}
use Rattle.larq.specs.Moving.{entered, Moves}
use Rattle.record.specs.Place.{cells_from, record_with}
use Rattle.place.specs.Call.{Buffers, buffers}
use Rattle.table.specs.Table.{Slices, slices, part, place_of, places_from, table_of}
use Rattle.table_calls.specs.Event.{event_of}
use Rattle.table_calls.proofs.Lent.{lent_at_once, accepted_leaves, lent_moves}

abbrev key : Key
key = record { destination = 0; source = 0; priority = 0 }

-- the first two places have the key: C is 12, M is 11 and missing since 100, 12 waits with handle 2; and C is 5,000, M 5,001
abbrev handed_in : Slices
handed_in =
    slices (1 ∷ (0 ∷ (1 ∷ (0 ∷ replicate 124 0)))) (12 ∷ (11 ∷ (102 ∷ (replicate 11 0 ++ (100 ∷ (replicate 20 0 ++ (5000 ∷ (5001 ∷ replicate 2203 0))))))))
    (replicate 12 0 ++ (2 ∷ replicate 2035 0)) (replicate 12 0 ++ (1 ∷ replicate 2035 0))

abbrev room_for_all : Buffers
room_for_all = buffers (replicate window 0) (replicate window 0) (replicate window 0)

abbrev behind_11 : Channel ℕ
behind_11 = record { current = 12; oldest = 11; latest = 102; cells = missing 100 ∷ (waits 2 ∷ []) }

abbrev broken : Channel ℕ
broken = record { current = 5000; oldest = 5001; latest = 0; cells = [] }

twice : channels key (table_of handed_in) ≡ behind_11 ∷ (broken ∷ [])
unfolding places_from place_of part record_with cells_from same_key
twice = refl

abbrev arrives : ℕ → Event ℕ
arrives n = event_of key 104 (frame n 5) handed_in room_for_all

-- 11 comes at last: it goes up first, and 12 after it
filled_content : (outcome window (table_of handed_in) (arrives 11)).answer ≡ record { number = 0; up = 5 ∷ (2 ∷ []); returned = []; nack = []; lost = 0 }
unfolding outcome one sound act_on asked side distance places_from place_of part record_with cells_from same_key
filled_content = refl

pub lent_at_once_met : UpFirst 5 (outcome window (table_of handed_in) (arrives 11))
lent_at_once_met = lent_at_once handed_in (arrives 11) behind_11 (broken ∷ []) twice 5 refl (ap (λ r. r.number) filled_content)

-- a jump of 64: 33 numbers are lost, 12 goes up, and 45 to 75 are asked for
jump_content : (outcome window (table_of handed_in) (arrives 76)).answer ≡ record { number = 0; up = 2 ∷ []; returned = []; nack = rising 45 31; lost = 33 }
unfolding outcome one sound act_on asked side distance places_from place_of part record_with cells_from same_key
jump_content = refl

pub lent_moves_met : (d : Channel ℕ) × Moves behind_11 (entered window behind_11 104 (frame 76 5)) 63 (outcome window (table_of handed_in) (arrives 76)).answer d
unfolding side distance
lent_moves_met =
    let left = accepted_leaves handed_in (arrives 76) behind_11 (broken ∷ []) twice (ap (λ r. r.number) jump_content) refl in
    (left.0, lent_moves handed_in (arrives 76) behind_11 (broken ∷ []) twice left.0 left.1 refl)
