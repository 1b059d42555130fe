-- One place as docs/LAYOUT.md has it, word by word: C is 12, M is 11, the latest time 102; 11 is missing since 100, and 12 waits with handle 7.
-- What the definitions read off it is computed. Assumes nothing.
use Prim.Native.Nat.{ℕ}
use mathlib.Core.Path.{◌≡◌, refl}
use mathlib.Core.Bool.{true, false}
use mathlib.Core.List.{List, ◌∷◌, ◌++◌}
use lib.ListN.{length, replicate}
use Rattle.slots.specs.Slots.{slot_of, place_sized, current_in, oldest_in, latest_in, is_missing, time_at, handle_at}

abbrev words : List ℕ
words = 12 ∷ (11 ∷ (102 ∷ (replicate 11 0 ++ (100 ∷ replicate 20 0))))

abbrev handles : List ℕ
handles = replicate 12 0 ++ (7 ∷ replicate 19 0)

abbrev marks : List ℕ
marks = replicate 12 0 ++ (1 ∷ replicate 19 0)

pub sized : place_sized (length words) (length handles) (length marks) ≡ true
sized = refl

pub heads : (current_in words ≡ 12) × (oldest_in words ≡ 11) × (latest_in words ≡ 102)
heads = (refl, refl, refl)

-- 43 has the slot of 11, and the last number of the ring the last slot
pub slotted : (slot_of 11 ≡ 11) × (slot_of 43 ≡ 11) × (slot_of 4095 ≡ 31) × (slot_of 0 ≡ 0)
slotted = (refl, refl, refl, refl)

pub missed : (is_missing marks (slot_of 11) ≡ true) × (time_at words (slot_of 11) ≡ 100)
missed = (refl, refl)

pub waited : (is_missing marks (slot_of 12) ≡ false) × (handle_at handles (slot_of 12) ≡ 7)
waited = (refl, refl)
