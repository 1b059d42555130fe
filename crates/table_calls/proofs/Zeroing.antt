-- A table of zeros is the empty table: every place of it is free. Assumes nothing.
use Prim.Native.Nat.{ℕ, zero, suc, ◌+◌, ◌-◌, ◌*◌, ◌≤◌}
use mathlib.Core.Path.{◌≡◌, refl, ap, ◌∙◌}
use mathlib.Core.Bool.{true, false}
use mathlib.Core.List.{List, ◌∷◌}
use native.Mathlib.Omega.{arith}
use lib.ListN.{length, take, replicate}
use Rattle.std.proofs.lemmas.List.{drop-replicate, take-replicate}
use Rattle.larq.specs.Table.{free, Table}
use Rattle.larq.specs.Run.{empty}
use Rattle.slots.specs.Slots.{slots, place_words}
use Rattle.table.specs.Key.{key_words}
use Rattle.table.specs.First.{places}
use Rattle.table.specs.Table.{Slices, slices, part, place_of, place_at, places_from, table_of, table_keys, table_words, table_slots}
use Rattle.table_calls.specs.Emptied.{whole_slices, all_zeros, Emptied}
use Rattle.table.proofs.Places.{same_places}
use Rattle.table.proofs.Stored.{zeros_free}
use Rattle.table.proofs.Ways.{whole_sizes}

part_zeros : (n i m : ℕ) → n * i + n ≤ m → part n i (replicate m 0) ≡ replicate n 0
unfolding part
part_zeros n i m h = ap (take n) (drop-replicate (n * i) m 0) ∙ take-replicate n (m - n * i) 0 (omega arith)

free_everywhere : (n i : ℕ) → places_from (λ j. free) i n ≡ replicate n free
unfolding places_from
free_everywhere zero i = refl
free_everywhere (suc n) i = ap (λ (t : Table ℕ). free ∷ t) (free_everywhere n (suc i))

pub emptied : table_of all_zeros ≡ empty
emptied =
    same_places (place_at all_zeros) (λ j. free) places 0
    (λ i low high. ap place_of (rw (part_zeros key_words i table_keys (omega arith), part_zeros place_words i table_words (omega arith), part_zeros slots i table_slots (omega arith))) ∙ zeros_free)
    ∙ free_everywhere places 0

-- what `empty` leaves, by whether the slices are those of a table
pub kept : (s : Slices) → whole_slices s ≡ false → Emptied s s 1
kept s e = record { number = rw e; table = rw e }

pub cleared : (keys words handles marks k w h m : List ℕ) → whole_slices (slices keys words handles marks) ≡ true
    → k ≡ replicate (length keys) 0 → w ≡ replicate (length words) 0 → h ≡ replicate (length handles) 0 → m ≡ replicate (length marks) 0
    → Emptied (slices keys words handles marks) (slices k w h m) 0
cleared keys words handles marks k w h m e ek ew eh em =
    let sized = whole_sizes (length keys) (length words) (length handles) (length marks) e in
    record { number = rw e; table = rw (e, ek, ew, eh, em, sized.keys, sized.words, sized.handles, sized.marks) }
