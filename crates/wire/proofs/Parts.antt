-- The caller's own part, as `part` hands it back: its octets, and the part itself where it lies within the slice.
-- Assumes nothing.
use mathlib.Core.Path.{◌≡◌}
use mathlib.Core.Bool.{Bool, true, false, cond}
use mathlib.Core.List.{List, []}
use Prim.Native.Nat.{ℕ, ◌+◌, ◌≤◌}
use denote.Ref.{Bor}
use lib.ListN.{length, take, drop}
use Rattle.wire.specs.Octets.{within, part_at, OwnPart, OwnPartOrNone}
use Rattle.wire.proofs.Within.{le_within}

pub own_octets : (s : Bor (List ℕ)) (start count : ℕ) {r : Bor (List ℕ)} → OwnPartOrNone s start count r → r.now ≡ part_at s.now start count
unfolding part_at
own_octets s start count {r} own = by_test (within s.now start count) own.octets
  where
    by_test : (w : Bool) → r.now ≡ take (cond w count 0) (drop (cond w start 0) s.now) → r.now ≡ cond w (take count (drop start s.now)) []
    by_test true e = e
    by_test false e = e

pub own_within : (s : Bor (List ℕ)) (start count : ℕ) {r : Bor (List ℕ)} → start + count ≤ length s.now → OwnPartOrNone s start count r → OwnPart s start count r
own_within s start count h own = let w : within s.now start count ≡ true = le_within s.now start count h in rw w at own
