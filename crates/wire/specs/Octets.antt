-- Octets of a frame, as a list of numbers: the one at a place, six in a row, and a part that is the caller's own.
-- Document 01, 'The rate request on the wire': the octets handed back are the caller's. Past the end every octet counts as 0.
use Rattle.std.specs.Prelude.{ℕ, zero, suc, ◌+◌, ◌≡◌, Bool, true, cond, ◌&&◌, List, [], ◌∷◌, leb, length, get_or, take, drop}
use Rattle.std.specs.Borrow.{Bor}

abbrev pub octet_at : List ℕ → ℕ → ℕ
octet_at s at = get_or s at 0

-- a part of so many octets from a place on lies within the list
unfoldable pub within : List ℕ → ℕ → ℕ → Bool
within s start count = leb (start + count) (length s)

-- the six octets from a place on
abbrev pub six_from : List ℕ → ℕ → List ℕ
six_from s at = octet_at s at ∷ octet_at s (at + 1) ∷ octet_at s (at + 2) ∷ octet_at s (at + 3) ∷ octet_at s (at + 4) ∷ octet_at s (at + 5) ∷ []

-- an address: those octets, or zeros where they do not lie within the list
unfoldable pub six_at : List ℕ → ℕ → List ℕ
six_at s at = cond (within s at 6) (six_from s at) (0 ∷ 0 ∷ 0 ∷ 0 ∷ 0 ∷ 0 ∷ [])

-- a part of the list, or nothing where it does not lie within
unfoldable pub part_at : List ℕ → ℕ → ℕ → List ℕ
part_at s start count = cond (within s start count) (take count (drop start s)) []

-- a test passes at each number below n
unfoldable pub all_below : ℕ → (ℕ → Bool) → Bool
all_below zero passes = true
all_below (suc n) passes = all_below n passes && passes n

-- a part of the caller's slice: the slice's octets from a place on, and no copy of them, for it lies in the same storage at that place
pub record OwnPart (whole : Bor (List ℕ)) (start count : ℕ) (part : Bor (List ℕ)) : Type 0 where
  pub octets : part.now ≡ take count (drop start whole.now)
  pub place : part.ref_ptr ≡ (whole.ref_ptr.0, start + whole.ref_ptr.1)

-- such a part, or an empty one at the slice's start where it does not lie within the slice
abbrev pub OwnPartOrNone : Bor (List ℕ) → ℕ → ℕ → Bor (List ℕ) → Type 0
OwnPartOrNone whole start count part =
    OwnPart whole (cond (within whole.now start count) start 0) (cond (within whole.now start count) count 0) part
