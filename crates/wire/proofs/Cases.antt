-- The words of every frame at their edges, worked out by hand: octets and parts, octets laid over a slice, refusals in their order, and the short format's fields.
-- Document 01, 'The rate request on the wire' and 'Numbers the box may answer with'. Assumes nothing.
use mathlib.Core.Path.{◌≡◌, refl}
use mathlib.Core.Bool.{Bool, true, false}
use mathlib.Core.List.{List, [], ◌∷◌, ◌++◌}
use Prim.Native.Nat.{ℕ, ◌+◌}
use lib.Dec.{ltb}
use lib.ListN.{set, replicate}
use Rattle.std.specs.Bool.{then_some}
use Rattle.wire.specs.Octets.{octet_at, within, six_at, part_at, all_below}
use Rattle.wire.specs.Laying.{over, Lays}
use Rattle.wire.specs.Refusals.{Refusal, ◌else◌, first, answered}
use Rattle.std.specs.Prelude.{Some, None, Ok, Err}
use Rattle.wire.specs.Answers.{ruled, option_says, result_says}
use Rattle.wire.specs.ShortFormat.{ethertype_right, ss_type, ss_length, ss_version, header_length, next_ethertype_zero}

abbrev three : List ℕ
three = 7 ∷ 8 ∷ 9 ∷ []

abbrev eight : List ℕ
eight = 1 ∷ 2 ∷ 3 ∷ 4 ∷ 5 ∷ 6 ∷ 7 ∷ 8 ∷ []

-- past the end an octet is 0
pub octets_at : (octet_at three 0 ≡ 7) × (octet_at three 2 ≡ 9) × (octet_at three 3 ≡ 0) × (octet_at [] 0 ≡ 0)
octets_at = (refl, refl, refl, refl)

-- a part that ends with the list lies within it, one that ends an octet later does not
pub lies_within :
    (within three 0 3 ≡ true) × (within three 1 2 ≡ true) × (within three 1 3 ≡ false) × (within three 3 0 ≡ true) × (within three 4 0 ≡ false)
unfolding within
lies_within = (refl, refl, refl, refl, refl)

pub six_at_law :
    (six_at eight 0 ≡ 1 ∷ 2 ∷ 3 ∷ 4 ∷ 5 ∷ 6 ∷ [])
    × (six_at eight 2 ≡ 3 ∷ 4 ∷ 5 ∷ 6 ∷ 7 ∷ 8 ∷ [])
    × (six_at eight 3 ≡ replicate 6 0)
unfolding within six_at
six_at_law = (refl, refl, refl)

pub parts_at : (part_at eight 2 3 ≡ 3 ∷ 4 ∷ 5 ∷ []) × (part_at three 0 3 ≡ three) × (part_at three 1 3 ≡ []) × (part_at three 3 0 ≡ [])
unfolding within part_at
parts_at = (refl, refl, refl, refl)

-- each number below the bound is asked, the first and the last too, and the bound itself is not
pub all_asked :
    (all_below 0 (λ k. false) ≡ true) × (all_below 3 (λ k. ltb k 3) ≡ true) × (all_below 3 (λ k. ltb k 2) ≡ false) × (all_below 3 (λ k. ltb 0 k) ≡ false)
unfolding all_below
all_asked = (refl, refl, refl, refl)

-- octets laid at the start, at the end, and none of them
pub laid_over : (over three 0 (1 ∷ []) ≡ 1 ∷ 8 ∷ 9 ∷ []) × (over three 1 (1 ∷ 2 ∷ []) ≡ 7 ∷ 1 ∷ 2 ∷ []) × (over three 3 [] ≡ three)
unfolding over
laid_over = (refl, refl, refl)

-- two octets fit from place 1 on, and not from place 2 on
pub lays_two : Lays 1 (1 ∷ 2 ∷ []) three (7 ∷ 1 ∷ 2 ∷ []) 3
unfolding within over
lays_two = record { output = refl; place = refl }

pub lays_none : Lays 2 (1 ∷ 2 ∷ []) three three 2
unfolding within over
lays_none = record { output = refl; place = refl }

-- two tests that come out so, with the numbers 4 and 5
abbrev tests : Bool → Bool → List Refusal
tests p q = (p else 4) ∷ (q else 5) ∷ []

pub first_given :
    (first [] ≡ 0) × (first (tests true true) ≡ 0) × (first (tests true false) ≡ 5) × (first (tests false true) ≡ 4) × (first (tests false false) ≡ 4)
first_given = (refl, refl, refl, refl, refl)

pub answers_given :
    (answered (λ n. 10 + n) (tests true true) 1 ≡ 1)
    × (answered (λ n. 10 + n) (tests true false) 1 ≡ 15)
    × (answered (λ n. 10 + n) (tests false true) 1 ≡ 14)
    × (answered (λ n. 10 + n) (tests false false) 1 ≡ 14)
answers_given = (refl, refl, refl, refl)

-- what the answers say: number 0 and the values, or the number alone
pub fields_say :
    (option_says (λ v. v ∷ []) 4 (Some 9) ≡ record { number = 0; values = 9 ∷ [] })
    × (option_says (λ (v : ℕ). v ∷ []) 4 None ≡ record { number = 4; values = [] })
    × (result_says {E = ℕ} (λ v. v ∷ []) (λ n. n) (Ok 9) ≡ record { number = 0; values = 9 ∷ [] })
    × (result_says {A = ℕ} (λ v. v ∷ []) (λ n. n) (Err 4) ≡ record { number = 4; values = [] })
    × (ruled (true else 4) (9 ∷ []) ≡ record { number = 0; values = 9 ∷ [] })
    × (ruled (false else 4) (9 ∷ []) ≡ record { number = 4; values = [] })
fields_say = (refl, refl, refl, refl, refl, refl)

-- the answer that a test and a value lead to
pub answers_made : (then_some {T = ℕ} true 9 ≡ Some 9) × (then_some {T = ℕ} false 9 ≡ None)
answers_made = (refl, refl)

-- document 01's header, of which Next Ethertype is octets 22 and 23, and an octet behind it
abbrev header : List ℕ
header = replicate 12 2 ++ (0x88 ∷ 0x6c ∷ 1 ∷ 8 ∷ 0 ∷ 0 ∷ 1 ∷ 0 ∷ 4 ∷ 1 ∷ 0 ∷ 0 ∷ 5 ∷ [])

pub ethertypes : (ethertype_right header ≡ true) × (ethertype_right (set header 12 0x89) ≡ false) × (ethertype_right (set header 13 0x6d) ≡ false)
unfolding ethertype_right
ethertypes = (refl, refl, refl)

pub next_ethertypes : (next_ethertype_zero header ≡ true) × (next_ethertype_zero (set header 22 1) ≡ false) × (next_ethertype_zero (set header 23 1) ≡ false)
unfolding next_ethertype_zero
next_ethertypes = (refl, refl, refl)

-- the fields by their places, in a frame whose octets are their own places
abbrev places : List ℕ
places = 0 ∷ 1 ∷ 2 ∷ 3 ∷ 4 ∷ 5 ∷ 6 ∷ 7 ∷ 8 ∷ 9 ∷ 10 ∷ 11 ∷ 12 ∷ 13 ∷ 14 ∷ 15 ∷ 16 ∷ 17 ∷ []

pub fields_at : (ss_type places ≡ 14) × (ss_length places ≡ 15) × (ss_version places ≡ 16) × (header_length places ≡ 31)
fields_at = (refl, refl, refl, refl)
