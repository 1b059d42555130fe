-- The rules of a request at their edges, worked out by hand: each part of the condition of 15, 16, 18 to 21 and 23, with its accepted neighbour.
-- Document 01, 'Rate requests, in this order'. The whole outcome of reading and writing is tried on the table of cases of roundtrip.
use mathlib.Core.Path.{◌≡◌, refl}
use mathlib.Core.Bool.{true, false}
use mathlib.Core.List.{List, []}
use Prim.Native.Nat.{ℕ}
use lib.ListN.{replicate, set}
use Rattle.wire.specs.Octets.{all_below}
use Rattle.rate.specs.declared.Request.{Request}
use Rattle.rate.specs.Request.{opcode_right, some_band, band_one_right, band_two_right, ranks_right, group_addresses}
use Rattle.rate.specs.Writing.{ss_length_for, absent_band_empty, layout_holds}

pub number_15 : (opcode_right 0 ≡ true) × (opcode_right 2 ≡ true) × (opcode_right 3 ≡ false) × (opcode_right 255 ≡ false)
unfolding opcode_right
number_15 = (refl, refl, refl, refl)

pub number_16 : (some_band 0 ≡ false) × (some_band 1 ≡ true) × (some_band 255 ≡ true)
unfolding some_band
number_16 = (refl, refl, refl)

pub number_18 : (band_one_right 0 ≡ false) × (band_one_right 1 ≡ true) × (band_one_right 7 ≡ true) × (band_one_right 8 ≡ false)
unfolding band_one_right
number_18 = (refl, refl, refl, refl)

-- of an absent band 2, of a present one, and of one that a third follows
pub number_19 :
    (band_two_right 1 8 ≡ true)
    × (band_two_right 2 0 ≡ true)
    × (band_two_right 2 1 ≡ false)
    × (band_two_right 2 8 ≡ false)
    × (band_two_right 2 9 ≡ true)
    × (band_two_right 2 15 ≡ true)
    × (band_two_right 2 16 ≡ false)
    × (band_two_right 3 8 ≡ false)
unfolding band_two_right
number_19 = (refl, refl, refl, refl, refl, refl, refl, refl)

-- rank 0 in band 1, rank 0 in band 2, and equal ranks: of an absent band 2, of a present one, and of one that a third follows
pub number_20 :
    (ranks_right 1 0 0 ≡ false)
    × (ranks_right 1 1 0 ≡ true)
    × (ranks_right 1 1 1 ≡ true)
    × (ranks_right 2 0 2 ≡ false)
    × (ranks_right 2 1 0 ≡ false)
    × (ranks_right 2 1 1 ≡ false)
    × (ranks_right 2 1 2 ≡ true)
    × (ranks_right 2 2 1 ≡ true)
    × (ranks_right 2 1 255 ≡ true)
    × (ranks_right 3 1 0 ≡ false)
    × (ranks_right 3 1 1 ≡ false)
unfolding ranks_right
number_20 = (refl, refl, refl, refl, refl, refl, refl, refl, refl, refl, refl)

-- so many octets, of which each address begins with an odd one
abbrev octets : ℕ → List ℕ
octets n = replicate n 0x01

-- no address, one, two with either of them wrong, and octets that begin no address
pub number_21 :
    (group_addresses [] ≡ true)
    × (group_addresses (octets 6) ≡ true)
    × (group_addresses (set (octets 6) 0 0xfe) ≡ false)
    × (group_addresses (set (octets 12) 0 0xfe) ≡ false)
    × (group_addresses (set (octets 12) 6 0xfe) ≡ false)
    × (group_addresses (set (octets 12) 1 0xfe) ≡ true)
    × (group_addresses (set (octets 12) 5 0xfe) ≡ true)
    × (group_addresses (set (octets 8) 6 0xfe) ≡ true)
unfolding group_addresses all_below
number_21 = (refl, refl, refl, refl, refl, refl, refl, refl)

-- a request with so many bands, and PE and rank of band 2
abbrev with : ℕ → ℕ → ℕ → Request
with bands pe2 rank2 =
    record { destination = replicate 6 0; source = replicate 6 0; opcode = 0; bands = bands; pe1 = 4; rank1 = 1; pe2 = pe2; rank2 = rank2 }

-- whole addresses; at most two bands; an absent band 2 without PE and rank; SSLength 254 and 260 of one band, 250 and 256 of two
pub number_23 :
    (layout_holds (with 1 0 0) [] ≡ true)
    × (layout_holds (with 1 0 0) (octets 1) ≡ false)
    × (layout_holds (with 1 0 0) (octets 5) ≡ false)
    × (layout_holds (with 1 0 0) (octets 6) ≡ true)
    × (layout_holds (with 1 0 0) (octets 7) ≡ false)
    × (layout_holds (with 2 9 2) [] ≡ true)
    × (layout_holds (with 3 9 2) [] ≡ false)
    × (layout_holds (with 1 9 0) [] ≡ false)
    × (layout_holds (with 1 0 2) [] ≡ false)
    × (layout_holds (with 1 0 0) (octets 246) ≡ true)
    × (layout_holds (with 1 0 0) (octets 252) ≡ false)
    × (layout_holds (with 2 9 2) (octets 240) ≡ true)
    × (layout_holds (with 2 9 2) (octets 246) ≡ false)
unfolding ss_length_for absent_band_empty layout_holds
number_23 = (refl, refl, refl, refl, refl, refl, refl, refl, refl, refl, refl, refl, refl)
