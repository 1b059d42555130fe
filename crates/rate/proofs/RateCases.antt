-- Document 01, 'Rate of a PE', number by number: the rate of each PE, the chosen band, and the rate of a band.
use mathlib.Core.Path.{◌≡◌, refl}
use mathlib.Core.List.{[], ◌∷◌, map}
use Rattle.std.specs.Prelude.{Some, None, option_map}
use Prim.Native.Nat.{ℕ}
use lib.ListN.{replicate}
use Rattle.rate.specs.declared.Request.{Request}
use Rattle.rate.specs.declared.rates.Band.TheVariants.{One, Two}
use Rattle.rate.specs.Rates.{rate_of, band_of, chosen_of, rate_of_band}

-- the rates of PE 1 to 7, and of 9 to 15
pub rates_of_band_one : map rate_of (1 ∷ 2 ∷ 3 ∷ 4 ∷ 5 ∷ 6 ∷ 7 ∷ []) ≡ map Some (4 ∷ 6 ∷ 8 ∷ 10 ∷ 12 ∷ 14 ∷ 16 ∷ [])
unfolding rate_of
rates_of_band_one = refl

pub rates_of_band_two : map rate_of (9 ∷ 10 ∷ 11 ∷ 12 ∷ 13 ∷ 14 ∷ 15 ∷ []) ≡ map Some (8 ∷ 12 ∷ 16 ∷ 20 ∷ 24 ∷ 28 ∷ 32 ∷ [])
unfolding rate_of
rates_of_band_two = refl

pub no_rate : map rate_of (0 ∷ 8 ∷ 16 ∷ 255 ∷ []) ≡ replicate 4 None
unfolding rate_of
no_rate = refl

-- a request of two bands, by PE and rank of each
abbrev with : ℕ → ℕ → ℕ → ℕ → Request
with pe1 rank1 pe2 rank2 =
    record { destination = replicate 6 0; source = replicate 6 0; opcode = 0; bands = 2; pe1 = pe1; rank1 = rank1; pe2 = pe2; rank2 = rank2 }

-- the lower rank of two, be it band 1's or band 2's; a PE of 0 is not chosen though its rank is lower. Of equal ranks, which no accepted request has, band 1
pub chosen_bands :
    (chosen_of (with 4 1 9 2) ≡ Some 1)
    × (chosen_of (with 4 2 9 1) ≡ Some 2)
    × (chosen_of (with 4 2 0 1) ≡ Some 1)
    × (chosen_of (with 0 1 9 2) ≡ Some 2)
    × (chosen_of (with 0 1 0 2) ≡ None)
    × (chosen_of (with 4 1 9 1) ≡ Some 1)
unfolding chosen_of
chosen_bands = (refl, refl, refl, refl, refl, refl)

pub rates_of_bands :
    (rate_of_band (with 4 1 9 2) (Some 1) ≡ Some 10)
    × (rate_of_band (with 4 1 9 2) (Some 2) ≡ Some 8)
    × (rate_of_band (with 4 1 0 2) (Some 2) ≡ None)
    × (rate_of_band (with 4 1 9 2) None ≡ None)
unfolding rate_of
rates_of_bands = (refl, refl, refl, refl)

-- what the answers stand for
pub answers_mean : (option_map band_of (Some One) ≡ Some 1) × (option_map band_of (Some Two) ≡ Some 2) × (option_map band_of None ≡ None)
answers_mean = (refl, refl, refl)
