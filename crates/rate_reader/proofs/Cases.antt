-- The numbers of the reader's refusals by name, in document 01's order, and what the answers say, worked out: number 0 and the values in their order, or the
-- number alone. The whole reading is tried on the table of roundtrip.
use mathlib.Core.Path.{◌≡◌, refl}
use mathlib.Core.List.{List, [], ◌∷◌, map}
use Prim.Native.Nat.{ℕ, ◌+◌, ◌*◌}
use Rattle.std.specs.Prelude.{Some, None, Ok, Err}
use Rattle.wire.specs.Answers.{option_says}
use Rattle.wire.specs.Refusals.{Refusal}
use Rattle.rate.specs.declared.Request.{Request}
use Rattle.rate.specs.declared.refused.Refused.TheVariants.{Length, Ethertype, SsType, SsLength, SsVersion, Opcode, Bands, Lengths, BandOne, BandTwo, Ranks, Group, NextEthertype}
use Rattle.rate.specs.Refused.{number_of}
use Rattle.rate_reader.specs.Reading.{field_value, rank_values, refusals, refused_by, given_of, read}

pub reader_numbers : (s : List ℕ) → map (λ (r : Refusal). r.number) (refusals s)
    ≡ map number_of (Length ∷ Ethertype ∷ SsType ∷ SsLength ∷ SsVersion ∷ Opcode ∷ Bands ∷ Lengths ∷ BandOne ∷ BandTwo ∷ Ranks ∷ Group ∷ NextEthertype ∷ [])
unfolding refusals
reader_numbers s = refl

pub fields_say : (option_says field_value 15 (Some 2) ≡ record { number = 0; values = 2 ∷ [] }) × (option_says field_value 15 None ≡ record { number = 15; values = [] })
fields_say = (refl, refl)

pub ranks_say : (option_says rank_values 20 (Some (1, 2)) ≡ record { number = 0; values = 1 ∷ 2 ∷ [] }) × (option_says rank_values 20 None ≡ record { number = 20; values = [] })
ranks_say = (refl, refl)

-- what the answer stands for
pub readings_say : (q : Request) → (read (Ok (record { request = q; addresses = 3; start = 20 + 2 * q.bands; extent = 18 })) ≡ given_of q 3) × (read (Err Group) ≡ refused_by 21)
readings_say q = (refl, refl)
