-- What reading a rate request gives, on any octets. Document 01, 'Rate requests, in this order' and 'The rate request on the wire'.
use Rattle.std.specs.Prelude.{ℕ, ◌+◌, ◌*◌, Bool, cond, ◌&&◌, List, [], ◌∷◌, leb, eqb, length, replicate, Result, Ok, Err}
use Rattle.wire.specs.Octets.{octet_at, six_at, part_at}
use Rattle.wire.specs.Refusals.{Refusal, ◌else◌, answered}
use Rattle.wire.specs.ShortFormat.{ethertype_right, ss_type, ss_length, ss_version, header_length, next_ethertype_zero}
use Rattle.rate.specs.Request.{opcode_right, some_band, band_one_right, band_two_right, ranks_right, group_addresses}
use Rattle.rate.specs.declared.Request.{Request}
use Rattle.rate.specs.declared.refused.Refused.{Refused}
use Rattle.rate.specs.Refused.{number_of}
use Rattle.rate_reader.specs.declared.Reading.{Reading}

-- the fields of a frame by their places
abbrev pub opcode_of : List ℕ → ℕ
opcode_of s = octet_at s 17

abbrev pub bands_of : List ℕ → ℕ
bands_of s = octet_at s 18

abbrev pub count_of : List ℕ → ℕ
count_of s = octet_at s 19

-- an octet of band 2, or 0 where the frame has one band alone
unfoldable pub of_band_two : List ℕ → ℕ → ℕ
of_band_two s at = cond (leb 2 (bands_of s)) (octet_at s at) 0

abbrev pub pe1_of : List ℕ → ℕ
pe1_of s = octet_at s 20

abbrev pub rank1_of : List ℕ → ℕ
rank1_of s = octet_at s 21

abbrev pub pe2_of : List ℕ → ℕ
pe2_of s = of_band_two s 22

abbrev pub rank2_of : List ℕ → ℕ
rank2_of s = of_band_two s 23

-- where the addresses start, behind so many bands: those past the second are skipped unread
abbrev pub start_for : ℕ → ℕ
start_for bands = 20 + 2 * bands

-- how many octets hold so many addresses
abbrev pub extent_for : ℕ → ℕ
extent_for addresses = 6 * addresses

unfoldable pub start_of : List ℕ → ℕ
start_of s = start_for (bands_of s)

unfoldable pub extent_of : List ℕ → ℕ
extent_of s = extent_for (count_of s)

-- the octets that hold the addresses
unfoldable pub addresses_of : List ℕ → List ℕ
addresses_of s = part_at s (start_of s) (extent_of s)

-- a request between a frame's two stations
abbrev pub request_with : List ℕ → ℕ → ℕ → ℕ → ℕ → ℕ → ℕ → Request
request_with s opcode bands pe1 rank1 pe2 rank2 =
    record {
      destination = six_at s 0;
      source = six_at s 6;
      opcode = opcode;
      bands = bands;
      pe1 = pe1;
      rank1 = rank1;
      pe2 = pe2;
      rank2 = rank2;
    }

unfoldable pub request_of : List ℕ → Request
request_of s = request_with s (opcode_of s) (bands_of s) (pe1_of s) (rank1_of s) (pe2_of s) (rank2_of s)

-- 10: 60 to 1,514 octets
unfoldable pub length_fits : List ℕ → Bool
length_fits s = leb 60 (length s) && leb (length s) 1514

-- 12: a rate request
unfoldable pub ss_type_right : List ℕ → Bool
ss_type_right s = eqb (ss_type s) 1

-- 13: room for one band, and the header within the frame
unfoldable pub ss_length_fits : List ℕ → Bool
ss_length_fits s = leb 8 (ss_length s) && leb (header_length s) (length s)

-- 14: version 0
unfoldable pub ss_version_right : List ℕ → Bool
ss_version_right s = eqb (ss_version s) 0

-- 17: SSLength counts the fixed octets, the bands, the addresses and Next Ethertype
unfoldable pub lengths_agree : List ℕ → Bool
lengths_agree s = eqb (ss_length s) (6 + 2 * bands_of s + 6 * count_of s)

-- the values of the answer on a field, and on both ranks
abbrev pub field_value : ℕ → List ℕ
field_value v = v ∷ []

abbrev pub rank_values : ℕ × ℕ → List ℕ
rank_values ranks = ranks.0 ∷ ranks.1 ∷ []

-- the reader's refusals in their order
unfoldable pub refusals : List ℕ → List Refusal
refusals s =
    (length_fits s else 10)
    ∷ (ethertype_right s else 11)
    ∷ (ss_type_right s else 12)
    ∷ (ss_length_fits s else 13)
    ∷ (ss_version_right s else 14)
    ∷ (opcode_right (opcode_of s) else 15)
    ∷ (some_band (bands_of s) else 16)
    ∷ (lengths_agree s else 17)
    ∷ (band_one_right (pe1_of s) else 18)
    ∷ (band_two_right (bands_of s) (pe2_of s) else 19)
    ∷ (ranks_right (bands_of s) (rank1_of s) (rank2_of s) else 20)
    ∷ (group_addresses (addresses_of s) else 21)
    ∷ (next_ethertype_zero s else 22)
    ∷ []

-- the reader's answer: a number, the request, the number of addresses, and where the frame holds them
pub record Read : Type 0 where
  pub number : ℕ
  pub request : Request
  pub addresses : ℕ
  pub start : ℕ
  pub extent : ℕ

-- a refusal: the number, and beside it zeros only, without any octets
abbrev pub refused_by : ℕ → Read
refused_by n =
    record {
      number = n;
      request = record { destination = replicate 6 0; source = replicate 6 0; opcode = 0; bands = 0; pe1 = 0; rank1 = 0; pe2 = 0; rank2 = 0 };
      addresses = 0;
      start = 0;
      extent = 0;
    }

-- what is given of a request with so many addresses
abbrev pub given_of : Request → ℕ → Read
given_of q addresses = record { number = 0; request = q; addresses = addresses; start = start_for q.bands; extent = extent_for addresses }

unfoldable pub accepted : List ℕ → Read
accepted s = given_of (request_of s) (count_of s)

unfoldable pub read_of : List ℕ → Read
read_of s = answered refused_by (refusals s) (accepted s)

-- the cases of a result: 0 and what was read, or the refusal's number
abbrev pub read : Result Reading Refused → Read
read (Ok r) = record { number = 0; request = r.request; addresses = r.addresses; start = r.start; extent = r.extent }
read (Err e) = refused_by (number_of e)

-- a number beside a reading, as a host is told of both
abbrev pub read_as : ℕ → Reading → Read
read_as n r = record { number = n; request = r.request; addresses = r.addresses; start = r.start; extent = r.extent }
