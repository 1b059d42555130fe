-- What writing a rate request gives: the frame, the refusals, and the whole output. Document 01, 'Rate requests, in this order'
-- (15, 16, 23, 18, 19, 20, 21, 24) and 'The rate request on the wire'.
use Rattle.std.specs.Prelude.{ℕ, ◌+◌, ◌*◌, ◌-◌, ◌/◌, ◌%◌, ◌≤◌, ◌≡◌, Bool, ◌&&◌, ◌||◌, List, [], ◌∷◌, ◌++◌, leb, eqb, length, take, drop, replicate, Result, Ok, Err}
use Rattle.wire.specs.Refusals.{Refusal, ◌else◌, answered}
use Rattle.rate.specs.Request.{opcode_right, some_band, band_one_right, band_two_right, ranks_right, group_addresses}
use Rattle.rate.specs.declared.Request.{Request}
use Rattle.rate.specs.declared.refused.Refused.{Refused}
use Rattle.rate.specs.Refused.{number_of}

-- SSLength: the octets behind its own, up to and with Next Ethertype
unfoldable pub ss_length_for : Request → List ℕ → ℕ
ss_length_for q a = 6 + 2 * q.bands + length a

-- Ethertype, SSType, SSLength, SSVersion, OpCode, NumBands, NumAddr
unfoldable pub fixed_part : Request → List ℕ → List ℕ
fixed_part q a = 0x88 ∷ 0x6c ∷ 1 ∷ ss_length_for q a ∷ 0 ∷ q.opcode ∷ q.bands ∷ length a / 6 ∷ []

-- PE and rank for each band
unfoldable pub band_part : Request → List ℕ
band_part q = take (2 * q.bands) (q.pe1 ∷ q.rank1 ∷ q.pe2 ∷ q.rank2 ∷ [])

-- the header, to the end of Next Ethertype
unfoldable pub header_for : Request → List ℕ → List ℕ
header_for q a = q.destination ++ (q.source ++ (fixed_part q a ++ (band_part q ++ (a ++ (0 ∷ 0 ∷ [])))))

-- the frame: zeros up to octet 59 where the header ends sooner
unfoldable pub frame_for : Request → List ℕ → List ℕ
frame_for q a = header_for q a ++ replicate (60 - length (header_for q a)) 0

-- one band goes with a band 2 of PE 0 and rank 0
unfoldable pub absent_band_empty : Request → Bool
absent_band_empty q = leb 2 q.bands || (eqb q.pe2 0 && eqb q.rank2 0)

-- 23: whole addresses, at most two bands, an absent band 2 that is empty, and an SSLength that its octet holds
unfoldable pub layout_holds : Request → List ℕ → Bool
layout_holds q a =
    eqb (length a % 6) 0 && (leb q.bands 2 && (absent_band_empty q && leb (ss_length_for q a) 255))

-- 24: the output is as long as the frame
unfoldable pub output_holds : Request → List ℕ → ℕ → Bool
output_holds q a room = leb (length (frame_for q a)) room

-- the writer's refusals in their order
unfoldable pub writer_refusals : Request → List ℕ → ℕ → List Refusal
writer_refusals q a room =
    (opcode_right q.opcode else 15)
    ∷ (some_band q.bands else 16)
    ∷ (layout_holds q a else 23)
    ∷ (band_one_right q.pe1 else 18)
    ∷ (band_two_right q.bands q.pe2 else 19)
    ∷ (ranks_right q.bands q.rank1 q.rank2 else 20)
    ∷ (group_addresses a else 21)
    ∷ (output_holds q a room else 24)
    ∷ []

-- what the tests leave to be laid: one band or two, an SSLength that its octet holds, and room for the frame
pub record Layable (q : Request) (a out : List ℕ) : Type 0 where
  pub some : 1 ≤ q.bands
  pub two : q.bands ≤ 2
  pub short : 6 + 2 * q.bands + length a ≤ 255
  pub room : length (frame_for q a) ≤ length out

-- the frame laid over the start of an output, the octets beyond it as they were, and how many octets it has
pub record Frames (q : Request) (a before after : List ℕ) (n : ℕ) : Type 0 where
  pub count : n ≡ length (frame_for q a)
  pub output : after ≡ frame_for q a ++ drop (length (frame_for q a)) before

-- the writer's answer: a number, and how many octets were written
pub record Written : Type 0 where
  pub number : ℕ
  pub count : ℕ

-- the cases of a result: 0 and how many octets were written, or the refusal's number and 0
abbrev pub written : Result ℕ Refused → Written
written (Ok n) = record { number = 0; count = n }
written (Err e) = record { number = number_of e; count = 0 }

-- a number beside a count, as a host is told of both
abbrev pub written_as : ℕ → ℕ → Written
written_as n count = record { number = n; count = count }

-- what the writer answers: 0 and how many octets it wrote, or a refusal's number and 0
unfoldable pub write_of : Request → List ℕ → ℕ → Written
write_of q a room = answered (λ n. record { number = n; count = 0 }) (writer_refusals q a room) (record { number = 0; count = length (frame_for q a) })

-- what the output then holds: the frame, with the octets beyond it as they were; refused, all is as it was
unfoldable pub output_of : Request → List ℕ → List ℕ → List ℕ
output_of q a before = answered (λ n. before) (writer_refusals q a (length before)) (frame_for q a ++ drop (length (frame_for q a)) before)

pub record Wrote (q : Request) (a before after : List ℕ) (r : Written) : Type 0 where
  pub answer : r ≡ write_of q a (length before)
  pub output : after ≡ output_of q a before
