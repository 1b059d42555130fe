-- The frames and requests that the table of cases speaks of: document 01's whole frame, others with more bands and addresses, and one whose fields all differ.
-- Document 01, 'The rate request on the wire'. Each SSLength is worked out by hand: 6 + 2 x NumBands + 6 x NumAddr.
use Rattle.std.specs.Prelude.{ℕ, zero, suc, ◌-◌, List, [], ◌∷◌, ◌++◌, length, take, replicate}
use Rattle.rate.specs.declared.Request.{Request}

-- document 01's frame: one band, PE 4, rank 1, no address
abbrev pub whole : List ℕ
whole =
    (0x02 ∷ 0x00 ∷ 0x00 ∷ 0x00 ∷ 0x00 ∷ 0x01 ∷ 0x02 ∷ 0x00 ∷ 0x00 ∷ 0x00 ∷ 0x00 ∷ 0x02 ∷ [])
    ++ (0x88 ∷ 0x6c ∷ 0x01 ∷ 0x08 ∷ 0x00 ∷ 0x00 ∷ 0x01 ∷ 0x00 ∷ 0x04 ∷ 0x01 ∷ 0x00 ∷ 0x00 ∷ [])
    ++ replicate 36 0

-- a request between the frame's two stations: OpCode, NumBands, then PE and rank of both bands
abbrev pub ask : ℕ → ℕ → ℕ → ℕ → ℕ → ℕ → Request
ask opcode bands pe1 rank1 pe2 rank2 =
    record {
      destination = 0x02 ∷ 0 ∷ 0 ∷ 0 ∷ 0 ∷ 0x01 ∷ [];
      source = 0x02 ∷ 0 ∷ 0 ∷ 0 ∷ 0 ∷ 0x02 ∷ [];
      opcode = opcode;
      bands = bands;
      pe1 = pe1;
      rank1 = rank1;
      pe2 = pe2;
      rank2 = rank2;
    }

-- the frame's request, and one with a band 2
abbrev pub one : Request
one = ask 0 1 4 1 0 0

abbrev pub two : Request
two = ask 0 2 4 1 9 2

-- so many broadcast addresses
abbrev pub broadcast : ℕ → List ℕ
broadcast zero = []
broadcast (suc n) = 0xff ∷ 0xff ∷ 0xff ∷ 0xff ∷ 0xff ∷ 0xff ∷ broadcast n

-- the header with one band, so many addresses, and this SSLength
abbrev pub addressed : ℕ → ℕ → List ℕ
addressed n ss_length = take 15 whole ++ (ss_length ∷ 0 ∷ 0 ∷ 1 ∷ n ∷ 4 ∷ 1 ∷ broadcast n ++ (0 ∷ 0 ∷ []))

-- with six addresses the header ends at octet 59, with seven at octet 65
abbrev pub six : List ℕ
six = addressed 6 44

abbrev pub seven : List ℕ
seven = addressed 7 50

-- a frame with these octets from SSLength on, and zeros behind them up to octet 59
abbrev pub padded : List ℕ → List ℕ
padded octets = take 15 whole ++ (octets ++ replicate (45 - length octets) 0)

-- two bands; three, of which the third is not read; and these three with an address
abbrev pub two_bands : List ℕ
two_bands = padded (10 ∷ 0 ∷ 0 ∷ 2 ∷ 0 ∷ 4 ∷ 1 ∷ 9 ∷ 2 ∷ [])

abbrev pub three_bands : List ℕ
three_bands = padded (12 ∷ 0 ∷ 0 ∷ 3 ∷ 0 ∷ 4 ∷ 1 ∷ 9 ∷ 2 ∷ 0xff ∷ 0xff ∷ [])

abbrev pub three_addressed : List ℕ
three_addressed = padded (18 ∷ 0 ∷ 0 ∷ 3 ∷ 1 ∷ 4 ∷ 1 ∷ 9 ∷ 2 ∷ 0xfe ∷ 0xfe ∷ broadcast 1)

-- no band, and an address in its place that would pass for one of PE 5 and rank 1
abbrev pub no_band : List ℕ
no_band = padded (12 ∷ 0 ∷ 0 ∷ 0 ∷ 1 ∷ 5 ∷ 1 ∷ [])

-- what a refusal gives in a request's place: zeros only
abbrev pub blank : Request
blank =
    record {
      destination = 0 ∷ 0 ∷ 0 ∷ 0 ∷ 0 ∷ 0 ∷ [];
      source = 0 ∷ 0 ∷ 0 ∷ 0 ∷ 0 ∷ 0 ∷ [];
      opcode = 0;
      bands = 0;
      pe1 = 0;
      rank1 = 0;
      pe2 = 0;
      rank2 = 0;
    }

-- a request whose fields all differ, its addresses, and its frame
abbrev pub varied : Request
varied =
    record {
      destination = 0x10 ∷ 0x11 ∷ 0x12 ∷ 0x13 ∷ 0x14 ∷ 0x15 ∷ [];
      source = 0x20 ∷ 0x21 ∷ 0x22 ∷ 0x23 ∷ 0x24 ∷ 0x25 ∷ [];
      opcode = 1;
      bands = 2;
      pe1 = 6;
      rank1 = 5;
      pe2 = 12;
      rank2 = 4;
    }

abbrev pub varied_addresses : List ℕ
varied_addresses =
    (0x31 ∷ 0x32 ∷ 0x33 ∷ 0x34 ∷ 0x35 ∷ 0x36 ∷ [])
    ++ (0x41 ∷ 0x42 ∷ 0x43 ∷ 0x44 ∷ 0x45 ∷ 0x46 ∷ [])
    ++ (0x51 ∷ 0x52 ∷ 0x53 ∷ 0x54 ∷ 0x55 ∷ 0x56 ∷ [])

abbrev pub varied_frame : List ℕ
varied_frame =
    (0x10 ∷ 0x11 ∷ 0x12 ∷ 0x13 ∷ 0x14 ∷ 0x15 ∷ 0x20 ∷ 0x21 ∷ 0x22 ∷ 0x23 ∷ 0x24 ∷ 0x25 ∷ [])
    ++ (0x88 ∷ 0x6c ∷ 1 ∷ 28 ∷ 0 ∷ 1 ∷ 2 ∷ 3 ∷ 6 ∷ 5 ∷ 12 ∷ 4 ∷ [])
    ++ varied_addresses
    ++ replicate 18 0
