-- Document 01's whole frame and the edges of its rules, as one table of frames read and requests written, each with its whole outcome: each part of each number's
-- condition with its accepted neighbour, and of two numbers that apply the first in the paper's order. `all_hold` (proofs/Runs) is its one statement.
use Rattle.std.specs.Prelude.{ℕ, ◌≡◌, List, [], ◌∷◌, ◌++◌, length, take, set, replicate}
use Rattle.rate.specs.declared.Request.{Request}
use Rattle.rate_reader.specs.Reading.{Read, refused_by, read_of}
use Rattle.rate.specs.Writing.{Written, write_of, output_of}
use Rattle.roundtrip.specs.Trip.{asked}
use Rattle.roundtrip.specs.Samples.{whole, ask, one, two, broadcast, addressed, six, seven, padded}
use Rattle.roundtrip.specs.Samples.{two_bands, three_bands, three_addressed, no_band, blank, varied, varied_addresses, varied_frame}

-- a frame and its reading; or a request with its addresses and an output, and the answer with what the output then holds
pub data Case : Type 0 where
  reads : List ℕ → Read → Case
  writes : Request → List ℕ → List ℕ → Written → List ℕ → Case

-- what a case comes to: a reading; or the writer's answer, and what the output then holds
pub data Outcome : Type 0 where
  read : Read → Outcome
  written : Written → List ℕ → Outcome

abbrev pub found : Case → Outcome
found (reads s r) = read (read_of s)
found (writes q a before r after) = written (write_of q a (length before)) (output_of q a before)

abbrev pub expected : Case → Outcome
expected (reads s r) = read r
expected (writes q a before r after) = written r after

abbrev pub Holds : Case → Type 0
Holds c = found c ≡ expected c

-- every row of a part of the table holds, and of every part
abbrev pub Every : List Case → Type 0
Every [] = Unit {0}
Every (c ∷ l) = Holds c × Every l

abbrev pub All : List (List Case) → Type 0
All [] = Unit {0}
All (part ∷ l) = Every part × All l

-- a request that is refused: an output of 300 octets stays as it was
abbrev pub refuses : Request → List ℕ → ℕ → Case
refuses q a n = writes q a (replicate 300 0xff) (record { number = n; count = 0 }) (replicate 300 0xff)

-- a request that fits with room to spare: its header is longer than 60 octets, and the octets behind it stay
abbrev pub fits : Request → List ℕ → List ℕ → ℕ → Case
fits q a header spare = writes q a (replicate 300 0xff) (record { number = 0; count = length header }) (header ++ replicate spare 0xff)

-- a request whose frame of 60 octets fills the output
abbrev pub fills : Request → List ℕ → List ℕ → Case
fills q a frame = writes q a (replicate 60 0xff) (record { number = 0; count = 60 }) frame

-- an output of so many octets that is too short: it stays as it was
abbrev pub too_short : Request → List ℕ → ℕ → Case
too_short q a room = writes q a (replicate room 0xff) (record { number = 24; count = 0 }) (replicate room 0xff)

-- the whole frame both ways, a frame whose fields all differ, and a refusal spelled out
abbrev pub frames : List Case
frames =
    reads whole (asked one [])
    ∷ writes one [] (replicate 60 0xff) (record { number = 0; count = 60 }) whole
    ∷ writes one [] (replicate 62 0xff) (record { number = 0; count = 60 }) (whole ++ (0xff ∷ 0xff ∷ []))
    ∷ reads varied_frame (record { number = 0; request = varied; addresses = 3; start = 24; extent = 18 })
    ∷ fills varied varied_addresses varied_frame
    ∷ reads (take 59 varied_frame) (record { number = 10; request = blank; addresses = 0; start = 0; extent = 0 })
    ∷ []

-- numbers 10 to 14, of the reader: the frame's length and its short format
abbrev pub formats : List Case
formats =
    -- 10: no octet at all, 59, 60 (above), 1,514 and 1,515
    reads [] (refused_by 10)
    ∷ reads (take 59 whole) (refused_by 10)
    ∷ reads (whole ++ replicate 1454 0xff) (asked one [])
    ∷ reads (whole ++ replicate 1455 0xff) (refused_by 10)
    -- 11: either octet
    ∷ reads (set whole 12 0x87) (refused_by 11)
    ∷ reads (set whole 12 0x89) (refused_by 11)
    ∷ reads (set whole 13 0x6b) (refused_by 11)
    ∷ reads (set whole 13 0x6d) (refused_by 11)
    -- 12
    ∷ reads (set whole 14 0) (refused_by 12)
    ∷ reads (set whole 14 2) (refused_by 12)
    -- 13: SSLength below 8; 16 + SSLength at the frame's end and one past it, in a frame of 60 octets and in a longer one
    ∷ reads (set whole 15 7) (refused_by 13)
    ∷ reads six (asked one (broadcast 6))
    ∷ reads (set six 15 45) (refused_by 13)
    ∷ reads seven (asked one (broadcast 7))
    ∷ reads (take 65 seven) (refused_by 13)
    -- 14
    ∷ reads (set whole 16 1) (refused_by 14)
    ∷ []

-- numbers 15 to 17: OpCode, NumBands and NumAddr
abbrev pub counts : List Case
counts =
    -- 15
    reads (set whole 17 1) (asked (ask 1 1 4 1 0 0) [])
    ∷ reads (set whole 17 2) (asked (ask 2 1 4 1 0 0) [])
    ∷ reads (set whole 17 3) (refused_by 15)
    ∷ fills (ask 1 1 4 1 0 0) [] (set whole 17 1)
    ∷ fills (ask 2 1 4 1 0 0) [] (set whole 17 2)
    ∷ refuses (ask 3 1 4 1 0 0) [] 15
    -- 16: of the reader alone, and where 17 applies too
    ∷ reads no_band (refused_by 16)
    ∷ reads (set whole 18 0) (refused_by 16)
    ∷ refuses (ask 2 0 4 1 0 0) [] 16
    -- 17: SSLength above and below what the counts say; a band too many and too few, an address too many and too few
    ∷ reads (set whole 15 9) (refused_by 17)
    ∷ reads (set two_bands 15 9) (refused_by 17)
    ∷ reads (set whole 18 2) (refused_by 17)
    ∷ reads (set two_bands 18 1) (refused_by 17)
    ∷ reads (set whole 19 1) (refused_by 17)
    ∷ reads (set seven 19 6) (refused_by 17)
    ∷ []

-- number 18: the PE of band 1
abbrev pub first_band : List Case
first_band =
    reads (set whole 20 0) (refused_by 18)
    ∷ reads (set whole 20 1) (asked (ask 0 1 1 1 0 0) [])
    ∷ reads (set whole 20 7) (asked (ask 0 1 7 1 0 0) [])
    ∷ reads (set whole 20 8) (refused_by 18)
    ∷ refuses (ask 0 1 0 1 0 0) [] 18
    ∷ fills (ask 0 1 1 1 0 0) [] (set whole 20 1)
    ∷ fills (ask 0 1 7 1 0 0) [] (set whole 20 7)
    ∷ refuses (ask 0 1 8 1 0 0) [] 18
    ∷ []

-- number 19: the PE of band 2, which is 9 in `two`
abbrev pub second_band : List Case
second_band =
    reads two_bands (asked two [])
    ∷ reads (set two_bands 22 0) (asked (ask 0 2 4 1 0 2) [])
    ∷ reads (set two_bands 22 1) (refused_by 19)
    ∷ reads (set two_bands 22 8) (refused_by 19)
    ∷ reads (set two_bands 22 15) (asked (ask 0 2 4 1 15 2) [])
    ∷ reads (set two_bands 22 16) (refused_by 19)
    ∷ fills two [] two_bands
    ∷ fills (ask 0 2 4 1 0 2) [] (set two_bands 22 0)
    ∷ refuses (ask 0 2 4 1 1 2) [] 19
    ∷ refuses (ask 0 2 4 1 8 2) [] 19
    ∷ fills (ask 0 2 4 1 15 2) [] (set two_bands 22 15)
    ∷ refuses (ask 0 2 4 1 16 2) [] 19
    ∷ []

-- number 20: rank 0 in band 1, alone and beside band 2; rank 0 in band 2; equal ranks. A band 2 of PE 0 has a rank too
abbrev pub ranks : List Case
ranks =
    reads (set whole 21 0) (refused_by 20)
    ∷ reads (set whole 21 0xff) (asked (ask 0 1 4 0xff 0 0) [])
    ∷ reads (set two_bands 21 0) (refused_by 20)
    ∷ reads (set two_bands 23 0) (refused_by 20)
    ∷ reads (set two_bands 23 1) (refused_by 20)
    ∷ reads (set (set two_bands 21 2) 23 1) (asked (ask 0 2 4 2 9 1) [])
    ∷ reads (set (set two_bands 22 0) 23 0) (refused_by 20)
    ∷ reads (set (set two_bands 22 0) 23 1) (refused_by 20)
    ∷ refuses (ask 0 1 4 0 0 0) [] 20
    ∷ refuses (ask 0 2 4 0 9 2) [] 20
    ∷ refuses (ask 0 2 4 1 9 0) [] 20
    ∷ refuses (ask 0 2 4 1 9 1) [] 20
    ∷ fills (ask 0 2 4 2 9 1) [] (set (set two_bands 21 2) 23 1)
    ∷ refuses (ask 0 2 4 1 0 0) [] 20
    ∷ refuses (ask 0 2 4 1 0 1) [] 20
    ∷ []

-- number 21: the first address, the second, one in the middle and the last; behind two bands the first and the last. No other bit and no other octet counts
abbrev pub groups : List Case
groups =
    reads (set seven 22 0xfe) (refused_by 21)
    ∷ reads (set seven 28 0xfe) (refused_by 21)
    ∷ reads (set seven 40 0xfe) (refused_by 21)
    ∷ reads (set seven 58 0xfe) (refused_by 21)
    ∷ reads (set varied_frame 24 0x30) (refused_by 21)
    ∷ reads (set varied_frame 36 0x50) (refused_by 21)
    ∷ reads (set seven 22 0x01) (asked one (broadcast 7))
    ∷ reads (set seven 23 0xfe) (asked one (broadcast 7))
    ∷ reads (set seven 27 0xfe) (asked one (broadcast 7))
    ∷ refuses one (0xfe ∷ 0xff ∷ 0xff ∷ 0xff ∷ 0xff ∷ 0xff ∷ []) 21
    ∷ refuses one (set (broadcast 7) 0 0xfe) 21
    ∷ refuses one (set (broadcast 7) 18 0xfe) 21
    ∷ refuses one (set (broadcast 7) 36 0xfe) 21
    ∷ fits one (set (set (broadcast 7) 0 0x01) 1 0xfe) (set (set seven 22 0x01) 23 0xfe) 234
    ∷ []

-- of three bands the third is skipped unread, be its rank 0 or band 1's; band 2 is tested as of two, and the addresses stand behind the third
abbrev pub later_bands : List Case
later_bands =
    reads three_bands (asked (ask 0 3 4 1 9 2) [])
    ∷ reads (set three_bands 25 0) (asked (ask 0 3 4 1 9 2) [])
    ∷ reads (set three_bands 25 1) (asked (ask 0 3 4 1 9 2) [])
    ∷ reads (set three_bands 22 8) (refused_by 19)
    ∷ reads (set three_bands 23 0) (refused_by 20)
    ∷ reads (set three_bands 23 1) (refused_by 20)
    ∷ reads three_addressed (asked (ask 0 3 4 1 9 2) (broadcast 1))
    ∷ reads (set three_addressed 26 0xfe) (refused_by 21)
    ∷ []

-- number 22, of the reader: either octet, behind one band, two bands and addresses. The octet after them is padding
abbrev pub nexts : List Case
nexts =
    reads (set whole 22 1) (refused_by 22)
    ∷ reads (set whole 23 1) (refused_by 22)
    ∷ reads (set whole 24 1) (asked one [])
    ∷ reads (set two_bands 24 1) (refused_by 22)
    ∷ reads (set two_bands 25 1) (refused_by 22)
    ∷ reads (set two_bands 26 1) (asked two [])
    ∷ reads (set seven 64 1) (refused_by 22)
    ∷ reads (set seven 65 1) (refused_by 22)
    ∷ []

-- number 23, of the writer: each of the four ways in which its layout cannot hold a request
abbrev pub layouts : List Case
layouts =
    -- an octet less than an address, one more, and one alone
    refuses one (0xff ∷ 0xff ∷ 0xff ∷ 0xff ∷ 0xff ∷ []) 23
    ∷ fills one (broadcast 1) (padded (14 ∷ 0 ∷ 0 ∷ 1 ∷ 1 ∷ 4 ∷ 1 ∷ broadcast 1))
    ∷ refuses one (0xff ∷ broadcast 1) 23
    ∷ refuses one (0xff ∷ []) 23
    -- three bands
    ∷ refuses (ask 0 3 4 1 9 2) [] 23
    -- one band, and a PE or a rank of band 2
    ∷ refuses (ask 0 1 4 1 9 0) [] 23
    ∷ refuses (ask 0 1 4 1 0 2) [] 23
    -- with one band 41 addresses fit, with two bands 40
    ∷ fits one (broadcast 41) (addressed 41 254) 30
    ∷ refuses one (broadcast 42) 23
    ∷ fits two (broadcast 40) (take 15 whole ++ (250 ∷ 0 ∷ 0 ∷ 2 ∷ 40 ∷ 4 ∷ 1 ∷ 9 ∷ 2 ∷ broadcast 40 ++ (0 ∷ 0 ∷ []))) 34
    ∷ refuses two (broadcast 41) 23
    ∷ []

-- number 24, of the writer: no output at all; an octet less than 60, and than a header of 60 octets and of 66
abbrev pub outputs : List Case
outputs =
    too_short one [] 0
    ∷ writes one [] (replicate 59 0xff) (record { number = 24; count = 0 }) (replicate 59 0xff)
    ∷ fills one (broadcast 6) six
    ∷ too_short one (broadcast 6) 59
    ∷ writes one (broadcast 7) (replicate 66 0xff) (record { number = 0; count = 66 }) seven
    ∷ too_short one (broadcast 7) 65
    ∷ []

-- where two numbers of the reader apply, the first in the paper's order: each two neighbours (16 with 17 stands above), and two pairs farther apart
abbrev pub reader_order : List Case
reader_order =
    reads (take 59 (set whole 13 0x6d)) (refused_by 10)
    ∷ reads (set (set whole 13 0x6d) 14 2) (refused_by 11)
    ∷ reads (set (set whole 14 2) 15 7) (refused_by 12)
    ∷ reads (set (set whole 15 7) 16 1) (refused_by 13)
    ∷ reads (set (set whole 16 1) 17 3) (refused_by 14)
    ∷ reads (set (set whole 17 3) 18 0) (refused_by 15)
    ∷ reads (set (set whole 19 1) 20 8) (refused_by 17)
    ∷ reads (set (set two_bands 20 8) 22 8) (refused_by 18)
    ∷ reads (set (set two_bands 22 8) 23 0) (refused_by 19)
    ∷ reads (set (set seven 21 0) 22 0xfe) (refused_by 20)
    ∷ reads (set (set seven 22 0xfe) 64 1) (refused_by 21)
    ∷ reads (set (set whole 14 2) 16 1) (refused_by 12)
    ∷ reads (set (set whole 20 0) 23 1) (refused_by 18)
    ∷ []

-- where two numbers of the writer apply, the first in its order, 15, 16, 23, 18, 19, 20, 21, 24: each two neighbours
abbrev pub writer_order : List Case
writer_order =
    refuses (ask 3 0 4 1 0 0) [] 15
    ∷ refuses (ask 0 0 4 1 0 0) (0xff ∷ []) 16
    ∷ refuses (ask 0 3 0 1 9 2) [] 23
    ∷ refuses (ask 0 2 0 1 8 2) [] 18
    ∷ refuses (ask 0 2 4 1 8 1) [] 19
    ∷ refuses (ask 0 1 4 0 0 0) (0xfe ∷ 0xff ∷ 0xff ∷ 0xff ∷ 0xff ∷ 0xff ∷ []) 20
    ∷ writes one (set (broadcast 7) 0 0xfe) (replicate 65 0xff) (record { number = 21; count = 0 }) (replicate 65 0xff)
    ∷ []

unfoldable pub cases : List (List Case)
cases = frames ∷ formats ∷ counts ∷ first_band ∷ second_band ∷ ranks ∷ groups ∷ later_bands ∷ nexts ∷ layouts ∷ outputs ∷ reader_order ∷ writer_order ∷ []
