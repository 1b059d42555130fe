-- The short format of link layer frames: where its fields stand in a frame (001, clause 6.2.1 and its Table 5).
-- Destination 0 to 5, source 6 to 11, Ethertype 12 and 13, SSType 14, SSLength 15, SSVersion 16, data, Next Ethertype.
use Rattle.std.specs.Prelude.{ℕ, ◌+◌, Bool, ◌&&◌, List, eqb}
use Rattle.wire.specs.Octets.{octet_at}

unfoldable pub ethertype_right : List ℕ → Bool
ethertype_right s = eqb (octet_at s 12) 0x88 && eqb (octet_at s 13) 0x6c

abbrev pub ss_type : List ℕ → ℕ
ss_type s = octet_at s 14

abbrev pub ss_length : List ℕ → ℕ
ss_length s = octet_at s 15

abbrev pub ss_version : List ℕ → ℕ
ss_version s = octet_at s 16

-- SSLength counts from SSVersion, octet 16, to the end of Next Ethertype
abbrev pub header_length : List ℕ → ℕ
header_length s = 16 + ss_length s

-- Next Ethertype: the last two octets of the header
unfoldable pub next_ethertype_zero : List ℕ → Bool
next_ethertype_zero s = eqb (octet_at s (14 + ss_length s)) 0 && eqb (octet_at s (15 + ss_length s)) 0
