-- The rules that a rate request keeps, whether it is read or written: numbers 15, 16 and 18 to 21.
-- Document 01, 'Rate requests, in this order'; 001, clause 6.3.1, Table 7.
use Rattle.std.specs.Prelude.{ℕ, ◌*◌, ◌/◌, ◌%◌, Bool, not, ◌&&◌, ◌||◌, List, leb, ltb, eqb, length}
use Rattle.wire.specs.Octets.{octet_at, all_below}

-- 15: OpCode is at most 2
unfoldable pub opcode_right : ℕ → Bool
opcode_right opcode = leb opcode 2

-- 16: there is a band
unfoldable pub some_band : ℕ → Bool
some_band bands = not (eqb bands 0)

-- 18: band 1's PE is 1 to 7
unfoldable pub band_one_right : ℕ → Bool
band_one_right pe = leb 1 pe && leb pe 7

-- 19: band 2 is absent, or its PE is 0 or 9 to 15
unfoldable pub band_two_right : ℕ → ℕ → Bool
band_two_right bands pe = ltb bands 2 || (eqb pe 0 || (leb 9 pe && leb pe 15))

-- 20: no rank is 0 and the two differ, as far as there is a band 2
unfoldable pub ranks_right : ℕ → ℕ → ℕ → Bool
ranks_right bands rank1 rank2 = not (eqb rank1 0) && (ltb bands 2 || (not (eqb rank2 0) && not (eqb rank1 rank2)))

-- 21: each extra address is a group address: the low bit of its first octet is 1
unfoldable pub group_addresses : List ℕ → Bool
group_addresses addresses = all_below (length addresses / 6) (λ k. eqb (octet_at addresses (6 * k) % 2) 1)
