-- The rate of a PE and the chosen band. Document 01, 'Rate of a PE'; 001, clause 6.3.1, Table 8.
use Rattle.std.specs.Prelude.{ℕ, ◌+◌, ◌*◌, ◌-◌, cond, ◌&&◌, leb, ltb, eqb, Option, Some, None}
use Rattle.rate.specs.declared.Request.{Request}
use Rattle.rate.specs.declared.rates.Band.{Band}
use Rattle.rate.specs.declared.rates.Band.TheVariants.{One, Two}

-- the rate of a PE in Mbit/s: 1 to 7 give 4, 6, .., 16; 9 to 15 give 8, 12, .., 32; the others none
unfoldable pub rate_of : ℕ → Option ℕ
rate_of pe = cond (leb 1 pe && leb pe 7) (Some (2 + 2 * pe)) (cond (leb 9 pe && leb pe 15) (Some (4 + 4 * (pe - 8))) None)

-- the number of a band
abbrev pub band_of : Band → ℕ
band_of One = 1
band_of Two = 2

-- the chosen band's number: of the two bands, less one whose PE is 0, that with the lowest rank. Of equal ranks, which no accepted request has, band 1
unfoldable pub chosen_of : Request → Option ℕ
chosen_of q =
    cond (eqb q.pe1 0) (cond (eqb q.pe2 0) None (Some 2))
    (cond (eqb q.pe2 0) (Some 1) (cond (ltb q.rank2 q.rank1) (Some 2) (Some 1)))

-- the rate that goes with a band's number
abbrev pub rate_of_band : Request → Option ℕ → Option ℕ
rate_of_band q None = None
rate_of_band q (Some n) = rate_of (cond (eqb n 2) q.pe2 q.pe1)
