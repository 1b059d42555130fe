-- What an accepted frame has: what is given of it, put together from its fields, each test passed, its addresses within it, and a chosen band with a rate.
-- Assumes nothing.
use mathlib.Core.Path.{◌≡◌, refl}
use mathlib.Core.Bool.{true, false}
use mathlib.Core.List.{List}
use Rattle.std.specs.Prelude.{IsSome}
use mathlib.Core.Logic.{⊎_elim}
use Prim.Native.Nat.{ℕ, ◌+◌, ◌*◌, ◌≤◌, ◌<◌}
use native.Mathlib.Omega.{arith}
use borrow.Author.Tests.{leb-true, eqb-true, ltb-true, lt-leb}
use lib.Dec.{leb, ltb, lit<}
use lib.ListN.{length}
use Rattle.wire.specs.Refusals.{first}
use Rattle.wire.specs.ShortFormat.{ss_length, header_length}
use Rattle.wire.proofs.First.{test}
use Rattle.wire.proofs.Answered.{all_pass, decided}
use Rattle.wire.proofs.Joined.{and_right}
use Rattle.rate.specs.Rates.{chosen_of, rate_of_band}
use Rattle.rate.proofs.Lowest.{some_rate}
use Rattle.rate_reader.specs.Reading.{opcode_of, bands_of, count_of, pe1_of, rank1_of, pe2_of, rank2_of, of_band_two, start_of, extent_of, request_with, request_of, ss_length_fits, lengths_agree, refusals, refused_by, given_of, accepted, read_of}

pub accepted_fields : (s : List ℕ) {opcode bands pe1 rank1 pe2 rank2 addresses : ℕ} → opcode ≡ opcode_of s → bands ≡ bands_of s → pe1 ≡ pe1_of s → rank1 ≡ rank1_of s
    → pe2 ≡ pe2_of s → rank2 ≡ rank2_of s → addresses ≡ count_of s → given_of (request_with s opcode bands pe1 rank1 pe2 rank2) addresses ≡ accepted s
unfolding request_of accepted
accepted_fields s o b p r p' r' a = cc

module _ (s : List ℕ) (none : first (refusals s) ≡ 0) where
  pub passed : (k : ℕ) → k < length (refusals s) → (test (refusals s) k).passes ≡ true
  unfolding refusals
  passed k h = all_pass (refusals s) refl none k h

  -- 13 and 17, as numbers
  pub header_within : header_length s ≤ length s
  unfolding refusals ss_length_fits
  header_within = leb-true (header_length s) (length s) (and_right (leb 8 (ss_length s)) (leb (header_length s) (length s)) (passed 3 (lit< tt)))

  pub lengths_agree_law : ss_length s ≡ 6 + 2 * bands_of s + 6 * count_of s
  unfolding refusals lengths_agree
  lengths_agree_law = eqb-true (ss_length s) (6 + 2 * bands_of s + 6 * count_of s) (passed 7 (lit< tt))

  pub addresses_within : start_of s + extent_of s ≤ length s
  unfolding start_of extent_of
  addresses_within = omega (arith, header_within, lengths_agree_law)

-- the octets that a reading points to lie within the frame, refused or not
pub reading_within : (s : List ℕ) → (read_of s).start + (read_of s).extent ≤ length s
unfolding read_of refusals accepted request_of start_of extent_of
reading_within s =
    ⊎_elim
    (λ d. rw d.1 (addresses_within s d.0))
    (λ d. rw d.1 (omega arith))
    (decided refused_by (accepted s) (refusals s) refl)

-- the chosen band has a rate (document 01, 'Rate of a PE')
pub accepted_rate : (s : List ℕ) → first (refusals s) ≡ 0 → IsSome (rate_of_band (request_of s) (chosen_of (request_of s)))
unfolding request_of refusals of_band_two
accepted_rate s clear = some_rate (request_of s) (passed s clear 8 (lit< tt)) (passed s clear 9 (lit< tt)) absent
  where
    absent : ltb (bands_of s) 2 ≡ true → of_band_two s 22 ≡ 0
    absent b = let t : leb 2 (bands_of s) ≡ false = lt-leb 2 (bands_of s) (ltb-true (bands_of s) 2 b) in simp t
