-- Bands past the second are skipped unread and padding is not looked at: an accepted frame may change there and reads as before, its addresses too.
-- Document 01, 'The rate request on the wire'. Assumes nothing.
use mathlib.Core.Path.{◌≡◌, refl, ◌∙◌, sym, ap}
use mathlib.Core.Bool.{true, cond}
use mathlib.Core.List.{List}
use mathlib.Core.Logic.{◌⊎◌, inl, inr}
use Prim.Native.Nat.{ℕ, ◌+◌, ◌*◌, ◌-◌, ◌≤◌, ◌<◌}
use native.Mathlib.Omega.{arith}
use borrow.Author.Tests.{leb-true, le-leb}
use lib.Dec.{leb, lit<}
use lib.ListN.{length, take, drop, length-drop}
use lib.Seq.{get_or-take, get_or-drop, length-take-le, ext_get_or}
use Rattle.wire.specs.Octets.{octet_at, six_at, part_at}
use Rattle.wire.specs.Refusals.{first}
use Rattle.wire.specs.ShortFormat.{ethertype_right, ss_length, header_length, next_ethertype_zero}
use Rattle.wire.proofs.Answered.{first_accepts}
use Rattle.wire.proofs.Joined.{and_left, and_both}
use Rattle.wire.proofs.Octets.{six_within}
use Rattle.wire.proofs.Within.{le_within}
use Rattle.rate.specs.declared.Request.{Request}
use Rattle.rate.specs.Request.{opcode_right, some_band, band_one_right, band_two_right, ranks_right, group_addresses}
use Rattle.rate_reader.specs.Reading.{opcode_of, bands_of, count_of, pe1_of, rank1_of, pe2_of, rank2_of, of_band_two, start_of, extent_of, addresses_of, request_of, length_fits, ss_type_right, ss_length_fits, ss_version_right, lengths_agree, refusals, refused_by, given_of, accepted, read_of}
use Rattle.rate_reader.proofs.Accepted.{passed, header_within, lengths_agree_law}

-- t has a frame's length, the whole header of s, and its octets but for those of bands past the second
module _ (s t : List ℕ) (clear : first (refusals s) ≡ 0) (fits : length_fits t ≡ true) (header : header_length s ≤ length t)
    (same : (k : ℕ) → k < header_length s → (k < 24) ⊎ (start_of s ≤ k) → octet_at t k ≡ octet_at s k) where
  long : 24 ≤ header_length s
  unfolding refusals ss_length_fits
  long = let l : 8 ≤ ss_length s = leb-true 8 (ss_length s) (and_left (leb 8 (ss_length s)) (leb (header_length s) (length s)) (passed s clear 3 (lit< tt))) in omega arith

  -- the octets before any third band
  early : (k : ℕ) → k < 24 → octet_at t k ≡ octet_at s k
  early k h = let l = long in same k (omega arith) (inl h)

  bands : bands_of t ≡ bands_of s
  bands = early 18 (lit< tt)

  count : count_of t ≡ count_of s
  count = early 19 (lit< tt)

  counted : ss_length t ≡ ss_length s
  counted = early 15 (lit< tt)

  of_band_two_law : (k : ℕ) → k < 24 → of_band_two t k ≡ of_band_two s k
  unfolding of_band_two
  of_band_two_law k h = ap (λ (n : ℕ). cond (leb 2 n) (octet_at t k) 0) bands ∙ ap (λ (n : ℕ). cond (leb 2 (bands_of s)) n 0) (early k h)

  address : (at : ℕ) → at + 6 ≤ 24 → six_at t at ≡ six_at s at
  address at h =
      let l = long in
      let in-t : at + 6 ≤ length t = omega arith in
      let in-s : at + 6 ≤ length s = omega (arith, header_within s clear) in
      let first-octet : octet_at t at ≡ octet_at s at = early at (omega arith) in
      let others : (k : ℕ) → k < 6 → octet_at t (at + k) ≡ octet_at s (at + k) = λ k b. early (at + k) (omega arith) in
      six_within t at in-t
      ∙ (simp (first-octet, others 1 (lit< tt), others 2 (lit< tt), others 3 (lit< tt), others 4 (lit< tt), others 5 (lit< tt))
      (sym (six_within s at in-s)))

  pub same_request : request_of t ≡ request_of s
  unfolding request_of
  same_request =
      simp
      (address 0 (omega arith), address 6 (omega arith), early 17 (lit< tt), bands, early 20 (lit< tt), early 21 (lit< tt), of_band_two_law 22 (lit< tt), of_band_two_law 23 (lit< tt))

  -- the addresses: the same octets at the same place
  start : ℕ
  start = 20 + 2 * bands_of s

  extent : ℕ
  extent = 6 * count_of s

  ends : start + extent ≡ 14 + ss_length s
  unfolding start extent
  ends = let e = lengths_agree_law s clear in omega arith

  part_length : (l : List ℕ) → header_length s ≤ length l → length (take extent (drop start l)) ≡ extent
  part_length l h =
      let e = ends in
      let d : length (drop start l) ≡ length l - start = length-drop start l in
      length-take-le extent (drop start l) (omega arith)

  part_octet : (l : List ℕ) (k : ℕ) → k < extent → octet_at (take extent (drop start l)) k ≡ octet_at l (start + k)
  part_octet l k h = get_or-take extent (drop start l) k 0 h ∙ get_or-drop start l k 0

  same_part : take extent (drop start t) ≡ take extent (drop start s)
  unfolding start_of start
  same_part =
      let in-t = part_length t header in
      let in-s = part_length s (header_within s clear) in
      let e = ends in
      ext_get_or 0 (take extent (drop start t)) (take extent (drop start s)) (in-t ∙ sym in-s)
      (λ k h. let b : k < extent = rw in-t at h in part_octet t k b ∙ (same (start + k) (omega arith) (inr (omega arith)) ∙ sym (part_octet s k b)))

  pub same_addresses : addresses_of t ≡ addresses_of s
  unfolding addresses_of part_at start_of extent_of start extent
  same_addresses =
      let e = ends in
      let in-t = le_within t start extent (omega arith) in
      let in-s = le_within s start extent (omega (arith, header_within s clear)) in
      simp (bands, count, in-t, in-s) same_part

  next : (k : ℕ) → k < 2 → octet_at t (14 + k + ss_length t) ≡ octet_at s (14 + k + ss_length s)
  unfolding start_of start
  next k h =
      let e = ends in
      ap (λ (n : ℕ). octet_at t (14 + k + n)) counted ∙ same (14 + k + ss_length s) (omega arith) (inr (omega arith))

  -- each test passes as it did
  ethertype_right_law : ethertype_right t ≡ true
  unfolding refusals ethertype_right
  ethertype_right_law = rw (early 12 (lit< tt), early 13 (lit< tt)) (passed s clear 1 (lit< tt))

  ss_type_right_law : ss_type_right t ≡ true
  unfolding refusals ss_type_right
  ss_type_right_law = rw (early 14 (lit< tt)) (passed s clear 2 (lit< tt))

  ss_length_fits_law : ss_length_fits t ≡ true
  unfolding ss_length_fits
  ss_length_fits_law =
      let l = long in
      let least : 8 ≤ ss_length t = rw counted (omega arith) in
      let most : header_length t ≤ length t = rw counted header in
      and_both (leb 8 (ss_length t)) (leb (header_length t) (length t)) (le-leb 8 (ss_length t) least) (le-leb (header_length t) (length t) most)

  ss_version_right_law : ss_version_right t ≡ true
  unfolding refusals ss_version_right
  ss_version_right_law = rw (early 16 (lit< tt)) (passed s clear 4 (lit< tt))

  opcode_right_law : opcode_right (opcode_of t) ≡ true
  unfolding refusals
  opcode_right_law = rw (early 17 (lit< tt)) (passed s clear 5 (lit< tt))

  some_band_law : some_band (bands_of t) ≡ true
  unfolding refusals
  some_band_law = rw bands (passed s clear 6 (lit< tt))

  lengths_agreeing : lengths_agree t ≡ true
  unfolding refusals lengths_agree
  lengths_agreeing = rw (counted, bands, count) (passed s clear 7 (lit< tt))

  band_one_right_law : band_one_right (pe1_of t) ≡ true
  unfolding refusals
  band_one_right_law = rw (early 20 (lit< tt)) (passed s clear 8 (lit< tt))

  band_two_right_law : band_two_right (bands_of t) (pe2_of t) ≡ true
  unfolding refusals
  band_two_right_law = rw (bands, of_band_two_law 22 (lit< tt)) (passed s clear 9 (lit< tt))

  ranks_right_law : ranks_right (bands_of t) (rank1_of t) (rank2_of t) ≡ true
  unfolding refusals
  ranks_right_law = rw (bands, early 21 (lit< tt), of_band_two_law 23 (lit< tt)) (passed s clear 10 (lit< tt))

  group_addresses_law : group_addresses (addresses_of t) ≡ true
  unfolding refusals
  group_addresses_law = rw same_addresses (passed s clear 11 (lit< tt))

  next_ethertype_zero_law : next_ethertype_zero t ≡ true
  unfolding refusals next_ethertype_zero
  next_ethertype_zero_law = rw (next 0 (lit< tt), next 1 (lit< tt)) (passed s clear 12 (lit< tt))

  pub nothing_refused : first (refusals t) ≡ 0
  unfolding refusals
  nothing_refused =
      simp (
        fits,
        ethertype_right_law,
        ss_type_right_law,
        ss_length_fits_law,
        ss_version_right_law,
        opcode_right_law,
        some_band_law,
        lengths_agreeing,
        band_one_right_law,
        band_two_right_law,
        ranks_right_law,
        group_addresses_law,
        next_ethertype_zero_law,
      )

  pub unread : read_of t ≡ read_of s
  unfolding read_of refusals accepted
  unread =
      first_accepts refused_by (accepted t) (refusals t) refl nothing_refused
      ∙ (ap (λ (n : ℕ). given_of (request_of t) n) count
      ∙ (ap (λ (q : Request). given_of q (count_of s)) same_request ∙ sym (first_accepts refused_by (accepted s) (refusals s) refl clear)))
