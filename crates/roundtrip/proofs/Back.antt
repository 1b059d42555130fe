-- What is written reads back as the same request, every field and the address octets, whatever padding follows the header.
-- Document 01, 'The rate request on the wire'. Assumes nothing but that an address has six octets.
use mathlib.Core.Path.{◌≡◌, refl, ◌∙◌, sym, ap}
use mathlib.Core.Bool.{Bool, true, false, cond, ◌&&◌}
use mathlib.Core.List.{List, [], ◌∷◌, ◌++◌, append_assoc}
use mathlib.Core.Logic.{⊎_elim}
use Prim.Native.Nat.{ℕ, ◌+◌, ◌*◌, ◌-◌, ◌/◌, ◌≤◌, ◌<◌}
use native.Mathlib.Omega.{arith}
use borrow.Author.Tests.{leb-true, eqb-true, le-leb, eq-eqb}
use lib.Dec.{leb, eqb, lit<}
use lib.ListN.{length, take, drop, replicate, length-append, length-replicate, get_or-append}
use lib.Seq.{get_or-append-add, get_or-take, take_at, drop_at}
use Rattle.wire.specs.Octets.{octet_at, six_at, within, part_at}
use Rattle.wire.specs.Refusals.{first, answered}
use Rattle.wire.specs.ShortFormat.{ethertype_right, ss_type, ss_length, ss_version, header_length, next_ethertype_zero}
use Rattle.wire.proofs.Answered.{first_accepts, first_refuses}
use Rattle.wire.proofs.Joined.{and_left, and_right, and_both}
use Rattle.wire.proofs.Octets.{octet_behind, six_front, six_behind}
use Rattle.wire.proofs.Within.{le_within}
use Rattle.std.specs.Prelude.{Result, Ok, Err}
use Rattle.std.specs.Result.{result_unwrap_or}
use Rattle.rate.specs.declared.Request.{Request}
use Rattle.rate.specs.declared.refused.Refused.{Refused}
use Rattle.rate.specs.Request.{opcode_right, some_band, band_one_right, band_two_right, ranks_right, group_addresses}
use Rattle.rate_reader.specs.Reading.{Read, opcode_of, bands_of, count_of, of_band_two, start_of, extent_of, addresses_of, request_of, length_fits, ss_type_right, ss_length_fits, ss_version_right, lengths_agree, refusals, refused_by, accepted, read_of}
use Rattle.rate.specs.Writing.{Written, written, ss_length_for, fixed_part, band_part, header_for, frame_for, absent_band_empty, writer_refusals, Wrote}
use Rattle.rate.proofs.Frame.{length_bands, length_header}
use Rattle.rate.proofs.Writable.{may_write, may_layout, some_band_law, Accepted, Declined, wrote_either}
use Rattle.roundtrip.specs.Trip.{asked, ReadBack}

module _ (q : Request) (a : List ℕ) (room : ℕ) (d6 : length q.destination ≡ 6) (s6 : length q.source ≡ 6) (none : first (writer_refusals q a room) ≡ 0) (pad : List ℕ) where
  -- the frame that is read: the header that was written, and what follows it
  frame : List ℕ
  frame = header_for q a ++ pad

  tail : List ℕ
  tail = 0 ∷ 0 ∷ pad

  two : q.bands ≤ 2
  two = (may_layout q a room none).two

  by_fields : frame ≡ q.destination ++ (q.source ++ (fixed_part q a ++ (band_part q ++ (a ++ tail))))
  unfolding frame header_for tail
  by_fields = simp append_assoc

  -- an octet from the Ethertype on
  octet_12 : (k : ℕ) → octet_at frame (6 + (6 + k)) ≡ octet_at (fixed_part q a ++ (band_part q ++ (a ++ tail))) k
  octet_12 k = ap (λ (l : List ℕ). octet_at l (6 + (6 + k))) by_fields ∙ (octet_behind q.destination _ 6 (6 + k) d6 ∙ octet_behind q.source _ 6 k s6)

  high : octet_at frame 12 ≡ 0x88
  unfolding fixed_part
  high = octet_12 0

  low : octet_at frame 13 ≡ 0x6c
  unfolding fixed_part
  low = octet_12 1

  type : ss_type frame ≡ 1
  unfolding fixed_part
  type = octet_12 2

  counted : ss_length frame ≡ ss_length_for q a
  unfolding fixed_part
  counted = octet_12 3

  version : ss_version frame ≡ 0
  unfolding fixed_part
  version = octet_12 4

  opcode : opcode_of frame ≡ q.opcode
  unfolding fixed_part
  opcode = octet_12 5

  bands : bands_of frame ≡ q.bands
  unfolding fixed_part
  bands = octet_12 6

  count : count_of frame ≡ length a / 6
  unfolding fixed_part
  count = octet_12 7

  some : 1 ≤ q.bands
  some = some_band_law q a room none

  -- an octet of a band that is there
  octet_20 : (k : ℕ) → k < 2 * q.bands → octet_at frame (20 + k) ≡ octet_at (q.pe1 ∷ q.rank1 ∷ q.pe2 ∷ q.rank2 ∷ []) k
  unfolding fixed_part band_part
  octet_20 k h =
      let l : length (band_part q) ≡ 2 * q.bands = length_bands q a d6 s6 two in
      let at : 20 + k ≡ 6 + (6 + (8 + k)) = omega arith in
      ap (λ (n : ℕ). octet_at frame n) at
      ∙ (octet_12 (8 + k)
      ∙ (octet_behind (fixed_part q a) (band_part q ++ (a ++ tail)) 8 k refl
      ∙ (get_or-append (band_part q) (a ++ tail) 0 k (omega arith) ∙ get_or-take (2 * q.bands) (q.pe1 ∷ q.rank1 ∷ q.pe2 ∷ q.rank2 ∷ []) k 0 h)))

  -- the request has 0 for an absent band 2
  absent : leb 2 q.bands ≡ false → (q.pe2 ≡ 0) × (q.rank2 ≡ 0)
  unfolding absent_band_empty
  absent b =
      let e : (eqb q.pe2 0 && eqb q.rank2 0) ≡ true = rw b at (may_layout q a room none).empty in
      (eqb-true q.pe2 0 (and_left (eqb q.pe2 0) (eqb q.rank2 0) e), eqb-true q.rank2 0 (and_right (eqb q.pe2 0) (eqb q.rank2 0) e))

  -- an octet of band 2, be it there or not
  of_band_two_law : (k v : ℕ) → k < 4 → octet_at (q.pe1 ∷ q.rank1 ∷ q.pe2 ∷ q.rank2 ∷ []) k ≡ v → (leb 2 q.bands ≡ false → v ≡ 0) → of_band_two frame (20 + k) ≡ v
  unfolding of_band_two
  of_band_two_law k v h e z = ap (λ (n : ℕ). cond (leb 2 n) (octet_at frame (20 + k)) 0) bands ∙ by_test (leb 2 q.bands) refl
    where
      by_test : (t : Bool) → leb 2 q.bands ≡ t → cond t (octet_at frame (20 + k)) 0 ≡ v
      by_test true b = let two-there : 2 ≤ q.bands = leb-true 2 q.bands b in octet_20 k (omega arith) ∙ e
      by_test false b = sym (z b)

  pe1 : octet_at frame 20 ≡ q.pe1
  pe1 = let b = some in octet_20 0 (omega arith)

  rank1 : octet_at frame 21 ≡ q.rank1
  rank1 = let b = some in octet_20 1 (omega arith)

  pe2 : of_band_two frame 22 ≡ q.pe2
  pe2 = of_band_two_law 2 q.pe2 (lit< tt) refl (λ b. (absent b).0)

  rank2 : of_band_two frame 23 ≡ q.rank2
  rank2 = of_band_two_law 3 q.rank2 (lit< tt) refl (λ b. (absent b).1)

  -- every field of the request
  pub same_request : request_of (header_for q a ++ pad) ≡ q
  unfolding request_of frame
  same_request =
      let destination : six_at frame 0 ≡ q.destination = ap (λ (l : List ℕ). six_at l 0) by_fields ∙ six_front q.destination _ d6 in
      let source : six_at frame 6 ≡ q.source = ap (λ (l : List ℕ). six_at l 6) by_fields ∙ six_behind q.destination q.source _ d6 s6 in
      simp (destination, source, opcode, bands, pe1, rank1, pe2, rank2)

  -- the addresses: whole ones, from behind the bands on
  whole : 6 * (length a / 6) ≡ length a
  whole = let e = (may_layout q a room none).whole in omega arith

  front : List ℕ
  front = q.destination ++ (q.source ++ (fixed_part q a ++ band_part q))

  length_front : length front ≡ 20 + 2 * q.bands
  unfolding front fixed_part
  length_front = simp (length-append, d6, s6, length_bands q a d6 s6 two) (omega arith)

  by_addresses : frame ≡ front ++ (a ++ tail)
  unfolding frame header_for front tail
  by_addresses = simp append_assoc

  long : length frame ≡ 22 + 2 * q.bands + length a + length pad
  unfolding frame
  long = length-append (header_for q a) pad ∙ ap (λ (n : ℕ). n + length pad) (length_header q a d6 s6 two)

  pub same_part : part_at (header_for q a ++ pad) (20 + 2 * q.bands) (length a) ≡ a
  unfolding part_at frame
  same_part =
      let n = long in
      let w = le_within frame (20 + 2 * q.bands) (length a) (omega arith) in
      simp w
      (ap (λ (l : List ℕ). take (length a) (drop (20 + 2 * q.bands) l)) by_addresses
      ∙ (ap (λ (l : List ℕ). take (length a) l) (drop_at front (a ++ tail) (20 + 2 * q.bands) length_front) ∙ take_at a tail (length a) refl))

  pub same_addresses : addresses_of (header_for q a ++ pad) ≡ a
  unfolding addresses_of start_of extent_of frame
  same_addresses = simp (bands, count, whole) same_part

  -- Next Ethertype stands where SSLength says
  next : (k : ℕ) → octet_at frame (14 + ss_length_for q a + k) ≡ octet_at tail k
  unfolding ss_length_for
  next k =
      let n : 14 + (6 + 2 * q.bands + length a) + k ≡ 20 + 2 * q.bands + (length a + k) = omega arith in
      ap (λ (m : ℕ). octet_at frame m) n
      ∙ (ap (λ (l : List ℕ). octet_at l (20 + 2 * q.bands + (length a + k))) by_addresses
      ∙ (octet_behind front (a ++ tail) (20 + 2 * q.bands) (length a + k) length_front ∙ get_or-append-add a tail k 0))

  module _ (least : 60 ≤ length (header_for q a ++ pad)) (most : length (header_for q a ++ pad) ≤ 1514) where
    length_fits_law : length_fits frame ≡ true
    unfolding length_fits frame
    length_fits_law = and_both (leb 60 (length frame)) (leb (length frame) 1514) (le-leb 60 (length frame) least) (le-leb (length frame) 1514 most)

    ethertype_right_law : ethertype_right frame ≡ true
    unfolding ethertype_right
    ethertype_right_law = simp (high, low)

    ss_type_right_law : ss_type_right frame ≡ true
    unfolding ss_type_right
    ss_type_right_law = simp type

    ss_length_fits_law : ss_length_fits frame ≡ true
    unfolding ss_length_fits ss_length_for
    ss_length_fits_law =
        let b = some in
        let n = long in
        let l : 8 ≤ ss_length frame = rw counted (omega arith) in
        let m : header_length frame ≤ length frame = rw counted (omega arith) in
        and_both (leb 8 (ss_length frame)) (leb (header_length frame) (length frame)) (le-leb 8 (ss_length frame) l) (le-leb (header_length frame) (length frame) m)

    ss_version_right_law : ss_version_right frame ≡ true
    unfolding ss_version_right
    ss_version_right_law = simp version

    opcode_right_law : opcode_right (opcode_of frame) ≡ true
    unfolding writer_refusals
    opcode_right_law = rw opcode (may_write q a room none 0 (lit< tt))

    some_bands : some_band (bands_of frame) ≡ true
    unfolding writer_refusals
    some_bands = rw bands (may_write q a room none 1 (lit< tt))

    lengths_agree_law : lengths_agree frame ≡ true
    unfolding lengths_agree ss_length_for
    lengths_agree_law = simp (counted, bands, count, whole) (eq-eqb (6 + 2 * q.bands + length a) (6 + 2 * q.bands + length a) refl)

    band_one_right_law : band_one_right (octet_at frame 20) ≡ true
    unfolding writer_refusals
    band_one_right_law = rw pe1 (may_write q a room none 3 (lit< tt))

    band_two_right_law : band_two_right (bands_of frame) (of_band_two frame 22) ≡ true
    unfolding writer_refusals
    band_two_right_law = rw (bands, pe2) (may_write q a room none 4 (lit< tt))

    ranks_right_law : ranks_right (bands_of frame) (octet_at frame 21) (of_band_two frame 23) ≡ true
    unfolding writer_refusals
    ranks_right_law = rw (bands, rank1, rank2) (may_write q a room none 5 (lit< tt))

    group_addresses_law : group_addresses (addresses_of frame) ≡ true
    unfolding writer_refusals frame
    group_addresses_law = rw same_addresses (may_write q a room none 6 (lit< tt))

    next_ethertype_zero_law : next_ethertype_zero frame ≡ true
    unfolding next_ethertype_zero tail
    next_ethertype_zero_law =
        let high : octet_at frame (14 + ss_length frame) ≡ 0 = ap (λ (n : ℕ). octet_at frame n) (at_next 0) ∙ next 0 in
        let low : octet_at frame (15 + ss_length frame) ≡ 0 = ap (λ (n : ℕ). octet_at frame n) (at_next 1) ∙ next 1 in
        simp (high, low)
      where
        at_next : (k : ℕ) → 14 + k + ss_length frame ≡ 14 + ss_length_for q a + k
        at_next k = rw counted (omega arith)

    -- what is written is accepted
    pub nothing_refused : first (refusals (header_for q a ++ pad)) ≡ 0
    unfolding refusals frame
    nothing_refused =
        simp (
          length_fits_law,
          ethertype_right_law,
          ss_type_right_law,
          ss_length_fits_law,
          ss_version_right_law,
          opcode_right_law,
          some_bands,
          lengths_agree_law,
          band_one_right_law,
          band_two_right_law,
          ranks_right_law,
          group_addresses_law,
          next_ethertype_zero_law,
        )

    -- and reads as what was asked
    pub reads_back : read_of (header_for q a ++ pad) ≡ asked q a
    unfolding read_of refusals accepted start_of extent_of frame
    reads_back = first_accepts refused_by (accepted frame) (refusals frame) refl nothing_refused ∙ simp (same_request, count, whole)

-- the frame that the writer makes, its padding of zeros included
module _ (q : Request) (a : List ℕ) (room : ℕ) (d6 : length q.destination ≡ 6) (s6 : length q.source ≡ 6) (none : first (writer_refusals q a room) ≡ 0) where
  abbrev zeros : List ℕ
  zeros = replicate (60 - length (header_for q a)) 0

  at_least_60 : 60 ≤ length (header_for q a ++ zeros)
  at_least_60 = simp (length-append, length-replicate {A = ℕ}) (omega arith)

  at_most_1514 : length (header_for q a ++ zeros) ≤ 1514
  unfolding ss_length_for
  at_most_1514 =
      let l = may_layout q a room none in
      simp (length-append, length-replicate {A = ℕ}) (omega (arith, l.short, length_header q a d6 s6 l.two))

  pub frame_reads_back : read_of (frame_for q a) ≡ asked q a
  unfolding frame_for
  frame_reads_back = reads_back q a room d6 s6 none zeros at_least_60 at_most_1514

  pub frame_part : part_at (frame_for q a) (20 + 2 * q.bands) (length a) ≡ a
  unfolding frame_for
  frame_part = same_part q a room d6 s6 none zeros

  pub frame_addresses : addresses_of (frame_for q a) ≡ a
  unfolding frame_for
  frame_addresses = same_addresses q a room d6 s6 none zeros

-- a refusal has written no octets
pub count_of_written : (w : Result ℕ Refused) → (written w).count ≡ result_unwrap_or w 0
count_of_written (Ok n) = refl
count_of_written (Err e) = refl

-- what the writer leaves in its output reads back as what was asked, and where it refuses as a frame of no octets
module _ (q : Request) (a before after : List ℕ) (r : Written) (d6 : length q.destination ≡ 6) (s6 : length q.source ≡ 6) (wrote : Wrote q a before after r) where
  pub count_within : r.count ≤ length after
  count_within =
      ⊎_elim
      (λ (d : Accepted q a before after r). rw (d.output, d.answer) (simp length-append (omega arith)))
      (λ (d : Declined q a before after r). rw d.answer (omega arith))
      (wrote_either q a before after r wrote)

  pub written_reads_back : read_of (take r.count after) ≡ answered (λ n. refused_by 10) (writer_refusals q a (length before)) (asked q a)
  unfolding writer_refusals read_of refusals length_fits
  written_reads_back =
      ⊎_elim
      (λ (d : Accepted q a before after r).
      let frame : take (length (frame_for q a)) after ≡ frame_for q a = rw d.output (take_at (frame_for q a) _ (length (frame_for q a)) refl) in
      rw d.answer (ap read_of frame ∙ (frame_reads_back q a (length before) d6 s6 d.none ∙ sym (first_accepts (λ n. refused_by 10) (asked q a) (writer_refusals q a (length before)) refl d.none))))
      (λ (d : Declined q a before after r). rw d.answer (sym (first_refuses (λ n. refused_by 10) (asked q a) (writer_refusals q a (length before)) refl d.some)))
      (wrote_either q a before after r wrote)

  pub written_addresses : part_at (take r.count after) (answered (λ n. refused_by 10) (writer_refusals q a (length before)) (asked q a)).start (answered (λ n. refused_by 10) (writer_refusals q a (length before)) (asked q a)).extent
      ≡ answered (λ n. []) (writer_refusals q a (length before)) a
  unfolding writer_refusals part_at within
  written_addresses =
      ⊎_elim
      (λ (d : Accepted q a before after r).
      let rows = writer_refusals q a (length before) in
      let frame : take (length (frame_for q a)) after ≡ frame_for q a = rw d.output (take_at (frame_for q a) _ (length (frame_for q a)) refl) in
      let same : answered (λ n. refused_by 10) rows (asked q a) ≡ asked q a = first_accepts (λ n. refused_by 10) (asked q a) rows refl d.none in
      let all : answered (λ n. []) rows a ≡ a = first_accepts (λ n. []) a rows refl d.none in
      rw (d.answer, frame, same, all) (frame_part q a (length before) d6 s6 d.none))
      (λ (d : Declined q a before after r).
      let rows = writer_refusals q a (length before) in
      let same : answered (λ n. refused_by 10) rows (asked q a) ≡ refused_by 10 = first_refuses (λ n. refused_by 10) (asked q a) rows refl d.some in
      let none : answered (λ n. []) rows a ≡ [] = first_refuses (λ n. []) a rows refl d.some in
      rw (d.answer, same, none) refl)
      (wrote_either q a before after r wrote)

  -- both together: the contract of a write that is then read
  pub read_back : (reading : Read) → reading ≡ read_of (take r.count after) → ReadBack q a before after (record { written = r; reading = reading })
  read_back reading e =
      let same = e ∙ written_reads_back in
      record { written = wrote; reading = same; octets = rw same written_addresses }
