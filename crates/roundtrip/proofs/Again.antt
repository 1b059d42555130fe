-- An accepted request with at most two bands is, given room for the header and for 60 octets, written again with the same header.
-- Document 01, 'The rate request on the wire'. Assumes nothing but that SSLength is an octet.
use mathlib.Core.Path.{◌≡◌, refl, ◌∙◌, sym, ap}
use mathlib.Core.Bool.{Bool, true, false, cond, not, ◌&&◌, ◌||◌}
use mathlib.Core.List.{List, [], ◌∷◌, ◌++◌, append_assoc}
use mathlib.Core.Logic.{⊎_elim}
use Prim.Native.Nat.{ℕ, suc, ◌+◌, ◌*◌, ◌-◌, ◌/◌, ◌%◌, ◌≤◌}
use native.Mathlib.Nat.{eq-zero-or-pos}
use native.Mathlib.Omega.{arith}
use borrow.Author.Tests.{leb-true, leb-false, eqb-true, eqb-false, le-leb, eq-eqb, not-true}
use lib.Dec.{leb, eqb, lit<, lit≤}
use lib.ListN.{length, take, drop, length-drop}
use lib.Seq.{length-take-le, take-add, drop-drop, take_at}
use Rattle.wire.specs.Octets.{octet_at, six_from, six_at, part_at}
use Rattle.wire.specs.Refusals.{first}
use Rattle.wire.specs.ShortFormat.{ethertype_right, ss_type, ss_length, ss_version, header_length, next_ethertype_zero}
use Rattle.wire.proofs.Answered.{first_accepts}
use Rattle.wire.proofs.Joined.{and_left, and_right}
use Rattle.wire.proofs.Octets.{octets_from, take_octets, six_within, length_six}
use Rattle.wire.proofs.Within.{le_within}
use Rattle.std.specs.Prelude.{Result, Ok, Err}
use Rattle.std.specs.Result.{ResultUnwrapsOrElse}
use Rattle.rate.specs.declared.Request.{Request}
use Rattle.rate.specs.declared.refused.Refused.{Refused}
use Rattle.rate_reader.specs.declared.Reading.{Reading}
use Rattle.rate.specs.Request.{some_band}
use Rattle.rate_reader.specs.Reading.{Read, read, bands_of, count_of, of_band_two, start_of, extent_of, addresses_of, request_of, ss_type_right, ss_version_right, refusals, refused_by, accepted, read_of}
use Rattle.rate.specs.Writing.{Written, ss_length_for, fixed_part, band_part, header_for, frame_for, absent_band_empty, layout_holds, output_holds, writer_refusals, write_of, output_of, Wrote}
use Rattle.roundtrip.specs.Trip.{WrittenAgain}
use Rattle.rate_reader.proofs.Accepted.{passed, header_within, lengths_agree_law}
use Rattle.rate.proofs.Frame.{length_frame}

module _ (s : List ℕ) (none : first (refusals s) ≡ 0) (two : bands_of s ≤ 2) (octet : ss_length s ≤ 255) where
  abbrev q : Request
  q = request_of s

  -- the addresses, as the part of the frame that holds them
  abbrev part : List ℕ
  part = take (6 * count_of s) (drop (20 + 2 * bands_of s) s)

  same_part : addresses_of s ≡ part
  unfolding addresses_of part_at start_of extent_of
  same_part =
      let w = le_within s (20 + 2 * bands_of s) (6 * count_of s) (omega (arith, header_within s none, lengths_agree_law s none)) in
      simp w

  length_part : length part ≡ 6 * count_of s
  length_part =
      let h = header_within s none in
      let e = lengths_agree_law s none in
      let l : length (drop (20 + 2 * bands_of s) s) ≡ length s - (20 + 2 * bands_of s) = length-drop (20 + 2 * bands_of s) s in
      length-take-le (6 * count_of s) (drop (20 + 2 * bands_of s) s) (omega arith)

  same_count : length part / 6 ≡ count_of s
  same_count = let l = length_part in omega arith

  same_length : ss_length_for q part ≡ ss_length s
  unfolding ss_length_for request_of
  same_length = let l = length_part in let e = lengths_agree_law s none in omega arith

  -- the frame's octets, part by part
  six_octets : (at : ℕ) → at + 6 ≤ 12 → octets_from 6 at s ≡ six_from s at → take 6 (drop at s) ≡ six_at s at
  six_octets at h e =
      let l : at + 6 ≤ length s = omega (arith, header_within s none) in
      take_octets 6 at s l ∙ (e ∙ sym (six_within s at l))

  fixed_octets : take 8 (drop 12 s) ≡ fixed_part q part
  unfolding fixed_part request_of refusals ethertype_right ss_type_right ss_version_right
  fixed_octets =
      let h = header_within s none in
      let e = passed s none 1 (lit< tt) in
      let high : octet_at s 12 ≡ 0x88 = eqb-true (octet_at s 12) 0x88 (and_left (eqb (octet_at s 12) 0x88) (eqb (octet_at s 13) 0x6c) e) in
      let low : octet_at s 13 ≡ 0x6c = eqb-true (octet_at s 13) 0x6c (and_right (eqb (octet_at s 12) 0x88) (eqb (octet_at s 13) 0x6c) e) in
      let type : ss_type s ≡ 1 = eqb-true (ss_type s) 1 (passed s none 2 (lit< tt)) in
      let version : ss_version s ≡ 0 = eqb-true (ss_version s) 0 (passed s none 4 (lit< tt)) in
      take_octets 8 12 s (omega (arith, lengths_agree_law s none)) ∙ simp (high, low, type, version, same_length, same_count)

  some : 1 ≤ bands_of s
  unfolding refusals some_band
  some =
      let e : not (eqb (bands_of s) 0) ≡ true = passed s none 6 (lit< tt) in
      ⊎_elim (λ z. absurd (eqb-false (bands_of s) 0 (not-true (eqb (bands_of s) 0) e) z)) (λ p. p) (eq-zero-or-pos (bands_of s))

  band_octets : take (2 * bands_of s) (drop 20 s) ≡ band_part q
  unfolding band_part request_of of_band_two
  band_octets = by_test (leb 2 (bands_of s)) refl
    where
      there : (n : ℕ) → 20 + 2 * n ≤ length s → bands_of s ≡ n → take (2 * bands_of s) (drop 20 s) ≡ octets_from (2 * n) 20 s
      there n h b = ap (λ (k : ℕ). take (2 * k) (drop 20 s)) b ∙ take_octets (2 * n) 20 s h

      by_test : (t : Bool) → leb 2 (bands_of s) ≡ t → take (2 * bands_of s) (drop 20 s) ≡ take (2 * bands_of s) (octet_at s 20 ∷ octet_at s 21 ∷ cond t (octet_at s 22) 0 ∷ cond t (octet_at s 23) 0 ∷ [])
      by_test true e =
          let b : bands_of s ≡ 2 = omega (arith, leb-true 2 (bands_of s) e) in
          there 2 (omega (arith, header_within s none, lengths_agree_law s none)) b
          ∙ ap (λ (k : ℕ). take (2 * k) (octet_at s 20 ∷ octet_at s 21 ∷ octet_at s 22 ∷ octet_at s 23 ∷ [])) (sym b)
      by_test false e =
          let b : bands_of s ≡ 1 = omega (arith, some, leb-false 2 (bands_of s) e) in
          there 1 (omega (arith, header_within s none, lengths_agree_law s none)) b
          ∙ ap (λ (k : ℕ). take (2 * k) (octet_at s 20 ∷ octet_at s 21 ∷ 0 ∷ 0 ∷ [])) (sym b)

  next_octets : take 2 (drop (14 + ss_length s) s) ≡ 0 ∷ 0 ∷ []
  unfolding refusals next_ethertype_zero
  next_octets =
      let e = passed s none 12 (lit< tt) in
      let high : octet_at s (14 + ss_length s) ≡ 0 = eqb-true (octet_at s (14 + ss_length s)) 0 (and_left (eqb (octet_at s (14 + ss_length s)) 0) (eqb (octet_at s (15 + ss_length s)) 0) e) in
      let low : octet_at s (15 + ss_length s) ≡ 0 = eqb-true (octet_at s (15 + ss_length s)) 0 (and_right (eqb (octet_at s (14 + ss_length s)) 0) (eqb (octet_at s (15 + ss_length s)) 0) e) in
      let n : suc (14 + ss_length s) ≡ 15 + ss_length s = omega arith in
      take_octets 2 (14 + ss_length s) s (omega (arith, header_within s none)) ∙ simp (n, high, low)

  -- the header, cut into its parts and put together again
  cut : take (6 + (6 + (8 + (2 * bands_of s + (6 * count_of s + 2))))) s
      ≡ take 6 s ++ (take 6 (drop 6 s) ++ (take 8 (drop 12 s) ++ (take (2 * bands_of s) (drop 20 s) ++ (part ++ take 2 (drop (20 + 2 * bands_of s + 6 * count_of s) s)))))
  cut = simp (take-add, drop-drop)

  joined : 20 + 2 * bands_of s + 6 * count_of s ≡ 14 + ss_length s
      → take 6 s ++ (take 6 (drop 6 s) ++ (take 8 (drop 12 s) ++ (take (2 * bands_of s) (drop 20 s) ++ (part ++ take 2 (drop (20 + 2 * bands_of s + 6 * count_of s) s)))))
      ≡ header_for q part
  unfolding header_for request_of
  joined n =
      simp (n, next_octets, band_octets, fixed_octets, six_octets 6 (lit≤ tt) refl)
      (ap (λ (l : List ℕ). l ++ (six_at s 6 ++ (fixed_part q part ++ (band_part q ++ (part ++ (0 ∷ 0 ∷ [])))))) (six_octets 0 (lit≤ tt) refl))

  pub same_header : header_for (request_of s) (addresses_of s) ≡ take (header_length s) s
  same_header =
      let e = lengths_agree_law s none in
      let all : 6 + (6 + (8 + (2 * bands_of s + (6 * count_of s + 2)))) ≡ header_length s = omega arith in
      let next : 20 + 2 * bands_of s + 6 * count_of s ≡ 14 + ss_length s = omega arith in
      rw same_part (sym (ap (λ (n : ℕ). take n s) (sym all) ∙ (cut ∙ joined next)))

  -- number 23: what was read can be laid out
  layout_holds_law : layout_holds q part ≡ true
  unfolding layout_holds request_of absent_band_empty of_band_two
  layout_holds_law =
      let l = length_part in
      let whole : eqb (length part % 6) 0 ≡ true = eq-eqb (length part % 6) 0 (omega arith) in
      let at_most : leb (bands_of s) 2 ≡ true = le-leb (bands_of s) 2 two in
      let short : leb (ss_length_for q part) 255 ≡ true = le-leb (ss_length_for q part) 255 (rw same_length octet) in
      let empty : (leb 2 (bands_of s) || (eqb (cond (leb 2 (bands_of s)) (octet_at s 22) 0) 0 && eqb (cond (leb 2 (bands_of s)) (octet_at s 23) 0) 0)) ≡ true = by_test (leb 2 (bands_of s)) in
      simp (whole, at_most, empty, short)
    where
      by_test : (t : Bool) → (t || (eqb (cond t (octet_at s 22) 0) 0 && eqb (cond t (octet_at s 23) 0) 0)) ≡ true
      by_test true = refl
      by_test false = refl

  -- room for 60 octets and for the header is room for the frame
  pub frame_fits : (room : ℕ) → 60 ≤ room → header_length s ≤ room → length (frame_for (request_of s) (addresses_of s)) ≤ room
  unfolding request_of
  frame_fits room least header = rw same_part (omega (arith, length_frame (request_of s) part (length_six s 0) (length_six s 6) two, length_part, lengths_agree_law s none))

  pub writes_again : (room : ℕ) → length (frame_for (request_of s) (addresses_of s)) ≤ room → first (writer_refusals (request_of s) (addresses_of s) room) ≡ 0
  unfolding writer_refusals refusals request_of output_holds
  writes_again room h =
      let layout : layout_holds q (addresses_of s) ≡ true = rw same_part layout_holds_law in
      let holds : leb (length (frame_for q (addresses_of s))) room ≡ true = le-leb (length (frame_for q (addresses_of s))) room h in
      simp
      (passed s none 5 (lit< tt), passed s none 6 (lit< tt), layout, passed s none 8 (lit< tt), passed s none 9 (lit< tt), passed s none 10 (lit< tt), passed s none 11 (lit< tt), holds)

-- whatever the writer leaves of what was read begins with the same header
module _ (s before after : List ℕ) (r : Written) (none : first (refusals s) ≡ 0) (two : bands_of s ≤ 2) (octet : ss_length s ≤ 255) (least : 60 ≤ length before) (room : header_length s ≤ length before) (wrote : Wrote (request_of s) (addresses_of s) before after r) where
  fits : length (frame_for (request_of s) (addresses_of s)) ≤ length before
  fits = frame_fits s none two octet (length before) least room

  nothing_refused : first (writer_refusals (request_of s) (addresses_of s) (length before)) ≡ 0
  nothing_refused = writes_again s none two octet (length before) fits

  pub accepted_again : r.number ≡ 0
  unfolding writer_refusals write_of
  accepted_again = ap (λ (w : Written). w.number) (wrote.answer ∙ first_accepts {A = Written} (λ n. record { number = n; count = 0 }) _ (writer_refusals (request_of s) (addresses_of s) (length before)) refl nothing_refused)

  pub header_again : take (header_length s) after ≡ take (header_length s) s
  unfolding writer_refusals frame_for output_of
  header_again =
      let header : List ℕ = header_for (request_of s) (addresses_of s) in
      let frame = wrote.output ∙ first_accepts (λ n. before) _ (writer_refusals (request_of s) (addresses_of s) (length before)) refl nothing_refused in
      let same : header ≡ take (header_length s) s = same_header s none two octet in
      let long : length header ≡ header_length s = ap length same ∙ length-take-le (header_length s) s (header_within s none) in
      ap (λ (l : List ℕ). take (header_length s) l) (frame ∙ append_assoc header _ _) ∙ (take_at header _ (header_length s) long ∙ same)

-- an accepted frame's reading has the request and the addresses of the definitions
from_accepted : (s before after : List ℕ) (w : Written) → first (refusals s) ≡ 0 → Wrote (read_of s).request (part_at s (read_of s).start (read_of s).extent) before after w → Wrote (request_of s) (addresses_of s) before after w
unfolding read_of refusals accepted addresses_of start_of extent_of request_of
from_accepted s before after w none wrote = rw (first_accepts refused_by (accepted s) (refusals s) refl none) at wrote

-- the request that is written again, and the place of its addresses: of a refusal zeros
pub record Taken (a : Read) (x : Reading) : Type 0 where
  pub request : x.request ≡ a.request
  pub start : x.start ≡ a.start
  pub extent : x.extent ≡ a.extent

pub taken : {zeros : Reading → Type 0} → ((x : Reading) → zeros x → Taken (refused_by 0) x) → (r : Result Reading Refused) (x : Reading) → ResultUnwrapsOrElse r zeros x → Taken (read r) x
taken blank (Ok y) x e = record { request = ap (λ (z : Reading). z.request) e; start = ap (λ (z : Reading). z.start) e; extent = ap (λ (z : Reading). z.extent) e }
taken blank (Err d) x e = let t = blank x e in record { request = t.request; start = t.start; extent = t.extent }

-- read, and then written: the contract of both together
module _ (s before after : List ℕ) (reading : Read) (octets : List ℕ) (w : Written) where
  pub written_again : reading ≡ read_of s → octets ≡ part_at s reading.start reading.extent → ss_length s ≤ 255 → Wrote reading.request octets before after w
      → WrittenAgain s before after (record { written = w; reading = reading })
  written_again e part octet wrote =
      record {
        reading = e;
        written = whole;
        number = λ none two least room. accepted_again s before after w none two octet least room (of_accepted none);
        header = λ none two least room. header_again s before after w none two octet least room (of_accepted none);
      }
    where
      whole : Wrote (read_of s).request (part_at s (read_of s).start (read_of s).extent) before after w
      whole = rw e at (rw part at wrote)

      of_accepted : first (refusals s) ≡ 0 → Wrote (request_of s) (addresses_of s) before after w
      of_accepted none = from_accepted s before after w none whole
