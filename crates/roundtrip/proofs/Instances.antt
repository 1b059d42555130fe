-- Each round trip met with content, by computation: a request whose fields all differ is written and read back, one that is refused reads back as a frame of no
-- octets, and accepted frames are written again. Document 01, 'The rate request on the wire'.
use mathlib.Core.Path.{◌≡◌, refl}
use mathlib.Core.List.{List, [], ◌∷◌, ◌++◌}
use Prim.Native.Nat.{ℕ}
use lib.Dec.{lit≤}
use lib.ListN.{take, set, replicate}
use Rattle.wire.specs.Octets.{six_at, within, part_at, all_below}
use Rattle.wire.specs.Refusals.{first}
use Rattle.wire.specs.ShortFormat.{ethertype_right, next_ethertype_zero}
use Rattle.rate.specs.Request.{opcode_right, some_band, band_one_right, band_two_right, ranks_right, group_addresses}
use Rattle.rate_reader.specs.Reading.{of_band_two, start_of, extent_of, addresses_of, request_of, length_fits, ss_type_right, ss_length_fits, ss_version_right, lengths_agree, refusals, accepted, read_of}
use Rattle.rate.specs.Writing.{ss_length_for, fixed_part, band_part, header_for, frame_for, absent_band_empty, layout_holds, output_holds, writer_refusals, write_of, output_of}
use Rattle.roundtrip.specs.Samples.{ask, one, seven, blank, varied, varied_addresses, varied_frame}
use Rattle.roundtrip.specs.Trip.{Trip, ReadBack, WrittenAgain}

-- 60 octets are written, and three addresses are read from octet 24 on
abbrev done : Trip
done = record { written = record { number = 0; count = 60 }; reading = record { number = 0; request = varied; addresses = 3; start = 24; extent = 18 } }

-- 66 octets are written, and seven addresses are read from octet 22 on
abbrev done_longer : Trip
done_longer = record { written = record { number = 0; count = 66 }; reading = record { number = 0; request = one; addresses = 7; start = 22; extent = 42 } }

-- nothing is written, and nothing read
abbrev refused : Trip
refused = record { written = record { number = 23; count = 0 }; reading = record { number = 10; request = blank; addresses = 0; start = 0; extent = 0 } }

-- two frames with an octet of padding that is not 0: the first has two bands, and the second a header of 66 octets
abbrev shorter_frame : List ℕ
shorter_frame = set varied_frame 50 0x77

abbrev longer_frame : List ℕ
longer_frame = seven ++ (0x77 ∷ [])

-- the octets behind a frame stay; three bands are refused; the two frames are accepted, and written again into 60 octets and into as many as the header has
pub record Met : Type 0 where
  pub back : ReadBack varied varied_addresses (replicate 62 0xff) (varied_frame ++ (0xff ∷ 0xff ∷ [])) done
  pub not_written : ReadBack (ask 0 3 4 1 9 2) [] (replicate 60 0xff) (replicate 60 0xff) refused
  pub accepted_shorter : first (refusals shorter_frame) ≡ 0
  pub again_shorter : WrittenAgain shorter_frame (replicate 60 0xff) varied_frame done
  pub accepted_longer : first (refusals longer_frame) ≡ 0
  pub again_longer : WrittenAgain longer_frame (replicate 66 0xff) seven done_longer

pub trips_met : Met
unfolding six_at within part_at all_below ethertype_right next_ethertype_zero opcode_right some_band band_one_right band_two_right ranks_right group_addresses of_band_two start_of extent_of addresses_of request_of length_fits ss_type_right ss_length_fits ss_version_right lengths_agree refusals accepted read_of ss_length_for fixed_part band_part header_for frame_for absent_band_empty layout_holds output_holds writer_refusals write_of output_of
trips_met =
    record {
      back = record { written = record { answer = refl; output = refl }; reading = refl; octets = refl };
      not_written = record { written = record { answer = refl; output = refl }; reading = refl; octets = refl };
      accepted_shorter = refl;
      again_shorter =
          record { reading = refl; written = record { answer = refl; output = refl }; number = λ none two least room. refl; header = λ none two least room. refl };
      accepted_longer = refl;
      again_longer =
          record { reading = refl; written = record { answer = refl; output = refl }; number = λ none two least room. refl; header = λ none two least room. refl };
    }

-- both meet what the statement asks of a frame and its output: their headers, of 44 and 66 octets, are written again
pub headers_met : (take 44 varied_frame ≡ take 44 shorter_frame) × (take 66 seven ≡ take 66 longer_frame)
headers_met =
    let shorter = trips_met.again_shorter.header trips_met.accepted_shorter (lit≤ tt) (lit≤ tt) (lit≤ tt) in
    let longer = trips_met.again_longer.header trips_met.accepted_longer (lit≤ tt) (lit≤ tt) (lit≤ tt) in
    (shorter, longer)
