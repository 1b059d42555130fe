-- Every row of the table of cases holds, by computation.
use mathlib.Core.Path.{refl}
use Rattle.wire.specs.Octets.{six_at, within, part_at, all_below}
use Rattle.wire.specs.ShortFormat.{ethertype_right, next_ethertype_zero}
use Rattle.rate.specs.Request.{opcode_right, some_band, band_one_right, band_two_right, ranks_right, group_addresses}
use Rattle.rate_reader.specs.Reading.{of_band_two, start_of, extent_of, addresses_of, request_of, length_fits, ss_type_right, ss_length_fits, ss_version_right, lengths_agree, refusals, accepted, read_of}
use Rattle.rate.specs.Writing.{ss_length_for, fixed_part, band_part, header_for, frame_for, absent_band_empty, layout_holds, output_holds, writer_refusals, write_of, output_of}
use Rattle.roundtrip.specs.Cases.{Every, All, frames, formats, counts, first_band, second_band, ranks, groups, later_bands, nexts, layouts, outputs, reader_order, writer_order, cases}

pub all_hold : All cases
unfolding cases six_at within part_at all_below ethertype_right next_ethertype_zero opcode_right some_band band_one_right band_two_right ranks_right group_addresses of_band_two start_of extent_of addresses_of request_of length_fits ss_type_right ss_length_fits ss_version_right lengths_agree refusals accepted read_of ss_length_for fixed_part band_part header_for frame_for absent_band_empty layout_holds output_holds writer_refusals write_of output_of
all_hold =
    let shown : Every frames = (refl, (refl, (refl, (refl, (refl, (refl, tt)))))) in
    let short : Every formats = (refl, (refl, (refl, (refl, (refl, (refl, (refl, (refl, (refl, (refl, (refl, (refl, (refl, (refl, (refl, (refl, tt)))))))))))))))) in
    let counted : Every counts = (refl, (refl, (refl, (refl, (refl, (refl, (refl, (refl, (refl, (refl, (refl, (refl, (refl, (refl, (refl, tt))))))))))))))) in
    let one : Every first_band = (refl, (refl, (refl, (refl, (refl, (refl, (refl, (refl, tt)))))))) in
    let two : Every second_band = (refl, (refl, (refl, (refl, (refl, (refl, (refl, (refl, (refl, (refl, (refl, (refl, tt)))))))))))) in
    let ranked : Every ranks = (refl, (refl, (refl, (refl, (refl, (refl, (refl, (refl, (refl, (refl, (refl, (refl, (refl, (refl, (refl, tt))))))))))))))) in
    let grouped : Every groups = (refl, (refl, (refl, (refl, (refl, (refl, (refl, (refl, (refl, (refl, (refl, (refl, (refl, (refl, tt)))))))))))))) in
    let skipped : Every later_bands = (refl, (refl, (refl, (refl, (refl, (refl, (refl, (refl, tt)))))))) in
    let ended : Every nexts = (refl, (refl, (refl, (refl, (refl, (refl, (refl, (refl, tt)))))))) in
    let laid : Every layouts = (refl, (refl, (refl, (refl, (refl, (refl, (refl, (refl, (refl, (refl, (refl, tt))))))))))) in
    let room : Every outputs = (refl, (refl, (refl, (refl, (refl, (refl, tt)))))) in
    let read_first : Every reader_order = (refl, (refl, (refl, (refl, (refl, (refl, (refl, (refl, (refl, (refl, (refl, (refl, (refl, tt))))))))))))) in
    let written-first : Every writer_order = (refl, (refl, (refl, (refl, (refl, (refl, (refl, tt))))))) in
    (shown, (short, (counted, (one, (two, (ranked, (grouped, (skipped, (ended, (laid, (room, (read_first, (written-first, tt)))))))))))))
