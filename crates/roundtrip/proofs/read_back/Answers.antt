-- What `write` ensures of the output, `read` reads.
use Rattle.std.proofs.Common.{rules, arith, ◌≡◌, ◌∙◌, sym, ap, ℕ, length, take}
use lib.Seq.{length-take-le}
use Rattle.rate.specs.Writing.{written}
use Rattle.rate_reader.specs.Reading.{read, read_of}
use Rattle.roundtrip.proofs.Back.{count_of_written, count_within, read_back}
use Rattle.roundtrip.proofs.read_back.Goals as goal

-- as many octets as `write` counts are in the output
pub slice_bounds-read-end : goal.slice_bounds-read-end
slice_bounds-read-end c =
    let d6 : length c.args.request.destination ≡ 6 = search rules in
    let s6 : length c.args.request.source ≡ 6 = search rules in
    let count = c.unwrap_or-count.ensures ∙ sym (count_of_written c.write-written.result) in
    omega (arith, count, count_within c.args.request c.args.addresses.now c.args.out.now c.write-written.new.out (written c.write-written.result) d6 s6 c.write-written.ensures)

pub slice_bounds-read-end-2 : goal.slice_bounds-read-end-2
slice_bounds-read-end-2 c =
    let d6 : length c.args.request.destination ≡ 6 = search rules in
    let s6 : length c.args.request.source ≡ 6 = search rules in
    let count = c.unwrap_or-count.ensures ∙ sym (count_of_written c.write-written.result) in
    let within = count_within c.args.request c.args.addresses.now c.args.out.now c.write-written.new.out (written c.write-written.result) d6 s6 c.write-written.ensures in
    omega (arith, length-take-le c.unwrap_or-count.result c.write-written.new.out (omega (arith, count, within)))

pub returns : goal.returns
returns c =
    let d6 : length c.args.request.destination ≡ 6 = search rules in
    let s6 : length c.args.request.source ≡ 6 = search rules in
    let count = c.unwrap_or-count.ensures ∙ sym (count_of_written c.write-written.result) in
    read_back c.args.request c.args.addresses.now c.args.out.now c.write-written.new.out (written c.write-written.result) d6 s6 c.write-written.ensures (read c.read-reading.result)
    (c.read-reading.ensures ∙ ap (λ (n : ℕ). read_of (take n c.write-written.new.out)) count)
