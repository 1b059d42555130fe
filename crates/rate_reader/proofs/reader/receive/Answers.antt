-- The octets at the reading's place lie within the frame, so that the very part is handed back.
use Rattle.std.proofs.Common.{◌≡◌, ap, sym}
use Rattle.wire.proofs.Parts.{own_within}
use Rattle.rate_reader.specs.Reading.{Read, read_of}
use Rattle.rate_reader.proofs.Accepted.{reading_within}
use Rattle.rate_reader.proofs.reader.receive.Goals as goal

pub returns : goal.returns
returns c =
    let s = c.args.frame.now in
    let e = c.in_ok-reading.ensures in
    let start : (read_of s).start ≡ c.in_ok-reading.reading.start = sym (ap (λ (a : Read). a.start) e) in
    let extent : (read_of s).extent ≡ c.in_ok-reading.reading.extent = sym (ap (λ (a : Read). a.extent) e) in
    let there = rw (start, extent) at (reading_within s) in
    record { reading = e; addresses = rw (start, extent) (own_within c.args.frame _ _ there c.part-addresses.ensures) }
