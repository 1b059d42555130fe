-- The writer is handed the very request and octets that were read.
use Rattle.std.proofs.Common.{arith, ◌∙◌, ap, ℕ}
use Rattle.wire.specs.Octets.{part_at}
use Rattle.wire.proofs.Parts.{own_octets}
use Rattle.rate.specs.Writing.{written}
use Rattle.rate.proofs.Blank.{blank}
use Rattle.rate_reader.specs.Reading.{Read, read}
use Rattle.roundtrip.proofs.Again.{taken, written_again}
use Rattle.roundtrip.proofs.write_again.Goals as goal

pub returns : goal.returns
returns c =
    let s = c.args.frame.now in
    let a : Read = read c.read-reading.result in
    let t = taken (λ x d. record { request = blank x.request d.0; start = d.1.1.0; extent = d.1.1.1 }) c.read-reading.result c.unwrap_or_default-read.result c.unwrap_or_default-read.ensures in
    let octets = own_octets c.args.frame _ _ c.part-addresses.ensures in
    written_again s c.args.out.now c.write-written.new.out a c.part-addresses.result.now (written c.write-written.result)
    c.read-reading.ensures
    (octets ∙ (ap (λ (n : ℕ). part_at s n c.unwrap_or_default-read.result.extent) t.start ∙ ap (λ (n : ℕ). part_at s a.start n) t.extent))
    (omega (arith, c.type_inv.frame 15))
    (rw t.request at c.write-written.ensures)
