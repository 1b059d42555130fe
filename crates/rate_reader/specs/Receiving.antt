-- What receiving a frame gives: the reading, and of the caller's frame the octets where the addresses stand.
-- Document 01, 'The rate request on the wire', on what the reader gives.
use Rattle.std.specs.Prelude.{ℕ, ◌≡◌, List, Result, Ok, Err, IfOk}
use Rattle.std.specs.Borrow.{Bor}
use Rattle.wire.specs.Octets.{OwnPart}
use Rattle.rate.specs.declared.refused.Refused.{Refused}
use Rattle.rate_reader.specs.Reading.{read, read_of}
use Rattle.rate_reader.specs.declared.Reading.{Reading}
use Rattle.rate_reader.specs.declared.reader.Received.{Received}

-- the reading of what is received
abbrev pub reading_in : Result Received Refused → Result Reading Refused
reading_in (Ok r) = Ok r.reading
reading_in (Err e) = Err e

pub record Receives (frame : Bor (List ℕ)) (r : Result Received Refused) : Type 0 where
  pub reading : read (reading_in r) ≡ read_of frame.now
  pub addresses : IfOk r (λ (x : Received). OwnPart frame (read_of frame.now).start (read_of frame.now).extent x.addresses)
