-- The round trip of a rate request, both ways: what is written reads back the same, and what is accepted is written again with the same header.
-- Document 01, 'The rate request on the wire'.
use Rattle.std.specs.Prelude.{ℕ, ◌+◌, ◌*◌, ◌/◌, ◌≤◌, ◌≡◌, List, [], length, take}
use Rattle.wire.specs.Octets.{part_at}
use Rattle.wire.specs.Refusals.{first, answered}
use Rattle.wire.specs.ShortFormat.{header_length}
use Rattle.rate.specs.declared.Request.{Request}
use Rattle.rate_reader.specs.Reading.{Read, bands_of, refusals, refused_by, read, read_of}
use Rattle.rate.specs.Writing.{Written, written, writer_refusals, Wrote}
use Rattle.roundtrip.specs.declared.Trip as results

-- what the writer and the reader answered, as numbers and values
pub record Trip : Type 0 where
  pub written : Written
  pub reading : Read

abbrev pub trip : results.Trip → Trip
trip t = record { written = written t.written; reading = read t.reading }

-- the reading of what was written for a request
abbrev pub asked : Request → List ℕ → Read
asked q a = record { number = 0; request = q; addresses = length a / 6; start = 20 + 2 * q.bands; extent = length a }

-- written, then read: every field, and the addresses in the octets that the reading points to. Where the writer refuses, no octets are written, and none are
-- too few for a frame: number 10
pub record ReadBack (q : Request) (a before after : List ℕ) (r : Trip) : Type 0 where
  pub written : Wrote q a before after r.written
  pub reading : r.reading ≡ answered (λ n. refused_by 10) (writer_refusals q a (length before)) (asked q a)
  pub octets : part_at (take r.written.count after) r.reading.start r.reading.extent ≡ answered (λ n. []) (writer_refusals q a (length before)) a

-- read, then written: the same header, where the frame is accepted with at most two bands and the output has room for it and for 60 octets
pub record WrittenAgain (s before after : List ℕ) (r : Trip) : Type 0 where
  pub reading : r.reading ≡ read_of s
  pub written : Wrote (read_of s).request (part_at s (read_of s).start (read_of s).extent) before after r.written
  pub number : first (refusals s) ≡ 0 → bands_of s ≤ 2 → 60 ≤ length before → header_length s ≤ length before → r.written.number ≡ 0
  pub header : first (refusals s) ≡ 0 → bands_of s ≤ 2 → 60 ≤ length before → header_length s ≤ length before → take (header_length s) after ≡ take (header_length s) s
