-- What a frame and the events that bring none ask for and promise inside their crates, place_frame and place_upkeep.
use Rattle.std.specs.Prelude.{ℕ, ◌+◌, ◌≤◌, ◌<◌, ◌≡◌, cond, true, List, [], ◌∷◌, length}
use Rattle.ring.specs.Ring.{steps, size}
use Rattle.larq.specs.Channel.{Cell, waits, Channel, window, reach}
use Rattle.larq.specs.Settling.{Walked}
use Rattle.larq.specs.Channel as channel
use Rattle.larq.specs.Answer.{Outcome, refused}
use Rattle.larq.specs.Events.{moved, filling, filled, data_on, reminder_on, side_of}
use Rattle.larq.specs.Table.{not_far}
use Rattle.slots.specs.Slots.{slots, slot_of, place_words, is_missing, with_handle, with_waiting}
use Rattle.record.specs.Place.{record_of}
use Rattle.record.specs.Buffers.{Laid}
use Rattle.record.specs.Moving.{record_in, span_in}
use Rattle.record.specs.declared.Record.{Record}
use Rattle.record.specs.Walk.{passes, walk_from}
use Rattle.place.specs.Call.{Parts}
use Rattle.place.specs.declared.Answer.{Answer}
use Rattle.stepping.specs.declared.Counts.{Counts}

-- the parts of a place are as long as they should be
pub record Sized (w h k : List ℕ) : Type 0 where
  pub words : length w ≡ place_words
  pub handles : length h ≡ slots
  pub marks : length k ≡ slots

-- what an event that is not refused finds: the record that the place holds, not broken. The times of missing numbers need not be told here
pub record Ready (r : Record) (w h k : List ℕ) : Type 0 where
  pub sized : Sized w h k
  pub held : record_in r w h k ≡ record_of w h k
  pub current : r.current.0 < size
  pub oldest : r.oldest.0 < size
  pub narrow : span_in r ≤ window
  pub head : 0 < span_in r → is_missing k (slot_of r.oldest.0) ≡ true

-- M's walk over the window of a record
abbrev pub walk_of : Record → ℕ → List ℕ → List ℕ → List ℕ → Walked ℕ
walk_of r until words handles marks = walk_from until words handles marks r.oldest.0 (span_in r)

-- how many numbers M passes on it
abbrev pub passed_of : Record → ℕ → List ℕ → List ℕ → List ℕ → ℕ
passed_of r until words handles marks = passes (walk_of r until words handles marks)

-- the answer that counts make, of an accepted call that gives nothing back
abbrev pub answer_of : Counts → Answer
answer_of k = record { up = k.up; returned = 0; nack = k.nack; lost = k.lost }

-- M can settle: it is a number of the ring, and what it passes has room behind what was handed up before in this call
pub record Roomy (r : Record) (had : Counts) (w h k up : List ℕ) : Type 0 where
  pub oldest : r.oldest.0 < size
  pub room : had.up + passed_of r 0 w h k ≤ length up

-- M has settled and the record is laid down, in a call that had answered so much before
pub record Finished (r : Record) (p : Parts) (had : Counts) (before w after : List ℕ) (k : Counts) : Type 0 where
  pub up : Laid (walk_of r 0 p.words p.handles p.marks).up had.up before after k.up
  pub nack : k.nack ≡ had.nack
  pub lost : k.lost ≡ had.lost
  pub became : record_of w p.handles p.marks ≡ moved r.current.0 r.latest (walk_of r 0 p.words p.handles p.marks)

-- how the last number of a step ahead comes: a frame brings it, and it waits with its handle; or a reminder tells of it, and it is missing too
pub data Last : Type 0 where
  Waits : ℕ → Last
  Missing : Last

abbrev pub cells_of : Last → List (Cell ℕ)
cells_of (Waits handle) = waits handle ∷ []
cells_of Missing = []

abbrev pub handles_with : Last → ℕ → List ℕ → List ℕ
handles_with (Waits handle) s handles = with_handle handles (slot_of s) handle
handles_with Missing s handles = handles

abbrev pub marks_with : Last → ℕ → List ℕ → List ℕ
marks_with (Waits handle) s marks = with_waiting marks (slot_of s)
marks_with Missing s marks = marks

-- s lies ahead of c, within the reach: so many numbers become missing, and s is the last of them or comes after them
pub record IsAhead (c s made : ℕ) (last : Last) : Type 0 where
  pub some : 0 < steps c s
  pub near : steps c s ≤ reach window
  pub all : steps c s ≡ made + length (cells_of last)

-- s lies behind, as the rules have it
abbrev pub filled_at : Channel ℕ → ℕ → ℕ → ℕ → Outcome ℕ
filled_at c t s h = filled channel.window c t h (filling c.cells (steps c.oldest s) h)

-- a frame at a record that is not broken
abbrev pub data_at : Channel ℕ → ℕ → ℕ → ℕ → Outcome ℕ
data_at c t s h = data_on channel.window c t s h (side_of channel.window c s)

-- a reminder at a record that is not broken: number 8 refuses it from far, as the last of the rules' list (`common_to_all` of judging/proofs/Refusing)
abbrev pub reminder_at : Channel ℕ → ℕ → ℕ → Outcome ℕ
reminder_at c t s =
    cond (not_far (side_of channel.window c s)) (reminder_on channel.window c t s (side_of channel.window c s)) (refused 8)
