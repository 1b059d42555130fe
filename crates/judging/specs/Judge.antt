-- What is decided of an event before anything is written. Document 01, 'Numbers the box may answer with'.
use Rattle.std.specs.Prelude.{ℕ, ◌<◌, ◌≡◌, Bool, cond, ◌&&◌, true, List, [], ◌∷◌, length, leb, ltb, eqb, Result}
use Rattle.wire.specs.Answers.{Said, accepted, refused, result_says}
use Rattle.wire.specs.Refusals.{Refusal, answered}
use Rattle.larq.specs.Channel.{window, reach, Cell, Channel, span_of, head_missing, times, orderly}
use Rattle.larq.specs.Events.{Act, frame}
use Rattle.ring.specs.Ring.{is_number, steps, seen, Side, Ahead, Behind, Far}
use Rattle.larq.specs.Table.{Lent, Event, refusals}
use Rattle.larq.specs.Refused.{number_of}
use Rattle.larq.specs.declared.refused.Refused.{Refused}
use Rattle.slots.specs.Slots.{slot_of, current_in, oldest_in, latest_in, is_missing}
use Rattle.record.specs.Place.{cells_from, cell_at, record_of}
use Rattle.record.specs.Moving.{span_in}
use Rattle.record.specs.declared.Record.{Record}
use Rattle.judging.specs.declared.Spot.{Spot}
use Rattle.judging.specs.declared.Spot.TheVariants as spot

-- the times of the missing numbers, in sequence order: the handles have no part in it
abbrev pub times_of : List ℕ → List ℕ → ℕ → ℕ → List ℕ
times_of words marks m n = times (cells_from (cell_at words [] marks) m n)

-- the parts of the rules' test that a record is not broken, `sound`: C and M are in the ring; the span is not above the window, M is missing if anything is,
-- and the times of missing numbers are in order. Together they are that test (`sound_is` of proofs/Sounds)
abbrev pub in_ring : List ℕ → Bool
in_ring words = is_number (current_in words) && is_number (oldest_in words)

abbrev pub shapely : ℕ → List (Cell ℕ) → Bool
shapely latest cells = leb (length cells) window && (head_missing cells && orderly 0 latest (times cells))

abbrev pub in_shape : ℕ → ℕ → List ℕ → List ℕ → Bool
in_shape c m words marks = shapely (latest_in words) (cells_from (cell_at words [] marks) m (span_of c m))

-- an event at a channel whose record is at hand: its key has no part in it
abbrev pub event_on : Lent → ℕ → Act ℕ → Event ℕ
event_on lent time act = record { key = record { destination = 0; source = 0; priority = 0 }; time = time; act = act; lent = lent }

-- the refusals that every event with number s has at an open channel. They are data's: of the rules' list it can fail 1, 2, 6 and 7 there, whatever its
-- handle. A reminder has 8 besides, and a tick and a close are judged as if they had number 0 (`common_to_all` of proofs/Refusing)
abbrev pub common : Lent → ℕ → ℕ → Channel ℕ → List Refusal
common lent s time c = refusals window true (c ∷ []) (event_on lent time (frame s 0))

-- what a record by value says: C, M and the latest time
abbrev pub head_values : Record → List ℕ
head_values r = r.current.0 ∷ (r.oldest.0 ∷ (r.latest ∷ []))

-- what each case says: document 01's number, 0 where the event goes on, and then C, M and the latest time
abbrev pub judged_says : Result Record Refused → Said
judged_says = result_says head_values number_of

-- what is to be said of an event with number s at a place: the first number that refuses it, or the record that the place holds
abbrev pub judged_for : Lent → List ℕ → List ℕ → ℕ → ℕ → Said
judged_for lent words marks s time =
    answered refused (common lent s time (record_of words [] marks)) (accepted (current_in words ∷ (oldest_in words ∷ (latest_in words ∷ []))))

-- Where the number of a frame lies, by its side as seen from C: ahead it is the next expected one, if it is M and nothing is missing, or another; behind
-- it is missing, if it is in the window and marked so, or unwanted, since it waits already or lies before M. Document 01, 'Data'.
abbrev pub spot_by : Record → List ℕ → ℕ → Side → Spot
spot_by r marks s (Ahead d) = cond (eqb s r.oldest.0 && eqb (span_in r) 0) spot.Next (spot.Ahead d)
spot_by r marks s (Behind d) = cond (ltb (steps r.oldest.0 s) (span_in r) && is_missing marks (slot_of s)) spot.Missing spot.Unwanted
spot_by r marks s Far = spot.Far

abbrev pub spot_for : Record → List ℕ → ℕ → Spot
spot_for r marks s = spot_by r marks s (seen (reach window) r.current.0 s)

-- a number at C or behind it, in the window or before M
pub record BehindAt (c s : ℕ) : Type 0 where
  pub by : ℕ
  pub is : seen (reach window) c s ≡ Behind by

-- what is so of a missing number, as what lets it wait asks for it
pub record MissingAt (r : Record) (marks : List ℕ) (s : ℕ) : Type 0 where
  pub behind : BehindAt r.current.0 s
  pub within : steps r.oldest.0 s < span_in r
  pub marked : is_missing marks (slot_of s) ≡ true
