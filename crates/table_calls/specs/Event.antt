-- What a call on the lent table promises, for each of the four events: the answer and the table are those of the rules, and only the place
-- that the call addresses changes. Document 01, 'The channel table', 'The four channel events', 'Numbers the box may answer with'.
use Rattle.std.specs.Prelude.{ℕ, ◌<◌, ◌≡◌, length, Option, Some, None}
use Rattle.larq.specs.Channel.{window}
use Rattle.larq.specs.Answer.{Change, same, holds, freed}
use Rattle.larq.specs.Events.{Act}
use Rattle.larq.specs.Table.{Key, held, Event, outcome, step}
use Rattle.place.specs.Call.{Buffers, Told, Answered}
use Rattle.table.specs.Addressed.{addressed}
use Rattle.table.specs.First.{places}
use Rattle.table.specs.Table.{Slices, at_place, place_at, table_of, zeros}
use Rattle.table.specs.Way.{table_lent}

-- the event of a call: what is lent is told by the lengths of the slices and buffers
abbrev pub event_of : Key → ℕ → Act ℕ → Slices → Buffers → Event ℕ
event_of k time act s b =
    record {
      key = k;
      time = time;
      act = act;
      lent = table_lent (length s.keys) (length s.words) (length s.handles) (length s.marks) (length b.up) (length b.returned) (length b.nack);
    }

-- what becomes of the slices by a change: they are untouched; or the addressed place holds the record; or it is zeros
abbrev pub Changed : Change ℕ → Option ℕ → Key → Slices → Slices → Type 0
Changed same place k before after = after ≡ before
Changed (holds c) (Some i) k before after = place_at after i ≡ held k c
Changed (holds c) None k before after = ⊥
Changed freed (Some i) k before after = at_place i after ≡ zeros
Changed freed None k before after = ⊥

-- a call: number, counts, lists and lost count are the rule's for the table at entry; the table at exit is the rule's step; the addressed
-- place changed as the rule says, and every other place keeps its very words
pub record Did (event : Event ℕ) (before after : Slices) (had has : Buffers) (given : Told) : Type 0 where
  pub answer : Answered (outcome window (table_of before) event) had has given
  pub stepped : table_of after ≡ step window (table_of before) event
  pub changed : Changed (outcome window (table_of before) event).change (addressed event.key before) event.key before after
  pub elsewhere : (j : ℕ) → j < places → (addressed event.key before ≡ Some j → ⊥) → at_place j after ≡ at_place j before

-- a call of an event, of a key and at a time
abbrev pub Call : Key → ℕ → Act ℕ → Slices → Slices → Buffers → Buffers → Told → Type 0
Call k time act before after had has given = Did (event_of k time act before had) before after had has given
