-- What a call on one open place promises: the answer and the buffers are the rule's, and the place means what the rule makes of its record.
use Rattle.std.specs.Prelude.{ℕ, ◌≡◌, true, List, [], ◌∷◌, length, set, replicate, Result, Ok, Err}
use Rattle.ring.specs.Ring.{next}
use Rattle.larq.specs.Channel.{window}
use Rattle.larq.specs.Answer.{Change, same, holds, freed, Outcome}
use Rattle.larq.specs.Events.{Act}
use Rattle.larq.specs.Table.{Lent, Event, one}
use Rattle.larq.specs.Refused.{number_of}
use Rattle.larq.specs.declared.refused.Refused.{Refused}
use Rattle.slots.specs.Slots.{slots, place_words, with_head}
use Rattle.record.specs.Place.{record_of, place_lent}
use Rattle.record.specs.Buffers.{Wrote}
use Rattle.judging.specs.Judge.{event_on}
use Rattle.place.specs.declared.Answer.{Answer}

-- the three answer buffers
pub record Buffers : Type 0 where
  pub up : List ℕ
  pub returned : List ℕ
  pub nack : List ℕ

abbrev pub buffers : List ℕ → List ℕ → List ℕ → Buffers
buffers up returned nack = record { up = up; returned = returned; nack = nack }

-- what a host is told of a call: the number, how many entries of each buffer were written, and how many numbers were given up
pub record Told : Type 0 where
  pub number : ℕ
  pub up : ℕ
  pub returned : ℕ
  pub nack : ℕ
  pub lost : ℕ

-- the cases of a result: an answer has number 0, and a refusal its number and all counts 0
abbrev pub told : Result Answer Refused → Told
told (Ok a) = record { number = 0; up = a.up; returned = a.returned; nack = a.nack; lost = a.lost }
told (Err e) = record { number = number_of e; up = 0; returned = 0; nack = 0; lost = 0 }

-- a number beside an answer, as a host is told of both
abbrev pub told_as : ℕ → Answer → Told
told_as n a = record { number = n; up = a.up; returned = a.returned; nack = a.nack; lost = a.lost }

-- what a call tells is the rule's: number, counts, lists and lost count, and what the buffers then hold
pub record Answered (rule : Outcome ℕ) (before after : Buffers) (given : Told) : Type 0 where
  pub number : given.number ≡ rule.answer.number
  pub up : Wrote rule.answer.up before.up after.up given.up
  pub returned : Wrote rule.answer.returned before.returned after.returned given.returned
  pub nack : Wrote rule.answer.nack before.nack after.nack given.nack
  pub lost : given.lost ≡ rule.answer.lost

-- an answer, count by count
pub record Says (u r q l : ℕ) (given : Answer) : Type 0 where
  pub up : given.up ≡ u
  pub returned : given.returned ≡ r
  pub nack : given.nack ≡ q
  pub lost : given.lost ≡ l

-- a channel begins with number s, or begins anew: its record is that of one just opened, and s goes up
pub record Begins (s handle time : ℕ) (words up words' up' : List ℕ) (given : Answer) : Type 0 where
  pub head : words' ≡ with_head words s (next s) time
  pub frame : up' ≡ set up 0 handle
  pub answer : Says 1 0 0 0 given

-- the parts of one place
pub record Parts : Type 0 where
  pub words : List ℕ
  pub handles : List ℕ
  pub marks : List ℕ

abbrev pub parts : List ℕ → List ℕ → List ℕ → Parts
parts words handles marks = record { words = words; handles = handles; marks = marks }

-- an open place after a change: untouched, or it means the new record, or it is zeros
abbrev pub Became : Change ℕ → Parts → Parts → Type 0
Became same before after = after ≡ before
Became (holds c) before after = record_of after.words after.handles after.marks ≡ c
Became freed before after = after ≡ parts (replicate place_words 0) (replicate slots 0) (replicate slots 0)

-- what is lent for a call
abbrev pub lent_at : Parts → Buffers → Lent
lent_at p b =
    place_lent (length p.words) (length p.handles) (length p.marks) (length b.up) (length b.returned) (length b.nack)

-- an event at an open place, on its own
abbrev pub event_at : Parts → Buffers → ℕ → Act ℕ → Event ℕ
event_at p b time act = event_on (lent_at p b) time act

-- the rule for that event: the numbers 1, 2, 6, 7, 8 in their order, then what the event does
abbrev pub rule_at : Parts → Buffers → ℕ → Act ℕ → Outcome ℕ
rule_at p b time act = one window true (record_of p.words p.handles p.marks ∷ []) (event_at p b time act)

-- a call does what an outcome says: the answer, the buffers and the place
pub record DidAt (rule : Outcome ℕ) (before after : Parts) (had has : Buffers) (given : Told) : Type 0 where
  pub answer : Answered rule had has given
  pub became : Became rule.change before after

-- a call on an open place
pub record Called (act : Act ℕ) (time : ℕ) (before after : Parts) (had has : Buffers) (given : Told) : Type 0 where
  pub answer : Answered (rule_at before had time act) had has given
  pub became : Became (rule_at before had time act).change before after
