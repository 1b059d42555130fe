-- A box whose handles are renamed by f: the words for it. What the rules say of it is proofs/Renamed: they pass handles on and look at none.
use Rattle.std.specs.Prelude.{ℕ, List, map}
use Rattle.larq.specs.Channel.{Cell, waits, missing, Channel}
use Rattle.larq.specs.Answer.{Answer, Change, same, holds, freed, Outcome}
use Rattle.larq.specs.Events.{Act, frame, reminder, tick, close}
use Rattle.larq.specs.Table.{Place, free, held, Table, Event}

module _ {A B : Type 0} (f : A → B) where
  abbrev pub on_cell : Cell A → Cell B
  on_cell (waits h) = waits (f h)
  on_cell (missing t) = missing t

  abbrev pub on_cells : List (Cell A) → List (Cell B)
  on_cells = map on_cell

  abbrev pub on_channel : Channel A → Channel B
  on_channel c = record { current = c.current; oldest = c.oldest; latest = c.latest; cells = on_cells c.cells }

  abbrev pub on_answer : Answer A → Answer B
  on_answer r = record { number = r.number; up = map f r.up; returned = map f r.returned; nack = r.nack; lost = r.lost }

  abbrev pub on_change : Change A → Change B
  on_change same = same
  on_change (holds c) = holds (on_channel c)
  on_change freed = freed

  abbrev pub on_outcome : Outcome A → Outcome B
  on_outcome o = record { answer = on_answer o.answer; change = on_change o.change }

  abbrev pub on_act : Act A → Act B
  on_act (frame s h) = frame s (f h)
  on_act (reminder s) = reminder s
  on_act tick = tick
  on_act close = close

  abbrev pub on_place : Place A → Place B
  on_place free = free
  on_place (held k c) = held k (on_channel c)

  abbrev pub on_table : Table A → Table B
  on_table = map on_place

  abbrev pub on_event : Event A → Event B
  on_event e = record { key = e.key; time = e.time; act = on_act e.act; lent = e.lent }

-- a handle that is marked with a number, and the handle without the mark
abbrev pub own : {A : Type 0} → ℕ × A → A
own x = x.1
