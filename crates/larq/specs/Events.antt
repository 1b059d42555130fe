-- The four events on an open channel whose record is sound: document 01, 'The four channel events'; 001, 6.6.4.
-- w is the window, c the record, t the event's time, s its number, h its handle.
use Rattle.std.specs.Prelude.{ℕ, zero, suc, ◌-◌, Bool, cond, List, [], ◌∷◌, ◌++◌, length, replicate, ltb}
use Rattle.std.proofs.Math.Option.{Option, some, none}
use Rattle.ring.specs.Ring.{next, steps, rising, seen, Side, Ahead, Behind, Far}
use Rattle.larq.specs.Channel.{Cell, waits, missing, Channel, waiting, reach}
use Rattle.larq.specs.Settling.{Walked, walk, wide, stale}
use Rattle.larq.specs.Answer.{holds, freed, Outcome, accepted}

-- what the host tells: a data frame with its number and handle, a reminder with its number, a tick, a close
pub data Act (H : Type 0) : Type 0 where
  frame : ℕ → H → Act H
  reminder : ℕ → Act H
  tick : Act H
  close : Act H

-- the record of a channel that number s has just opened
abbrev pub opened : {H : Type 0} → ℕ → ℕ → Channel H
opened s t = record { current = s; oldest = next s; latest = t; cells = [] }

-- the record at the latest time t
abbrev pub taken : {H : Type 0} → Channel H → ℕ → Channel H
taken c t = record { current = c.current; oldest = c.oldest; latest = t; cells = c.cells }

-- the record after M has moved
abbrev pub moved : {H : Type 0} → ℕ → ℕ → Walked H → Channel H
moved s t p = record { current = s; oldest = p.oldest; latest = t; cells = p.cells }

-- those of a list that pass a test
abbrev pub those : (ℕ → Bool) → List ℕ → List ℕ
those test [] = []
those test (n ∷ ns) = cond (test n) (n ∷ those test ns) (those test ns)

-- a number is in the window that a walk left
abbrev pub in_window : {H : Type 0} → Walked H → ℕ → Bool
in_window p n = ltb (steps p.oldest n) (length p.cells)

-- NACK: of the k numbers from C + 1 on, which this call made missing, those still in the window
unfoldable pub asked : {H : Type 0} → Channel H → ℕ → Walked H → List ℕ
asked c k p = those (in_window p) (rising (next c.current) k)

-- the window when C has come to s: k numbers from C + 1 on are missing since t, and `last` follows
abbrev pub grown : {H : Type 0} → Channel H → ℕ → ℕ → List (Cell H) → List (Cell H)
grown c t k last = c.cells ++ (replicate k (missing t) ++ last)

abbrev pub settled_at : {H : Type 0} → Channel H → ℕ → ℕ → ℕ → Walked H → Outcome H
settled_at c t s k p = accepted p.up [] (asked c k p) p.lost (holds (moved s t p))

-- s lies ahead: the step that data and reminder share
abbrev pub ahead : {H : Type 0} → ℕ → Channel H → ℕ → ℕ → ℕ → List (Cell H) → Outcome H
ahead w c t s k last = settled_at c t s k (walk (wide w) c.oldest (grown c t k last))

-- the same with one cell more in front
abbrev pub after : {H : Type 0} → Cell H → Option (List (Cell H)) → Option (List (Cell H))
after c none = none
after c (some cs) = some (c ∷ cs)

-- the window in which the i-th number from M on waits with h, if that number is in the window and missing
abbrev pub filling : {H : Type 0} → List (Cell H) → ℕ → H → Option (List (Cell H))
filling [] i h = none
filling (waits g ∷ cs) zero h = none
filling (missing t ∷ cs) zero h = some (waits h ∷ cs)
filling (c ∷ cs) (suc i) h = after c (filling cs i h)

-- s lies behind: it waits, then settle; or it waits already or lies before M, and the new handle is returned
abbrev pub filled : {H : Type 0} → ℕ → Channel H → ℕ → H → Option (List (Cell H)) → Outcome H
filled w c t h none = accepted [] (h ∷ []) [] 0 (holds (taken c t))
filled w c t h (some cs) = settled_at c t c.current 0 (walk (wide w) c.oldest cs)

-- restart: what waits comes back in sequence order, and the channel is as one that s has just opened
abbrev pub restarted : {H : Type 0} → Channel H → ℕ → ℕ → H → Outcome H
restarted c t s h = accepted (h ∷ []) (waiting c.cells) [] 0 (holds (opened s t))

abbrev pub data_on : {H : Type 0} → ℕ → Channel H → ℕ → ℕ → H → Side → Outcome H
data_on w c t s h (Ahead d) = ahead w c t s (d - 1) (waits h ∷ [])
data_on w c t s h (Behind d) = filled w c t h (filling c.cells (steps c.oldest s) h)
data_on w c t s h Far = restarted c t s h

-- nothing but the latest time changes
abbrev pub noted : {H : Type 0} → Channel H → ℕ → Outcome H
noted c t = accepted [] [] [] 0 (holds (taken c t))

-- a reminder from far is refused by number 8 before it comes to this
abbrev pub reminder_on : {H : Type 0} → ℕ → Channel H → ℕ → ℕ → Side → Outcome H
reminder_on w c t s (Ahead d) = ahead w c t s d []
reminder_on w c t s (Behind d) = noted c t
reminder_on w c t s Far = noted c t

abbrev pub tick_on : {H : Type 0} → Channel H → ℕ → Outcome H
tick_on c t = settled_at c t c.current 0 (walk (stale t) c.oldest c.cells)

abbrev pub close_on : {H : Type 0} → Channel H → Outcome H
close_on c = accepted [] (waiting c.cells) [] 0 freed

-- where s lies as seen from C, by the reach
abbrev pub side_of : {H : Type 0} → ℕ → Channel H → ℕ → Side
side_of w c s = seen (reach w) c.current s

unfoldable pub act_on : {H : Type 0} → ℕ → Channel H → ℕ → Act H → Outcome H
act_on w c t (frame s h) = data_on w c t s h (side_of w c s)
act_on w c t (reminder s) = reminder_on w c t s (side_of w c s)
act_on w c t tick = tick_on c t
act_on w c t close = close_on c
