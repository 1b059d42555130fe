-- The table of channels, the numbers in their order, and a call on the table.
-- Document 01, 'The channel table' and 'Numbers the box may answer with'.
use Rattle.std.specs.Prelude.{ℕ, Bool, true, false, cond, ◌&&◌, ◌||◌, not, List, [], ◌∷◌, ◌++◌, leb, eqb}
use Rattle.wire.specs.Refusals.{Refusal, ◌else◌, answered}
use Rattle.ring.specs.Ring.{is_number, Side, is_far}
use Rattle.larq.specs.Channel.{Channel, sound}
use Rattle.larq.specs.Answer.{Change, same, holds, freed, Outcome, refused, accepted}
use Rattle.larq.specs.Events.{Act, frame, reminder, tick, close, opened, side_of, act_on}

-- a channel: two addresses and a priority
pub record Key : Type 0 where
  pub destination : ℕ
  pub source : ℕ
  pub priority : ℕ

unfoldable pub same_key : Key → Key → Bool
same_key j k = eqb j.destination k.destination && (eqb j.source k.source && eqb j.priority k.priority)

pub data Place (H : Type 0) : Type 0 where
  free : Place H
  held : Key → Channel H → Place H

abbrev pub Table : Type 0 → Type 0
Table H = List (Place H)

-- the records of a key's open places, in order; the first is the channel's
abbrev pub channels : {H : Type 0} → Key → Table H → List (Channel H)
channels k [] = []
channels k (free ∷ t) = channels k t
channels k (held j c ∷ t) = cond (same_key j k) (c ∷ channels k t) (channels k t)

-- a place is free
abbrev pub room : {H : Type 0} → Table H → Bool
room [] = false
room (free ∷ t) = true
room (held j c ∷ t) = room t

-- the first open place of a key, put anew
abbrev pub put_open : {H : Type 0} → Key → Place H → Table H → Table H
put_open k p [] = []
put_open k p (free ∷ t) = free ∷ put_open k p t
put_open k p (held j c ∷ t) = cond (same_key j k) (p ∷ t) (held j c ∷ put_open k p t)

-- the first free place, put anew
abbrev pub put_free : {H : Type 0} → Place H → Table H → Table H
put_free p [] = []
put_free p (free ∷ t) = p ∷ t
put_free p (held j c ∷ t) = held j c ∷ put_free p t

-- the table after a change at a key with these records: where the key has none, the first place that is free becomes its own; else the key's first place changes
abbrev pub changed : {H : Type 0} → Key → Table H → List (Channel H) → Change H → Table H
changed k t cs same = t
changed k t [] (holds c) = put_free (held k c) t
changed k t (b ∷ cs) (holds c) = put_open k (held k c) t
changed k t cs freed = put_open k free t

-- what the host lends for a call: the entries of the three answer buffers, and whether the table is of 64 places
pub record Lent : Type 0 where
  pub up : ℕ
  pub returned : ℕ
  pub nack : ℕ
  pub whole : Bool

pub record Event (H : Type 0) : Type 0 where
  pub key : Key
  pub time : ℕ
  pub act : Act H
  pub lent : Lent

-- the three buffers have an entry for each number of the window
abbrev pub has_room : ℕ → ℕ → ℕ → ℕ → Bool
has_room w up returned nack = leb w up && (leb w returned && leb w nack)

-- number 1
abbrev pub lent_enough : ℕ → Lent → Bool
lent_enough w l = has_room w l.up l.returned l.nack && l.whole

-- number 2
abbrev pub number_in_ring : {H : Type 0} → Act H → Bool
number_in_ring (frame s h) = is_number s
number_in_ring (reminder s) = is_number s
number_in_ring tick = true
number_in_ring close = true

-- number 3
abbrev pub is_priority : ℕ → Bool
is_priority p = leb p 7

abbrev pub priority_fits : Key → Bool
priority_fits k = is_priority k.priority

abbrev pub is_data : {H : Type 0} → Act H → Bool
is_data (frame s h) = true
is_data (reminder s) = false
is_data tick = false
is_data close = false

abbrev pub is_open : {H : Type 0} → List (Channel H) → Bool
is_open [] = false
is_open (c ∷ cs) = true

-- a test of the addressed record, passed where there is none
abbrev pub of_record : {H : Type 0} → (Channel H → Bool) → List (Channel H) → Bool
of_record test [] = true
of_record test (c ∷ cs) = test c

-- number 7
abbrev pub not_before : {H : Type 0} → ℕ → Channel H → Bool
not_before t c = leb c.latest t

-- number 8
abbrev pub not_far : Side → Bool
not_far side = not (is_far side)

abbrev pub reminder_near : {H : Type 0} → ℕ → Act H → Channel H → Bool
reminder_near w (frame s h) c = true
reminder_near w (reminder s) c = not_far (side_of w c s)
reminder_near w tick c = true
reminder_near w close c = true

-- The refusals of channel events, in the paper's order. They are written here alone: what decides some of them cites its part of the list.

-- numbers 1 to 3, before the table is looked at
abbrev pub early : {H : Type 0} → ℕ → Event H → List Refusal
early w e = (lent_enough w e.lent else 1) ∷ ((number_in_ring e.act else 2) ∷ ((priority_fits e.key else 3) ∷ []))

-- then 4 and 5, before a record is looked at: `known` says that the event's key has a record, `spare` that a place is free
abbrev pub way_refusals : {H : Type 0} → ℕ → Bool → Bool → Event H → List Refusal
way_refusals w known spare e = early w e ++ ((known || is_data e.act else 4) ∷ ((known || spare else 5) ∷ []))

-- then 6 to 8; `cs` are the records of the event's key
abbrev pub refusals : {H : Type 0} → ℕ → Bool → List (Channel H) → Event H → List Refusal
refusals w spare cs e =
    way_refusals w (is_open cs) spare e
    ++ ((of_record (sound w) cs else 6) ∷ ((of_record (not_before e.time) cs else 7) ∷ ((of_record (reminder_near w e.act) cs else 8) ∷ [])))

-- what an event does that no number refuses: data opens a channel where the key has none
abbrev pub done : {H : Type 0} → ℕ → List (Channel H) → ℕ → Act H → Outcome H
done w (c ∷ cs) t a = act_on w c t a
done w [] t (frame s h) = accepted (h ∷ []) [] [] 0 (holds (opened s t))
done w [] t (reminder s) = refused 4
done w [] t tick = refused 4
done w [] t close = refused 4

-- an event at a key: all that it sees of the table are the key's records, and whether a place is free
unfoldable pub one : {H : Type 0} → ℕ → Bool → List (Channel H) → Event H → Outcome H
one w spare cs e = answered refused (refusals w spare cs e) (done w cs e.time e.act)

unfoldable pub outcome : {H : Type 0} → ℕ → Table H → Event H → Outcome H
outcome w t e = one w (room t) (channels e.key t) e

unfoldable pub step : {H : Type 0} → ℕ → Table H → Event H → Table H
step w t e = changed e.key t (channels e.key t) (outcome w t e).change
