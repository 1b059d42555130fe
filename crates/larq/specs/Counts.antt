-- The sender's own count, which never wraps: the words in which demand 3 speaks of order. A frame's ring number is its count modulo 4,096.
use Rattle.std.specs.Prelude.{ℕ, suc, ◌+◌, ◌%◌, ◌≤◌, max, ◌≡◌, cond, List, [], ◌∷◌, ◌++◌, map, eqb}
use Rattle.ring.specs.Ring.{size}
use Rattle.larq.specs.Channel.{Channel, reach}
use Rattle.larq.specs.Answer.{Answer}
use Rattle.larq.specs.Events.{Act, frame, reminder, tick, close}
use Rattle.larq.specs.Table.{Key, held, Lent, Event}
use Rattle.larq.specs.Run.{answers}
use Rattle.larq.specs.Demands.{until_closed}

-- what comes on a channel: a frame, whose handle tells its count; a reminder with a count; either of them with no number of the ring, but with one
-- that is so much above 4,095; and the host's own events
pub data Sent (H : Type 0) : Type 0 where
  sent : H → Sent H
  reminded : ℕ → Sent H
  strayed : ℕ → H → Sent H
  stray_reminded : ℕ → Sent H
  ticked : Sent H
  closed : Sent H

pub record Note (H : Type 0) : Type 0 where
  pub time : ℕ
  pub lent : Lent
  pub what : Sent H

-- a count lies within the reach of the highest so far
abbrev pub Near : ℕ → ℕ → ℕ → Type 0
Near w hi u = ((u ≤ hi + reach w) × (hi ≤ u + reach w))

module _ {H : Type 0} (count : H → ℕ) where
  abbrev pub act_of : Sent H → Act H
  act_of (sent h) = frame (count h % size) h
  act_of (reminded u) = reminder (u % size)
  act_of (strayed n h) = frame (size + n) h
  act_of (stray_reminded n) = reminder (size + n)
  act_of ticked = tick
  act_of closed = close

  abbrev pub event_of_note : Key → Note H → Event H
  event_of_note k n = record { key = k; time = n.time; act = act_of n.what; lent = n.lent }

  abbrev pub NearBy : ℕ → ℕ → Sent H → Type 0
  NearBy w hi (sent h) = Near w hi (count h)
  NearBy w hi (reminded u) = Near w hi u
  NearBy w hi (strayed n h) = Unit
  NearBy w hi (stray_reminded n) = Unit
  NearBy w hi ticked = Unit
  NearBy w hi closed = Unit

  -- the highest count after it
  abbrev pub raised : ℕ → Sent H → ℕ
  raised hi (sent h) = max hi (count h)
  raised hi (reminded u) = max hi u
  raised hi (strayed n h) = hi
  raised hi (stray_reminded n) = hi
  raised hi ticked = hi
  raised hi closed = hi

  -- each frame and reminder that is accepted, by the numbers answered, lies within the reach of the highest one accepted so far
  abbrev pub Within : ℕ → ℕ → List (Note H) → List ℕ → Type 0
  Within w hi [] rs = Unit
  Within w hi (n ∷ ns) [] = Unit
  Within w hi (n ∷ ns) (r ∷ rs) = ((r ≡ 0 → NearBy w hi n.what) × Within w (cond (eqb r 0) (raised hi n.what) hi) ns rs)

  -- counts that rise strictly, from lo on
  abbrev pub Rising : ℕ → List H → Type 0
  Rising lo [] = Unit
  Rising lo (h ∷ hs) = ((lo ≤ count h) × Rising (suc (count h)) hs)

-- all that answers hand up, in order
abbrev pub all_up : {H : Type 0} → List (Answer H) → List H
all_up [] = []
all_up (r ∷ rs) = r.up ++ all_up rs

-- the numbers of answers
abbrev pub numbers : {H : Type 0} → List (Answer H) → List ℕ
numbers [] = []
numbers (r ∷ rs) = r.number ∷ numbers rs

-- the count that a handle is marked with
abbrev pub count_of : {A : Type 0} → ℕ × A → ℕ
count_of x = x.0

-- the answers of a box that has this channel alone, to events whose handles are marked with the counts of their frames, until the close
abbrev pub marked : {A : Type 0} → ℕ → Key → Channel (ℕ × A) → List (Note (ℕ × A)) → List (Answer (ℕ × A))
marked w k c ns = until_closed (map (event_of_note count_of k) ns) (answers w (held k c ∷ []) (map (event_of_note count_of k) ns))
