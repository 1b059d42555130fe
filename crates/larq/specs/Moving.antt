-- How M moves on an event: the window with the event's own numbers entered, the numbers that it made missing, and what M then passes. By this it is
-- told what goes up, what is lost and what is asked for, and how much that is at most. Demand 2; document 01, 'Settling'.
use Rattle.std.specs.Prelude.{ℕ, ◌-◌, ◌≤◌, ◌≡◌, List, [], ◌∷◌, length, take, drop}
use Rattle.std.proofs.Math.Option.{Option, some, none}
use Rattle.ring.specs.Ring.{forward, next, steps, rising, Side, Ahead, Behind, Far}
use Rattle.larq.specs.Channel.{Cell, waits, Channel, waiting, times}
use Rattle.larq.specs.Answer.{Answer}
use Rattle.larq.specs.Events.{Act, frame, reminder, tick, close, grown, filling, side_of}

-- the window if a number came to wait in it, else as it was
abbrev pub filled_or : {H : Type 0} → List (Cell H) → Option (List (Cell H)) → List (Cell H)
filled_or cs none = cs
filled_or cs (some ds) = ds

abbrev pub entered_data : {H : Type 0} → Channel H → ℕ → ℕ → H → Side → List (Cell H)
entered_data c t s h (Ahead d) = grown c t (d - 1) (waits h ∷ [])
entered_data c t s h (Behind d) = filled_or c.cells (filling c.cells (steps c.oldest s) h)
entered_data c t s h Far = c.cells

abbrev pub entered_reminder : {H : Type 0} → Channel H → ℕ → Side → List (Cell H)
entered_reminder c t (Ahead d) = grown c t d []
entered_reminder c t (Behind d) = c.cells
entered_reminder c t Far = c.cells

-- the window with the event's own numbers entered, before M moves
abbrev pub entered : {H : Type 0} → ℕ → Channel H → ℕ → Act H → List (Cell H)
entered w c t (frame s h) = entered_data c t s h (side_of w c s)
entered w c t (reminder s) = entered_reminder c t (side_of w c s)
entered w c t tick = c.cells
entered w c t close = c.cells

abbrev pub ahead_by : Side → ℕ
ahead_by (Ahead d) = d
ahead_by (Behind d) = 0
ahead_by Far = 0

-- how many numbers from C + 1 on an event makes missing: those up to s, without s itself where its frame is here
abbrev pub made : {H : Type 0} → ℕ → Channel H → Act H → ℕ
made w c (frame s h) = ahead_by (side_of w c s) - 1
made w c (reminder s) = ahead_by (side_of w c s)
made w c tick = 0
made w c close = 0

-- how M moves, from the record c to the record d, over a window in which the event's numbers stand and k numbers that it made missing: it passes the
-- first `by` of them. The waiting ones of these go up, the missing ones are lost, and of the k those past it are asked for
pub record Moves {H : Type 0} (c : Channel H) (cs : List (Cell H)) (k : ℕ) (r : Answer H) (d : Channel H) : Type 0 where
  pub by : ℕ
  pub most : by ≤ length cs
  pub oldest : d.oldest ≡ forward c.oldest by
  pub cells : d.cells ≡ drop by cs
  pub up : r.up ≡ waiting (take by cs)
  pub lost : r.lost ≡ length (times (take by cs))
  pub nack : r.nack ≡ rising (forward (next c.current) (by - length c.cells)) (k - (by - length c.cells))

-- at most w handles go up, w - 1 come back, and w numbers are asked for
pub record Bounded {H : Type 0} (w : ℕ) (r : Answer H) : Type 0 where
  pub up : length r.up ≤ w
  pub returned : length r.returned ≤ w - 1
  pub nack : length r.nack ≤ w
