-- Demand 3 in the words of a host: s are the slices that it lends for a call, e is the event that it tells, and r what it hears.
use Rattle.std.specs.Prelude.{ℕ, suc, ◌+◌, ◌%◌, ◌≡◌, List, [], ◌∷◌, map}
use Rattle.ring.specs.Ring.{size, Far}
use Rattle.larq.specs.Channel.{window, Channel}
use Rattle.larq.specs.Answer.{Answer}
use Rattle.larq.specs.Events.{frame, opened, side_of}
use Rattle.larq.specs.Table.{Key, channels, Event}
use Rattle.larq.specs.Run.{empty, run, answers, events_of, answers_to}
use Rattle.larq.specs.Demands.{Anew, until_closed}
use Rattle.larq.specs.Sequence.{in_sequence}
use Rattle.larq.specs.Renaming.{on_answer, on_table, own}
use Rattle.larq.specs.Counts.{Note, Rising, all_up, count_of, marked}
use Rattle.larq.specs.Calls.{all_returned, waiting_in, indexed, occurrences}
use Rattle.table.specs.Table.{Slices, table_of}

-- an accepted frame of an open channel, far from its current number
pub record RestartCall (s : Slices) (e : Event ℕ) (r : Answer ℕ) (c : Channel ℕ) (n h : ℕ) : Type 0 where
  pub others : List (Channel ℕ)
  pub is_open_law : channels e.key (table_of s) ≡ c ∷ others
  pub is_data_law : e.act ≡ frame n h
  pub is_accepted : r.number ≡ 0
  pub far : side_of window c n ≡ Far

-- an accepted frame of a channel that is not open
pub record OpeningCall (s : Slices) (e : Event ℕ) (r : Answer ℕ) (n h : ℕ) : Type 0 where
  pub not_open : channels e.key (table_of s) ≡ []
  pub is_data_law : e.act ≡ frame n h
  pub is_accepted : r.number ≡ 0

-- either of them: the accepted frame with which a channel begins
pub record BeginningCall (s : Slices) (e : Event ℕ) (r : Answer ℕ) (n h : ℕ) : Type 0 where
  pub is_data_law : e.act ≡ frame n h
  pub is_accepted : r.number ≡ 0
  pub anew : Anew window (channels e.key (table_of s)) n

-- what a host hears of a channel, up to and with the first accepted close
abbrev pub heard_of : Key → List (Event ℕ) → List (Answer ℕ) → List (Answer ℕ)
heard_of k es rs = until_closed (events_of k es) (answers_to k es rs)

-- r restarts the channel c, q opens it: the frame alone goes up, and at a restart what waits comes back in sequence order; from then on both hear the same
pub record HearsAsOpened (c : Channel ℕ) (h : ℕ) (k : Key) (es : List (Event ℕ)) (r : Answer ℕ) (rs : List (Answer ℕ)) (fs : List (Event ℕ)) (q : Answer ℕ) (qs : List (Answer ℕ)) : Type 0 where
  pub restart : r ≡ record { number = 0; up = h ∷ []; returned = in_sequence c; nack = []; lost = 0 }
  pub opening : q ≡ record { number = 0; up = h ∷ []; returned = []; nack = []; lost = 0 }
  pub later : heard_of k es rs ≡ heard_of k fs qs

-- The frame with which the channel begins has the handle a and the count u, and goes up alone. What the host hears of the channel from then on is what a
-- box answers that has this channel alone, on handles marked with the counts of their frames, with the marks taken off; and by the marks what goes up
-- rises strictly, past u
pub record HearsInOrder (k : Key) (u time a : ℕ) (ns : List (Note (ℕ × ℕ))) (es : List (Event ℕ)) (r : Answer ℕ) (rs : List (Answer ℕ)) : Type 0 where
  pub first : r.up ≡ a ∷ []
  pub later : heard_of k es rs ≡ map (on_answer own) (marked window k (opened (u % size) time) ns)
  pub rising : Rising count_of (suc u) (all_up (marked window k (opened (u % size) time) ns))

-- What became of the handle of call j, when es have been told to an emptied table, rs were heard and the slices are x: with each call's handle marked by
-- the call's index, so that equal ones are told apart, it stands once among those handed up, returned and waiting together
pub record HearsKept (j : ℕ) (es : List (Event ℕ)) (rs : List (Answer ℕ)) (x : Slices) : Type 0 where
  pub answers_own : rs ≡ map (on_answer own) (answers window empty (indexed 0 es))
  pub table_own : table_of x ≡ on_table own (run window empty (indexed 0 es))
  pub once : occurrences j (all_up (answers window empty (indexed 0 es))) + occurrences j (all_returned (answers window empty (indexed 0 es)))
      + occurrences j (waiting_in (run window empty (indexed 0 es))) ≡ 1
