-- A table that was handed in: whatever its words are, an accepted call found the first record of its key as good as those that the box makes.
-- A broken one is refused by number 6, and the cells of every record that words can mean reach from M to C. So what the rules promise of good
-- records holds of every call on every table, not only after an empty one. Assumes nothing.
use Prim.Native.Nat.{ℕ, zero, suc, ◌≤◌, ◌<◌}
use mathlib.Core.Path.{◌≡◌, refl, ap, sym, subst, ◌∙◌}
use mathlib.Core.Bool.{Bool, true, false, cond}
use mathlib.Core.Option.{Option, some, none}
use mathlib.Core.List.{List, [], ◌∷◌}
use native.Mathlib.Omega.{arith}
use lib.ListN.{length, get_or}
use lib.Dec.{eqb}
use Rattle.ring.specs.Ring.{forward, steps, Side, Ahead, Behind, Far}
use Rattle.ring.proofs.Sides.{sees}
use Rattle.larq.specs.Channel.{Cell, Channel, window, reach, span_of, span, sound}
use Rattle.larq.specs.Answer.{holds, Outcome}
use Rattle.larq.specs.Events.{Act, frame, reminder, tick, close, filling, filled, data_on, reminder_on, side_of, act_on}
use Rattle.larq.specs.Table.{Key, free, held, same_key, Table, channels, room, Event, one, outcome}
use Rattle.larq.specs.Demands.{is_close, restarts, UpFirst}
use Rattle.larq.specs.Moving.{entered, made, Moves, Bounded}
use Rattle.larq.proofs.Cases.{Passes, one_case, accepted_passes}
use Rattle.larq.proofs.Sound.{Good, Joined, sound_is}
use Rattle.larq.proofs.Moved.{moves, none_given_up}
use Rattle.larq.proofs.AtOnce.{at_once}
use Rattle.larq.proofs.Bounds.{bounded}
use Rattle.slots.specs.Slots.{current_in, oldest_in}
use Rattle.record.specs.Place.{cell_at, record_with, record_of}
use Rattle.record.proofs.Rounds.{span_end}
use Rattle.record.proofs.Windows.{length_cells_from}
use Rattle.place.specs.Call.{Buffers, Told}
use Rattle.table.specs.First.{places}
use Rattle.table.specs.Table.{Slices, at_place, place_of, places_from, table_of}
use Rattle.table_calls.specs.Event.{Did}

-- The record that the words of a place mean, whatever they are.
module _ (words handles marks : List ℕ) where
  -- 'for each number from M to C whether it waits .. or is missing': it has as many cells as its span says.
  pub lent_span : length (record_of words handles marks).cells ≡ span (record_of words handles marks)
  unfolding record_with
  lent_span = length_cells_from (cell_at words handles marks) (oldest_in words) (span_of (current_in words) (oldest_in words))

  -- and they end at C.
  pub lent_joined : Joined (record_of words handles marks)
  unfolding record_with
  lent_joined =
      ap (forward (oldest_in words)) (length_cells_from (cell_at words handles marks) (oldest_in words) (span_of (current_in words) (oldest_in words)))
      ∙ span_end (current_in words) (oldest_in words)

  -- 'A record is broken if ..': one that is not is good.
  pub lent_good : sound window (record_of words handles marks) ≡ true → Good window (record_of words handles marks)
  lent_good e = record { sound = sound_is window (record_of words handles marks) e; joined = lent_joined }

-- every one of these records is good if it is not broken
abbrev AllLent : List (Channel ℕ) → Type 0
AllLent [] = Unit
AllLent (c ∷ cs) = ((sound window c ≡ true → Good window c) × AllLent cs)

module _ (k : Key) where
  lent_place : (j : Key) (c : Channel ℕ) (t : Table ℕ) → (sound window c ≡ true → Good window c) → AllLent (channels k t) → (b : Bool)
      → AllLent (channels k (cond b free (held j c) ∷ t))
  lent_place j c t g gs true = gs
  lent_place j c t g gs false = go (same_key j k)
    where
      go : (b : Bool) → AllLent (cond b (c ∷ channels k t) (channels k t))
      go true = (g, gs)
      go false = gs

  lent_places : (at : ℕ → Slices) (n i : ℕ) → AllLent (channels k (places_from (λ j. place_of (at j)) i n))
  unfolding places_from place_of
  lent_places at zero i = tt
  lent_places at (suc n) i =
      lent_place _ _ (places_from (λ j. place_of (at j)) (suc i) n) (lent_good (at i).words (at i).handles (at i).marks) (lent_places at n (suc i))
      (eqb (get_or (at i).keys 0 0) 0)

-- the numbers that an event makes missing are within the reach
made_near : (c : Channel ℕ) (a : Act ℕ) → made window c a ≤ reach window
made_near c a = grind (arith, sees)

-- an event that is no close leaves a record
module _ (c : Channel ℕ) (t : ℕ) where
  abbrev Leaves : Outcome ℕ → Type 0
  Leaves o = (d : Channel ℕ) × (o.change ≡ holds d)

  filled_leaves : (h : ℕ) (o : Option (List (Cell ℕ))) → Leaves (filled window c t h o)
  filled_leaves h none = (_, refl)
  filled_leaves h (some ds) = (_, refl)

  data_leaves : (s h : ℕ) (x : Side) → Leaves (data_on window c t s h x)
  data_leaves s h (Ahead d) = (_, refl)
  data_leaves s h (Behind d) = filled_leaves h (filling c.cells (steps c.oldest s) h)
  data_leaves s h Far = (_, refl)

  reminder_leaves : (s : ℕ) (x : Side) → Leaves (reminder_on window c t s x)
  reminder_leaves s (Ahead d) = (_, refl)
  reminder_leaves s (Behind d) = (_, refl)
  reminder_leaves s Far = (_, refl)

  act_leaves : (a : Act ℕ) → is_close a ≡ false → Leaves (act_on window c t a)
  unfolding act_on
  act_leaves (frame s h) n = data_leaves s h (side_of window c s)
  act_leaves (reminder s) n = reminder_leaves s (side_of window c s)
  act_leaves tick n = (_, refl)
  act_leaves close n = absurd (let z : ◌≡◌ {A = ℕ} 0 1 = cc in omega arith)

-- An event for an open channel of a lent table; c is the first record of its key.
module _ (s : Slices) (e : Event ℕ) (c : Channel ℕ) (cs : List (Channel ℕ)) (first : channels e.key (table_of s) ≡ c ∷ cs) where
  passes_good : Passes window (room (table_of s)) (c ∷ cs) e → Good window c
  passes_good p = (subst AllLent first (lent_places e.key (λ j. at_place j s) places 0)).0 p.whole

  -- 'the addressed record is broken' is number 6, so an accepted event found a good one.
  pub accepted_good : (outcome window (table_of s) e).answer.number ≡ 0 → Good window c
  unfolding outcome
  accepted_good ok = passes_good (accepted_passes window (room (table_of s)) (c ∷ cs) e (rw first at ok)).0

  -- 'The next expected number, here and in demand 3, is M': accepted data with the number M goes up first, in its own call.
  pub lent_at_once : (h : ℕ) → e.act ≡ frame c.oldest h → (outcome window (table_of s) e).answer.number ≡ 0 → UpFirst h (outcome window (table_of s) e)
  lent_at_once h a ok = at_once window (omega arith) (table_of s) e c cs h (accepted_good ok) first a ok

  -- an accepted event that is no close leaves the channel open, with a record of which the two laws after this one speak.
  pub accepted_leaves : (outcome window (table_of s) e).answer.number ≡ 0 → is_close e.act ≡ false
      → (d : Channel ℕ) × ((outcome window (table_of s) e).change ≡ holds d)
  unfolding outcome
  accepted_leaves ok n =
      rw (first, (accepted_passes window (room (table_of s)) (c ∷ cs) e (rw first at ok)).1) (act_leaves c e.time e.act n)

  module _ (d : Channel ℕ) (open-still : (outcome window (table_of s) e).change ≡ holds d) where
    holds_good : Good window c
    unfolding outcome
    holds_good =
        one_case window (room (table_of s)) (c ∷ cs) e (λ (o : Outcome ℕ). o.change ≡ holds d → Good window c)
        (λ _ q. absurd (let z : ◌≡◌ {A = ℕ} 0 1 = cc in omega arith)) (λ p _. passes_good p) (rw first at open-still)

    -- 'a lost count .. equals the missing numbers M passed': of every event that leaves the channel open and is no restart.
    pub lent_moves : restarts window c e.act ≡ false
        → Moves c (entered window c e.time e.act) (made window c e.act) (outcome window (table_of s) e).answer d
    unfolding outcome
    lent_moves n =
        rw first (moves window (omega arith) (room (table_of s)) c cs e holds_good n d (rw first at open-still))

    -- 'NACK for a number that the same call gave up' is an earlier box's slip: each number asked for lies past those that M passed.
    pub lent_none_given_up : (m : Moves c (entered window c e.time e.act) (made window c e.act) (outcome window (table_of s) e).answer d)
        → (i : ℕ) → i < length (outcome window (table_of s) e).answer.nack → m.by ≤ steps c.oldest (get_or (outcome window (table_of s) e).answer.nack i 0)
    lent_none_given_up m =
        none_given_up window (omega arith) c holds_good (entered window c e.time e.act) (made window c e.act) (made_near c e.act)
        (outcome window (table_of s) e).answer d m

-- an event sees no record of its key but the first
first_alone : (spare : Bool) (c : Channel ℕ) (cs : List (Channel ℕ)) (e : Event ℕ) → one window spare (c ∷ cs) e ≡ one window spare (c ∷ []) e
unfolding one
first_alone spare c cs e = refl

-- 'At most 32 handles go up and at most 31 come back', and at most 32 numbers are asked for: by any event on any table.
pub lent_bounded : (s : Slices) (e : Event ℕ) → Bounded window (outcome window (table_of s) e).answer
unfolding outcome
lent_bounded s e = go (channels e.key (table_of s)) refl
  where
    go : (l : List (Channel ℕ)) → channels e.key (table_of s) ≡ l → Bounded window (one window (room (table_of s)) l e).answer
    go [] first = bounded window (omega arith) (omega arith) (room (table_of s)) [] e tt
    go (c ∷ cs) first =
        one_case window (room (table_of s)) (c ∷ cs) e (λ (o : Outcome ℕ). one window (room (table_of s)) (c ∷ cs) e ≡ o → Bounded window o.answer)
        (λ _ _. record { up = omega arith; returned = omega arith; nack = omega arith })
        (λ p is. subst (λ (o : Outcome ℕ). Bounded window o.answer) (sym (first_alone (room (table_of s)) c cs e) ∙ is)
        (bounded window (omega arith) (omega arith) (room (table_of s)) (c ∷ []) e (passes_good s e c cs first p, tt))) refl

-- the counts that a call gives the host keep the same bounds.
pub counts_bounded : (e : Event ℕ) (before after : Slices) (had has : Buffers) (given : Told) → Did e before after had has given
    → (given.up ≤ window) × (given.returned ≤ 31) × (given.nack ≤ window)
counts_bounded e before after had has given d =
    let most = lent_bounded before e in (
      omega (arith, d.answer.up.count, most.up),
      omega (arith, d.answer.returned.count, most.returned),
      omega (arith, d.answer.nack.count, most.nack),
    )
