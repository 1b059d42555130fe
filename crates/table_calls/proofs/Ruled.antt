-- What the rules say of an event on the table that the slices hold, by the way that the event goes: a number before the table is looked at,
-- no channel, no free place, a channel opened, or the rule for the one place that has the channel. Assumes nothing.
use Prim.Native.Nat.{ℕ}
use native.Mathlib.Omega.{arith}
use mathlib.Core.Path.{◌≡◌, ap, ◌∙◌}
use mathlib.Core.Bool.{true, false, ◌&&◌}
use mathlib.Core.List.{[], ◌∷◌}
use lib.ListN.{length}
use lib.Dec.{leb}
use Rattle.larq.specs.Channel.{Channel, window}
use Rattle.larq.specs.Answer.{holds, freed, refused, accepted}
use Rattle.larq.specs.Events.{Act, frame, opened}
use Rattle.larq.specs.Table.{Key, free, held, Table, Event, channels, lent_enough, number_in_ring, is_data, one, outcome, step}
use Rattle.slots.specs.Slots.{slots, place_words, place_sized}
use Rattle.record.specs.Place.{record_of}
use Rattle.place.specs.Call.{Parts, parts, Buffers, event_at, rule_at}
use Rattle.table.specs.First.{places, first_place}
use Rattle.table.specs.Table.{Slices, part, place_at, places_from, table_of}
use Rattle.table.specs.Way.{early_number}
use Rattle.table.specs.Addressed.{is_of, is_free}
use Rattle.table_calls.specs.Event.{event_of}
use Rattle.std.specs.Prelude.{Some, None}
use Rattle.table.proofs.Places.{but, Begins, channels_found, channels_none, put_open_found, put_free_found, room_found, room_none}
use Rattle.table.proofs.Ways.{Passed, both}

-- the parts of a place, as the call on one place has them
abbrev pub parts_at : ℕ → Slices → Parts
parts_at i s = parts (part place_words i s.words) (part slots i s.handles) (part slots i s.marks)

abbrev pub record_at : ℕ → Slices → Channel ℕ
record_at i s = record_of (part place_words i s.words) (part slots i s.handles) (part slots i s.marks)

module _ (s : Slices) (b : Buffers) (k : Key) (time : ℕ) (act : Act ℕ) (number : ℕ) (numbered : number_in_ring act ≡ leb number 4095) where
  abbrev e : Event ℕ
  e = event_of k time act s b

  abbrev t : Table ℕ
  t = table_of s

  pub early_refused : (n : ℕ) → early_number e.lent number k.priority ≡ n → (n ≡ 0 → ⊥) → outcome window t e ≡ refused n
  unfolding early_number outcome one
  early_refused n j ne = grind arith

  -- the tests of numbers 1 to 3 pass
  module _ (passed : Passed e.lent number k.priority) where
    ring : number_in_ring act ≡ true
    ring = numbered ∙ passed.number

    -- no open place has the key
    module _ (unknown : first_place (λ i. is_of k (place_at s i)) ≡ None) where
      none : channels k t ≡ []
      none = channels_none k (place_at s) places 0 unknown

      pub unknown_refused : is_data act ≡ false → outcome window t e ≡ refused 4
      unfolding outcome one
      unknown_refused d = rw (none, passed.lent, ring, passed.priority, d)

      pub full_refused : is_data act ≡ true → first_place (λ i. is_free (place_at s i)) ≡ None → outcome window t e ≡ refused 5
      unfolding outcome one
      full_refused d full = rw (none, passed.lent, ring, passed.priority, d, room_none (place_at s) places 0 full)

      module _ (i h : ℕ) (frames : act ≡ frame number h) (spare : first_place (λ i. is_free (place_at s i)) ≡ Some i) where
        pub opens : outcome window t e ≡ accepted (h ∷ []) [] [] 0 (holds (opened number time))
        unfolding outcome one
        opens = rw (none, passed.lent, ring, passed.priority, ap is_data frames, room_found (place_at s) places 0 i spare, frames)

        pub opens_step : step window t e ≡ places_from (but (place_at s) i (held k (opened number time))) 0 places
        unfolding step
        opens_step = rw (opens, none) (put_free_found (place_at s) (held k (opened number time)) places 0 i spare)

    -- place i has the channel of the key
    module _ (i : ℕ) (known : first_place (λ i. is_of k (place_at s i)) ≡ Some i) (own : place_at s i ≡ held k (record_at i s))
        (sized : place_sized (length (part place_words i s.words)) (length (part slots i s.handles)) (length (part slots i s.marks)) ≡ true) where
      begins : Begins (record_at i s) (channels k t)
      begins = channels_found k (place_at s) k (record_at i s) places 0 i known own

      lent_there : lent_enough window (event_at (parts_at i s) b time act).lent ≡ true
      lent_there = rw (sized, (both (leb window (length b.up) && (leb window (length b.returned) && leb window (length b.nack))) e.lent.whole passed.lent).0)

      pub known_rule : outcome window t e ≡ rule_at (parts_at i s) b time act
      unfolding outcome one
      known_rule = rw (begins.is, passed.lent, ring, passed.priority, lent_there)

      pub holds_step : (c : Channel ℕ) → (rule_at (parts_at i s) b time act).change ≡ holds c
          → step window t e ≡ places_from (but (place_at s) i (held k c)) 0 places
      unfolding step
      holds_step c ch = rw (known_rule, ch, begins.is) (put_open_found k (place_at s) (held k c) places 0 i known)

      pub freed_step : (rule_at (parts_at i s) b time act).change ≡ freed → step window t e ≡ places_from (but (place_at s) i free) 0 places
      unfolding step
      freed_step ch = rw (known_rule, ch) (put_open_found k (place_at s) free places 0 i known)
