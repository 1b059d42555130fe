-- The promise of data that opens a channel: key, C, M and the latest time are stored at the first free place, and the frame goes up. The span is 0,
-- so what the place's slots hold does not count. Assumes nothing.
use Prim.Native.Nat.{ℕ, ◌+◌, ◌*◌, ◌≤◌, ◌<◌}
use mathlib.Core.Path.{◌≡◌, refl, ap, sym, ◌∙◌}
use mathlib.Core.List.{List, [], ◌∷◌}
use native.Mathlib.Omega.{arith}
use Rattle.std.proofs.lemmas.Grind.{common_steps}
use borrow.Author.Tests.{leb-true}
use lib.ListN.{length, set, drop}
use Rattle.larq.specs.Channel.{window}
use Rattle.larq.specs.Answer.{holds, accepted}
use Rattle.larq.specs.Events.{frame, opened}
use Rattle.larq.specs.Table.{Key, held, Event, outcome}
use Rattle.slots.specs.Slots.{slots, place_words}
use Rattle.record.specs.Place.{record_of}
use Rattle.place.specs.Call.{Begins, buffers, told}
use Rattle.place.specs.declared.Answer.{Answer}
use Rattle.table.specs.First.{places, first_place, stores_none}
use Rattle.table.specs.Key.{first_word}
use Rattle.table.specs.Table.{Slices, slices, part, at_place, place_at, table_of, table_words}
use Rattle.table.specs.Way.{place_for}
use Rattle.table_calls.specs.Writes.{keyed, Opens}
use Rattle.table.specs.Addressed.{is_of, is_free, addressed}
use Rattle.table_calls.specs.Event.{event_of, Did}
use Rattle.std.specs.Prelude.{Some, None, Ok}
use Rattle.table.proofs.Parts.{put, lent, lent_part, length_part, length_lent, part_put, part_put_else}
use Rattle.table_calls.proofs.Keyed.{keyed_stores, keyed_else}
use Rattle.table.proofs.Places.{finds}
use Rattle.place.proofs.Restarting.{record_opened}
use Rattle.table.proofs.Stored.{own_place, place_is, spare_is}
use Rattle.table.proofs.Ways.{Passed, Whole, whole_sizes, lent_whole, lent_room}
use Rattle.table_calls.proofs.Ruled.{opens, opens_step}
use Rattle.record.proofs.Laying.{wrote_none}
use Rattle.table_calls.proofs.Promised.{table_but}

-- a channel that begins in the lent part of place i, when the part has come back
pub opened_part : {words up y u : List ℕ} {s handle time : ℕ} {given : Answer} (keys : List ℕ) (i first second : ℕ) → length words ≡ table_words → i < places
    → length y ≡ length (lent place_words i words) → Begins s handle time (lent place_words i words) up y u given
    → Opens i first second s handle time keys words up (keyed keys i first second) (put place_words i words y) u given
opened_part {words} {y = y} keys i first second sized within kept begins =
    let words_fit : place_words * i + place_words ≤ length words = omega (arith, sized) in
    let many : length y ≡ place_words = kept ∙ length_lent place_words i words words_fit in
    record {
      key = refl;
      begins = rw (part_put place_words i words words_fit y many, ← lent_part place_words i words) begins;
      elsewhere = λ j ne. part_put_else place_words i words words_fit j y many ne;
    }

-- data that opens a channel
module _ (keys W H M U R N : List ℕ) (k : Key) (time s handle : ℕ)
    (passed : Passed (event_of k time (frame s handle) (slices keys W H M) (buffers U R N)).lent s k.priority)
    (unknown : place_for keys k ≡ None) (i : ℕ) (found : first_place (stores_none keys) ≡ Some i) where
  abbrev before : Slices
  before = slices keys W H M

  abbrev e : Event ℕ
  e = event_of k time (frame s handle) before (buffers U R N)

  sized : Whole (length keys) (length W) (length H) (length M)
  sized = whole_sizes (length keys) (length W) (length H) (length M) (lent_whole e.lent passed.lent)

  fits : k.priority ≤ 7
  fits = leb-true k.priority 7 passed.priority

  within : i < places
  within = omega (arith, (finds (stores_none keys) places 0 i found).high)

  none : first_place (λ j. is_of k (place_at before j)) ≡ None
  none = sym (place_is before k fits) ∙ unknown

  spare : first_place (λ j. is_free (place_at before j)) ≡ Some i
  spare = sym (spare_is before) ∙ found

  here : addressed k before ≡ Some i
  here = rw (none, spare)

  is_open_law : outcome window (table_of before) e ≡ accepted (handle ∷ []) [] [] 0 (holds (opened s time))
  is_open_law = opens before (buffers U R N) k time (frame s handle) s refl passed none i handle refl spare

  module _ {w u : List ℕ} {given : Answer} (opened-here : Opens i (first_word k) k.source s handle time keys W U (keyed keys i (first_word k) k.source) w u given)
    where
      abbrev after : Slices
      after = slices (keyed keys i (first_word k) k.source) w H M

      words_fit : place_words * i + place_words ≤ length W
      words_fit = omega (arith, sized.words, within)

      placed : place_at after i ≡ held k (opened s time)
      placed =
          own_place (keyed keys i (first_word k) k.source) i k (part place_words i w) (part slots i H) (part slots i M) fits
          (keyed_stores keys i (first_word k) k.source sized.keys within)
          ∙ ap (λ x. held k (record_of x (part slots i H) (part slots i M))) opened-here.begins.head
          ∙ ap (held k)
          (record_opened (part place_words i W) (part slots i H) (part slots i M) s time (let e = length_part place_words i W words_fit in omega (arith, e)))

      others : (j : ℕ) → j < places → (j ≡ i → ⊥) → at_place j after ≡ at_place j before
      others j _ ne = rw (keyed_else keys i (first_word k) k.source sized.keys within j ne, opened-here.elsewhere j ne)

      handed : (l : List ℕ) → window ≤ length l → set l 0 handle ≡ handle ∷ drop 1 l
      handed l h = grind (arith, common_steps)

      pub opened_did : Did e before after (buffers U R N) (buffers u R N) (told (Ok given))
      opened_did =
          let says = opened-here.begins.answer in
          record {
            answer =
                rw is_open_law
                (record {
                  number = refl;
                  up = record { count = says.up; buffer = opened-here.begins.frame ∙ handed U (lent_room e.lent passed.lent).up };
                  returned = rw says.returned (wrote_none R);
                  nack = rw says.nack (wrote_none N);
                  lost = says.lost;
                });
            stepped =
                table_but before after i (held k (opened s time)) placed others
                ∙ sym (opens_step before (buffers U R N) k time (frame s handle) s refl passed none i handle refl spare);
            changed = rw (is_open_law, here) placed;
            elsewhere = λ j h ne. others j h (λ q. ne (here ∙ ap Some (sym q)));
          }
