-- A tick: what was done is what the rules say. Document 01, 'Tick'. Assumes nothing.
use Prim.Native.Nat.{ℕ, ◌+◌, ◌-◌, ◌≤◌}
use mathlib.Core.Path.{◌≡◌, refl, ap, ap₂, sym, ◌∙◌}
use mathlib.Core.List.{List, []}
use native.Mathlib.Omega.{arith}
use native.Mathlib.Nat.{zero-add}
use lib.ListN.{length}
use Rattle.larq.specs.Channel.{Cell, window, span_of}
use Rattle.larq.specs.Settling.{Walked, walk, hold, stale}
use Rattle.larq.specs.Events.{tick, act_on, tick_on, asked, moved}
use Rattle.slots.specs.Slots.{times_from}
use Rattle.record.specs.Place.{cells_from, cell_at, record_with, record_of}
use Rattle.record.specs.Moving.{record_in, span_in, stored_in}
use Rattle.record.specs.Walk.{Settles, settle_numbers}
use Rattle.record.specs.declared.Record.{Record}
use Rattle.record.specs.declared.window.Settled.{Settled}
use Rattle.record.proofs.Windows.{length_cells_from}
use Rattle.record.proofs.Laying.{wrote_front, wrote_none}
use Rattle.record.proofs.Walks.{up_few, waiting_few, walk_stale}
use Rattle.place.specs.Call.{Says, Told, told, Parts, Buffers, parts, buffers, DidAt, Called}
use Rattle.place.specs.Steps.{Ready, walk_of, passed_of}
use Rattle.place.specs.declared.Answer.{Answer}
use Rattle.std.specs.Prelude.{Ok}
use Rattle.place.proofs.Places.{walked, settled_record, passed_few}
use Rattle.place.proofs.Opening.{Opened, ready}
use Rattle.place.proofs.Calling.{did_returned, did_nack, called_opened}

-- M goes on from the record at the time of the tick, up to the time that `stale_before` gives.
module _ {r to : Record} {W H K : List ℕ} {until : ℕ} (is-ready : Ready r W H K) (t : ℕ) (stale-before : until ≡ t + 1 - hold)
    (to-current : to.current.0 ≡ r.current.0) (to-oldest : to.oldest.0 ≡ r.oldest.0) (to-latest : to.latest ≡ t) where
  abbrev cells : List (Cell ℕ)
  cells = cells_from (cell_at W H K) r.oldest.0 (span_in r)

  abbrev passed : Walked ℕ
  passed = walk (stale t) r.oldest.0 cells

  walk_to : walk_of to until W H K ≡ passed
  walk_to = rw (to-current, to-oldest, stale-before) (sym (walk_stale t r.oldest.0 cells))

  few_up : length passed.up ≤ window
  few_up = grind (arith, up_few, waiting_few, length_cells_from)

  room_for : (U : List ℕ) → window ≤ length U → 0 + passed_of to until W H K ≤ length U
  room_for U room =
      omega (arith, passed_few to until W H K (rw to-oldest is-ready.oldest), ap₂ span_of to-current to-oldest, is-ready.narrow)

  pub ticked_did : {U u w : List ℕ} {s : Settled} {a : Answer} → window ≤ length U → Settles to (settle_numbers W H K (span_in to) 0 U) until W H K 0 U u s
      → w ≡ stored_in s.kept W → Says s.up 0 0 s.lost a
      → DidAt (tick_on (record_in r W H K) t) (parts W H K) (parts w H K) (buffers U [] []) (buffers u [] []) (told (Ok a))
  unfolding record_with asked
  ticked_did {U} {u} {w} {s} room settles ew says =
      let done = walked is-ready.sized (room_for U room) settles in
      let words-some : times_from ≤ length W = omega (arith, is-ready.sized.words) in
      record {
        answer = record {
          number = refl;
          up = rw says.up (wrote_front (rw (walk_to, zero-add s.up) at done.up) (omega (arith, few_up)));
          returned = rw says.returned (wrote_none []);
          nack = rw says.nack (wrote_none []);
          lost = says.lost ∙ done.lost ∙ ap (λ p. p.lost) walk_to;
        };
        became =
            ap (λ x. record_of x H K) ew
            ∙ settled_record to until W H K 0 U u s words-some (rw to-oldest is-ready.oldest) done
            ∙ ap (moved to.current.0 to.latest) walk_to
            ∙ ap₂ (λ y z. moved y z passed) to-current to-latest;
      }

-- a tick that no number refuses
pub called_tick : {p after : Parts} {b : Buffers} {time : ℕ} {r : Record} {u : List ℕ} {a : Told} → Opened p b 0 time r
    → DidAt (tick_on (record_in r p.words p.handles p.marks) time) p after (buffers b.up [] []) (buffers u [] []) a
    → Called tick time p after b (buffers u b.returned b.nack) a
unfolding act_on
called_tick {b = b} {time = time} opened did =
    called_opened tick refl opened (ap (λ y. tick_on y time) (sym (ready opened).held)) (did_nack b.nack (did_returned b.returned did))
