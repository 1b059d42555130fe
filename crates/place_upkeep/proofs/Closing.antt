-- A close: the waiting handles all come back, and the place is zeros. Document 01, 'Close'. Assumes nothing.
use Rattle.std.proofs.Common.{arith}
use Prim.Native.Nat.{ℕ, ◌≤◌}
use mathlib.Core.Path.{◌≡◌, refl, ap, sym}
use mathlib.Core.List.{List, []}
use lib.ListN.{length, replicate}
use Rattle.larq.specs.Answer.{Outcome}
use Rattle.larq.specs.Events.{close, close_on, act_on}
use Rattle.larq.specs.Channel.{window}
use Rattle.record.specs.Buffers.{Laid}
use Rattle.record.specs.Walk.{waiting_of, hand_numbers}
use Rattle.record.specs.Moving.{record_in, span_in}
use Rattle.record.specs.declared.Record.{Record}
use Rattle.record.proofs.Laying.{wrote_none, wrote_idle}
use Rattle.place.specs.Call.{Says, Told, told, Parts, Buffers, parts, buffers, DidAt, Called}
use Rattle.place.specs.Steps.{Ready}
use Rattle.place.specs.declared.Answer.{Answer}
use Rattle.std.specs.Prelude.{Ok}
use Rattle.place.proofs.Restarting.{wrote_waiting}
use Rattle.place.proofs.Opening.{Opened, ready}
use Rattle.place.proofs.Calling.{did_nack, called_opened}

-- the parts are zeros, each over its length
module _ {r : Record} {W H K : List ℕ} (is-ready : Ready r W H K) where
  pub closed_did : {n : ℕ} {w h k B b : List ℕ} {end : ℕ} {a : Answer} → n ≡ span_in r → Laid (waiting_of H K r.oldest.0 (hand_numbers H K n B)) 0 B b end
      → window ≤ length B → w ≡ replicate (length W) 0 → h ≡ replicate (length H) 0 → k ≡ replicate (length K) 0
      → Says 0 end 0 0 a → DidAt (close_on (record_in r W H K)) (parts W H K) (parts w h k) (buffers [] B []) (buffers [] b []) (told (Ok a))
  closed_did e laid room ew eh ek says =
      record {
        answer = record {
          number = refl;
          up = rw says.up (wrote_none []);
          returned = rw says.returned (wrote_waiting is-ready e laid room);
          nack = rw says.nack (wrote_none []);
          lost = says.lost;
        };
        became = rw (ew, eh, ek, is-ready.sized.words, is-ready.sized.handles, is-ready.sized.marks) refl;
      }

-- a close that no number refuses; the buffer for what goes up stays as it is
did_up : {o : Outcome ℕ} {before after : Parts} {a : Told} {B b N n : List ℕ} (U : List ℕ)
    → DidAt o before after (buffers [] B N) (buffers [] b n) a → DidAt o before after (buffers U B N) (buffers U b n) a
did_up U d = grind (arith, wrote_idle)

pub called_close : {p after : Parts} {b : Buffers} {time : ℕ} {r : Record} {v : List ℕ} {a : Told} → Opened p b 0 time r
    → DidAt (close_on (record_in r p.words p.handles p.marks)) p after (buffers [] b.returned []) (buffers [] v []) a
    → Called close time p after b (buffers b.up v b.nack) a
unfolding act_on
called_close {b = b} opened did =
    called_opened close refl opened (ap close_on (sym (ready opened).held)) (did_nack b.nack (did_up b.up did))
