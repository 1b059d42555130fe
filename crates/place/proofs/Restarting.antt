-- The waiting handles all come back: a restart, after which the channel is as one that s has just opened. Document 01, 'Data'. Assumes nothing.
use Prim.Native.Nat.{ℕ, ◌≤◌}
use mathlib.Core.Path.{◌≡◌, refl}
use mathlib.Core.List.{List, []}
use native.Mathlib.Omega.{arith}
use lib.ListN.{length, set}
use Rattle.ring.specs.Ring.{next}
use Rattle.larq.specs.Channel.{waiting, window, span_of}
use Rattle.larq.specs.Events.{restarted, opened}
use Rattle.slots.specs.Slots.{with_head, times_from}
use Rattle.record.specs.Place.{record_with, record_of}
use Rattle.record.specs.Buffers.{Wrote, Laid}
use Rattle.place.specs.Call.{Says, told, parts, buffers, DidAt}
use Rattle.std.specs.Prelude.{Ok}
use Rattle.record.specs.Walk.{waiting_of, hand_numbers}
use Rattle.place.specs.Steps.{Ready}
use Rattle.record.specs.Moving.{record_in, span_in}
use Rattle.place.specs.declared.Answer.{Answer}
use Rattle.record.specs.declared.Record.{Record}
use Rattle.record.proofs.Windows.{cells_from_none}
use Rattle.record.proofs.Waiting.{waiting_cells_from, waiting_short, hands_all}
use Rattle.record.proofs.Laying.{wrote_front, wrote_none, wrote_one}
use Rattle.place.proofs.Places.{record_headed}

-- nothing is missing where M follows C
no_span : (s : ℕ) → span_of s (next s) ≡ 0
no_span s = omega arith

pub record_opened : (w h k : List ℕ) (s t : ℕ) → times_from ≤ length w → record_of (with_head w s (next s) t) h k ≡ opened s t
unfolding record_with
record_opened w h k s t l = grind (arith, record_headed, cells_from_none, no_span)

module _ {r : Record} {W H K : List ℕ} (is-ready : Ready r W H K) where
  -- every waiting handle of the record stands in the buffer
  pub wrote_waiting : {n : ℕ} {B b : List ℕ} {end : ℕ} → n ≡ span_in r → Laid (waiting_of H K r.oldest.0 (hand_numbers H K n B)) 0 B b end → window ≤ length B
      → Wrote (waiting (record_in r W H K).cells) B b end
  unfolding record_with
  wrote_waiting {n} {B} e laid room =
      rw (waiting_cells_from W H K r.oldest.0 (span_in r), ← e)
      (wrote_front (hands_all H K r.oldest.0 n is-ready.sized.handles is-ready.sized.marks (omega (arith, is-ready.narrow)) laid)
      (omega (arith, waiting_short H K r.oldest.0 n, is-ready.narrow)))

  pub restarted_did : {n s x t : ℕ} {w U u B b : List ℕ} {end : ℕ} {a : Answer} → n ≡ span_in r → Laid (waiting_of H K r.oldest.0 (hand_numbers H K n B)) 0 B b end
      → window ≤ length U → window ≤ length B → w ≡ with_head W s (next s) t → u ≡ set U 0 x → Says 1 0 0 0 a
      → DidAt (restarted (record_in r W H K) t s x) (parts W H K) (parts w H K) (buffers U B []) (buffers u b [])
      (told (Ok (record { up = a.up; returned = end; nack = a.nack; lost = a.lost })))
  restarted_did {s = s} {x = x} {t = t} {U = U} e laid room-up room-returned ew eu says =
      record {
        answer = record {
          number = refl;
          up = rw (eu, says.up) (wrote_one U x (omega arith));
          returned = wrote_waiting e laid room-returned;
          nack = rw says.nack (wrote_none []);
          lost = says.lost;
        };
        became = rw ew (record_opened W H K s t (omega (arith, is-ready.sized.words)));
      }
