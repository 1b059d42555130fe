-- What a place means when C, M and the latest time are laid down in its words, and after M has settled. Assumes nothing.
use Prim.Native.Nat.{ℕ, ◌+◌, ◌≤◌, ◌<◌}
use mathlib.Core.Path.{◌≡◌, refl, ap, sym, ◌∙◌}
use mathlib.Core.Bool.{Bool}
use mathlib.Core.List.{List}
use native.Mathlib.Omega.{arith}
use lib.ListN.{length}
use Rattle.ring.specs.Ring.{size, forward}
use Rattle.larq.specs.Channel.{Cell, span_of}
use Rattle.larq.specs.Settling.{walk}
use Rattle.larq.specs.Events.{moved, taken}
use Rattle.slots.specs.Slots.{slot_of, current_in, oldest_in, with_head, with_latest, times_from}
use Rattle.record.specs.Place.{cells_from, cell_at, record_with, record_of}
use Rattle.record.specs.Moving.{span_in, stored_in}
use Rattle.record.specs.Walk.{earlier, passes, Settles, settle_numbers}
use Rattle.record.proofs.Settling.{settles_all}
use Rattle.place.specs.Steps.{Sized, Roomy, walk_of, passed_of, Finished}
use Rattle.slots.proofs.Stores.{head_current, head_oldest, head_latest, head_times, latest_current, latest_oldest, latest_latest, latest_times}
use Rattle.place.specs.Call.{parts}
use Rattle.record.specs.declared.Record.{Record}
use Rattle.stepping.specs.declared.Counts.{Counts}
use Rattle.record.specs.declared.window.Settled.{Settled}
use Rattle.record.proofs.Rounds.{span_passed}
use Rattle.record.proofs.Windows.{drop_cells_from, length_cells_from, cells_from_same}
use Rattle.record.proofs.Walks.{Passed, passed}

-- a record that is laid down: its three words have no part in the cells
pub record_headed : (w h k : List ℕ) (c m t : ℕ) → times_from ≤ length w → record_of (with_head w c m t) h k ≡ record_with c m t w h k
unfolding record_with
record_headed w h k c m t sized =
    rw (head_current w c m t sized, head_oldest w c m t sized, head_latest w c m t sized)
    (ap (λ cs. record { current = c; oldest = m; latest = t; cells = cs })
    (cells_from_same (cell_at (with_head w c m t) h k) (cell_at w h k) m (span_of c m) (λ j p. rw (head_times w c m t (slot_of (m + j))))))

-- only the latest time is laid down
pub record_taken : (w h k : List ℕ) (t : ℕ) → times_from ≤ length w → record_of (with_latest w t) h k ≡ taken (record_of w h k) t
unfolding record_with
record_taken w h k t sized =
    rw (latest_current w t, latest_oldest w t, latest_latest w t sized)
    (ap (λ cs. record { current = current_in w; oldest = oldest_in w; latest = t; cells = cs })
    (cells_from_same (cell_at (with_latest w t) h k) (cell_at w h k) (oldest_in w) (span_of (current_in w) (oldest_in w)) (λ j p. rw (latest_times w t (slot_of (oldest_in w + j))))))

-- the cells that a walk leaves are the window from the new M on
pub walk_cells_from : (givesUp : ℕ → ℕ → Bool) (f : ℕ → Cell ℕ) (c m : ℕ) → m < size
    → (walk givesUp m (cells_from f m (span_of c m))).cells
    ≡ cells_from f (walk givesUp m (cells_from f m (span_of c m))).oldest (span_of c (walk givesUp m (cells_from f m (span_of c m))).oldest)
walk_cells_from givesUp f c m ring =
    let n = span_of c m in
    let p = walk givesUp m (cells_from f m n) in
    let q : Passed m (cells_from f m n) p = passed givesUp m (cells_from f m n) ring in
    let few : passes p ≤ n = omega (arith, q.few, length_cells_from f m n) in
    q.cells
    ∙ drop_cells_from f (passes p) m n ring
    ∙ ap (cells_from f (forward m (passes p))) (sym (span_passed c m (passes p) few))
    ∙ sym (ap (λ x. cells_from f x (span_of c x)) q.oldest)

-- the parts are those of a place, and what M passes has room: it walks over the whole window
pub walked : {r : Record} {until : ℕ} {w h k : List ℕ} {at : ℕ} {before after : List ℕ} {s : Settled} → Sized w h k
    → at + passed_of r until w h k ≤ length before → Settles r (settle_numbers w h k (span_in r) at before) until w h k at before after s
    → Settles r (span_in r) until w h k at before after s
walked sized room = settles_all sized.words sized.handles sized.marks room

-- the record when M has settled and the three words are laid down
pub settled_record : (r : Record) (until : ℕ) (w h k : List ℕ) (at : ℕ) (before after : List ℕ) (s : Settled) → times_from ≤ length w → r.oldest.0 < size
    → Settles r (span_in r) until w h k at before after s
    → record_of (with_head w s.kept.current.0 s.kept.oldest.0 s.kept.latest) h k
    ≡ moved r.current.0 r.latest (walk_of r until w h k)
unfolding record_with
settled_record r until w h k at before after s sized ring e =
    record_headed w h k s.kept.current.0 s.kept.oldest.0 s.kept.latest sized
    ∙ rw (e.current, e.oldest, e.latest)
    (ap (λ cs. record { current = r.current.0; oldest = (walk_of r until w h k).oldest; latest = r.latest; cells = cs })
    (sym (walk_cells_from (earlier until) (cell_at w h k) r.current.0 r.oldest.0 ring)))

-- M passes no more numbers than there are
pub passed_few : (r : Record) (until : ℕ) (w h k : List ℕ) → r.oldest.0 < size → passed_of r until w h k ≤ span_in r
passed_few r until w h k ring =
    let cells = cells_from (cell_at w h k) r.oldest.0 (span_in r) in
    omega (arith, (passed (earlier until) r.oldest.0 cells ring).few, length_cells_from (cell_at w h k) r.oldest.0 (span_in r))

-- what went up in this call has room
pub settled_room : {r : Record} {had : Counts} {w h k before after : List ℕ} {s : Settled} → Sized w h k → Roomy r had w h k before
    → Settles r (settle_numbers w h k (span_in r) had.up before) 0 w h k had.up before after s → had.up + s.up ≤ length before
settled_room sized roomy settles = omega (arith, (walked sized roomy.room settles).up.end_is, roomy.room)

-- M has settled in a place, where it has room, and the record is laid down
pub finished : {r : Record} {had : Counts} {w h k before after w' : List ℕ} {s : Settled} → Sized w h k → Roomy r had w h k before
    → Settles r (settle_numbers w h k (span_in r) had.up before) 0 w h k had.up before after s → w' ≡ stored_in s.kept w
    → Finished r (parts w h k) had before w' after (record { up = had.up + s.up; nack = had.nack; lost = had.lost })
finished {r} {had} {w} {h} {k} {before} {after} {s = s} sized roomy settles words_are =
    let done = walked sized roomy.room settles in
    let long : times_from ≤ length w = omega (arith, sized.words) in
    record {
      up = done.up;
      nack = refl;
      lost = refl;
      became =
          ap (λ w. record_of w h k) words_are
          ∙ settled_record r 0 w h k had.up before after s long roomy.oldest done;
    }
