-- A data frame by where its number lies: what was done is what the rules say of it. Document 01, 'Data'. Assumes nothing.
use Prim.Native.Nat.{ℕ, ◌-◌, ◌<◌}
use mathlib.Core.Path.{◌≡◌, refl, ap, sym, ◌∙◌}
use mathlib.Core.List.{List, [], ◌∷◌, ◌++◌}
use native.Mathlib.Omega.{arith}
use lib.ListN.{length, set}
use Rattle.ring.specs.Ring.{next, steps, seen, Side, Ahead, Far, size}
use Rattle.larq.specs.Channel as channel
use Rattle.larq.specs.Channel.{waits, reach, Channel, window, span_of}
use Rattle.larq.specs.Settling.{walk, wide}
use Rattle.larq.specs.Answer.{accepted, holds}
use Rattle.larq.specs.Events.{frame, act_on, data_on, ahead, restarted, opened, asked, settled_at, taken}
use Rattle.slots.specs.Slots.{with_head, with_latest}
use Rattle.record.specs.Place.{cell_at, record_with}
use Rattle.place.specs.Call.{Parts, Buffers, parts, buffers, Says, Told, told, DidAt, Called}
use Rattle.record.specs.Moving.{record_in, span_in}
use Rattle.place.specs.Steps.{Ready, answer_of, filled_at, data_at}
use Rattle.judging.specs.Judge.{MissingAt}
use Rattle.judging.proofs.Spots.{NextAt, UnwantedAt}
use Rattle.place.specs.declared.Answer.{Answer}
use Rattle.std.specs.Prelude.{Ok}
use Rattle.stepping.specs.declared.Counts.{Counts}
use Rattle.record.specs.declared.Record.{Record}
use Rattle.record.proofs.Windows.{cells_from_none}
use Rattle.record.proofs.Laying.{wrote_none, wrote_one}
use Rattle.place.proofs.Places.{record_taken}
use Rattle.place.proofs.Opening.{Opened, ready, ahead_by_one}
use Rattle.place_frame.proofs.StepBehind.{rule_unwanted}
use Rattle.place.proofs.Restarting.{record_opened}
use Rattle.place.proofs.Calling.{did_as, did_returned, did_nack, called_opened}

module _ {r : Record} {W H K : List ℕ} (s x t : ℕ) (is-ready : Ready r W H K) where
  abbrev c : Channel ℕ
  c = record_in r W H K

  rule_by : {lies : Side} → seen (reach channel.window) r.current.0 s ≡ lies → data_at c t s x ≡ data_on channel.window c t s x lies
  unfolding record_with
  rule_by is = ap (data_on channel.window c t s x) is

  -- the number after C, while nothing is missing: the window is that number alone, and M passes it
  rule_next : s < size → NextAt r s → data_at c t s x ≡ accepted (x ∷ []) [] [] 0 (holds (opened s t))
  unfolding record_with asked
  rule_next ring at =
      rule_by at.is
      ∙ ap (λ cs. settled_at c t s 0 (walk (wide channel.window) r.oldest.0 (cs ++ (waits x ∷ []))))
      (cells_from_none (cell_at W H K) r.oldest.0 (span_in r) at.none)
      ∙ ap (λ m. accepted (x ∷ []) [] [] 0 (holds (record { current = s; oldest = next m; latest = t; cells = [] }))) oldest_is
    where
      follows : (c m : ℕ) → m < size → span_of c m ≡ 0 → steps c s ≡ 1 → m ≡ s
      follows c m a b d = omega arith

      oldest_is : r.oldest.0 ≡ s
      oldest_is = follows r.current.0 r.oldest.0 is-ready.oldest at.none (ahead_by_one r.current.0 s at.is)

  pub frame_next : {w u : List ℕ} {a : Answer} (U B N : List ℕ) → s < size → NextAt r s → 0 < length U → w ≡ with_head W s (next s) t → u ≡ set U 0 x
      → Says 1 0 0 0 a → DidAt (data_at c t s x) (parts W H K) (parts w H K) (buffers U B N) (buffers u B N) (told (Ok a))
  frame_next U B N ring at room ew eu says = grind (arith, rule_next, wrote_one, wrote_none, record_opened)

  pub frame_ahead : {d : ℕ} {after : Parts} {U u N n : List ℕ} {k : Counts} {a : Answer} (B : List ℕ) → seen (reach channel.window) r.current.0 s ≡ Ahead d
      → DidAt (ahead channel.window c t s (d - 1) (waits x ∷ [])) (parts W H K) after (buffers U [] N) (buffers u [] n) (told (Ok (answer_of k)))
      → a ≡ answer_of k → DidAt (data_at c t s x) (parts W H K) after (buffers U B N) (buffers u B n) (told (Ok a))
  frame_ahead B is did e = rw e (did_as (rule_by is) (did_returned B did))

  pub frame_missing : {after : Parts} {U u : List ℕ} {k : Counts} {a : Answer} (B N : List ℕ) → MissingAt r K s
      → DidAt (filled_at c t s x) (parts W H K) after (buffers U [] []) (buffers u [] []) (told (Ok (answer_of k)))
      → a ≡ answer_of k → DidAt (data_at c t s x) (parts W H K) after (buffers U B N) (buffers u B N) (told (Ok a))
  frame_missing B N at did e = rw e (did_as (rule_by at.behind.is) (did_nack N (did_returned B did)))

  pub frame_far : {after : Parts} {U u B b : List ℕ} {a : Told} (N : List ℕ) → seen (reach channel.window) r.current.0 s ≡ Far
      → DidAt (restarted c t s x) (parts W H K) after (buffers U B []) (buffers u b []) a
      → DidAt (data_at c t s x) (parts W H K) after (buffers U B N) (buffers u b N) a
  frame_far N is did = did_as (rule_by is) (did_nack N did)

  -- the handle comes back, and the latest time is laid down
  pub frame_unwanted : {w b : List ℕ} {a : Answer} (U B N : List ℕ) → UnwantedAt r K s → 0 < length B → w ≡ with_latest W t → b ≡ set B 0 x
      → Says 0 1 0 0 a → DidAt (data_at c t s x) (parts W H K) (parts w H K) (buffers U B N) (buffers U b N) (told (Ok a))
  frame_unwanted U B N at room ew eb says =
      did_as
      (rule_by at.behind.is ∙ rule_unwanted is-ready s x t at ∙ ap (λ y. accepted [] (x ∷ []) [] 0 (holds (taken y t))) is-ready.held)
      (record {
        answer = record {
          number = refl;
          up = rw says.up (wrote_none U);
          returned = rw (eb, says.returned) (wrote_one B x room);
          nack = rw says.nack (wrote_none N);
          lost = says.lost;
        };
        became = rw ew (record_taken W H K t (omega (arith, is-ready.sized.words)));
      })

-- a frame that no number refuses
pub called_frame : {p after : Parts} {b has : Buffers} {s time : ℕ} {r : Record} {a : Told} (x : ℕ) → Opened p b s time r
    → DidAt (data_at (record_in r p.words p.handles p.marks) time s x) p after b has a → Called (frame s x) time p after b has a
unfolding act_on
called_frame {s = s} {time = time} x opened did =
    called_opened (frame s x) refl opened (ap (λ y. data_at y time s x) (sym (ready opened).held)) did
