-- A reminder by where its number lies: what was done is what the rules say. Document 01, 'Reminder'. Assumes nothing.
use Prim.Native.Nat.{ℕ}
use mathlib.Core.Path.{◌≡◌, refl, ap, sym, ◌∙◌}
use mathlib.Core.Bool.{cond}
use mathlib.Core.List.{List, []}
use native.Mathlib.Omega.{arith}
use Rattle.ring.specs.Ring.{seen, Side, Ahead, Behind, Far}
use Rattle.larq.specs.Channel as channel
use Rattle.larq.specs.Channel.{reach, Channel, window}
use Rattle.larq.specs.Answer.{refused}
use Rattle.larq.specs.Events.{reminder, act_on, reminder_on, ahead, noted}
use Rattle.larq.specs.Table.{not_far}
use Rattle.slots.specs.Slots.{with_latest}
use Rattle.record.specs.Place.{record_with}
use Rattle.place.specs.Call.{Parts, Buffers, parts, buffers, Says, Told, told, DidAt, Called}
use Rattle.record.specs.Moving.{record_in}
use Rattle.place.specs.Steps.{Ready, answer_of, reminder_at}
use Rattle.place.specs.declared.Answer.{Answer}
use Rattle.larq.specs.declared.refused.Refused.TheVariants as refusal
use Rattle.std.specs.Prelude.{Ok, Err}
use Rattle.stepping.specs.declared.Counts.{Counts}
use Rattle.record.specs.declared.Record.{Record}
use Rattle.place.proofs.Places.{record_taken}
use Rattle.place.proofs.Opening.{Opened, ready}
use Rattle.place.proofs.Calling.{answered_none, did_as, did_nothing, did_returned, called_opened}

module _ {r : Record} {W H K : List ℕ} (is-ready : Ready r W H K) (t : ℕ) where
  abbrev c : Channel ℕ
  c = record_in r W H K

  module _ (s : ℕ) where
    rule_by : {lies : Side} → seen (reach channel.window) r.current.0 s ≡ lies
        → reminder_at c t s ≡ cond (not_far lies) (reminder_on channel.window c t s lies) (refused 8)
    unfolding record_with
    rule_by is = ap (λ x. cond (not_far x) (reminder_on channel.window c t s x) (refused 8)) is

    pub reminder_ahead : {d : ℕ} {after : Parts} {had has : Buffers} {k : Counts} {a : Answer} → seen (reach channel.window) r.current.0 s ≡ Ahead d
        → DidAt (ahead channel.window c t s d []) (parts W H K) after had has (told (Ok (answer_of k))) → a ≡ answer_of k
        → DidAt (reminder_at c t s) (parts W H K) after had has (told (Ok a))
    reminder_ahead is did e = rw e (did_as (rule_by is) did)

    pub reminder_behind : {d : ℕ} {w : List ℕ} {a : Answer} (U N : List ℕ) → seen (reach channel.window) r.current.0 s ≡ Behind d → w ≡ with_latest W t
        → Says 0 0 0 0 a → DidAt (reminder_at c t s) (parts W H K) (parts w H K) (buffers U [] N) (buffers U [] N) (told (Ok a))
    reminder_behind U N is ew says =
        did_as (rule_by is ∙ ap (λ y. noted y t) is-ready.held)
        (record {
          answer = answered_none says;
          became = rw ew (record_taken W H K t (omega (arith, is-ready.sized.words)));
        })

    pub reminder_far : (U N : List ℕ) → seen (reach channel.window) r.current.0 s ≡ Far
        → DidAt (reminder_at c t s) (parts W H K) (parts W H K) (buffers U [] N) (buffers U [] N) (told (Err refusal.Far))
    reminder_far U N is = did_as (rule_by is) (did_nothing refusal.Far)

-- a reminder that no common number refuses
module _ {p after : Parts} {b : Buffers} {time : ℕ} {r : Record} {a : Told} where
  pub called_reminder : {s : ℕ} {u n : List ℕ} → Opened p b s time r
      → DidAt (reminder_at (record_in r p.words p.handles p.marks) time s) p after (buffers b.up [] b.nack) (buffers u [] n) a
      → Called (reminder s) time p after b (buffers u b.returned n) a
  unfolding act_on
  called_reminder {s} opened did =
      called_opened (reminder s) refl opened (ap (λ y. reminder_at y time s) (sym (ready opened).held)) (did_returned b.returned did)
