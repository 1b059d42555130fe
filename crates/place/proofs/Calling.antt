-- A call on an open place, from what was decided and what was done: the rule for the event is the refusal by the number that was decided, or
-- what the event does. Assumes nothing.
use Prim.Native.Nat.{ℕ}
use mathlib.Core.Path.{◌≡◌, ◌∙◌}
use mathlib.Core.Bool.{cond}
use mathlib.Core.List.{List, []}
use lib.Dec.{leb}
use Rattle.wire.specs.Refusals.{Refusal, answered}
use Rattle.larq.specs.Channel as channel
use Rattle.larq.specs.Channel.{Channel}
use Rattle.larq.specs.Answer.{Change, Outcome, refused}
use Rattle.larq.specs.Events.{Act, act_on}
use Rattle.larq.specs.Table.{number_in_ring, reminder_near}
use Rattle.slots.specs.Slots.{current_in}
use Rattle.record.specs.Place.{record_with, record_of}
use Rattle.place.specs.Call.{lent_at, Buffers, Parts, buffers, Answered, Told, told, Says, DidAt, Called, rule_at}
use Rattle.place.specs.declared.Answer.{Answer}
use Rattle.larq.specs.Refused.{number_of}
use Rattle.larq.specs.declared.refused.Refused.{Refused}
use Rattle.std.specs.Prelude.{Result, Ok, Err}
use Rattle.std.proofs.Common.{arith, rules}
use Rattle.std.specs.Result.{IsErrAnd}
use Rattle.std.proofs.lemmas.Result.{err_from_is_err_and}
use Rattle.record.specs.Lengths.{lengths_of}
use Rattle.record.specs.declared.Lengths.{Lengths}
use Rattle.record.specs.declared.Record.{Record}
use Rattle.judging.specs.Judge.{common, judged_says, judged_for}
use Rattle.judging.proofs.Refusing.{common_to_all}
use Rattle.judging.proofs.Saying.{measured, said_refused}
use Rattle.judging.proofs.Sounds.{sound_handles}
use Rattle.record.proofs.Laying.{wrote_idle}
use Rattle.place.proofs.Opening.{Stopped, Opened, stopped_by}

-- a number, and counts of 0
abbrev pub alone : ℕ → Told
alone n = record { number = n; up = 0; returned = 0; nack = 0; lost = 0 }

-- Whatever the number, all counts are 0, and no buffer is touched.
pub answered_alone : {n : ℕ} {change : Change ℕ} {b : Buffers} {a : Told} → a ≡ alone n
    → Answered (record { answer = record { number = n; up = []; returned = []; nack = []; lost = 0 }; change = change }) b b a
answered_alone is = grind arith

pub did_alone : {n : ℕ} {p : Parts} {b : Buffers} {a : Told} → a ≡ alone n → DidAt (refused n) p p b b a
did_alone is = grind arith

-- The same of an answer that counts nothing.
pub answered_none : {change : Change ℕ} {b : Buffers} {a : Answer} → Says 0 0 0 0 a
    → Answered (record { answer = record { number = 0; up = []; returned = []; nack = []; lost = 0 }; change = change }) b b (told (Ok a))
answered_none says = grind arith

-- A refusal touches nothing.
pub did_nothing : {p : Parts} {b : Buffers} (e : Refused) → DidAt (refused (number_of e)) p p b b (told (Err e))
did_nothing e = search rules

-- The same outcome, told in another way.
pub did_as : {o o' : Outcome ℕ} {before after : Parts} {had has : Buffers} {a : Told} → o ≡ o' → DidAt o' before after had has a
    → DidAt o before after had has a
did_as {o} {o'} {before} {after} {had} {has} {a} e d = grind arith

-- A buffer that a function was not lent stays as it is.
module _ {o : Outcome ℕ} {before after : Parts} {a : Told} where
  pub did_returned : {U u N n : List ℕ} (B : List ℕ) → DidAt o before after (buffers U [] N) (buffers u [] n) a
      → DidAt o before after (buffers U B N) (buffers u B n) a
  did_returned B d = grind (arith, wrote_idle)

  pub did_nack : {U u B b : List ℕ} (N : List ℕ) → DidAt o before after (buffers U B []) (buffers u b []) a
      → DidAt o before after (buffers U B N) (buffers u b N) a
  did_nack N d = grind (arith, wrote_idle)

module _ (p : Parts) (b : Buffers) (s time : ℕ) (act : Act ℕ) (number : number_in_ring act ≡ leb s 4095) where
  abbrev c : Channel ℕ
  c = record_of p.words p.handles p.marks

  -- what the event does, or number 8
  abbrev done : Outcome ℕ
  done = cond (reminder_near channel.window act c) (act_on channel.window c time act) (refused 8)

  -- the tests that every event has; the handles have no part in them
  abbrev tests : List Refusal
  tests = common (lent_at p b) s time (record_of p.words [] p.marks)

  rule_is : rule_at p b time act ≡ answered refused tests done
  unfolding record_with
  rule_is = common_to_all (lent_at p b) s time c act number ∙ rw (sound_handles p.words p.handles p.marks)

  rule_stopped : {e : Refused} → Stopped p b s time e → rule_at p b time act ≡ refused (number_of e)
  rule_stopped {e} stopped = rule_is ∙ said_refused refused done tests (current_in p.words) _ (number_of e) stopped.by

  rule_opened : {r : Record} → Opened p b s time r → rule_at p b time act ≡ done
  rule_opened opened = let at = opened.at in rule_is ∙ rw (at.lent, at.number, at.whole, at.late)

called : {p after : Parts} {b has : Buffers} {time : ℕ} {act : Act ℕ} {o : Outcome ℕ} {a : Told} → rule_at p b time act ≡ o → DidAt o p after b has a
    → Called act time p after b has a
called e d = let x = did_as e d in record { answer = x.answer; became = x.became }

module _ {p : Parts} {b : Buffers} {s time : ℕ} (act : Act ℕ) (number : number_in_ring act ≡ leb s 4095) where
  -- a refusal changes nothing
  pub called_stopped : {e : Refused} → Stopped p b s time e → Called act time p p b b (told (Err e))
  called_stopped {e} stopped = called (rule_stopped p b s time act number stopped) (did_nothing e)

  pub called_opened : {r : Record} {o : Outcome ℕ} {after : Parts} {has : Buffers} {a : Told} → Opened p b s time r
      → done p b s time act number ≡ o → DidAt o p after b has a → Called act time p after b has a
  called_opened opened e d = called (rule_opened p b s time act number opened ∙ e) d

-- The exit at which a call hands on what judged it: what refused the event is what the call answers, and nothing has changed.
pub called_exit : {p : Parts} {b : Buffers} {time : ℕ} {act : Act ℕ} {l : Lengths} {j : Result Record Refused} {e : Refused} (s : ℕ)
    → number_in_ring act ≡ leb s 4095 → l ≡ lengths_of p.words p.handles p.marks b.up b.returned b.nack
    → judged_says j ≡ judged_for (measured p.words p.marks l) p.words p.marks s time → j ≡ Err e → (result : Result Answer Refused)
    → IsErrAnd result (λ f. f ≡ e) → Called act time p p b b (told result)
called_exit {p} {b} {time} {act} s number lengths says is result gives =
    let out = err_from_is_err_and result gives in
    rw (out.1, out.2) (called_stopped act number (stopped_by p b s time lengths says is))
