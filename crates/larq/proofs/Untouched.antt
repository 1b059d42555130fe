-- Untouched: a refusal gives its number with empty lists and no lost number, and leaves the table as it was; an event that no number refuses is
-- accepted. Demand 1.
use Prim.Native.Nat.{ℕ}
use mathlib.Core.Path.{◌≡◌, refl, ap, ◌∙◌}
use mathlib.Core.Bool.{Bool, true}
use mathlib.Core.Option.{Option, some, none}
use mathlib.Core.List.{List, [], ◌∷◌}
use Rattle.ring.specs.Ring.{steps, Side, Ahead, Behind, Far}
use Rattle.larq.specs.Channel.{Cell, Channel}
use Rattle.larq.specs.Answer.{Outcome, refused}
use Rattle.larq.specs.Events.{Act, frame, reminder, tick, close, filling, filled, data_on, reminder_on, side_of, act_on}
use Rattle.larq.specs.Table.{Table, channels, room, changed, Event, is_data, done, one, outcome, step}
use Rattle.larq.proofs.Cases.{Passes, one_case, one_passes}

module _ {H : Type 0} (w : ℕ) where
  data_accepts : (c : Channel H) (t s : ℕ) (h : H) (r : Side) → (data_on w c t s h r).answer.number ≡ 0
  data_accepts c t s h (Ahead d) = refl
  data_accepts c t s h (Behind d) = go (filling c.cells (steps c.oldest s) h)
    where
      go : (o : Option (List (Cell H))) → (filled w c t h o).answer.number ≡ 0
      go none = refl
      go (some ds) = refl
  data_accepts c t s h Far = refl

  reminder_accepts : (c : Channel H) (t s : ℕ) (r : Side) → (reminder_on w c t s r).answer.number ≡ 0
  reminder_accepts c t s (Ahead d) = refl
  reminder_accepts c t s (Behind d) = refl
  reminder_accepts c t s Far = refl

  pub act_accepts : (c : Channel H) (t : ℕ) (a : Act H) → (act_on w c t a).answer.number ≡ 0
  unfolding act_on
  act_accepts c t (frame s h) = data_accepts c t s h (side_of w c s)
  act_accepts c t (reminder s) = reminder_accepts c t s (side_of w c s)
  act_accepts c t tick = refl
  act_accepts c t close = refl

  done_accepts : (spare : Bool) (cs : List (Channel H)) (e : Event H) → Passes w spare cs e → (done w cs e.time e.act).answer.number ≡ 0
  done_accepts spare (c ∷ cs) e p = act_accepts c e.time e.act
  done_accepts spare [] e p = go e.act p.known
    where
      go : (a : Act H) → is_data a ≡ true → (done w [] e.time a).answer.number ≡ 0
      go (frame s h) q = refl
      go (reminder s) q = cc
      go tick q = cc
      go close q = cc

  -- an event that passes every test of the paper's table is accepted
  pub accepts : (t : Table H) (e : Event H) → Passes w (room t) (channels e.key t) e → (outcome w t e).answer.number ≡ 0
  unfolding outcome
  accepts t e p =
      ap (λ (o : Outcome H). o.answer.number) (one_passes w (room t) (channels e.key t) e p) ∙ done_accepts (room t) (channels e.key t) e p

  -- what is not accepted is the refusal by its number
  refused_as : (spare : Bool) (cs : List (Channel H)) (e : Event H) → ((one w spare cs e).answer.number ≡ 0 → ⊥) → one w spare cs e ≡ refused (one w spare cs e).answer.number
  refused_as spare cs e =
      one_case w spare cs e (λ (o : Outcome H). (o.answer.number ≡ 0 → ⊥) → o ≡ refused o.answer.number) (λ n _. refl)
      (λ p q. absurd (q (done_accepts spare cs e p)))

  pub refused_outcome : (t : Table H) (e : Event H) → ((outcome w t e).answer.number ≡ 0 → ⊥) → outcome w t e ≡ refused (outcome w t e).answer.number
  unfolding outcome
  refused_outcome t e q = refused_as (room t) (channels e.key t) e q

  -- a refused call: its lists are empty and nothing is lost, and the table is as it was
  pub record Untouched (t : Table H) (e : Event H) : Type 0 where
    pub answer : (outcome w t e).answer ≡ record { number = (outcome w t e).answer.number; up = []; returned = []; nack = []; lost = 0 }
    pub table : step w t e ≡ t

  pub untouched : (t : Table H) (e : Event H) → ((outcome w t e).answer.number ≡ 0 → ⊥) → Untouched t e
  unfolding outcome step
  untouched t e q =
      let r = refused_as (room t) (channels e.key t) e q in
      record { answer = ap (λ (o : Outcome H). o.answer) r; table = ap (λ (o : Outcome H). changed e.key t (channels e.key t) o.change) r }
