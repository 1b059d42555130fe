-- Dated: an accepted call sets the latest time of the record that it leaves, whatever else it does. Document 01, 'The four channel events'.
use Prim.Native.Nat.{ℕ, suc}
use mathlib.Core.Path.{◌≡◌, refl}
use mathlib.Core.Bool.{Bool, true, false}
use mathlib.Core.Option.{Option, some, none}
use mathlib.Core.List.{List, [], ◌∷◌}
use native.Mathlib.Omega.{arith}
use Rattle.ring.specs.Ring.{steps, Side, Ahead, Behind, Far}
use Rattle.larq.specs.Channel.{Cell, Channel}
use Rattle.larq.specs.Answer.{Outcome, Dated}
use Rattle.larq.specs.Events.{Act, frame, reminder, tick, close, filling, filled, data_on, reminder_on, side_of, act_on}
use Rattle.larq.specs.Table.{Table, channels, room, Event, is_data, done, outcome}
use Rattle.larq.proofs.Cases.{Passes, one_case}

module _ {H : Type 0} (w : ℕ) where
  data_dated : (c : Channel H) (t s : ℕ) (h : H) (r : Side) → Dated t (data_on w c t s h r).change
  data_dated c t s h (Ahead d) = refl
  data_dated c t s h (Behind d) = go (filling c.cells (steps c.oldest s) h)
    where
      go : (o : Option (List (Cell H))) → Dated t (filled w c t h o).change
      go none = refl
      go (some ds) = refl
  data_dated c t s h Far = refl

  reminder_dated : (c : Channel H) (t s : ℕ) (r : Side) → Dated t (reminder_on w c t s r).change
  reminder_dated c t s (Ahead d) = refl
  reminder_dated c t s (Behind d) = refl
  reminder_dated c t s Far = refl

  act_dated : (c : Channel H) (t : ℕ) (a : Act H) → Dated t (act_on w c t a).change
  unfolding act_on
  act_dated c t (frame s h) = data_dated c t s h (side_of w c s)
  act_dated c t (reminder s) = reminder_dated c t s (side_of w c s)
  act_dated c t tick = refl
  act_dated c t close = tt

  done_dated : (spare : Bool) (cs : List (Channel H)) (e : Event H) → Passes w spare cs e → Dated e.time (done w cs e.time e.act).change
  done_dated spare (c ∷ cs) e p = act_dated c e.time e.act
  done_dated spare [] e p = go e.act p.known
    where
      no : false ≡ true → ⊥
      no q = let z : ◌≡◌ {A = ℕ} 0 1 = cc in omega arith

      go : (a : Act H) → is_data a ≡ true → Dated e.time (done w [] e.time a).change
      go (frame s h) q = refl
      go (reminder s) q = absurd (no q)
      go tick q = absurd (no q)
      go close q = absurd (no q)

  pub sets_time : (t : Table H) (e : Event H) → (outcome w t e).answer.number ≡ 0 → Dated e.time (outcome w t e).change
  unfolding outcome
  sets_time t e =
      one_case w (room t) (channels e.key t) e (λ (o : Outcome H). o.answer.number ≡ 0 → Dated e.time o.change)
      (λ n (q : suc n ≡ 0). absurd (let z : ⊥ = omega arith in z)) (λ p _. done_dated (room t) (channels e.key t) e p)
