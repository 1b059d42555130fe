-- An event at a key, by cases: refused by a number above 0, or every test of the paper's table passes and the event is done. Assumes nothing.
use Prim.Native.Nat.{ℕ, suc}
use mathlib.Core.Path.{◌≡◌, refl, ap}
use mathlib.Core.Bool.{Bool, true, ◌||◌}
use mathlib.Core.List.{List}
use native.Mathlib.Omega.{arith}
use Rattle.wire.proofs.ByCases.{answered_case, answered_good}
use Rattle.larq.specs.Channel.{Channel, sound}
use Rattle.larq.specs.Answer.{Outcome, refused}
use Rattle.larq.specs.Table.{Event, one, done, refusals, lent_enough, number_in_ring, priority_fits, is_open, is_data, of_record, not_before, reminder_near}
use Rattle.larq.specs.Demands.{Told, told}

-- every test of the table passes
pub record Passes {H : Type 0} (w : ℕ) (spare : Bool) (cs : List (Channel H)) (e : Event H) : Type 0 where
  pub lent : lent_enough w e.lent ≡ true
  pub ring : number_in_ring e.act ≡ true
  pub priority : priority_fits e.key ≡ true
  pub known : is_open cs || is_data e.act ≡ true
  pub room : is_open cs || spare ≡ true
  pub whole : of_record (sound w) cs ≡ true
  pub time : of_record (not_before e.time) cs ≡ true
  pub near : of_record (reminder_near w e.act) cs ≡ true

module _ {H : Type 0} (w : ℕ) (spare : Bool) (cs : List (Channel H)) (e : Event H) where
  pub one_case {ℓ} : (P : Outcome H → Type ℓ) → ((n : ℕ) → P (refused (suc n))) → (Passes w spare cs e → P (done w cs e.time e.act))
      → P (one w spare cs e)
  unfolding one
  one_case P r k =
      answered_case P refused (refusals w spare cs e) (done w cs e.time e.act)
      (r 0, (r 1, (r 2, (r 3, (r 4, (r 5, (r 6, (r 7, tt))))))))
      (λ p. k (record {
        lent = p.0;
        ring = p.1.0;
        priority = p.1.1.0;
        known = p.1.1.1.0;
        room = p.1.1.1.1.0;
        whole = p.1.1.1.1.1.0;
        time = p.1.1.1.1.1.1.0;
        near = p.1.1.1.1.1.1.1.0;
      }))

  pub one_passes : Passes w spare cs e → one w spare cs e ≡ done w cs e.time e.act
  unfolding one
  one_passes p =
      answered_good refused (refusals w spare cs e) (done w cs e.time e.act)
      (p.lent, (p.ring, (p.priority, (p.known, (p.room, (p.whole, (p.time, (p.near, tt))))))))

  -- an accepted event passes every test, and does what the rules say
  pub accepted_passes : (one w spare cs e).answer.number ≡ 0 → Passes w spare cs e × (one w spare cs e ≡ done w cs e.time e.act)
  accepted_passes =
      one_case (λ o. o.answer.number ≡ 0 → Passes w spare cs e × (o ≡ done w cs e.time e.act))
      (λ n q. absurd (never n q)) (λ p _. (p, refl))
    where
      never : (n : ℕ) → suc n ≡ 0 → ⊥
      never n q = omega arith

-- two events of which the rules read the same have the same outcome
pub told_decides : {H : Type 0} (w : ℕ) (spare : Bool) (cs : List (Channel H)) (e f : Event H) → told w e ≡ told w f → one w spare cs e ≡ one w spare cs f
unfolding one
told_decides {H} w spare cs e f q =
    rw (ap (λ (x : Told H). x.enough) q, ap (λ (x : Told H). x.key) q, ap (λ (x : Told H). x.time) q, ap (λ (x : Told H). x.act) q)
