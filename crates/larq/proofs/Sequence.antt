-- Sequence: what a close and a restart give back stands in sequence order, by the numbers with which the handles wait. Document 01, 'Data' and 'Close'.
use Prim.Native.Nat.{ℕ, suc, ◌+◌, ◌≤◌, ◌<◌}
use mathlib.Core.Path.{◌≡◌, refl, ap, ◌∙◌}
use mathlib.Core.List.{List, [], ◌∷◌}
use native.Mathlib.Omega.{arith}
use lib.ListN.{length}
use Rattle.ring.specs.Ring.{size, next, steps, rising}
use Rattle.ring.proofs.Steps.{steps_self}
use Rattle.larq.specs.Channel.{Cell, waits, missing, Channel, waiting}
use Rattle.larq.specs.Answer.{Answer}
use Rattle.larq.specs.Events.{close, close_on, act_on}
use Rattle.larq.specs.Table.{Table, channels, room, Event, one, outcome}
use Rattle.larq.specs.Sequence.{handle_in, waits_with, gathered, in_sequence}
use Rattle.larq.proofs.Cases.{accepted_passes}
use Rattle.larq.proofs.Sound.{sound_is}
use Rattle.larq.proofs.Restart.{FarFrame, restart_leaves}

-- the number after one that is i steps from m
steps_next : (m n i : ℕ) → steps m n ≡ i → suc i < size → steps m (next n) ≡ suc i
steps_next m n i e h = omega arith

module _ {H : Type 0} (c : Channel H) where
  -- a part `cs` of the window, whose first number, n, is the i-th from M on
  gathers : (cs : List (Cell H)) (i n : ℕ) → (0 < length cs → steps c.oldest n ≡ i) → i + length cs ≤ size
      → ((j : ℕ) → handle_in c.cells (i + j) ≡ handle_in cs j) → waiting cs ≡ gathered (waits_with c) (rising n (length cs))
  gathers [] i n e h is = refl
  gathers (d ∷ cs) i n e h is = go d (is 0) (gathers cs (suc i) (next n) (λ more. steps_next c.oldest n i here (omega (arith, more))) (omega (arith, h)) (λ j. later j))
    where
      here : steps c.oldest n ≡ i
      here = e (omega arith)

      later : (j : ℕ) → handle_in c.cells (suc i + j) ≡ handle_in cs j
      later j = let z : suc i + j ≡ i + suc j = omega arith in rw z (is (suc j) ∙ skip d j)
        where
          skip : (d : Cell H) (j : ℕ) → handle_in (d ∷ cs) (suc j) ≡ handle_in cs j
          skip (waits g) j = refl
          skip (missing t) j = refl

      first : handle_in c.cells (i + 0) ≡ handle_in c.cells (steps c.oldest n)
      first = let z : i + 0 ≡ i = omega arith in rw (z, here)

      go : (d : Cell H) → handle_in c.cells (i + 0) ≡ handle_in (d ∷ cs) 0 → waiting cs ≡ gathered (waits_with c) (rising (next n) (length cs))
          → waiting (d ∷ cs) ≡ gathered (waits_with c) (n ∷ rising (next n) (length cs))
      go (waits g) q ih = rw (← first, q) (ap (λ l. g ∷ l) ih)
      go (missing t) q ih = rw (← first, q) ih

  -- the handles of a window are those of its numbers, from M on
  pub waiting_in_sequence : length c.cells ≤ size → waiting c.cells ≡ in_sequence c
  waiting_in_sequence h = gathers c.cells 0 c.oldest (λ _. steps_self c.oldest) (omega (arith, h)) (λ j. let z : 0 + j ≡ j = omega arith in rw z)

module _ {H : Type 0} (w : ℕ) (small : w ≤ size) (t : Table H) (e : Event H) (c : Channel H) (cs : List (Channel H)) where
  -- the window of a record that an accepted event found
  short : channels e.key t ≡ c ∷ cs → (outcome w t e).answer.number ≡ 0 → length c.cells ≤ size
  unfolding outcome
  short q a = let p = (accepted_passes w (room t) (c ∷ cs) e (rw q at a)).0 in omega (arith, (sound_is w c p.whole).short)

  pub restart_in_sequence : (s : ℕ) (h : H) → FarFrame w t e c cs s h → (outcome w t e).answer.returned ≡ in_sequence c
  restart_in_sequence s h is =
      ap (λ (r : Answer H). r.returned) (restart_leaves w t e s h c cs is).answer ∙ waiting_in_sequence c (short is.is_open_law is.is_accepted)

  pub close_in_sequence : channels e.key t ≡ c ∷ cs → e.act ≡ close → (outcome w t e).answer.number ≡ 0 → (outcome w t e).answer.returned ≡ in_sequence c
  unfolding outcome act_on
  close_in_sequence q is a =
      rw (q, here) (waiting_in_sequence c (short q a))
    where
      here : one w (room t) (c ∷ cs) e ≡ close_on c
      here = (accepted_passes w (room t) (c ∷ cs) e (rw q at a)).1 ∙ rw is
