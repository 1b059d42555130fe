-- At once: an accepted frame with the next expected number, M, goes up in its own call, before all else. Demand 3, second half.
use Prim.Native.Nat.{ℕ, zero, suc, ◌-◌, ◌≤◌, ◌<◌}
use mathlib.Core.Path.{◌≡◌, refl, ap, sym, subst, ◌∙◌}
use mathlib.Core.Bool.{true}
use mathlib.Core.List.{List, [], ◌∷◌, ◌++◌}
use native.Mathlib.Omega.{arith}
use lib.ListN.{length, replicate}
use Rattle.ring.specs.Ring.{forward, next, steps, Side, Ahead, Behind, Far}
use Rattle.ring.proofs.Sides.{Seen, sees}
use Rattle.ring.proofs.Steps.{steps_self}
use Rattle.larq.specs.Channel.{Cell, waits, missing, Channel, head_missing, reach}
use Rattle.larq.specs.Settling.{walk, wide}
use Rattle.larq.specs.Events.{frame, filling, filled, data_on, side_of, act_on}
use Rattle.larq.specs.Table.{Table, channels, room, Event, one, outcome}
use Rattle.larq.specs.Demands.{UpFirst}
use Rattle.larq.proofs.Cases.{accepted_passes}
use Rattle.larq.proofs.Sound.{Sound, Good}

-- seen from C, the number M lies one ahead where the span is 0, and else behind
one_ahead : (w c m n d : ℕ) → w < 1024 → n ≤ w → forward m n ≡ next c → c ≤ 4095 → m ≤ 4095 → steps c m ≡ d → 0 < d → d ≤ reach w → (n ≡ 0) × (d ≡ 1)
one_ahead w c m n d half l e hc hm is p q = (omega arith, omega arith)

not_behind : (w c m d : ℕ) → w < 1024 → forward m 0 ≡ next c → c ≤ 4095 → m ≤ 4095 → steps m c ≡ d → d ≤ reach w → ⊥
not_behind w c m d half e hc hm is q = omega arith

module _ {H : Type 0} (w : ℕ) (half : w < 1024) (c : Channel H) (t : ℕ) (g : Good w c) (h : H) where
  p : Sound w c
  p = g.sound

  into_empty : (cs : List (Cell H)) (m k : ℕ) → length cs ≡ 0 → k ≡ 0 → (hs : List H) × ((walk (wide w) m (cs ++ (replicate k (missing t) ++ (waits h ∷ [])))).up ≡ h ∷ hs)
  into_empty [] m zero e f = ([], refl)
  into_empty [] m (suc k) e f = absurd (omega arith)
  into_empty (x ∷ cs) m k e f = absurd (omega arith)

  into_first : (cs : List (Cell H)) (i : ℕ) → 0 < length cs → head_missing cs ≡ true → i ≡ 0 → UpFirst h (filled w c t h (filling cs i h))
  into_first [] i l e f = absurd (omega arith)
  into_first (waits x ∷ cs) i l e f = absurd (let z : ◌≡◌ {A = ℕ} 0 1 = cc in omega arith)
  into_first (missing x ∷ cs) zero l e f = ((walk (wide w) (next c.oldest) cs).up, refl)
  into_first (missing x ∷ cs) (suc i) l e f = absurd (omega arith)

  data_up : (r : Side) → Seen (reach w) c.current c.oldest r → UpFirst h (data_on w c t c.oldest h r)
  data_up (Ahead d) q =
      let e : (length c.cells ≡ 0) × (d ≡ 1) = one_ahead w c.current c.oldest (length c.cells) d half p.short g.joined p.current p.oldest q.is q.some q.near in
      into_empty c.cells c.oldest (d - 1) e.0 (omega arith)
  data_up (Behind d) q = into_first c.cells (steps c.oldest c.oldest) (some (length c.cells) g.joined) p.head (steps_self c.oldest)
    where
      some : (n : ℕ) → forward c.oldest n ≡ next c.current → 0 < n
      some zero e = absurd (not_behind w c.current c.oldest d half e p.current p.oldest q.is q.near)
      some (suc n) e = omega arith
  data_up Far q = ([], refl)

-- Data with the number M for an open channel whose record is good: if accepted, its handle goes up first in this very call
pub at_once : {H : Type 0} (w : ℕ) → w < 1024 → (t : Table H) (e : Event H) (c : Channel H) (cs : List (Channel H)) (h : H) → Good w c
    → channels e.key t ≡ c ∷ cs → e.act ≡ frame c.oldest h → (outcome w t e).answer.number ≡ 0 → UpFirst h (outcome w t e)
unfolding outcome act_on
at_once {H} w half t e c cs h g q a ok =
    subst (UpFirst h) (sym same_as) (data_up w half c e.time g h (side_of w c c.oldest) (sees (reach w) c.current c.oldest (omega arith)))
  where
    same_as : one w (room t) (channels e.key t) e ≡ data_on w c e.time c.oldest h (side_of w c c.oldest)
    same_as =
        ap (λ (l : List (Channel H)). one w (room t) l e) q
        ∙ (accepted_passes w (room t) (c ∷ cs) e (rw q at ok)).1
        ∙ rw a
