-- How a flag ages along a run of events: it stays for the period of its use and the next, and then goes unless it is in the default set.
-- A run touches the Tx sets only by uses and period ends. One induction, `along`, carries a property that is counted by the period ends
-- still to come, and three such properties give the three parts. Assumes nothing.
use Prim.Native.Nat.{ℕ, zero, suc, ◌≤◌}
use mathlib.Core.Path.{◌≡◌, refl, sym, ◌∙◌, subst}
use mathlib.Core.Bool.{Bool, true, false}
use mathlib.Core.Logic.{◌↔◌, inl, inr}
use mathlib.Core.List.{List, [], ◌∷◌}
use native.Mathlib.Omega.{arith}
use lib.Dec.{ltb}
use Rattle.capability.specs.declared.Tx.{Tx}
use Rattle.capability.specs.declared.Frame.{Frame}
use Rattle.capability.specs.declared.Station.{Station}
use Rattle.capability.specs.Sets.{◌with◌, current_tx}
use Rattle.capability.specs.Events.{added_tx, after_use, rolled_tx, received}
use Rattle.capability.specs.Flags.{flag, ◌isIn◌, ◌isNotIn◌}
use Rattle.capability.specs.Run.{Event, use_of, period_end, frame_with, run, period_ends, EachUse, Ages}
use Rattle.capability.proofs.Bits.{flag_with, in_with}

-- ---- the Tx sets along a run

-- a received frame leaves the default set and the Tx sets
frame_keeps : (s : Station) (opcode : ℕ) (f : Frame) → ((received s opcode f).station.default ≡ s.default) × ((received s opcode f).station.tx ≡ s.tx)
frame_keeps s opcode f = by (ltb 1 opcode) refl
  where
    by : (b : Bool) → ltb 1 opcode ≡ b → ((received s opcode f).station.default ≡ s.default) × ((received s opcode f).station.tx ≡ s.tx)
    by true e = rw e (refl, refl)
    by false e = rw e (refl, refl)

-- P k t: what holds of the Tx sets t with k period ends to come
module _ (P : ℕ → Tx → Type 0) (Q : ℕ → Type 0) (d : ℕ)
    (at-use : (k : ℕ) (t : Tx) (f : ℕ) → Q f → P k t → P k (added_tx t f))
    (at-end : (k : ℕ) (t : Tx) → P (suc k) t → P k (rolled_tx d t)) where
  along : (s : Station) (es : List Event) → s.default ≡ d → EachUse Q es → P (period_ends es) s.tx → P 0 (run s es).tx
  unfolding run period_ends EachUse
  along s [] e q p = p
  along s (period_end ∷ es) e q p = along _ es e q (rw e (at-end (period_ends es) s.tx p))
  along s (use_of f ∷ es) e q p = along _ es e q.1 (at-use (period_ends es) s.tx f q.0 p)
  along s (frame_with opcode f ∷ es) e q p =
      let kept = frame_keeps s opcode f in
      along (received s opcode f).station es (kept.0 ∙ e) q (rw kept.1 p)

-- any use will do
any_use : (es : List Event) → EachUse (λ f. Unit {0}) es
unfolding EachUse
any_use [] = tt
any_use (period_end ∷ es) = any_use es
any_use (use_of f ∷ es) = (tt, any_use es)
any_use (frame_with opcode f ∷ es) = any_use es

-- ---- what holds of flag i with so many period ends to come

module _ (i : ℕ) where
  -- it is in CurrentTx, or in NewTx with one end to come
  abbrev Stays : ℕ → Tx → Type 0
  Stays zero t = i isIn current_tx t
  Stays (suc zero) t = i isIn t.new
  Stays (suc (suc k)) t = ⊥

  stays_use : (k : ℕ) (t : Tx) (f : ℕ) → Unit {0} → Stays k t → Stays k (added_tx t f)
  stays_use zero t f u p = omega (arith, p, flag_with i (t.new with f) t.previous, flag_with i t.new f, flag_with i t.new t.previous)
  stays_use (suc zero) t f u p = (in_with i t.new f).1 (inl p)
  stays_use (suc (suc k)) t f u p = p

  stays_end : (d k : ℕ) (t : Tx) → Stays (suc k) t → Stays k (rolled_tx d t)
  stays_end d zero t p = (in_with i d t.new).1 (inr p)
  stays_end d (suc k) t p = absurd p

  -- it is in OldestTx, in PreviousTx with one end to come, or in NewTx with two
  abbrev ToOldest : ℕ → Tx → Type 0
  ToOldest zero t = i isIn t.oldest
  ToOldest (suc zero) t = i isIn t.previous
  ToOldest (suc (suc zero)) t = i isIn t.new
  ToOldest (suc (suc (suc k))) t = ⊥

  to_oldest_use : (k : ℕ) (t : Tx) (f : ℕ) → Unit {0} → ToOldest k t → ToOldest k (added_tx t f)
  to_oldest_use zero t f u p = p
  to_oldest_use (suc zero) t f u p = p
  to_oldest_use (suc (suc zero)) t f u p = (in_with i t.new f).1 (inl p)
  to_oldest_use (suc (suc (suc k))) t f u p = p

  to_oldest_end : (d k : ℕ) (t : Tx) → ToOldest (suc k) t → ToOldest k (rolled_tx d t)
  to_oldest_end d zero t p = p
  to_oldest_end d (suc zero) t p = p
  to_oldest_end d (suc (suc k)) t p = absurd p

  -- NewTx and PreviousTx have it as the default set has, NewTx with one end to come, and no set need with two
  abbrev Goes : ℕ → ℕ → Tx → Type 0
  Goes d zero t = (flag i t.new ≡ flag i d) × (flag i t.previous ≡ flag i d)
  Goes d (suc zero) t = flag i t.new ≡ flag i d
  Goes d (suc (suc k)) t = Unit

  unused : (n f : ℕ) → i isNotIn f → flag i (n with f) ≡ flag i n
  unused n f h = omega (arith, flag_with i n f)

  goes_use : (d k : ℕ) (t : Tx) (f : ℕ) → i isNotIn f → Goes d k t → Goes d k (added_tx t f)
  goes_use d zero t f h p = (unused t.new f h ∙ p.0, p.1)
  goes_use d (suc zero) t f h p = unused t.new f h ∙ p
  goes_use d (suc (suc k)) t f h p = tt

  goes_end : (d k : ℕ) (t : Tx) → Goes d (suc k) t → Goes d k (rolled_tx d t)
  goes_end d zero t p = (refl, p)
  goes_end d (suc zero) t p = refl
  goes_end d (suc (suc k)) t p = tt

-- ---- the theorem

pub ages : (i f : ℕ) (s : Station) (es : List Event) → i isIn f → Ages i f s es
unfolding run
ages i f s es h = record { stays = stays; goes = goes; in_oldest = in_oldest }
  where
    after : Station
    after = after_use s f

    in_new : i isIn s.tx.new with f
    in_new = (in_with i s.tx.new f).1 (inr h)

    stays : period_ends es ≤ 1 → i isIn current_tx (run s (use_of f ∷ es)).tx
    stays l = along (Stays i) (λ g. Unit) s.default (stays_use i) (stays_end i s.default) after es refl (any_use es) (start (period_ends es) l)
      where
        start : (k : ℕ) → k ≤ 1 → Stays i k after.tx
        start zero l = (in_with i (s.tx.new with f) s.tx.previous).1 (inl in_new)
        start (suc zero) l = in_new
        start (suc (suc k)) l = absurd (omega arith)

    goes : 2 ≤ period_ends es → EachUse (λ g. i isNotIn g) es → (i isIn current_tx (run s (use_of f ∷ es)).tx) ↔ (i isIn s.default)
    goes l u =
        let left = along (Goes i s.default) (λ g. i isNotIn g) s.default (goes_use i s.default) (goes_end i s.default) after es refl u (start (period_ends es) l) in
        let same : flag i (current_tx (run after es).tx) ≡ flag i s.default =
        omega (arith, left.0, left.1, flag_with i (run after es).tx.new (run after es).tx.previous) in
        (λ p. sym same ∙ p, λ p. same ∙ p)
      where
        start : (k : ℕ) → 2 ≤ k → Goes i s.default k after.tx
        start zero l = absurd (omega arith)
        start (suc zero) l = absurd (omega arith)
        start (suc (suc k)) l = tt

    in_oldest : period_ends es ≡ 2 → i isIn (run s (use_of f ∷ es)).tx.oldest
    in_oldest e =
        along (ToOldest i) (λ g. Unit) s.default (to_oldest_use i) (to_oldest_end i s.default) after es refl (any_use es)
        (subst (λ (k : ℕ). ToOldest i k after.tx) (sym e) in_new)
