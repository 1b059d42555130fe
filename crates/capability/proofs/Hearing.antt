-- How a flag ages that was heard: it is in NewRx for the period of its frame, then in PreviousRx, and then gone unless a frame announces it again; and what
-- a frame takes away is gone at once. A run touches the Rx sets only by frames that are not refused and by period ends. One induction, `along`, carries a
-- property that is counted by the period ends still to come. Assumes nothing.
use Prim.Native.Nat.{ℕ, zero, suc, ◌≤◌, ◌<◌}
use mathlib.Core.Path.{◌≡◌, refl, sym, subst}
use mathlib.Core.Bool.{Bool, true, false}
use mathlib.Core.Logic.{inl}
use mathlib.Core.List.{List, [], ◌∷◌}
use native.Mathlib.Omega.{arith}
use lib.Dec.{ltb}
use borrow.Author.Tests.{ltb-false, le-ltb}
use Rattle.capability.specs.declared.Rx.{Rx}
use Rattle.capability.specs.declared.Frame.{Frame}
use Rattle.capability.specs.declared.Station.{Station}
use Rattle.capability.specs.Sets.{◌with◌, current_rx}
use Rattle.capability.specs.Events.{rolled_rx, taken_away, heard_rx, received}
use Rattle.capability.specs.Flags.{Word, ◌isIn◌, ◌isNotIn◌}
use Rattle.capability.specs.Run.{Event, use_of, period_end, frame_with, run, period_ends, EachFrame, Spares, AgesHeard}
use Rattle.capability.proofs.Bits.{flag_with, flag_none, not_in_without}
use Rattle.capability.proofs.Flags.{in_neither, in_new_rx, in_previous_rx, current_is_heard}

-- ---- the Rx sets along a run

-- a frame that is refused leaves the Rx sets, and any other is heard
by_frame : (P : Rx → Type 0) (s : Station) (opcode : ℕ) (f : Frame) → P s.rx → (opcode ≤ 1 → P (heard_rx s.rx f))
    → P (received s opcode f).station.rx
by_frame P s opcode f kept heard = by (ltb 1 opcode) refl
  where
    by : (b : Bool) → ltb 1 opcode ≡ b → P (received s opcode f).station.rx
    by true e = rw e kept
    by false e = rw e (heard (ltb-false 1 opcode e))

is_heard : (s : Station) (opcode : ℕ) (f : Frame) → opcode ≤ 1 → (received s opcode f).station.rx ≡ heard_rx s.rx f
is_heard s opcode f l = rw (le-ltb 1 opcode l)

-- P k r: what holds of the Rx sets r with k period ends to come
module _ (P : ℕ → Rx → Type 0) (Q : Frame → Type 0)
    (at-frame : (k : ℕ) (r : Rx) (f : Frame) → Q f → P k r → P k (heard_rx r f))
    (at-end : (k : ℕ) (r : Rx) → P (suc k) r → P k (rolled_rx r)) where
  along : (s : Station) (es : List Event) → EachFrame Q es → P (period_ends es) s.rx → P 0 (run s es).rx
  unfolding run period_ends EachFrame
  along s [] q p = p
  along s (period_end ∷ es) q p = along _ es q (at-end (period_ends es) s.rx p)
  along s (use_of f ∷ es) q p = along _ es q p
  along s (frame_with opcode f ∷ es) q p =
      along (received s opcode f).station es q.1
      (by_frame (P (period_ends es)) s opcode f p (λ h. at-frame (period_ends es) s.rx f (q.0 h) p))

-- ---- what holds of flag i with so many period ends to come

module _ (i : ℕ) where
  -- it is in NewRx in this period
  abbrev InNew : ℕ → Rx → Type 0
  InNew zero r = i isIn r.new
  InNew (suc k) r = ⊥

  in_new_frame : i < 32 → (k : ℕ) (r : Rx) (f : Frame) → Spares i f → InNew k r → InNew k (heard_rx r f)
  in_new_frame b zero r f q p = (in_new_rx i b r f q.0).1 (inl p, q.1)
  in_new_frame b (suc k) r f q p = p

  in_new_end : (k : ℕ) (r : Rx) → InNew (suc k) r → InNew k (rolled_rx r)
  in_new_end k r p = absurd p

  -- it is in PreviousRx, or in NewRx with one end to come
  abbrev ToPrevious : ℕ → Rx → Type 0
  ToPrevious zero r = i isIn r.previous
  ToPrevious (suc zero) r = i isIn r.new
  ToPrevious (suc (suc k)) r = ⊥

  to_previous_frame : i < 32 → (k : ℕ) (r : Rx) (f : Frame) → Spares i f → ToPrevious k r → ToPrevious k (heard_rx r f)
  to_previous_frame b zero r f q p = (in_previous_rx i b r f q.0).1 (p, q.1)
  to_previous_frame b (suc zero) r f q p = (in_new_rx i b r f q.0).1 (inl p, q.1)
  to_previous_frame b (suc (suc k)) r f q p = p

  to_previous_end : (k : ℕ) (r : Rx) → ToPrevious (suc k) r → ToPrevious k (rolled_rx r)
  to_previous_end zero r p = p
  to_previous_end (suc k) r p = absurd p

  -- it is in neither set; with one end to come it is not in NewRx, and with two it may be anywhere
  abbrev Goes : ℕ → Rx → Type 0
  Goes zero r = (i isNotIn r.new) × (i isNotIn r.previous)
  Goes (suc zero) r = i isNotIn r.new
  Goes (suc (suc k)) r = Unit

  unheard_new : (r : Rx) (f : Frame) → i isNotIn f.current → i isNotIn r.new → i isNotIn (heard_rx r f).new
  unheard_new r f q p = not_in_without i (r.new with f.current) (taken_away f) (omega (arith, flag_with i r.new f.current))

  goes_frame : (k : ℕ) (r : Rx) (f : Frame) → i isNotIn f.current → Goes k r → Goes k (heard_rx r f)
  goes_frame zero r f q p = (unheard_new r f q p.0, not_in_without i r.previous (taken_away f) p.1)
  goes_frame (suc zero) r f q p = unheard_new r f q p
  goes_frame (suc (suc k)) r f q p = tt

  goes_end : (k : ℕ) (r : Rx) → Goes (suc k) r → Goes k (rolled_rx r)
  goes_end zero r p = (flag_none i, p)
  goes_end (suc zero) r p = flag_none i
  goes_end (suc (suc k)) r p = tt

  -- it is in neither set, however many ends are to come
  abbrev Out : ℕ → Rx → Type 0
  Out k r = Goes zero r

  out_frame : (k : ℕ) (r : Rx) (f : Frame) → i isNotIn f.current → Out k r → Out k (heard_rx r f)
  out_frame k = goes_frame zero

  out_end : (k : ℕ) (r : Rx) → Out (suc k) r → Out k (rolled_rx r)
  out_end k r p = (flag_none i, p.0)

-- ---- the theorems

-- whatever a station had heard, after two period ends a flag that no frame announces is not in CurrentRx
pub unheard : (i : ℕ) (s : Station) (es : List Event) → 2 ≤ period_ends es → EachFrame (λ g. i isNotIn g.current) es
    → i isNotIn current_rx (run s es).rx
unheard i s es l q = (in_neither i (run s es).rx.new (run s es).rx.previous).1
    (along (Goes i) (λ g. i isNotIn g.current) (goes_frame i) (goes_end i) s es q (start (period_ends es) l))
  where
    start : (k : ℕ) → 2 ≤ k → Goes i k s.rx
    start zero l = absurd (omega arith)
    start (suc zero) l = absurd (omega arith)
    start (suc (suc k)) l = tt

-- a flag that is not in CurrentRx comes into it only by a frame that announces it
pub stays_out : (i : ℕ) (s : Station) (es : List Event) → EachFrame (λ g. i isNotIn g.current) es → i isNotIn current_rx s.rx
    → i isNotIn current_rx (run s es).rx
stays_out i s es q p = (in_neither i (run s es).rx.new (run s es).rx.previous).1
    (along (Out i) (λ g. i isNotIn g.current) (out_frame i) (out_end i) s es q ((in_neither i s.rx.new s.rx.previous).0 p))

-- what a frame takes away is gone from CurrentRx until a frame announces it
pub taken_is_gone : (i opcode : ℕ) (f : Frame) (s : Station) (es : List Event) → i < 32 → opcode ≤ 1 → Word f.oldest → i isIn taken_away f
    → EachFrame (λ g. i isNotIn g.current) es → i isNotIn current_rx (run s (frame_with opcode f ∷ es)).rx
unfolding run
taken_is_gone i opcode f s es b l ho h q = stays_out i (received s opcode f).station es q (rw (is_heard s opcode f l) ((in_neither i (heard_rx s.rx f).new (heard_rx s.rx f).previous).1 left))
  where
    not_both : i isNotIn taken_away f → ⊥
    not_both e = omega arith

    out : (a : ℕ) → ¬ (i isIn a) → i isNotIn a
    out a n = omega (arith, n)

    left : (i isNotIn (heard_rx s.rx f).new) × (i isNotIn (heard_rx s.rx f).previous)
    left = (
      out (heard_rx s.rx f).new (λ e. not_both ((in_new_rx i b s.rx f ho).0 e).1),
      out (heard_rx s.rx f).previous (λ e. not_both ((in_previous_rx i b s.rx f ho).0 e).1),
    )

pub ages_heard : (i opcode : ℕ) (f : Frame) (s : Station) (es : List Event) → i < 32 → opcode ≤ 1 → Word f.oldest → Word f.current
    → i isIn f.current → AgesHeard i opcode f s es
unfolding run
ages_heard i opcode f s es b l ho hc h = record { in_new = in_new; in_previous = in_previous; goes = unheard i after es }
  where
    after : Station
    after = (received s opcode f).station

    heard_now : i isIn after.rx.new
    heard_now = rw (is_heard s opcode f l) (current_is_heard i b s.rx f ho hc h)

    in_new : period_ends es ≡ 0 → EachFrame (Spares i) es → i isIn (run s (frame_with opcode f ∷ es)).rx.new
    in_new e q =
        along (InNew i) (Spares i) (in_new_frame i b) (in_new_end i) after es q (subst (λ (k : ℕ). InNew i k after.rx) (sym e) heard_now)

    in_previous : period_ends es ≡ 1 → EachFrame (Spares i) es → i isIn (run s (frame_with opcode f ∷ es)).rx.previous
    in_previous e q =
        along (ToPrevious i) (Spares i) (to_previous_frame i b) (to_previous_end i) after es q (subst (λ (k : ℕ). ToPrevious i k after.rx) (sym e) heard_now)
