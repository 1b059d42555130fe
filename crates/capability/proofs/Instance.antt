-- One station for three periods: the laws of aging at work, their premises met, and the sets that they speak of worked out. Assumes nothing.
-- Flags 0 and 7 are the default. Flag 5 is used once, or flag 31 is heard once; later flag 2 is used, frames come in and two periods end.
use Prim.Native.Nat.{ℕ}
use mathlib.Core.Path.{◌≡◌, refl}
use mathlib.Core.List.{List, [], ◌∷◌}
use native.Mathlib.Omega.{arith}
use Rattle.capability.specs.declared.Frame.{Frame}
use Rattle.capability.specs.declared.Station.{Station}
use Rattle.capability.specs.Sets.{current_tx, current_rx}
use Rattle.capability.specs.Events.{fresh, taken_away}
use Rattle.capability.specs.Flags.{◌isIn◌, ◌isNotIn◌}
use Rattle.capability.specs.Run.{Event, use_of, period_end, frame_with, run, period_ends, EachUse, EachFrame, AgesHeard}
use Rattle.capability.proofs.Aging.{ages}
use Rattle.capability.proofs.Hearing.{ages_heard, taken_is_gone}

abbrev station : Station
station = fresh 0b1000_0001

abbrev heard : Frame
heard = record { oldest = 0b0000_1000; current = 0b1000_0001; heard = 0 }

-- into the second period
abbrev next : List Event
next = frame_with 1 heard ∷ period_end ∷ use_of 0b0000_0100 ∷ []

-- into the third
abbrev later : List Event
later = frame_with 1 heard ∷ period_end ∷ use_of 0b0000_0100 ∷ frame_with 7 heard ∷ period_end ∷ []

-- ---- flag 5, used

pub still_announced : 5 isIn current_tx (run station (use_of 0b0010_0000 ∷ next)).tx
unfolding period_ends
still_announced = (ages 5 0b0010_0000 station next refl).stays (omega arith)

pub gone : ¬ (5 isIn current_tx (run station (use_of 0b0010_0000 ∷ later)).tx)
unfolding period_ends EachUse
gone p = let z : ◌≡◌ {A = ℕ} 0 1 = ((ages 5 0b0010_0000 station later refl).goes (omega arith) (refl, tt)).0 p in omega arith

pub in_oldest_law : 5 isIn (run station (use_of 0b0010_0000 ∷ later)).tx.oldest
unfolding period_ends
in_oldest_law = (ages 5 0b0010_0000 station later refl).in_oldest refl

-- the same sets by computation
pub worked_out : (run station (use_of 0b0010_0000 ∷ later)).tx ≡ record { new = 0b1000_0001; previous = 0b1000_0101; oldest = 0b1010_0001 }
unfolding run
worked_out = refl

-- ---- flag 31, heard

abbrev far : Frame
far = record { oldest = 0; current = 0x8000_0000; heard = 0 }

-- its sender drops it
abbrev dropped : Frame
dropped = record { oldest = 0x8000_0000; current = 0b0000_0001; heard = 0 }

abbrev ages_31 : (es : List Event) → AgesHeard 31 0 far station es
ages_31 es = ages_heard 31 0 far station es (omega arith) (omega arith) (omega arith) (omega arith) refl

-- in its own period, after two more frames, one of which would drop it and is refused
pub heard_now_law : 31 isIn (run station (frame_with 0 far ∷ frame_with 1 heard ∷ frame_with 2 dropped ∷ [])).rx.new
unfolding period_ends EachFrame taken_away
heard_now_law = (ages_31 (frame_with 1 heard ∷ frame_with 2 dropped ∷ [])).in_new refl (λ h. (omega arith, refl), (λ h. absurd (omega arith), tt))

pub heard_before : 31 isIn (run station (frame_with 0 far ∷ next)).rx.previous
unfolding period_ends EachFrame taken_away
heard_before = (ages_31 next).in_previous refl (λ h. (omega arith, refl), tt)

pub heard_no_more : 31 isNotIn current_rx (run station (frame_with 0 far ∷ later)).rx
unfolding period_ends EachFrame
heard_no_more = (ages_31 later).goes (omega arith) (λ h. refl, (λ h. refl, tt))

pub dropped_at_once : 31 isNotIn current_rx (run station (frame_with 0 far ∷ frame_with 0 dropped ∷ next)).rx
unfolding run EachFrame taken_away
dropped_at_once = taken_is_gone 31 0 dropped (run station (frame_with 0 far ∷ [])) next (omega arith) (omega arith) (omega arith) refl (λ h. refl, tt)

-- the same sets by computation
pub worked_out_rx : (run station (frame_with 0 far ∷ frame_with 0 dropped ∷ next)).rx ≡ record { new = 0; previous = 0b1000_0001 }
unfolding run taken_away
worked_out_rx = refl
