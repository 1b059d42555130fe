-- What an answer or a refusal says in the paper's terms: its number, the station after it, what is sent, what is really new, and the order for the timer.
-- Document 01, 'Capability sets'.
use Rattle.std.specs.Prelude.{ℕ, Bool, true, false, cond, Result, Ok, Err}
use Rattle.capability.specs.declared.Timer.{Timer}
use Rattle.capability.specs.declared.Timer.TheVariants.{Kept, Started, Cancelled}
use Rattle.capability.specs.declared.Station.{Station}
use Rattle.capability.specs.declared.Frame.{Frame}
use Rattle.capability.specs.declared.Answer.{Answer}
use Rattle.capability.specs.declared.refused.Refused.{Refused}
use Rattle.capability.specs.Refused.{number_of}
use Rattle.capability.specs.Sets.{carried}

-- the order for the retransmit timer: whether one that runs is cancelled, and whether one is started then
pub record Order : Type 0 where
  pub cancels : Bool
  pub starts : Bool

-- the order of each case
abbrev pub order_of : Timer → Order
order_of Kept = record { cancels = false; starts = false }
order_of Started = record { cancels = true; starts = true }
order_of Cancelled = record { cancels = true; starts = false }

-- started where this holds, and kept otherwise
abbrev pub start_if : Bool → Order
start_if b = record { cancels = b; starts = b }

-- cancelled, and started where this holds
abbrev pub cancel_then_start_if : Bool → Order
cancel_then_start_if b = record { cancels = true; starts = b }

-- for a host that takes numbers: 0 kept, 1 started, 2 cancelled
abbrev pub order_number : Order → ℕ
order_number o = cond o.starts 1 (cond o.cancels 2 0)

pub record Outcome : Type 0 where
  pub number : ℕ
  pub station : Station
  pub sends : Bool
  pub frame : Frame
  pub reported : ℕ
  pub timer : Order

-- a number beside an answer, as a host is told of both
abbrev pub outcome_as : ℕ → Answer → Outcome
outcome_as n a = record {
  number = n;
  station = a.station;
  sends = a.sends;
  frame = a.frame;
  reported = a.reported;
  timer = order_of a.timer;
}

-- an answer has number 0
abbrev pub outcome_of : Answer → Outcome
outcome_of = outcome_as 0

-- the answer that leaves this station, with the sets as they then are
abbrev pub outcome_with : ℕ → Station → Bool → ℕ → Order → Outcome
outcome_with n s sends new order = record { number = n; station = s; sends = sends; frame = carried s; reported = new; timer = order }

-- number 0: whether a frame is sent, the flags reported as really new, and the order for the timer
abbrev pub accepted : Station → Bool → ℕ → Order → Outcome
accepted = outcome_with 0

-- another number: nothing is changed, sent or reported, and the timer is kept
abbrev pub refused : ℕ → Station → Outcome
refused n s = outcome_with n s false 0 (order_of Kept)

-- what is said of an event at this station, which may be refused
abbrev pub outcome_or : Station → Result Answer Refused → Outcome
outcome_or s (Ok a) = outcome_of a
outcome_or s (Err e) = refused (number_of e) s
