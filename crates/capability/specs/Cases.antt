-- Document 01, 'Capability sets', as one table of cases with their whole outcomes, of which `all_hold` (proofs/Cases) is the one statement.
-- What a row expects is worked out from the paper. A row stands alone, on the station that it names, so that a rule that changes changes its own rows.
use Rattle.std.specs.Prelude.{ℕ, ◌≡◌, Bool, true, false, List, [], ◌∷◌, Result, Ok, Err}
use Rattle.capability.specs.declared.Timer.{Timer}
use Rattle.capability.specs.declared.Timer.TheVariants.{Kept, Started, Cancelled}
use Rattle.capability.specs.declared.Station.{Station}
use Rattle.capability.specs.declared.Frame.{Frame}
use Rattle.capability.specs.declared.Answer.{Answer}
use Rattle.capability.specs.declared.refused.Refused.{Refused}
use Rattle.capability.specs.declared.refused.Refused.TheVariants.{Opcode}
use Rattle.capability.specs.Answers.{Order, order_of, order_number, Outcome, outcome_or}
use Rattle.capability.specs.Events.{fresh}
use Rattle.capability.specs.Run.{Event, use_of, period_end, frame_with, outcome}

-- a case of the timer, its order and its number; a station, an answer or a refusal there, and what it says; a default set and the fresh station; or a station, an event, and the outcome
pub data Case : Type 0 where
  means : Timer → Order → ℕ → Case
  reads : Station → Result Answer Refused → Outcome → Case
  begins : ℕ → Station → Case
  gets : Station → Event → Outcome → Case

abbrev pub Holds : Case → Type 0
Holds (means t o n) = (order_of t ≡ o) × (order_number o ≡ n)
Holds (reads s r o) = outcome_or s r ≡ o
Holds (begins d s) = fresh d ≡ s
Holds (gets s e o) = outcome s e ≡ o

abbrev pub All : List Case → Type 0
All [] = Unit {0}
All (c ∷ l) = Holds c × All l

-- a station, in the paper's order: its default set, NewTx, PreviousTx and OldestTx, NewRx and PreviousRx
abbrev pub has : ℕ → ℕ → ℕ → ℕ → ℕ → ℕ → Station
has default newTx previousTx oldestTx newRx previousRx =
    record {
      default = default;
      tx = record { new = newTx; previous = previousTx; oldest = oldestTx };
      rx = record { new = newRx; previous = previousRx };
    }

-- a frame: OldestTx, CurrentTx and CurrentRx
abbrev pub carries : ℕ → ℕ → ℕ → Frame
carries oldest current heard = record { oldest = oldest; current = current; heard = heard }

-- the timer as it is; cancelled if it runs, and one started; cancelled if it runs
abbrev pub kept : Order
kept = record { cancels = false; starts = false }

abbrev pub started : Order
started = record { cancels = true; starts = true }

abbrev pub cancelled : Order
cancelled = record { cancels = true; starts = false }

-- an outcome: its number, the station afterwards, whether a frame is sent, the sets of one, what is really new, the timer
abbrev pub says : ℕ → Station → Bool → Frame → ℕ → Order → Outcome
says n s sends f new o = record { number = n; station = s; sends = sends; frame = f; reported = new; timer = o }

-- each set has a flag of its own
abbrev pub apart : Station
apart = has 0x01 0x02 0x04 0x08 0x10 0x20

-- the 32 flags stand in the sets in every way: of any three of these nine sets, and of the last five, each choice has a flag that is in those and not in the others
abbrev pub mixed : Station
mixed = has 0x9696_9696 0x9966_9966 0x9999_6666 0xa55a_a55a 0xaaaa_aaaa 0xcccc_cccc

abbrev pub mixed_frame : Frame
mixed_frame = carries 0xff00_ff00 0xf0f0_f0f0 0xffff_0000

unfoldable pub cases : List Case
cases =
    means Kept kept 0
    ∷ means Started started 1
    ∷ means Cancelled cancelled 2
    ∷ reads mixed (Ok (record { station = apart; sends = true; frame = mixed_frame; reported = 0x40; timer = Cancelled })) (says 0 apart true mixed_frame 0x40 cancelled)
    ∷ reads apart (Ok (record { station = mixed; sends = false; frame = carries 1 2 4; reported = 0; timer = Kept })) (says 0 mixed false (carries 1 2 4) 0 kept)
    -- flags 0 and 7 are the default, as in 001, 6.5.2
    ∷ begins 0x81 (has 0x81 0x81 0 0 0 0)
    -- six periods of that station, each row on what the one before left: 2 and 5 are used, 5 again; 0, 3 and 7 are heard, then 4 with a request
    ∷ gets (has 0x81 0x81 0 0 0 0) (use_of 0x24) (says 0 (has 0x81 0xa5 0 0 0 0) true (carries 0 0xa5 0) 0 started)
    ∷ gets (has 0x81 0xa5 0 0 0 0) (use_of 0x20) (says 0 (has 0x81 0xa5 0 0 0 0) false (carries 0 0xa5 0) 0 kept)
    ∷ gets (has 0x81 0xa5 0 0 0 0) (frame_with 0 (carries 0 0x89 0)) (says 0 (has 0x81 0xa5 0 0 0x89 0) false (carries 0 0xa5 0x89) 0x89 kept)
    ∷ gets (has 0x81 0xa5 0 0 0x89 0) (frame_with 1 (carries 0 0x91 0x89)) (says 0 (has 0x81 0xa5 0 0 0x99 0) false (carries 0 0xa5 0x99) 0x10 started)
    ∷ gets (has 0x81 0xa5 0 0 0x99 0) period_end (says 0 (has 0x81 0x81 0xa5 0 0 0x99) true (carries 0 0xa5 0x99) 0 started)
    -- 5 is used and was announced in the period before; the sender of 4 has dropped it
    ∷ gets (has 0x81 0x81 0xa5 0 0 0x99) (use_of 0x20) (says 0 (has 0x81 0xa1 0xa5 0 0 0x99) false (carries 0 0xa5 0x99) 0 kept)
    ∷ gets (has 0x81 0xa1 0xa5 0 0 0x99) (frame_with 0 (carries 0x91 0x81 0xa1)) (says 0 (has 0x81 0xa1 0xa5 0 0x81 0x89) false (carries 0 0xa5 0x89) 0 kept)
    ∷ gets (has 0x81 0xa1 0xa5 0 0x81 0x89) period_end (says 0 (has 0x81 0x81 0xa1 0xa5 0 0x81) true (carries 0xa5 0xa1 0x81) 0 started)
    -- nothing is used or heard: 2 and 3 are gone, and then 5, 0 and 7 of what was heard
    ∷ gets (has 0x81 0x81 0xa1 0xa5 0 0x81) period_end (says 0 (has 0x81 0x81 0x81 0xa1 0 0) true (carries 0xa1 0x81 0) 0 started)
    -- 5 is announced anew, though OldestTx has it; two periods later it is gone, and in the last one OldestTx is CurrentTx
    ∷ gets (has 0x81 0x81 0x81 0xa1 0 0) (use_of 0x20) (says 0 (has 0x81 0xa1 0x81 0xa1 0 0) true (carries 0xa1 0xa1 0) 0 started)
    ∷ gets (has 0x81 0xa1 0x81 0xa1 0 0) period_end (says 0 (has 0x81 0x81 0xa1 0x81 0 0) true (carries 0x81 0xa1 0) 0 started)
    ∷ gets (has 0x81 0x81 0xa1 0x81 0 0) period_end (says 0 (has 0x81 0x81 0x81 0xa1 0 0) true (carries 0xa1 0x81 0) 0 started)
    ∷ gets (has 0x81 0x81 0x81 0xa1 0 0) period_end (says 0 (has 0x81 0x81 0x81 0x81 0 0) true (carries 0x81 0x81 0) 0 cancelled)
    -- use of a flag of each set, of a flag of none with two others, of both that are announced already, and of no flag
    ∷ gets apart (use_of 0x01) (says 0 (has 0x01 0x03 0x04 0x08 0x10 0x20) true (carries 0x08 0x07 0x30) 0 started)
    ∷ gets apart (use_of 0x02) (says 0 apart false (carries 0x08 0x06 0x30) 0 kept)
    ∷ gets apart (use_of 0x04) (says 0 (has 0x01 0x06 0x04 0x08 0x10 0x20) false (carries 0x08 0x06 0x30) 0 kept)
    ∷ gets apart (use_of 0x08) (says 0 (has 0x01 0x0a 0x04 0x08 0x10 0x20) true (carries 0x08 0x0e 0x30) 0 started)
    ∷ gets apart (use_of 0x10) (says 0 (has 0x01 0x12 0x04 0x08 0x10 0x20) true (carries 0x08 0x16 0x30) 0 started)
    ∷ gets apart (use_of 0x20) (says 0 (has 0x01 0x22 0x04 0x08 0x10 0x20) true (carries 0x08 0x26 0x30) 0 started)
    ∷ gets apart (use_of 0x46) (says 0 (has 0x01 0x46 0x04 0x08 0x10 0x20) true (carries 0x08 0x46 0x30) 0 started)
    ∷ gets apart (use_of 0x06) (says 0 (has 0x01 0x06 0x04 0x08 0x10 0x20) false (carries 0x08 0x06 0x30) 0 kept)
    ∷ gets apart (use_of 0) (says 0 apart false (carries 0x08 0x06 0x30) 0 kept)
    ∷ gets mixed (use_of 0xa5a5_5a5a)
    (says 0 (has 0x9696_9696 0xbde7_db7e 0x9999_6666 0xa55a_a55a 0xaaaa_aaaa 0xcccc_cccc) true (carries 0xa55a_a55a 0xbdff_ff7e 0xeeee_eeee) 0 started)
    -- period end: each set moves
    ∷ gets apart period_end (says 0 (has 0x01 0x01 0x02 0x04 0 0x10) true (carries 0x04 0x03 0x10) 0 started)
    ∷ gets mixed period_end
    (says 0 (has 0x9696_9696 0x9696_9696 0x9966_9966 0x9999_6666 0 0xaaaa_aaaa) true (carries 0x9999_6666 0x9ff6_9ff6 0xaaaa_aaaa) 0 started)
    -- its timer: OldestTx is NewTx with PreviousTx and neither alone; and OldestTx is PreviousTx alone
    ∷ gets (has 0x81 0x24 0xa5 0 0 0) period_end (says 0 (has 0x81 0x81 0x24 0xa5 0 0) true (carries 0xa5 0xa5 0) 0 cancelled)
    ∷ gets (has 0x81 0x01 0x01 0x01 0 0) period_end (says 0 (has 0x81 0x81 0x01 0x01 0 0) true (carries 0x01 0x81 0) 0 started)
    -- received frame: what its sender has dropped goes, also where its CurrentRx has it; opcodes above 1 are refused
    ∷ gets (has 0x81 0x81 0x81 0x81 0xa1 0xa1) (frame_with 1 (carries 0xa1 0x81 0xa1))
    (says 0 (has 0x81 0x81 0x81 0x81 0x81 0x81) false (carries 0x81 0x81 0x81) 0 started)
    ∷ gets mixed (frame_with 0 mixed_frame)
    (says 0 (has 0x9696_9696 0x9966_9966 0x9999_6666 0xa55a_a55a 0xf0fa_f0fa 0xc0cc_c0cc) false (carries 0xa55a_a55a 0x99ff_ff66 0xf0fe_f0fe) 0x1010_1010 kept)
    ∷ gets mixed (frame_with 2 mixed_frame) (says 30 mixed false (carries 0xa55a_a55a 0x99ff_ff66 0xeeee_eeee) 0 kept)
    ∷ gets apart (frame_with 255 mixed_frame) (says 30 apart false (carries 0x08 0x06 0x30) 0 kept)
    -- a refusal alone, at the station that it leaves
    ∷ reads apart (Err Opcode) (says 30 apart false (carries 0x08 0x06 0x30) 0 kept)
    ∷ []
