-- The events of a station, in the paper's order: what each leaves, sends and reports.
-- Document 01, 'Capability sets'; 001, 6.5.5.
use Rattle.std.specs.Prelude.{ℕ, Bool, true, false, cond, not, ltb, eqb}
use Rattle.capability.specs.declared.Tx.{Tx}
use Rattle.capability.specs.declared.Rx.{Rx}
use Rattle.capability.specs.declared.Station.{Station}
use Rattle.capability.specs.declared.Frame.{Frame}
use Rattle.capability.specs.Sets.{◌with◌, ◌without◌, some, current_tx, current_rx}
use Rattle.capability.specs.Answers.{Outcome, start_if, cancel_then_start_if, accepted, refused}

-- a fresh station has its default set in NewTx, and nothing in the other four
abbrev pub fresh : ℕ → Station
fresh d = record {
  default = d;
  tx = record { new = d; previous = 0; oldest = 0 };
  rx = record { new = 0; previous = 0 };
}

-- ---- use of flags f

-- those of f in neither NewTx nor PreviousTx
abbrev pub unannounced : Tx → ℕ → ℕ
unannounced t f = f without current_tx t

-- announced exactly if there is one
abbrev pub announced : Tx → ℕ → Bool
announced t f = some (unannounced t f)

-- NewTx takes f in, also where no frame announces it
abbrev pub added_tx : Tx → ℕ → Tx
added_tx t f = record { new = t.new with f; previous = t.previous; oldest = t.oldest }

abbrev pub after_use : Station → ℕ → Station
after_use s f = record { default = s.default; tx = added_tx s.tx f; rx = s.rx }

-- what is announced are the sets with f in them, and the timer is started with it
abbrev pub used : Station → ℕ → Outcome
used s f = accepted (after_use s f) (announced s.tx f) 0 (start_if (announced s.tx f))

-- ---- period end

-- each set goes to the next older one, and NewTx begins again with the default
abbrev pub rolled_tx : ℕ → Tx → Tx
rolled_tx d t = record { oldest = t.previous; previous = t.new; new = d }

-- PreviousRx = NewRx, NewRx = empty
abbrev pub rolled_rx : Rx → Rx
rolled_rx r = record { previous = r.new; new = 0 }

abbrev pub after_end : Station → Station
after_end s = record { default = s.default; tx = rolled_tx s.default s.tx; rx = rolled_rx s.rx }

-- CurrentTx differs from OldestTx
abbrev pub differs : Tx → Bool
differs t = not (eqb (current_tx t) t.oldest)

-- a frame is sent; the timer is cancelled, and where the new sets differ, and only there, it is started
abbrev pub ended : Station → Outcome
ended s = accepted (after_end s) true 0 (cancel_then_start_if (differs (after_end s).tx))

-- ---- received frame

-- those of its CurrentTx that were in neither NewRx nor PreviousRx before
abbrev pub really_new : Rx → Frame → ℕ
really_new r f = f.current without current_rx r

-- what the sender has dropped: OldestTx still has it, CurrentTx has it no more
unfoldable pub taken_away : Frame → ℕ
taken_away f = f.oldest without f.current

-- NewRx takes the CurrentTx of the frame in, then what the frame takes away leaves NewRx and PreviousRx
abbrev pub heard_rx : Rx → Frame → Rx
heard_rx r f = record { new = (r.new with f.current) without taken_away f; previous = r.previous without taken_away f }

abbrev pub after_frame : Station → Frame → Station
after_frame s f = record { default = s.default; tx = s.tx; rx = heard_rx s.rx f }

-- 0 and 1 are the opcodes, and number 30 refuses any other; opcode 1 starts the timer
abbrev pub received : Station → ℕ → Frame → Outcome
received s opcode f =
    cond (ltb 1 opcode) (refused 30 s)
    (accepted (after_frame s f) false (really_new s.rx f) (start_if (eqb opcode 1)))
