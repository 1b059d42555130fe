-- Sets as words of 32 flags, the composite sets of a station, and the sets that a frame carries.
-- Document 01, 'Capability sets'; 001, 6.5.4.
use Rattle.std.specs.Prelude.{ℕ, ◌-◌, ◌^◌, Bool, not, eqb}
use Rattle.std.specs.Int.Bits.{bit_and, bit_or}
use Rattle.capability.specs.declared.Tx.{Tx}
use Rattle.capability.specs.declared.Rx.{Rx}
use Rattle.capability.specs.declared.Station.{Station}
use Rattle.capability.specs.declared.Frame.{Frame}

infixl 40 ◌with◌ ◌without◌
-- the flags of either set
abbrev pub ◌with◌ : ℕ → ℕ → ℕ
a with b = bit_or a b

-- the flags of the first set that are not in the second
abbrev pub ◌without◌ : ℕ → ℕ → ℕ
a without b = bit_and a ((2 ^ 32 - 1) - b)

-- some flag is in the set
abbrev pub some : ℕ → Bool
some w = not (eqb w 0)

-- CurrentTx is NewTx with PreviousTx
abbrev pub current_tx : Tx → ℕ
current_tx t = t.new with t.previous

-- CurrentRx is NewRx with PreviousRx
abbrev pub current_rx : Rx → ℕ
current_rx r = r.new with r.previous

-- the sets that a frame carries which is sent now
abbrev pub carried : Station → Frame
carried s = record { oldest = s.tx.oldest; current = current_tx s.tx; heard = current_rx s.rx }
