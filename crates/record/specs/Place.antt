-- What the lent parts of one place mean: its words, handles and marks. Where they keep what is told by crate slots.
use Rattle.std.specs.Prelude.{ℕ, zero, suc, Bool, cond, ◌&&◌, List, [], ◌∷◌, length, eqb}
use Rattle.ring.specs.Ring.{next}
use Rattle.larq.specs.Channel.{Cell, waits, missing, Channel, span_of, sound, window}
use Rattle.larq.specs.Table.{Lent}
use Rattle.slots.specs.Slots.{slots, slot_of, place_words, place_sized, current_in, oldest_in, latest_in, is_missing, time_at, handle_at}

-- what a slot holds
abbrev pub cell_at : List ℕ → List ℕ → List ℕ → ℕ → Cell ℕ
cell_at words handles marks i = cond (is_missing marks i) (missing (time_at words i)) (waits (handle_at handles i))

-- the cells of n numbers from m on
unfoldable pub cells_from : (ℕ → Cell ℕ) → ℕ → ℕ → List (Cell ℕ)
cells_from cell m zero = []
cells_from cell m (suc n) = cell (slot_of m) ∷ cells_from cell (next m) n

unfoldable pub record_with : ℕ → ℕ → ℕ → List ℕ → List ℕ → List ℕ → Channel ℕ
record_with c m t words handles marks =
    record { current = c; oldest = m; latest = t; cells = cells_from (cell_at words handles marks) m (span_of c m) }

-- the record that a place holds
abbrev pub record_of : List ℕ → List ℕ → List ℕ → Channel ℕ
record_of words handles marks = record_with (current_in words) (oldest_in words) (latest_in words) words handles marks

-- what is lent for a call, by its lengths
abbrev pub place_lent : ℕ → ℕ → ℕ → ℕ → ℕ → ℕ → Lent
place_lent words handles marks up returned nack =
    record { up = up; returned = returned; nack = nack; whole = place_sized words handles marks }

-- a place's record is not broken; the handles have no part in it
abbrev pub sound_at : List ℕ → List ℕ → Bool
sound_at words marks = (eqb (length words) place_words && eqb (length marks) slots) && sound window (record_of words [] marks)
