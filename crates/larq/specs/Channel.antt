-- A channel's record, and when it is broken. Document 01, 'The channel table'; 001, 6.6.2.1.
-- H is the type of handles: the rules only pass them on, so they hold for handles of any type.
use Rattle.std.specs.Prelude.{ℕ, ◌*◌, Bool, true, false, ◌&&◌, List, [], ◌∷◌, length, leb}
use Rattle.ring.specs.Ring.{is_number, next, steps}

-- the waiting window, the house's choice
abbrev pub window : ℕ
window = 32

-- the reach is twice the window w
abbrev pub reach : ℕ → ℕ
reach w = 2 * w

-- a number from M to C: one that waits has a handle, a missing one the time at which it became so
pub data Cell (H : Type 0) : Type 0 where
  waits : H → Cell H
  missing : ℕ → Cell H

-- C, M, the latest time taken, and a cell for each number from M to C
pub record Channel (H : Type 0) : Type 0 where
  pub current : ℕ
  pub oldest : ℕ
  pub latest : ℕ
  pub cells : List (Cell H)

-- the span: C + 1 - M modulo 4,096
abbrev pub span_of : ℕ → ℕ → ℕ
span_of c m = steps m (next c)

-- a record's span. It is the count of the cells in every record that a lent table holds, broken or not (`lent_span` of
-- table_calls/proofs/Lent), and in all that runs from the empty table make (`good_span` of proofs/Sound)
abbrev pub span : {H : Type 0} → Channel H → ℕ
span c = span_of c.current c.oldest

-- the waiting handles, in sequence order
abbrev pub waiting : {H : Type 0} → List (Cell H) → List H
waiting [] = []
waiting (waits h ∷ cs) = h ∷ waiting cs
waiting (missing t ∷ cs) = waiting cs

-- the times of the missing numbers, in sequence order
abbrev pub times : {H : Type 0} → List (Cell H) → List ℕ
times [] = []
times (waits h ∷ cs) = times cs
times (missing t ∷ cs) = t ∷ times cs

-- times that do not fall, from lo on, and of which none is later than hi
abbrev pub orderly : ℕ → ℕ → List ℕ → Bool
orderly lo hi [] = true
orderly lo hi (t ∷ ts) = leb lo t && (leb t hi && orderly t hi ts)

-- M is missing, or the span is 0
abbrev pub head_missing : {H : Type 0} → List (Cell H) → Bool
head_missing [] = true
head_missing (waits h ∷ cs) = false
head_missing (missing t ∷ cs) = true

-- a record that is not broken, by the window w
unfoldable pub sound : {H : Type 0} → ℕ → Channel H → Bool
sound w c =
    is_number c.current
    && (is_number c.oldest && (leb (length c.cells) w && (head_missing c.cells && orderly 0 c.latest (times c.cells))))
