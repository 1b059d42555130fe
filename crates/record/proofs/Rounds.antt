-- Ring arithmetic of a window: numbers so many steps past another, their slots, and the span when C or M moves. Slots are numbers modulo how many there are,
-- which divides the ring's size. Assumes nothing.
use Prim.Native.Nat.{ℕ, suc, ◌+◌, ◌-◌, ◌%◌, ◌≤◌, ◌<◌}
use mathlib.Core.Path.{◌≡◌, ap, sym, ◌∙◌}
use native.Mathlib.Omega.{arith}
use Rattle.ring.specs.Ring.{size, forward, next, steps}
use Rattle.ring.proofs.Steps.{forward_small, forward_forward, steps_forward, forward_steps}
use Rattle.slots.specs.Slots.{slots, slot_of}
use Rattle.larq.specs.Channel.{span_of}

pub forward_none : (m : ℕ) → m < size → forward m 0 ≡ m
forward_none m h = omega arith

pub forward_next : (m j : ℕ) → forward (next m) j ≡ forward m (suc j)
forward_next m j = omega arith

pub slot_none : (m : ℕ) → slot_of m ≡ slot_of (m + 0)
slot_none m = omega arith

pub slot_next : (m j : ℕ) → slot_of (next m + j) ≡ slot_of (m + suc j)
slot_next m j = omega arith

-- numbers less apart than there are slots have different ones
pub slots_apart : (m j k : ℕ) → j < k → k < j + slots → (slot_of (m + j) ≡ slot_of (m + k) → ⊥)
slots_apart m j k p q = omega arith

pub slot_steps : (m s : ℕ) → slot_of (m + steps m s) ≡ slot_of s
slot_steps m s = omega arith

-- Two numbers past m: the one is so many steps ahead of the other, or nearly the whole round.
pub ahead_by_law : (m past x : ℕ) → past ≤ x → x < size → steps (forward m past) (forward m x) ≡ x - past
ahead_by_law m past x p q =
    ap (steps (forward m past)) (sym (forward_forward m past (x - past) ∙ ap (forward m) (let e : past + (x - past) ≡ x = omega arith in e)))
    ∙ steps_forward (forward m past) (x - past) (omega arith)

round_by : (b j : ℕ) → b < size → 0 < j → j < size → steps (forward b j) b ≡ size - j
round_by b j h p q = omega arith

pub behind_by : (m past x : ℕ) → x < past → past < size → steps (forward m past) (forward m x) ≡ size - (past - x)
behind_by m past x p q =
    ap (λ y. steps y (forward m x)) (sym (forward_forward m x (past - x) ∙ ap (forward m) (let e : x + (past - x) ≡ past = omega arith in e)))
    ∙ round_by (forward m x) (past - x) (forward_small m x) (omega arith) (omega arith)

-- The number after C lies the span past M.
pub span_end : (c m : ℕ) → forward m (span_of c m) ≡ next c
span_end c m = forward_steps m (next c) ∙ (let e : next c % size ≡ next c = omega arith in e)

-- the span from a number past M, up to the number before one past M
pub span_between : (c m past x : ℕ) → past ≤ x → x < size → forward m x ≡ next c → span_of c (forward m past) ≡ x - past
span_between c m past x p q e = ap (steps (forward m past)) (sym e) ∙ ahead_by_law m past x p q

span_small : (c m : ℕ) → span_of c m < size
span_small c m = omega arith

-- M has passed some numbers of the window
pub span_passed : (c m r : ℕ) → r ≤ span_of c m → span_of c (forward m r) ≡ span_of c m - r
span_passed c m r p = span_between c m r (span_of c m) p (span_small c m) (span_end c m)
