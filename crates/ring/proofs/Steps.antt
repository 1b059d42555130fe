-- Steps round the ring, over natural numbers alone: how `forward` and `steps` undo each other, and what they come to on counts
-- that never wrap. Document 01, 'Numbers in a ring of 4,096': sums of sequence numbers are taken in the ring.
use Prim.Native.Nat.{ℕ, zero, suc, ◌+◌, ◌-◌, ◌%◌, ◌≤◌, ◌<◌}
use mathlib.Core.Path.{◌≡◌, refl, ap}
use native.Mathlib.Omega.{arith}
use lib.ListN.{length}
use Rattle.ring.specs.Ring.{size, forward, next, steps, rising}

-- Results lie in the ring.
pub forward_small : (a n : ℕ) → forward a n < size
forward_small a n = omega arith

-- Forward by the steps to b is b, and nothing less than a round but those steps leads there.
pub forward_steps : (a b : ℕ) → forward a (steps a b) ≡ b % size
forward_steps a b = omega arith

pub steps_forward : (a n : ℕ) → n < size → steps a (forward a n) ≡ n
steps_forward a n h = omega arith

pub forward_forward : (a m n : ℕ) → forward (forward a m) n ≡ forward a (m + n)
forward_forward a m n = omega arith

pub steps_self : (a : ℕ) → steps a a ≡ 0
steps_self a = omega arith

-- Counts that never wrap, as a sender has them: the count n has the ring number n % size.
pub next_mod : (n : ℕ) → next (n % size) ≡ suc n % size
next_mod n = omega arith

pub forward_mod : (n k : ℕ) → forward (n % size) k ≡ (n + k) % size
forward_mod n k = omega arith

pub steps_up : (n u : ℕ) → n ≤ u → u < n + size → steps (n % size) (u % size) ≡ u - n
steps_up n u l h = omega arith

pub steps_down : (n u : ℕ) → u < n → n ≤ u + size → steps (n % size) (u % size) ≡ size - (n - u)
steps_down n u l h = omega arith

-- counts less than a round apart with one ring number are one count
pub same_count : (n u : ℕ) → n < u + size → u < n + size → n % size ≡ u % size → n ≡ u
same_count n u l h e = omega arith

-- Numbers that rise round the ring.
pub length_rising : (s k : ℕ) → length (rising s k) ≡ k
length_rising s zero = refl
length_rising s (suc k) = ap suc (length_rising (next s) k)
