-- The two halves of the ring, signed: steps in the lower half lead ahead, those in the upper half back. So the distance is the one number
-- of -2,048 to 2,047 that leads from a to b. Document 01, 'Numbers in a ring of 4,096'.
use Prim.Native.Nat.{ℕ, suc, ◌+◌, ◌-◌, ◌%◌, ◌≤◌, ◌<◌}
use mathlib.Core.Path.{◌≡◌, sym, ap, ◌∙◌, subst}
use native.Mathlib.Omega.{arith}
use native.Mathlib.Decide.{dec_lt}
use lib.IntN.{ℤ, pos, negsuc, sub_ℕ}
use borrow.Author.Tests.{lt-ltb, le-ltb}
use Rattle.ring.specs.Ring.{size, half, forward, steps, signed, distance}

pub lower : (n : ℕ) → n < half → signed n ≡ pos n
lower n h = rw (lt-ltb n half h)

pub a_round_less : (n : ℕ) → half ≤ n → signed n ≡ sub_ℕ n size
a_round_less n h = rw (le-ltb n half h)

pub upper : (n k : ℕ) → half ≤ n → n + suc k ≡ size → signed n ≡ negsuc k
upper n k h e = a_round_less n h ∙ rw (lt-ltb n size (omega arith)) (ap negsuc (omega arith))

-- a number of -2,048 to 2,047 leads from a to b: so many steps forward from a, or from b where it is below 0
abbrev pub Leads : ℕ → ℕ → ℤ → Type 0
Leads a b (pos n) = (n < half) × (forward a n ≡ b % size)
Leads a b (negsuc k) = (k < half) × (forward b (suc k) ≡ a % size)

pub distance_leads : (a b : ℕ) → Leads a b (distance a b)
unfolding distance
distance_leads a b = by_half (dec_lt (steps a b) half)
  where
    by_half : Dec (steps a b < half) → Leads a b (signed (steps a b))
    by_half (yes h) = subst (Leads a b) (sym (lower (steps a b) h)) (h, omega arith)
    by_half (no h) =
        let k : ℕ = size - suc (steps a b) in
        subst (Leads a b) (sym (upper (steps a b) k (omega arith) (omega arith))) (omega arith, omega arith)

pub leads_distance : (a b : ℕ) (z : ℤ) → Leads a b z → z ≡ distance a b
unfolding distance
leads_distance a b (pos n) l = let e : steps a b ≡ n = omega arith in sym (ap signed e ∙ lower n l.0)
leads_distance a b (negsuc k) l = sym (upper (steps a b) k (omega arith) (omega arith))
