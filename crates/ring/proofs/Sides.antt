-- Where a number lies, told in natural numbers: the one case law by which a caller takes `seen` apart, and the laws that lead to `seen`
-- from a number of steps and from the tests of the code. The reach is any number below half the ring; signed numbers stay inside this crate.
-- Document 01, 'Numbers in a ring of 4,096' and 'The four channel events': d from 1 to 64, d from -64 to 0, else.
use Prim.Native.Nat.{ℕ, zero, suc, ◌+◌, ◌-◌, ◌%◌, ◌≤◌, ◌<◌}
use mathlib.Core.Path.{◌≡◌, refl, sym, ap, ◌∙◌, subst}
use mathlib.Core.Bool.{true, false}
use native.Mathlib.Omega.{arith}
use native.Mathlib.Decide.{dec_lt}
use lib.Dec.{T}
use borrow.Author.Tests.{lt-ltb, le-ltb}
use Rattle.ring.specs.Ring.{size, half, steps, signed, distance, side, seen, Side, Ahead, Behind, Far, is_far, is_ahead}
use Rattle.ring.proofs.Steps.{steps_up}
use Rattle.ring.proofs.Halves.{lower, upper}

-- What each side tells: of the steps from c to s, and of those back from s to c.
pub record IsAhead (reach c s d : ℕ) : Type 0 where
  pub some : 0 < d
  pub near : d ≤ reach
  pub is : steps c s ≡ d

pub record IsBehind (reach c s d : ℕ) : Type 0 where
  pub near : d ≤ reach
  pub is : steps s c ≡ d

pub record IsFar (reach c s : ℕ) : Type 0 where
  pub ahead : reach < steps c s
  pub behind : reach < steps s c

abbrev pub Seen : ℕ → ℕ → ℕ → Side → Type 0
Seen reach c s (Ahead d) = IsAhead reach c s d
Seen reach c s (Behind d) = IsBehind reach c s d
Seen reach c s Far = IsFar reach c s

-- The side to which n steps forward lead.
module _ (reach : ℕ) where
  abbrev side_of : ℕ → Side
  side_of n = side reach (signed n)

  ahead_near : (n : ℕ) → n < half → 0 < n → n ≤ reach → side_of n ≡ Ahead n
  unfolding side
  ahead_near zero h p q = absurd (omega arith)
  ahead_near (suc n) h p q = rw (lower (suc n) h, lt-ltb n reach q)

  behind_near : (n k : ℕ) → half ≤ n → n + suc k ≡ size → k < reach → side_of n ≡ Behind (suc k)
  unfolding side
  behind_near n k h e q = rw (upper n k h e, lt-ltb k reach q)

  ahead_far : (n : ℕ) → n < half → reach < n → side_of n ≡ Far
  unfolding side
  ahead_far zero h q = absurd (omega arith)
  ahead_far (suc n) h q = rw (lower (suc n) h, le-ltb n reach (omega arith))

  behind_far : (n k : ℕ) → half ≤ n → n + suc k ≡ size → reach ≤ k → side_of n ≡ Far
  unfolding side
  behind_far n k h e q = rw (upper n k h e, le-ltb k reach q)

module _ (reach c s : ℕ) (short : reach < half) where
  -- From a number of steps to the side.
  pub is_ahead_law : (d : ℕ) → 0 < d → d ≤ reach → steps c s ≡ d → seen reach c s ≡ Ahead d
  unfolding distance
  is_ahead_law d p q e = ap (side_of reach) e ∙ ahead_near reach d (omega arith) p q

  pub is_behind : (d : ℕ) → d ≤ reach → steps s c ≡ d → seen reach c s ≡ Behind d
  unfolding distance side
  is_behind zero q e = let here : steps c s ≡ 0 = omega arith in ap (side_of reach) here
  is_behind (suc k) q e = behind_near reach (steps c s) k (omega arith) (omega arith) q

  pub is_far_law : reach < steps c s → reach < steps s c → seen reach c s ≡ Far
  unfolding distance
  is_far_law p q = by_half (dec_lt (steps c s) half)
    where
      by_half : Dec (steps c s < half) → side_of reach (steps c s) ≡ Far
      by_half (yes h) = ahead_far reach (steps c s) h p
      by_half (no h) = behind_far reach (steps c s) (size - suc (steps c s)) (omega arith) (omega arith) (omega arith)

  -- The case law: match on the side and on this.
  pub sees : Seen reach c s (seen reach c s)
  sees = by_tests (dec_lt reach (steps c s)) (dec_lt reach (steps s c))
    where
      from : (x : Side) → seen reach c s ≡ x → Seen reach c s x → Seen reach c s (seen reach c s)
      from x e = subst (Seen reach c s) (sym e)

      by_tests : Dec (reach < steps c s) → Dec (reach < steps s c) → Seen reach c s (seen reach c s)
      by_tests p (no q) =
          let near : steps s c ≤ reach = omega arith in
          from (Behind (steps s c)) (is_behind (steps s c) near refl) (record { near = near; is = refl })
      by_tests (yes p) (yes q) = from Far (is_far_law p q) (record { ahead = p; behind = q })
      by_tests (no p) (yes q) =
          let some : 0 < steps c s = omega arith in
          let near : steps c s ≤ reach = omega arith in
          from (Ahead (steps c s)) (is_ahead_law (steps c s) some near refl) (record { some = some; near = near; is = refl })

-- From the two tests of the code, by the reach of 64, to the side.
far_side : (x : Side) → is_far x ≡ true → x ≡ Far
far_side (Ahead d) h = cc
far_side (Behind d) h = cc
far_side Far h = refl

behind_side : (x : Side) → is_far x ≡ false → is_ahead x ≡ false → (d : ℕ) × (x ≡ Behind d)
behind_side (Ahead d) f h = absurd (subst T h tt)
behind_side (Behind d) f h = (d, refl)
behind_side Far f h = absurd (subst T f tt)

module _ (a b : ℕ) where
  ahead_side : (x : Side) → Seen 64 a b x → is_ahead x ≡ true → x ≡ Ahead (steps a b)
  ahead_side (Ahead d) s h = ap Ahead (sym s.is)
  ahead_side (Behind d) s h = cc
  ahead_side Far s h = cc

  pub seen_far : is_far (seen 64 a b) ≡ true → seen 64 a b ≡ Far
  seen_far = far_side (seen 64 a b)

  pub seen_ahead : is_ahead (seen 64 a b) ≡ true → seen 64 a b ≡ Ahead (steps a b)
  seen_ahead = ahead_side (seen 64 a b) (sees 64 a b (omega arith))

  pub seen_behind : is_far (seen 64 a b) ≡ false → is_ahead (seen 64 a b) ≡ false → (d : ℕ) × (seen 64 a b ≡ Behind d)
  seen_behind = behind_side (seen 64 a b)

-- Counts that never wrap, as a sender has them: where u lies as seen from hi, each by its ring number.
module _ (reach hi u : ℕ) (short : reach < half) where
  pub seen_above : hi < u → u ≤ hi + reach → seen reach (hi % size) (u % size) ≡ Ahead (u - hi)
  seen_above p q =
      is_ahead_law reach (hi % size) (u % size) short (u - hi) (omega arith) (omega arith) (steps_up hi u (omega arith) (omega arith))

  pub seen_below : u ≤ hi → hi ≤ u + reach → seen reach (hi % size) (u % size) ≡ Behind (hi - u)
  seen_below p q = is_behind reach (hi % size) (u % size) short (hi - u) (omega arith) (steps_up u hi p (omega arith))
