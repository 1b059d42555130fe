-- What the code's casts and tests on an i32 come to: the test and the subtraction of `distance`, and the tests of `is_far` and `is_ahead`.
-- Document 01, 'Numbers in a ring of 4,096'. Nothing above this crate needs these laws: callers use Sides.
use Prim.Native.Nat.{ℕ, zero, suc, ◌-◌, ◌≤◌, ◌<◌, ◌^◌}
use mathlib.Core.Path.{◌≡◌, refl, sym, ap, ◌∙◌}
use mathlib.Core.Bool.{Bool, true, false, cond, ◌&&◌, ◌||◌, not}
use native.Mathlib.Omega.{arith}
use native.Mathlib.Decide.{dec_lt}
use lib.Dec.{ltb}
use lib.IntN.{ℤ, pos, negsuc, sub_ℕ, ◌-ℤ◌}
use lib.Signed.{mag, lt_z, le_z}
use Rattle.std.proofs.Common.{Less, Equal}
use Rattle.std.specs.Ordering.{is_le, int_cmp}
use mir.Syntax.{w32}
use mir.Val.{SFits, to_z, of_z}
use mir.ValLaws.{to_z_pos, to_z-of_z}
use borrow.Author.Tests.{lt-ltb, le-ltb, ltb-true, ltb-false}
use Rattle.ring.specs.Ring.{size, half, steps, signed, distance, side, Ahead, Behind, Far, is_far, is_ahead}
use Rattle.ring.proofs.Halves.{lower, a_round_less}

-- a difference of two small numbers fits an i32
difference_fits : (a b : ℕ) → a < 65536 → b < 65536 → SFits w32 (sub_ℕ a b)
difference_fits a b ha hb = record { sfits = by_test (ltb a b) }
  where
    by_test : (t : Bool) → mag (cond t (negsuc (b - suc a)) (pos (a - b))) < 2 ^ 31
    by_test true = omega arith
    by_test false = omega arith

-- `distance`, for n steps from a to b: what its test tells of them, and what it gives on either side, the steps on or a round less.
module _ (a b n : ℕ) (is : n ≡ steps a b) where
  as_read : to_z w32 n ≡ pos n
  as_read = to_z_pos w32 n (omega arith)

  module _ (bound : ℕ) where
    same_test : ltb n bound ≡ lt_z (to_z w32 n) (pos bound)
    same_test = sym (ap (λ (z : ℤ). lt_z z (pos bound)) as_read)

    pub under : lt_z (to_z w32 n) (pos bound) ≡ true → n < bound
    under t = ltb-true n bound (same_test ∙ t)

    pub not_under : lt_z (to_z w32 n) (pos bound) ≡ false → bound ≤ n
    not_under t = ltb-false n bound (same_test ∙ t)

  pub lower_distance : n < half → to_z w32 n ≡ distance a b
  unfolding distance
  lower_distance h = as_read ∙ sym (lower n h) ∙ ap signed is

  pub upper_fits : SFits w32 (to_z w32 n -ℤ pos size)
  upper_fits = rw as_read (difference_fits n size (omega arith) (omega arith))

  pub upper_distance : half ≤ n → to_z w32 (of_z w32 (to_z w32 n -ℤ pos size)) ≡ distance a b
  unfolding distance
  upper_distance h = to_z-of_z w32 (to_z w32 n -ℤ pos size) upper_fits ∙ rw as_read (sym (a_round_less n h) ∙ ap signed is)

-- The same where the steps are widened to z on an i32, as the code has them: by its test it gives them on the lower side, and a round less on the upper.
module _ (a b n : ℕ) (z : ℤ) (is : n ≡ steps a b) (widened : z ≡ pos n) where
  abbrev read : ℤ → ℤ
  read x = to_z w32 (of_z w32 x)

  as_widened : read z ≡ pos n
  as_widened = ap read widened ∙ to_z_pos w32 n (omega arith)

  widened_test : ltb n half ≡ lt_z (read z) (pos half)
  widened_test = sym (ap (λ (x : ℤ). lt_z x (pos half)) as_widened)

  pub lower_read : lt_z (read z) (pos half) ≡ true → read z ≡ distance a b
  unfolding distance
  lower_read t = as_widened ∙ sym (lower n (ltb-true n half (widened_test ∙ t))) ∙ ap signed is

  round_fits : SFits w32 (pos n -ℤ pos size)
  round_fits = difference_fits n size (omega arith) (omega arith)

  pub upper_read : (round : ℤ) → round ≡ pos size → lt_z (read z) (pos half) ≡ false → read (read z -ℤ read round) ≡ distance a b
  unfolding distance
  upper_read round r t =
      rw (as_widened, r) (to_z-of_z w32 (pos n -ℤ pos size) round_fits)
      ∙ sym (a_round_less n (ltb-false n half (widened_test ∙ t)))
      ∙ ap signed is

-- The tests, on a signed number. (`negsuc 63` is minus 64.)
abbrev pub within : ℤ → ℤ → ℤ → Bool
within lo hi z = is_le (int_cmp lo z) && is_le (int_cmp z hi)

either : (t : Bool) → is_le (cond t Less Equal) ≡ true
either true = refl
either false = refl

at_least_1 : (n : ℕ) → is_le (int_cmp (pos 1) (pos (suc n))) ≡ true
at_least_1 n = rw (le-ltb (suc n) 1 (omega arith)) (either (ltb 1 (suc n)))

upto_reach : (n : ℕ) → suc n ≤ 64 → is_le (int_cmp (pos (suc n)) (pos 64)) ≡ true
upto_reach n h = rw (le-ltb 64 (suc n) h) (either (ltb (suc n) 64))

past_reach : (n : ℕ) → 64 < suc n → is_le (int_cmp (pos (suc n)) (pos 64)) ≡ false
past_reach n h = rw (le-ltb (suc n) 64 (omega arith), lt-ltb 64 (suc n) h) refl

back_upto : (n : ℕ) → n ≤ 63 → is_le (int_cmp (negsuc 63) (negsuc n)) ≡ true
back_upto n h = rw (le-ltb 63 n h) (either (ltb n 63))

back_past : (n : ℕ) → 63 < n → is_le (int_cmp (negsuc 63) (negsuc n)) ≡ false
back_past n h = rw (le-ltb n 63 (omega arith), lt-ltb 63 n h) refl

pub ahead_test : (z : ℤ) → within (pos 1) (pos 64) z ≡ is_ahead (side 64 z)
unfolding side
ahead_test (pos zero) = refl
ahead_test (pos (suc n)) = by_reach (dec_lt n 64)
  where
    by_reach : Dec (n < 64) → within (pos 1) (pos 64) (pos (suc n)) ≡ is_ahead (cond (ltb n 64) (Ahead (suc n)) Far)
    by_reach (yes h) = rw (at_least_1 n, upto_reach n h, lt-ltb n 64 h) refl
    by_reach (no h) = rw (at_least_1 n, past_reach n (omega arith), le-ltb n 64 (omega arith)) refl
ahead_test (negsuc n) = by_test (ltb n 64)
  where
    by_test : (t : Bool) → false ≡ is_ahead (cond t (Behind (suc n)) Far)
    by_test true = refl
    by_test false = refl

pub far_test : (z : ℤ) → not (within (negsuc 63) (pos 64) z) ≡ is_far (side 64 z)
unfolding side
far_test (pos zero) = refl
far_test (pos (suc n)) = by_reach (dec_lt n 64)
  where
    by_reach : Dec (n < 64) → not (within (negsuc 63) (pos 64) (pos (suc n))) ≡ is_far (cond (ltb n 64) (Ahead (suc n)) Far)
    by_reach (yes h) = rw (upto_reach n h, lt-ltb n 64 h) refl
    by_reach (no h) = rw (past_reach n (omega arith), le-ltb n 64 (omega arith)) refl
far_test (negsuc n) = by_reach (dec_lt n 64)
  where
    by_reach : Dec (n < 64) → not (within (negsuc 63) (pos 64) (negsuc n)) ≡ is_far (cond (ltb n 64) (Behind (suc n)) Far)
    by_reach (yes h) = rw (back_upto n (omega arith), lt-ltb n 64 h) refl
    by_reach (no h) = rw (back_past n (omega arith), le-ltb n 64 (omega arith)) refl

-- The same tests by the order of numbers.
pub far_by_order : (z : ℤ) → (lt_z z (negsuc 63) || lt_z (pos 64) z) ≡ is_far (side 64 z)
unfolding side
far_by_order (pos zero) = refl
far_by_order (pos (suc n)) = by_reach (dec_lt n 64)
  where
    by_reach : Dec (n < 64) → ltb 64 (suc n) ≡ is_far (cond (ltb n 64) (Ahead (suc n)) Far)
    by_reach (yes h) = rw (lt-ltb n 64 h) (le-ltb 64 (suc n) (omega arith))
    by_reach (no h) = rw (le-ltb n 64 (omega arith)) (lt-ltb 64 (suc n) (omega arith))
far_by_order (negsuc n) = by_reach (dec_lt n 64)
  where
    by_reach : Dec (n < 64) → (ltb 63 n || false) ≡ is_far (cond (ltb n 64) (Behind (suc n)) Far)
    by_reach (yes h) = rw (lt-ltb n 64 h, le-ltb 63 n (omega arith))
    by_reach (no h) = rw (le-ltb n 64 (omega arith), lt-ltb 63 n (omega arith))

pub ahead_by_order : (z : ℤ) → (lt_z (pos 0) z && le_z z (pos 64)) ≡ is_ahead (side 64 z)
unfolding side
ahead_by_order (pos zero) = refl
ahead_by_order (pos (suc n)) = rw (lt-ltb 0 (suc n) (omega arith)) (by_test (ltb n 64))
  where
    by_test : (t : Bool) → t ≡ is_ahead (cond t (Ahead (suc n)) Far)
    by_test true = refl
    by_test false = refl
ahead_by_order (negsuc n) = by_test (ltb n 64)
  where
    by_test : (t : Bool) → false ≡ is_ahead (cond t (Behind (suc n)) Far)
    by_test true = refl
    by_test false = refl

-- And of what the machine reads back from the bits of a number that fits.
module _ (z : ℤ) (fits : mag z < 2 ^ 31) where
  abbrev again : ℤ
  again = to_z w32 (of_z w32 z)

  same : again ≡ z
  same = to_z-of_z w32 z (record { sfits = fits })

  pub read_far : (lt_z again (negsuc 63) || lt_z (pos 64) again) ≡ is_far (side 64 z)
  read_far = rw same (far_by_order z)

  pub read_ahead : (lt_z (pos 0) again && le_z again (pos 64)) ≡ is_ahead (side 64 z)
  read_ahead = rw same (ahead_by_order z)
