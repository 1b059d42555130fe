-- Laws of `all_below`, a test at each number below a bound: one number more, one that fails, and two tests that agree.
-- Assumes nothing.
use mathlib.Core.Path.{◌≡◌, refl}
use mathlib.Core.Bool.{Bool, true, false, and-false}
use mathlib.Core.Logic.{⊎_elim}
use Prim.Native.Nat.{ℕ, zero, suc, ◌+◌, ◌<◌}
use native.Mathlib.Nat.{eq-or-lt_of_le, le_of_suc-le-suc, not-suc-le-zero}
use native.Mathlib.Numerals.{add-one}
use native.Mathlib.Omega.{arith}
use Rattle.wire.specs.Octets.{all_below}

pub all_none : (passes : ℕ → Bool) → all_below 0 passes ≡ true
unfolding all_below
all_none passes = refl

pub all_more : (n : ℕ) (passes : ℕ → Bool) → all_below n passes ≡ true → passes n ≡ true → all_below (n + 1) passes ≡ true
unfolding all_below
all_more n passes h e = rw add-one (simp (h, e))

pub one_fails : (n k : ℕ) (passes : ℕ → Bool) → k < n → passes k ≡ false → all_below n passes ≡ false
unfolding all_below
one_fails zero k passes h e = absurd (not-suc-le-zero h)
one_fails (suc n) k passes h e =
    ⊎_elim
    (λ (q : k ≡ n). let e' : passes n ≡ false = rw q at e in simp (e', and-false))
    (λ (l : k < n). simp (one_fails n k passes l e))
    (eq-or-lt_of_le (le_of_suc-le-suc h))

pub all_same : (n : ℕ) (f g : ℕ → Bool) → ((k : ℕ) → k < n → f k ≡ g k) → all_below n f ≡ all_below n g
unfolding all_below
all_same zero f g h = refl
all_same (suc n) f g h =
    let i : all_below n f ≡ all_below n g = all_same n f g (λ k l. h k (omega arith)) in
    let e : f n ≡ g n = h n (omega arith) in
    simp (i, e)
