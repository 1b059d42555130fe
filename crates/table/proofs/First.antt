-- Laws of the first place that passes a test. A loop uses `here`, `past` and `none`: at each turn what is still to be walked finds what the
-- whole walk finds. `same` says that two tests which agree at every place find the same; `from_there` and `none_there`, that a narrower test
-- finds nothing before the first place that passes a wider one. Assumes nothing.
use Prim.Native.Nat.{ℕ, zero, suc, ◌+◌, ◌-◌, ◌<◌, ◌≤◌}
use mathlib.Core.Path.{◌≡◌, refl}
use mathlib.Core.Bool.{Bool, true, false}
use native.Mathlib.Omega.{arith}
use native.Mathlib.Numerals.{add-one}
use Rattle.std.specs.Prelude.{Some, None}
use Rattle.table.specs.First.{first_from}

one_less : (n i : ℕ) → i < n → n - i ≡ suc (n - (i + 1))
one_less n i h = omega arith

module _ (test : ℕ → Bool) (n i : ℕ) where
  pub here : i < n → test i ≡ true → first_from test i (n - i) ≡ Some i
  unfolding first_from
  here h e = rw (one_less n i h, e)

  pub past : i < n → test i ≡ false → first_from test i (n - i) ≡ first_from test (i + 1) (n - (i + 1))
  unfolding first_from
  past h e = rw (one_less n i h, e, add-one i)

  pub none : n ≤ i → first_from test i (n - i) ≡ None
  unfolding first_from
  none h = let e : n - i ≡ 0 = omega arith in rw e

pub same : (p q : ℕ → Bool) → ((j : ℕ) → p j ≡ q j) → (n i : ℕ) → first_from p i n ≡ first_from q i n
unfolding first_from
same p q e zero i = refl
same p q e (suc n) i = rw (e i, same p q e n (suc i))

module _ (wide narrow : ℕ → Bool) (narrower : (j : ℕ) → wide j ≡ false → narrow j ≡ false) where
  pub none_there : (n i : ℕ) → first_from wide i n ≡ None → first_from narrow i n ≡ None
  unfolding first_from
  none_there zero i e = refl
  none_there (suc n) i e = grind (arith, narrower, none_there n (suc i))

  pub from_there : (n i k : ℕ) → first_from wide i n ≡ Some k → first_from narrow i n ≡ first_from narrow k ((i + n) - k)
  unfolding first_from
  from_there zero i k e = grind arith
  from_there (suc n) i k e =
      let here : suc n ≡ (i + suc n) - i = omega arith in
      let later : (suc i + n) - k ≡ (i + suc n) - k = omega arith in
      grind (arith, here, later, narrower, from_there n (suc i) k)
