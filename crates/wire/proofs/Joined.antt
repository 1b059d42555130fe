-- Laws of tests joined by `&&`: both pass where the whole does, it passes where both do, and the first decides whether the second is asked. And a
-- test has one answer. Assumes nothing.
use mathlib.Core.Path.{◌≡◌, refl, ◌∙◌, sym, ap}
use mathlib.Core.Bool.{Bool, true, false, ◌&&◌}
use Prim.Native.Nat.{ℕ}
use native.Mathlib.Omega.{arith}
use borrow.Author.Tests.{eq-eqb, ne_eqb}
use lib.Dec.{eqb}

pub and_left : (a b : Bool) → (a && b) ≡ true → a ≡ true
and_left true b e = refl
and_left false b e = e

pub and_right : (a b : Bool) → (a && b) ≡ true → b ≡ true
and_right true b e = e
and_right false b e = cc

pub and_both : (a b : Bool) → a ≡ true → b ≡ true → (a && b) ≡ true
and_both a b p q = simp (p, q)

pub not_both : {A : Type 0} (b : Bool) → b ≡ true → b ≡ false → A
not_both b e f = let g = sym e ∙ f in absurd (let z : ◌≡◌ {A = ℕ} 0 1 = cc in let y : ⊥ = omega arith in y)

-- two numbers read, x for u and y for v: x is m, so that the test of y is the whole test
pub equal_then : {x y : ℕ} (u v m n : ℕ) → x ≡ u → y ≡ v → x ≡ m → eqb y n ≡ (eqb u m && eqb v n)
equal_then u v m n p q e = let t : eqb u m ≡ true = eq-eqb u m (sym p ∙ e) in rw t (ap (λ (k : ℕ). eqb k n) q)

-- x is not m, so that the test of y is not asked
pub differs : {x : ℕ} (u v m n : ℕ) → x ≡ u → (x ≡ m → ⊥) → eqb x m ≡ (eqb u m && eqb v n)
differs u v m n p h = let t : eqb u m ≡ false = ne_eqb u m (λ e. h (p ∙ e)) in rw t (ap (λ (k : ℕ). eqb k m) p ∙ t)
