-- What the answer of a field says by its row of refusals: the row's test passes exactly where the answer is a value.
-- Assumes nothing but that no row has the number 0, which stands for accepted.
use mathlib.Core.Path.{◌≡◌, refl, sym, ap}
use mathlib.Core.Bool.{Bool, true, false}
use mathlib.Core.List.{List}
use Prim.Native.Nat.{ℕ, ◌≤◌}
use native.Mathlib.Omega.{arith}
use lib.Dec.{T, leb, leb→le}
use Rattle.std.specs.Bool.{then_some}
use Rattle.wire.specs.Refusals.{◌else◌}
use Rattle.wire.specs.Answers.{Said, accepted, refused, ruled, option_says}

-- an answer made of a value by a test says what the row of the test rules
pub made_ruled : {A : Type 0} (values : A → List ℕ) (n : ℕ) (t : Bool) (x : A) → option_says values n (then_some t x) ≡ ruled (t else n) (values x)
made_ruled values n true x = refl
made_ruled values n false x = refl

not_zero : (n : ℕ) → T (leb 1 n) → n ≡ 0 → ⊥
not_zero n h e = let w : 1 ≤ n = leb→le 1 n h in omega arith

-- a value is said: the row's test passes, and the values are the row's
pub said_passes : (n : ℕ) → T (leb 1 n) → (t : Bool) (vs xs : List ℕ) → accepted xs ≡ ruled (t else n) vs → (t ≡ true) × (xs ≡ vs)
said_passes n h true vs xs e = (refl, ap (λ (s : Said). s.values) e)
said_passes n h false vs xs e = absurd (not_zero n h (sym (ap (λ (s : Said). s.number) e)))

-- the number alone is said: the row's test fails
pub said_fails : (n : ℕ) → T (leb 1 n) → (t : Bool) (vs : List ℕ) → refused n ≡ ruled (t else n) vs → t ≡ false
said_fails n h true vs e = absurd (not_zero n h (ap (λ (s : Said). s.number) e))
said_fails n h false vs e = refl
