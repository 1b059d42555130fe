-- The rates as a table with 0 for none: a PE past the table has no rate, and an entry that is not 0 is the PE's rate.
-- Assumes nothing.
use mathlib.Core.Path.{◌≡◌, refl, sym, ap}
use mathlib.Core.Bool.{Bool, true, false, cond, not, ◌&&◌, and-false}
use Rattle.std.specs.Prelude.{Some, None, unwrap_or}
use Rattle.std.specs.Bool.{then_some}
use Prim.Native.Nat.{ℕ, ◌+◌, ◌*◌, ◌-◌, ◌≤◌}
use native.Mathlib.Omega.{arith}
use borrow.Author.Tests.{lt-leb, eqb-true, eqb-false}
use lib.Dec.{leb, eqb}
use Rattle.rate.specs.Rates.{rate_of}

pub past_table : (pe : ℕ) → 16 ≤ pe → None ≡ rate_of pe
unfolding rate_of
past_table pe h =
    let low : leb pe 7 ≡ false = lt-leb pe 7 (omega arith) in
    let high : leb pe 15 ≡ false = lt-leb pe 15 (omega arith) in
    sym (simp (low, high, and-false))

-- an entry of the table, by the two tests that lead to a rate
zero_or_rate : (low high : Bool) (a b r : ℕ) → 1 ≤ a → 1 ≤ b → r ≡ unwrap_or (cond low (Some a) (cond high (Some b) None)) 0
    → (r ≡ 0 → None ≡ cond low (Some a) (cond high (Some b) None)) × ((r ≡ 0 → ⊥) → Some r ≡ cond low (Some a) (cond high (Some b) None))
zero_or_rate true high a b r ha hb e = (λ z. absurd (omega arith), λ n. ap Some e)
zero_or_rate false true a b r ha hb e = (λ z. absurd (omega arith), λ n. ap Some e)
zero_or_rate false false a b r ha hb e = (λ z. refl, λ n. absurd (n e))

pub zero_is_none : (pe r : ℕ) → r ≡ unwrap_or (rate_of pe) 0 → r ≡ 0 → None ≡ rate_of pe
unfolding rate_of
zero_is_none pe r e = (zero_or_rate (leb 1 pe && leb pe 7) (leb 9 pe && leb pe 15) (2 + 2 * pe) (4 + 4 * (pe - 8)) r (omega arith) (omega arith) e).0

pub entry_is_rate : (pe r : ℕ) → r ≡ unwrap_or (rate_of pe) 0 → (r ≡ 0 → ⊥) → Some r ≡ rate_of pe
unfolding rate_of
entry_is_rate pe r e = (zero_or_rate (leb 1 pe && leb pe 7) (leb 9 pe && leb pe 15) (2 + 2 * pe) (4 + 4 * (pe - 8)) r (omega arith) (omega arith) e).1

-- what the entry's test leads to
pub entry_tells : (pe r : ℕ) → r ≡ unwrap_or (rate_of pe) 0 → then_some (not (eqb r 0)) r ≡ rate_of pe
entry_tells pe r e = by_test (eqb r 0) refl
  where
    by_test : (zero : Bool) → eqb r 0 ≡ zero → then_some (not zero) r ≡ rate_of pe
    by_test true z = zero_is_none pe r e (eqb-true r 0 z)
    by_test false z = entry_is_rate pe r e (eqb-false r 0 z)
