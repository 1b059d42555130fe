-- `take` and `drop` of lists put one after the other, and of lists of one value. Assumes nothing.
use Prim.Native.Nat.{ℕ, zero, suc, ◌-◌}
use mathlib.Core.Path.{◌≡◌, ap}
use mathlib.Core.List.{List, [], ◌∷◌, ◌++◌}
use native.Mathlib.Omega.{arith}
use lib.ListN.{length, take, drop, replicate}

module _ {A : Type 0} where
  pub drop_append : (j : ℕ) (xs ys : List A) → drop j (xs ++ ys) ≡ drop j xs ++ drop (j - length xs) ys
  drop_append zero xs ys = let e : 0 - length xs ≡ 0 = omega arith in rw e
  drop_append (suc j) [] ys = let e : suc j - 0 ≡ suc j = omega arith in rw e
  drop_append (suc j) (x ∷ xs) ys = let e : suc j - suc (length xs) ≡ j - length xs = omega arith in rw e (drop_append j xs ys)

  pub take_append : (j : ℕ) (xs ys : List A) → take j (xs ++ ys) ≡ take j xs ++ take (j - length xs) ys
  take_append zero xs ys = let e : 0 - length xs ≡ 0 = omega arith in rw e
  take_append (suc j) [] ys = let e : suc j - 0 ≡ suc j = omega arith in rw e
  take_append (suc j) (x ∷ xs) ys =
      let e : suc j - suc (length xs) ≡ j - length xs = omega arith in rw e (ap (λ l. x ∷ l) (take_append j xs ys))

  pub drop_replicate : (j n : ℕ) (x : A) → drop j (replicate n x) ≡ replicate (n - j) x
  drop_replicate zero n x = ap (λ n. replicate n x) (let e : n ≡ n - 0 = omega arith in e)
  drop_replicate (suc j) zero x = let e : 0 - suc j ≡ 0 = omega arith in rw e
  drop_replicate (suc j) (suc n) x = let e : suc n - suc j ≡ n - j = omega arith in rw e (drop_replicate j n x)
