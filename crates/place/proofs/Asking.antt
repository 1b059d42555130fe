-- NACK as a run: of the numbers that a call makes missing, those still in the window are the last ones, and they rise without a gap.
-- Document 01, 'Data' and 'Reminder', their sentences on NACK. Assumes nothing.
use Prim.Native.Nat.{ℕ, zero, suc, ◌+◌, ◌-◌, ◌≤◌, ◌<◌}
use mathlib.Core.Path.{◌≡◌, ap, ap₂, sym, ◌∙◌}
use mathlib.Core.Bool.{Bool, true, false}
use mathlib.Core.List.{◌∷◌}
use native.Mathlib.Omega.{arith}
use lib.Dec.{ltb}
use lib.ListN.{length}
use borrow.Author.Tests.{lt-ltb, le-ltb}
use Rattle.ring.specs.Ring.{half, size, forward, next, steps, rising}
use Rattle.ring.proofs.Steps.{forward_forward}
use Rattle.larq.specs.Channel.{Channel}
use Rattle.larq.specs.Settling.{Walked}
use Rattle.larq.specs.Events.{those, in_window, asked}
use Rattle.record.proofs.Rounds.{forward_none, forward_next, ahead_by_law, behind_by}

-- a test that fails on the first g of k numbers, and passes on the others
pub those_run : (test : ℕ → Bool) (a k g : ℕ) → a < size → ((i : ℕ) → i < k → i < g → test (forward a i) ≡ false)
    → ((i : ℕ) → i < k → g ≤ i → test (forward a i) ≡ true) → those test (rising a k) ≡ rising (forward a g) (k - g)
those_run test a zero g h out in' = ap (rising (forward a g)) (let e : 0 ≡ 0 - g = omega arith in e)
those_run test a (suc k) zero h out in' =
    let first : test a ≡ true = ap test (sym (forward_none a h)) ∙ in' 0 (omega arith) (omega arith) in
    let rest = those_run test (next a) k zero (omega arith) (λ i p q. absurd (let z : ⊥ = omega arith in z))
    (λ i p q. ap test (forward_next a i) ∙ in' (suc i) (omega arith) (omega arith)) in
    let e : k - 0 ≡ k = omega arith in
    let f : suc k - 0 ≡ suc k = omega arith in
    rw (first, f, forward_none a h) (ap (λ l. a ∷ l) (rest ∙ ap₂ rising (forward_none (next a) (omega arith)) e))
those_run test a (suc k) (suc g) h out in' =
    let first : test a ≡ false = ap test (sym (forward_none a h)) ∙ out 0 (omega arith) (omega arith) in
    let rest = those_run test (next a) k g (omega arith) (λ i p q. ap test (forward_next a i) ∙ out (suc i) (omega arith) (omega arith))
    (λ i p q. ap test (forward_next a i) ∙ in' (suc i) (omega arith) (omega arith)) in
    let f : suc k - suc g ≡ k - g = omega arith in
    rw (first, f) (rest ∙ ap (λ x. rising x (k - g)) (forward_next a g))

-- k of d new numbers are made missing after the n from m to C, and then M passes some of the n + d
pub asked_run : {H : Type 0} (c : Channel H) (p : Walked H) (m n k d past : ℕ) → n + d < half → k ≤ d → past ≤ n + d
    → next c.current ≡ forward m n → p.oldest ≡ forward m past → length p.cells ≡ n + d - past
    → asked c k p ≡ rising (forward (next c.current) (past - n)) (k - (past - n))
unfolding asked
asked_run c p m n k d past small few most ec eo el = those_run (in_window p) (next c.current) k (past - n) (omega arith) outside inside
  where
    at : (i : ℕ) → in_window p (forward (next c.current) i) ≡ ltb (steps (forward m past) (forward m (n + i))) (n + d - past)
    at i =
        ap₂ (λ x y. ltb (steps x (forward y i)) (length p.cells)) eo ec
        ∙ ap₂ (λ x y. ltb (steps (forward m past) x) y) (forward_forward m n i) el

    outside : (i : ℕ) → i < k → i < past - n → in_window p (forward (next c.current) i) ≡ false
    outside i l q =
        at i
        ∙ ap (λ x. ltb x (n + d - past)) (behind_by m past (n + i) (omega arith) (omega arith))
        ∙ le-ltb (size - (past - (n + i))) (n + d - past) (omega arith)

    inside : (i : ℕ) → i < k → past - n ≤ i → in_window p (forward (next c.current) i) ≡ true
    inside i l q =
        at i
        ∙ ap (λ x. ltb x (n + d - past)) (ahead_by_law m past (n + i) (omega arith) (omega arith))
        ∙ lt-ltb (n + i - past) (n + d - past) (omega arith)
