-- What a walk of M comes to, whatever gives a missing number up: M passes the first numbers of the window; the waiting ones of them
-- are handed up in order, the missing ones are counted lost, and the rest is left as it was. Assumes nothing.
use Prim.Native.Nat.{ℕ, suc, ◌≤◌, ◌<◌}
use mathlib.Core.Path.{◌≡◌, refl, ap, ◌∙◌}
use mathlib.Core.Bool.{Bool, true, false, cond}
use mathlib.Core.List.{List, [], ◌∷◌}
use native.Mathlib.Omega.{arith}
use lib.ListN.{length, take, drop}
use Rattle.wire.proofs.ByCases.{cond_case}
use Rattle.ring.specs.Ring.{size, forward, next}
use Rattle.larq.specs.Channel.{Cell, waits, missing, waiting, times, head_missing}
use Rattle.larq.specs.Settling.{Walked, walk, stays, handing, losing}

-- M passes `by` numbers of a window that starts at m
pub record Passed {H : Type 0} (m : ℕ) (cs : List (Cell H)) (p : Walked H) : Type 0 where
  pub by : ℕ
  pub most : by ≤ length cs
  pub oldest : p.oldest ≡ forward m by
  pub cells : p.cells ≡ drop by cs
  pub up : p.up ≡ waiting (take by cs)
  pub lost : p.lost ≡ length (times (take by cs))

module _ {H : Type 0} where
  none_passed : (m : ℕ) (cs : List (Cell H)) → m < size → Passed m cs (stays m cs)
  none_passed m cs l = record { by = 0; most = omega arith; oldest = omega arith; cells = refl; up = refl; lost = refl }

  pub walk_passes : (givesUp : ℕ → ℕ → Bool) (m : ℕ) (cs : List (Cell H)) → m < size → Passed m cs (walk givesUp m cs)
  walk_passes g m [] l = none_passed m [] l
  walk_passes g m (waits h ∷ cs) l = go (walk g (next m) cs) (walk_passes g (next m) cs (omega arith))
    where
      go : (p : Walked H) → Passed (next m) cs p → Passed m (waits h ∷ cs) (handing h p)
      go p r =
          record {
            by = suc r.by;
            most = omega (arith, r.most);
            oldest = r.oldest ∙ omega arith;
            cells = r.cells;
            up = ap (λ l. h ∷ l) r.up;
            lost = r.lost;
          }
  walk_passes g m (missing t ∷ cs) l = go (walk g (next m) cs) (walk_passes g (next m) cs (omega arith))
    where
      go : (p : Walked H) → Passed (next m) cs p
          → Passed m (missing t ∷ cs) (cond (g t (suc (length cs))) (losing p) (stays m (missing t ∷ cs)))
      go p r =
          cond_case (Passed m (missing t ∷ cs)) (g t (suc (length cs))) (losing p) (stays m (missing t ∷ cs))
          (λ _. record {
            by = suc r.by;
            most = omega (arith, r.most);
            oldest = r.oldest ∙ omega arith;
            cells = r.cells;
            up = r.up;
            lost = ap suc r.lost;
          })
          (λ _. none_passed m (missing t ∷ cs) l)

  -- a walk stops at a missing number or at span 0
  pub walk_head : (givesUp : ℕ → ℕ → Bool) (m : ℕ) (cs : List (Cell H)) → head_missing (walk givesUp m cs).cells ≡ true
  walk_head g m [] = refl
  walk_head g m (waits h ∷ cs) = walk_head g (next m) cs
  walk_head g m (missing t ∷ cs) =
      cond_case (λ (p : Walked H). head_missing p.cells ≡ true) (g t (suc (length cs))) _ _ (λ _. walk_head g (next m) cs) (λ _. refl)

  -- and where it stops at one, the test does not give that number up: so settling leaves no more than the window
  pub walk_short : (givesUp : ℕ → ℕ → Bool) (n m : ℕ) (cs : List (Cell H))
      → ((t span : ℕ) → givesUp t span ≡ false → span ≤ length cs → span ≤ n) → length (walk givesUp m cs).cells ≤ n
  walk_short g n m [] f = omega arith
  walk_short g n m (waits h ∷ cs) f = walk_short g n (next m) cs (λ t k q l. f t k q (omega arith))
  walk_short g n m (missing t ∷ cs) f =
      cond_case (λ (p : Walked H). length p.cells ≤ n) (g t (suc (length cs))) _ _ (λ _. walk_short g n (next m) cs (λ t k q l. f t k q (omega arith)))
      (λ q. f t (suc (length cs)) q (omega arith))
