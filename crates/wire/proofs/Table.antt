-- A rule of a table, proved at all of its entries by one test that is computed entry by entry.
-- Assumes nothing.
use mathlib.Core.Path.{◌≡◌, ◌∙◌, subst, sym}
use mathlib.Core.Bool.{Bool, true, ◌&&◌}
use mathlib.Core.List.{List, [], ◌∷◌}
use Prim.Native.Nat.{ℕ, zero, suc, ◌+◌, ◌<◌}
use native.Mathlib.Nat.{add-zero, zero-add, add-suc, suc-add, le_of_suc-le-suc, not-suc-le-zero}
use lib.ListN.{length, get_or}
use Rattle.wire.proofs.Joined.{and_left, and_right}

-- the rule holds of each entry and its place, counted from i
abbrev pub every : (ℕ → ℕ → Bool) → ℕ → List ℕ → Bool
every rule i [] = true
every rule i (x ∷ xs) = rule i x && every rule (suc i) xs

from : (rule : ℕ → ℕ → Bool) (xs : List ℕ) (i : ℕ) → every rule i xs ≡ true → (k : ℕ) → k < length xs → rule (i + k) (get_or xs k 0) ≡ true
from rule [] i t k h = absurd (not-suc-le-zero h)
from rule (x ∷ xs) i t zero h = subst (λ (m : ℕ). rule m x ≡ true) (sym (add-zero i)) (and_left (rule i x) (every rule (suc i) xs) t)
from rule (x ∷ xs) i t (suc k) h =
    subst (λ (m : ℕ). rule m (get_or xs k 0) ≡ true) (suc-add i k ∙ sym (add-suc i k))
    (from rule xs (suc i) (and_right (rule i x) (every rule (suc i) xs) t) k (le_of_suc-le-suc h))

pub at_each : (rule : ℕ → ℕ → Bool) (xs : List ℕ) → every rule 0 xs ≡ true → (k : ℕ) → k < length xs → rule k (get_or xs k 0) ≡ true
at_each rule xs t k h = subst (λ (m : ℕ). rule m (get_or xs k 0) ≡ true) (zero-add k) (from rule xs 0 t k h)
