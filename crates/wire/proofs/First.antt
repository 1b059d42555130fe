-- Laws of refusals in their order, for any list of tests: a test that passes is left behind, and the first that fails decides.
-- Assumes nothing.
use mathlib.Core.Path.{◌≡◌, ◌∙◌}
use mathlib.Core.Bool.{true, false}
use mathlib.Core.List.{List, [], ◌∷◌}
use Prim.Native.Nat.{ℕ, zero, suc, ◌<◌}
use native.Mathlib.Nat.{le_of_suc-le-suc, not-suc-le-zero}
use lib.ListN.{length, get_or, drop}
use Rattle.wire.specs.Refusals.{Refusal, first, ◌else◌}

-- the k-th test of a list
abbrev pub test : List Refusal → ℕ → Refusal
test l k = get_or l k (true else 0)

-- the first k tests pass: what is left to decide is the list from k on
abbrev pub Past : List Refusal → ℕ → Type 0
Past l k = first l ≡ first (drop k l)

step : (l : List Refusal) (k : ℕ) → k < length l → (test l k).passes ≡ true → first (drop k l) ≡ first (drop (suc k) l)
step [] k h e = absurd (not-suc-le-zero h)
step (r ∷ l) zero h e = simp e
step (r ∷ l) (suc k) h e = step l k (le_of_suc-le-suc h) e

stop : (l : List Refusal) (k : ℕ) → k < length l → (test l k).passes ≡ false → first (drop k l) ≡ (test l k).number
stop [] k h e = absurd (not-suc-le-zero h)
stop (r ∷ l) zero h e = simp e
stop (r ∷ l) (suc k) h e = stop l k (le_of_suc-le-suc h) e

pub passes : (l : List Refusal) (k : ℕ) → k < length l → Past l k → (test l k).passes ≡ true → Past l (suc k)
passes l k h p e = p ∙ step l k h e

pub fails : (l : List Refusal) (k : ℕ) → k < length l → Past l k → (test l k).passes ≡ false → first l ≡ (test l k).number
fails l k h p e = p ∙ stop l k h e
