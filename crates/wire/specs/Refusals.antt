-- Refusals in their order: a list of tests, each with the number that is given where it fails.
-- Document 01, 'Numbers the box may answer with', on the order of its table.
use Rattle.std.specs.Prelude.{ℕ, Bool, cond, List, [], ◌∷◌}

-- a test that good input passes, and the number of the refusal where it fails
pub record Refusal : Type 0 where
  pub passes : Bool
  pub number : ℕ

infix 5 ◌else◌
abbrev pub ◌else◌ : Bool → ℕ → Refusal
p else n = record { passes = p; number = n }

-- the number of the first test that fails, or 0
abbrev pub first : List Refusal → ℕ
first [] = 0
first (r ∷ l) = cond r.passes (first l) r.number

-- the answer to good input, or the refusal by the first number that applies
abbrev pub answered : {A : Type 0} → (ℕ → A) → List Refusal → A → A
answered refuse [] good = good
answered refuse (r ∷ l) good = cond r.passes (answered refuse l good) (refuse r.number)
