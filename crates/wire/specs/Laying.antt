-- Octets laid over a slice from a place on: what the slice then holds. Octets before and behind them stay as they were.
use Rattle.std.specs.Prelude.{ℕ, ◌+◌, ◌≡◌, cond, List, ◌++◌, length, take, drop}
use Rattle.wire.specs.Octets.{within}

unfoldable pub over : List ℕ → ℕ → List ℕ → List ℕ
over out at octets = take at out ++ octets ++ drop (at + length octets) out

-- what laying octets over a slice leaves: where they do not fit, nothing is written and the place stays
pub record Lays (at : ℕ) (octets before after : List ℕ) (next : ℕ) : Type 0 where
  pub output : after ≡ cond (within before at (length octets)) (over before at octets) before
  pub place : next ≡ cond (within before at (length octets)) (at + length octets) at
