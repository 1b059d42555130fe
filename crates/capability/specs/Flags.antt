-- Sets read flag by flag, for the laws that an auditor holds against 001, 6.5.5.
-- Document 01, 'Capability sets': a set is a 32-bit word.
use Rattle.std.specs.Prelude.{ℕ, ◌/◌, ◌%◌, ◌^◌, ◌<◌, ◌≡◌, ◌≢◌}
use Rattle.capability.specs.declared.Tx.{Tx}

infix 10 ◌isIn◌ ◌isNotIn◌
abbrev pub Word : ℕ → Type 0
Word w = w < 2 ^ 32

-- flag i of a set: 1 where it is in the set, else 0
abbrev pub flag : ℕ → ℕ → ℕ
flag i w = w / 2 ^ i % 2

abbrev pub ◌isIn◌ : ℕ → ℕ → Type 0
i isIn w = flag i w ≡ 1

abbrev pub ◌isNotIn◌ : ℕ → ℕ → Type 0
i isNotIn w = flag i w ≡ 0

-- some flag is in the set
pub record SomeFlag (w : ℕ) : Type 0 where
  pub at : ℕ
  pub below : at < 32
  pub held : at isIn w

-- some flag is in one of the two sets and not in the other
pub record SomeDifference (a b : ℕ) : Type 0 where
  pub at : ℕ
  pub below : at < 32
  pub differs : flag at a ≢ flag at b

-- f has a flag that neither of the two sets of CurrentTx has
pub record SomeUnannounced (t : Tx) (f : ℕ) : Type 0 where
  pub at : ℕ
  pub below : at < 32
  pub used : at isIn f
  pub not_new : at isNotIn t.new
  pub not_previous : at isNotIn t.previous
