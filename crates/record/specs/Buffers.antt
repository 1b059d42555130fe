-- Lists in a lent buffer.
use Rattle.std.specs.Prelude.{ℕ, ◌+◌, ◌≡◌, List, ◌++◌, length, drop}
use Rattle.std.proofs.lemmas.List.Edits.{sets}

-- a list was laid into a buffer from index `at` on, and `end` is the index after it
pub record Laid (list : List ℕ) (at : ℕ) (before after : List ℕ) (end : ℕ) : Type 0 where
  pub end_is : end ≡ at + length list
  pub buffer : after ≡ sets before at list

-- a list stands at the front of a buffer, whose further entries are as they were, and its length is the count
pub record Wrote (list before after : List ℕ) (given : ℕ) : Type 0 where
  pub count : given ≡ length list
  pub buffer : after ≡ list ++ drop (length list) before
