-- The keys after the two words of one place's key are stored: that place stores the key, and every other place's words stay. Assumes nothing.
use Prim.Native.Nat.{ℕ, ◌+◌, ◌*◌, ◌<◌}
use mathlib.Core.Path.{◌≡◌, ◌∙◌}
use mathlib.Core.Bool.{true}
use mathlib.Core.List.{List, [], ◌∷◌}
use native.Mathlib.Omega.{arith}
use native.Mathlib.Numerals.{add-one}
use lib.ListN.{length, set, length-set}
use Rattle.table.specs.Key.{key_words}
use Rattle.table.specs.First.{places, stores}
use Rattle.table.specs.Table.{part, table_keys}
use Rattle.table_calls.specs.Writes.{keyed}
use Rattle.std.proofs.lemmas.Grind.{common_steps}
use Rattle.table.proofs.Parts.{part_set_else, set_pair}

module _ (keys : List ℕ) (i first second : ℕ) (l : length keys ≡ table_keys) (h : i < places) where
  half : length (set keys (key_words * i) first) ≡ table_keys
  half = simp length-set l

  pub keyed_part : part key_words i (keyed keys i first second) ≡ first ∷ (second ∷ [])
  unfolding part
  keyed_part = rw (add-one (key_words * i)) (set_pair (key_words * i) keys first second (omega arith))

  pub keyed_stores : stores (keyed keys i first second) first second i ≡ true
  keyed_stores = grind (arith, common_steps)

  pub keyed_else : (j : ℕ) → (j ≡ i → ⊥) → part key_words j (keyed keys i first second) ≡ part key_words j keys
  keyed_else j ne =
      part_set_else key_words i (set keys (key_words * i) first) (omega (arith, half)) j (key_words * i + 1) second (omega arith) (omega arith) ne
      ∙ part_set_else key_words i keys (omega arith) j (key_words * i) first (omega arith) (omega arith) ne
