-- What follows where the numbers 1 to 3 are passed, which are decided before the table is looked at: how long the lent slices and buffers are.
-- Assumes nothing.
use Prim.Native.Nat.{ℕ, ◌≤◌}
use mathlib.Core.Path.{◌≡◌}
use mathlib.Core.Bool.{Bool, true, ◌&&◌}
use native.Mathlib.Omega.{arith}
use lib.Dec.{leb}
use Rattle.wire.proofs.Joined.{and_left, and_right}
use Rattle.larq.specs.Channel.{window}
use Rattle.larq.specs.Table.{Lent, lent_enough}
use Rattle.table.specs.Table.{whole, table_keys, table_words, table_slots}
use Rattle.table.specs.Way.{table_lent, early_number}

pub both : (a b : Bool) → a && b ≡ true → (a ≡ true) × (b ≡ true)
both a b e = (and_left a b e, and_right a b e)

-- the tests of numbers 1 to 3 pass
pub record Passed (l : Lent) (s p : ℕ) : Type 0 where
  pub lent : lent_enough window l ≡ true
  pub number : leb s 4095 ≡ true
  pub priority : leb p 7 ≡ true

pub judged_passed : (l : Lent) (s p : ℕ) → early_number l s p ≡ 0 → Passed l s p
unfolding early_number
judged_passed l s p e = grind arith

-- the lengths of a whole table's slices
pub record Whole (k w h m : ℕ) : Type 0 where
  pub keys : k ≡ table_keys
  pub words : w ≡ table_words
  pub handles : h ≡ table_slots
  pub marks : m ≡ table_slots

pub whole_sizes : (k w h m : ℕ) → whole k w h m ≡ true → Whole k w h m
whole_sizes k w h m e = grind arith

-- the room of the answer buffers
pub record Room (u r n : ℕ) : Type 0 where
  pub up : window ≤ u
  pub returned : window ≤ r
  pub nack : window ≤ n

pub lent_room : (l : Lent) → lent_enough window l ≡ true → Room l.up l.returned l.nack
lent_room l e = grind arith

pub lent_whole : (l : Lent) → lent_enough window l ≡ true → l.whole ≡ true
lent_whole l e = grind arith

-- the keys of what is lent enough are those of a whole table
pub keys_sized : (k w h m u r n s p : ℕ) → early_number (table_lent k w h m u r n) s p ≡ 0 → k ≡ table_keys
keys_sized k w h m u r n s p e =
    (whole_sizes k w h m (lent_whole (table_lent k w h m u r n) (judged_passed (table_lent k w h m u r n) s p e).lent)).keys
