-- A part that lies within a list: the test as an inequality, and by a difference that cannot wrap.
-- Assumes nothing.
use mathlib.Core.Path.{◌≡◌, refl, sym}
use mathlib.Core.Bool.{Bool, true, false}
use mathlib.Core.List.{List}
use Prim.Native.Nat.{ℕ, ◌+◌, ◌-◌, ◌≤◌}
use native.Mathlib.Omega.{arith}
use borrow.Author.Tests.{leb-true, leb-false, le-leb, lt-leb}
use lib.Dec.{leb}
use lib.ListN.{length}
use Rattle.wire.specs.Octets.{within}

pub within_le : (s : List ℕ) (start count : ℕ) → within s start count ≡ true → start + count ≤ length s
unfolding within
within_le s start count e = leb-true (start + count) (length s) e

pub le_within : (s : List ℕ) (start count : ℕ) → start + count ≤ length s → within s start count ≡ true
unfolding within
le_within s start count h = le-leb (start + count) (length s) h

pub leb_difference : (n start count : ℕ) → start ≤ n → leb count (n - start) ≡ leb (start + count) n
leb_difference n start count h = by_test (leb count (n - start)) refl
  where
    by_test : (passes : Bool) → leb count (n - start) ≡ passes → passes ≡ leb (start + count) n
    by_test true e = sym (le-leb (start + count) n (omega (arith, leb-true count (n - start) e)))
    by_test false e = sym (lt-leb (start + count) n (omega (arith, leb-false count (n - start) e)))
