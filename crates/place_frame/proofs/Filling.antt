-- The rules' `filling` by the number's place in the window, as the code finds it. Assumes nothing.
use Prim.Native.Nat.{ℕ, zero, suc, ◌≤◌, ◌<◌}
use mathlib.Core.Path.{◌≡◌, refl}
use mathlib.Core.Option.{some, none}
use mathlib.Core.List.{List, [], ◌∷◌}
use native.Mathlib.Omega.{arith}
use lib.ListN.{length, get_or, set}
use Rattle.larq.specs.Channel.{Cell, waits, missing}
use Rattle.larq.specs.Events.{filling}

module _ {H : Type 0} where
  pub filling_missing : (cs : List (Cell H)) (i t : ℕ) (d : Cell H) (h : H) → i < length cs → get_or cs i d ≡ missing t
      → filling cs i h ≡ some (set cs i (waits h))
  filling_missing [] i t d h l e = grind arith
  filling_missing (waits g ∷ cs) zero t d h l e = cc
  filling_missing (missing u ∷ cs) zero t d h l e = refl
  filling_missing (waits g ∷ cs) (suc i) t d h l e = rw (filling_missing cs i t d h (omega arith) e)
  filling_missing (missing u ∷ cs) (suc i) t d h l e = rw (filling_missing cs i t d h (omega arith) e)

  pub filling_waiting : (cs : List (Cell H)) (i : ℕ) (g : H) (d : Cell H) (h : H) → i < length cs → get_or cs i d ≡ waits g → filling cs i h ≡ none
  filling_waiting [] i g d h l e = refl
  filling_waiting (waits f ∷ cs) zero g d h l e = refl
  filling_waiting (missing u ∷ cs) zero g d h l e = cc
  filling_waiting (waits f ∷ cs) (suc i) g d h l e = rw (filling_waiting cs i g d h (omega arith) e)
  filling_waiting (missing u ∷ cs) (suc i) g d h l e = rw (filling_waiting cs i g d h (omega arith) e)

  pub filling_past : (cs : List (Cell H)) (i : ℕ) (h : H) → length cs ≤ i → filling cs i h ≡ none
  filling_past [] i h l = refl
  filling_past (c ∷ cs) zero h l = grind arith
  filling_past (waits f ∷ cs) (suc i) h l = rw (filling_past cs i h (omega arith))
  filling_past (missing u ∷ cs) (suc i) h l = rw (filling_past cs i h (omega arith))
