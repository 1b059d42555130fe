-- At each type of cell the zero is 0: so `zero` leaves as many 0 as there were cells, of words, of handles and of marks. Assumes nothing.
use Prim.Native.Nat.{ℕ}
use mathlib.Core.Path.{◌≡◌, refl}
use mathlib.Core.List.{List}
use lib.ListN.{length, replicate}
use Rattle.zeros.specs.contracts.U64HasZero.TheImpl as words
use Rattle.zeros.specs.contracts.U32HasZero.TheImpl as handles
use Rattle.zeros.specs.contracts.U8HasZero.TheImpl as marks

module _ (before : List ℕ) where
  pub words_zero : replicate (length before) words.ghosts.ZERO ≡ replicate (length before) 0
  words_zero = refl

  pub handles_zero : replicate (length before) handles.ghosts.ZERO ≡ replicate (length before) 0
  handles_zero = refl

  pub marks_zero : replicate (length before) marks.ghosts.ZERO ≡ replicate (length before) 0
  marks_zero = refl
