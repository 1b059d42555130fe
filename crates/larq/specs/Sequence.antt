-- Sequence order, by the numbers with which handles wait: the words for what a restart and a close give back. Document 01, 'Data' and 'Close'.
use Rattle.std.specs.Prelude.{ℕ, zero, suc, List, [], ◌∷◌, length}
use Rattle.std.proofs.Math.Option.{Option, some, none}
use Rattle.ring.specs.Ring.{steps, rising}
use Rattle.larq.specs.Channel.{Cell, waits, missing, Channel}

-- the handle with which the i-th number of a window waits, if it does
abbrev pub handle_in : {H : Type 0} → List (Cell H) → ℕ → Option H
handle_in [] i = none
handle_in (waits h ∷ cs) zero = some h
handle_in (missing t ∷ cs) zero = none
handle_in (c ∷ cs) (suc i) = handle_in cs i

-- the handle with which the number n of the ring waits, if it does
abbrev pub waits_with : {H : Type 0} → Channel H → ℕ → Option H
waits_with c n = handle_in c.cells (steps c.oldest n)

abbrev pub also : {H : Type 0} → Option H → List H → List H
also none hs = hs
also (some h) hs = h ∷ hs

-- what numbers wait with, one number after the other
abbrev pub gathered : {H : Type 0} → (ℕ → Option H) → List ℕ → List H
gathered f [] = []
gathered f (n ∷ ns) = also (f n) (gathered f ns)

-- what waits from M to C, in sequence order
abbrev pub in_sequence : {H : Type 0} → Channel H → List H
in_sequence c = gathered (waits_with c) (rising c.oldest (length c.cells))
