-- The contract of `judge` leaves nothing open: any two answers that it allows for the same call are equal (document 01, 'How far a statement has to
-- reach'). The contracts of `is_sound` and `spot_of` are equations. Assumes nothing.
use Prim.Native.Nat.{ℕ}
use mathlib.Core.Path.{◌≡◌, sym, ◌∙◌}
use mathlib.Core.List.{List}
use Rattle.larq.specs.Table.{Lent}
use Rattle.judging.specs.Judge.{judged_says, judged_for}
use Rattle.std.specs.Prelude.{Result}
use Rattle.record.specs.declared.Record.{Record}
use Rattle.larq.specs.declared.refused.Refused.{Refused}
use Rattle.judging.proofs.Saying.{one_judged}

pub one_judge : (lent : Lent) (words marks : List ℕ) (s time : ℕ) (a b : Result Record Refused) → judged_says a ≡ judged_for lent words marks s time
    → judged_says b ≡ judged_for lent words marks s time → a ≡ b
one_judge lent words marks s time a b u v = one_judged a b (u ∙ sym v)
