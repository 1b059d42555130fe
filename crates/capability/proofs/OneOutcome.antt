-- One outcome: any two answers that a contract allows are equal (document 01, 'How far a statement has to reach'). Assumes nothing.
-- An answer's contract fixes its outcome, and an outcome is one answer's, since no two cases of the timer have the same order.
use Prim.Native.Nat.{ℕ}
use mathlib.Core.Path.{◌≡◌, refl, sym, ap, ◌∙◌}
use mathlib.Core.Bool.{cond}
use lib.Dec.{eqb}
use Rattle.std.specs.Prelude.{Result, Ok, Err}
use Rattle.capability.specs.declared.Timer.{Timer}
use Rattle.capability.specs.declared.Timer.TheVariants.{Kept, Started, Cancelled}
use Rattle.capability.specs.declared.Answer.{Answer}
use Rattle.capability.specs.declared.refused.Refused.{Refused}
use Rattle.capability.specs.declared.refused.Refused.TheVariants.{Opcode}
use Rattle.capability.specs.declared.Station.{Station}
use Rattle.capability.specs.Answers.{Order, Outcome, order_of, outcome_of, outcome_or, outcome_as}

-- where a contract is an equation, as for `fresh`, `frame`, `current` and the numbers of a timer's order and of a refusal
pub one_value : {A : Type 0} {a b x : A} → a ≡ x → b ≡ x → a ≡ b
one_value p q = p ∙ sym q

-- the case of an order
abbrev case_of : Order → Timer
case_of o = cond o.starts Started (cond o.cancels Cancelled Kept)

back : (t : Timer) → case_of (order_of t) ≡ t
back Kept = refl
back Started = refl
back Cancelled = refl

abbrev answer_of : Outcome → Answer
answer_of o = record {
  station = o.station;
  sends = o.sends;
  frame = o.frame;
  reported = o.reported;
  timer = case_of o.timer;
}

whole : (a : Answer) → answer_of (outcome_of a) ≡ a
whole a = ap (λ (t : Timer). record { station = a.station; sends = a.sends; frame = a.frame; reported = a.reported; timer = t }) (back a.timer)

-- where it fixes the outcome, as for use and period end
pub one_outcome : {a b : Answer} {o : Outcome} → outcome_of a ≡ o → outcome_of b ≡ o → a ≡ b
one_outcome {a} {b} p q = sym (whole a) ∙ ap answer_of (one_value p q) ∙ whole b

-- an outcome is an answer's exactly if its number is 0
abbrev result_of : Outcome → Result Answer Refused
result_of o = cond (eqb o.number 0) (Ok (answer_of o)) (Err Opcode)

whole_or : (s : Station) (r : Result Answer Refused) → result_of (outcome_or s r) ≡ r
whole_or s (Ok a) = ap Ok (whole a)
whole_or s (Err Opcode) = refl

-- and where an event may be refused, as a received frame
pub one_result : (s : Station) {a b : Result Answer Refused} {o : Outcome} → outcome_or s a ≡ o → outcome_or s b ≡ o → a ≡ b
one_result s {a} {b} p q = sym (whole_or s a) ∙ ap result_of (one_value p q) ∙ whole_or s b

-- a number and an answer that are told as the same outcome are the same
pub one_outcome_as : (n m : ℕ) (a b : Answer) → outcome_as n a ≡ outcome_as m b → (n ≡ m) × (a ≡ b)
one_outcome_as n m a b e = (ap (λ (o : Outcome). o.number) e, sym (whole a) ∙ ap answer_of e ∙ whole b)
