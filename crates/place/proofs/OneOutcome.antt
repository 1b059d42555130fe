-- The contract of a call on an open place leaves nothing open. Any two outcomes that it allows for the same call give the
-- same answer, number and counts, and the same buffers, and leave the place alike: the very same parts where the call was refused or the place is
-- freed, and else the same record, by which document 01 compares open places ('The channel table'). Assumes nothing.
use Prim.Native.Nat.{ℕ}
use mathlib.Core.Path.{◌≡◌, ap}
use Rattle.std.specs.Prelude.{Result}
use Rattle.std.proofs.Common.{arith}
use Rattle.larq.specs.declared.refused.Refused.{Refused}
use Rattle.larq.proofs.OneRefusal.{one_refused}
use Rattle.place.specs.declared.Answer.{Answer}
use Rattle.larq.specs.Answer.{Change, same, holds, freed}
use Rattle.larq.specs.Events.{Act}
use Rattle.record.specs.Place.{record_of}
use Rattle.place.specs.Call.{Buffers, Parts, Told, told, told_as, Called, rule_at}

-- two places after the same change
abbrev pub Alike : Change ℕ → Parts → Parts → Type 0
Alike same p q = p ≡ q
Alike (holds c) p q = record_of p.words p.handles p.marks ≡ record_of q.words q.handles q.marks
Alike freed p q = p ≡ q

-- two outcomes of the same call
pub record SameOutcome (change : Change ℕ) (p q : Parts) (has had : Buffers) (a b : Told) : Type 0 where
  pub answer : a ≡ b
  pub buffers : has ≡ had
  pub place : Alike change p q

pub one_call : {act : Act ℕ} {time : ℕ} {before p q : Parts} {had has has' : Buffers} {a b : Told} → Called act time before p had has a
    → Called act time before q had has' b → SameOutcome (rule_at before had time act).change p q has has' a b
one_call {act} {time} {before} {p} {q} {had} u v = grind arith

-- Results that tell a host the same are the same, so what is told settles the result.
pub one_told : (a b : Result Answer Refused) → told a ≡ told b → a ≡ b
one_told a b e = grind (arith, one_refused)

-- And a number and an answer that tell a host the same are the same.
pub one_told_as : (n m : ℕ) (a b : Answer) → told_as n a ≡ told_as m b → (n ≡ m) × (a ≡ b)
one_told_as n m a b e = (ap (λ (t : Told). t.number) e, ap (λ (t : Told). record { up = t.up; returned = t.returned; nack = t.nack; lost = t.lost }) e)
