-- The contracts of `look` and `empty` leave nothing open: any two outcomes that one of them allows for the same call are equal (document 01, 'How
-- far a statement has to reach'), and results of which the same is seen are the same (`one_seen`, `one_number`). What a way says settles it too:
-- `one_way` and `one_data_way` in Saying. Assumes nothing.
use Prim.Native.Nat.{ℕ}
use mathlib.Core.Path.{◌≡◌, refl, sym, ap, ◌∙◌}
use mathlib.Core.List.{List}
use native.Mathlib.Omega.{arith}
use Rattle.std.specs.Prelude.{Result}
use Rattle.wire.specs.Answers.{number_in}
use Rattle.larq.specs.Refused.{number_of}
use Rattle.larq.specs.declared.refused.Refused.{Refused}
use Rattle.larq.proofs.OneRefusal.{one_refused}
use Rattle.table.specs.Table.{Slices}
use Rattle.table_calls.specs.Emptied.{Emptied}
use Rattle.table_calls.specs.Look.{Shown, Seen, seen, seen_as, Looked}
use Rattle.table_calls.specs.declared.looking.View.{View}

pub one_look : {shown : Shown} {waited waits waits' valued values values' : List ℕ} {a b : Seen} → Looked shown waited waits valued values a
    → Looked shown waited waits' valued values' b → (a ≡ b) × (waits ≡ waits') × (values ≡ values')
one_look u v = (
  rw (u.number, v.number, u.current, v.current, u.oldest, v.oldest, u.latest, v.latest, u.span, v.span) refl,
  u.marks ∙ sym v.marks,
  u.cells ∙ sym v.cells,
)

pub one_seen : (r q : Result View Refused) → seen r ≡ seen q → r ≡ q
one_seen r q e = grind (arith, one_refused)

pub one_seen_as : (n m : ℕ) (v w : View) → seen_as n v ≡ seen_as m w → (n ≡ m) × (v ≡ w)
one_seen_as n m v w e = (ap (λ (s : Seen). s.number) e, ap (λ (s : Seen). record { current = s.current; oldest = s.oldest; latest = s.latest; span = s.span }) e)

pub one_empty : {before after after' : Slices} {a b : ℕ} → Emptied before after a → Emptied before after' b → (a ≡ b) × (after ≡ after')
one_empty u v = (u.number ∙ sym v.number, u.table ∙ sym v.table)

pub one_number : (r q : Result Unit Refused) → number_in number_of r ≡ number_in number_of q → r ≡ q
one_number r q e = grind (arith, one_refused)
