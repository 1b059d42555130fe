-- Any two outcomes that a contract of this crate allows are equal. The structs of a call and of a look stand for what is told of them, and no two of them
-- for the same. Of `pik_empty` the answer is a number, and `one_empty` of table_calls says it; the version is an equation.
-- Assumes nothing.
use Prim.Native.Nat.{ℕ}
use mathlib.Core.Path.{◌≡◌}
use mathlib.Core.List.{List}
use native.Mathlib.Omega.{arith}
use Rattle.larq.specs.Events.{Act}
use Rattle.larq.specs.Table.{Key}
use Rattle.place.specs.Call.{Buffers}
use Rattle.table.specs.Table.{Slices}
use Rattle.table_calls.specs.Event.{event_of, Call}
use Rattle.table_calls.specs.Look.{Shown, Looked}
use Rattle.table_calls.proofs.Unique.{Same, unique}
use Rattle.table_calls.proofs.OneOutcome.{one_look}
use Rattle.pik_channel.specs.declared.answers.Answer.{Answer}
use Rattle.pik_channel.specs.declared.views.View.{View}
use Rattle.pik_channel.specs.Answers.{told_of, seen_of}

-- structs of which the same is told are the same: no field of theirs goes untold
pub same_answer : (a b : Answer) → told_of a ≡ told_of b → a ≡ b
same_answer a b e = grind arith

pub same_view : (v w : View) → seen_of v ≡ seen_of w → v ≡ w
same_view v w e = grind arith

-- two outcomes of one event: the structs are equal, and tables and buffers are what `unique` makes of them
pub one_event : {k : Key} {time : ℕ} {act : Act ℕ} {before x y : Slices} {had has having : Buffers} (a b : Answer)
    → Call k time act before x had has (told_of a) → Call k time act before y had having (told_of b)
    → (a ≡ b) × Same (event_of k time act before had) before x y has having (told_of a) (told_of b)
one_event {k} {time} {act} {before} {x} {y} {had} {has} {having} a b f g =
    let both = unique (event_of k time act before had) before x y had has having (told_of a) (told_of b) f g in
    (same_answer a b both.answer, both)

-- two outcomes of one look
pub one_looking : {shown : Shown} {waited waits waits' valued values values' : List ℕ} (v w : View) → Looked shown waited waits valued values (seen_of v)
    → Looked shown waited waits' valued values' (seen_of w) → (v ≡ w) × (waits ≡ waits') × (values ≡ values')
one_looking v w f g =
    let both = one_look f g in
    (same_view v w both.0, both.1, both.2)
