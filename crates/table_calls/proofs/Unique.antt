-- Any two outcomes that the promise of a call allows are equal: the answers and the buffers are, and the tables as document 01 compares them. They are
-- equal word for word at every place that the call does not address, and at the addressed one wherever the rule frees it or changes nothing.
-- Results that tell the same are the same: `one_told` of place. Assumes nothing.
use Prim.Native.Nat.{ℕ, ◌<◌}
use mathlib.Core.Path.{◌≡◌, sym, ◌∙◌}
use native.Mathlib.Omega.{arith}
use Rattle.larq.specs.Answer.{Change, same, holds, freed, Outcome, refused}
use Rattle.larq.specs.Channel.{window}
use Rattle.larq.specs.Table.{Key, Event, outcome}
use Rattle.larq.proofs.Untouched.{refused_outcome}
use Rattle.place.specs.Call.{Buffers, Told, Answered}
use Rattle.table.specs.Addressed.{addressed}
use Rattle.table.specs.First.{places}
use Rattle.table.specs.Table.{Slices, at_place, place_at, table_of}
use Rattle.std.specs.Prelude.{Option, Some, None}
use Rattle.table_calls.specs.Event.{Changed, Did}

same_answers : (o : Outcome ℕ) (b x y : Buffers) (r q : Told) → Answered o b x r → Answered o b y q → r ≡ q
same_answers o b x y r q f g = grind arith

same_buffers : (o : Outcome ℕ) (b x y : Buffers) (r q : Told) → Answered o b x r → Answered o b y q → x ≡ y
same_buffers o b x y r q f g = grind arith

-- two tables after the same change: word for word where nothing changes; at the addressed place word for word where it is freed, and else the same record
abbrev pub Alike : Change ℕ → Option ℕ → Slices → Slices → Type 0
Alike same place x y = x ≡ y
Alike (holds c) (Some i) x y = place_at x i ≡ place_at y i
Alike (holds c) None x y = ⊥
Alike freed (Some i) x y = at_place i x ≡ at_place i y
Alike freed None x y = ⊥

changed_alike : (change : Change ℕ) (place : Option ℕ) (k : Key) (before x y : Slices) → Changed change place k before x → Changed change place k before y
    → Alike change place x y
changed_alike change place k before x y p q = grind arith

-- two outcomes of one call
pub record Same (e : Event ℕ) (before x y : Slices) (has having : Buffers) (r q : Told) : Type 0 where
  pub answer : r ≡ q
  pub buffers : has ≡ having
  pub table : table_of x ≡ table_of y
  pub place : Alike (outcome window (table_of before) e).change (addressed e.key before) x y
  pub elsewhere : (j : ℕ) → j < places → (addressed e.key before ≡ Some j → ⊥) → at_place j x ≡ at_place j y

pub unique : (e : Event ℕ) (before x y : Slices) (had has having : Buffers) (r q : Told)
    → Did e before x had has r → Did e before y had having q → Same e before x y has having r q
unique e before x y had has having r q f g =
    let o = outcome window (table_of before) e in
    record {
      answer = same_answers o had has having r q f.answer g.answer;
      buffers = same_buffers o had has having r q f.answer g.answer;
      table = f.stepped ∙ sym g.stepped;
      place = changed_alike o.change (addressed e.key before) e.key before x y f.changed g.changed;
      elsewhere = λ j h ne. f.elsewhere j h ne ∙ sym (g.elsewhere j h ne);
    }

-- a refusal leaves every word of every slice and buffer as it was, and all counts are 0
pub record Untouched (before after : Slices) (had has : Buffers) (given : Told) : Type 0 where
  pub table : after ≡ before
  pub buffers : has ≡ had
  pub up : given.up ≡ 0
  pub returned : given.returned ≡ 0
  pub nack : given.nack ≡ 0
  pub lost : given.lost ≡ 0

-- whatever call gave the host a number that is not 0
pub untouched : (e : Event ℕ) (before after : Slices) (had has : Buffers) (given : Told) → Did e before after had has given → (given.number ≡ 0 → ⊥)
    → Untouched before after had has given
untouched e before after had has given f some =
    record {
      table = rw is at f.changed;
      buffers = λ i. record { up = answered.up.buffer i; returned = answered.returned.buffer i; nack = answered.nack.buffer i };
      up = answered.up.count;
      returned = answered.returned.count;
      nack = answered.nack.count;
      lost = answered.lost;
    }
  where
    n : ℕ
    n = (outcome window (table_of before) e).answer.number

    is : outcome window (table_of before) e ≡ refused n
    is = refused_outcome window (table_of before) e (λ none. some (f.answer.number ∙ none))

    answered : Answered (refused n) had has given
    answered = rw is at f.answer
