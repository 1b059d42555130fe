-- What a call answers, and what becomes of the channel's place. Document 01, 'The four channel events' and 'Numbers the box may answer with'.
use Rattle.std.specs.Prelude.{ℕ, ◌≡◌, List, []}
use Rattle.larq.specs.Channel.{Channel}

-- the number; the handles that go up and those that come back; what is asked for again; and how many numbers the call gave up
pub record Answer (H : Type 0) : Type 0 where
  pub number : ℕ
  pub up : List H
  pub returned : List H
  pub nack : List ℕ
  pub lost : ℕ

-- the place is as it was; it holds this record; it is free
pub data Change (H : Type 0) : Type 0 where
  same : Change H
  holds : Channel H → Change H
  freed : Change H

pub record Outcome (H : Type 0) : Type 0 where
  pub answer : Answer H
  pub change : Change H

-- a refusal: its number, all counts 0, nothing changed
abbrev pub refused : {H : Type 0} → ℕ → Outcome H
refused n = record { answer = record { number = n; up = []; returned = []; nack = []; lost = 0 }; change = same }

abbrev pub accepted : {H : Type 0} → List H → List H → List ℕ → ℕ → Change H → Outcome H
accepted up returned nack lost change =
    record { answer = record { number = 0; up = up; returned = returned; nack = nack; lost = lost }; change = change }

-- what a call leaves that isn't refused: a record whose latest time is the call's, or a free place
abbrev pub Dated : {H : Type 0} → ℕ → Change H → Type 0
Dated t same = ⊥
Dated t (holds c) = c.latest ≡ t
Dated t freed = Unit
