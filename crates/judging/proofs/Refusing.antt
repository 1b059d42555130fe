-- The numbers in their order: which number the code gives is the first of the rules' tests that fails. Document 01, 'Numbers the box may
-- answer with'. Assumes nothing.
use Prim.Native.Nat.{ℕ, ◌≤◌, ◌<◌}
use mathlib.Core.Path.{◌≡◌}
use mathlib.Core.Bool.{true, false, cond}
use mathlib.Core.List.{List, [], ◌∷◌}
use native.Mathlib.Omega.{arith}
use borrow.Author.Tests.{le-leb, lt-leb}
use Rattle.std.specs.Prelude.{Ok}
use Rattle.wire.specs.Answers as said
use Rattle.wire.specs.Answers.{Said}
use Rattle.wire.specs.Refusals.{answered}
use Rattle.larq.specs.Answer.{refused}
use Rattle.larq.specs.Channel.{Channel, window, sound}
use Rattle.larq.specs.Events.{Act, act_on}
use Rattle.larq.specs.Table.{Lent, lent_enough, number_in_ring, reminder_near, one}
use Rattle.ring.specs.Ring.{is_number, size}
use Rattle.slots.specs.Slots.{current_in, oldest_in, latest_in}
use Rattle.record.specs.Place.{record_with, record_of}
use Rattle.judging.specs.Judge.{event_on, common, judged_says, judged_for}
use Rattle.record.specs.declared.Record.{Record}

-- every event at an open channel has these tests, and after them what it does, or number 8
pub common_to_all : (lent : Lent) (s time : ℕ) (c : Channel ℕ) (act : Act ℕ) → number_in_ring act ≡ is_number s → one window true (c ∷ []) (event_on lent time act)
    ≡ answered refused (common lent s time c) (cond (reminder_near window act c) (act_on window c time act) (refused 8))
unfolding one
common_to_all lent s time c act number = rw number

-- The number that `judge` gives at each test, from what it is asked: the words and marks of a place, what is lent, the number and the time.
module _ (lent : Lent) (words marks : List ℕ) (s time : ℕ) where
  abbrev says : Said
  says = judged_for lent words marks s time

  pub refused_1 : lent_enough window lent ≡ false → said.refused 1 ≡ says
  refused_1 e = rw e

  module _ (enough : lent_enough window lent ≡ true) where
    pub refused_2 : size ≤ s → said.refused 2 ≡ says
    refused_2 l = rw (enough, lt-leb s 4095 l)

    module _ (in_ring_law : s < size) where
      pub refused_6 : sound window (record_of words [] marks) ≡ false → said.refused 6 ≡ says
      refused_6 e = rw (enough, le-leb s 4095 (omega arith), e)

      module _ (whole : sound window (record_of words [] marks) ≡ true) where
        pub refused_7 : time < latest_in words → said.refused 7 ≡ says
        unfolding record_with
        refused_7 l = rw (enough, le-leb s 4095 (omega arith), whole, lt-leb (latest_in words) time l)

        pub opens : latest_in words ≤ time → (r : Record) → r.current.0 ≡ current_in words → r.oldest.0 ≡ oldest_in words
            → r.latest ≡ latest_in words → judged_says (Ok r) ≡ says
        unfolding record_with
        opens l r ec eo el = rw (enough, le-leb s 4095 (omega arith), whole, le-leb (latest_in words) time l, ec, eo, el)
