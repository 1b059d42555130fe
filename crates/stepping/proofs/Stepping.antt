-- A step ahead that can be taken: what its test says, and that there is room for what it passes and asks for. Assumes nothing.
use Prim.Native.Nat.{ℕ, ◌≤◌}
use mathlib.Core.Path.{◌≡◌}
use mathlib.Core.Bool.{true}
use mathlib.Core.List.{List}
use native.Mathlib.Omega.{arith}
use lib.Dec.{leb}
use lib.ListN.{length}
use borrow.Author.Tests.{le-leb, leb-true, eq-eqb}
use Rattle.wire.proofs.Joined.{and_left, and_right}
use Rattle.ring.specs.Ring.{steps}
use Rattle.larq.specs.Channel as channel
use Rattle.larq.specs.Table.{lent_enough}
use Rattle.larq.specs.Channel.{window}
use Rattle.slots.specs.Slots.{slots, place_words}
use Rattle.record.specs.Buffers.{Laid}
use Rattle.record.specs.Place.{place_lent}
use Rattle.record.specs.Moving.{span_in, IsGrown}
use Rattle.stepping.specs.Step.{can_step}
use Rattle.record.specs.Walk.{waiting_of, hand_numbers}
use Rattle.record.specs.declared.Record.{Record}
use Rattle.record.specs.declared.Grown.{Grown}
use Rattle.record.proofs.Sizes.{Enough, enough_of}
use Rattle.record.proofs.Waiting.{waiting_short, hands_all}

-- what the test says, of a step to s that makes so many numbers missing
pub record Fits (r : Record) (s made : ℕ) (w h k u q : List ℕ) : Type 0 where
  pub enough : Enough (length w) (length h) (length k) (length u) (length u) (length q)
  pub narrow : span_in r ≤ window
  pub few : made ≤ steps r.current.0 s

module _ (r : Record) (s made : ℕ) (w h k u q : List ℕ) where
  pub fits_of : can_step r s made w h k u q ≡ true → Fits r s made w h k u q
  fits_of e =
      let lent = lent_enough channel.window (place_lent (length w) (length h) (length k) (length u) (length u) (length q)) in
      let rest = and_right lent _ e in
      record {
        enough = enough_of (length w) (length h) (length k) (length u) (length u) (length q) (and_left lent _ e);
        narrow = leb-true (span_in r) window (and_left (leb (span_in r) window) _ rest);
        few = leb-true made (steps r.current.0 s) (and_right (leb (span_in r) window) _ rest);
      }

  pub can_step_law : Fits r s made w h k u q → can_step r s made w h k u q ≡ true
  can_step_law f =
      rw (
        le-leb window (length u) f.enough.up_room,
        le-leb window (length q) f.enough.nack_room,
        eq-eqb (length w) place_words f.enough.words_sized,
        eq-eqb (length h) slots f.enough.handles_sized,
        eq-eqb (length k) slots f.enough.marks_sized,
        le-leb (span_in r) window f.narrow,
        le-leb made (steps r.current.0 s) f.few,
      )

-- M goes by no more numbers at once than it has to pass, and no more are asked for than the window has.
module _ {r : Record} {w h k u q : List ℕ} {s made t : ℕ} {to : Grown} (fits : Fits r s made w h k u q) (is : IsGrown r s made t to) where
  pub asked_few : to.count ≤ window
  asked_few = omega (arith, is.count, is.over, fits.narrow, fits.few)

  module _ {u' : List ℕ} {end : ℕ} (hands : Laid (waiting_of h k r.oldest.0 (hand_numbers h k to.old u)) 0 u u' end) where
    pub handed_all : Laid (waiting_of h k r.oldest.0 to.old) 0 u u' end
    handed_all =
        hands_all h k r.oldest.0 to.old fits.enough.handles_sized fits.enough.marks_sized
        (omega (arith, is.old, fits.narrow, fits.enough.up_room)) hands

    pub handed_few : end ≤ to.over
    handed_few = omega (arith, handed_all.end_is, is.old, waiting_short h k r.oldest.0 to.old)
