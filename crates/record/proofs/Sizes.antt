-- What is lent for a call, by its lengths: the parts of a place, and the room in its buffers. Document 01, number 1. Assumes nothing.
use Prim.Native.Nat.{ℕ, ◌≤◌}
use mathlib.Core.Path.{◌≡◌}
use mathlib.Core.Bool.{true, ◌&&◌}
use lib.Dec.{eqb, leb}
use borrow.Author.Tests.{leb-true, eqb-true}
use Rattle.wire.proofs.Joined.{and_left, and_right}
use Rattle.larq.specs.Channel.{window}
use Rattle.larq.specs.Table.{lent_enough}
use Rattle.slots.specs.Slots.{slots, place_words, place_sized}
use Rattle.record.specs.Place.{place_lent}

-- the parts of a place, by their lengths
pub place_sizes : (words handles marks : ℕ) → place_sized words handles marks ≡ true → (words ≡ place_words) × (handles ≡ slots) × (marks ≡ slots)
place_sizes words handles marks e =
    let rest = and_right (eqb words place_words) _ e in (
      eqb-true words place_words (and_left (eqb words place_words) _ e),
      eqb-true handles slots (and_left (eqb handles slots) _ rest),
      eqb-true marks slots (and_right (eqb handles slots) _ rest),
    )

-- what number 1 asks
pub record Enough (words handles marks up returned nack : ℕ) : Type 0 where
  pub up_room : window ≤ up
  pub returned_room : window ≤ returned
  pub nack_room : window ≤ nack
  pub words_sized : words ≡ place_words
  pub handles_sized : handles ≡ slots
  pub marks_sized : marks ≡ slots

pub enough_of : (words handles marks up returned nack : ℕ) → lent_enough window (place_lent words handles marks up returned nack) ≡ true
    → Enough words handles marks up returned nack
enough_of words handles marks up returned nack e =
    let rooms = and_left (leb window up && (leb window returned && leb window nack)) _ e in
    let rooms' = and_right (leb window up) _ rooms in
    let sizes = place_sizes words handles marks (and_right (leb window up && (leb window returned && leb window nack)) _ e) in
    record {
      up_room = leb-true window up (and_left (leb window up) _ rooms);
      returned_room = leb-true window returned (and_left (leb window returned) _ rooms');
      nack_room = leb-true window nack (and_right (leb window returned) _ rooms');
      words_sized = sizes.0;
      handles_sized = sizes.1;
      marks_sized = sizes.2;
    }
