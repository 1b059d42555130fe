-- The contract of `widened` leaves nothing open: any two outcomes that it allows for the same call are equal (document 01, 'How far a statement has
-- to reach'). Assumes nothing.
use Prim.Native.Nat.{ℕ}
use mathlib.Core.Path.{◌≡◌, refl, sym, ◌∙◌}
use mathlib.Core.Bool.{Bool, true, false}
use mathlib.Core.List.{List}
use Rattle.record.specs.Walk.{waiting_of}
use Rattle.record.specs.declared.Record.{Record}
use Rattle.record.proofs.OneOutcome.{one_grown, one_hand}
use Rattle.stepping.specs.Step.{can_step, Widened, Unwidened, Widens}
use Rattle.stepping.specs.declared.Passed.{Passed}

-- two outcomes of one step
pub record SameStep (w w' k k' u u' q q' : List ℕ) (p p' : Passed) : Type 0 where
  pub words : w ≡ w'
  pub marks : k ≡ k'
  pub up : u ≡ u'
  pub nack : q ≡ q'
  pub passed : p ≡ p'

module _ (r : Record) (s made time : ℕ) (W H K U Q w w' k k' u u' q q' : List ℕ) (p p' : Passed) where
  left_alike : Unwidened r W K U Q w k u q p → Unwidened r W K U Q w' k' u' q' p' → SameStep w w' k k' u u' q q' p p'
  left_alike a b =
      record {
        words = a.words ∙ sym b.words;
        marks = a.marks ∙ sym b.marks;
        up = a.up ∙ sym b.up;
        nack = a.nack ∙ sym b.nack;
        passed = a.passed ∙ sym b.passed;
      }

  taken_alike : Widened r s made time W H K U Q w k u q p → Widened r s made time W H K U Q w' k' u' q' p' → SameStep w w' k k' u u' q q' p p'
  taken_alike a b =
      let g : p.grown ≡ p'.grown = one_grown r s made time p.grown p'.grown a.grown b.grown in
      let missed = rw (sym g) at b.missed in
      let laid = one_hand (waiting_of H K r.oldest.0 p.grown.old) 0 U u u' p.had.up p'.had.up a.handed (rw (sym g) at b.handed) in
      record {
        words = a.missed.words ∙ sym missed.words;
        marks = a.missed.marks ∙ sym missed.marks;
        up = laid.1;
        nack = a.missed.nack ∙ sym missed.nack;
        passed = rw (a.asked, b.asked, a.lost, b.lost, laid.0, g) refl;
      }

  pub one_widened : Widens r s made time W H K U Q w k u q p → Widens r s made time W H K U Q w' k' u' q' p' → SameStep w w' k k' u u' q q' p p'
  one_widened a b = go (can_step r s made W H K U Q) refl
    where
      go : (c : Bool) → can_step r s made W H K U Q ≡ c → SameStep w w' k k' u u' q q' p p'
      go true e = taken_alike (a.taken e) (b.taken e)
      go false e = left_alike (a.left e) (b.left e)
