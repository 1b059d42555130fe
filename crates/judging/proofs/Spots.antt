-- What is so of a number that lies at a spot, and the spot of a number of which that is so. Assumes nothing.
use Prim.Native.Nat.{ℕ, ◌≤◌, ◌<◌}
use mathlib.Core.Path.{◌≡◌, refl, ap, sym, ◌∙◌, subst}
use mathlib.Core.Logic.{◌⊎◌, inl, inr, ⊎_elim}
use mathlib.Core.Bool.{Bool, true, false, cond, ◌&&◌}
use mathlib.Core.List.{List}
use native.Mathlib.Omega.{arith}
use lib.Dec.{ltb, eqb}
use borrow.Author.Tests.{ltb-true, ltb-false, lt-ltb, le-ltb, eqb-true, eq-eqb}
use Rattle.wire.proofs.Joined.{and_left, and_right, and_both, not_both}
use Rattle.ring.specs.Ring.{steps, seen, Side, Ahead, Behind, Far}
use Rattle.ring.proofs.Sides.{is_ahead_law}
use Rattle.larq.specs.Channel as channel
use Rattle.larq.specs.Channel.{reach, window}
use Rattle.slots.specs.Slots.{slot_of, is_missing}
use Rattle.record.specs.Moving.{span_in}
use Rattle.record.specs.declared.Record.{Record}
use Rattle.judging.specs.Judge.{spot_by, spot_for, BehindAt, MissingAt}
use Rattle.judging.specs.declared.Spot.{Spot}
use Rattle.judging.specs.declared.Spot.TheVariants as spot

-- M, while nothing is missing
pub record NextAt (r : Record) (s : ℕ) : Type 0 where
  pub is : seen (reach window) r.current.0 s ≡ Ahead 1
  pub oldest : s ≡ r.oldest.0
  pub none : span_in r ≡ 0

-- any other number that lies ahead of C
pub record AheadAt (r : Record) (s d : ℕ) : Type 0 where
  pub is : seen (reach window) r.current.0 s ≡ Ahead d
  pub other : s ≡ r.oldest.0 → span_in r ≡ 0 → ⊥

-- one that waits already, or lies before M
pub record UnwantedAt (r : Record) (marks : List ℕ) (s : ℕ) : Type 0 where
  pub behind : BehindAt r.current.0 s
  pub unwanted : (span_in r ≤ steps r.oldest.0 s) ⊎ ((steps r.oldest.0 s < span_in r) × is_missing marks (slot_of s) ≡ false)

abbrev pub LiesAt : Record → List ℕ → ℕ → Spot → Type 0
LiesAt r marks s spot.Next = NextAt r s
LiesAt r marks s (spot.Ahead d) = AheadAt r s d
LiesAt r marks s spot.Missing = MissingAt r marks s
LiesAt r marks s spot.Unwanted = UnwantedAt r marks s
LiesAt r marks s spot.Far = seen (reach window) r.current.0 s ≡ Far

-- M is one ahead of C where nothing is missing
pub next_at : (r : Record) (s : ℕ) → s ≡ r.oldest.0 → span_in r ≡ 0 → NextAt r s
next_at r s same none =
    let one : steps r.current.0 s ≡ 1 = omega arith in
    record {
      is = is_ahead_law (reach channel.window) r.current.0 s (omega arith) 1 (omega arith) (omega arith) one;
      oldest = same;
      none = none;
    }

module _ (r : Record) (marks : List ℕ) (s : ℕ) where
  abbrev is_next : Bool
  is_next = eqb s r.oldest.0 && eqb (span_in r) 0

  abbrev is_within : Bool
  is_within = ltb (steps r.oldest.0 s) (span_in r)

  next_is : is_next ≡ true → (s ≡ r.oldest.0) × (span_in r ≡ 0)
  next_is f = (eqb-true s r.oldest.0 (and_left (eqb s r.oldest.0) _ f), eqb-true (span_in r) 0 (and_right (eqb s r.oldest.0) _ f))

  by_next : (d : ℕ) → seen (reach window) r.current.0 s ≡ Ahead d → (b : Bool) → is_next ≡ b → LiesAt r marks s (cond b spot.Next (spot.Ahead d))
  by_next d e true f = let x = next_is f in next_at r s x.0 x.1
  by_next d e false f =
      record {
        is = e;
        other = λ same none. not_both is_next (and_both _ _ (eq-eqb s r.oldest.0 same) (eq-eqb (span_in r) 0 none)) f;
      }

  by_window : BehindAt r.current.0 s → (b c : Bool) → is_within ≡ b → is_missing marks (slot_of s) ≡ c
      → LiesAt r marks s (cond (b && c) spot.Missing spot.Unwanted)
  by_window at true true f g = record { behind = at; within = ltb-true (steps r.oldest.0 s) (span_in r) f; marked = g }
  by_window at true false f g = record { behind = at; unwanted = inr (ltb-true (steps r.oldest.0 s) (span_in r) f, g) }
  by_window at false c f g = record { behind = at; unwanted = inl (ltb-false (steps r.oldest.0 s) (span_in r) f) }

  lies_by : (side : Side) → seen (reach window) r.current.0 s ≡ side → LiesAt r marks s (spot_by r marks s side)
  lies_by (Ahead d) e = by_next d e is_next refl
  lies_by (Behind d) e = by_window (record { by = d; is = e }) is_within (is_missing marks (slot_of s)) refl refl
  lies_by Far e = e

  -- what is so of a number by its spot
  pub lies_at : {p : Spot} → p ≡ spot_for r marks s → LiesAt r marks s p
  lies_at e = subst (LiesAt r marks s) (sym e) (lies_by (seen (reach window) r.current.0 s) refl)

  behind_spot : BehindAt r.current.0 s → spot_for r marks s ≡ cond (is_within && is_missing marks (slot_of s)) spot.Missing spot.Unwanted
  behind_spot at = ap (spot_by r marks s) at.is

  not_next : (d : ℕ) → (s ≡ r.oldest.0 → span_in r ≡ 0 → ⊥) → (b : Bool) → is_next ≡ b → spot.Ahead d ≡ cond b spot.Next (spot.Ahead d)
  not_next d other true f = let x = next_is f in absurd (other x.0 x.1)
  not_next d other false f = refl

  -- and the other way: a number of which it is so has that spot
  pub spot_at : (p : Spot) → LiesAt r marks s p → p ≡ spot_for r marks s
  spot_at spot.Next at = sym (ap (spot_by r marks s) at.is ∙ rw (eq-eqb s r.oldest.0 at.oldest, eq-eqb (span_in r) 0 at.none))
  spot_at (spot.Ahead d) at = not_next d at.other is_next refl ∙ sym (ap (spot_by r marks s) at.is)
  spot_at spot.Missing at = sym (behind_spot at.behind ∙ rw (lt-ltb (steps r.oldest.0 s) (span_in r) at.within, at.marked))
  spot_at spot.Unwanted at =
      sym
      (behind_spot at.behind
      ∙ ⊎_elim (λ late. rw (le-ltb (steps r.oldest.0 s) (span_in r) late)) (λ w. rw (lt-ltb (steps r.oldest.0 s) (span_in r) w.0, w.1)) at.unwanted)
  spot_at spot.Far at = sym (ap (spot_by r marks s) at)
