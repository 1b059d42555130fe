-- M, where nothing is missing, is one ahead of C (`next_at`); a number that lies ahead otherwise is not that one.
use Rattle.std.proofs.Common.{◌≡◌, sym, ◌∙◌, eqb}
use borrow.Author.Tests.{eqb-true, eq-eqb}
use Rattle.ring.proofs.Sides.{seen_ahead}
use Rattle.judging.specs.declared.Spot.TheVariants.{Next, Ahead}
use Rattle.record.specs.Moving.{span_in}
use Rattle.wire.proofs.Joined.{and_left, and_right, and_both, not_both}
use Rattle.judging.proofs.Spots.{next_at, spot_at}
use Rattle.judging.proofs.spot_of.Goals as goal

pub returns-then-s-m : goal.returns-then-s-m
returns-then-s-m c =
    let a = c.args in
    let is-oldest = eqb a.s.0 a.r.oldest.0 in
    let none : span_in a.r ≡ 0 = sym c.span-n.ensures ∙ eqb-true _ 0 (and_right is-oldest _ c.if-s-m.true) in
    spot_at a.r a.marks.now a.s.0 Next (next_at a.r a.s.0 (eqb-true _ _ (and_left is-oldest _ c.if-s-m.true)) none)

pub returns-then-is_ahead : goal.returns-then-is_ahead
returns-then-is_ahead c =
    let a = c.args in
    spot_at a.r a.marks.now a.s.0 (Ahead _)
    (record {
      is = rw c.steps.ensures (seen_ahead _ _ (rw (c.is_ahead.ensures, c.distance-d.ensures) at c.if-is_ahead.true));
      other =
          λ same none. not_both _
          (and_both _ _ (eq-eqb a.s.0 a.r.oldest.0 same) (eq-eqb _ 0 (c.span-n.ensures ∙ none)))
          c.if-s-m.false;
    })
