-- The first test that fails gives its number (Refusing).
use Rattle.std.proofs.Common.{sym, ◌∙◌}
use Rattle.judging.proofs.Sounds.{sound_ring_of}
use Rattle.judging.proofs.Refusing.{refused_7, opens}
use Rattle.judging.proofs.Saying.{measured}
use Rattle.judging.proofs.judge.Goals as goal

pub returns-then-time-latest : goal.returns-then-time-latest
returns-then-time-latest c =
    let a = c.args in
    refused_7 (measured a.words.now a.marks.now a.lent) a.words.now a.marks.now a.number a.time
    (sym c.lent_enough.ensures ∙ c.if-not-lent_enough.false)
    c.if-number-ge-SIZE.false
    (sym c.is_whole.ensures ∙ c.if-not-is_whole.false)
    (rw c.latest.ensures at c.if-time-latest.true)

pub read-requires : goal.read-requires
read-requires c = sound_ring_of c.args.words.now c.args.marks.now (sym c.is_whole.ensures ∙ c.if-not-is_whole.false)

pub returns : goal.returns
returns c =
    let a = c.args in
    let r = c.read in
    opens (measured a.words.now a.marks.now a.lent) a.words.now a.marks.now a.number a.time
    (sym c.lent_enough.ensures ∙ c.if-not-lent_enough.false)
    c.if-number-ge-SIZE.false
    (sym c.is_whole.ensures ∙ c.if-not-is_whole.false)
    (rw c.latest.ensures at c.if-time-latest.false)
    r.result r.ensures.0 r.ensures.1 r.ensures.2
