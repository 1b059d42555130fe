-- A sound record is told word by word and cell by cell, a broken one is refused by 6 (Showing).
use Rattle.std.proofs.Common.{refl, sym, ◌∙◌, arith}
use Rattle.table_calls.proofs.Showing.{broken_looked, fits, span_is, looked}
use Rattle.table_calls.proofs.looking.look_at.Goals as goal

pub returns-then-not-is_sound : goal.returns-then-not-is_sound
returns-then-not-is_sound c =
    let a = c.args in
    broken_looked a.words.now a.handles.now a.marks.now c.requires.sized.0 c.requires.sized.1 (sym c.is_sound.ensures ∙ c.if-not-is_sound.true) _ _

pub overflow_cast-current : goal.overflow_cast-current
overflow_cast-current c =
    let a = c.args in
    let fit = fits a.words.now a.handles.now a.marks.now c.requires.sized.0 c.requires.sized.1 (sym c.is_sound.ensures ∙ c.if-not-is_sound.false) in
    omega (arith, c.current-current.ensures, fit.current)

pub overflow_cast-oldest : goal.overflow_cast-oldest
overflow_cast-oldest c =
    let a = c.args in
    let fit = fits a.words.now a.handles.now a.marks.now c.requires.sized.0 c.requires.sized.1 (sym c.is_sound.ensures ∙ c.if-not-is_sound.false) in
    omega (arith, c.oldest-oldest.ensures, fit.oldest)

pub tell-requires : goal.tell-requires
tell-requires c =
    let a = c.args in
    let fit = fits a.words.now a.handles.now a.marks.now c.requires.sized.0 c.requires.sized.1 (sym c.is_sound.ensures ∙ c.if-not-is_sound.false) in
    let n = span_is a.words.now _ _ _ _ c.current-current.ensures c.oldest-oldest.ensures c.steps-span.ensures c.forward.ensures in
    (omega (arith, n, fit.short, c.requires.room.0), omega (arith, n, fit.short, c.requires.room.1))

pub returns : goal.returns
returns c =
    let a = c.args in
    looked a.words.now a.handles.now a.marks.now c.requires.sized.0 c.requires.sized.1 (sym c.is_sound.ensures ∙ c.if-not-is_sound.false)
    _ _ _ _ _ _ c.oldest-oldest.ensures
    (span_is a.words.now _ _ _ _ c.current-current.ensures c.oldest-oldest.ensures c.steps-span.ensures c.forward.ensures)
    c.requires.room.0 c.requires.room.1 c.tell.ensures.waits_after c.tell.ensures.values_after _
    (c.current-current.ensures, c.oldest-oldest.ensures, c.latest.ensures, refl)
