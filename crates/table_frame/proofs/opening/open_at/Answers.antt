-- The key is stored, and the channel begins in the place's own words (Opening of table_calls).
use Rattle.table_calls.proofs.Opening.{opened_part}
use Rattle.table_frame.proofs.opening.open_at.Goals as goal

pub returns : goal.returns
returns c =
    let a = c.args in
    opened_part a.keys.now a.i a.key.first a.key.second c.requires.1 c.requires.3 c.begun.auto.words c.begun.ensures
