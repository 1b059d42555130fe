-- `pik_empty` meets its contract: `empty` is called with the same arguments, and its result is told. The check finds this alone; it stands here so
-- that a wrong argument is refused where it differs.
use Rattle.pik_channel.proofs.channels.pik_empty.Goals as goal

pub returns-in-Ok : goal.returns-in-Ok
returns-in-Ok c = c.in-Ok.ensures

pub returns-in-Err : goal.returns-in-Err
returns-in-Err c = rw c.into.ensures c.in-Err.ensures
