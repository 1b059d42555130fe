-- `pik_close` meets its contract: `close` is called with the same arguments, and its result is told. The check finds this alone; it stands here so that a
-- wrong argument is refused where it differs.
use Rattle.pik_channel.proofs.channels.pik_close.Goals as goal

pub returns : goal.returns
returns c = rw c.into.ensures c.close.ensures
