-- `rate::rate_of` meets its contract: past the table there is no rate, and within it the entry tells.
use Rattle.std.proofs.Common.{◌∙◌}
use Rattle.rate.proofs.Tabled.{past_table, entry_tells}
use Rattle.rate.proofs.rates.rate_of.Goals as goal

pub returns-then-pe-ge16 : goal.returns-then-pe-ge16
returns-then-pe-ge16 c = past_table _ c.if-pe-ge16.true

pub returns : goal.returns
returns c = c.then_some.ensures ∙ entry_tells _ _ c.entry-mbit.ensures
