-- `rate::rates::entry` meets its contract: one rule, computed over all entries of the table.
use Rattle.std.proofs.Common.{ℕ, Bool, List, true, length, ◌≡◌, ◌<◌}
use lib.Dec.{eqb}
use lib.ListN.{get_or}
use borrow.Author.Tests.{eqb-true}
use Rattle.std.specs.Prelude.{unwrap_or}
use Rattle.wire.proofs.Table.{every, at_each}
use Rattle.rate.specs.Rates.{rate_of}
use Rattle.rate.proofs.rates.entry.Goals as goal

-- the rule of every entry: it is the rate of its place, 0 for none
rule : ℕ → ℕ → Bool
rule pe r = eqb r (unwrap_or (rate_of pe) 0)

by_rule : (table : List ℕ) (pe : ℕ) → pe < length table → every rule 0 table ≡ true → get_or table pe 0 ≡ unwrap_or (rate_of pe) 0
unfolding rule
by_rule table pe there each = eqb-true (get_or table pe 0) (unwrap_or (rate_of pe) 0) (at_each rule table each pe there)

pub returns : goal.returns
unfolding rule rate_of
returns c = search (by_rule, c.requires)
