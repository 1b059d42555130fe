-- The rule is tested on the part of the frame that `wire::part` hands back.
use Rattle.std.proofs.Common.{◌∙◌, ap}
use Rattle.wire.proofs.Parts.{own_octets}
use Rattle.rate.specs.Request.{group_addresses}
use Rattle.rate_reader.proofs.fields.groups.Goals as goal

pub returns : goal.returns
returns c =
    let a = c.args in
    c.group_addresses.ensures ∙ ap group_addresses (own_octets a.frame a.start a.extent c.part.ensures)
