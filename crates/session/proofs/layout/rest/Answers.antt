-- The part from where the rest starts, in the body's own storage.
use Rattle.std.proofs.Common.{ap, ◌+◌, ℕ}
use Rattle.session.proofs.Reading.{all_behind}
use Rattle.session.proofs.layout.rest.Goals as goal

pub returns : goal.returns
returns c =
    let body = c.args.body in
    let start = c.rest_at.ensures.start in
    record { octets = all_behind body.now c.rest_at.result start; place = ap (λ (k : ℕ). (body.ref_ptr.0, k + body.ref_ptr.1)) start }
