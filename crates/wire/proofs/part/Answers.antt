-- `wire::part` meets its contract: a part of a shared slice lies in the slice's own storage, from its start on.
use Rattle.std.proofs.Common.{ℕ, ◌≡◌, sym, ◌∙◌, refl, ap, true, false, take, drop}
use native.Mathlib.Nat.{add-sub_cancel_left}
use Rattle.wire.specs.Octets.{within}
use Rattle.wire.proofs.part.Goals as goal

pub returns-then-lies_within : goal.returns-then-lies_within
unfolding within
returns-then-lies_within c =
    let a = c.args in
    let w : within a.s.now a.start a.count ≡ true = sym c.lies_within.ensures ∙ c.if-lies_within.true in
    rw w (record { octets = ap (λ (k : ℕ). take k (drop a.start a.s.now)) (add-sub_cancel_left a.start a.count); place = refl })

pub returns : goal.returns
unfolding within
returns c =
    let a = c.args in
    let w : within a.s.now a.start a.count ≡ false = sym c.lies_within.ensures ∙ c.if-lies_within.false in
    rw w (record { octets = refl; place = refl })
