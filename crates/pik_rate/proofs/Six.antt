-- A list of six octets is the list of its octets.
use Prim.Native.Nat.{ℕ, ◌+◌, ◌≤◌}
use mathlib.Core.Path.{◌≡◌, sym, ap, ◌∙◌}
use mathlib.Core.List.{List, [], ◌∷◌, append-nil}
use native.Mathlib.Omega.{arith}
use lib.ListN.{length, get_or}
use Rattle.wire.specs.Octets.{six_at}
use Rattle.wire.proofs.Octets.{six_front, six_within}

pub six_octets : (o : List ℕ) → length o ≡ 6 → get_or o 0 0 ∷ get_or o 1 0 ∷ get_or o 2 0 ∷ get_or o 3 0 ∷ get_or o 4 0 ∷ get_or o 5 0 ∷ [] ≡ o
six_octets o six =
    let fits : 0 + 6 ≤ length o = omega arith in
    sym (six_within o 0 fits) ∙ ap (λ l. six_at l 0) (sym (append-nil o)) ∙ six_front o [] six
