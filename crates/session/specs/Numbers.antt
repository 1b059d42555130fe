-- Big-endian numbers in octets: the number that octets spell, and the octets that spell a number (docs/LAYOUT.md, 'Sessions').
use Rattle.std.specs.Prelude.{ℕ, zero, suc, ◌+◌, ◌*◌, ◌/◌, ◌%◌, List, [], ◌∷◌, ◌++◌}
use Rattle.wire.specs.Octets.{octet_at}

-- the number of w octets from a place on, the highest first; past the end every octet counts as 0
unfoldable pub number_at : List ℕ → ℕ → ℕ → ℕ
number_at s at zero = 0
number_at s at (suc w) = number_at s at w * 256 + octet_at s (at + w)

-- the w octets of a number, the highest first; what the number has above 256 ^ w is left out
unfoldable pub spelled : ℕ → ℕ → List ℕ
spelled zero n = []
spelled (suc w) n = spelled w (n / 256) ++ (n % 256 ∷ [])
