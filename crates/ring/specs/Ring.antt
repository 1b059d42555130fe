-- The ring of 4,096 sequence numbers: steps forward, the signed distance, and the side on which a number lies.
-- Document 01, 'Numbers in a ring of 4,096' (001, 6.6.2: a frame is new where the distance to it is above 0).
-- A number above 4,095 counts modulo 4,096, so that each definition means something on every number.
use Rattle.std.specs.Prelude.{ℕ, zero, suc, ◌+◌, ◌-◌, ◌%◌, Bool, true, false, cond, List, [], ◌∷◌, leb, ltb, ℤ, pos, negsuc}
use Rattle.std.proofs.Math.IntN.{sub_ℕ}

-- how many numbers the ring has, and half of them
abbrev pub size : ℕ
size = 4096

abbrev pub half : ℕ
half = 2048

-- a number that the ring has
abbrev pub is_number : ℕ → Bool
is_number s = leb s 4095

-- n steps forward from a
abbrev pub forward : ℕ → ℕ → ℕ
forward a n = (a + n) % size

abbrev pub next : ℕ → ℕ
next a = forward a 1

-- how many steps forward lead from a to b, which is b minus a modulo 4,096: 0 to 4,095
abbrev pub steps : ℕ → ℕ → ℕ
steps a b = (b + (size - a % size)) % size

-- a number of steps from 0 to 4,095, taken in -2,048 to 2,047: the upper half counts back from where it started
abbrev pub signed : ℕ → ℤ
signed n = cond (ltb n half) (pos n) (sub_ℕ n size)

-- the distance from a to b: of all numbers that lead from a to b round the ring, the one from -2,048 to 2,047
unfoldable pub distance : ℕ → ℕ → ℤ
distance a b = signed (steps a b)

-- where a step leads: ahead by 1 to the reach, behind by 0 to the reach, or farther than the reach either way
pub data Side : Type 0 where
  Ahead : ℕ → Side
  Behind : ℕ → Side
  Far : Side

-- the two tests by which code tells the three apart
abbrev pub is_far : Side → Bool
is_far (Ahead d) = false
is_far (Behind d) = false
is_far Far = true

abbrev pub is_ahead : Side → Bool
is_ahead (Ahead d) = true
is_ahead (Behind d) = false
is_ahead Far = false

-- the side to which a distance leads. (`negsuc n` is minus `suc n`.)
unfoldable pub side : ℕ → ℤ → Side
side reach (pos zero) = Behind 0
side reach (pos (suc n)) = cond (ltb n reach) (Ahead (suc n)) Far
side reach (negsuc n) = cond (ltb n reach) (Behind (suc n)) Far

-- where s lies as seen from c
abbrev pub seen : ℕ → ℕ → ℕ → Side
seen reach c s = side reach (distance c s)

-- k numbers of the ring, from its number s on
abbrev pub rising : ℕ → ℕ → List ℕ
rising s zero = []
rising s (suc k) = s ∷ rising (next s) k
