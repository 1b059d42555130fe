-- The distance and the side at the edges, worked out: at 0, at 64 and 65 either way, at half the ring and at both its ends. And steps round the ring's end.
-- Document 01, 'Numbers in a ring of 4,096', 'Where to use each form', the line on the signed distance, and 'Runs at the edges' (C = 10).
use Prim.Native.Nat.{ℕ}
use mathlib.Core.Path.{◌≡◌, refl}
use mathlib.Core.Bool.{true, false}
use mathlib.Core.List.{List, [], ◌∷◌, map}
use lib.IntN.{ℤ, pos, neg_ℤ}
use Rattle.ring.specs.Ring.{is_number, forward, next, steps, distance, side, seen, Side, Ahead, Behind, Far, is_far, is_ahead, rising}

-- from one number to another: how far apart, and on which side by the reach of 64
pub record Case : Type 0 where
  pub from : ℕ
  pub to : ℕ
  pub apart : ℤ
  pub lies : Side

abbrev row : ℕ → ℕ → ℤ → Side → Case
row a b d x = record { from = a; to = b; apart = d; lies = x }

abbrev plus : ℕ → ℤ
plus n = pos n

abbrev minus : ℕ → ℤ
minus n = neg_ℤ (pos n)

abbrev pub cases : List Case
cases =
    -- from the first number
    row 0 0 (plus 0) (Behind 0) ∷
    row 0 1 (plus 1) (Ahead 1) ∷
    row 0 64 (plus 64) (Ahead 64) ∷
    row 0 65 (plus 65) Far ∷
    row 0 2047 (plus 2047) Far ∷
    row 0 2048 (minus 2048) Far ∷
    row 0 2049 (minus 2047) Far ∷
    row 0 4031 (minus 65) Far ∷
    row 0 4032 (minus 64) (Behind 64) ∷
    row 0 4095 (minus 1) (Behind 1) ∷
    -- from the last number
    row 4095 4095 (plus 0) (Behind 0) ∷
    row 4095 0 (plus 1) (Ahead 1) ∷
    row 4095 63 (plus 64) (Ahead 64) ∷
    row 4095 64 (plus 65) Far ∷
    row 4095 2046 (plus 2047) Far ∷
    row 4095 2047 (minus 2048) Far ∷
    row 4095 4030 (minus 65) Far ∷
    row 4095 4031 (minus 64) (Behind 64) ∷
    row 4095 4094 (minus 1) (Behind 1) ∷
    -- from 10, as in document 01's runs
    row 10 10 (plus 0) (Behind 0) ∷
    row 10 12 (plus 2) (Ahead 2) ∷
    row 10 74 (plus 64) (Ahead 64) ∷
    row 10 75 (plus 65) Far ∷
    row 10 4042 (minus 64) (Behind 64) ∷
    row 10 4041 (minus 65) Far ∷
    -- numbers past the ring stand for their remainders: 4,096 for 0, and 65,535 for 4,095
    row 4096 0 (plus 0) (Behind 0) ∷
    row 65535 4096 (plus 1) (Ahead 1) ∷
    row 4096 65535 (minus 1) (Behind 1) ∷
    []

-- a case with its distance and side worked out anew
abbrev pub worked : Case → Case
worked c = row c.from c.to (distance c.from c.to) (seen 64 c.from c.to)

pub cases_hold : map worked cases ≡ cases
unfolding distance side
cases_hold = refl

-- the first and the last number of the ring, and the one after
pub numbers : (is_number 0 ≡ true) × (is_number 4095 ≡ true) × (is_number 4096 ≡ false)
numbers = (refl, refl, refl)

-- past 4,095 comes 0; a whole round leads back
pub goes_round :
    (next 0 ≡ 1) × (next 4095 ≡ 0) × (forward 10 64 ≡ 74) × (forward 4095 1 ≡ 0) × (forward 4090 10 ≡ 4) × (forward 7 4096 ≡ 7) × (forward 4096 1 ≡ 1)
goes_round = (refl, refl, refl, refl, refl, refl, refl)

pub steps_on : (steps 7 7 ≡ 0) × (steps 7 8 ≡ 1) × (steps 8 7 ≡ 4095) × (steps 4095 0 ≡ 1) × (steps 0 4095 ≡ 4095) × (steps 4097 8193 ≡ 0)
steps_on = (refl, refl, refl, refl, refl, refl)

pub rises_round : (rising 4094 4 ≡ 4094 ∷ 4095 ∷ 0 ∷ 1 ∷ []) × (rising 5 0 ≡ [])
rises_round = (refl, refl)

-- the two tests on each side
pub tests_tell :
    (is_far (Ahead 1) ≡ false) × (is_far (Behind 0) ≡ false) × (is_far Far ≡ true) × (is_ahead (Ahead 1) ≡ true) × (is_ahead (Behind 0) ≡ false) × (is_ahead Far ≡ false)
tests_tell = (refl, refl, refl, refl, refl, refl)
