-- Laws of big-endian numbers, over any width: one octet more, past the end, put together from two parts, and read and spelled there and back.
-- Assumes nothing.
use mathlib.Core.Path.{◌≡◌, refl, ◌∙◌, ap}
use mathlib.Core.List.{List, [], ◌∷◌, ◌++◌}
use Prim.Native.Nat.{ℕ, zero, suc, ◌+◌, ◌*◌, ◌/◌, ◌%◌, ◌^◌, ◌≤◌, ◌<◌}
use native.Mathlib.Nat.{add-zero, add-suc, add_assoc, mul-one, mul_assoc, add-mul, pow-suc, pow-le-pow_right, div-add-mod', div-lt_iff_lt-mul}
use Rattle.std.proofs.Common.{add-one}
use native.Mathlib.Omega.{arith}
use lib.Arith.{digits_div, digits_mod}
use lib.Dec.{lit<}
use lib.ListN.{length, take, drop, length-append, length-drop, get_or-eq_default}
use lib.Seq.{append_snoc, take-suc, get_or-drop, get_or-append-add, get_or_at}
use Rattle.wire.specs.Octets.{octet_at}
use Rattle.session.specs.Numbers.{number_at, spelled}

-- a number in one octet more
pub number_more : (s : List ℕ) (at i : ℕ) → number_at s at (i + 1) ≡ number_at s at i * 256 + octet_at s (at + i)
unfolding number_at
number_more s at i = rw add-one

pub number_one : (s : List ℕ) (at : ℕ) → number_at s at 1 ≡ octet_at s at
unfolding number_at
number_one s at = let e : octet_at s (at + 0) ≡ octet_at s at = ap (λ (k : ℕ). octet_at s k) (add-zero at) in omega arith

-- before its last octet a number of up to eight has room for one more in 64 bits
pub seven_most : (i : ℕ) → i < 8 → 256 ^ i ≤ 2 ^ 56
seven_most i few = pow-le-pow_right {n = 256} (omega arith) {i = i} {j = 7} (omega arith)

pub number_past_end : (s : List ℕ) (at w : ℕ) → length s ≤ at → number_at s at w ≡ 0
unfolding number_at
number_past_end s at zero h = refl
number_past_end s at (suc w) h =
    let past : length s ≤ at + w = omega arith in
    let e : octet_at s (at + w) ≡ 0 = get_or-eq_default s 0 past in
    let n = number_past_end s at w h in
    omega arith

-- one octet more than two parts have: the number of both goes up by a factor of 256
one_more : (a p b o : ℕ) → (a * p + b) * 256 + o ≡ a * (p * 256) + (b * 256 + o)
one_more a p b o = rw (add-mul, mul_assoc, add_assoc)

-- a number in two parts: the first counts 256 ^ n for n octets behind it
pub number_joined : (s : List ℕ) (at m n : ℕ) → number_at s at (m + n) ≡ number_at s at m * 256 ^ n + number_at s (at + m) n
unfolding number_at
number_joined s at m zero = rw (add-zero m, mul-one, add-zero)
number_joined s at m (suc n) =
    rw (add-suc, pow-suc, number_joined s at m n, add_assoc at m n)
    (one_more (number_at s at m) (256 ^ n) (number_at s (at + m) n) (octet_at s (at + (m + n))))

pub length_spelled : (w n : ℕ) → length (spelled w n) ≡ w
unfolding spelled
length_spelled zero n = refl
length_spelled (suc w) n =
    let e = length_spelled w (n / 256) in
    let j = length-append (spelled w (n / 256)) (n % 256 ∷ []) in
    omega arith

-- what is spelled behind other octets reads as the number, if so many octets can hold it
pub number_spelled : (w n : ℕ) (before after : List ℕ) → n < 256 ^ w → number_at (before ++ (spelled w n ++ after)) (length before) w ≡ n
unfolding number_at spelled
number_spelled zero n before after h = let e : n < 1 = h in omega arith
number_spelled (suc w) n before after h =
    let high : List ℕ = spelled w (n / 256) in
    let octets : List ℕ = before ++ (spelled (suc w) n ++ after) in
    let whole : List ℕ = before ++ (high ++ n % 256 ∷ after) in
    let same : octets ≡ whole = ap (λ (l : List ℕ). before ++ l) (append_snoc high (n % 256) after) in
    let fits : n / 256 < 256 ^ w = (div-lt_iff_lt-mul (lit< tt)).1 (rw pow-suc at h) in
    let first : number_at octets (length before) w ≡ n / 256 =
    ap (λ (l : List ℕ). number_at l (length before) w) same ∙ number_spelled w (n / 256) before (n % 256 ∷ after) fits in
    let last : octet_at octets (length before + w) ≡ n % 256 =
    ap (λ (l : List ℕ). octet_at l (length before + w)) same
    ∙ (get_or-append-add before (high ++ n % 256 ∷ after) w 0 ∙ get_or_at high (n % 256) after 0 w (length_spelled w (n / 256))) in
    omega (arith, div-add-mod' n 256)

-- octets read as a number, and spelled again, are the same octets
pub spelled_number : (s : List ℕ) (at w : ℕ) → ((k : ℕ) → octet_at s k < 256) → at + w ≤ length s → spelled w (number_at s at w) ≡ take w (drop at s)
unfolding number_at spelled
spelled_number s at zero bytes h = refl
spelled_number s at (suc w) bytes h =
    let lies : w < length (drop at s) = omega (arith, length-drop at s) in
    let before = spelled_number s at w bytes (omega arith) in
    rw (
      digits_div (number_at s at w) (bytes (at + w)),
      digits_mod (number_at s at w) (bytes (at + w)),
      take-suc (drop at s) w 0 lies,
      get_or-drop at s w 0,
      before,
    )
