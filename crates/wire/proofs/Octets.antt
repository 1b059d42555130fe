-- Octets of lists that are put together from parts: behind a part, an address at the front and behind another, and a part read octet by octet.
-- Assumes nothing.
use mathlib.Core.Path.{◌≡◌, refl, ◌∙◌, sym, ap}
use mathlib.Core.Bool.{Bool, true, false, cond}
use mathlib.Core.List.{List, [], ◌∷◌, ◌++◌}
use Prim.Native.Nat.{ℕ, zero, suc, ◌+◌, ◌≤◌, ◌<◌}
use native.Mathlib.Omega.{arith}
use lib.ListN.{length, take, drop, length-append}
use lib.Seq.{get_or-append-add, drop-cons}
use Rattle.wire.specs.Octets.{octet_at, within, six_from, six_at}
use Rattle.wire.proofs.Within.{le_within}

-- an octet behind a part of n octets
pub octet_behind : (part rest : List ℕ) (n k : ℕ) → length part ≡ n → octet_at (part ++ rest) (n + k) ≡ octet_at rest k
octet_behind part rest n k e = ap (λ (m : ℕ). octet_at (part ++ rest) (m + k)) (sym e) ∙ get_or-append-add part rest k 0

six_list : (address rest : List ℕ) → length address ≡ 6 → six_from (address ++ rest) 0 ≡ address
six_list [] rest h = absurd (omega arith)
six_list (a ∷ []) rest h = absurd (omega arith)
six_list (a ∷ b ∷ []) rest h = absurd (omega arith)
six_list (a ∷ b ∷ c ∷ []) rest h = absurd (omega arith)
six_list (a ∷ b ∷ c ∷ d ∷ []) rest h = absurd (omega arith)
six_list (a ∷ b ∷ c ∷ d ∷ e ∷ []) rest h = absurd (omega arith)
six_list (a ∷ b ∷ c ∷ d ∷ e ∷ f ∷ []) rest h = refl
six_list (a ∷ b ∷ c ∷ d ∷ e ∷ f ∷ g ∷ l) rest h = absurd (omega arith)

pub six_within : (s : List ℕ) (at : ℕ) → at + 6 ≤ length s → six_at s at ≡ six_from s at
unfolding six_at
six_within s at h = let w : within s at 6 ≡ true = le_within s at 6 h in simp w

pub length_six : (s : List ℕ) (at : ℕ) → length (six_at s at) ≡ 6
unfolding six_at
length_six s at = by_test (within s at 6)
  where
    by_test : (w : Bool) → length (cond w (six_from s at) (0 ∷ 0 ∷ 0 ∷ 0 ∷ 0 ∷ 0 ∷ [])) ≡ 6
    by_test true = refl
    by_test false = refl

pub six_front : (address rest : List ℕ) → length address ≡ 6 → six_at (address ++ rest) 0 ≡ address
six_front address rest h =
    let l : 0 + 6 ≤ length (address ++ rest) = omega (arith, length-append address rest) in
    six_within (address ++ rest) 0 l ∙ six_list address rest h

pub six_behind : (part address rest : List ℕ) → length part ≡ 6 → length address ≡ 6 → six_at (part ++ (address ++ rest)) 6 ≡ address
six_behind part address rest h h' =
    let tail : List ℕ = address ++ rest in
    let l : 6 + 6 ≤ length (part ++ tail) = omega (arith, length-append part tail, length-append address rest) in
    six_within (part ++ tail) 6 l
    ∙ (simp (
      octet_behind part tail 6 0 h,
      octet_behind part tail 6 1 h,
      octet_behind part tail 6 2 h,
      octet_behind part tail 6 3 h,
      octet_behind part tail 6 4 h,
      octet_behind part tail 6 5 h,
    )
    (six_list address rest h'))

-- n octets from a place on, one by one
abbrev pub octets_from : ℕ → ℕ → List ℕ → List ℕ
octets_from zero at s = []
octets_from (suc n) at s = octet_at s at ∷ octets_from n (suc at) s

pub take_octets : (n at : ℕ) (s : List ℕ) → at + n ≤ length s → take n (drop at s) ≡ octets_from n at s
take_octets zero at s h = refl
take_octets (suc n) at s h =
    let l : at < length s = omega arith in
    let h' : suc at + n ≤ length s = omega arith in
    rw (drop-cons s at 0 l) (ap (λ (r : List ℕ). octet_at s at ∷ r) (take_octets n (suc at) s h'))
