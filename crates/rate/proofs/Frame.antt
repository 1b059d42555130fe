-- A written frame by its parts: how long each is, and the frame as the runs that the writer lays one behind the other.
-- Assumes nothing but that an address has six octets and that there are at most two bands.
use mathlib.Core.Path.{◌≡◌, refl, ◌∙◌, sym, ap}
use mathlib.Core.List.{List, [], ◌∷◌, ◌++◌, append_assoc}
use Prim.Native.Nat.{ℕ, ◌+◌, ◌*◌, ◌-◌, ◌≤◌}
use native.Mathlib.Omega.{arith}
use lib.ListN.{length, take, replicate, length-append, length-replicate, replicate-append-replicate}
use lib.Seq.{length-take-le}
use Rattle.wire.specs.Laying.{over, Lays}
use Rattle.wire.proofs.Over.{over_start}
use Rattle.wire.proofs.Laid.{Laid, laid_nothing, laid_more}
use Rattle.rate.specs.declared.Request.{Request}
use Rattle.rate.specs.Writing.{fixed_part, band_part, header_for, frame_for, Frames}

-- the octets of one band, and of two
pub one_band : (q : Request) → q.bands ≡ 1 → band_part q ≡ q.pe1 ∷ q.rank1 ∷ []
unfolding band_part
one_band q e = ap (λ (n : ℕ). take (2 * n) (q.pe1 ∷ q.rank1 ∷ q.pe2 ∷ q.rank2 ∷ [])) e

pub two_bands_law : (q : Request) → q.bands ≡ 2 → band_part q ≡ q.pe1 ∷ q.rank1 ∷ q.pe2 ∷ q.rank2 ∷ []
unfolding band_part
two_bands_law q e = ap (λ (n : ℕ). take (2 * n) (q.pe1 ∷ q.rank1 ∷ q.pe2 ∷ q.rank2 ∷ [])) e

module _ (q : Request) (a : List ℕ) (d6 : length q.destination ≡ 6) (s6 : length q.source ≡ 6) (two : q.bands ≤ 2) where
  pub length_bands : length (band_part q) ≡ 2 * q.bands
  unfolding band_part
  length_bands = length-take-le (2 * q.bands) (q.pe1 ∷ q.rank1 ∷ q.pe2 ∷ q.rank2 ∷ []) (omega arith)

  pub length_fixed : length (fixed_part q a) ≡ 8
  unfolding fixed_part
  length_fixed = refl

  pub length_header : length (header_for q a) ≡ 22 + 2 * q.bands + length a
  unfolding header_for
  length_header = simp (length-append, d6, s6, length_bands, length_fixed) (omega arith)

  pub length_frame : length (frame_for q a) ≡ (22 + 2 * q.bands + length a) + (60 - (22 + 2 * q.bands + length a))
  unfolding frame_for
  length_frame = simp (length-append, length-replicate {A = ℕ}, length_header)

  -- what the writer lays before the last zeros
  abbrev pub laid_part : List ℕ
  laid_part = q.destination ++ q.source ++ fixed_part q a ++ band_part q ++ a

  pub length_laid : length laid_part ≡ 20 + 2 * q.bands + length a
  length_laid = simp (length-append, d6, s6, length_bands, length_fixed) (omega arith)

  laid_frame : (zeros : ℕ) → zeros ≡ 2 + (60 - length (header_for q a)) → laid_part ++ replicate zeros 0 ≡ frame_for q a
  unfolding header_for frame_for
  laid_frame zeros e =
      let pad : ℕ = 60 - length (header_for q a) in
      let next : replicate {A = ℕ} zeros 0 ≡ (0 ∷ 0 ∷ []) ++ replicate pad 0 = ap (λ (k : ℕ). replicate {A = ℕ} k 0) e ∙ sym (replicate-append-replicate 2 pad 0) in
      ap (λ (l : List ℕ). laid_part ++ l) next ∙ simp append_assoc

  module _ (out : List ℕ) (room : length (frame_for q a) ≤ length out) where
    fits : 22 + 2 * q.bands + length a ≤ length out
    fits = omega (arith, length_frame)

    -- the five runs of the header that come before Next Ethertype
    pub laid_header : {o₁ o₂ o₃ o₄ o₅ : List ℕ} {n₁ n₂ n₃ n₄ n₅ : ℕ} → Lays 0 q.destination out o₁ n₁ → Lays n₁ q.source o₁ o₂ n₂ → Lays n₂ (fixed_part q a) o₂ o₃ n₃
        → Lays n₃ (band_part q) o₃ o₄ n₄ → Lays n₄ a o₄ o₅ n₅ → Laid out o₅ n₅ laid_part
    laid_header {n₁ = n₁} {n₂} {n₃} {n₄} l₁ l₂ l₃ l₄ l₅ =
        let room₀ = fits in
        let eight = length_fixed in
        let bands = length_bands in
        let m₁ = laid_more q.destination (laid_nothing out) (omega arith) l₁ in
        let e₁ : n₁ ≡ 6 = m₁.end ∙ d6 in
        let m₂ = laid_more q.source m₁ (omega arith) l₂ in
        let e₂ : n₂ ≡ 12 = m₂.end ∙ simp (length-append, d6, s6) in
        let m₃ = laid_more (fixed_part q a) m₂ (omega arith) l₃ in
        let e₃ : n₃ ≡ 20 = m₃.end ∙ simp (length-append, d6, s6, length_fixed) in
        let m₄ = laid_more (band_part q) m₃ (omega arith) l₄ in
        let e₄ : n₄ ≡ 20 + 2 * q.bands = m₄.end ∙ simp (length-append, d6, s6, length_fixed, length_bands) in
        laid_more a m₄ (omega arith) l₅

    -- and the zeros: Next Ethertype and the padding
    pub laid_all : {o₅ o₆ : List ℕ} {n₅ n₆ zeros : ℕ} → Laid out o₅ n₅ laid_part → zeros ≡ length (frame_for q a) - n₅ → Lays n₅ (replicate zeros 0) o₅ o₆ n₆
        → Frames q a out o₆ n₆
    laid_all {n₅ = n₅} {zeros = zeros} l e z =
        let all = length_frame in
        let header = length_header in
        let end : n₅ ≡ 20 + 2 * q.bands + length a = l.end ∙ length_laid in
        let count : length (replicate {A = ℕ} zeros 0) ≡ zeros = length-replicate zeros 0 in
        let rest : zeros ≡ 2 + (60 - length (header_for q a)) = omega arith in
        let m = laid_more (replicate zeros 0) l (omega arith) z in
        let frame : laid_part ++ replicate zeros 0 ≡ frame_for q a = laid_frame zeros rest in
        record {
          count = m.end ∙ ap length frame;
          output = m.done ∙ (ap (λ (x : List ℕ). over out 0 x) frame ∙ over_start out (frame_for q a));
        }
