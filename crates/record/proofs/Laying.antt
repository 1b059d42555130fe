-- Lists laid into a buffer by stores one after the other: what a loop that lays one entry a turn leaves, and how it reads at the front.
-- Assumes nothing.
use Prim.Native.Nat.{ℕ, suc, ◌+◌, ◌≤◌, ◌<◌}
use mathlib.Core.Path.{◌≡◌, refl, ap, ap₂, ◌∙◌}
use mathlib.Core.List.{List, [], ◌∷◌, ◌++◌}
use native.Mathlib.Omega.{arith}
use native.Mathlib.Nat.{zero-add, add-zero}
use native.Mathlib.Numerals.{add-one}
use lib.ListN.{length, set, drop, length-append}
use lib.Seq.{sets, sets-eq, length-sets}
use Rattle.record.specs.Buffers.{Wrote, Laid}

-- one entry more: a turn's store
pub sets_more : (l : List ℕ) (at v : ℕ) (x : List ℕ) → sets (set l at v) (at + 1) x ≡ sets l at (v ∷ x)
sets_more l at v x = ap (λ (i : ℕ). sets (set l at v) i x) (add-one at)

-- one list after the other
pub sets_sets : (x y l : List ℕ) (at : ℕ) → sets (sets l at x) (at + length x) y ≡ sets l at (x ++ y)
sets_sets [] y l at = ap (λ (i : ℕ). sets l i y) (add-zero at)
sets_sets (v ∷ x) y l at =
    let e : at + suc (length x) ≡ suc at + length x = omega arith in
    ap (λ (i : ℕ). sets (sets (set l at v) (suc at) x) i y) e ∙ sets_sets x y (set l at v) (suc at)

pub laid_length : {x before after : List ℕ} {at end : ℕ} → Laid x at before after end → length after ≡ length before
laid_length {x} {before} {after} {at} p = ap length p.buffer ∙ length-sets before at x

pub laid_laid : {x y before between after : List ℕ} {at mid end : ℕ} → Laid x at before between mid → Laid y mid between after end
    → Laid (x ++ y) at before after end
laid_laid {x} {y} {before} {between} {after} {at} {mid} {end} p q =
    record {
      end_is = q.end_is ∙ ap (λ (i : ℕ). i + length y) p.end_is ∙ omega (arith, length-append x y);
      buffer = q.buffer ∙ ap₂ (λ (l : List ℕ) (i : ℕ). sets l i y) p.buffer p.end_is ∙ sets_sets x y before at;
    }

-- what was laid from the front is what a call wrote
pub wrote_front : {x before after : List ℕ} {end : ℕ} → Laid x 0 before after end → length x ≤ length before → Wrote x before after end
wrote_front {x} {before} {after} {end} p h =
    let e = zero-add (length x) in
    record {
      count = p.end_is ∙ e;
      buffer = p.buffer ∙ sets-eq x before 0 (rw e h) ∙ ap (λ (n : ℕ). x ++ drop n before) e;
    }

pub wrote_none : (l : List ℕ) → Wrote [] l l 0
wrote_none l = record { count = refl; buffer = refl }

pub wrote_one : (l : List ℕ) (v : ℕ) → 0 < length l → Wrote (v ∷ []) l (set l 0 v) 1
wrote_one [] v h = absurd (let z : ⊥ = omega arith in z)
wrote_one (x ∷ l) v h = record { count = refl; buffer = refl }

-- a list that went to no buffer is empty, and any buffer stays as it is
pub wrote_idle : (x l : List ℕ) (n : ℕ) → Wrote x [] [] n → Wrote x l l n
wrote_idle [] l n p = record { count = p.count; buffer = refl }
wrote_idle (y ∷ x) l n p = absurd (let z : ◌≡◌ {A = ℕ} 0 1 = cc p.buffer in let y : ⊥ = omega arith in y)
