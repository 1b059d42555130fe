-- Slots that are put to one value, number by number: which slots that reaches, and the turns of the loop that makes numbers missing.
-- Assumes nothing.
use Prim.Native.Nat.{ℕ, zero, suc, ◌+◌, ◌-◌, ◌≤◌, ◌<◌}
use mathlib.Core.Path.{◌≡◌, refl, ap, sym, ◌∙◌}
use mathlib.Core.Bool.{Bool, true, false}
use mathlib.Core.List.{List, ◌∷◌}
use native.Mathlib.Omega.{arith}
use lib.Dec.{eqb}
use lib.ListN.{length, set}
use lib.Seq.{sets}
use borrow.Author.Tests.{eqb-true, eqb-false}
use Rattle.ring.specs.Ring.{next, rising}
use Rattle.slots.specs.Slots.{slot_of, with_time, with_missing}
use Rattle.slots.proofs.Stores.{Stores}
use Rattle.stepping.specs.Step.{stamped, times_missing, marks_missing, Missed}
use Rattle.record.proofs.Rounds.{slot_none, slot_next}
use Rattle.record.proofs.Laying.{sets_more}

module _ {A : Type 0} {put : List ℕ → ℕ → List ℕ} {get : List ℕ → ℕ → A} {v : A} {room : ℕ} (stores : Stores put get v room) where
  pub length_stamped : (l : List ℕ) (m n : ℕ) → length (stamped put l m n) ≡ length l
  unfolding stamped
  length_stamped l m zero = refl
  length_stamped l m (suc n) = length_stamped (put l (slot_of m)) (next m) n ∙ stores.sized l (slot_of m)

  -- a slot that has the value keeps it
  stamped_keeps : (l : List ℕ) (m n i : ℕ) → room ≤ length l → get l i ≡ v → get (stamped put l m n) i ≡ v
  unfolding stamped
  stamped_keeps l m zero i s e = e
  stamped_keeps l m (suc n) i s e =
      stamped_keeps (put l (slot_of m)) (next m) n i (rw (stores.sized l (slot_of m)) s) (by_slot (eqb i (slot_of m)) refl)
    where
      by_slot : (t : Bool) → eqb i (slot_of m) ≡ t → get (put l (slot_of m)) i ≡ v
      by_slot true p = rw (eqb-true i (slot_of m) p) (stores.here l (slot_of m) s (omega arith))
      by_slot false p = stores.beside l (slot_of m) i (eqb-false i (slot_of m) p) ∙ e

  pub stamped_in : (l : List ℕ) (m n q : ℕ) → room ≤ length l → q < n → get (stamped put l m n) (slot_of (m + q)) ≡ v
  unfolding stamped
  stamped_in l m zero q s h = absurd (let z : ⊥ = omega arith in z)
  stamped_in l m (suc n) zero s h =
      rw (← slot_none m)
      (stamped_keeps (put l (slot_of m)) (next m) n (slot_of m) (rw (stores.sized l (slot_of m)) s) (stores.here l (slot_of m) s (omega arith)))
  stamped_in l m (suc n) (suc q) s h =
      ap (λ i. get (stamped put (put l (slot_of m)) (next m) n) i) (sym (slot_next m q))
      ∙ stamped_in (put l (slot_of m)) (next m) n q (rw (stores.sized l (slot_of m)) s) (omega arith)

  pub stamped_out : (l : List ℕ) (m n i : ℕ) → ((q : ℕ) → q < n → slot_of (m + q) ≡ i → ⊥) → get (stamped put l m n) i ≡ get l i
  unfolding stamped
  stamped_out l m zero i h = refl
  stamped_out l m (suc n) i h =
      stamped_out (put l (slot_of m)) (next m) n i (λ q p e. h (suc q) (omega arith) (sym (slot_next m q) ∙ e))
      ∙ stores.beside l (slot_of m) i (λ e. h 0 (omega arith) (sym (slot_none m) ∙ sym e))

-- A loop over n numbers, at its j-th: what is left of them there.
module _ (put : List ℕ → ℕ → List ℕ) where
  stamped_none : (l : List ℕ) (m n : ℕ) → n ≡ 0 → stamped put l m n ≡ l
  unfolding stamped
  stamped_none l m n e = ap (λ (n : ℕ). stamped put l m n) e

  stamped_rest : (l : List ℕ) (m n j : ℕ) → j < n → stamped put l m (n - j) ≡ stamped put (put l (slot_of m)) (next m) (n - (j + 1))
  unfolding stamped
  stamped_rest l m n j p = ap (λ (n : ℕ). stamped put l m n) (let e : n - j ≡ suc (n - (j + 1)) = omega arith in e)

rising_rest : (m n j : ℕ) → j < n → rising m (n - j) ≡ m ∷ rising (next m) (n - (j + 1))
rising_rest m n j p = ap (rising m) (let e : n - j ≡ suc (n - (j + 1)) = omega arith in e)

-- What the loop keeps at its j-th number i: what is still to be put from here is what was to be put from the start.
pub record Misses (m n time : ℕ) (w k q w' k' q' : List ℕ) (i j : ℕ) : Type 0 where
  pub words : times_missing w' i (n - j) time ≡ times_missing w m n time
  pub marks : marks_missing k' i (n - j) ≡ marks_missing k m n
  pub nack : sets q' j (rising i (n - j)) ≡ sets q 0 (rising m n)

pub misses_start : (m n time : ℕ) (w k q : List ℕ) → Misses m n time w k q w k q m 0
misses_start m n time w k q = let all : n - 0 ≡ n = omega arith in record { words = rw all refl; marks = rw all refl; nack = rw all refl }

module _ {m n time : ℕ} {w k q w' k' q' : List ℕ} {i j : ℕ} (keeps : Misses m n time w k q w' k' q' i j) where
  pub misses_end : n ≤ j → Missed m n time w k q w' k' q'
  misses_end z =
      let none : n - j ≡ 0 = omega arith in
      record {
        words = sym (stamped_none (λ w j. with_time w j time) w' i (n - j) none) ∙ keeps.words;
        marks = sym (stamped_none with_missing k' i (n - j) none) ∙ keeps.marks;
        nack = sym (ap (λ l. sets q' j (rising i l)) none) ∙ keeps.nack;
      }

  pub misses_turn : {i' : ℕ} → j < n → i' ≡ next i
      → Misses m n time w k q (with_time w' (slot_of i) time) (with_missing k' (slot_of i)) (set q' j i) i' (j + 1)
  misses_turn {i'} some step =
      rw step
      (record {
        words = sym (stamped_rest (λ w j. with_time w j time) w' i n j some) ∙ keeps.words;
        marks = sym (stamped_rest with_missing k' i n j some) ∙ keeps.marks;
        nack = sets_more q' j i (rising (next i) (n - (j + 1))) ∙ ap (sets q' j) (sym (rising_rest i n j some)) ∙ keeps.nack;
      })
