-- Nack: what is asked for again is a run of rising numbers that this call made missing: none that the same call gave up, and each still missing.
-- Demand 2; document 01, 'Data', and the fourth slip of an earlier box.
use Prim.Native.Nat.{ℕ, zero, suc, ◌+◌, ◌-◌, ◌≤◌, ◌<◌}
use mathlib.Core.Path.{◌≡◌, refl, ap, sym, ◌∙◌}
use mathlib.Core.Bool.{Bool}
use mathlib.Core.List.{List, ◌∷◌}
use native.Mathlib.Omega.{arith}
use native.Mathlib.Decide.{dec_lt}
use lib.ListN.{length, length-append, length-replicate, length-drop}
use lib.Dec.{ltb}
use borrow.Author.Tests.{lt-ltb, le-ltb}
use Rattle.ring.specs.Ring.{size, forward, next, steps, rising}
use Rattle.ring.proofs.Steps.{forward_forward, steps_forward}
use Rattle.larq.specs.Channel.{Cell, Channel}
use Rattle.larq.specs.Settling.{Walked}
use Rattle.larq.specs.Events.{those, asked, grown}
use Rattle.larq.proofs.Walk.{Passed}
use Rattle.larq.proofs.Sound.{Joined}

next_forward : (m i : ℕ) → next (forward m i) ≡ forward m (suc i)
next_forward m i = omega arith

-- the place of the i-th number from m on, seen from the `by`-th
seen_inside : (m by i : ℕ) → by ≤ i → i < size → steps (forward m by) (forward m i) ≡ i - by
seen_inside m by i l h =
    ap (steps (forward m by)) (ap (forward m) (omega arith) ∙ sym (forward_forward m by (i - by))) ∙ steps_forward (forward m by) (i - by) (omega arith)

seen_outside : (m by i : ℕ) → i < by → by ≤ size → size - (by - i) ≤ steps (forward m by) (forward m i)
seen_outside m by i l h = omega arith

-- of the numbers from the i-th on, those in the window from the `by`-th to the end
module _ (m by total : ℕ) (in_ring_law : total < size) (most : by ≤ total) where
  abbrev stays_in_window : ℕ → Bool
  stays_in_window n = ltb (steps (forward m by) n) (total - by)

  all_kept : (k i : ℕ) → by ≤ i → i + k ≤ total → those stays_in_window (rising (forward m i) k) ≡ rising (forward m i) k
  all_kept zero i l h = refl
  all_kept (suc k) i l h =
      rw (seen_inside m by i l (omega arith), lt-ltb (i - by) (total - by) (omega arith), next_forward m i) (ap (λ r. forward m i ∷ r) (all_kept k (suc i) (omega arith) (omega arith)))

  first_dropped : (k i : ℕ) → i ≤ by → i + k ≤ total → those stays_in_window (rising (forward m i) k) ≡ rising (forward m by) (k - (by - i))
  first_dropped zero i l h = let e : 0 ≡ 0 - (by - i) = omega arith in ap (rising (forward m by)) e
  first_dropped (suc k) i l h = go (dec_lt i by) (λ p. first_dropped k (suc i) p (omega arith))
    where
      far_off : size - (by - i) ≤ steps (forward m by) (forward m i) → total - by ≤ steps (forward m by) (forward m i)
      far_off q = omega arith

      go : Dec (i < by) → (i < by → those stays_in_window (rising (forward m (suc i)) k) ≡ rising (forward m by) (k - (by - suc i)))
          → those stays_in_window (rising (forward m i) (suc k)) ≡ rising (forward m by) (suc k - (by - i))
      go (yes p) ih =
          rw (le-ltb (steps (forward m by) (forward m i)) (total - by) (far_off (seen_outside m by i p (omega arith))), next_forward m i)
          (let e : k - (by - suc i) ≡ suc k - (by - i) = omega arith in ih p ∙ ap (rising (forward m by)) e)
      go (no p) ih =
          let e : i ≡ by = omega arith in
          let f : suc k - (by - by) ≡ suc k = omega arith in
          rw (e, f) (all_kept (suc k) by (omega arith) (omega arith))

-- NACK, where M passes `by` numbers of the grown window: the numbers made missing past those that M passed
module _ {H : Type 0} (c : Channel H) (t k : ℕ) (last : List (Cell H)) (p : Walked H) (joined : Joined c) (in_ring_law : length (grown c t k last) < size)
    (r : Passed c.oldest (grown c t k last) p) where
  -- how many of the numbers made missing by this call it gave up itself
  abbrev pub given_up : ℕ
  given_up = r.by - length c.cells

  grown_length : length (grown c t k last) ≡ length c.cells + (k + length last)
  grown_length = simp (length-append, length-replicate)

  pub asked_rising : asked c k p ≡ rising (forward (next c.current) given_up) (k - given_up)
  unfolding asked
  asked_rising =
      ap (λ (span : ℕ). those (λ (n : ℕ). ltb (steps p.oldest n) span) (rising (next c.current) k)) (ap length r.cells ∙ length-drop r.by (grown c t k last))
      ∙ ap (λ (m : ℕ). those (λ (n : ℕ). ltb (steps m n) (length (grown c t k last) - r.by)) (rising (next c.current) k)) r.oldest
      ∙ ap (λ (s : ℕ). those (λ (n : ℕ). ltb (steps (forward c.oldest r.by) n) (length (grown c t k last) - r.by)) (rising s k)) (sym joined)
      ∙ go (dec_lt r.by (length c.cells))
    where
      go : Dec (r.by < length c.cells)
          → those (λ (n : ℕ). ltb (steps (forward c.oldest r.by) n) (length (grown c t k last) - r.by)) (rising (forward c.oldest (length c.cells)) k)
          ≡ rising (forward (next c.current) given_up) (k - given_up)
      go (yes q) =
          all_kept c.oldest r.by (length (grown c t k last)) in_ring_law r.most k (length c.cells) (omega arith) (omega (arith, grown_length))
          ∙ none_given r.by (length c.cells) q
        where
          none_given : (by n : ℕ) → by < n → rising (forward c.oldest (length c.cells)) k ≡ rising (forward (next c.current) (by - n)) (k - (by - n))
          none_given by n q =
              let e : by - n ≡ 0 = omega arith in
              let f : next c.current ≡ forward (next c.current) 0 = omega arith in
              let g : k ≡ k - 0 = omega arith in
              rw (e, ← f, ← g) (ap (λ (s : ℕ). rising s k) joined)
      go (no q) =
          first_dropped c.oldest r.by (length (grown c t k last)) in_ring_law r.most k (length c.cells) (omega arith) (omega (arith, grown_length))
          ∙ ap (λ (s : ℕ). rising s (k - given_up))
          (ap (forward c.oldest) (omega arith) ∙ sym (forward_forward c.oldest (length c.cells) given_up) ∙ ap (λ (a : ℕ). forward a given_up) joined)
