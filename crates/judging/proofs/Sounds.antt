-- When the record of a place is not broken, by its parts: document 01, 'The channel table'. Assumes nothing.
use Prim.Native.Nat.{ℕ, zero, suc, ◌-◌, ◌≤◌, ◌<◌}
use mathlib.Core.Path.{◌≡◌, refl, ap, sym, ◌∙◌}
use mathlib.Core.Bool.{Bool, true, false, cond, ◌&&◌}
use mathlib.Core.List.{List, [], ◌∷◌}
use native.Mathlib.Omega.{arith}
use lib.Dec.{eqb, leb}
use lib.ListN.{length}
use borrow.Author.Tests.{le-leb, lt-leb, leb-true, eq-eqb, eqb-true}
use Rattle.wire.proofs.Joined.{and_left, and_right}
use Rattle.ring.specs.Ring.{next, size}
use Rattle.larq.specs.Channel.{waits, missing, head_missing, times, orderly, sound, window, span_of}
use Rattle.larq.specs.Channel as channel
use Rattle.slots.specs.Slots.{slots, slot_of, place_words, current_in, oldest_in, latest_in, is_missing, time_at, handle_at}
use Rattle.record.specs.Place.{cells_from, cell_at, record_with, record_of, sound_at}
use Rattle.judging.specs.Judge.{times_of, in_ring, shapely, in_shape}
use Rattle.record.proofs.Windows.{cells_from_none, cells_from_suc, length_cells_from, cell_waits, cell_missing}

-- A test of the span, of M and of the times, by what the code finds.
module _ (c m n : ℕ) (w k : List ℕ) (span : n ≡ span_of c m) where
  shape : in_shape c m w k ≡ shapely (latest_in w) (cells_from (cell_at w [] k) m n)
  shape = ap (λ x. shapely (latest_in w) (cells_from (cell_at w [] k) m x)) (sym span)

  narrow : (n ≤ window) → shapely (latest_in w) (cells_from (cell_at w [] k) m n) ≡ (head_missing (cells_from (cell_at w [] k) m n) && orderly 0 (latest_in w) (times_of w k m n))
  narrow l = rw (length_cells_from (cell_at w [] k) m n, le-leb n window l)

  pub shape_none : n ≡ 0 → true ≡ in_shape c m w k
  shape_none z = sym (shape ∙ ap (λ cs. shapely (latest_in w) cs) (cells_from_none (cell_at w [] k) m n z))

  pub shape_wide : window < n → false ≡ in_shape c m w k
  shape_wide l = sym (shape ∙ rw (length_cells_from (cell_at w [] k) m n, lt-leb n window l))

  module _ (some : n ≡ 0 → ⊥) (fits : n ≤ window) where
    -- the window, from its first cell
    pub shape_head : is_missing k (slot_of m) ≡ false → false ≡ in_shape c m w k
    shape_head o =
        let first : cells_from (cell_at w [] k) m n ≡ waits (handle_at [] (slot_of m)) ∷ cells_from (cell_at w [] k) (next m) (n - 1) =
        cells_from_suc (cell_at w [] k) m n (omega arith) ∙ rw (cell_waits w [] k (slot_of m) o) in
        sym (shape ∙ narrow fits ∙ ap (λ cs. head_missing cs && orderly 0 (latest_in w) (times_of w k m n)) first)

    pub shape_times : is_missing k (slot_of m) ≡ true → orderly 0 (latest_in w) (times_of w k m n) ≡ in_shape c m w k
    shape_times o =
        let first : cells_from (cell_at w [] k) m n ≡ missing (time_at w (slot_of m)) ∷ cells_from (cell_at w [] k) (next m) (n - 1) =
        cells_from_suc (cell_at w [] k) m n (omega arith) ∙ rw (cell_missing w [] k (slot_of m) o) in
        sym (shape ∙ narrow fits ∙ ap (λ cs. head_missing cs && orderly 0 (latest_in w) (times_of w k m n)) first)

and_assoc : (a b c : Bool) → (a && (b && c)) ≡ ((a && b) && c)
and_assoc true b c = refl
and_assoc false b c = refl

-- The whole test, from the three that the code makes.
module _ (w k : List ℕ) where
  abbrev sizes : Bool
  sizes = eqb (length w) place_words && eqb (length k) slots

  pub sizes_of : sizes ≡ true → (length w ≡ place_words) × (length k ≡ slots)
  sizes_of e = (eqb-true (length w) place_words (and_left (eqb (length w) place_words) _ e), eqb-true (length k) slots (and_right (eqb (length w) place_words) _ e))

  pub ring_of : in_ring w ≡ true → (current_in w < size) × (oldest_in w < size)
  ring_of e =
      let c = leb-true (current_in w) 4095 (and_left (leb (current_in w) 4095) _ e) in
      let m = leb-true (oldest_in w) 4095 (and_right (leb (current_in w) 4095) _ e) in
      (omega arith, omega arith)

  pub sound_sizes : sizes ≡ false → false ≡ sound_at w k
  sound_sizes e = rw e

  pub sound_is : sound channel.window (record_of w [] k) ≡ (in_ring w && in_shape (current_in w) (oldest_in w) w k)
  unfolding sound record_with
  sound_is = and_assoc (leb (current_in w) 4095) (leb (oldest_in w) 4095) _

  pub sound_ring : in_ring w ≡ false → false ≡ sound channel.window (record_of w [] k)
  sound_ring f = sym (sound_is ∙ rw f)

  pub sound_shape : in_ring w ≡ true → in_shape (current_in w) (oldest_in w) w k ≡ sound channel.window (record_of w [] k)
  sound_shape f = sym (sound_is ∙ rw f)

  pub sound_by_sizes : length w ≡ place_words → length k ≡ slots → sound_at w k ≡ sound channel.window (record_of w [] k)
  sound_by_sizes e f = rw (eq-eqb (length w) place_words e, eq-eqb (length k) slots f)

  pub sound_ring_of : sound channel.window (record_of w [] k) ≡ true → (current_in w < size) × (oldest_in w < size)
  sound_ring_of e = ring_of (and_left (in_ring w) (in_shape (current_in w) (oldest_in w) w k) (sym sound_is ∙ e))

-- The handles have no part in whether a record is broken.
times_cells_from : (w h k : List ℕ) (m n : ℕ) → times (cells_from (cell_at w h k) m n) ≡ times (cells_from (cell_at w [] k) m n)
unfolding cells_from
times_cells_from w h k m zero = refl
times_cells_from w h k m (suc n) = by_mark (is_missing k (slot_of m)) (times_cells_from w h k (next m) n)
  where
    by_mark : (b : Bool) → times (cells_from (cell_at w h k) (next m) n) ≡ times (cells_from (cell_at w [] k) (next m) n)
        → times (cond b (missing (time_at w (slot_of m))) (waits (handle_at h (slot_of m))) ∷ cells_from (cell_at w h k) (next m) n)
        ≡ times (cond b (missing (time_at w (slot_of m))) (waits (handle_at [] (slot_of m))) ∷ cells_from (cell_at w [] k) (next m) n)
    by_mark true i = ap (λ l. time_at w (slot_of m) ∷ l) i
    by_mark false i = i

head_cells_from : (w h k : List ℕ) (m n : ℕ) → head_missing (cells_from (cell_at w h k) m n) ≡ head_missing (cells_from (cell_at w [] k) m n)
unfolding cells_from
head_cells_from w h k m zero = refl
head_cells_from w h k m (suc n) = by_mark (is_missing k (slot_of m))
  where
    by_mark : (b : Bool) → head_missing (cond b (missing (time_at w (slot_of m))) (waits (handle_at h (slot_of m))) ∷ cells_from (cell_at w h k) (next m) n)
        ≡ head_missing (cond b (missing (time_at w (slot_of m))) (waits (handle_at [] (slot_of m))) ∷ cells_from (cell_at w [] k) (next m) n)
    by_mark true = refl
    by_mark false = refl

pub sound_handles : (w h k : List ℕ) → sound channel.window (record_of w h k) ≡ sound channel.window (record_of w [] k)
unfolding sound record_with
sound_handles w h k =
    let c = current_in w in
    let m = oldest_in w in
    let n = span_of c m in
    rw (length_cells_from (cell_at w h k) m n, length_cells_from (cell_at w [] k) m n, head_cells_from w h k m n, times_cells_from w h k m n)
