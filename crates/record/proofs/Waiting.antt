-- The handles that wait among some numbers, and the turns of the loop that lays them into a buffer. Assumes nothing.
use Prim.Native.Nat.{ℕ, zero, suc, ◌+◌, ◌-◌, ◌≤◌, ◌<◌}
use mathlib.Core.Path.{◌≡◌, refl, ap, sym, ◌∙◌}
use mathlib.Core.Bool.{Bool, true, false, cond, ◌&&◌}
use mathlib.Core.List.{List, [], ◌∷◌}
use native.Mathlib.Omega.{arith}
use lib.Dec.{leb}
use borrow.Author.Tests.{leb-true, le-leb, eq-eqb}
use Rattle.wire.proofs.Joined.{and_right}
use lib.ListN.{length, set}
use lib.Seq.{sets}
use Rattle.ring.specs.Ring.{forward, next}
use Rattle.larq.specs.Channel.{waits, missing, waiting}
use Rattle.slots.specs.Slots.{slots, slot_of, place_words, is_missing, time_at, handle_at, place_sized}
use Rattle.record.specs.Place.{cells_from, cell_at}
use Rattle.record.specs.Walk.{waiting_of, hand_numbers}
use Rattle.record.specs.Buffers.{Laid}
use Rattle.record.proofs.Windows.{cells_from_none, cells_from_past, cells_from_start, length_cells_from, cell_waits, cell_missing}
use Rattle.record.proofs.Walks.{waiting_few}
use Rattle.record.proofs.Laying.{sets_more}

-- the words of a place have no part in it
pub waiting_cells_from : (words handles marks : List ℕ) (m n : ℕ) → waiting (cells_from (cell_at words handles marks) m n) ≡ waiting_of handles marks m n
unfolding cells_from
waiting_cells_from words handles marks m zero = refl
waiting_cells_from words handles marks m (suc n) = by_mark (is_missing marks (slot_of m)) (waiting_cells_from words handles marks (next m) n)
  where
    by_mark : (b : Bool) → waiting (cells_from (cell_at words handles marks) (next m) n) ≡ waiting_of handles marks (next m) n
        → waiting (cond b (missing (time_at words (slot_of m))) (waits (handle_at handles (slot_of m))) ∷ cells_from (cell_at words handles marks) (next m) n)
        ≡ waiting (cond b (missing 0) (waits (handle_at handles (slot_of m))) ∷ cells_from (cell_at [] handles marks) (next m) n)
    by_mark true i = i
    by_mark false i = ap (λ l. handle_at handles (slot_of m) ∷ l) i

-- there are no more of them than numbers
pub waiting_short : (handles marks : List ℕ) (m n : ℕ) → length (waiting_of handles marks m n) ≤ n
waiting_short handles marks m n =
    omega (arith, waiting_few (cells_from (cell_at [] handles marks) m n), length_cells_from (cell_at [] handles marks) m n)

-- What the loop keeps at its j-th number: what is still to be laid from here is what was to be laid from the start.
pub record Lays (h k : List ℕ) (m n : ℕ) (before out : List ℕ) (to j : ℕ) : Type 0 where
  pub room : n ≤ length before
  pub few : to ≤ j
  pub end : to + length (waiting_of h k (forward m j) (n - j)) ≡ 0 + length (waiting_of h k m n)
  pub laid : sets out to (waiting_of h k (forward m j) (n - j)) ≡ sets before 0 (waiting_of h k m n)

-- no more numbers than there is room for
hand_room : (h k : List ℕ) (n : ℕ) (out : List ℕ) → hand_numbers h k n out ≤ length out
hand_room h k n out = by_test (place_sized place_words (length h) (length k) && leb n (length out)) refl
  where
    by_test : (b : Bool) → (place_sized place_words (length h) (length k) && leb n (length out)) ≡ b → cond b n 0 ≤ length out
    by_test true f = leb-true n (length out) (and_right (place_sized place_words (length h) (length k)) _ f)
    by_test false f = omega arith

-- before the first turn
pub lays_start : {numbers : ℕ} (h k : List ℕ) (m n : ℕ) (out : List ℕ) → numbers ≡ hand_numbers h k n out → Lays h k m numbers out out 0 0
lays_start {numbers} h k m n out e =
    let all = ap waiting (cells_from_start (cell_at [] h k) m numbers) in
    record {
      room = rw e (hand_room h k n out);
      few = omega arith;
      end = ap (λ (l : List ℕ). 0 + length l) all;
      laid = ap (sets out 0) all;
    }

-- the slots are those of a place, and there is room for all n numbers: the waiting handles of all are laid
pub hands_all : (h k : List ℕ) (m n : ℕ) {before after : List ℕ} {end : ℕ} → length h ≡ slots → length k ≡ slots → n ≤ length before
    → Laid (waiting_of h k m (hand_numbers h k n before)) 0 before after end → Laid (waiting_of h k m n) 0 before after end
hands_all h k m n {before} eh ek room laid =
    rw (eq-eqb (length h) slots eh, eq-eqb (length k) slots ek, le-leb n (length before) room) at laid

module _ {h k : List ℕ} {m n : ℕ} {before out : List ℕ} {to j : ℕ} (keeps : Lays h k m n before out to j) where
  pub lays_end : {n' : ℕ} → n ≡ n' → n ≤ j → Laid (waiting_of h k m n') 0 before out to
  lays_end f z =
      let e : waiting_of h k (forward m j) (n - j) ≡ [] = ap waiting (cells_from_none (cell_at [] h k) (forward m j) (n - j) (omega arith)) in
      rw (← f) (record { end_is = omega (arith, ap length e, keeps.end); buffer = sym (ap (sets out to) e) ∙ keeps.laid })

  module _ {i : ℕ} (some : j < n) (here : i ≡ forward m j) where
    pub lays_waits : {x : ℕ} → is_missing k (slot_of i) ≡ false → x ≡ handle_at h (slot_of i) → Lays h k m n before (set out to x) (to + 1) (j + 1)
    lays_waits {x} o is =
        let rest = waiting_of h k (forward m (j + 1)) (n - (j + 1)) in
        let e : waiting_of h k (forward m j) (n - j) ≡ x ∷ rest =
        ap waiting (cells_from_past (cell_at [] h k) m n j some) ∙ rw (← here, cell_waits [] h k (slot_of i) o, is) refl in
        record {
          room = keeps.room;
          few = omega (arith, keeps.few);
          end = omega (arith, ap length e, keeps.end);
          laid = sets_more out to x rest ∙ ap (sets out to) (sym e) ∙ keeps.laid;
        }

    pub lays_missing : is_missing k (slot_of i) ≡ true → Lays h k m n before out to (j + 1)
    lays_missing o =
        let e : waiting_of h k (forward m j) (n - j) ≡ waiting_of h k (forward m (j + 1)) (n - (j + 1)) =
        ap waiting (cells_from_past (cell_at [] h k) m n j some) ∙ rw (← here, cell_missing [] h k (slot_of i) o) refl in
        record {
          room = keeps.room;
          few = omega (arith, keeps.few);
          end = omega (arith, ap length e, keeps.end);
          laid = ap (sets out to) (sym e) ∙ keeps.laid;
        }
