-- The turns of the loop in which M moves on: what M's walk makes of the rest is what it made of the whole. Document 01, 'Settling' and 'Tick'.
-- Assumes nothing.
use Prim.Native.Nat.{ℕ, ◌+◌, ◌-◌, ◌≤◌, ◌<◌}
use mathlib.Core.Path.{◌≡◌, refl, ap, sym, ◌∙◌}
use mathlib.Core.Bool.{Bool, true, false, cond}
use mathlib.Core.List.{List, [], ◌∷◌}
use native.Mathlib.Omega.{arith}
use native.Mathlib.Nat.{add-zero}
use lib.ListN.{length, set}
use lib.Seq.{sets}
use borrow.Author.Tests.{lt-ltb, le-ltb, eq-eqb}
use Rattle.ring.specs.Ring.{next}
use Rattle.larq.specs.Channel.{Cell, missing, waits}
use Rattle.larq.specs.Settling.{walk, stays, losing}
use Rattle.slots.specs.Slots.{slots, slot_of, place_words, place_sized}
use Rattle.record.specs.Place.{cells_from, cell_at}
use Rattle.record.specs.Walk.{earlier, passes, walk_from, Settles, most, settle_numbers}
use Rattle.record.specs.Buffers.{Laid}
use Rattle.record.specs.declared.Record.{Record}
use Rattle.record.specs.declared.window.Settled.{Settled}
use Rattle.record.proofs.Windows.{cells_from_none, cells_from_rest}
use Rattle.record.proofs.Laying.{sets_more}
use Rattle.record.proofs.Walks.{walk_first}

-- M walks over no more numbers than there is room for
numbers_room : (w h k : List ℕ) (n at : ℕ) (up : List ℕ) → settle_numbers w h k n at up ≤ length up - at
numbers_room w h k n at up = by_test (place_sized (length w) (length h) (length k))
  where
    by_test : (b : Bool) → cond b (most n (length up - at)) 0 ≤ length up - at
    by_test true = omega arith
    by_test false = omega arith

-- What the loop keeps at its j-th number, which is M: `gone` handles went up and `lost` numbers were given up so far.
pub record Settles-on (until : ℕ) (w h k : List ℕ) (m n at : ℕ) (before up : List ℕ) (i j gone lost : ℕ) : Type 0 where
  pub room : n ≤ length before - at
  pub counted : j ≡ gone + lost
  pub end : at + gone + length (walk_from until w h k i (n - j)).up ≡ at + length (walk_from until w h k m n).up
  pub laid : sets up (at + gone) (walk_from until w h k i (n - j)).up ≡ sets before at (walk_from until w h k m n).up
  pub lost_all : lost + (walk_from until w h k i (n - j)).lost ≡ (walk_from until w h k m n).lost
  pub oldest : (walk_from until w h k i (n - j)).oldest ≡ (walk_from until w h k m n).oldest

-- before the first turn
pub settles_start : (until : ℕ) (w h k : List ℕ) (m n numbers at : ℕ) (up : List ℕ) → numbers ≡ settle_numbers w h k n at up
    → Settles-on until w h k m numbers at up up m 0 0 0
settles_start until w h k m n numbers at up e =
    let all : numbers - 0 ≡ numbers = omega arith in
    record {
      room = rw e (numbers_room w h k n at up);
      counted = refl;
      end = rw all (omega arith);
      laid = rw all (ap (λ (i : ℕ). sets up i (walk_from until w h k m numbers).up) (add-zero at));
      lost_all = rw all (omega arith);
      oldest = rw all refl;
    }

-- where M has come to rest
pub record Rests (until : ℕ) (w h k : List ℕ) (m n at : ℕ) (before up : List ℕ) (i gone lost : ℕ) : Type 0 where
  pub up_laid : Laid (walk_from until w h k m n).up at before up (at + gone)
  pub lost_all : lost ≡ (walk_from until w h k m n).lost
  pub oldest : i ≡ (walk_from until w h k m n).oldest

-- the same of a record
pub settles : {until : ℕ} {w h k : List ℕ} {n n' at : ℕ} {before up : List ℕ} (r : Record) (s : Settled) → n ≡ n'
    → Rests until w h k r.oldest.0 n at before up s.kept.oldest.0 s.up s.lost
    → s.kept.current.0 ≡ r.current.0 → s.kept.latest ≡ r.latest → Settles r n' until w h k at before up s
settles r s e rest c t =
    let z = rw e at rest in
    record { up = z.up_laid; lost = z.lost_all; oldest = z.oldest; current = c; latest = t }

-- the parts are those of a place, and there is room for all that M passes: it walks as over all n numbers
pub settles_all : {r : Record} {n until : ℕ} {w h k : List ℕ} {at : ℕ} {before after : List ℕ} {s : Settled} → length w ≡ place_words → length h ≡ slots
    → length k ≡ slots → at + passes (walk_from until w h k r.oldest.0 n) ≤ length before
    → Settles r (settle_numbers w h k n at before) until w h k at before after s → Settles r n until w h k at before after s
settles_all {r} {n} {until} {w} {h} {k} {at} {before} a b c l x =
    let e = walk_first until (cell_at w h k) r.oldest.0 n (length before - at) (omega arith) in
    let y = rw (eq-eqb (length w) place_words a, eq-eqb (length h) slots b, eq-eqb (length k) slots c) at x in
    record {
      up = rw e.0 at y.up;
      lost = y.lost ∙ e.1;
      oldest = y.oldest ∙ e.2;
      current = y.current;
      latest = y.latest;
    }

module _ {until : ℕ} {w h k : List ℕ} {m n at : ℕ} {before up : List ℕ} {i j gone lost : ℕ}
    (keeps : Settles-on until w h k m n at before up i j gone lost) where
  rests : (cs : List (Cell ℕ)) → walk_from until w h k i (n - j) ≡ stays i cs → Rests until w h k m n at before up i gone lost
  rests cs e =
      record {
        up_laid = record {
          end_is = omega (arith, ap (λ v. length v.up) e, keeps.end);
          buffer = sym (ap (λ v. sets up (at + gone) v.up) e) ∙ keeps.laid;
        };
        lost_all = omega (arith, ap (λ v. v.lost) e, keeps.lost_all);
        oldest = sym (ap (λ v. v.oldest) e) ∙ keeps.oldest;
      }

  pub rests_none : n ≤ j → Rests until w h k m n at before up i gone lost
  rests_none z = rests [] (ap (walk (earlier until) i) (cells_from_none (cell_at w h k) i (n - j) (omega arith)))

  -- at a number: the cell is what its slot holds
  module _ (some : j < n) where
    first : {x : Cell ℕ} → x ≡ cell_at w h k (slot_of i)
        → walk_from until w h k i (n - j) ≡ walk (earlier until) i (x ∷ cells_from (cell_at w h k) (next i) (n - (j + 1)))
    first is = ap (walk (earlier until) i) (cells_from_rest (cell_at w h k) i n j some ∙ ap (λ y. y ∷ cells_from (cell_at w h k) (next i) (n - (j + 1))) (sym is))

    pub rests_missing : {t : ℕ} → missing t ≡ cell_at w h k (slot_of i) → until ≤ t → Rests until w h k m n at before up i gone lost
    rests_missing {t} is l = rests (missing t ∷ cells_from (cell_at w h k) (next i) (n - (j + 1))) (first is ∙ rw (le-ltb t until l))

    module _ {i' : ℕ} (step : i' ≡ next i) where
      pub passes_waits : {x : ℕ} → waits x ≡ cell_at w h k (slot_of i)
          → Settles-on until w h k m n at before (set up (at + gone) x) i' (j + 1) (gone + 1) lost
      passes_waits {x} is =
          let rest = (walk_from until w h k (next i) (n - (j + 1))).up in
          let on : at + (gone + 1) ≡ at + gone + 1 = omega arith in
          rw step
          (record {
            room = keeps.room;
            counted = omega (arith, keeps.counted);
            end = omega (arith, ap (λ v. length v.up) (first is), keeps.end);
            laid =
                ap (λ (y : ℕ). sets (set up (at + gone) x) y rest) on
                ∙ sets_more up (at + gone) x rest
                ∙ sym (ap (λ v. sets up (at + gone) v.up) (first is))
                ∙ keeps.laid;
            lost_all = omega (arith, ap (λ v. v.lost) (first is), keeps.lost_all);
            oldest = sym (ap (λ v. v.oldest) (first is)) ∙ keeps.oldest;
          })

      pub passes_missing : {t : ℕ} → missing t ≡ cell_at w h k (slot_of i) → t < until
          → Settles-on until w h k m n at before up i' (j + 1) gone (lost + 1)
      passes_missing {t} is l =
          let e : walk_from until w h k i (n - j) ≡ losing (walk_from until w h k i' (n - (j + 1))) =
          rw step (first is ∙ rw (lt-ltb t until l)) in
          record {
            room = keeps.room;
            counted = omega (arith, keeps.counted);
            end = omega (arith, ap (λ v. length v.up) e, keeps.end);
            laid = sym (ap (λ v. sets up (at + gone) v.up) e) ∙ keeps.laid;
            lost_all = omega (arith, ap (λ v. v.lost) e, keeps.lost_all);
            oldest = sym (ap (λ v. v.oldest) e) ∙ keeps.oldest;
          }
