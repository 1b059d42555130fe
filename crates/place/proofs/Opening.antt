-- What an event that no number of the common ones refuses may rely on: lengths, a number in the ring and a sound record, as the functions
-- that act ask for them. Assumes nothing.
use Prim.Native.Nat.{ℕ, ◌-◌, ◌≤◌, ◌<◌}
use Rattle.std.specs.Prelude.{Result, Ok, Err}
use mathlib.Core.Path.{◌≡◌, refl, ap, ap₂, sym, ◌∙◌, subst}
use mathlib.Core.Bool.{Bool, true, false, false≢true}
use mathlib.Core.List.{List, [], ◌∷◌}
use native.Mathlib.Omega.{arith}
use lib.Dec.{leb}
use lib.ListN.{length}
use borrow.Author.Tests.{leb-true}
use Rattle.wire.specs.Answers.{Said, refused}
use Rattle.larq.specs.Refused.{number_of}
use Rattle.larq.specs.declared.refused.Refused.{Refused}
use Rattle.ring.specs.Ring.{next, steps, seen, Ahead, size}
use Rattle.ring.proofs.Sides.{Seen, sees}
use Rattle.larq.specs.Channel as channel
use Rattle.larq.specs.Channel.{span_of, head_missing, reach, waits, window}
use Rattle.slots.specs.Slots.{slot_of, current_in, oldest_in, is_missing, handle_at}
use Rattle.record.specs.Place.{cells_from, cell_at, record_of}
use Rattle.place.specs.Call.{lent_at, Parts, Buffers}
use Rattle.record.specs.Moving.{record_in, span_in}
use Rattle.place.specs.Steps.{Ready, IsAhead, Waits, Missing}
use Rattle.judging.specs.Judge.{judged_says, judged_for, in_ring, in_shape}
use Rattle.record.specs.declared.Record.{Record}
use Rattle.record.specs.declared.Lengths.{Lengths}
use Rattle.record.specs.Lengths.{lengths_of}
use Rattle.record.proofs.Windows.{length_cells_from, cells_from_suc, cell_waits}
use Rattle.wire.proofs.Joined.{and_left, and_right}
use Rattle.judging.proofs.Saying.{measured, OpenAt, open_at}
use Rattle.judging.proofs.Sounds.{ring_of, sound_is}
use Rattle.record.proofs.Sizes.{Enough, enough_of}

-- a window whose first number does not wait
head_of : (w k : List ℕ) (m n : ℕ) → head_missing (cells_from (cell_at w [] k) m n) ≡ true → 0 < n → is_missing k (slot_of m) ≡ true
head_of w k m n e p = by_mark (is_missing k (slot_of m)) refl
  where
    by_mark : (b : Bool) → is_missing k (slot_of m) ≡ b → is_missing k (slot_of m) ≡ true
    by_mark true f = f
    by_mark false f =
        let first : cells_from (cell_at w [] k) m n ≡ waits (handle_at [] (slot_of m)) ∷ cells_from (cell_at w [] k) (next m) (n - 1) =
        cells_from_suc (cell_at w [] k) m n p ∙ rw (cell_waits w [] k (slot_of m) f) in
        absurd (false≢true (sym (ap head_missing first) ∙ e))

-- What was decided of a call with these parts and buffers, this number and this time.
abbrev decided : Parts → Buffers → ℕ → ℕ → Said
decided p b s time = judged_for (lent_at p b) p.words p.marks s time

pub record Stopped (p : Parts) (b : Buffers) (s time : ℕ) (e : Refused) : Type 0 where
  pub by : refused (number_of e) ≡ decided p b s time

pub record Opened (p : Parts) (b : Buffers) (s time : ℕ) (r : Record) : Type 0 where
  pub at : OpenAt (lent_at p b) p.words p.marks s time r

-- The judgement of a call that tells the lengths of what it was lent.
module _ (p : Parts) (b : Buffers) (s time : ℕ) {l : Lengths} (lengths : l ≡ lengths_of p.words p.handles p.marks b.up b.returned b.nack) where
  asked : judged_for (measured p.words p.marks l) p.words p.marks s time ≡ decided p b s time
  asked = ap (λ x. judged_for (measured p.words p.marks x) p.words p.marks s time) lengths

  module _ {j : Result Record Refused} (says : judged_says j ≡ judged_for (measured p.words p.marks l) p.words p.marks s time) where
    pub stopped_by : {e : Refused} → j ≡ Err e → Stopped p b s time e
    stopped_by is = record { by = sym (ap judged_says is) ∙ (says ∙ asked) }

    pub opened_by : {r : Record} → j ≡ Ok r → Opened p b s time r
    opened_by {r} is = record { at = open_at (lent_at p b) p.words p.marks s time r (sym (ap judged_says is) ∙ (says ∙ asked)) }

module _ {p : Parts} {b : Buffers} {s time : ℕ} {r : Record} (opened : Opened p b s time r) where
  abbrev W : List ℕ
  W = p.words

  abbrev K : List ℕ
  K = p.marks

  pub enough : Enough (length W) (length p.handles) (length K) (length b.up) (length b.returned) (length b.nack)
  enough = enough_of (length W) (length p.handles) (length K) (length b.up) (length b.returned) (length b.nack) opened.at.lent

  pub in_ring_law : s < size
  in_ring_law = omega (arith, leb-true s 4095 opened.at.number)

  in_shape_law : (in_ring W ≡ true) × (in_shape (current_in W) (oldest_in W) W K ≡ true)
  in_shape_law = let e = sym (sound_is W K) ∙ opened.at.whole in (and_left (in_ring W) _ e, and_right (in_ring W) _ e)

  held : record_in r W p.handles K ≡ record_of W p.handles K
  held = rw (opened.at.current, opened.at.oldest, opened.at.latest)

  pub ready : Ready r W p.handles K
  ready =
      let ring = ring_of W K in_shape_law.0 in
      let n = span_of (current_in W) (oldest_in W) in
      let span : span_in r ≡ n = ap₂ span_of opened.at.current opened.at.oldest in
      let cells = cells_from (cell_at W [] K) (oldest_in W) n in
      let fits : length cells ≤ window = leb-true (length cells) window (and_left (leb (length cells) window) _ in_shape_law.1) in
      let rest = and_right (leb (length cells) window) _ in_shape_law.1 in
      record {
        sized = record { words = enough.words_sized; handles = enough.handles_sized; marks = enough.marks_sized };
        held = held;
        current = rw opened.at.current ring.0;
        oldest = rw opened.at.oldest ring.1;
        narrow = omega (arith, span, length_cells_from (cell_at W [] K) (oldest_in W) n);
        head = λ q.
            ap (λ x. is_missing K (slot_of x)) opened.at.oldest
            ∙ head_of W K (oldest_in W) n (and_left (head_missing cells) _ rest) (rw span at q);
      }

-- s lies ahead: of so many numbers the last comes with a frame, or is missing with the others
module _ (c s d : ℕ) (is : seen (reach channel.window) c s ≡ Ahead d) where
  ahead_of : Seen (reach window) c s (Ahead d)
  ahead_of = subst (Seen (reach window) c s) is (sees (reach window) c s (omega arith))

  pub ahead_some : 0 < d
  ahead_some = ahead_of.some

  pub ahead_frame : (x : ℕ) → IsAhead c s (d - 1) (Waits x)
  ahead_frame x = grind (arith, ahead_of)

  pub ahead_reminder : IsAhead c s d Missing
  ahead_reminder = grind (arith, ahead_of)

pub ahead_by_one : (c s : ℕ) → seen (reach channel.window) c s ≡ Ahead 1 → steps c s ≡ 1
ahead_by_one c s is = (ahead_of c s 1 is).is
