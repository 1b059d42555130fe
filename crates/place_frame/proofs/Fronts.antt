-- The first entries of a buffer, as many as an answer may need, lent on: a list that was written there stands at the front of the buffer, whose further entries are as they were.
-- Assumes nothing.
use Prim.Native.Nat.{ℕ, ◌+◌, ◌≤◌}
use mathlib.Core.Path.{◌≡◌, ap, sym, ◌∙◌}
use mathlib.Core.List.{List, ◌++◌, append_assoc}
use native.Mathlib.Omega.{arith}
use lib.ListN.{length, drop, length-append, take-append-drop}
use lib.Seq.{length-take-le, drop-append-le}
use borrow.Rule.Slice.PartMut.{mid_of, put_mid}
use Rattle.larq.specs.Answer.{Outcome}
use Rattle.larq.specs.Channel.{window}
use Rattle.record.specs.Buffers.{Wrote}
use Rattle.place.specs.Call.{Parts, buffers, Told, DidAt}

abbrev pub front : List ℕ → List ℕ
front b = mid_of 0 window b

pub lent_room : (b : List ℕ) → window ≤ length b → window ≤ length (front b)
lent_room b room = let all = length-take-le window b room in omega arith

front_wrote : (list b y : List ℕ) (n : ℕ) → window ≤ length b → length y ≡ length (front b) → Wrote list (front b) y n → Wrote list b (put_mid 0 window b y) n
front_wrote list b y n room sized w =
    let long : length y ≡ length list + length (drop (length list) (front b)) = ap length w.buffer ∙ length-append list (drop (length list) (front b)) in
    let short : length list ≤ length (front b) = omega arith in
    record {
      count = w.count;
      buffer =
          ap (λ (l : List ℕ). l ++ drop window b) w.buffer
          ∙ append_assoc list (drop (length list) (front b)) (drop window b)
          ∙ ap (λ (l : List ℕ). list ++ l)
          (sym (drop-append-le (length list) (front b) (drop window b) short) ∙ ap (drop (length list)) (take-append-drop window b));
    }

-- a call that was lent the fronts of the first two buffers
pub front_did : {rule : Outcome ℕ} {before after : Parts} {U R N u r n : List ℕ} {a : Told} → window ≤ length U → window ≤ length R
    → length u ≡ length (front U) → length r ≡ length (front R) → DidAt rule before after (buffers (front U) (front R) N) (buffers u r n) a
    → DidAt rule before after (buffers U R N) (buffers (put_mid 0 window U u) (put_mid 0 window R r) n) a
front_did {U = U} {R = R} {u = u} {r = r} up_room returned_room up-sized returned-sized did =
    record {
      answer = record {
        number = did.answer.number;
        up = front_wrote _ U u _ up_room up-sized did.answer.up;
        returned = front_wrote _ R r _ returned_room returned-sized did.answer.returned;
        nack = did.answer.nack;
        lost = did.answer.lost;
      };
      became = did.became;
    }
