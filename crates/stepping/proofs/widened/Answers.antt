-- No more handles go up at once than M passes numbers: of so many numbers no more can wait, and those in the window are among them.
use Rattle.std.proofs.Common.{ℕ, ◌≤◌, List, Bool, true, false, ◌&&◌, cond, length, leb, arith}
use Rattle.slots.specs.Slots.{place_words, place_sized}
use Rattle.record.specs.Buffers.{Laid}
use Rattle.record.specs.Walk.{waiting_of, hand_numbers}
use Rattle.record.proofs.Waiting.{waiting_short}
use Rattle.stepping.proofs.widened.Goals as goal

all_or_none_few : (b : Bool) (n : ℕ) → cond b n 0 ≤ n
all_or_none_few true n = omega arith
all_or_none_few false n = omega arith

hands_few : (h k : List ℕ) (m n : ℕ) {before after : List ℕ} {end : ℕ} → Laid (waiting_of h k m (hand_numbers h k n before)) 0 before after end → end ≤ n
hands_few h k m n {before} laid =
    let few = all_or_none_few (place_sized place_words (length h) (length k) && leb n (length before)) n in
    omega (arith, laid.end_is, waiting_short h k m (hand_numbers h k n before), few)

pub overflow_sub-had : goal.overflow_sub-had
overflow_sub-had c =
    let few = hands_few c.args.handles.now c.args.marks.now c.args.r.oldest.0 _ c.hand-passed.ensures in
    omega (arith, few, c.grown-g.ensures.old)
