-- The premises of the theorems can be met, with content: one small run of two channels, and each theorem put to use on it.
-- A promise whose premises nothing meets would promise nothing.
use Prim.Native.Nat.{ℕ}
use mathlib.Core.Path.{◌≡◌, refl}
use mathlib.Core.Bool.{true}
use mathlib.Core.List.{List, [], ◌∷◌}
use native.Mathlib.Omega.{arith}
use Rattle.ring.specs.Ring.{rising, side, distance}
use Rattle.larq.specs.Channel.{waits, missing, Channel, sound, window}
use Rattle.larq.specs.Answer.{holds}
use Rattle.larq.specs.Events.{Act, frame, reminder, tick, close, asked, act_on}
use Rattle.larq.specs.Table.{Key, same_key, Table, Lent, Event, one, outcome, step}
use Rattle.larq.specs.Run.{run, answers, events_of, answers_to, empty}
use Rattle.larq.specs.Demands.{told_of, until_closed, AgreeButFull, UpFirst}
use Rattle.larq.specs.Moving.{entered, made, Moves, Bounded}
use Rattle.larq.specs.Counts.{Sent, sent, reminded, strayed, Note, all_up}
use Rattle.larq.proofs.Untouched.{Untouched, untouched}
use Rattle.larq.proofs.Apart.{apart}
use Rattle.larq.proofs.Restart.{FarFrame, BeginningFrame, NotOpen, Restarts, restart}
use Rattle.larq.proofs.Sound.{Good}
use Rattle.larq.proofs.Moved.{moves}
use Rattle.larq.proofs.Bounds.{bounded}
use Rattle.larq.proofs.AtOnce.{at_once}
use Rattle.larq.proofs.OwnHandles.{OwnOrder, own_order}
use Rattle.larq.proofs.Kept.{KeptOnce, kept}

abbrev enough : Lent
enough = record { up = window; returned = window; nack = window; whole = true }

-- more than enough
abbrev plenty : Lent
plenty = record { up = 64; returned = 40; nack = 33; whole = true }

-- two channels
abbrev mine : Key
mine = record { destination = 1; source = 2; priority = 0 }

abbrev yours : Key
yours = record { destination = 1; source = 3; priority = 7 }

abbrev at : Key → ℕ → Act ℕ → Event ℕ
at k t a = record { key = k; time = t; act = a; lent = enough }

-- 10 opens my channel and 12 waits behind 11; yours is open too
abbrev opening : List (Event ℕ)
opening = at mine 100 (frame 10 1) ∷ (at yours 100 (frame 7 9) ∷ (at mine 101 (frame 12 2) ∷ []))

abbrev table : Table ℕ
table = run window empty opening

-- my record after it
abbrev behind_11 : Channel ℕ
behind_11 = record { current = 12; oldest = 11; latest = 101; cells = missing 101 ∷ (waits 2 ∷ []) }

-- another table: only yours is open
abbrev other : Table ℕ
other = run window empty (at yours 100 (frame 7 9) ∷ [])

abbrev far_frame : Event ℕ
far_frame = at mine 102 (frame 2000 3)

is_far_law : FarFrame window table far_frame behind_11 [] 2000 3
unfolding one outcome step sound same_key act_on asked side distance
is_far_law = record { is_open_law = refl; is_data_law = refl; is_accepted = refl; far = refl }

-- the same frame, of a host that lends more
abbrev lent_more : Event ℕ
lent_more = record { key = mine; time = 102; act = frame 2000 3; lent = plenty }

not_open : NotOpen other lent_more
unfolding one outcome step sound same_key act_on asked side distance
not_open = record { none = refl; place = refl }

-- after it: a gap, its fill, my close and an opening, and in one run yours goes on
abbrev later : List (Event ℕ)
later = at mine 103 (frame 2002 4) ∷ (at yours 103 (frame 8 8) ∷ (at mine 104 (frame 2001 5) ∷ (at mine 105 close ∷ (at mine 106 (frame 9 6) ∷ []))))

abbrev later_alone : List (Event ℕ)
later_alone = at mine 103 (frame 2002 4) ∷ (record { key = mine; time = 104; act = frame 2001 5; lent = plenty } ∷ (at mine 105 close ∷ (at mine 106 (frame 9 6) ∷ [])))

same_told : told_of window mine later ≡ told_of window mine later_alone
unfolding same_key
same_told = refl

pub restart_met : Restarts window table other far_frame lent_more behind_11 3 later later_alone
restart_met = restart window table other far_frame lent_more refl behind_11 [] 2000 3 is_far_law not_open later later_alone same_told

-- three answers are compared, up to the close
pub restart_content : until_closed (events_of mine later) (answers_to mine later (answers window (step window table far_frame) later))
    ≡ record { number = 0; up = []; returned = []; nack = 2001 ∷ []; lost = 0 }
    ∷ (record { number = 0; up = 5 ∷ (4 ∷ []); returned = []; nack = []; lost = 0 } ∷ (record { number = 0; up = []; returned = []; nack = []; lost = 0 } ∷ []))
unfolding one outcome step sound same_key act_on asked side distance
restart_content = refl

pub apart_met : AgreeButFull (answers_to yours later (answers window table later)) (answers_to yours (at yours 103 (frame 8 8) ∷ []) (answers window other (at yours 103 (frame 8 8) ∷ [])))
unfolding one outcome step sound same_key act_on asked side distance
apart_met = apart window yours table other later (at yours 103 (frame 8 8) ∷ []) refl refl

-- a time before the latest
pub untouched_met : Untouched window table (at mine 99 tick)
unfolding one outcome step sound same_key act_on asked side distance
untouched_met = untouched window table (at mine 99 tick) (λ (e : 7 ≡ 0). omega arith)

good : Good window behind_11
good = record { sound = record { current = omega arith; oldest = omega arith; short = omega arith; head = refl; times = refl }; joined = refl }

-- 11 comes at last: it goes up first, and 12 after it
pub at_once_met : UpFirst 5 (outcome window table (at mine 104 (frame 11 5)))
unfolding one outcome step sound same_key act_on asked side distance
at_once_met = at_once window (omega arith) table (at mine 104 (frame 11 5)) behind_11 [] 5 good refl refl refl

-- a jump of 64: 33 numbers are lost, 12 goes up, and 45 to 75 are asked for
abbrev jump : Event ℕ
jump = at mine 104 (frame 76 5)

pub jump_content : (outcome window table jump).answer ≡ record { number = 0; up = 2 ∷ []; returned = []; nack = rising 45 31; lost = 33 }
unfolding one outcome step sound same_key act_on asked side distance
jump_content = refl

pub moves_met : (d : Channel ℕ) → (one window true (behind_11 ∷ []) jump).change ≡ holds d
    → Moves behind_11 (entered window behind_11 104 (frame 76 5)) (made window behind_11 (frame 76 5)) (one window true (behind_11 ∷ []) jump).answer d
unfolding side distance
moves_met = moves window (omega arith) true behind_11 [] jump good refl

pub bounded_met : Bounded window (one window true (behind_11 ∷ []) jump).answer
bounded_met = bounded window (omega arith) (omega arith) true (behind_11 ∷ []) jump (good, tt)

-- over the ring's edge, from the empty table: the frame of count 4,095 opens the channel, 4,097 comes before 4,096, between them a frame with the number
-- 4,096, which is refused, and then a reminder of 4,098
abbrev note : ℕ → Sent (ℕ × ℕ) → Note (ℕ × ℕ)
note t s = record { time = t; lent = enough; what = s }

abbrev notes : List (Note (ℕ × ℕ))
notes = note 101 (sent (4097, 7)) ∷ (note 101 (strayed 0 (0, 9)) ∷ (note 102 (sent (4096, 7)) ∷ (note 103 (reminded 4098) ∷ [])))

abbrev first : Event ℕ
first = at mine 100 (frame 4095 7)

abbrev over_the_edge : List (Event ℕ)
over_the_edge =
    at mine 101 (frame 1 7)
    ∷ (at yours 101 (frame 3 3) ∷ (at mine 101 (frame 4096 9) ∷ (at mine 102 (frame 0 7) ∷ (at mine 103 (reminder 2) ∷ []))))

begins : BeginningFrame window empty first 4095 7
unfolding one outcome step sound same_key act_on asked side distance
begins = record { is_data_law = refl; is_accepted = refl; anew = tt }

-- the host gave all three frames the same handle, and by the sender's counts 4,095 went up before 4,096, and this before 4,097
pub own_order_met : OwnOrder window empty first 4095 7 notes over_the_edge
unfolding one outcome step sound same_key act_on asked side distance
own_order_met =
    own_order window (omega arith) empty first 4095 7 begins over_the_edge notes refl
    (λ _. (omega arith, omega arith), (λ _. tt, (λ _. (omega arith, omega arith), (λ _. (omega arith, omega arith), tt))))

pub own_order_content : all_up (answers_to mine (first ∷ over_the_edge) (answers window empty (first ∷ over_the_edge))) ≡ 7 ∷ (7 ∷ (7 ∷ []))
unfolding one outcome step sound same_key act_on asked side distance
own_order_content = refl

-- the third call of the opening run waits
pub kept_met : KeptOnce window opening 2
unfolding one outcome step sound same_key act_on asked side distance
kept_met = kept window opening 2 (tt, refl)
