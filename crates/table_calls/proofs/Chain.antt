-- An instance of the laws of calls, with content: on a table that `empty` has cleared, the frame 4,095 opens a channel, and a frame with the number 4,096,
-- which the ring does not have, is refused. Assumes nothing.
use Prim.Native.Nat.{ℕ}
use mathlib.Core.Path.{◌≡◌, refl}
use mathlib.Core.List.{List, [], ◌∷◌}
use native.Mathlib.Omega.{arith}
use lib.ListN.{set, replicate}
use Rattle.std.specs.Prelude.{Ok, Err}
use Rattle.larq.specs.Channel.{window}
use Rattle.larq.specs.Answer as rule
use Rattle.larq.specs.Events.{frame}
use Rattle.larq.specs.Table.{Key, same_key, Event, one, outcome}
use Rattle.larq.specs.Counts.{strayed, Note}
use Rattle.larq.specs.declared.refused.Refused.{Refused}
use Rattle.slots.specs.Slots.{place_words, with_head}
use Rattle.place.specs.Call.{Begins, Buffers, buffers, Told, told}
use Rattle.place.specs.declared.Answer.{Answer}
use Rattle.table.specs.First.{first_from}
use Rattle.table.specs.Key.{first_word}
use Rattle.table.specs.Table.{Slices, slices, table_keys, table_words, table_slots, part, place_of, places_from}
use Rattle.table.proofs.Parts.{put, lent}
use Rattle.table_calls.specs.Emptied.{all_zeros}
use Rattle.table_calls.specs.Calls.{Calls, none, call}
use Rattle.table_calls.specs.Demands.{HearsInOrder, HearsKept}
use Rattle.table_calls.specs.Event.{event_of, Did}
use Rattle.table_calls.specs.Writes.{keyed}
use Rattle.table_calls.proofs.Opening.{opened_part, opened_did}
use Rattle.table_calls.proofs.Promised.{refused_did}
use Rattle.table_calls.proofs.Demands.{calls_order, calls_kept}
use Rattle.table_calls.proofs.Unique.{Untouched, untouched}

abbrev key : Key
key = record { destination = 1; source = 2; priority = 3 }

abbrev room_for_all : List ℕ
room_for_all = replicate window 0

abbrev before : Buffers
before = buffers room_for_all room_for_all room_for_all

-- the opening: key, C, M and the time are written at place 0, and handle 7 goes up
abbrev words : List ℕ
words = replicate table_words 0

abbrev first_part : List ℕ
first_part = with_head (lent place_words 0 words) 4095 0 100

abbrev opened_table : Slices
opened_table = slices (keyed (replicate table_keys 0) 0 (first_word key) 2) (put place_words 0 words first_part) (replicate table_slots 0) (replicate table_slots 0)

abbrev one_up : Answer
one_up = record { up = 1; returned = 0; nack = 0; lost = 0 }

begins : Begins 4095 7 100 (lent place_words 0 words) room_for_all first_part (set room_for_all 0 7) one_up
begins = record { head = refl; frame = refl; answer = record { up = refl; returned = refl; nack = refl; lost = refl } }

abbrev handed_up : rule.Answer ℕ
handed_up = record { number = 0; up = 7 ∷ []; returned = []; nack = []; lost = 0 }

abbrev opening : Event ℕ
opening = event_of key 100 (frame 4095 7) all_zeros before

opens : Did opening all_zeros opened_table before (buffers (set room_for_all 0 7) room_for_all room_for_all) (told (Ok one_up))
unfolding first_from
opens =
    opened_did (replicate table_keys 0) words (replicate table_slots 0) (replicate table_slots 0) room_for_all room_for_all room_for_all key 100 4095 7
    (record { lent = refl; number = refl; priority = refl }) refl 0 refl
    (opened_part (replicate table_keys 0) 0 (first_word key) 2 refl (omega arith) refl begins)

abbrev number_2 : Told
number_2 = told (Err Refused.Number)

abbrev refused_by_2 : rule.Answer ℕ
refused_by_2 = record { number = 2; up = []; returned = []; nack = []; lost = 0 }

-- no number of the ring
abbrev astray : Event ℕ
astray = event_of key 101 (frame 4096 8) opened_table before

refuses : Did astray opened_table opened_table before before number_2
unfolding outcome one
refuses = refused_did astray opened_table before Refused.Number refl

-- what the host hears
pub chain : Calls all_zeros (opening ∷ (astray ∷ [])) (handed_up ∷ (refused_by_2 ∷ [])) opened_table
chain = call before (buffers (set room_for_all 0 7) room_for_all room_for_all) (told (Ok one_up)) opens (call before before number_2 refuses none)

-- handle 7 of the first call stands once, among what went up
pub calls_kept_met : HearsKept 0 (opening ∷ (astray ∷ [])) (handed_up ∷ (refused_by_2 ∷ [])) opened_table
calls_kept_met = calls_kept chain 0 (tt, refl)

-- the sender's count is 4,095, and what strays has none
abbrev notes : List (Note (ℕ × ℕ))
notes = record { time = 101; lent = astray.lent; what = strayed 0 (0, 8) } ∷ []

pub calls_order_met : HearsInOrder key 4095 100 7 notes (astray ∷ []) handed_up (refused_by_2 ∷ [])
unfolding same_key places_from place_of part
calls_order_met = calls_order chain 4095 7 (record { is_data_law = refl; is_accepted = refl; anew = tt }) notes refl (λ _. tt, tt)

pub untouched_met : Untouched opened_table opened_table before before number_2
untouched_met = untouched astray opened_table opened_table before before number_2 refuses (λ (q : 2 ≡ 0). omega arith)
