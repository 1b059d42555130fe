-- Document 01, 'Runs at the edges': the P cases and the reminder 75, with a few beside them, as one table, of which `runs` (proofs/Runs) is the one statement. Handles are
-- numbers here; a case's frames carry 1, 2, 3 in the order of its calls.
use Rattle.std.specs.Prelude.{ℕ, ◌≡◌, true, List, [], ◌∷◌, ◌++◌, map, replicate}
use Rattle.ring.specs.Ring.{rising}
use Rattle.larq.specs.Channel.{Cell, waits, missing, Channel, window}
use Rattle.larq.specs.Answer.{Answer}
use Rattle.larq.specs.Events.{Act, frame, reminder, tick, close, opened}
use Rattle.larq.specs.Table.{Key, free, held, Table, channels, Lent, Event}
use Rattle.larq.specs.Run.{run, answers}

abbrev key : Key
key = record { destination = 1; source = 2; priority = 0 }

abbrev enough : Lent
enough = record { up = window; returned = window; nack = window; whole = true }

-- a case: the table, the calls with their times, what each is answered with, and the channel's record after the last, if it is open
pub record Case : Type 0 where
  pub table : Table ℕ
  pub calls : List (ℕ × Act ℕ)
  pub answers : List (Answer ℕ)
  pub after : List (Channel ℕ)

abbrev none_open : Table ℕ
none_open = free ∷ []

-- a fresh record: C = 10, M = 11, latest time 100
abbrev ten : Table ℕ
ten = held key (opened 10 100) ∷ []

abbrev event : ℕ × Act ℕ → Event ℕ
event c = record { key = key; time = c.0; act = c.1; lent = enough }

-- number 0 and the lists
abbrev says : List ℕ → List ℕ → List ℕ → ℕ → Answer ℕ
says up returned nack lost = record { number = 0; up = up; returned = returned; nack = nack; lost = lost }

abbrev refuses : ℕ → Answer ℕ
refuses n = record { number = n; up = []; returned = []; nack = []; lost = 0 }

-- C, M, the latest time, and the numbers from M to C
abbrev left : ℕ → ℕ → ℕ → List (Cell ℕ) → List (Channel ℕ)
left c m t cells = record { current = c; oldest = m; latest = t; cells = cells } ∷ []

abbrev case : Table ℕ → List (ℕ × Act ℕ) → List (Answer ℕ) → List (Channel ℕ) → Case
case t cs rs c = record { table = t; calls = cs; answers = rs; after = c }

-- 12 comes to the fresh record: it waits, and 11 is asked for
abbrev twelve : ℕ × Act ℕ
twelve = (100, frame 12 1)

abbrev waits_for_11 : Answer ℕ
waits_for_11 = says [] [] (11 ∷ []) 0

abbrev behind_11 : List (Cell ℕ)
behind_11 = missing 100 ∷ (waits 1 ∷ [])

-- The paper's. Where it names no time, a call comes later than the record's latest time, so that what becomes of that time is seen
abbrev paper : List Case
paper =
    case none_open ((100, frame 4095 1) ∷ ((101, frame 0 2) ∷ [])) (says (1 ∷ []) [] [] 0 ∷ (says (2 ∷ []) [] [] 0 ∷ [])) (left 0 1 101 [])
    ∷ (case ten (twelve ∷ []) (waits_for_11 ∷ []) (left 12 11 100 behind_11)
    ∷ (case ten (twelve ∷ ((101, frame 11 2) ∷ [])) (waits_for_11 ∷ (says (2 ∷ (1 ∷ [])) [] [] 0 ∷ [])) (left 12 13 101 [])
    ∷ (case ten (twelve ∷ ((101, frame 12 2) ∷ [])) (waits_for_11 ∷ (says [] (2 ∷ []) [] 0 ∷ [])) (left 12 11 101 behind_11)
    ∷ (case ten ((101, frame 10 1) ∷ []) (says [] (1 ∷ []) [] 0 ∷ []) (left 10 11 101 [])
    ∷ (case ten ((101, frame 74 1) ∷ []) (says [] [] (rising 43 31) 32 ∷ []) (left 74 43 101 (replicate 31 (missing 101) ++ (waits 1 ∷ [])))
    ∷ (case ten ((101, frame 75 1) ∷ []) (says (1 ∷ []) [] [] 0 ∷ []) (left 75 76 101 [])
    ∷ (case ten ((101, frame 4042 1) ∷ []) (says [] (1 ∷ []) [] 0 ∷ []) (left 10 11 101 [])
    ∷ (case ten ((101, frame 4041 1) ∷ []) (says (1 ∷ []) [] [] 0 ∷ []) (left 4041 4042 101 [])
    ∷ (case ten ((101, reminder 12) ∷ []) (says [] [] (11 ∷ (12 ∷ [])) 0 ∷ []) (left 12 11 101 (missing 101 ∷ (missing 101 ∷ [])))
    ∷ (case ten ((101, reminder 75) ∷ []) (refuses 8 ∷ []) (left 10 11 100 [])
    ∷ (case ten (twelve ∷ ((249, tick) ∷ [])) (waits_for_11 ∷ (says [] [] [] 0 ∷ [])) (left 12 11 249 behind_11)
    ∷ (case ten (twelve ∷ ((250, tick) ∷ [])) (waits_for_11 ∷ (says (1 ∷ []) [] [] 1 ∷ [])) (left 12 13 250 [])
    ∷ (case ten (twelve ∷ ((99, tick) ∷ [])) (waits_for_11 ∷ (refuses 7 ∷ [])) (left 12 11 100 behind_11) ∷ [])))))))))))))

-- 13 comes to the fresh record, and then 12: both wait behind 11
abbrev two_waiting : List (ℕ × Act ℕ)
two_waiting = (101, frame 13 1) ∷ ((102, frame 12 2) ∷ [])

abbrev asks_for_both : Answer ℕ
asks_for_both = says [] [] (11 ∷ (12 ∷ [])) 0

-- beside the paper's: a reminder for C; two frames that wait, and then a restart and a close, which give both back in sequence order
abbrev beside : List Case
beside =
    case ten ((101, reminder 10) ∷ []) (says [] [] [] 0 ∷ []) (left 10 11 101 [])
    ∷ (case ten two_waiting (asks_for_both ∷ (says [] [] [] 0 ∷ [])) (left 13 11 102 (missing 101 ∷ (waits 2 ∷ (waits 1 ∷ []))))
    ∷ (case ten (two_waiting ++ ((103, frame 78 3) ∷ [])) (asks_for_both ∷ (says [] [] [] 0 ∷ (says (3 ∷ []) (2 ∷ (1 ∷ [])) [] 0 ∷ []))) (left 78 79 103 [])
    ∷ (case ten (two_waiting ++ ((103, close) ∷ [])) (asks_for_both ∷ (says [] [] [] 0 ∷ (says [] (2 ∷ (1 ∷ [])) [] 0 ∷ []))) [] ∷ [])))

abbrev pub cases : List Case
cases = paper ++ beside

-- the answers are those, and so is the record
abbrev pub Holds : Case → Type 0
Holds c = ((answers window c.table (map event c.calls) ≡ c.answers) × (channels key (run window c.table (map event c.calls)) ≡ c.after))
