-- Document 01, 'Numbers the box may answer with' and 'The channel table', as one table of cases: each number 0 to 8, the order of the
-- numbers, the first of two places with one key, and the first free place. `numbers` (proofs/Numbers) is its one statement.
use Rattle.std.specs.Prelude.{ℕ, ◌≡◌, Bool, true, false, List, [], ◌∷◌, ◌++◌, replicate}
use Rattle.larq.specs.Channel.{Cell, waits, missing, Channel, window}
use Rattle.larq.specs.Events.{Act, frame, reminder, tick, close, opened}
use Rattle.larq.specs.Table.{Key, Place, free, held, Table, Lent, Event, outcome, step}

abbrev key : ℕ → Key
key priority = record { destination = 1; source = 2; priority = priority }

abbrev lends : ℕ → ℕ → ℕ → Bool → Lent
lends up returned nack whole = record { up = up; returned = returned; nack = nack; whole = whole }

-- just enough
abbrev enough : Lent
enough = lends 32 32 32 true

pub record Case : Type 0 where
  pub table : Table ℕ
  pub event : Event ℕ
  pub number : ℕ
  pub after : Table ℕ

-- an event at time 100 of the key with this priority
abbrev event : Lent → ℕ → Act ℕ → Event ℕ
event lent priority a = record { key = key priority; time = 100; act = a; lent = lent }

abbrev plain : Act ℕ → Event ℕ
plain a = event enough 0 a

-- a refusal leaves the table
abbrev refuses : Table ℕ → Event ℕ → ℕ → Case
refuses t e n = record { table = t; event = e; number = n; after = t }

abbrev accepts : Table ℕ → Event ℕ → Table ℕ → Case
accepts t e u = record { table = t; event = e; number = 0; after = u }

-- an open place of this key at C, and of another key
abbrev at : ℕ → Place ℕ
at s = held (key 0) (opened s 100)

abbrev other : Place ℕ
other = held (key 1) (opened 7 100)

-- keys that differ from this one in one part each
abbrev others : Table ℕ
others = held (record { destination = 3; source = 2; priority = 0 }) (opened 7 100) ∷ (held (record { destination = 1; source = 3; priority = 0 }) (opened 7 100) ∷ (other ∷ []))

-- tables of one place: C is 10, M is 11; the same, with a latest time after the event's; and any record of this key
abbrev mine : Table ℕ
mine = at 10 ∷ []

abbrev late : Table ℕ
late = held (key 0) (opened 10 101) ∷ []

abbrev stores : Channel ℕ → Table ℕ
stores c = held (key 0) c ∷ []

abbrev having : ℕ → ℕ → ℕ → List (Cell ℕ) → Channel ℕ
having c m t cells = record { current = c; oldest = m; latest = t; cells = cells }

-- each number by itself, for each part of its condition
abbrev pub each : List Case
each =
    refuses mine (event (lends 31 32 32 true) 0 tick) 1
    ∷ (refuses mine (event (lends 32 31 32 true) 0 tick) 1
    ∷ (refuses mine (event (lends 32 32 31 true) 0 tick) 1
    ∷ (refuses mine (event (lends 32 32 32 false) 0 tick) 1
    ∷ (refuses mine (plain (frame 4096 1)) 2
    ∷ (refuses mine (plain (reminder 4096)) 2
    ∷ (refuses (free ∷ []) (event enough 8 (frame 5 1)) 3
    ∷ (refuses (other ∷ (free ∷ [])) (plain (reminder 8)) 4
    ∷ (refuses (other ∷ (free ∷ [])) (plain tick) 4
    ∷ (refuses (other ∷ (free ∷ [])) (plain close) 4
    ∷ (refuses (other ∷ []) (plain (frame 5 1)) 5
    ∷ (refuses (stores (having 4096 11 100 [])) (plain (frame 11 1)) 6
    ∷ (refuses (stores (having 10 4096 100 [])) (plain (frame 11 1)) 6
    ∷ (refuses (stores (having 43 11 100 (replicate 33 (missing 50)))) (plain tick) 6
    ∷ (refuses (stores (having 11 11 100 (waits 3 ∷ []))) (plain tick) 6
    ∷ (refuses (stores (having 11 11 100 (missing 101 ∷ []))) (plain close) 6
    ∷ (refuses (stores (having 12 11 100 (missing 60 ∷ (missing 50 ∷ [])))) (plain tick) 6
    ∷ (refuses late (plain (frame 11 1)) 7
    ∷ (refuses late (plain (reminder 11)) 7
    ∷ (refuses late (plain tick) 7
    ∷ (refuses late (plain close) 7
    ∷ (refuses mine (plain (reminder 75)) 8
    ∷ (refuses mine (plain (reminder 4041)) 8 ∷ []))))))))))))))))))))))

-- where two apply: 1 and 2, 2 and 3, 2 and 4, 2 and 5, 3 and 4, 3 and 5, 3 and 6, the tests of 4 and 5, 6 and 7, 6 and 8, 7 and 8
abbrev firsts : List Case
firsts =
    refuses mine (event (lends 32 31 32 true) 0 (frame 4096 1)) 1
    ∷ (refuses (free ∷ []) (event enough 8 (frame 4096 1)) 2
    ∷ (refuses (other ∷ (free ∷ [])) (plain (reminder 4096)) 2
    ∷ (refuses (other ∷ []) (plain (frame 4096 1)) 2
    ∷ (refuses (free ∷ []) (event enough 8 tick) 3
    ∷ (refuses (other ∷ []) (event enough 8 (frame 5 1)) 3
    ∷ (refuses (held (key 8) (having 4096 11 100 []) ∷ []) (event enough 8 tick) 3
    ∷ (refuses (other ∷ []) (plain (reminder 8)) 4
    ∷ (refuses (other ∷ []) (plain tick) 4
    ∷ (refuses (other ∷ []) (plain close) 4
    ∷ (refuses (stores (having 4096 11 101 [])) (plain tick) 6
    ∷ (refuses (stores (having 10 4096 100 [])) (plain (reminder 75)) 6
    ∷ (refuses late (plain (reminder 75)) 7 ∷ []))))))))))))

-- none applies: at the last priority, number, distance and window that pass; a free place before the channel's; the first free place, behind channels that differ in one part of the key; and the first of two places with one key
abbrev passes : List Case
passes =
    accepts (free ∷ []) (event enough 7 (frame 4095 1)) (held (key 7) (opened 4095 100) ∷ [])
    ∷ (accepts mine (plain (reminder 74)) (stores (having 74 43 100 (replicate 32 (missing 100))))
    ∷ (accepts mine (plain (reminder 4042)) mine
    ∷ (accepts (stores (having 42 11 100 (replicate 32 (missing 0)))) (plain (reminder 42)) (stores (having 42 11 100 (replicate 32 (missing 0))))
    ∷ (accepts (free ∷ mine) (plain (frame 11 1)) (free ∷ (at 11 ∷ []))
    ∷ (accepts (others ++ (free ∷ (free ∷ []))) (plain (frame 10 1)) (others ++ (at 10 ∷ (free ∷ [])))
    ∷ (accepts (other ∷ (at 10 ∷ (at 20 ∷ []))) (plain (frame 11 1)) (other ∷ (at 11 ∷ (at 20 ∷ [])))
    ∷ (accepts (other ∷ (at 10 ∷ (at 20 ∷ []))) (plain close) (other ∷ (free ∷ (at 20 ∷ []))) ∷ [])))))))

abbrev pub cases : List Case
cases = each ++ (firsts ++ passes)

-- the number is that one, and so is the table
abbrev pub Holds : Case → Type 0
Holds c = (((outcome window c.table c.event).answer.number ≡ c.number) × (step window c.table c.event ≡ c.after))
