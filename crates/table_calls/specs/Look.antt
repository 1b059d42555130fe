-- What a look at a channel's record tells a host: nothing changes by it. The numbers 1, 3, 4 and 6 of document 01, 'Numbers the box may answer with',
-- in that order, which is the order of the rules' list (`look_refusals` of proofs/Viewing); else C, M, the latest time, and each number from M to C,
-- waiting or missing.
use Rattle.std.specs.Prelude.{ℕ, ◌≡◌, Bool, cond, ◌&&◌, List, [], ◌∷◌, ◌++◌, map, length, drop, leb, Result, Ok, Err}
use Rattle.larq.specs.Channel.{window, Cell, waits, missing, Channel, sound}
use Rattle.larq.specs.Table.{Key, Table, channels, priority_fits}
use Rattle.larq.specs.Refused.{number_of}
use Rattle.larq.specs.declared.refused.Refused.{Refused}
use Rattle.table_calls.specs.Emptied.{whole_slices}
use Rattle.table.specs.Table.{Slices}
use Rattle.table_calls.specs.declared.looking.View.{View}

pub record Shown : Type 0 where
  pub number : ℕ
  pub current : ℕ
  pub oldest : ℕ
  pub latest : ℕ
  pub cells : List (Cell ℕ)

-- a refusal tells its number and nothing else
abbrev pub unseen : ℕ → Shown
unseen n = record { number = n; current = 0; oldest = 0; latest = 0; cells = [] }

abbrev pub shown_sound : Channel ℕ → Shown
shown_sound c = record { number = 0; current = c.current; oldest = c.oldest; latest = c.latest; cells = c.cells }

-- a record by itself: number 6 where it is broken
abbrev pub shown_at : Channel ℕ → Shown
shown_at c = cond (sound window c) (shown_sound c) (unseen 6)

-- the first of a key's records, or number 4 where it has none
abbrev pub shown_first : List (Channel ℕ) → Shown
shown_first [] = unseen 4
shown_first (c ∷ cs) = shown_at c

-- a look at the channel of a key, where `lent` says that the slices are those of a table and that each buffer for cells has 32 entries
abbrev pub shown_of : Bool → Key → Table ℕ → Shown
shown_of lent k t = cond lent (cond (priority_fits k) (shown_first (channels k t)) (unseen 3)) (unseen 1)

abbrev pub lent_for : Slices → List ℕ → List ℕ → Bool
lent_for s marks values = (leb window (length marks) && leb window (length values)) && whole_slices s

-- a cell as two numbers: 1 and its handle where it waits, 0 and its time where it is missing
abbrev pub cell_mark : Cell ℕ → ℕ
cell_mark (waits h) = 1
cell_mark (missing t) = 0

abbrev pub cell_value : Cell ℕ → ℕ
cell_value (waits h) = h
cell_value (missing t) = t

-- a list stands at the front of a buffer, whose further entries are as they were
abbrev pub Fronts : List ℕ → List ℕ → List ℕ → Type 0
Fronts list before after = after ≡ list ++ drop (length list) before

-- what a host is told of a look: the number, C, M, the latest time, and how many numbers there are from M to C
pub record Seen : Type 0 where
  pub number : ℕ
  pub current : ℕ
  pub oldest : ℕ
  pub latest : ℕ
  pub span : ℕ

-- the cases of a result: a view has number 0, and a refusal its number and nothing else
abbrev pub seen : Result View Refused → Seen
seen (Ok v) = record { number = 0; current = v.current; oldest = v.oldest; latest = v.latest; span = v.span }
seen (Err e) = record { number = number_of e; current = 0; oldest = 0; latest = 0; span = 0 }

-- a number beside a view, as a host is told of both
abbrev pub seen_as : ℕ → View → Seen
seen_as n v = record { number = n; current = v.current; oldest = v.oldest; latest = v.latest; span = v.span }

-- the answer to a look
pub record Looked (shown : Shown) (waited waits valued values : List ℕ) (given : Seen) : Type 0 where
  pub number : given.number ≡ shown.number
  pub current : given.current ≡ shown.current
  pub oldest : given.oldest ≡ shown.oldest
  pub latest : given.latest ≡ shown.latest
  pub span : given.span ≡ length shown.cells
  pub marks : Fronts (map cell_mark shown.cells) waited waits
  pub cells : Fronts (map cell_value shown.cells) valued values
