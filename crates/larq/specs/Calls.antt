-- Calls told apart by their index in a run, so that equal handles are: the words for what becomes of an accepted handle. It goes up, comes back
-- or still waits, and no two of these (document 01, 'The four channel events', last paragraph).
use Rattle.std.specs.Prelude.{ℕ, zero, suc, ◌+◌, ◌≡◌, cond, List, [], ◌∷◌, ◌++◌, eqb}
use Rattle.larq.specs.Channel.{waiting}
use Rattle.larq.specs.Answer.{Answer}
use Rattle.larq.specs.Events.{Act, frame, reminder, tick, close}
use Rattle.larq.specs.Table.{Place, free, held, Table, Event}

-- all handles that answers return, in order
abbrev pub all_returned : {H : Type 0} → List (Answer H) → List H
all_returned [] = []
all_returned (r ∷ rs) = r.returned ++ all_returned rs

abbrev pub waiting_at : {H : Type 0} → Place H → List H
waiting_at free = []
waiting_at (held k c) = waiting c.cells

-- the handles that wait in a table
abbrev pub waiting_in : {H : Type 0} → Table H → List H
waiting_in [] = []
waiting_in (p ∷ t) = waiting_at p ++ waiting_in t

module _ {A : Type 0} where
  abbrev pub indexed_act : ℕ → Act A → Act (ℕ × A)
  indexed_act i (frame s h) = frame s (i, h)
  indexed_act i (reminder s) = reminder s
  indexed_act i tick = tick
  indexed_act i close = close

  abbrev pub indexed_event : ℕ → Event A → Event (ℕ × A)
  indexed_event i e = record { key = e.key; time = e.time; act = indexed_act i e.act; lent = e.lent }

  -- each call's handle beside the call's index, counted from i
  abbrev pub indexed : ℕ → List (Event A) → List (Event (ℕ × A))
  indexed i [] = []
  indexed i (e ∷ es) = indexed_event i e ∷ indexed (suc i) es

  -- how often the handle of call j stands in a list
  abbrev pub occurrences : ℕ → List (ℕ × A) → ℕ
  occurrences j [] = 0
  occurrences j (x ∷ xs) = cond (eqb x.0 j) 1 0 + occurrences j xs

  abbrev pub IsData : Act A → Type 0
  IsData (frame s h) = Unit
  IsData (reminder s) = ⊥
  IsData tick = ⊥
  IsData close = ⊥

  -- call j of a run is data, and was accepted
  abbrev pub AcceptedData : List (Event A) → List (Answer A) → ℕ → Type 0
  AcceptedData [] rs j = ⊥
  AcceptedData (e ∷ es) [] j = ⊥
  AcceptedData (e ∷ es) (r ∷ rs) zero = (IsData e.act × (r.number ≡ 0))
  AcceptedData (e ∷ es) (r ∷ rs) (suc j) = AcceptedData es rs j
