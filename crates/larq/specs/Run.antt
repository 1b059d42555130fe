-- A run: events one after the other on a table. The theorems of demand 3 speak of runs.
use Rattle.std.specs.Prelude.{ℕ, cond, List, [], ◌∷◌, replicate}
use Rattle.larq.specs.Answer.{Answer}
use Rattle.larq.specs.Table.{Key, same_key, free, Table, Event, outcome, step}

-- 64 free places
abbrev pub empty : {H : Type 0} → Table H
empty = replicate 64 free

-- the table after a run
abbrev pub run : {H : Type 0} → ℕ → Table H → List (Event H) → Table H
run w t [] = t
run w t (e ∷ es) = run w (step w t e) es

-- the answers of a run, one for each event
abbrev pub answers : {H : Type 0} → ℕ → Table H → List (Event H) → List (Answer H)
answers w t [] = []
answers w t (e ∷ es) = (outcome w t e).answer ∷ answers w (step w t e) es

-- of a run's events those of a key
abbrev pub events_of : {H : Type 0} → Key → List (Event H) → List (Event H)
events_of k [] = []
events_of k (e ∷ es) = cond (same_key e.key k) (e ∷ events_of k es) (events_of k es)

-- of a run's answers those to a key's events
abbrev pub answers_to : {H : Type 0} → Key → List (Event H) → List (Answer H) → List (Answer H)
answers_to k [] rs = []
answers_to k (e ∷ es) [] = []
answers_to k (e ∷ es) (r ∷ rs) = cond (same_key e.key k) (r ∷ answers_to k es rs) (answers_to k es rs)
