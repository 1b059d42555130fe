-- A chain of calls is a run of the rules: what the host hears are the run's answers, and the table is the run's. So every theorem about runs holds
-- of the box. Assumes nothing.
use Prim.Native.Nat.{ℕ}
use mathlib.Core.Path.{◌≡◌, refl, ap, ap₂, ◌∙◌}
use mathlib.Core.List.{List, ◌∷◌}
use native.Mathlib.Omega.{arith}
use Rattle.std.proofs.lemmas.Grind.{common_steps}
use Rattle.larq.specs.Answer as rule
use Rattle.larq.specs.Channel.{window}
use Rattle.larq.specs.Table.{Table, Event, outcome}
use Rattle.larq.specs.Run.{empty, run, answers}
use Rattle.larq.proofs.Sound.{Tidy, sound_from_empty}
use Rattle.place.specs.Call.{Buffers, Told, Answered}
use Rattle.table.specs.Table.{Slices, table_of}
use Rattle.table_calls.specs.Emptied.{all_zeros}
use Rattle.table_calls.proofs.Zeroing.{emptied}
use Rattle.table_calls.specs.Calls.{heard, Calls, none, call}

pub heard_is : (o : rule.Outcome ℕ) (had has : Buffers) (given : Told) → Answered o had has given → heard has given ≡ o.answer
heard_is o had has given a = grind (arith, common_steps)

pub runs : {s x : Slices} {es : List (Event ℕ)} {rs : List (rule.Answer ℕ)} → Calls s es rs x → table_of x ≡ run window (table_of s) es
runs none = refl
runs (call {s = s} {m = m} {x = x} {e = e} {es = es} had has given d cs) = runs cs ∙ ap (λ (t : Table ℕ). run window t es) d.stepped

pub hears : {s x : Slices} {es : List (Event ℕ)} {rs : List (rule.Answer ℕ)} → Calls s es rs x → rs ≡ answers window (table_of s) es
hears none = refl
hears (call {s = s} {m = m} {x = x} {e = e} {es = es} {rs = rs} had has given d cs) =
    ap₂ {C = List (rule.Answer ℕ)} (λ r l. r ∷ l) (heard_is (outcome window (table_of s) e) had has given d.answer)
    (hears cs ∙ ap (λ (t : Table ℕ). answers window t es) d.stepped)

-- from a table that `empty` has cleared: the run is one from the empty table, no record is ever broken, and no key stands twice
module _ {x : Slices} {es : List (Event ℕ)} {rs : List (rule.Answer ℕ)} (cs : Calls all_zeros es rs x) where
  pub from_empty : table_of x ≡ run window empty es
  from_empty = runs cs ∙ ap (λ (t : Table ℕ). run window t es) emptied

  pub heard_from_empty : rs ≡ answers window empty es
  heard_from_empty = hears cs ∙ ap (λ (t : Table ℕ). answers window t es) emptied

  pub stays_tidy : Tidy window (table_of x)
  stays_tidy = rw from_empty (sound_from_empty window (omega arith) es)
