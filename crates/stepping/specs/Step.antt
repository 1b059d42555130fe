-- The step ahead over the slots of a place. Document 01, 'Data', 'Reminder' and 'Settling'.
use Rattle.std.specs.Prelude.{ℕ, zero, suc, ◌-◌, ◌≡◌, Bool, true, false, ◌&&◌, List, length, leb}
use Rattle.std.proofs.lemmas.List.Edits.{sets}
use Rattle.ring.specs.Ring.{steps, next, rising}
use Rattle.larq.specs.Channel.{window}
use Rattle.larq.specs.Table.{Lent, lent_enough}
use Rattle.slots.specs.Slots.{slot_of, with_time, with_missing}
use Rattle.record.specs.Buffers.{Laid}
use Rattle.record.specs.Place.{place_lent}
use Rattle.record.specs.Moving.{span_in, IsGrown}
use Rattle.record.specs.Walk.{waiting_of}
use Rattle.record.specs.declared.Record.{Record}
use Rattle.record.specs.declared.Grown.{Grown}
use Rattle.stepping.specs.declared.Counts.{Counts}
use Rattle.stepping.specs.declared.Passed.{Passed}

-- a list with a store at the slots of n numbers from m on
unfoldable pub stamped : (List ℕ → ℕ → List ℕ) → List ℕ → ℕ → ℕ → List ℕ
stamped put l m zero = l
stamped put l m (suc n) = stamped put (put l (slot_of m)) (next m) n

-- a place's words and its marks when n numbers from m on have become missing at a time
abbrev pub times_missing : List ℕ → ℕ → ℕ → ℕ → List ℕ
times_missing words m n time = stamped (λ w j. with_time w j time) words m n

abbrev pub marks_missing : List ℕ → ℕ → ℕ → List ℕ
marks_missing marks m n = stamped with_missing marks m n

-- n numbers from m on were made missing at a time, and asked for
pub record Missed (m n time : ℕ) (w k q w' k' q' : List ℕ) : Type 0 where
  pub words : w' ≡ times_missing w m n time
  pub marks : k' ≡ marks_missing k m n
  pub nack : q' ≡ sets q 0 (rising m n)

-- a step by d numbers, `made` of which become missing, can be taken: parts and buffers are as long as they should be, and the window is not too wide
abbrev pub can_widen : Lent → ℕ → ℕ → ℕ → Bool
can_widen lent span made d = lent_enough window lent && (leb span window && leb made d)

-- whether C can come to s so, in these parts and buffers
abbrev pub can_step : Record → ℕ → ℕ → List ℕ → List ℕ → List ℕ → List ℕ → List ℕ → Bool
can_step r s made w h k u q =
    can_widen (place_lent (length w) (length h) (length k) (length u) (length u) (length q)) (span_in r) made (steps r.current.0 s)

-- nothing has been answered yet
abbrev pub nothing : Counts
nothing = record { up = 0; nack = 0; lost = 0 }

-- no step: nothing is passed, and nothing becomes missing
abbrev pub unmoved : Record → Grown
unmoved r = record { kept = r; over = 0; old = 0; first = r.current; count = 0 }

-- C has come to s: the window is the grown one, those that M passed at once went up, and those that became missing are asked for
pub record Widened (r : Record) (s made time : ℕ) (w h k u q w' k' u' q' : List ℕ) (p : Passed) : Type 0 where
  pub grown : IsGrown r s made time p.grown
  pub handed : Laid (waiting_of h k r.oldest.0 p.grown.old) 0 u u' p.had.up
  pub missed : Missed p.grown.first.0 p.grown.count time w k q w' k' q'
  pub asked : p.had.nack ≡ p.grown.count
  pub lost : p.had.lost ≡ p.grown.over - p.had.up

-- nothing was done
pub record Unwidened (r : Record) (w k u q w' k' u' q' : List ℕ) (p : Passed) : Type 0 where
  pub words : w' ≡ w
  pub marks : k' ≡ k
  pub up : u' ≡ u
  pub nack : q' ≡ q
  pub passed : p ≡ record { grown = unmoved r; had = nothing }

-- the step is taken where it can be, and nothing is done where it cannot
pub record Widens (r : Record) (s made time : ℕ) (w h k u q w' k' u' q' : List ℕ) (p : Passed) : Type 0 where
  pub taken : can_step r s made w h k u q ≡ true → Widened r s made time w h k u q w' k' u' q' p
  pub left : can_step r s made w h k u q ≡ false → Unwidened r w k u q w' k' u' q' p
