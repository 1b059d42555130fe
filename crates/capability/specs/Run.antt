-- Events of one station in a row, how long a flag stays announced, and how long one stays heard.
-- Document 01, 'Capability sets'; 001, 6.5.2 (one to two minutes after the last use) and 6.5.4.
use Rattle.std.specs.Prelude.{ℕ, suc, ◌≤◌, ◌≡◌, ◌↔◌, List, [], ◌∷◌}
use Rattle.capability.specs.declared.Frame.{Frame}
use Rattle.capability.specs.declared.Station.{Station}
use Rattle.capability.specs.Sets.{current_tx, current_rx}
use Rattle.capability.specs.Answers.{Outcome}
use Rattle.capability.specs.Events.{used, ended, taken_away, received}
use Rattle.capability.specs.Flags.{Word, ◌isIn◌, ◌isNotIn◌}

pub data Event : Type 0 where
  use_of : ℕ → Event
  period_end : Event
  frame_with : ℕ → Frame → Event

abbrev pub outcome : Station → Event → Outcome
outcome s (use_of f) = used s f
outcome s period_end = ended s
outcome s (frame_with opcode f) = received s opcode f

-- the station after a run of events
unfoldable pub run : Station → List Event → Station
run s [] = s
run s (e ∷ es) = run (outcome s e).station es

-- how many period ends a run has
unfoldable pub period_ends : List Event → ℕ
period_ends [] = 0
period_ends (period_end ∷ es) = suc (period_ends es)
period_ends (use_of f ∷ es) = period_ends es
period_ends (frame_with opcode f ∷ es) = period_ends es

-- each use in a run is of flags of which this holds
unfoldable pub EachUse : (ℕ → Type 0) → List Event → Type 0
EachUse P [] = Unit
EachUse P (period_end ∷ es) = EachUse P es
EachUse P (use_of f ∷ es) = P f × EachUse P es
EachUse P (frame_with opcode f ∷ es) = EachUse P es

-- how a flag ages that a station used before a run of events
pub record Ages (i f : ℕ) (s : Station) (es : List Event) : Type 0 where
  -- it is in CurrentTx for this period and the next
  pub stays : period_ends es ≤ 1 → i isIn current_tx (run s (use_of f ∷ es)).tx
  -- after two period ends without use it is gone, unless it is in the default set
  pub goes : 2 ≤ period_ends es → EachUse (λ g. i isNotIn g) es → (i isIn current_tx (run s (use_of f ∷ es)).tx) ↔ (i isIn s.default)
  -- and the frames of that period say so: it is in their OldestTx
  pub in_oldest : period_ends es ≡ 2 → i isIn (run s (use_of f ∷ es)).tx.oldest

-- of each frame in a run that is not refused this holds
unfoldable pub EachFrame : (Frame → Type 0) → List Event → Type 0
EachFrame P [] = Unit
EachFrame P (period_end ∷ es) = EachFrame P es
EachFrame P (use_of f ∷ es) = EachFrame P es
EachFrame P (frame_with opcode f ∷ es) = (opcode ≤ 1 → P f) × EachFrame P es

-- a frame, its OldestTx a word, that does not take flag i away
abbrev pub Spares : ℕ → Frame → Type 0
Spares i f = Word f.oldest × (i isNotIn taken_away f)

-- how a flag ages that a frame announced before a run of events
pub record AgesHeard (i opcode : ℕ) (f : Frame) (s : Station) (es : List Event) : Type 0 where
  -- in this period it is in NewRx, and in the next in PreviousRx, unless a frame takes it away
  pub in_new : period_ends es ≡ 0 → EachFrame (Spares i) es → i isIn (run s (frame_with opcode f ∷ es)).rx.new
  pub in_previous : period_ends es ≡ 1 → EachFrame (Spares i) es → i isIn (run s (frame_with opcode f ∷ es)).rx.previous
  -- after two period ends it is gone from CurrentRx, unless a frame announces it again
  pub goes : 2 ≤ period_ends es → EachFrame (λ g. i isNotIn g.current) es → i isNotIn current_rx (run s (frame_with opcode f ∷ es)).rx
