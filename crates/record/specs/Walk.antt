-- M's walk over the slots of a place, and the handles that wait there. Document 01, 'Settling', 'Tick', 'Data' and 'Close'.
use Rattle.std.specs.Prelude.{ℕ, ◌+◌, ◌-◌, ◌≡◌, Bool, cond, ◌&&◌, List, [], length, ltb, leb}
use Rattle.larq.specs.Channel.{waiting}
use Rattle.larq.specs.Settling.{Walked, walk}
use Rattle.slots.specs.Slots.{place_words, place_sized}
use Rattle.record.specs.Place.{cells_from, cell_at}
use Rattle.record.specs.Buffers.{Laid}
use Rattle.record.specs.declared.Record.{Record}
use Rattle.record.specs.declared.window.Settled.{Settled}

-- a missing M is given up if it is missing since before the time `until`
abbrev pub earlier : ℕ → ℕ → ℕ → Bool
earlier until t span = ltb t until

-- how many numbers M passed: they were handed up or given up
abbrev pub passes : {H : Type 0} → Walked H → ℕ
passes p = length p.up + p.lost

-- M's walk over n numbers from m on
abbrev pub walk_from : ℕ → List ℕ → List ℕ → List ℕ → ℕ → ℕ → Walked ℕ
walk_from until w h k m n = walk (earlier until) m (cells_from (cell_at w h k) m n)

-- M has settled, over n numbers: what went up was laid into a buffer from index `at` on
pub record Settles (r : Record) (n until : ℕ) (w h k : List ℕ) (at : ℕ) (before after : List ℕ) (s : Settled) : Type 0 where
  pub up : Laid (walk_from until w h k r.oldest.0 n).up at before after (at + s.up)
  pub lost : s.lost ≡ (walk_from until w h k r.oldest.0 n).lost
  pub oldest : s.kept.oldest.0 ≡ (walk_from until w h k r.oldest.0 n).oldest
  pub current : s.kept.current.0 ≡ r.current.0
  pub latest : s.kept.latest ≡ r.latest

-- as many of n as there is room for
abbrev pub most : ℕ → ℕ → ℕ
most n room = n - (n - room)

-- over how many of n numbers M walks: as many as there is room for from `at` on, and none where the parts are not those of a place
abbrev pub settle_numbers : List ℕ → List ℕ → List ℕ → ℕ → ℕ → List ℕ → ℕ
settle_numbers w h k n at up = cond (place_sized (length w) (length h) (length k)) (most n (length up - at)) 0

-- the waiting handles of n numbers from m on, in sequence order: the times of missing numbers have no part in it
abbrev pub waiting_of : List ℕ → List ℕ → ℕ → ℕ → List ℕ
waiting_of handles marks m n = waiting (cells_from (cell_at [] handles marks) m n)

-- of how many of n numbers the waiting handles are laid down: of all, or of none where the slots are not those of a place or n have no room
abbrev pub hand_numbers : List ℕ → List ℕ → ℕ → List ℕ → ℕ
hand_numbers h k n out = cond (place_sized place_words (length h) (length k) && leb n (length out)) n 0
