-- M moves on over the window: document 01, 'Settling' and 'Tick'. One walk serves both; they differ in when a missing M is given up.
use Rattle.std.specs.Prelude.{ℕ, suc, ◌+◌, Bool, cond, List, [], ◌∷◌, length, ltb, leb}
use Rattle.ring.specs.Ring.{next}
use Rattle.larq.specs.Channel.{Cell, waits, missing}

-- after M has moved: M, the window that is left, what was handed up in order, and how many were counted lost
pub record Walked (H : Type 0) : Type 0 where
  pub oldest : ℕ
  pub cells : List (Cell H)
  pub up : List H
  pub lost : ℕ

abbrev pub stays : {H : Type 0} → ℕ → List (Cell H) → Walked H
stays m cs = record { oldest = m; cells = cs; up = []; lost = 0 }

abbrev pub handing : {H : Type 0} → H → Walked H → Walked H
handing h w = record { oldest = w.oldest; cells = w.cells; up = h ∷ w.up; lost = w.lost }

abbrev pub losing : {H : Type 0} → Walked H → Walked H
losing w = record { oldest = w.oldest; cells = w.cells; up = w.up; lost = suc w.lost }

-- M goes up where it waits; where it is missing, a test of its time and the span says whether it is lost or the walk ends; then the same for the next number, while there is one
abbrev pub walk : {H : Type 0} → (ℕ → ℕ → Bool) → ℕ → List (Cell H) → Walked H
walk givesUp m [] = stays m []
walk givesUp m (waits h ∷ cs) = handing h (walk givesUp (next m) cs)
walk givesUp m (missing t ∷ cs) = cond (givesUp t (suc (length cs))) (losing (walk givesUp (next m) cs)) (stays m (missing t ∷ cs))

-- settling gives a missing M up while the span exceeds the window w
abbrev pub wide : ℕ → ℕ → ℕ → Bool
wide w t span = ltb w span

-- how long a missing number is waited for
abbrev pub hold : ℕ
hold = 150

-- a tick gives up an M that is missing for 150 ticks or more
abbrev pub stale : ℕ → ℕ → ℕ → Bool
stale now t span = leb (t + hold) now
