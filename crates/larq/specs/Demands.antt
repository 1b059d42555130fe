-- The words in which demand 3 is put: what the rules read of an event, what survives a restart, what one channel may learn of another, and what goes up at once.
use Rattle.std.specs.Prelude.{ℕ, ◌≡◌, Bool, true, false, cond, ◌&&◌, not, List, [], ◌∷◌, map, eqb}
use Rattle.ring.specs.Ring.{Far}
use Rattle.larq.specs.Channel.{Channel}
use Rattle.larq.specs.Answer.{Answer, Outcome}
use Rattle.larq.specs.Events.{Act, frame, reminder, tick, close, side_of}
use Rattle.larq.specs.Table.{Key, Event, lent_enough, not_far}
use Rattle.larq.specs.Run.{events_of}

-- what the rules read of an event: of what is lent, only whether it is enough (number 1)
pub record Told (H : Type 0) : Type 0 where
  pub key : Key
  pub time : ℕ
  pub act : Act H
  pub enough : Bool

abbrev pub told : {H : Type 0} → ℕ → Event H → Told H
told w e = record { key = e.key; time = e.time; act = e.act; enough = lent_enough w e.lent }

-- what the rules read of a key's events
abbrev pub told_of : {H : Type 0} → ℕ → Key → List (Event H) → List (Told H)
told_of w k es = map (told w) (events_of k es)

abbrev pub is_close : {H : Type 0} → Act H → Bool
is_close (frame s h) = false
is_close (reminder s) = false
is_close tick = false
is_close close = true

-- of the answers to a channel's events, those up to and with the first accepted close
abbrev pub until_closed : {H : Type 0} → List (Event H) → List (Answer H) → List (Answer H)
until_closed [] rs = []
until_closed (e ∷ es) [] = []
until_closed (e ∷ es) (r ∷ rs) = r ∷ cond (is_close e.act && eqb r.number 0) [] (until_closed es rs)

-- a channel could not be opened, since all places are taken
abbrev pub full : {H : Type 0} → Answer H → Bool
full r = eqb r.number 5

abbrev pub just_one : Bool → Bool → Bool
just_one a b = cond a (not b) b

-- two lists of answers are the same, up to where just one of them has number 5
abbrev pub AgreeButFull : {H : Type 0} → List (Answer H) → List (Answer H) → Type 0
AgreeButFull [] [] = Unit
AgreeButFull [] (q ∷ qs) = ⊥
AgreeButFull (r ∷ rs) [] = ⊥
AgreeButFull (r ∷ rs) (q ∷ qs) = cond (just_one (full r) (full q)) Unit ((r ≡ q) × AgreeButFull rs qs)

-- the frame is far: the channel restarts
abbrev pub restarts : {H : Type 0} → ℕ → Channel H → Act H → Bool
restarts w c (frame s h) = not (not_far (side_of w c s))
restarts w c (reminder s) = false
restarts w c tick = false
restarts w c close = false

-- a frame with number s begins a channel of these records anew: there is none, or s is far from the current number of the first
abbrev pub Anew : {H : Type 0} → ℕ → List (Channel H) → ℕ → Type 0
Anew w [] s = Unit
Anew w (c ∷ cs) s = side_of w c s ≡ Far

-- h goes up first
abbrev pub UpFirst : {H : Type 0} → H → Outcome H → Type 0
UpFirst h o = (hs : List _) × (o.answer.up ≡ h ∷ hs)
