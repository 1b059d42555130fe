-- Lost and nack, event by event: M passes the first numbers of the window as the event made it; what is handed up are the waiting ones of them,
-- the lost count is that of the missing ones, and what is asked for again lies past them. Demand 2: a lost count from the air is shut out.
use Prim.Native.Nat.{ℕ, zero, suc, ◌+◌, ◌-◌, ◌≤◌, ◌<◌}
use mathlib.Core.Path.{◌≡◌, refl, ap, sym, subst, ◌∙◌}
use mathlib.Core.Bool.{Bool, true, false, not}
use mathlib.Core.Option.{Option, some, none}
use mathlib.Core.List.{List, [], ◌∷◌}
use native.Mathlib.Omega.{arith}
use lib.ListN.{length, get_or, length-append, length-replicate}
use Rattle.ring.specs.Ring.{size, forward, next, steps, rising, Side, Ahead, Behind, Far}
use Rattle.ring.proofs.Sides.{Seen, sees}
use Rattle.ring.proofs.Steps.{forward_small, forward_forward, steps_forward, length_rising}
use Rattle.larq.specs.Channel.{Cell, waits, Channel, reach}
use Rattle.larq.specs.Settling.{Walked, walk, wide, stale}
use Rattle.larq.specs.Answer.{Answer, holds, Outcome, accepted}
use Rattle.larq.specs.Events.{Act, frame, reminder, tick, close, taken, moved, asked, grown, settled_at, filling, filled, data_on, reminder_on, side_of, act_on}
use Rattle.larq.specs.Table.{Event, one, not_far}
use Rattle.larq.specs.Demands.{restarts}
use Rattle.larq.specs.Moving.{filled_or, entered_data, entered_reminder, entered, ahead_by, made, Moves}
use Rattle.larq.proofs.Cases.{one_case}
use Rattle.larq.proofs.Walk.{Passed, walk_passes}
use Rattle.larq.proofs.Sound.{Good}
use Rattle.larq.proofs.Nack.{asked_rising}

abbrev pub MovesTo : {H : Type 0} → Channel H → List (Cell H) → ℕ → Outcome H → Type 0
MovesTo c cs k o = (d : Channel _) → o.change ≡ holds d → Moves c cs k o.answer d

module _ {H : Type 0} (w : ℕ) (half : w < 1024) (c : Channel H) (t : ℕ) (g : Good w c) where
  in_ring_law : c.oldest < size
  in_ring_law = omega (arith, g.sound.oldest)

  -- M walks over the window, and the k numbers asked for are those of the walk
  walked_moves : (givesUp : ℕ → ℕ → Bool) (s k : ℕ) (cs : List (Cell H))
      → ((p : Walked H) (r : Passed c.oldest cs p) → asked c k p ≡ rising (forward (next c.current) (r.by - length c.cells)) (k - (r.by - length c.cells)))
      → MovesTo c cs k (settled_at c t s k (walk givesUp c.oldest cs))
  walked_moves givesUp s k cs asks d e =
      go (walk givesUp c.oldest cs) (walk_passes givesUp c.oldest cs in_ring_law) e
    where
      go : (p : Walked H) → Passed c.oldest cs p → (settled_at c t s k p).change ≡ holds d → Moves c cs k (settled_at c t s k p).answer d
      go p r e =
          let f : moved s t p ≡ d = cc in
          subst (Moves c cs k (settled_at c t s k p).answer) f
          (record { by = r.by; most = r.most; oldest = r.oldest; cells = r.cells; up = r.up; lost = r.lost; nack = asks p r })

  none_asked : (p : Walked H) (n : ℕ) → asked c 0 p ≡ rising (forward (next c.current) n) (0 - n)
  unfolding asked
  none_asked p n = let e : 0 ≡ 0 - n = omega arith in ap (rising (forward (next c.current) n)) e

  -- nothing is passed
  stays_moves : (hs : List H) → MovesTo c c.cells 0 (accepted [] hs [] 0 (holds (taken c t)))
  stays_moves hs d e =
      let f : taken c t ≡ d = cc in
      subst (Moves c c.cells 0 (record { number = 0; up = []; returned = hs; nack = []; lost = 0 })) f
      (record {
        by = 0;
        most = omega arith;
        oldest = omega (arith, in_ring_law);
        cells = refl;
        up = refl;
        lost = refl;
        nack = (let z : 0 ≡ 0 - (0 - length c.cells) = omega arith in ap (rising (forward (next c.current) (0 - length c.cells))) z);
      })

  -- the grown window has less than a round of numbers
  ahead_moves : (s k : ℕ) (last : List (Cell H)) → k + length last ≤ reach w → MovesTo c (grown c t k last) k (settled_at c t s k (walk (wide w) c.oldest (grown c t k last)))
  ahead_moves s k last l =
      walked_moves (wide w) s k (grown c t k last) (λ p r. asked_rising c t k last p g.joined (omega (arith, grown_length, g.sound.short)) r)
    where
      grown_length : length (grown c t k last) ≡ length c.cells + (k + length last)
      grown_length = simp (length-append, length-replicate)

  pub data_moves : (s : ℕ) (h : H) (r : Side) → Seen (reach w) c.current s r → not_far r ≡ true → MovesTo c (entered_data c t s h r) (ahead_by r - 1) (data_on w c t s h r)
  data_moves s h (Ahead d) q n = ahead_moves s (d - 1) (waits h ∷ []) (omega (arith, q.some, q.near))
  data_moves s h (Behind d) q n = go (filling c.cells (steps c.oldest s) h)
    where
      go : (o : Option (List (Cell H))) → MovesTo c (filled_or c.cells o) 0 (filled w c t h o)
      go none = stays_moves (h ∷ [])
      go (some ds) = walked_moves (wide w) c.current 0 ds (λ p r. none_asked p (r.by - length c.cells))
  data_moves s h Far q n = absurd (let z : ◌≡◌ {A = ℕ} 0 1 = cc in omega arith)

  pub reminder_moves : (s : ℕ) (r : Side) → Seen (reach w) c.current s r → MovesTo c (entered_reminder c t r) (ahead_by r) (reminder_on w c t s r)
  reminder_moves s (Ahead d) q = ahead_moves s d [] (omega (arith, q.near))
  reminder_moves s (Behind d) q = stays_moves []
  reminder_moves s Far q = stays_moves []

  pub act_moves : (a : Act H) → restarts w c a ≡ false → MovesTo c (entered w c t a) (made w c a) (act_on w c t a)
  unfolding act_on
  act_moves (frame s h) n = data_moves s h (side_of w c s) (sees (reach w) c.current s (omega arith)) (not_far_law (not_far (side_of w c s)) n)
    where
      not_far_law : (b : Bool) → not b ≡ false → b ≡ true
      not_far_law true e = refl
      not_far_law false e = cc
  act_moves (reminder s) n = reminder_moves s (side_of w c s) (sees (reach w) c.current s (omega arith))
  act_moves tick n = walked_moves (stale t) c.current 0 c.cells (λ p r. none_asked p (r.by - length c.cells))
  act_moves close n = λ d e. absurd (let z : ◌≡◌ {A = ℕ} 0 1 = cc in omega arith)

-- On a good record, an event that leaves the channel open and is no restart: the lost count is that of the missing numbers that M passed, what went up are
-- the waiting ones, and what is asked for again is the run of numbers made missing by this call past those that it gave up.
pub moves : {H : Type 0} (w : ℕ) → w < 1024 → (spare : Bool) (c : Channel H) (cs : List (Channel H)) (e : Event H) → Good w c → restarts w c e.act ≡ false
    → (d : Channel H) → (one w spare (c ∷ cs) e).change ≡ holds d
    → Moves c (entered w c e.time e.act) (made w c e.act) (one w spare (c ∷ cs) e).answer d
moves w half spare c cs e g n =
    one_case w spare (c ∷ cs) e (MovesTo c (entered w c e.time e.act) (made w c e.act))
    (λ _ d q. absurd (let z : ◌≡◌ {A = ℕ} 0 1 = cc in omega arith)) (λ _. act_moves w half c e.time g e.act n)

get_d_rising : (s k i : ℕ) → s < size → i < k → get_or (rising s k) i 0 ≡ forward s i
get_d_rising s zero i l h = absurd (omega arith)
get_d_rising s (suc k) zero l h = omega arith
get_d_rising s (suc k) (suc i) l h = get_d_rising (next s) k i (omega arith) (omega arith) ∙ omega arith

-- None of the numbers asked for again is one that M passed in the same call: each lies past them, counted from the M before the call
pub none_given_up : {H : Type 0} (w : ℕ) → w < 1024 → (c : Channel H) → Good w c → (cs : List (Cell H)) (k : ℕ) → k ≤ reach w → (r : Answer H) (d : Channel H)
    → (m : Moves c cs k r d) (i : ℕ) → i < length r.nack → m.by ≤ steps c.oldest (get_or r.nack i 0)
none_given_up w half c g cs k most r d m i l =
    subst (λ (n : ℕ). m.by ≤ n) (sym place) (omega arith)
  where
    given : ℕ
    given = m.by - length c.cells

    below : i < k - given
    below = subst (λ (n : ℕ). i < n) (ap length m.nack ∙ length_rising (forward (next c.current) given) (k - given)) l

    number : get_or r.nack i 0 ≡ forward c.oldest (length c.cells + (given + i))
    number =
        ap (λ (ns : List ℕ). get_or ns i 0) m.nack
        ∙ get_d_rising (forward (next c.current) given) (k - given) i (forward_small (next c.current) given) below
        ∙ forward_forward (next c.current) given i
        ∙ ap (λ (a : ℕ). forward a (given + i)) (sym g.joined)
        ∙ forward_forward c.oldest (length c.cells) (given + i)

    place : steps c.oldest (get_or r.nack i 0) ≡ length c.cells + (given + i)
    place = ap (steps c.oldest) number ∙ steps_forward c.oldest (length c.cells + (given + i)) (omega (arith, below, g.sound.short))
