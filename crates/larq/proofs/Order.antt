-- Order: within reach, what a channel hands up rises strictly by the sender's count, so no count goes up twice or out of order.
-- Demand 3, second half. The channel's numbers are followed by their counts: M has the count n, C the count hi.
use Prim.Native.Nat.{ℕ, zero, suc, ◌+◌, ◌-◌, ◌%◌, ◌≤◌, ◌<◌, max}
use mathlib.Core.Path.{◌≡◌, refl, ap, sym, subst, ◌∙◌}
use mathlib.Core.Bool.{Bool, true, cond}
use mathlib.Core.Option.{Option, some, none}
use mathlib.Core.List.{List, [], ◌∷◌, ◌++◌, map}
use native.Mathlib.Omega.{arith}
use native.Mathlib.Decide.{dec_lt}
use lib.ListN.{length, take, drop, replicate, length-append, length-replicate, length-drop}
use lib.Dec.{eqb, leb, eqb-suc-zero}
use borrow.Author.Tests.{leb-true}
use Rattle.ring.specs.Ring.{size, forward, steps, seen, Side, Ahead, Behind, Far}
use Rattle.ring.proofs.Sides.{seen_above, seen_below}
use Rattle.ring.proofs.Steps.{next_mod, forward_mod, steps_up, steps_down}
use Rattle.larq.specs.Channel.{Cell, waits, missing, Channel, waiting, reach}
use Rattle.larq.specs.Settling.{Walked, walk, wide, stale}
use Rattle.larq.specs.Answer.{Change, same, holds, freed, Outcome, refused, accepted}
use Rattle.larq.specs.Events.{opened, taken, grown, settled_at, after, filling, filled, data_on, reminder_on, side_of, act_on}
use Rattle.larq.specs.Table.{Key, Table, channels, Event, one, outcome, step, number_in_ring}
use Rattle.larq.specs.Run.{answers, events_of, answers_to}
use Rattle.larq.specs.Demands.{until_closed}
use Rattle.larq.specs.Counts.{Sent, sent, reminded, strayed, stray_reminded, ticked, closed, Note, act_of, event_of_note, Near, NearBy, raised, Within, Rising, all_up, numbers}
use Rattle.larq.proofs.Cases.{one_case}
use Rattle.larq.proofs.Untouched.{act_accepts}
use Rattle.larq.proofs.Walk.{Passed, walk_passes}
use Rattle.larq.proofs.Orderly.{OnSome}
use Rattle.larq.proofs.Sound.{Sound, sound_is}
use Rattle.larq.proofs.Restart.{onward, until, from_record, BeginningFrame, beginning_leaves}

-- what the side of a count tells, where it is within the reach of hi
abbrev NearSide : ℕ → ℕ → Side → Type 0
NearSide hi u (Ahead d) = ((u ≡ hi + d) × (0 < d))
NearSide hi u (Behind d) = u ≤ hi
NearSide hi u Far = ⊥

near_side : (w hi u : ℕ) → w < 1024 → Near w hi u → NearSide hi u (seen (reach w) (hi % size) (u % size))
near_side w hi u half p = go (dec_lt hi u)
  where
    go : Dec (hi < u) → NearSide hi u (seen (reach w) (hi % size) (u % size))
    go (yes l) = rw (seen_above (reach w) hi u (omega arith) l p.0) (omega arith, omega arith)
    go (no l) = rw (seen_below (reach w) hi u (omega arith) (omega arith) p.1) (omega arith)

-- the place in the window of a count within the reach below hi
placed : (w n hi u len : ℕ) → w < 1024 → n + len ≡ suc hi → len ≤ w → u ≤ hi → hi ≤ u + reach w → steps (n % size) (u % size) < len → u ≡ n + steps (n % size) (u % size)
placed w n hi u len half e l p q h = go (dec_lt u n)
  where
    beyond : (n u hi len : ℕ) → size - (n - u) < len → u < n → n + len ≡ suc hi → len ≤ w → hi ≤ u + reach w → ⊥
    beyond n u hi len h a e l q = omega arith

    go : Dec (u < n) → u ≡ n + steps (n % size) (u % size)
    go (yes a) = absurd (beyond n u hi len (rw (steps_down n u a (omega arith)) at h) a e l q)
    go (no a) = let d : n ≤ u = omega arith in rw (steps_up n u d (omega arith)) (omega arith)

module _ {H : Type 0} (count : H → ℕ) where
  -- the waiting handles' counts, where the window's first number has the count n
  abbrev Counts : ℕ → List (Cell H) → Type 0
  Counts n [] = Unit
  Counts n (waits h ∷ cs) = ((count h ≡ n) × Counts (suc n) cs)
  Counts n (missing t ∷ cs) = Counts (suc n) cs

  Counts-append : (n : ℕ) (cs ds : List (Cell H)) → Counts n cs → Counts (n + length cs) ds → Counts n (cs ++ ds)
  Counts-append n [] ds p q = subst (λ m. Counts m ds) (omega arith) q
  Counts-append n (waits h ∷ cs) ds p q = (p.0, Counts-append (suc n) cs ds p.1 (subst (λ m. Counts m ds) (omega arith) q))
  Counts-append n (missing t ∷ cs) ds p q = Counts-append (suc n) cs ds p (subst (λ m. Counts m ds) (omega arith) q)

  Counts-missing : (n k t : ℕ) (ds : List (Cell H)) → Counts (n + k) ds → Counts n (replicate k (missing t) ++ ds)
  Counts-missing n zero t ds q = subst (λ m. Counts m ds) (omega arith) q
  Counts-missing n (suc k) t ds q = Counts-missing (suc n) k t ds (subst (λ m. Counts m ds) (omega arith) q)

  Counts-drop : (n j : ℕ) (cs : List (Cell H)) → j ≤ length cs → Counts n cs → Counts (n + j) (drop j cs)
  Counts-drop n zero cs l p = subst (λ m. Counts m cs) (omega arith) p
  Counts-drop n (suc j) [] l p = absurd (omega arith)
  Counts-drop n (suc j) (waits h ∷ cs) l p = subst (λ m. Counts m (drop j cs)) (omega arith) (Counts-drop (suc n) j cs (omega arith) p.1)
  Counts-drop n (suc j) (missing t ∷ cs) l p = subst (λ m. Counts m (drop j cs)) (omega arith) (Counts-drop (suc n) j cs (omega arith) p)

  Counts-filling : (n i : ℕ) (cs : List (Cell H)) (h : H) → Counts n cs → (i < length cs → count h ≡ n + i)
      → OnSome (λ ds. Counts n ds × (length ds ≡ length cs)) (filling cs i h)
  Counts-filling n i [] h p e = tt
  Counts-filling n zero (waits g ∷ cs) h p e = tt
  Counts-filling n zero (missing t ∷ cs) h p e = ((let q : count h ≡ n + 0 = e (omega arith) in omega arith, p), refl)
  Counts-filling n (suc i) (waits g ∷ cs) h p e =
      go (filling cs i h) (Counts-filling (suc n) i cs h p.1 (λ l. let q : count h ≡ n + suc i = e (omega arith) in omega arith))
    where
      go : (o : Option (List (Cell H))) → OnSome (λ ds. Counts (suc n) ds × (length ds ≡ length cs)) o
          → OnSome (λ ds. Counts n ds × (length ds ≡ suc (length cs))) (after (waits g) o)
      go none r = tt
      go (some ds) r = ((p.0, r.0), ap suc r.1)
  Counts-filling n (suc i) (missing t ∷ cs) h p e =
      go (filling cs i h) (Counts-filling (suc n) i cs h p (λ l. let q : count h ≡ n + suc i = e (omega arith) in omega arith))
    where
      go : (o : Option (List (Cell H))) → OnSome (λ ds. Counts (suc n) ds × (length ds ≡ length cs)) o
          → OnSome (λ ds. Counts n ds × (length ds ≡ suc (length cs))) (after (missing t) o)
      go none r = tt
      go (some ds) r = (r.0, ap suc r.1)

  -- counts that rise strictly from lo on, all below hi
  abbrev Climbs : ℕ → ℕ → List H → Type 0
  Climbs lo hi [] = lo ≤ hi
  Climbs lo hi (h ∷ hs) = ((lo ≤ count h) × Climbs (suc (count h)) hi hs)

  Climbs-lower : (lo' lo hi : ℕ) (hs : List H) → lo' ≤ lo → Climbs lo hi hs → Climbs lo' hi hs
  Climbs-lower lo' lo hi [] l r = omega arith
  Climbs-lower lo' lo hi (h ∷ hs) l r = (omega arith, r.1)

  Climbs-append : (lo mid hi : ℕ) (hs gs : List H) → Climbs lo mid hs → Climbs mid hi gs → Climbs lo hi (hs ++ gs)
  Climbs-append lo mid hi [] gs r q = Climbs-lower lo mid hi gs r q
  Climbs-append lo mid hi (h ∷ hs) gs r q = (r.0, Climbs-append (suc (count h)) mid hi hs gs r.1 q)

  Climbs-rising : (lo hi : ℕ) (hs : List H) → Climbs lo hi hs → Rising count lo hs
  Climbs-rising lo hi [] r = tt
  Climbs-rising lo hi (h ∷ hs) r = (r.0, Climbs-rising (suc (count h)) hi hs r.1)

  -- the waiting ones of the first j numbers climb
  waiting_climbs : (n j : ℕ) (cs : List (Cell H)) → j ≤ length cs → Counts n cs → Climbs n (n + j) (waiting (take j cs))
  waiting_climbs n zero cs l p = omega arith
  waiting_climbs n (suc j) [] l p = absurd (omega arith)
  waiting_climbs n (suc j) (waits h ∷ cs) l p = (
    omega arith,
    subst (λ m. Climbs (suc (count h)) m (waiting (take j cs))) (omega arith)
        (subst (λ m. Climbs (suc m) (suc n + j) (waiting (take j cs))) (sym p.0) (waiting_climbs (suc n) j cs (omega arith) p.1)),
  )
  waiting_climbs n (suc j) (missing t ∷ cs) l p =
      subst (λ m. Climbs n m (waiting (take j cs))) (omega arith)
      (Climbs-lower n (suc n) (suc n + j) (waiting (take j cs)) (omega arith) (waiting_climbs (suc n) j cs (omega arith) p))

  -- a channel whose M has the count n and whose C has the count hi
  record Numbered (n hi : ℕ) (c : Channel H) : Type 0 where
    pub current : c.current ≡ hi % size
    pub oldest : c.oldest ≡ n % size
    pub span : n + length c.cells ≡ suc hi
    pub counts : Counts n c.cells

  abbrev Next : ℕ → ℕ → Channel H → Change H → Type 0
  Next n hi c same = Numbered n hi c
  Next n hi c (holds d) = Numbered n hi d
  Next n hi c freed = Unit

  -- an outcome at such a channel, which raises the highest count to `top` where it is accepted
  record Steps (n hi top : ℕ) (c : Channel H) (o : Outcome H) : Type 0 where
    pub to : ℕ
    pub climbs : Climbs n to o.answer.up
    pub next : Next to (cond (eqb o.answer.number 0) top hi) c o.change

  module _ (w : ℕ) (half : w < 1024) (n hi : ℕ) (c : Channel H) (t : ℕ) (inv : Numbered n hi c) where
    refused_steps : (top r : ℕ) → Steps n hi top c (refused (suc r))
    refused_steps top r = record { to = n; climbs = omega arith; next = rw (eqb-suc-zero r) inv }

    -- M walks over a window of counts up to `top`
    walked_steps : (givesUp : ℕ → ℕ → Bool) (top k s : ℕ) (cs : List (Cell H)) → Counts n cs → n + length cs ≡ suc top → s ≡ top % size
        → Steps n hi top c (settled_at c t s k (walk givesUp c.oldest cs))
    walked_steps givesUp top k s cs p e is = go (walk givesUp c.oldest cs) (walk_passes givesUp c.oldest cs (omega (arith, inv.oldest)))
      where
        go : (p : Walked H) → Passed c.oldest cs p → Steps n hi top c (settled_at c t s k p)
        go q r =
            record {
              to = n + r.by;
              climbs = rw r.up (waiting_climbs n r.by cs r.most p);
              next = record {
                current = is;
                oldest = r.oldest ∙ ap (λ (m : ℕ). forward m r.by) inv.oldest ∙ forward_mod n r.by;
                span = (let l : length q.cells ≡ length cs - r.by = ap length r.cells ∙ length-drop r.by cs in omega (arith, r.most));
                counts = rw r.cells (Counts-drop n r.by cs r.most p);
              };
            }

    stays_steps : (hs : List H) → Steps n hi hi c (accepted [] hs [] 0 (holds (taken c t)))
    stays_steps hs = record { to = n; climbs = omega arith; next = record { current = inv.current; oldest = inv.oldest; span = inv.span; counts = inv.counts } }

    grown_steps : (top k : ℕ) (last : List (Cell H)) → Counts (suc hi + k) last → hi + k + length last ≡ top
        → Steps n hi top c (settled_at c t (top % size) k (walk (wide w) c.oldest (grown c t k last)))
    grown_steps top k last p e =
        walked_steps (wide w) top k (top % size) (grown c t k last)
        (Counts-append n c.cells (replicate k (missing t) ++ last) inv.counts
        (subst (λ m. Counts m (replicate k (missing t) ++ last)) (sym inv.span) (Counts-missing (suc hi) k t last p)))
        (let l : length (grown c t k last) ≡ length c.cells + (k + length last) = simp (length-append, length-replicate) in omega (arith, inv.span)) refl

    data_steps : (h : H) → Sound w c → (r : Side) → NearSide hi (count h) r → Near w hi (count h) → Steps n hi (max hi (count h)) c (data_on w c t (count h % size) h r)
    data_steps h s (Ahead d) p q =
        subst (λ m. Steps n hi m c (data_on w c t (count h % size) h (Ahead d))) (omega arith) (grown_steps (count h) (d - 1) (waits h ∷ []) (omega arith, tt) (omega arith))
    data_steps h s (Behind d) p q =
        subst (λ m. Steps n hi m c (data_on w c t (count h % size) h (Behind d))) (omega arith)
        (go (filling c.cells i h) (Counts-filling n i c.cells h inv.counts found))
      where
        i : ℕ
        i = steps c.oldest (count h % size)

        found : i < length c.cells → count h ≡ n + i
        found l =
            let at : steps c.oldest (count h % size) ≡ steps (n % size) (count h % size) = rw inv.oldest in
            rw at (placed w n hi (count h) (length c.cells) half inv.span s.short p q.1 (rw at at l))

        go : (o : Option (List (Cell H))) → OnSome (λ ds. Counts n ds × (length ds ≡ length c.cells)) o → Steps n hi hi c (filled w c t h o)
        go none r = stays_steps (h ∷ [])
        go (some ds) r = walked_steps (wide w) hi 0 c.current ds r.0 (ap (λ (m : ℕ). n + m) r.1 ∙ inv.span) inv.current
    data_steps h s Far p q = absurd p

    reminder_steps : (u : ℕ) (r : Side) → NearSide hi u r → Steps n hi (max hi u) c (reminder_on w c t (u % size) r)
    reminder_steps u (Ahead d) p = subst (λ m. Steps n hi m c (reminder_on w c t (u % size) (Ahead d))) (omega arith) (grown_steps u d [] tt (omega arith))
    reminder_steps u (Behind d) p = subst (λ m. Steps n hi m c (reminder_on w c t (u % size) (Behind d))) (omega arith) (stays_steps [])
    reminder_steps u Far p = absurd p

    seen_current : (u : ℕ) → Near w hi u → NearSide hi u (side_of w c (u % size))
    seen_current u q = rw inv.current (near_side w hi u half q)

    -- a number above 4,095 does not pass
    no_stray : {A : Type 0} (k : ℕ) → leb (size + k) 4095 ≡ true → A
    no_stray k e = absurd (let l : size + k ≤ 4095 = leb-true (size + k) 4095 e in let z : ⊥ = omega arith in z)

    act_steps : (e : Sent H) → number_in_ring (act_of count e) ≡ true → Sound w c → NearBy count w hi e
        → Steps n hi (raised count hi e) c (act_on w c t (act_of count e))
    unfolding act_on
    act_steps (sent h) i s q = data_steps h s (side_of w c (count h % size)) (seen_current (count h) q) q
    act_steps (reminded u) i s q = reminder_steps u (side_of w c (u % size)) (seen_current u q)
    act_steps (strayed k h) i s q = no_stray k i
    act_steps (stray_reminded k) i s q = no_stray k i
    act_steps ticked i s q = walked_steps (stale t) hi 0 c.current c.cells inv.counts inv.span inv.current
    act_steps closed i s q = record { to = n; climbs = omega arith; next = tt }

  one_steps : (w : ℕ) → w < 1024 → (n hi : ℕ) (c : Channel H) → Numbered n hi c → (k : Key) (e : Note H)
      → ((one w true (c ∷ []) (event_of_note count k e)).answer.number ≡ 0 → NearBy count w hi e.what)
      → Steps n hi (raised count hi e.what) c (one w true (c ∷ []) (event_of_note count k e))
  one_steps w half n hi c inv k e =
      one_case w true (c ∷ []) (event_of_note count k e) (λ o. (o.answer.number ≡ 0 → NearBy count w hi e.what) → Steps n hi (raised count hi e.what) c o)
      (λ r _. refused_steps w half n hi c e.time inv (raised count hi e.what) r)
      (λ p q. act_steps w half n hi c e.time inv e.what p.ring (sound_is w c p.whole) (q (act_accepts w c e.time (act_of count e.what))))

  -- along the events of an open channel, until it is closed
  run_climbs : (w : ℕ) → w < 1024 → (k : Key) (n hi : ℕ) (c : Channel H) → Numbered n hi c → (ns : List (Note H))
      → Within count w hi ns (numbers (until w c (map (event_of_note count k) ns))) → (top : ℕ) × Climbs n top (all_up (until w c (map (event_of_note count k) ns)))
  run_climbs w half k n hi c inv [] q = (n, omega arith)
  run_climbs w half k n hi c inv (e ∷ ns) q =
      go (one w true (c ∷ []) (event_of_note count k e)) (one_steps w half n hi c inv k e q.0) (λ n hi d i q. run_climbs w half k n hi d i ns q) q.1
    where
      es : List (Event H)
      es = map (event_of_note count k) ns

      go : (o : Outcome H) → Steps n hi (raised count hi e.what) c o
          → ((n hi : ℕ) (d : Channel H) → Numbered n hi d → Within count w hi ns (numbers (until w d (map (event_of_note count k) ns)))
          → (top : ℕ) × Climbs n top (all_up (until w d (map (event_of_note count k) ns))))
          → Within count w (cond (eqb o.answer.number 0) (raised count hi e.what) hi) ns (numbers (onward o.change c (λ d. until w d (map (event_of_note count k) ns)) []))
          → (top : ℕ) × Climbs n top (o.answer.up ++ all_up (onward o.change c (λ d. until w d (map (event_of_note count k) ns)) []))
      go o r ih q = next o.change r.next q
        where
          hi' : ℕ
          hi' = cond (eqb o.answer.number 0) (raised count hi e.what) hi

          join : (d : Channel H) → (top : ℕ) × Climbs r.to top (all_up (until w d es)) → (top : ℕ) × Climbs n top (o.answer.up ++ all_up (until w d es))
          join d p = (p.0, Climbs-append n r.to p.0 o.answer.up (all_up (until w d es)) r.climbs p.1)

          next : (ch : Change H) → Next r.to hi' c ch → Within count w hi' ns (numbers (onward ch c (λ d. until w d es) []))
              → (top : ℕ) × Climbs n top (o.answer.up ++ all_up (onward ch c (λ d. until w d es) []))
          next same i q = join c (ih r.to hi' c i q)
          next (holds d) i q = join d (ih r.to hi' d i q)
          next freed i q = (r.to, Climbs-append n r.to r.to o.answer.up [] r.climbs (omega arith))

  opened_numbered : (u t : ℕ) → Numbered (suc u) u (opened (u % size) t)
  opened_numbered u t = record { current = refl; oldest = next_mod u; span = omega arith; counts = tt }

  -- from the record of a channel that the frame of count u has just opened
  pub order_opened : (w : ℕ) → w < 1024 → (k : Key) (t : Table H) (u time : ℕ) (cs : List (Channel H)) → channels k t ≡ opened (u % size) time ∷ cs
      → (es : List (Event H)) (ns : List (Note H)) → events_of k es ≡ map (event_of_note count k) ns
      → Within count w u ns (numbers (until_closed (events_of k es) (answers_to k es (answers w t es))))
      → Rising count (suc u) (all_up (until_closed (events_of k es) (answers_to k es (answers w t es))))
  order_opened w half k t u time cs e es ns v q =
      rw here climbs.1
    where
      c : Channel H
      c = opened (u % size) time

      here : until_closed (events_of k es) (answers_to k es (answers w t es)) ≡ until w c (map (event_of_note count k) ns)
      here = from_record w k t c cs e es ∙ ap (until w c) v

      climbs : (top : ℕ) × Rising count (suc u) (all_up (until w c (map (event_of_note count k) ns)))
      climbs =
          let r : (top : ℕ) × Climbs (suc u) top (all_up (until w c (map (event_of_note count k) ns)))
          = run_climbs w half k (suc u) u c (opened_numbered u time) ns (rw here at q) in
          (r.0, Climbs-rising (suc u) r.0 (all_up (until w c (map (event_of_note count k) ns))) r.1)

  -- A frame of count u opens or restarts its channel. From this event on, and whatever comes on other channels: as long as no frame or reminder of the
  -- channel is accepted more than the reach away from the highest before, what the channel hands up until its close rises strictly by count, from u on
  pub order : (w : ℕ) → w < 1024 → (t : Table H) (e : Event H) (h : H) → BeginningFrame w t e (count h % size) h
      → (es : List (Event H)) (ns : List (Note H)) → events_of e.key es ≡ map (event_of_note count e.key) ns
      → Within count w (count h) ns (numbers (until_closed (events_of e.key es) (answers_to e.key es (answers w (step w t e) es))))
      → Rising count (count h) ((outcome w t e).answer.up ++ all_up (until_closed (events_of e.key es) (answers_to e.key es (answers w (step w t e) es))))
  order w half t e h is es ns v q =
      let left = beginning_leaves w t e (count h % size) h is in
      rw left.up (omega arith, order_opened w half e.key (step w t e) (count h) e.time left.others left.records es ns v q)
