-- The words of demand 3 by example: what each lets through, and what it shuts out. A theorem says no more than its words do.
use Prim.Native.Nat.{ℕ}
use mathlib.Core.Path.{◌≡◌, refl, ap, sym}
use mathlib.Core.Bool.{true, false, cond}
use mathlib.Core.Option.{some, none}
use mathlib.Core.List.{List, [], ◌∷◌, map}
use native.Mathlib.Omega.{arith}
use lib.ListN.{length, get_or}
use Rattle.ring.specs.Ring.{side, distance}
use Rattle.larq.specs.Channel.{waits, missing, Channel, span, window}
use Rattle.larq.specs.Answer.{Answer, same, holds, freed, accepted, Dated}
use Rattle.larq.specs.Events.{Act, frame, reminder, tick, close, opened}
use Rattle.larq.specs.Table.{Key, same_key, Event}
use Rattle.larq.specs.Run.{empty, events_of, answers_to}
use Rattle.larq.specs.Demands.{Told, told, until_closed, AgreeButFull, Anew, restarts, UpFirst}
use Rattle.larq.specs.Sequence.{waits_with, in_sequence}
use Rattle.larq.specs.Counts.{sent, Note, Within, Rising, all_up}
use Rattle.larq.specs.Calls.{all_returned, indexed, occurrences, AcceptedData}

abbrev answer : ℕ → List ℕ → Answer ℕ
answer n up = record { number = n; up = up; returned = []; nack = []; lost = 0 }

-- the first handle that goes up
abbrev first : Answer ℕ → ℕ
first r = get_or r.up 0 0

no_two : ◌≡◌ {A = ℕ} 1 2 → ⊥
no_two p = omega arith

-- AgreeButFull: another handle, and an answer too many, are no agreement; one place too few is all that excuses what follows
agree_not_else : AgreeButFull (answer 0 (1 ∷ []) ∷ []) (answer 0 (2 ∷ []) ∷ []) → ⊥
agree_not_else p = no_two (ap first p.0)

agree_not_longer : AgreeButFull (answer 0 [] ∷ []) (answer 0 [] ∷ (answer 0 [] ∷ [])) → ⊥
agree_not_longer p = p.1

agree_both_full : AgreeButFull (answer 5 [] ∷ (answer 0 (1 ∷ []) ∷ [])) (answer 5 [] ∷ (answer 0 (2 ∷ []) ∷ [])) → ⊥
agree_both_full p = no_two (ap first p.1.0)

agree_one_full : AgreeButFull (answer 5 [] ∷ (answer 4 [] ∷ [])) (answer 0 (1 ∷ []) ∷ (answer 0 [] ∷ []))
agree_one_full = tt

abbrev key : Key
key = record { destination = 1; source = 2; priority = 0 }

abbrev tells : ℕ → ℕ → Event ℕ
tells room s = record { key = key; time = 7; act = frame s 1; lent = record { up = room; returned = room; nack = room; whole = true } }

-- told: 32 entries or 64 are the same, and 31 are not
told_enough : told window (tells 32 5) ≡ told window (tells 64 5)
told_enough = refl

told_too_few : told window (tells 31 5) ≡ told window (tells 32 5) → ⊥
told_too_few p = no_two (ap (λ (x : Told ℕ). cond x.enough 2 1) p)

-- until_closed: with the close, and nothing after it; a close that is refused is none
abbrev hears_of : Act ℕ → Event ℕ
hears_of a = record { key = key; time = 7; act = a; lent = record { up = 32; returned = 32; nack = 32; whole = true } }

abbrev closes : Event ℕ
closes = hears_of close

until_cuts : until_closed (tells 32 5 ∷ (hears_of tick ∷ (hears_of (reminder 6) ∷ (closes ∷ (closes ∷ (tells 32 6 ∷ []))))))
    (answer 0 (1 ∷ []) ∷ (answer 0 [] ∷ (answer 0 [] ∷ (answer 7 [] ∷ (answer 0 [] ∷ (answer 0 (2 ∷ []) ∷ []))))))
    ≡ answer 0 (1 ∷ []) ∷ (answer 0 [] ∷ (answer 0 [] ∷ (answer 7 [] ∷ (answer 0 [] ∷ []))))
until_cuts = refl

-- Rising: strictly, and from the first on
rises : Rising (λ n. n) 5 (5 ∷ (7 ∷ []))
rises = (omega arith, (omega arith, tt))

not_twice : Rising (λ n. n) 5 (5 ∷ (5 ∷ [])) → ⊥
not_twice p = omega (arith, p.1.0)

not_before_law : Rising (λ n. n) 5 (4 ∷ []) → ⊥
not_before_law p = omega (arith, p.0)

-- Within: 64 above the highest and no more; what is refused may lie anywhere
abbrev note : ℕ → Note ℕ
note u = record { time = 7; lent = record { up = 32; returned = 32; nack = 32; whole = true }; what = sent u }

within_64 : Within (λ n. n) window 10 (note 74 ∷ (note 138 ∷ [])) (0 ∷ (0 ∷ []))
within_64 = (λ _. (omega arith, omega arith), (λ _. (omega arith, omega arith), tt))

not_65 : Within (λ n. n) window 10 (note 75 ∷ []) (0 ∷ []) → ⊥
not_65 p = omega (arith, (p.0 refl).0)

not_65_below : Within (λ n. n) window 100 (note 35 ∷ []) (0 ∷ []) → ⊥
not_65_below p = omega (arith, (p.0 refl).1)

refused_anywhere : Within (λ n. n) window 10 (note 500 ∷ (note 74 ∷ [])) (7 ∷ (0 ∷ []))
refused_anywhere = (λ (q : ◌≡◌ {A = ℕ} 7 0). absurd (let z : ⊥ = omega arith in z), (λ _. (omega arith, omega arith), tt))

-- Anew: what is near begins nothing
abbrev ten : Channel ℕ
ten = opened 10 100

anew_75 : Anew window (ten ∷ []) 75
unfolding side distance
anew_75 = refl

-- Dated: an accepted call does not leave the place as it was, nor another time
not_same : Dated {H = ℕ} 7 same → ⊥
not_same p = p

not_old : Dated 7 (holds ten) → ⊥
not_old p = omega (arith, p)

-- a window over the ring's edge: 4,095 waits with 7 and 1 with 8
abbrev over_the_edge : Channel ℕ
over_the_edge = record { current = 1; oldest = 4094; latest = 100; cells = missing 100 ∷ (waits 7 ∷ (missing 100 ∷ (waits 8 ∷ []))) }

waits_by_number : (waits_with over_the_edge 4095 ≡ some 7) × (waits_with over_the_edge 0 ≡ none) × (waits_with over_the_edge 1 ≡ some 8) × (waits_with over_the_edge 2 ≡ none)
waits_by_number = (refl, refl, refl, refl)

in_sequence_law : in_sequence over_the_edge ≡ 7 ∷ (8 ∷ [])
in_sequence_law = refl

-- the span: none, two, and four over the ring's edge
spans : (span ten ≡ 0) × (span {H = ℕ} (record { current = 12; oldest = 11; latest = 100; cells = missing 100 ∷ (waits 2 ∷ []) }) ≡ 2) × (span over_the_edge ≡ 4)
spans = (refl, refl, refl)

-- restarts: a frame from 65 on, and nothing else
restart_begins : (restarts window ten (frame 75 1) ≡ true) × (restarts window ten (frame 74 1) ≡ false)
unfolding side distance
restart_begins = (refl, refl)

restart_not_else : (restarts window ten (reminder 75) ≡ false) × (restarts window ten tick ≡ false) × (restarts window ten close ≡ false)
restart_not_else = (refl, refl, refl)

-- UpFirst: before all else, and up
up_first : UpFirst {H = ℕ} 1 (accepted (1 ∷ (2 ∷ [])) [] [] 0 freed)
up_first = (2 ∷ [], refl)

up_not_second : UpFirst {H = ℕ} 1 (accepted (2 ∷ (1 ∷ [])) [] [] 0 freed) → ⊥
up_not_second p = no_two (sym (ap (λ (l : List ℕ). get_or l 0 0) p.1))

up_not_back : UpFirst {H = ℕ} 1 (accepted [] (1 ∷ []) [] 0 freed) → ⊥
up_not_back p = let z : ◌≡◌ {A = ℕ} 0 1 = ap (λ (l : List ℕ). get_or l 0 0) p.1 in omega arith

-- a run from 64 free places; of its events and answers those of a key; all that goes up and all that comes back
sixty_four : length (empty {H = ℕ}) ≡ 64
sixty_four = refl

abbrev another : Event ℕ
another = record { key = record { destination = 1; source = 2; priority = 1 }; time = 7; act = tick; lent = closes.lent }

own_alone : (events_of key (tells 32 5 ∷ (another ∷ (closes ∷ []))) ≡ tells 32 5 ∷ (closes ∷ []))
    × (answers_to key (tells 32 5 ∷ (another ∷ (closes ∷ []))) (answer 0 (1 ∷ []) ∷ (answer 4 [] ∷ (answer 7 [] ∷ []))) ≡ answer 0 (1 ∷ []) ∷ (answer 7 [] ∷ []))
unfolding same_key
own_alone = (refl, refl)

abbrev both_ways : List (Answer ℕ)
both_ways =
    record { number = 0; up = 1 ∷ (2 ∷ []); returned = 3 ∷ []; nack = []; lost = 0 }
    ∷ (record { number = 0; up = 4 ∷ []; returned = 5 ∷ []; nack = []; lost = 0 } ∷ [])

all_of_both : (all_up both_ways ≡ 1 ∷ (2 ∷ (4 ∷ []))) × (all_returned both_ways ≡ 3 ∷ (5 ∷ []))
all_of_both = (refl, refl)

-- equal handles of two calls are told apart by the call's index; what counts is data that was accepted
indexes : map (λ (e : Event (ℕ × ℕ)). e.act) (indexed 0 (tells 32 5 ∷ (closes ∷ (tells 32 6 ∷ [])))) ≡ frame 5 (0, 1) ∷ (close ∷ (frame 6 (2, 1) ∷ []))
indexes = refl

once_of_three : occurrences {A = ℕ} 1 ((0, 9) ∷ ((1, 9) ∷ ((2, 9) ∷ []))) ≡ 1
once_of_three = refl

second_accepted : AcceptedData (closes ∷ (tells 32 5 ∷ [])) (answer 0 [] ∷ (answer 0 (1 ∷ []) ∷ [])) 1
second_accepted = (tt, refl)

refused_not_accepted : AcceptedData (tells 32 5 ∷ []) (answer 7 [] ∷ []) 0 → ⊥
refused_not_accepted p = omega (arith, p.1)

close_not_data : AcceptedData (closes ∷ []) (answer 0 [] ∷ []) 0 → ⊥
close_not_data p = p.0
