-- What the calls of a step ahead leave is what the rules say: the handles that M passed and those that it met then go up, the numbers that
-- stay missing are asked for, and the place means the settled record. Assumes nothing.
use Prim.Native.Nat.{ℕ, ◌+◌, ◌-◌, ◌≤◌, ◌<◌}
use mathlib.Core.Path.{◌≡◌, refl, ap, ap₂, sym, ◌∙◌}
use mathlib.Core.List.{List, [], ◌++◌}
use native.Mathlib.Omega.{arith}
use native.Mathlib.Nat.{zero-add}
use lib.ListN.{length, length-append}
use Rattle.ring.specs.Ring.{steps, rising, size}
use Rattle.ring.proofs.Steps.{forward_small, length_rising}
use Rattle.larq.specs.Channel as channel
use Rattle.larq.specs.Settling.{Walked}
use Rattle.larq.specs.Answer.{accepted, holds}
use Rattle.larq.specs.Events.{ahead, settled_at, moved}
use mathlib.Core.Bool.{true}
use Rattle.larq.specs.Channel.{window}
use Rattle.slots.specs.Slots.{slot_of, is_missing}
use Rattle.record.specs.Place.{cells_from, cell_at, record_with}
use Rattle.place.specs.Call.{DidAt, told, parts, buffers}
use Rattle.std.specs.Prelude.{Ok}
use Rattle.record.specs.Buffers.{Laid}
use Rattle.record.specs.Walk.{waiting_of, Settles, settle_numbers}
use Rattle.stepping.specs.Step.{Missed, Widened, Widens}
use Rattle.place.specs.Steps.{Sized, Ready, Roomy, walk_of, Finished, answer_of, Last, cells_of, handles_with, marks_with, IsAhead}
use Rattle.record.specs.Moving.{record_in, span_in, IsGrown}
use Rattle.record.specs.declared.Record.{Record}
use Rattle.record.specs.declared.Grown.{Grown}
use Rattle.stepping.specs.declared.Counts.{Counts}
use Rattle.stepping.specs.declared.Passed.{Passed}
use Rattle.record.specs.declared.window.Settled.{Settled}
use Rattle.stepping.proofs.Stepping.{can_step_law}
use Rattle.record.proofs.Walks.{never_lost}
use Rattle.record.proofs.Laying.{laid_length, laid_laid, wrote_front, wrote_none}
use Rattle.slots.proofs.Stores.{time_stores, mark_stores}
use Rattle.stepping.proofs.Stamping.{length_stamped}
use Rattle.place.proofs.Places.{walked}
use Rattle.place.proofs.Growing.{Grows, walk_again, past_few, walk_grown, up_room, asked_grown}

-- the step can be taken, and so it is
pub stepped : {r : Record} {W H K U N w₁ k₁ u₁ q₁ : List ℕ} {s k t : ℕ} {last : Last} {p : Passed} → Ready r W H K → IsAhead r.current.0 s k last
    → window ≤ length U → window ≤ length N
    → Widens r s k t W H K U N w₁ k₁ u₁ q₁ p
    → Widened r s k t W H K U N w₁ k₁ u₁ q₁ p
stepped {r = r} {W = W} {H = H} {K = K} {U = U} {N = N} {s = s} {k = k} ready is_ahead_law room-up room-nack widens = grind (arith, can_step_law)

-- What a step ahead finds and leaves: a record that is not broken, s ahead of C, room for what goes up and for what is asked for, and C at s.
pub record Stepped (r : Record) (W H K U N w₁ k₁ u₁ q₁ : List ℕ) (s k t : ℕ) (last : Last) (p : Passed) : Type 0 where
  pub ready : Ready r W H K
  pub s_ring : s < size
  pub ahead : IsAhead r.current.0 s k last
  pub room_up : window ≤ length U
  pub room_nack : window ≤ length N
  pub wide : Widened r s k t W H K U N w₁ k₁ u₁ q₁ p

-- and so the step is taken: all of its facts at once
pub step_taken : {r : Record} {W H K U N w₁ k₁ u₁ q₁ : List ℕ} {s k t : ℕ} {last : Last} {p : Passed} → Ready r W H K × (s < size)
    → (window ≤ length U) × (window ≤ length N) → IsAhead r.current.0 s k last → Widens r s k t W H K U N w₁ k₁ u₁ q₁ p
    → Stepped r W H K U N w₁ k₁ u₁ q₁ s k t last p
step_taken found room is_ahead_law widens =
    record {
      ready = found.0;
      s_ring = found.1;
      ahead = is_ahead_law;
      room_up = room.0;
      room_nack = room.1;
      wide = stepped found.0 is_ahead_law room.0 room.1 widens;
    }

-- C has come to s: the facts of a step from which M settles.
module _ {r : Record} {W H K U N w₁ k₁ u₁ q₁ : List ℕ} {s k t : ℕ} {last : Last} {p : Passed} (step : Stepped r W H K U N w₁ k₁ u₁ q₁ s k t last p) where
  abbrev to : Grown
  to = p.grown

  abbrev is : IsGrown r s k t p.grown
  is = step.wide.grown

  abbrev missed : Missed p.grown.first.0 p.grown.count t W K N w₁ k₁ q₁
  missed = step.wide.missed

  abbrev m : ℕ
  m = r.oldest.0

  abbrev past : ℕ
  past = to.over - span_in r

  grows : Grows channel.window r.current.0 m s k (span_in r) (steps r.current.0 s) to.over past to.count to.first.0 last
  grows = grind arith

  head : 0 < span_in r → is_missing K (slot_of m) ≡ true
  head = step.ready.head

  -- the handles that M passes at once
  abbrev handed : List ℕ
  handed = waiting_of H K m to.old

  handed_is : handed ≡ waiting_of H K m (to.over - past)
  handed_is = ap (waiting_of H K m) is.old

  abbrev again : Walked ℕ
  again = walk_again grows W H K step.ready.sized t

  rule_ahead : ahead channel.window (record_in r W H K) t s k (cells_of last)
      ≡ accepted (handed ++ again.up) [] (rising to.first.0 to.count) (to.over - length handed + again.lost) (holds (moved s t again))
  unfolding record_with
  rule_ahead =
      ap (settled_at (record_in r W H K) t s k) (walk_grown grows W H K step.ready.sized t)
      ∙ ap₂ (λ x y. accepted (x ++ again.up) [] y (to.over - length x + again.lost) (holds (moved s t again))) (sym handed_is)
      (asked_grown grows W H K step.ready.sized t (record_in r W H K) refl)

  count_room : to.count ≤ window
  count_room = omega (arith, is.count, is.over, step.ahead.near, step.ahead.all, past_few grows)

  pub widened_sized : Sized w₁ H k₁
  widened_sized =
      record {
        words = ap length missed.words ∙ length_stamped (time_stores t) W to.first.0 to.count ∙ step.ready.sized.words;
        handles = step.ready.sized.handles;
        marks = ap length missed.marks ∙ length_stamped mark_stores K to.first.0 to.count ∙ step.ready.sized.marks;
      }

  -- The last number comes, or is missing too, and M settles.
  module _ {h₂ k₂ : List ℕ} (handles-are : h₂ ≡ handles_with last s H) (marks-are : k₂ ≡ marks_with last s k₁) where
    walk_to : walk_of to.kept 0 w₁ h₂ k₂ ≡ again
    walk_to = grind arith

    up_to : length (walk_of to.kept 0 w₁ h₂ k₂).up ≡ length again.up
    up_to = ap (λ p. length p.up) walk_to

    up_few : length handed + length again.up ≤ window
    up_few = rw (← handed_is) at (up_room grows W H K step.ready.sized t head)

    none_lost : (walk_of to.kept 0 w₁ h₂ k₂).lost ≡ 0
    none_lost = never_lost to.kept.oldest.0 (cells_from (cell_at w₁ h₂ k₂) to.kept.oldest.0 (span_in to.kept))

    pub settle_room : Roomy to.kept p.had w₁ h₂ k₂ u₁
    settle_room =
        record {
          oldest = rw is.oldest (forward_small m to.over);
          room =
              omega (
                arith,
                step.wide.handed.end_is,
                up_to,
                up_few,
                laid_length step.wide.handed,
                none_lost,
              );
        }

    -- no more goes up in the whole call than a window has
    pub gone_few : {u₂ : List ℕ} {e : Settled}
        → Settles to.kept (settle_numbers w₁ h₂ k₂ (span_in to.kept) p.had.up u₁) 0 w₁ h₂ k₂ p.had.up u₁ u₂ e → Sized w₁ h₂ k₂
        → p.had.up + e.up ≤ window
    gone_few settles sized = omega (arith, (walked sized settle_room.room settles).up.end_is, step.wide.handed.end_is, up_to, up_few)

    pub ahead_did : {w₂ u₂ : List ℕ} {has : Counts} → Finished to.kept (parts w₁ h₂ k₂) p.had u₁ w₂ u₂ has
        → DidAt (ahead channel.window (record_in r W H K) t s k (cells_of last)) (parts W H K) (parts w₂ h₂ k₂) (buffers U [] N) (buffers u₂ [] q₁) (told (Ok (answer_of has)))
    ahead_did {u₂ = u₂} {has = has} f =
        let all : Laid (handed ++ again.up) 0 U u₂ has.up = laid_laid step.wide.handed (rw walk_to at f.up) in
        rw rule_ahead
        (record {
          answer = record {
            number = refl;
            up = wrote_front all (omega (arith, length-append handed again.up, up_few));
            returned = wrote_none [];
            nack =
                wrote_front
                (record { end_is = f.nack ∙ step.wide.asked ∙ sym (zero-add _ ∙ length_rising to.first.0 to.count); buffer = missed.nack })
                (rw (length_rising to.first.0 to.count) (omega (arith, step.room_nack, count_room)));
            lost = omega (arith, f.lost, step.wide.lost, step.wide.handed.end_is, ap (λ p. p.lost) walk_to, none_lost);
          };
          became =
              f.became
              ∙ ap (moved to.kept.current.0 to.kept.latest) walk_to
              ∙ ap₂ (λ x y. moved x y again) is.current is.latest;
        })
