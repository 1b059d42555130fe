-- The promise of a call whose key has a channel: the parts of its place are lent to the call on one place, and what that promises of the place
-- is what the rules say of the table. One law for the four events; only a freed place's key is theirs to clear. Assumes nothing.
use Prim.Native.Nat.{ℕ, ◌+◌, ◌*◌, ◌≤◌, ◌<◌}
use mathlib.Core.Path.{◌≡◌, refl, ap, sym, ◌∙◌}
use mathlib.Core.Bool.{true}
use mathlib.Core.List.{List}
use native.Mathlib.Omega.{arith}
use borrow.Author.Tests.{leb-true}
use lib.ListN.{length}
use lib.Dec.{leb}
use Rattle.larq.specs.Channel.{window}
use Rattle.larq.specs.Answer.{Change, same, holds, freed, Outcome}
use Rattle.larq.specs.Events.{Act}
use Rattle.larq.specs.Table.{Key, free, held, Event, number_in_ring, outcome, step}
use Rattle.slots.specs.Slots.{slots, place_words, place_sized}
use Rattle.place.specs.Call.{Parts, parts, Buffers, Told, Became, rule_at, Called}
use Rattle.table.specs.First.{places, first_place, stores}
use Rattle.table.specs.Key.{first_word, key_words}
use Rattle.table.specs.Table.{Slices, slices, part, at_place, place_of, place_at, table_of, zeros}
use Rattle.table.specs.Way.{place_for}
use Rattle.table.specs.Addressed.{is_of, addressed}
use Rattle.table_calls.specs.Event.{event_of, Changed, Did}
use Rattle.std.specs.Prelude.{Some}
use Rattle.table.proofs.Parts.{put, lent, lent_part, length_part, part_put, part_put_else, put_part}
use Rattle.table.proofs.Places.{Finds, finds}
use Rattle.table.proofs.Stored.{own_place, place_is, zeros_free}
use Rattle.table.proofs.Ways.{Passed, Whole, whole_sizes, lent_whole}
use Rattle.table_calls.proofs.Ruled.{parts_at, record_at, known_rule, holds_step, freed_step}
use Rattle.table_calls.proofs.Keyed.{keyed_part}
use Rattle.table_calls.proofs.Promised.{table_but, KeysAfter, keys_else}

module _ (keys W H M : List ℕ) (b : Buffers) (k : Key) (time : ℕ) (act : Act ℕ) (number : ℕ) (numbered : number_in_ring act ≡ leb number 4095)
    (passed : Passed (event_of k time act (slices keys W H M) b).lent number k.priority) (i : ℕ) (found : place_for keys k ≡ Some i) where
  abbrev before : Slices
  before = slices keys W H M

  abbrev e : Event ℕ
  e = event_of k time act before b

  abbrev rule : Outcome ℕ
  rule = rule_at (parts_at i before) b time act

  sized : Whole (length keys) (length W) (length H) (length M)
  sized = whole_sizes (length keys) (length W) (length H) (length M) (lent_whole e.lent passed.lent)

  fits : k.priority ≤ 7
  fits = leb-true k.priority 7 passed.priority

  stored : Finds (stores keys (first_word k) k.source) 0 places i
  stored = finds (stores keys (first_word k) k.source) places 0 i found

  pub within : i < places
  within = omega (arith, stored.high)

  known : first_place (λ j. is_of k (place_at before j)) ≡ Some i
  known = sym (place_is before k fits) ∙ found

  here : addressed k before ≡ Some i
  here = rw known

  words_fit : place_words * i + place_words ≤ length W
  words_fit = omega (arith, sized.words, within)

  handles_fit : slots * i + slots ≤ length H
  handles_fit = omega (arith, sized.handles, within)

  marks_fit : slots * i + slots ≤ length M
  marks_fit = omega (arith, sized.marks, within)

  own : place_at before i ≡ held k (record_at i before)
  own = own_place keys i k (part place_words i W) (part slots i H) (part slots i M) fits stored.passes

  lengths : place_sized (length (part place_words i W)) (length (part slots i H)) (length (part slots i M)) ≡ true
  lengths = rw (length_part place_words i W words_fit, length_part slots i H handles_fit, length_part slots i M marks_fit)

  is_rule : outcome window (table_of before) e ≡ rule
  is_rule = known_rule before b k time act number numbered passed i known own lengths

  module _ (keys' w h m : List ℕ) (b' : Buffers) (given : Told) (lw : length w ≡ place_words) (lh : length h ≡ slots) (lm : length m ≡ slots) where
    abbrev after : Slices
    after = slices keys' (put place_words i W w) (put slots i H h) (put slots i M m)

    at_place_law : at_place i after ≡ slices (part key_words i keys') w h m
    at_place_law = rw (part_put place_words i W words_fit w lw, part_put slots i H handles_fit h lh, part_put slots i M marks_fit m lm)

    elsewhere : KeysAfter rule.change i keys keys' → (j : ℕ) → (j ≡ i → ⊥) → at_place j after ≡ at_place j before
    elsewhere after-keys j ne =
        rw (
          keys_else rule.change i j keys keys' sized.keys within after-keys ne,
          part_put_else place_words i W words_fit j w lw ne,
          part_put_else slots i H handles_fit j h lh ne,
          part_put_else slots i M marks_fit j m lm ne,
        )

    module _ (after-keys : KeysAfter rule.change i keys keys') where
      others : (j : ℕ) → j < places → (j ≡ i → ⊥) → at_place j after ≡ at_place j before
      others j _ ne = elsewhere after-keys j ne

      -- the three changes, each with what it makes of the table and of the place
      pub record Done (change : Change ℕ) : Type 0 where
        pub stepped : table_of after ≡ step window (table_of before) e
        pub changed : Changed change (Some i) k before after

      done : (change : Change ℕ) → rule.change ≡ change → KeysAfter change i keys keys' → Became change (parts_at i before) (parts w h m) → Done change
      unfolding step
      done same f ks p =
          let unchanged : after ≡ before =
          rw (ks, ap (λ (q : Parts). q.words) p, ap (λ (q : Parts). q.handles) p, ap (λ (q : Parts). q.marks) p, put_part place_words i W, put_part slots i H, put_part slots i M) in
          record { stepped = ap table_of unchanged ∙ rw (is_rule, f); changed = unchanged }
      done (holds c) f ks p =
          let placed : place_at after i ≡ held k c =
          ap place_of at_place_law ∙ ap (λ (q : List ℕ). place_of (slices (part key_words i q) w h m)) ks ∙ own_place keys i k w h m fits stored.passes
          ∙ ap (held k) p in
          record {
            stepped = table_but before after i (held k c) placed others ∙ sym (holds_step before b k time act number numbered passed i known own lengths c f);
            changed = placed;
          }
      done freed f ks p =
          let cleared : at_place i after ≡ zeros =
          at_place_law
          ∙ rw (ks, keyed_part keys i 0 0 sized.keys within, ap (λ (q : Parts). q.words) p, ap (λ (q : Parts). q.handles) p, ap (λ (q : Parts). q.marks) p) in
          record {
            stepped =
                table_but before after i free (ap place_of cleared ∙ zeros_free) others
                ∙ sym (freed_step before b k time act number numbered passed i known own lengths f);
            changed = cleared;
          }

  -- the call on one place, with the parts as they are lent and come back
  pub known_did : (keys' w h m : List ℕ) (b' : Buffers) (given : Told)
      → length w ≡ length (lent place_words i W) → length h ≡ length (lent slots i H) → length m ≡ length (lent slots i M)
      → Called act time (parts (lent place_words i W) (lent slots i H) (lent slots i M)) (parts w h m) b b' given → KeysAfter rule.change i keys keys'
      → Did e before (slices keys' (put place_words i W w) (put slots i H h) (put slots i M m)) b b' given
  known_did keys' w h m b' given kw kh km call after-keys =
      let c : Called act time (parts_at i before) (parts w h m) b b' given = rw (lent_part place_words i W, lent_part slots i H, lent_part slots i M) at call in
      let lw = kw ∙ ap length (lent_part place_words i W) ∙ length_part place_words i W words_fit in
      let lh = kh ∙ ap length (lent_part slots i H) ∙ length_part slots i H handles_fit in
      let lm = km ∙ ap length (lent_part slots i M) ∙ length_part slots i M marks_fit in
      let d = done keys' w h m b' given lw lh lm after-keys rule.change refl after-keys c.became in
      record {
        answer = rw is_rule c.answer;
        stepped = d.stepped;
        changed = rw (is_rule, here) d.changed;
        elsewhere = λ j _ ne. elsewhere keys' w h m b' given lw lh lm after-keys j (λ q. ne (here ∙ ap Some (sym q)));
      }
