-- A look at the channel of a key, by the way that it goes: the two buffers for cells stand in for the three answer buffers. Assumes nothing.
use Prim.Native.Nat.{ℕ, ◌≤◌, ◌<◌}
use mathlib.Core.Path.{◌≡◌, refl, ap, sym, ◌∙◌}
use mathlib.Core.Logic.{⊎_elim}
use mathlib.Core.Bool.{and_self}
use mathlib.Core.List.{List}
use native.Mathlib.Omega.{arith}
use borrow.Author.Tests.{leb-true}
use lib.Dec.{leb}
use lib.ListN.{length, take}
use Rattle.wire.specs.Refusals.{first}
use Rattle.larq.specs.Channel.{window}
use Rattle.larq.specs.Events.{tick}
use Rattle.larq.specs.Table.{Key, Table, Lent, lent_enough, channels, room, refusals}
use Rattle.slots.specs.Slots.{slots, place_words}
use Rattle.record.specs.Place.{record_of}
use Rattle.table.specs.First.{places, first_place, stores}
use Rattle.table.specs.Key.{first_word}
use Rattle.table.specs.Table.{Slices, slices, part, place_at, table_of, table_words, table_slots}
use Rattle.table.specs.Way.{table_lent, early_number, place_for, way_says, way_for}
use Rattle.table.specs.Words.{words_of}
use Rattle.table.specs.declared.key.StoredKey.{StoredKey}
use Rattle.table_calls.specs.Look.{unseen, shown_at, shown_first, shown_of, lent_for, Seen, seen, Looked}
use Rattle.table_calls.specs.declared.looking.View.{View}
use Rattle.larq.specs.Refused.{number_of}
use Rattle.larq.specs.declared.refused.Refused.{Refused}
use Rattle.std.specs.Prelude.{Some, None, Result, Ok, Err}
use Rattle.std.specs.Result.{IsErrAnd}
use Rattle.std.proofs.lemmas.Result.{err_from_is_err_and}
use Rattle.table.proofs.Parts.{lent, lent_part}
use Rattle.table.proofs.Places.{channels_found, channels_none, finds}
use Rattle.table.proofs.Stored.{own_place, place_is}
use Rattle.table.proofs.Ways.{Passed, judged_passed, whole_sizes, lent_whole, lent_room}
use Rattle.table.proofs.Saying.{way_known, way_refused, way_of_stored}

-- the numbers of a look are the first six of the rules' list for an event that has no number and is no data, whenever it comes
pub look_refusals : (l : Lent) (k : Key) (time : ℕ) (t : Table ℕ) → (shown_of (lent_enough window l) k t).number
    ≡ first (take 6 (refusals window (room t) (channels k t) (record { key = k; time = time; act = tick; lent = l })))
look_refusals l k time t = grind arith

unseen_looked : (e : Refused) (X Y : List ℕ) → Looked (unseen (number_of e)) X X Y Y (seen (Err e))
unseen_looked e X Y = record { number = refl; current = refl; oldest = refl; latest = refl; span = refl; marks = refl; cells = refl }

module _ (keys W H M X Y : List ℕ) (k : Key) where
  abbrev s : Slices
  s = slices keys W H M

  abbrev l : Lent
  l = table_lent (length keys) (length W) (length H) (length M) (length X) (length Y) (length Y)

  lent_is : lent_for s X Y ≡ lent_enough window l
  lent_is = rw (and_self (leb window (length Y)))

  -- a number before the table is looked at
  early : (n : ℕ) → early_number l 0 k.priority ≡ n → (n ≡ 0 → ⊥) → shown_of (lent_for s X Y) k (table_of s) ≡ unseen n
  unfolding early_number
  early n j ne = rw lent_is (grind arith)

  -- the tests of numbers 1 and 3 pass
  module _ (passed : Passed l 0 k.priority) where
    fits : k.priority ≤ 7
    fits = leb-true k.priority 7 passed.priority

    first_shown : shown_of (lent_for s X Y) k (table_of s) ≡ shown_first (channels k (table_of s))
    first_shown = rw (lent_is, passed.lent, passed.priority)

    unknown : place_for keys k ≡ None → shown_of (lent_for s X Y) k (table_of s) ≡ unseen 4
    unknown f = first_shown ∙ ap shown_first (channels_none k (place_at s) places 0 (sym (place_is s k fits) ∙ f))

    known : (i : ℕ) → place_for keys k ≡ Some i → shown_of (lent_for s X Y) k (table_of s) ≡ shown_at (record_of (part place_words i W) (part slots i H) (part slots i M))
    known i f =
        let c = record_of (part place_words i W) (part slots i H) (part slots i M) in
        let found = finds (stores keys (first_word k) k.source) places 0 i f in
        let own = own_place keys i k (part place_words i W) (part slots i H) (part slots i M) fits found.passes in
        let begins = channels_found k (place_at s) k c places 0 i (sym (place_is s k fits) ∙ f) own in
        first_shown ∙ ap shown_first begins.is

  -- what the look at one place asks
  pub record Goes (i : ℕ) : Type 0 where
    pub here : i < places
    pub words_sized : length W ≡ table_words
    pub handles_sized : length H ≡ table_slots
    pub marks_sized : length M ≡ table_slots
    pub marks_room : window ≤ length X
    pub values_room : window ≤ length Y

  -- by the key as it is stored
  module _ {q : StoredKey} (stored : q ≡ words_of k) where
    -- a way that refuses, and the exit at which a look hands on what refused it
    pub turned_looked : (e : Refused) → way_says (Err e) ≡ way_for l 0 q.priority (first_place (stores keys q.first q.second))
        → (result : Result View Refused) → IsErrAnd result (λ d. d ≡ e) → Looked (shown_of (lent_for s X Y) k (table_of s)) X X Y Y (seen result)
    turned_looked e says result gives =
        let out = err_from_is_err_and result gives in
        let refused : shown_of (lent_for s X Y) k (table_of s) ≡ unseen (number_of e) =
        ⊎_elim (λ p. early (number_of e) p.0 p.1) (λ p. unknown (judged_passed l 0 k.priority p.0) p.1 ∙ ap unseen (sym p.2))
        (way_refused l 0 k.priority (place_for keys k) e (way_of_stored l 0 keys k q stored (Err e) says)) in
        rw (out.1, out.2, refused) (unseen_looked e X Y)

    module _ (i : ℕ) (says : way_says (Ok i) ≡ way_for l 0 q.priority (first_place (stores keys q.first q.second))) where
      at : (early_number l 0 k.priority ≡ 0) × (place_for keys k ≡ Some i)
      at = way_known l 0 k.priority (place_for keys k) i (way_of_stored l 0 keys k q stored (Ok i) says)

      pub goes : Goes i
      goes =
          let passed = judged_passed l 0 k.priority at.0 in
          let sized = whole_sizes (length keys) (length W) (length H) (length M) (lent_whole l passed.lent) in
          let room = lent_room l passed.lent in
          record {
            here = omega (arith, (finds (stores keys (first_word k) k.source) places 0 i at.1).high);
            words_sized = sized.words;
            handles_sized = sized.handles;
            marks_sized = sized.marks;
            marks_room = room.up;
            values_room = room.returned;
          }

      pub known_looked : (X' Y' : List ℕ) (given : Seen) → Looked (shown_at (record_of (lent place_words i W) (lent slots i H) (lent slots i M))) X X' Y Y' given
          → Looked (shown_of (lent_for s X Y) k (table_of s)) X X' Y Y' given
      known_looked X' Y' given g =
          rw (known (judged_passed l 0 k.priority at.0) i at.1) (rw (lent_part place_words i W, lent_part slots i H, lent_part slots i M) at g)
