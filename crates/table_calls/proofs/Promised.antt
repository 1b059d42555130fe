-- The promise of a call, put together from what the call did: it refused; or it lent a place's parts to the call on one place; or it opened a
-- channel at a free place. Assumes nothing.
use Prim.Native.Nat.{ℕ, ◌<◌}
use mathlib.Core.Path.{◌≡◌, refl}
use mathlib.Core.List.{List}
use Rattle.std.specs.Prelude.{Err}
use native.Mathlib.Omega.{arith}
use lib.ListN.{length}
use Rattle.larq.specs.Channel.{window}
use Rattle.larq.specs.Answer.{Change, same, holds, freed, refused}
use Rattle.larq.specs.Table.{Place, Event, outcome, step}
use Rattle.larq.specs.Refused.{number_of}
use Rattle.larq.specs.declared.refused.Refused.{Refused}
use Rattle.table.specs.Key.{key_words}
use Rattle.record.proofs.Laying.{wrote_none}
use Rattle.place.specs.Call.{Buffers, Told, told}
use Rattle.place.proofs.Calling.{alone}
use Rattle.table.specs.First.{places}
use Rattle.table.specs.Table.{Slices, part, at_place, place_at, places_from, table_of, table_keys}
use Rattle.table_calls.specs.Writes.{keyed}
use Rattle.table_calls.specs.Event.{Did}
use Rattle.table.proofs.Places.{but, same_places}
use Rattle.table_calls.proofs.Keyed.{keyed_else}

-- whatever the number of a refusal, what tells it alone, with counts of 0, is the promise of a call that changed nothing
pub refused_alone : (e : Event ℕ) (s : Slices) (b : Buffers) (n : ℕ) (given : Told) → outcome window (table_of s) e ≡ refused n → given ≡ alone n
    → Did e s s b b given
unfolding step
refused_alone e s b n given o is =
    record {
      answer = rw (o, is) (record { number = refl; up = wrote_none b.up; returned = wrote_none b.returned; nack = wrote_none b.nack; lost = refl });
      stepped = rw o;
      changed = rw o refl;
      elsewhere = λ j h ne. refl;
    }

pub refused_did : (e : Event ℕ) (s : Slices) (b : Buffers) (why : Refused) → outcome window (table_of s) e ≡ refused (number_of why)
    → Did e s s b b (told (Err why))
refused_did e s b why o = refused_alone e s b (number_of why) (told (Err why)) o refl

-- the table, where only place i changed and now holds p
pub table_but : (before after : Slices) (i : ℕ) (p : Place ℕ) → place_at after i ≡ p
    → ((j : ℕ) → j < places → (j ≡ i → ⊥) → at_place j after ≡ at_place j before) → table_of after ≡ places_from (but (place_at before) i p) 0 places
table_but before after i p here others = same_places (place_at after) (but (place_at before) i p) places 0 (λ j low high. grind (arith, others j high))

-- the keys after a call on place i: as they were, but that a freed place's key is zeros
abbrev pub KeysAfter : Change ℕ → ℕ → List ℕ → List ℕ → Type 0
KeysAfter same i before after = after ≡ before
KeysAfter (holds c) i before after = after ≡ before
KeysAfter freed i before after = after ≡ keyed before i 0 0

pub keys_else : (change : Change ℕ) (i j : ℕ) (before after : List ℕ) → length before ≡ table_keys → i < places → KeysAfter change i before after → (j ≡ i → ⊥)
    → part key_words j after ≡ part key_words j before
keys_else change i j before after l h e ne = grind (arith, keyed_else)
