-- The promises of the four events, from the way that a call goes and what was done on that way. Assumes nothing.
use Prim.Native.Nat.{ℕ, ◌≤◌, ◌<◌}
use mathlib.Core.Path.{◌≡◌, refl, ap, sym, ◌∙◌}
use mathlib.Core.Logic.{⊎_elim}
use mathlib.Core.Bool.{true, false, cond}
use mathlib.Core.List.{List}
use native.Mathlib.Omega.{arith}
use borrow.Author.Tests.{leb-true}
use lib.ListN.{length}
use lib.Dec.{leb, eqb}
use Rattle.std.specs.Prelude.{Option, Some, None, Result, Ok, Err}
use Rattle.std.specs.Result.{IsErrAnd}
use Rattle.std.proofs.lemmas.Result.{err_from_is_err_and}
use Rattle.larq.specs.Channel.{window}
use Rattle.larq.specs.Answer.{refused}
use Rattle.larq.specs.Events.{Act, frame, close, act_on}
use Rattle.larq.specs.Table.{Key, Lent, Event, number_in_ring, is_data, one, outcome}
use Rattle.larq.specs.Demands.{is_close}
use Rattle.larq.specs.Refused.{number_of}
use Rattle.larq.specs.declared.refused.Refused.{Refused}
use Rattle.slots.specs.Slots.{slots, place_words}
use Rattle.record.specs.Lengths.{lengths_of}
use Rattle.record.specs.declared.Lengths.{Lengths}
use Rattle.place.specs.Call.{Parts, parts, Buffers, buffers, rule_at, Called, Told, told}
use Rattle.place.specs.declared.Answer.{Answer}
use Rattle.table.specs.First.{places, first_place, stores, stores_none}
use Rattle.table.specs.Key.{first_word}
use Rattle.table.specs.Table.{Slices, slices, place_at, table_of, table_keys, table_words, table_slots}
use Rattle.table.specs.Way.{table_lent, table_lent_by, early_number, place_for, way_says, way_for, data_way_says, data_way_for}
use Rattle.table.specs.Words.{words_of}
use Rattle.table.specs.declared.key.StoredKey.{StoredKey}
use Rattle.table.specs.declared.way.DataPlace.{DataPlace}
use Rattle.table.specs.declared.way.DataPlace.TheVariants.{Known, Free}
use Rattle.table_calls.specs.Writes.{keyed, Opens}
use Rattle.table.specs.Addressed.{is_of}
use Rattle.table_calls.specs.Event.{event_of, Did, Call}
use Rattle.table.proofs.Parts.{put, lent, lent_part}
use Rattle.table.proofs.Places.{finds}
use Rattle.table.proofs.Stored.{place_is, spare_is}
use Rattle.table.proofs.Saying.{way_known, way_refused, data_known, data_free, data_refused, way_of_stored, data_way_of_stored}
use Rattle.table.proofs.Ways.{Passed, judged_passed, whole_sizes, lent_whole, lent_room}
use Rattle.table_calls.proofs.Ruled.{parts_at, early_refused, unknown_refused, full_refused}
use Rattle.table_calls.proofs.Promised.{KeysAfter, refused_did}
use Rattle.table_calls.proofs.Known.{within, known_did}
use Rattle.table_calls.proofs.Opening.{opened_did}

-- no refusal has the number of what is accepted
no_zero : (why : Refused) → number_of why ≡ 0 → ⊥
no_zero why e = grind arith

-- Only an accepted close frees a place, and it always does.
module _ (i : ℕ) (keys : List ℕ) where
  pub keys_stay : (p : Parts) (b : Buffers) (time : ℕ) (act : Act ℕ) → is_close act ≡ false → KeysAfter (rule_at p b time act).change i keys keys
  unfolding one act_on
  keys_stay p b time act e = grind arith

  keys_cleared : (p : Parts) (b : Buffers) (time : ℕ) → (rule_at p b time close).answer.number ≡ 0
      → KeysAfter (rule_at p b time close).change i keys (keyed keys i 0 0)
  unfolding one act_on
  keys_cleared p b time accepted = grind arith

  keys_kept : (p : Parts) (b : Buffers) (time : ℕ) → ((rule_at p b time close).answer.number ≡ 0 → ⊥)
      → KeysAfter (rule_at p b time close).change i keys keys
  unfolding one act_on
  keys_kept p b time refused = grind arith

  pub keys_freed : (p : Parts) (b : Buffers) (time : ℕ)
      → KeysAfter (rule_at p b time close).change i keys (cond (eqb (rule_at p b time close).answer.number 0) (keyed keys i 0 0) keys)
  unfolding one act_on
  keys_freed p b time = grind arith

-- All that a call is lent and told, but for what makes it one event and not another.
pub record Asked : Type 0 where
  pub keys : List ℕ
  pub words : List ℕ
  pub handles : List ℕ
  pub marks : List ℕ
  pub up : List ℕ
  pub returned : List ℕ
  pub nack : List ℕ
  pub key : Key
  pub time : ℕ

-- the same, from what stands behind a call's references
abbrev pub asked : (keys words handles marks up returned nack : List ℕ) → Key → ℕ → Asked
asked keys words handles marks up returned nack key time =
    record {
      keys = keys;
      words = words;
      handles = handles;
      marks = marks;
      up = up;
      returned = returned;
      nack = nack;
      key = key;
      time = time;
    }

module _ (c : Asked) where
  abbrev pub before : Slices
  before = slices c.keys c.words c.handles c.marks

  abbrev pub had : Buffers
  had = buffers c.up c.returned c.nack

  abbrev pub lent_now : Lent
  lent_now =
      table_lent (length c.keys) (length c.words) (length c.handles) (length c.marks) (length c.up) (length c.returned) (length c.nack)

  abbrev pub judgement : ℕ → ℕ
  judgement number = early_number lent_now number c.key.priority

  abbrev place : Option ℕ
  place = place_for c.keys c.key

  abbrev spare : Option ℕ
  spare = first_place (stores_none c.keys)

  -- what `way_of` and `data_way_of` say of an event that has this number, by the lengths and the stored key that the call hands on
  module _ (number : ℕ) (l : Lengths) (k : StoredKey) where
    abbrev pub WaySays : Result ℕ Refused → Type 0
    WaySays r = way_says r ≡ way_for (table_lent_by (length c.keys) l) number k.priority (first_place (stores c.keys k.first k.second))

    abbrev pub DataWaySays : Result DataPlace Refused → Type 0
    DataWaySays r =
        data_way_says r ≡ data_way_for (table_lent_by (length c.keys) l) number k.priority (first_place (stores c.keys k.first k.second)) spare

-- what a call that goes to place i knows: the place is one of the 64, and the slices are as long as they should be
pub record Goes (c : Asked) (i : ℕ) : Type 0 where
  pub here : i < places
  pub keys_sized : length c.keys ≡ table_keys
  pub words_sized : length c.words ≡ table_words
  pub handles_sized : length c.handles ≡ table_slots
  pub marks_sized : length c.marks ≡ table_slots

-- the parts of its place, as they are lent
abbrev pub lent_parts : Asked → ℕ → Parts
lent_parts c i = parts (lent place_words i c.words) (lent slots i c.handles) (lent slots i c.marks)

-- they came back with as many elements
pub record Back (c : Asked) (i : ℕ) (p : Parts) : Type 0 where
  pub words : length p.words ≡ length (lent place_words i c.words)
  pub handles : length p.handles ≡ length (lent slots i c.handles)
  pub marks : length p.marks ≡ length (lent slots i c.marks)

-- the slices when the parts are back
abbrev pub after : Asked → ℕ → List ℕ → Parts → Slices
after c i keys p = slices keys (put place_words i c.words p.words) (put slots i c.handles p.handles) (put slots i c.marks p.marks)

-- A call of an event, by the number that decides early and the place of its key.
module _ (c : Asked) (act : Act ℕ) (number : ℕ) (numbered : number_in_ring act ≡ leb number 4095) where
  abbrev e : Event ℕ
  e = event_of c.key c.time act (before c) (had c)

  passes : judgement c number ≡ 0 → Passed e.lent number c.key.priority
  passes = judged_passed e.lent number c.key.priority

  -- a call that goes nowhere, and the exit at which it hands on what refused it
  stopped : (why : Refused) → outcome window (table_of (before c)) e ≡ refused (number_of why) → (result : Result Answer Refused)
      → IsErrAnd result (λ d. d ≡ why) → Did e (before c) (before c) (had c) (had c) (told result)
  stopped why is result gives =
      let out = err_from_is_err_and result gives in
      rw (out.1, out.2) (refused_did e (before c) (had c) why is)

  early : (why : Refused) → (judgement c number ≡ number_of why) × (number_of why ≡ 0 → ⊥) → outcome window (table_of (before c)) e ≡ refused (number_of why)
  early why p = early_refused (before c) (had c) c.key c.time act number numbered (number_of why) p.0 p.1

  module _ (passed-early : judgement c number ≡ 0) (none : place c ≡ None) where
    passed : Passed e.lent number c.key.priority
    passed = passes passed-early

    unfound : first_place (λ i. is_of c.key (place_at (before c) i)) ≡ None
    unfound = sym (place_is (before c) c.key (leb-true c.key.priority 7 passed.priority)) ∙ none

    unknown : is_data act ≡ false → (why : Refused) → number_of why ≡ 4 → outcome window (table_of (before c)) e ≡ refused (number_of why)
    unknown other why four =
        unknown_refused (before c) (had c) c.key c.time act number numbered passed unfound other ∙ ap refused (sym four)

    full : is_data act ≡ true → (why : Refused) → spare c ≡ None → number_of why ≡ 5 → outcome window (table_of (before c)) e ≡ refused (number_of why)
    full frames why taken five =
        full_refused (before c) (had c) c.key c.time act number numbered passed unfound frames (sym (spare_is (before c)) ∙ taken)
        ∙ ap refused (sym five)

  -- a call that goes to place i, where its channel is
  module _ (i : ℕ) (at : (judgement c number ≡ 0) × (place c ≡ Some i)) where
    went : Goes c i
    went =
        let sized =
        whole_sizes (length c.keys) (length c.words) (length c.handles) (length c.marks) (lent_whole e.lent (passes at.0).lent) in
        record {
          here = within c.keys c.words c.handles c.marks (had c) c.key c.time act number numbered (passes at.0) i at.1;
          keys_sized = sized.keys;
          words_sized = sized.words;
          handles_sized = sized.handles;
          marks_sized = sized.marks;
        }

    went_did : (keys : List ℕ) (p : Parts) (has : Buffers) (given : Told) → Back c i p → Called act c.time (lent_parts c i) p (had c) has given
        → KeysAfter (rule_at (parts_at i (before c)) (had c) c.time act).change i c.keys keys → Did e (before c) (after c i keys p) (had c) has given
    went_did keys p has given back call keyed-after =
        known_did c.keys c.words c.handles c.marks (had c) c.key c.time act number numbered (passes at.0) i at.1
        keys p.words p.handles p.marks has given back.words back.handles back.marks call keyed-after

    went_kept : is_close act ≡ false → (p : Parts) (has : Buffers) (given : Told) → Back c i p → Called act c.time (lent_parts c i) p (had c) has given
        → Did e (before c) (after c i c.keys p) (had c) has given
    went_kept stays p has given back call =
        went_did c.keys p has given back call (keys_stay i c.keys (parts_at i (before c)) (had c) c.time act stays)

-- An event that goes by `way_of`, which is handed the lengths of what the call is lent, and its key as it is stored.
module _ (c : Asked) (act : Act ℕ) (number : ℕ) (numbered : number_in_ring act ≡ leb number 4095) {l : Lengths} {k : StoredKey}
    (lengths : l ≡ lengths_of c.words c.handles c.marks c.up c.returned c.nack) (stored : k ≡ words_of c.key) where
  said : (r : Result ℕ Refused) → WaySays c number l k r → way_says r ≡ way_for (lent_now c) number c.key.priority (place c)
  said r says = way_of_stored (lent_now c) number c.keys c.key k stored r (rw lengths at says)

  known : (i : ℕ) → WaySays c number l k (Ok i) → (judgement c number ≡ 0) × (place c ≡ Some i)
  known i says = way_known (lent_now c) number c.key.priority (place c) i (said (Ok i) says)

  pub turned_did : is_data act ≡ false → (why : Refused) → WaySays c number l k (Err why) → (result : Result Answer Refused)
      → IsErrAnd result (λ d. d ≡ why) → Call c.key c.time act (before c) (before c) (had c) (had c) (told result)
  turned_did other why says =
      stopped c act number numbered why
      (⊎_elim (early c act number numbered why) (λ p. unknown c act number numbered p.0 p.1 other why p.2)
      (way_refused (lent_now c) number c.key.priority (place c) why (said (Err why) says)))

  pub goes : (i : ℕ) → WaySays c number l k (Ok i) → Goes c i
  goes i says = went c act number numbered i (known i says)

  -- an event that keeps its channel
  pub kept_did : is_close act ≡ false → (i : ℕ) → WaySays c number l k (Ok i) → (p : Parts) (has : Buffers) (given : Told) → Back c i p
      → Called act c.time (lent_parts c i) p (had c) has given → Call c.key c.time act (before c) (after c i c.keys p) (had c) has given
  kept_did stays i says = went_kept c act number numbered i (known i says) stays

-- A close: the place's key goes where the call on the place accepts it, and stays where that refuses it.
module _ (c : Asked) {l : Lengths} {k : StoredKey} (lengths : l ≡ lengths_of c.words c.handles c.marks c.up c.returned c.nack)
    (stored : k ≡ words_of c.key) (i : ℕ) (says : WaySays c 0 l k (Ok i)) where
  at : (judgement c 0 ≡ 0) × (place c ≡ Some i)
  at = known c close 0 refl lengths stored i says

  there : (p : Parts) (has : Buffers) (given : Told) → Called close c.time (lent_parts c i) p (had c) has given
      → Called close c.time (parts_at i (before c)) p (had c) has given
  there p has given call = rw (lent_part place_words i c.words, lent_part slots i c.handles, lent_part slots i c.marks) at call

  pub closed_did : (keys : List ℕ) (p : Parts) (has : Buffers) (given : Answer) → Back c i p
      → Called close c.time (lent_parts c i) p (had c) has (told (Ok given)) → keys ≡ keyed c.keys i 0 0
      → Call c.key c.time close (before c) (after c i keys p) (had c) has (told (Ok given))
  closed_did keys p has given back call freed =
      let zero = (there p has (told (Ok given)) call).answer.number in
      went_did c close 0 refl i at keys p has (told (Ok given)) back call
      (rw freed (keys_cleared i c.keys (parts_at i (before c)) (had c) c.time (sym zero)))

  pub close_refused_did : (p : Parts) (has : Buffers) (why : Refused) → Back c i p
      → Called close c.time (lent_parts c i) p (had c) has (told (Err why)) → (result : Result Answer Refused) → IsErrAnd result (λ d. d ≡ why)
      → Call c.key c.time close (before c) (after c i c.keys p) (had c) has (told result)
  close_refused_did p has why back call result gives =
      let out = err_from_is_err_and result gives in
      let number = (there p has (told (Err why)) call).answer.number in
      rw (out.1, out.2)
      (went_did c close 0 refl i at c.keys p has (told (Err why)) back call
      (keys_kept i c.keys (parts_at i (before c)) (had c) c.time (λ zero. no_zero why (number ∙ zero))))

-- Data goes by `data_way_of`.
module _ (c : Asked) (number handle : ℕ) {l : Lengths} {k : StoredKey}
    (lengths : l ≡ lengths_of c.words c.handles c.marks c.up c.returned c.nack) (stored : k ≡ words_of c.key) where
  data_said : (r : Result DataPlace Refused) → DataWaySays c number l k r
      → data_way_says r ≡ data_way_for (lent_now c) number c.key.priority (place c) (spare c)
  data_said r says = data_way_of_stored (lent_now c) number c.keys c.key k stored r (rw lengths at says)

  pub data_turned_did : (why : Refused) → DataWaySays c number l k (Err why) → (result : Result Answer Refused) → IsErrAnd result (λ d. d ≡ why)
      → Call c.key c.time (frame number handle) (before c) (before c) (had c) (had c) (told result)
  data_turned_did why says =
      stopped c (frame number handle) number refl why
      (⊎_elim (early c (frame number handle) number refl why) (λ p. full c (frame number handle) number refl p.0 p.1 refl why p.2 p.3)
      (data_refused (lent_now c) number c.key.priority (place c) (spare c) why (data_said (Err why) says)))

  module _ (way : DataPlace) (i : ℕ) (says : DataWaySays c number l k (Ok way)) where
    to : {there : DataPlace} → way ≡ there → data_way_says (Ok there) ≡ data_way_for (lent_now c) number c.key.priority (place c) (spare c)
    to is = ap (λ (x : DataPlace). data_way_says (Ok x)) (sym is) ∙ data_said (Ok way) says

    data_known_at : way ≡ Known i → (judgement c number ≡ 0) × (place c ≡ Some i)
    data_known_at is = data_known (lent_now c) number c.key.priority (place c) (spare c) i (to is)

    pub data_goes : way ≡ Known i → Goes c i
    data_goes is = went c (frame number handle) number refl i (data_known_at is)

    pub data_kept_did : way ≡ Known i → (p : Parts) (has : Buffers) (given : Told) → Back c i p
        → Called (frame number handle) c.time (lent_parts c i) p (had c) has given
        → Call c.key c.time (frame number handle) (before c) (after c i c.keys p) (had c) has given
    data_kept_did is = went_kept c (frame number handle) number refl i (data_known_at is) refl

    -- data whose key has no channel, and for which a place is free
    module _ (is : way ≡ Free i) where
      free : (judgement c number ≡ 0) × (place c ≡ None) × (spare c ≡ Some i)
      free = data_free (lent_now c) number c.key.priority (place c) (spare c) i (to is)

      right : Passed (lent_now c) number c.key.priority
      right = judged_passed (lent_now c) number c.key.priority free.0

      -- what `open_at` asks
      pub ready : (length c.keys ≡ table_keys) × (length c.words ≡ table_words) × (window ≤ length c.up) × (i < places)
      ready =
          let sized = whole_sizes (length c.keys) (length c.words) (length c.handles) (length c.marks) (lent_whole (lent_now c) right.lent) in
          (sized.keys, sized.words, (lent_room (lent_now c) right.lent).up, omega (arith, (finds (stores_none c.keys) places 0 i free.2).high))

      pub opening_did : (keys words up : List ℕ) (given : Answer)
          → Opens i k.first k.second number handle c.time c.keys c.words c.up keys words up given
          → Call c.key c.time (frame number handle) (before c) (slices keys words c.handles c.marks) (had c) (buffers up c.returned c.nack) (told (Ok given))
      opening_did keys words up given opens =
          let there : Opens i (first_word c.key) c.key.source number handle c.time c.keys c.words c.up keys words up given = rw stored at opens in
          rw there.key
          (opened_did c.keys c.words c.handles c.marks c.up c.returned c.nack c.key c.time number handle right free.1 i free.2 (rw there.key at there))
