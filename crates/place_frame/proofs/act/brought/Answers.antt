-- `brought` meets its contract: M finds the number waiting at its slot when it settles.
use Rattle.std.proofs.Common.{◌≡◌, ◌∙◌, List, ℕ, arith}
use Rattle.slots.specs.Slots.{slot_of, with_handle, with_waiting}
use Rattle.slots.proofs.Stores.{length_handled, length_waiting}
use Rattle.place.specs.Steps.{Sized, Roomy}
use Rattle.place.proofs.Places.{settled_room, finished}
use Rattle.place_frame.proofs.act.brought.Goals as goal

-- the handles and marks that the store has left are as long as they were
still_sized : {w h k h' k' : List ℕ} (i j x : ℕ) → Sized w h k → h' ≡ with_handle h i x → k' ≡ with_waiting k j → Sized w h' k'
still_sized {h = h} {k = k} i j x s e f =
    rw (e, f) (record { words = s.words; handles = length_handled h i x ∙ s.handles; marks = length_waiting k j ∙ s.marks })

-- a fact of the handles and marks that the store leaves
left : {h k h' k' : List ℕ} (P : List ℕ → List ℕ → Type 0) → h' ≡ h → k' ≡ k → P h k → P h' k'
left P e f p = rw (e, f) p

pub overflow_add-result : goal.overflow_add-result
overflow_add-result c =
    let a = c.args in
    let e = c.set_waiting.ensures in
    let fits = still_sized (slot_of a.s.0) (slot_of a.s.0) a.handle c.requires.sized e.0 e.1 in
    let room = left (λ h k. Roomy a.r a.had a.words.now h k a.up.now) e.0 e.1 c.requires.roomy in
    omega (arith, settled_room fits room c.settle-done.ensures.settles)

pub returns : goal.returns
returns c =
    let a = c.args in
    let e = c.set_waiting.ensures in
    let fits = still_sized (slot_of a.s.0) (slot_of a.s.0) a.handle c.requires.sized e.0 e.1 in
    let room = left (λ h k. Roomy a.r a.had a.words.now h k a.up.now) e.0 e.1 c.requires.roomy in
    (e.0, e.1, finished fits room c.settle-done.ensures.settles c.settle-done.ensures.words_after)
