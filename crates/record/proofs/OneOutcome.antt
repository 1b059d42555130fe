-- The contracts of `grown`, `settled`, `settle` and `hand` leave nothing open: any two outcomes that one of them allows for the same call are equal
-- (document 01, 'How far a statement has to reach'). The others of this crate are equations. Assumes nothing.
use Prim.Native.Nat.{ℕ, ◌+◌}
use mathlib.Core.Path.{◌≡◌, refl, sym, ◌∙◌}
use mathlib.Core.List.{List}
use native.Mathlib.Omega.{arith}
use Rattle.record.specs.Moving.{IsGrown}
use Rattle.record.specs.Walk.{Settles, walk_from}
use Rattle.record.specs.Buffers.{Laid}
use Rattle.record.specs.declared.Record.{Record}
use Rattle.record.specs.declared.Grown.{Grown}
use Rattle.record.specs.declared.window.Settled.{Settled}

pub one_grown : (r : Record) (s made time : ℕ) (g f : Grown) → IsGrown r s made time g → IsGrown r s made time f → g ≡ f
one_grown r s made time g f u v =
    rw (
      u.old,
      v.old,
      u.first,
      v.first,
      u.count,
      v.count,
      u.current,
      v.current,
      u.oldest,
      v.oldest,
      u.latest,
      v.latest,
      u.over,
      v.over,
    )
    refl

pub one_hand : (list : List ℕ) (at : ℕ) (before after after' : List ℕ) (end end' : ℕ) → Laid list at before after end → Laid list at before after' end'
    → (end ≡ end') × (after ≡ after')
one_hand list at before after after' end end' u v = (u.end_is ∙ sym v.end_is, u.buffer ∙ sym v.buffer)

pub one_settle : (r : Record) (n until : ℕ) (w h k : List ℕ) (at : ℕ) (before after after' : List ℕ) (s t : Settled)
    → Settles r n until w h k at before after s → Settles r n until w h k at before after' t → (s ≡ t) × (after ≡ after')
one_settle r n until w h k at before after after' s t u v =
    let laid = one_hand (walk_from until w h k r.oldest.0 n).up at before after after' (at + s.up) (at + t.up) u.up v.up in
    let up : s.up ≡ t.up = omega (arith, laid.0) in
    (rw (up, u.lost, v.lost, u.oldest, v.oldest, u.current, v.current, u.latest, v.latest) refl, laid.1)
