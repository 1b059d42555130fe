-- What a record by value means, and what a step ahead does to its window.
use Rattle.std.specs.Prelude.{ℕ, ◌+◌, ◌-◌, ◌≡◌, List}
use Rattle.ring.specs.Ring.{forward, steps}
use Rattle.larq.specs.Channel.{Channel, window, span_of}
use Rattle.slots.specs.Slots.{with_head}
use Rattle.record.specs.Place.{record_with}
use Rattle.record.specs.declared.Record.{Record}
use Rattle.record.specs.declared.Grown.{Grown}

-- the record of a place whose C, M and latest time are at hand
abbrev pub record_in : Record → List ℕ → List ℕ → List ℕ → Channel ℕ
record_in r words handles marks = record_with r.current.0 r.oldest.0 r.latest words handles marks

-- its span
abbrev pub span_in : Record → ℕ
span_in r = span_of r.current.0 r.oldest.0

-- a place's words when the record is laid down in them
abbrev pub stored_in : Record → List ℕ → List ℕ
stored_in r words = with_head words r.current.0 r.oldest.0 r.latest

-- a step ahead to s, by which so many numbers become missing: the window when M has passed what is then too much
pub record IsGrown (r : Record) (s made time : ℕ) (g : Grown) : Type 0 where
  pub over : g.over ≡ span_in r + steps r.current.0 s - window
  pub old : g.old ≡ g.over - (g.over - span_in r)
  pub first : g.first.0 ≡ forward r.current.0 (1 + (g.over - span_in r))
  pub count : g.count ≡ made - (g.over - span_in r)
  pub current : g.kept.current.0 ≡ s
  pub oldest : g.kept.oldest.0 ≡ forward r.oldest.0 g.over
  pub latest : g.kept.latest ≡ time
