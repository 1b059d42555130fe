-- A look at one place: what is told of its record where it is sound, and number 6 where it is broken. Assumes nothing.
use Prim.Native.Nat.{ℕ, ◌≤◌}
use mathlib.Core.Path.{◌≡◌, refl, ap, ap₂, sym, ◌∙◌}
use mathlib.Core.Bool.{Bool, true, false}
use mathlib.Core.List.{List, ◌++◌, map}
use native.Mathlib.Omega.{arith}
use lib.ListN.{length, drop, length-map}
use lib.Seq.{sets}
use Rattle.std.proofs.lemmas.List.Edits.{sets-eq}
use Rattle.std.specs.Prelude.{Ok, Err}
use Rattle.ring.specs.Ring.{forward, steps}
use Rattle.larq.specs.Channel.{window, sound, span_of}
use Rattle.larq.proofs.Sound.{Sound, sound_is}
use Rattle.larq.specs.declared.refused.Refused.TheVariants.{Broken}
use Rattle.slots.specs.Slots.{slots, place_words, current_in, oldest_in, latest_in}
use Rattle.record.specs.Place.{cells_from, cell_at, record_with, record_of, sound_at}
use Rattle.judging.proofs.Sounds.{sound_handles, sound_by_sizes}
use Rattle.record.proofs.Windows.{length_cells_from}
use Rattle.table_calls.specs.Look.{shown_at, cell_mark, cell_value, Looked, seen}
use Rattle.table_calls.specs.declared.looking.View.{View}

-- a list that was laid from the front of a buffer
fronted : (x before after : List ℕ) → after ≡ sets before 0 x → length x ≤ length before → after ≡ x ++ drop (length x) before
fronted x before after e h = grind (arith, sets-eq)

-- the span, as it is counted from C and M
pub span_is : (w : List ℕ) (n f c m : ℕ) → c ≡ current_in w → m ≡ oldest_in w → n ≡ steps m f → f ≡ forward c 1 → n ≡ span_of (current_in w) (oldest_in w)
span_is w n f c m c-is m-is n_is f-is = n_is ∙ ap (steps m) f-is ∙ ap₂ span_of c-is m-is

-- what the words of a sound record are
pub record Fits (w : List ℕ) : Type 0 where
  pub current : current_in w ≤ 4095
  pub oldest : oldest_in w ≤ 4095
  pub short : span_of (current_in w) (oldest_in w) ≤ window

-- the parts are as long as they should be
module _ (w h k : List ℕ) (lw : length w ≡ place_words) (lk : length k ≡ slots) where
  sounds : (b : Bool) → sound_at w k ≡ b → sound window (record_of w h k) ≡ b
  sounds b e = sound_handles w h k ∙ sym (sound_by_sizes w k lw lk) ∙ e

  pub broken_looked : sound_at w k ≡ false → (X Y : List ℕ) → Looked (shown_at (record_of w h k)) X X Y Y (seen (Err Broken))
  broken_looked e X Y =
      rw (sounds false e) (record { number = refl; current = refl; oldest = refl; latest = refl; span = refl; marks = refl; cells = refl })

  module _ (e : sound_at w k ≡ true) where
    pub fits : Fits w
    unfolding record_with
    fits =
        let s : Sound window (record_of w h k) = sound_is window (record_of w h k) (sounds true e) in
        record {
          current = s.current;
          oldest = s.oldest;
          short = rw (length_cells_from (cell_at w h k) (oldest_in w) (span_of (current_in w) (oldest_in w))) at s.short;
        }

    -- and so are the buffers
    pub looked : (m n : ℕ) (X X' Y Y' : List ℕ) → m ≡ oldest_in w → n ≡ span_of (current_in w) (oldest_in w) → window ≤ length X → window ≤ length Y
        → X' ≡ sets X 0 (map cell_mark (cells_from (cell_at w h k) m n)) → Y' ≡ sets Y 0 (map cell_value (cells_from (cell_at w h k) m n))
        → (given : View) → (given.current ≡ current_in w) × (given.oldest ≡ oldest_in w) × (given.latest ≡ latest_in w) × (given.span ≡ n)
        → Looked (shown_at (record_of w h k)) X X' Y Y' (seen (Ok given))
    unfolding record_with
    looked m n X X' Y Y' m-is n_is roomX roomY eX eY given g =
        let cells = cells_from (cell_at w h k) (oldest_in w) n in
        let many : length cells ≡ n = length_cells_from (cell_at w h k) (oldest_in w) n in
        let short = fits.short in
        rw (sounds true e, ← n_is)
        (record {
          number = refl;
          current = g.0;
          oldest = g.1;
          latest = g.2;
          span = g.3 ∙ sym many;
          marks = fronted (map cell_mark cells) X X' (rw m-is at eX) (omega (arith, length-map cells cell_mark));
          cells = fronted (map cell_value cells) Y Y' (rw m-is at eY) (omega (arith, length-map cells cell_value));
        })
