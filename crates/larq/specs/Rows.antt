-- A table of which every row holds: one statement of the whole, in which a row that fails stands by itself.
use Rattle.std.specs.Prelude.{List, [], ◌∷◌}

abbrev pub Every : {A : Type 0} → (A → Type 0) → List A → Type 0
Every Holds [] = Unit
Every Holds (row ∷ rows) = (Holds row × Every Holds rows)
