-- A refusal is told by its number: no two have the same. Assumes nothing.
use Prim.Native.Nat.{ℕ}
use mathlib.Core.Path.{◌≡◌, refl, sym, ap, ◌∙◌}
use mathlib.Core.List.{List, [], ◌∷◌}
use lib.ListN.{get_or}
use Rattle.larq.specs.Refused.{number_of}
use Rattle.larq.specs.declared.refused.Refused.{Refused}
use Rattle.larq.specs.declared.refused.Refused.TheVariants.{Lent, Number, Priority, Unknown, Full, Broken, Earlier, Far}

-- the refusals in the order of their numbers; no refusal has the number 0
abbrev in_order : List Refused
in_order = Far ∷ Lent ∷ Number ∷ Priority ∷ Unknown ∷ Full ∷ Broken ∷ Earlier ∷ Far ∷ []

-- the refusal with a number
abbrev numbered : ℕ → Refused
numbered n = get_or in_order n Far

numbered_back : (e : Refused) → numbered (number_of e) ≡ e
numbered_back Lent = refl
numbered_back Number = refl
numbered_back Priority = refl
numbered_back Unknown = refl
numbered_back Full = refl
numbered_back Broken = refl
numbered_back Earlier = refl
numbered_back Far = refl

pub one_refused : (a b : Refused) → number_of a ≡ number_of b → a ≡ b
one_refused a b e = sym (numbered_back a) ∙ (ap numbered e ∙ numbered_back b)
