-- Any two outcomes that a contract of this crate allows are equal. Of octets handed back that is their list and the place in the caller's storage; the name
-- that the logic gives a reference is no part of what a program can see.
-- Assumes nothing.
use mathlib.Core.Path.{◌≡◌, sym, ◌∙◌}
use mathlib.Core.List.{List}
use Prim.Native.Nat.{ℕ}
use denote.Ref.{Bor}
use Rattle.wire.specs.Octets.{OwnPart}
use Rattle.wire.specs.Laying.{Lays}

-- a contract that says which value the result is
pub one_value : {A : Type 0} (value : A) {r t : A} → r ≡ value → t ≡ value → r ≡ t
one_value value p q = p ∙ sym q

-- two references to the same octets in the same storage
pub record SamePart (r t : Bor (List ℕ)) : Type 0 where
  pub octets : r.now ≡ t.now
  pub place : r.ref_ptr ≡ t.ref_ptr

pub one_part : (whole : Bor (List ℕ)) (start count : ℕ) {r t : Bor (List ℕ)} → OwnPart whole start count r → OwnPart whole start count t → SamePart r t
one_part whole start count p q = record { octets = p.octets ∙ sym q.octets; place = p.place ∙ sym q.place }

pub one_lay : (at : ℕ) (octets before : List ℕ) {after after' : List ℕ} {next next' : ℕ} → Lays at octets before after next → Lays at octets before after' next' → (after ≡ after') × (next ≡ next')
one_lay at octets before p q = (p.output ∙ sym q.output, p.place ∙ sym q.place)
