-- The reader's contract allows one answer to each body: kind and values of an answer give the answer back. Assumes nothing.
use mathlib.Core.Path.{◌≡◌, refl, ◌∙◌, sym, ap₂}
use mathlib.Core.Bool.{cond}
use mathlib.Core.List.{List}
use Prim.Native.Nat.{ℕ}
use lib.Dec.{eqb}
use lib.ListN.{get_or}
use Rattle.std.specs.Prelude.{Option, Some, None}
use Rattle.session.specs.Bodies.{kind_read, values_read, Reads}
use Rattle.session.specs.declared.Key.{Key}
use Rattle.session.specs.declared.Request.{Request}
use Rattle.session.specs.declared.Body.{Body}
use Rattle.session.specs.declared.Body.TheVariants.{Data, Reminder, Tick, Close, Look, Fresh, Use, Period, Received, Read, Write}

module _ (vs : List ℕ) where
  abbrev value : ℕ → ℕ
  value i = get_or vs i 0

  abbrev key_by : Key
  key_by = record { destination = value 0; source = value 1; priority = value 2 }

  abbrev request_by : Request
  request_by =
      record {
        destination = value 0;
        source = value 1;
        opcode = value 2;
        bands = value 3;
        pe1 = value 4;
        rank1 = value 5;
        pe2 = value 6;
        rank2 = value 7;
      }

  -- the answer of a kind and these values
  abbrev answer_by : ℕ → Option Body
  answer_by k =
      cond (eqb k 1) (Some (Data key_by (value 3) (value 4) (value 5)))
      (cond (eqb k 2) (Some (Reminder key_by (value 3) (value 4)))
      (cond (eqb k 3) (Some (Tick key_by (value 3)))
      (cond (eqb k 4) (Some (Close key_by (value 3)))
      (cond (eqb k 5) (Some (Look key_by))
      (cond (eqb k 6) (Some (Fresh (value 0)))
      (cond (eqb k 7) (Some (Use (value 0)))
      (cond (eqb k 8) (Some Period)
      (cond (eqb k 9) (Some (Received (value 0) (value 1) (value 2) (value 3)))
      (cond (eqb k 10) (Some Read) (cond (eqb k 11) (Some (Write request_by (value 8))) None))))))))))

given_back : (r : Option Body) → answer_by (values_read r) (kind_read r) ≡ r
given_back (Some (Data k t n h)) = refl
given_back (Some (Reminder k t n)) = refl
given_back (Some (Tick k t)) = refl
given_back (Some (Close k t)) = refl
given_back (Some (Look k)) = refl
given_back (Some (Fresh d)) = refl
given_back (Some (Use f)) = refl
given_back (Some Period) = refl
given_back (Some (Received o a b c)) = refl
given_back (Some Read) = refl
given_back (Some (Write q r)) = refl
given_back None = refl

pub one_answer : (s : List ℕ) (r r' : Option Body) → Reads s r → Reads s r' → r ≡ r'
one_answer s r r' p q =
    sym (given_back r) ∙ (ap₂ answer_by (p.values ∙ sym q.values) (p.kind ∙ sym q.kind) ∙ given_back r')
