-- The octets behind a body's fields lie within it, and reach to its end; and when an answer says what a body says. Assumes nothing.
use mathlib.Core.Path.{◌≡◌, refl, ◌∙◌, sym, ap, ap₂}
use mathlib.Core.Bool.{Bool, true, false, cond}
use mathlib.Core.List.{List, ◌∷◌, ◌++◌}
use mathlib.Core.Option.{Option, none, some}
use Prim.Native.Nat.{ℕ, ◌-◌, ◌≤◌}
use native.Mathlib.Omega.{arith}
use lib.ListN.{length, take, drop, length-drop}
use lib.Seq.{take_all, drop-length}
use Rattle.wire.specs.Octets.{octet_at}
use Rattle.std.specs.Prelude.{Some, None}
use Rattle.session.specs.Layout.{Form, form_of, form_for, form_at, form_fits, of_length, known, is_readable, end_in, fields_end, fields_at, rest_at, Saying, said_by, said}
use Rattle.session.specs.Bodies.{key_at, request_at, key_values, request_values, kind_of, values_of, Reads}
use Rattle.session.specs.declared.Key.{Key}
use Rattle.session.specs.declared.Request.{Request}
use Rattle.session.specs.declared.Body.{Body}
use Rattle.session.specs.Kinds.{number_of}
use Rattle.session.specs.declared.kind.Kind.{Kind}
use Rattle.session.specs.declared.kind.Kind.TheVariants.{Data, Reminder, Tick, Close, Look, Fresh, Use, Period, Received, Read, Write}
use Rattle.session.proofs.Forms.{fits_end, form_readable}

pub rest_within : (s : List ℕ) → rest_at s ≤ length s
rest_within s = go (form_of (octet_at s 0))
  where
    by_length : (f : Form) (b : Bool) → form_fits f (length s) ≡ b → end_in (length s) (cond b (some f) none) ≤ length s
    by_length f true h = fits_end f (length s) h
    by_length f false h = omega arith

    go : (o : Option Form) → end_in (length s) (of_length (length s) o) ≤ length s
    go none = omega arith
    go (some f) = by_length f (form_fits f (length s)) refl

-- each kind that is named has a form
pub named_end : (n : ℕ) (k : Kind) → end_in n (form_of (number_of k)) ≡ fields_end (number_of k)
unfolding form_of
named_end n Data = refl
named_end n Reminder = refl
named_end n Tick = refl
named_end n Close = refl
named_end n Look = refl
named_end n Fresh = refl
named_end n Use = refl
named_end n Period = refl
named_end n Received = refl
named_end n Read = refl
named_end n Write = refl

-- the octets behind the fields are those from where the rest starts
pub rest_said : (s : List ℕ) → (said s).rest ≡ drop (rest_at s) s
unfolding said
rest_said s = go (form_at s)
  where
    go : (o : Option Form) → (said_by s o).rest ≡ drop (end_in (length s) o) s
    go none = sym (drop-length s)
    go (some f) = refl

pub all_behind : (s : List ℕ) (at : ℕ) → at ≡ rest_at s → take (length s - at) (drop at s) ≡ (said s).rest
all_behind s at e = take_all (length s - at) (drop at s) (omega (arith, length-drop at s)) ∙ (ap (λ (k : ℕ). drop k s) e ∙ sym (rest_said s))

infixr 5 ◌then◌
pub ◌then◌ : {x y : ℕ} {xs ys : List ℕ} → x ≡ y → xs ≡ ys → x ∷ xs ≡ y ∷ ys
p then q = ap₂ ◌∷◌ p q

-- values that begin with a key, or with a request, are those of fields that do
pub keyed : (s : List ℕ) (k : Key) (ws vs : List ℕ) → k ≡ key_at s → vs ≡ fields_at s 14 ws → key_values k ++ vs ≡ fields_at s 1 (6 ∷ 6 ∷ 1 ∷ ws)
keyed s k ws vs p q = ap₂ (λ (k : Key) (vs : List ℕ). key_values k ++ vs) p q

pub requested : (s : List ℕ) (r : Request) (ws vs : List ℕ) → r ≡ request_at s → vs ≡ fields_at s 19 ws
    → request_values r ++ vs ≡ fields_at s 1 (6 ∷ 6 ∷ 1 ∷ 1 ∷ 1 ∷ 1 ∷ 1 ∷ 1 ∷ ws)
requested s r ws vs p q = ap₂ (λ (r : Request) (vs : List ℕ). request_values r ++ vs) p q

-- When an answer says what a body says: where the body has the answer's form and the answer its values, and where the body is unreadable.
module _ (s : List ℕ) {k : ℕ} (first : k ≡ octet_at s 0) where
  said_by_law : {o : Option Form} → form_for k (length s) ≡ o → said s ≡ said_by s o
  unfolding said
  said_by_law e = ap (said_by s) (ap (λ (k : ℕ). form_for k (length s)) (sym first) ∙ e)

  -- the body is of kind j, whose form is f, and so is the answer
  pub reads_as : (j : ℕ) (f : Form) (r : Body) → form_of j ≡ some f → is_readable k (length s) ≡ true → k ≡ j
      → kind_of r ≡ f.kind → values_of r ≡ fields_at s 1 f.widths → Reads s (Some r)
  reads_as j f r e readable is kind values =
      let so = said_by_law (form_readable k (length s) f (ap form_of is ∙ e) readable) in
      record { kind = kind ∙ ap (λ (w : Saying). w.kind) (sym so); values = values ∙ ap (λ (w : Saying). w.values) (sym so) }

  pub reads_unreadable : is_readable k (length s) ≡ false → Reads s None
  unfolding said
  reads_unreadable h = grind arith

  pub reads_unknown : form_of k ≡ none → Reads s None
  reads_unknown e = reads_unreadable (ap (λ (o : Option Form). known (of_length (length s) o)) e)
