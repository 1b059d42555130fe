-- Words and their flags: a flag of a union and of a difference, and the flag in which two words differ. Assumes nothing.
-- One law carries a bit operation to the flags, and one search, `apart`, goes down the digits of two words until they differ.
use Prim.Native.Nat.{ℕ, zero, suc, ◌+◌, ◌-◌, ◌*◌, ◌<◌, ◌^◌, ◌/◌, ◌%◌, min, max}
use mathlib.Core.Path.{◌≡◌, sym, ap, ap₂, ◌∙◌}
use mathlib.Core.Logic.{◌≢◌, ◌↔◌, ◌⊎◌, inl, inr, ⊎_elim}
use native.Mathlib.Omega.{arith}
use native.Mathlib.Decide.{ℕ_discrete}
use native.Mathlib.Nat.{pow-suc, pow-succ', div-div-eq-div-mul, div-one, zero-div}
use lib.Bits.{bit_and, bit_or, and_step, or_step, and_le_l, or_lt}
use Rattle.capability.specs.Sets.{◌with◌, ◌without◌}
use Rattle.capability.specs.Flags.{Word, flag, ◌isIn◌, ◌isNotIn◌, SomeFlag, SomeDifference}

flag_zero : (w : ℕ) → flag 0 w ≡ w % 2
flag_zero w = ap (λ (x : ℕ). x % 2) (div-one w)

flag_suc : (i w : ℕ) → flag (suc i) w ≡ flag i (w / 2)
flag_suc i w = ap (λ (x : ℕ). w / x % 2) (pow-succ' 2 i) ∙ ap (λ (x : ℕ). x % 2) (sym (div-div-eq-div-mul w 2 (2 ^ i)))

pub flag_none : (i : ℕ) → flag i 0 ≡ 0
flag_none i = ap (λ (x : ℕ). x % 2) (zero-div (2 ^ i))

-- ---- an operation on words that goes digit by digit goes flag by flag

low : (n x d : ℕ) → n ≡ x * 2 + d → d < 2 → n % 2 ≡ d
low n x d e h = omega arith

high : (n x d : ℕ) → n ≡ x * 2 + d → d < 2 → n / 2 ≡ x
high n x d e h = omega arith

module _ (op f : ℕ → ℕ → ℕ) (step : (a b : ℕ) → op a b ≡ op (a / 2) (b / 2) * 2 + f (a % 2) (b % 2)) (digit : (x y : ℕ) → x < 2 → y < 2 → f x y < 2) where
  flag_op : (i a b : ℕ) → flag i (op a b) ≡ f (flag i a) (flag i b)
  flag_op zero a b =
      flag_zero (op a b) ∙ low _ _ _ (step a b) (digit _ _ (omega arith) (omega arith)) ∙ ap₂ f (sym (flag_zero a)) (sym (flag_zero b))
  flag_op (suc i) a b =
      flag_suc i (op a b) ∙ ap (flag i) (high _ _ _ (step a b) (digit _ _ (omega arith) (omega arith))) ∙ flag_op i (a / 2) (b / 2)
      ∙ ap₂ f (sym (flag_suc i a)) (sym (flag_suc i b))

pub flag_with : (i a b : ℕ) → flag i (a with b) ≡ max (flag i a) (flag i b)
flag_with = flag_op bit_or max or_step (λ x y h k. omega arith)

flag_and : (i a b : ℕ) → flag i (bit_and a b) ≡ min (flag i a) (flag i b)
flag_and = flag_op bit_and min and_step (λ x y h k. omega arith)

-- ---- a complement and a difference

flag_not : (k i b : ℕ) → i < k → b < 2 ^ k → flag i ((2 ^ k - 1) - b) ≡ 1 - flag i b
flag_not zero i b h l = absurd (omega arith)
flag_not (suc k) zero b h l =
    let p : 2 ^ suc k ≡ 2 ^ k * 2 = pow-suc 2 k in
    flag_zero ((2 ^ suc k - 1) - b) ∙ odd p ∙ ap (λ (x : ℕ). 1 - x) (sym (flag_zero b))
  where
    odd : 2 ^ suc k ≡ 2 ^ k * 2 → ((2 ^ suc k - 1) - b) % 2 ≡ 1 - b % 2
    odd p = omega arith
flag_not (suc k) (suc i) b h l =
    let p : 2 ^ suc k ≡ 2 ^ k * 2 = pow-suc 2 k in
    flag_suc i ((2 ^ suc k - 1) - b) ∙ ap (flag i) (half p) ∙ flag_not k i (b / 2) (omega arith) (omega arith)
    ∙ ap (λ (x : ℕ). 1 - x) (sym (flag_suc i b))
  where
    half : 2 ^ suc k ≡ 2 ^ k * 2 → ((2 ^ suc k - 1) - b) / 2 ≡ (2 ^ k - 1) - b / 2
    half p = omega arith

pub flag_without : (i a b : ℕ) → i < 32 → Word b → flag i (a without b) ≡ min (flag i a) (1 - flag i b)
flag_without i a b h l = flag_and i a ((2 ^ 32 - 1) - b) ∙ ap (min (flag i a)) (flag_not 32 i b h l)

pub word_with : (a b : ℕ) → Word a → Word b → Word (a with b)
word_with = or_lt 32

pub word_without : (a b : ℕ) → Word a → Word (a without b)
word_without a b h = omega (arith, and_le_l a ((2 ^ 32 - 1) - b))

-- ---- the same as membership

one_of : (x y : ℕ) → x < 2 → y < 2 → (max x y ≡ 1) ↔ ((x ≡ 1) ⊎ (y ≡ 1))
one_of zero y h k = (λ e. inr (omega arith), ⊎_elim (λ e. absurd (omega arith)) (λ e. omega arith))
one_of (suc x) y h k = (λ e. inl (omega arith), λ e. omega arith)

pub in_with : (i a b : ℕ) → (i isIn a with b) ↔ ((i isIn a) ⊎ (i isIn b))
in_with i a b = rw (flag_with i a b) (one_of (flag i a) (flag i b) (omega arith) (omega arith))

pub in_without : (i a b : ℕ) → i < 32 → Word b → (i isIn a without b) ↔ ((i isIn a) × (i isNotIn b))
in_without i a b h l = rw (flag_without i a b h l) (λ e. (omega arith, omega arith), λ e. omega arith)

-- what is not in a set is in no part of it
pub not_in_without : (i a b : ℕ) → i isNotIn a → i isNotIn a without b
not_in_without i a b h = omega (arith, flag_and i a ((2 ^ 32 - 1) - b))

-- ---- two words are equal, or some flag is in one of them alone

record Apart (k a b : ℕ) : Type 0 where
  at : ℕ
  below : at < k
  differs : flag at a ≢ flag at b

apart : (k a b : ℕ) → a < 2 ^ k → b < 2 ^ k → (a ≡ b) ⊎ Apart k a b
apart zero a b h l = inl (omega arith)
apart (suc k) a b h l =
    let p : 2 ^ suc k ≡ 2 ^ k * 2 = pow-suc 2 k in
    by (ℕ_discrete (a % 2) (b % 2)) (apart k (a / 2) (b / 2) (omega arith) (omega arith))
  where
    by : Dec (a % 2 ≡ b % 2) → (a / 2 ≡ b / 2) ⊎ Apart k (a / 2) (b / 2) → (a ≡ b) ⊎ Apart (suc k) a b
    by (no n) r = inr (record { at = 0; below = omega arith; differs = λ e. n (sym (flag_zero a) ∙ e ∙ flag_zero b) })
    by (yes d) (inl e) = inl (omega arith)
    by (yes d) (inr r) =
        inr
        (record { at = suc r.at; below = omega arith; differs = λ e. r.differs (sym (flag_suc r.at a) ∙ e ∙ flag_suc r.at b) })

pub same_flags : {a b : ℕ} → Word a → Word b → ((i : ℕ) → i < 32 → flag i a ≡ flag i b) → a ≡ b
same_flags {a} {b} ha hb h = ⊎_elim (λ e. e) (λ r. absurd (r.differs (h r.at r.below))) (apart 32 a b ha hb)

pub some_difference : (a b : ℕ) → Word a → Word b → (a ≢ b) ↔ SomeDifference a b
some_difference a b ha hb = (
  λ n. ⊎_elim (λ e. absurd (n e)) (λ r. record { at = r.at; below = r.below; differs = r.differs }) (apart 32 a b ha hb),
  λ r e. r.differs (ap (flag r.at) e),
)

-- a word is not 0 exactly if some flag is in it
pub some_flag : (w : ℕ) → Word w → (w ≢ 0) ↔ SomeFlag w
some_flag w h = (
  λ n. held ((some_difference w 0 h (omega arith)).0 n),
  λ r e. never r.held (ap (flag r.at) e ∙ flag_none r.at),
)
  where
    held : SomeDifference w 0 → SomeFlag w
    held r = record { at = r.at; below = r.below; held = omega (arith, r.differs, flag_none r.at) }

    never : {x : ℕ} → x ≡ 1 → x ≡ 0 → ⊥
    never p q = omega arith
