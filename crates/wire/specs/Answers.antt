-- What the answer of a field, or of a call that may be refused, stands for: document 01's number, 0 where nothing is refused, and the values that come with it.
-- Document 01, 'Where to use each form': a definition gives number and values for each case of an enum that is an answer.
use Rattle.std.specs.Prelude.{ℕ, cond, List, [], Option, Some, None, Result, Ok, Err}
use Rattle.wire.specs.Refusals.{Refusal}

pub record Said : Type 0 where
  pub number : ℕ
  pub values : List ℕ

abbrev pub accepted : List ℕ → Said
accepted vs = record { number = 0; values = vs }

abbrev pub refused : ℕ → Said
refused n = record { number = n; values = [] }

-- what is to be said by a row of refusals: the values where its test passes, else its number
abbrev pub ruled : Refusal → List ℕ → Said
ruled row vs = cond row.passes (accepted vs) (refused row.number)

-- the cases of a result, by the values of what is accepted and the number of each refusal
abbrev pub result_says : {A E : Type 0} → (A → List ℕ) → (E → ℕ) → Result A E → Said
result_says values number (Ok x) = accepted (values x)
result_says values number (Err e) = refused (number e)

-- the cases of a field's answer, by its values, where the field's refusal has the number n
abbrev pub option_says : {A : Type 0} → (A → List ℕ) → ℕ → Option A → Said
option_says values n (Some x) = accepted (values x)
option_says values n None = refused n

-- the number alone that a result says
abbrev pub number_in : {A E : Type 0} → (E → ℕ) → Result A E → ℕ
number_in number (Ok x) = 0
number_in number (Err e) = number e
