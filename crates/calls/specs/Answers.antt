-- What a call answers, as this paper tells it: a refusal its number and value 0, a call that ends well 0 and its value.
use Rattle.std.specs.Prelude.{ℕ, Result, Ok, Err}
use Rattle.calls.specs.Numbers.{refusal_number}
use Rattle.calls.specs.declared.refusal.Refusal.{Refusal}

abbrev pub Answer : Type 0
Answer = Result ℕ Refusal

abbrev pub number_told : {A : Type 0} → Result A Refusal → ℕ
number_told (Ok v) = 0
number_told (Err e) = refusal_number e

abbrev pub value_told : Answer → ℕ
value_told (Ok v) = v
value_told (Err e) = 0
