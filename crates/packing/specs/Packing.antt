-- "A call answers a uint64_t: the refusal number in the upper 32 bits, the value in the lower."
use Rattle.std.specs.Prelude.{ℕ, ◌/◌, ◌%◌}

abbrev pub upper : ℕ → ℕ
upper answer = answer / 4294967296

abbrev pub lower : ℕ → ℕ
lower answer = answer % 4294967296
