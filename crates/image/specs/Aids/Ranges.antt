-- Runs of bytes that have nothing in common.
use Rattle.std.specs.Prelude.{ℕ, ◌+◌, ◌≤◌, ◌<◌, ◌⊎◌}

-- byte j is none of the n bytes from byte at on
abbrev pub Outside : ℕ → ℕ → ℕ → Type 0
Outside at n j = (j < at) ⊎ (at + n ≤ j)

-- the n bytes from byte a on and the m bytes from byte b on have none in common
abbrev pub Apart : ℕ → ℕ → ℕ → ℕ → Type 0
Apart a n b m = (a + n ≤ b) ⊎ (b + m ≤ a)
