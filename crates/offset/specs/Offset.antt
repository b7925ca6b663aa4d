-- Document 01, "What the calls do": seek adds a signed 32-bit offset; refused is a result below 0 or above 4,294,967,295.
use Rattle.std.specs.Prelude.{ℕ, cond, leb, ℤ, pos, negsuc, ◌+ℤ◌, Option, Some, None}

-- a whole number as a pointer: not below 0, not above 4,294,967,295
abbrev pub as_pointer : ℤ → Option ℕ
as_pointer (pos n) = cond (leb n 4294967295) (Some n) None
as_pointer (negsuc n) = None

unfoldable pub moved_by : ℕ → ℤ → Option ℕ
moved_by base offset = as_pointer (pos base +ℤ offset)
