-- The refusal numbers of documents 01 and 02: each once, by a name that the rows of the calls use. The rows have the order of test.
use Rattle.std.specs.Prelude.{ℕ}
use Rattle.calls.specs.declared.refusal.Refusal.{Refusal}
use Rattle.calls.specs.declared.refusal.Refusal.TheVariants.{InvalidFunction, FileNotFound, TooManyOpen, AccessDenied, InvalidHandle, InvalidAccess, NoMoreFiles, OfNoKind, Unsound, BreaksRules, OutOfRange}

-- ---- "Numbers 1 to 12 have the meaning of its Error Return Table"

-- seek method above 2; file mode function above 1; seek result below 0 or above 4,294,967,295
abbrev pub invalid_function : ℕ
invalid_function = 1

-- no such plain file
abbrev pub file_not_found : ℕ
file_not_found = 2

-- no unused place
abbrev pub too_many_open : ℕ
too_many_open = 4

-- attribute bit not allowed; file open; read-only; new name taken; no slot; read on access 1, write on access 0
abbrev pub access_denied : ℕ
access_denied = 5

-- handle not live
abbrev pub invalid_handle : ℕ
invalid_handle = 6

-- access above 2
abbrev pub invalid_access : ℕ
invalid_access = 12

-- ---- document 02, M-100

-- no more files
abbrev pub no_more_files : ℕ
no_more_files = 18

-- ---- the group's own

-- image not of a kind (format: unknown kind byte or wrong length)
abbrev pub of_no_kind : ℕ
of_no_kind = 40

-- volume not sound
abbrev pub unsound : ℕ
unsound = 41

-- a name breaks the rules; a bad pattern
abbrev pub breaks_rules : ℕ
breaks_rules = 42

-- a stamp out of its ranges
abbrev pub out_of_range : ℕ
out_of_range = 43

-- ---- the number of each refusal of the code

abbrev pub refusal_number : Refusal → ℕ
refusal_number InvalidFunction = invalid_function
refusal_number FileNotFound = file_not_found
refusal_number TooManyOpen = too_many_open
refusal_number AccessDenied = access_denied
refusal_number InvalidHandle = invalid_handle
refusal_number InvalidAccess = invalid_access
refusal_number NoMoreFiles = no_more_files
refusal_number OfNoKind = of_no_kind
refusal_number Unsound = unsound
refusal_number BreaksRules = breaks_rules
refusal_number OutOfRange = out_of_range
