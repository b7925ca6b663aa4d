-- The words of a stamp as the listing prints them: "An out-of-range date or time prints `none`".
use Rattle.std.specs.Prelude.{ℕ, ◌+◌, ◌*◌, List, ◌++◌, Option, Some, None}
use Rattle.text.specs.Ascii.{ascii}
use Rattle.text.specs.Digits.{in_digits}
use Rattle.stamps.specs.Stamps.{time_read, date_read}

-- a mark and a number in two digits
unfoldable pub marked_text : List ℕ → ℕ → List ℕ
marked_text mark n = mark ++ in_digits 10 2 n

-- three numbers with a mark between them: the first in w digits, the others in two
unfoldable pub three_text : ℕ → List ℕ → ℕ → ℕ → ℕ → List ℕ
three_text w mark a b c = in_digits 10 w a ++ (marked_text mark b ++ marked_text mark c)

-- YYYY-MM-DD: the year counts from 1980
unfoldable pub date_shown : Option (ℕ × ℕ × ℕ) → List ℕ
date_shown (Some (year, month, day)) = three_text 4 (ascii "-") (1980 + year) month day
date_shown None = ascii "none"

-- HH:MM:SS: steps are of two seconds
unfoldable pub time_shown : Option (ℕ × ℕ × ℕ) → List ℕ
time_shown (Some (hour, minute, step)) = three_text 2 (ascii ":") hour minute (step * 2)
time_shown None = ascii "none"

abbrev pub date_text : ℕ → List ℕ
date_text word = date_shown (date_read word)

abbrev pub time_text : ℕ → List ℕ
time_text word = time_shown (time_read word)
