-- The listing's lines, in the paper's order.
use Rattle.std.specs.Prelude.{ℕ, List, ◌++◌}
use Rattle.text.specs.Ascii.{ascii}
use Rattle.text.specs.Digits.{decimal, hex}
use Rattle.text.specs.Names.{name_text}
use Rattle.text.specs.Stamps.{date_text, time_text}

-- a key with its equals sign, a value, and the line's end
unfoldable pub line : List ℕ → List ℕ → List ℕ
line key value = key ++ (value ++ ascii "\n")

-- ---- a file

unfoldable pub stamp_text : ℕ → ℕ → List ℕ
stamp_text date time = line (ascii "date=") (date_text date) ++ line (ascii "time=") (time_text time)

unfoldable pub file_text : List ℕ → ℕ → ℕ → ℕ → ℕ → ℕ → List ℕ
file_text name attr size start date time =
    line (ascii "file=") (name_text name)
    ++ (line (ascii "attr=") (hex attr)
    ++ (line (ascii "size=") (decimal size)
    ++ (line (ascii "start=") (decimal start)
    ++ stamp_text date time)))

-- ---- a sound volume, before its files

-- "`bad=` then `reserved=`"
unfoldable pub out_of_use_text : ℕ → ℕ → List ℕ
out_of_use_text bad reserved = line (ascii "bad=") (decimal bad) ++ line (ascii "reserved=") (decimal reserved)

unfoldable pub counts_text : ℕ → ℕ → ℕ → ℕ → ℕ → List ℕ
counts_text free held bad reserved files =
    line (ascii "free=") (decimal free)
    ++ (line (ascii "held=") (decimal held)
    ++ (out_of_use_text bad reserved
    ++ line (ascii "files=") (decimal files)))

unfoldable pub sound_text : ℕ → ℕ → ℕ → ℕ → ℕ → ℕ → ℕ → List ℕ
sound_text kind clusters free held bad reserved files =
    ascii "sound=yes\n"
    ++ (line (ascii "kind=") (hex kind)
    ++ (line (ascii "clusters=") (decimal clusters)
    ++ counts_text free held bad reserved files))

-- ---- If not sound: `sound=no`, `finding=`, `place=` only.

unfoldable pub unsound_text : ℕ → ℕ → List ℕ
unsound_text finding place =
    ascii "sound=no\n"
    ++ (line (ascii "finding=") (decimal finding)
    ++ line (ascii "place=") (decimal place))
