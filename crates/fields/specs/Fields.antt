-- 32 bytes: name 0-7, extension 8-10, attribute 11, reserved 12-21, time 22, date 24, start cluster 26, size 28 (four bytes);
-- all low byte first. Each is read from, and stored in, the 32 bytes of l from byte a on.
use Rattle.std.specs.Prelude.{ℕ, ◌+◌, List, [], ◌∷◌, ◌++◌, get_or, replicate}
use Rattle.image.specs.Store.{stored, part}
use Rattle.image.specs.Numbers.{number, digits}

-- name 0-7, extension 8-10: eleven bytes
abbrev pub name_of : List ℕ → ℕ → List ℕ
name_of l a = part l a 11

-- attribute 11
abbrev pub attr_of : List ℕ → ℕ → ℕ
attr_of l a = get_or l (a + 11) 0

-- reserved 12-21
abbrev pub reserved_bytes : List ℕ → ℕ → List ℕ
reserved_bytes l a = part l (a + 12) 10

-- time 22
abbrev pub time_of : List ℕ → ℕ → ℕ
time_of l a = number l (a + 22) 2

-- date 24
abbrev pub date_of : List ℕ → ℕ → ℕ
date_of l a = number l (a + 24) 2

-- start cluster 26
abbrev pub start_of : List ℕ → ℕ → ℕ
start_of l a = number l (a + 26) 2

-- size 28 (four bytes)
abbrev pub size_of : List ℕ → ℕ → ℕ
size_of l a = number l (a + 28) 4

-- ---- a field stored: nothing but its bytes changes

abbrev pub with_name : List ℕ → ℕ → List ℕ → List ℕ
with_name l a name = stored l a name

-- the first byte of the name, which also says what the slot stands for
abbrev pub with_first : List ℕ → ℕ → ℕ → List ℕ
with_first l a v = stored l a (v ∷ [])

abbrev pub with_attr : List ℕ → ℕ → ℕ → List ℕ
with_attr l a v = stored l (a + 11) (v ∷ [])

abbrev pub with_time : List ℕ → ℕ → ℕ → List ℕ
with_time l a v = stored l (a + 22) (digits v 2)

abbrev pub with_date : List ℕ → ℕ → ℕ → List ℕ
with_date l a v = stored l (a + 24) (digits v 2)

abbrev pub with_start : List ℕ → ℕ → ℕ → List ℕ
with_start l a v = stored l (a + 26) (digits v 2)

abbrev pub with_size : List ℕ → ℕ → ℕ → List ℕ
with_size l a v = stored l (a + 28) (digits v 4)

-- ---- a fresh entry: name, attribute, zero reserved bytes, stamp, start, size

-- bytes 22-31
unfoldable pub tail_bytes : ℕ → ℕ → ℕ → ℕ → List ℕ
tail_bytes time date start size = digits time 2 ++ (digits date 2 ++ (digits start 2 ++ digits size 4))

abbrev pub with_entry : List ℕ → ℕ → List ℕ → ℕ → ℕ → ℕ → ℕ → ℕ → List ℕ
with_entry l a name attr time date start size = stored l a ((name ++ (attr ∷ replicate 10 0)) ++ tail_bytes time date start size)
