-- The four kinds: document 01's table.
use Rattle.std.specs.Prelude.{ℕ, cond, eqb, Option, Some, None}
use Rattle.diskette.specs.declared.Kind.{Kind}

-- kind byte, sectors, FAT sectors, root sectors, sectors per cluster
abbrev pub kind : ℕ → ℕ → ℕ → ℕ → ℕ → Kind
kind b s f r p = record { byte = b; sectors = s; fat = f; root = r; per = p }

abbrev pub kind_fe : Kind
kind_fe = kind 0xFE 320 1 4 1

abbrev pub kind_ff : Kind
kind_ff = kind 0xFF 640 1 7 2

abbrev pub kind_fc : Kind
kind_fc = kind 0xFC 360 2 4 1

abbrev pub kind_fd : Kind
kind_fd = kind 0xFD 720 2 7 2

-- the kind that a byte names
unfoldable pub named : ℕ → Option Kind
named b =
    cond (eqb b 0xFE) (Some kind_fe)
    (cond (eqb b 0xFF) (Some kind_ff)
    (cond (eqb b 0xFC) (Some kind_fc)
    (cond (eqb b 0xFD) (Some kind_fd)
    None)))
