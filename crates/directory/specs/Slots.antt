-- What an entry stands for: never used, erased, the label, a plain file.
use Rattle.std.specs.Prelude.{ℕ, ◌/◌, ◌%◌, Bool, true, false, cond, List, ◌≢◌, ◌⊎◌, ◌≡◌, eqb, get_or}
use Rattle.fields.specs.Fields.{attr_of}
use Rattle.directory.specs.declared.Standing.{Standing}
use Rattle.directory.specs.declared.Standing.TheVariants.{NeverUsed, Erased, Label, Plain}

-- the bit of v whose worth is b, a power of two
abbrev pub has_bit : ℕ → ℕ → Bool
has_bit v b = eqb (v / b % 2) 1

-- First byte 00: never used;
abbrev pub NeverUsedAt : List ℕ → ℕ → Type 0
NeverUsedAt l a = get_or l a 0 ≡ 0

-- E5: erased;
abbrev pub ErasedAt : List ℕ → ℕ → Type 0
ErasedAt l a = get_or l a 0 ≡ 0xE5

-- all others are live.
abbrev pub LiveAt : List ℕ → ℕ → Type 0
LiveAt l a = (get_or l a 0 ≢ 0) × (get_or l a 0 ≢ 0xE5)

-- A live entry with attribute bit 08 is the label
abbrev pub LabelAt : List ℕ → ℕ → Type 0
LabelAt l a = LiveAt l a × (has_bit (attr_of l a) 0x08 ≡ true)

-- Every other live entry is a plain file.
abbrev pub PlainAt : List ℕ → ℕ → Type 0
PlainAt l a = LiveAt l a × (has_bit (attr_of l a) 0x08 ≡ false)

-- erased or never used: a slot that a new file may take
abbrev pub VacantAt : List ℕ → ℕ → Type 0
VacantAt l a = ErasedAt l a ⊎ NeverUsedAt l a

-- ---- the same as a function of the first byte and the attribute

unfoldable pub standing_by : ℕ → ℕ → Standing
standing_by first attr =
    cond (eqb first 0) NeverUsed
    (cond (eqb first 0xE5) Erased
    (cond (has_bit attr 0x08) Label
    Plain))

abbrev pub standing_of : List ℕ → ℕ → Standing
standing_of l a = standing_by (get_or l a 0) (attr_of l a)

abbrev pub is_vacant : Standing → Bool
is_vacant NeverUsed = true
is_vacant Erased = true
is_vacant Label = false
is_vacant Plain = false

abbrev pub is_plain : Standing → Bool
is_plain NeverUsed = false
is_plain Erased = false
is_plain Label = false
is_plain Plain = true
