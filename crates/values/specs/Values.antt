-- What the 12 bits of an entry mean, on a volume with that last cluster.
use Rattle.std.specs.Prelude.{ℕ, cond, ◌≢◌, ◌≡◌, eqb, leb, ltb}
use Rattle.chains.specs.Values as value
use Rattle.values.specs.declared.Meaning.{Meaning}
use Rattle.values.specs.declared.Meaning.TheVariants.{Free, Next, Bad, Reserved, End, NoneOfThese}

-- the values that each case stands for: "000 free; 2 to the last cluster, the next cluster"; "FF7, a bad cluster"; "FF0 to FF6,
-- reserved"; "FF8 to FFF the end"
abbrev pub Values : Meaning → ℕ → ℕ → Type 0
Values Free last v = v ≡ 0
Values (Next n) last v = value.Link last v × (n ≡ v)
Values Bad last v = value.Bad v
Values Reserved last v = value.Reserved v
Values End last v = value.End v
Values NoneOfThese last v = (v ≢ 0) × (¬ value.Link last v) × (¬ value.Bad v) × (¬ value.Reserved v) × (¬ value.End v)

-- the same as a function, for the values of 12 bits
unfoldable pub meaning_of : ℕ → ℕ → Meaning
meaning_of last v =
    cond (eqb v 0) Free
    (cond (ltb v 2) NoneOfThese
    (cond (leb v last) (Next v)
    (cond (leb 0xFF8 v) End
    (cond (eqb v 0xFF7) Bad
    (cond (leb 0xFF0 v) Reserved
    NoneOfThese)))))
