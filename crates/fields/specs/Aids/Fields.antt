-- The bytes of a fresh entry, and those that the code stores first.
use Rattle.std.specs.Prelude.{ℕ, List, ◌++◌, ◌∷◌, replicate}
use Rattle.fields.specs.Fields.{tail_bytes}

-- bytes 0-21
unfoldable pub head_bytes : List ℕ → ℕ → List ℕ
head_bytes name attr = name ++ (attr ∷ replicate 10 0)

-- all 32
abbrev pub entry_bytes : List ℕ → ℕ → ℕ → ℕ → ℕ → ℕ → List ℕ
entry_bytes name attr time date start size = (name ++ (attr ∷ replicate 10 0)) ++ tail_bytes time date start size
