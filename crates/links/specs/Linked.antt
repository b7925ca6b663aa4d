-- New clusters behind the last one of a chain (write).
use Rattle.std.specs.Prelude.{ℕ, ◌-◌, cond, List, [], ◌∷◌, eqb, length, get_or}
use Rattle.table.specs.Entries.{set_both}

-- the last cluster of a chain, 0 where it has none
unfoldable pub end_of : List ℕ → ℕ
end_of cs = get_or cs (length cs - 1) 0

-- cluster d comes behind prev, or begins a chain where prev is 0: it ends the chain ("We write FFF"), and prev names it
unfoldable pub linked_to : ℕ → List ℕ → ℕ → ℕ → List ℕ
linked_to second l prev d = let m = set_both second l d 0xFFF in cond (eqb prev 0) m (set_both second m prev d)

-- each cluster of a list comes behind the one before, the first behind prev
unfoldable pub linked : ℕ → List ℕ → ℕ → List ℕ → List ℕ
linked second l prev [] = l
linked second l prev (d ∷ ds) = linked second (linked_to second l prev d) d ds
