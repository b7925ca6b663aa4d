-- The bytes of a file that is written whole.
use Rattle.std.specs.Prelude.{ℕ, List, [], ◌∷◌, ◌≡◌, refl, length, take}
use Rattle.std.proofs.Common.{ap}
use Rattle.chains.specs.Write.{written}
use Rattle.chains.specs.Aids.Write.{splice}
use Rattle.chains.proofs.Laws.Splice.{splice_end}

pub take_all : (bs : List ℕ) → take (length bs) bs ≡ bs
take_all [] = refl
take_all (b ∷ bs) = ap (λ (r : List ℕ). b ∷ r) (take_all bs)

pub written_first : (bs : List ℕ) → written [] 0 bs ≡ bs
unfolding written splice
written_first bs = splice_end [] bs 0 refl
