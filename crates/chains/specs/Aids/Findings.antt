-- The findings on table and chains, without any walk, over any list of entries: each entry is a place and the number of its holder.
use Rattle.std.specs.Prelude.{ℕ, ◌≡◌, ◌≢◌, Bool, List, [], ◌∷◌, ltb}
use Rattle.chains.specs.Lists.{◌∈◌}
use Rattle.chains.specs.Values.{Link, Used, Valid}
use Rattle.chains.specs.Aids.Holders.{Holder, Owns}
use Rattle.chains.specs.Verdict.{OrElse}

-- finding 3: "An entry from 2 to the last cluster has none of the values above"
abbrev pub NoValue : ℕ → (ℕ → ℕ) → ℕ → Type 0
NoValue last f c = Link last c × (¬ Valid last (f c))

-- finding 5: an entry at place p whose holder has no list of clusters that fits it
abbrev pub BadChain : {P : Type 0} → ℕ → (ℕ → ℕ) → (ℕ → Holder) → List (P × ℕ) → P → Type 0
BadChain last f h es p = (i : ℕ) × ((p, i) ∈ es) × ((cs : List ℕ) → ¬ Owns last f (h i) cs)

-- c is a cluster of the holder i
abbrev pub InChain : ℕ → (ℕ → ℕ) → (ℕ → Holder) → ℕ → ℕ → Type 0
InChain last f h i c = (cs : List ℕ) × Owns last f (h i) cs × (c ∈ cs)

-- finding 6: "A cluster in two files' chains"
abbrev pub InTwo : ℕ → (ℕ → ℕ) → (ℕ → Holder) → List ℕ → ℕ → Type 0
InTwo last f h is c = (i j : ℕ) × (i ≢ j) × (i ∈ is) × (j ∈ is) × InChain last f h i c × InChain last f h j c

-- finding 7: "A cluster whose value is a link or an end but which is in no chain"
abbrev pub Lost : ℕ → (ℕ → ℕ) → (ℕ → Holder) → List ℕ → ℕ → Type 0
Lost last f h is c = Link last c × Used last (f c) × ((i : ℕ) → i ∈ is → ¬ InChain last f h i c)

-- the numbers of the holders
unfoldable pub holders_of : {P : Type 0} → List (P × ℕ) → List ℕ
holders_of [] = []
holders_of (e ∷ es) = e.1 ∷ holders_of es

-- how an answer is said
pub record Voice (P A : Type 0) : Type 0 where
  pub bad_chain : P → A
  pub in_two : ℕ → A
  pub lost : ℕ → A
  pub fine : A

-- the answer from finding 7 on
abbrev pub FromLost : {P A : Type 0} → ℕ → (ℕ → ℕ) → (ℕ → Holder) → List (P × ℕ) → Voice P A → A → Type 0
FromLost last f h es W = OrElse ltb (Lost last f h (holders_of es)) W.lost (λ a. a ≡ W.fine)

-- the answer from finding 6 on
abbrev pub FromTwo : {P A : Type 0} → ℕ → (ℕ → ℕ) → (ℕ → Holder) → List (P × ℕ) → Voice P A → A → Type 0
FromTwo last f h es W = OrElse ltb (InTwo last f h (holders_of es)) W.in_two (FromLost last f h es W)

-- the answer from finding 5 on. (Findings that come before are put in front by the same OrElse.)
abbrev pub FromChains : {P A : Type 0} → (P → P → Bool) → ℕ → (ℕ → ℕ) → (ℕ → Holder) → List (P × ℕ) → Voice P A → A → Type 0
FromChains before last f h es W = OrElse before (BadChain last f h es) W.bad_chain (FromTwo last f h es W)
