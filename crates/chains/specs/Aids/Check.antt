-- The same findings as code computes them, with a walk for each holder and marks for its clusters.
use Rattle.std.specs.Prelude.{ℕ, ◌-◌, Bool, false, ◌&&◌, ◌||◌, not, List, [], eqb, length, get_or, Option, Some, None}
use Rattle.search.specs.Search.{lowest}
use Rattle.chains.specs.Aids.Lists.{joined}
use Rattle.chains.specs.Values.{badb, freeb, linkb, endb, reservedb}
use Rattle.chains.specs.Aids.Walk.{walk}
use Rattle.chains.specs.Aids.Holders.{Holder}
use Rattle.chains.specs.Aids.Marks.{marks_of}
use Rattle.chains.specs.Aids.Verdict.{or_else}
use Rattle.chains.specs.Aids.Findings.{Voice}

-- the clusters of the holder, if its chain has an end
unfoldable pub chain_of : ℕ → (ℕ → ℕ) → Holder → List ℕ
chain_of last f h = elim (walk last f h.start) [ None ↦ [] | Some cs ↦ cs ]

-- is there an end, and is the chain's length allowed?
unfoldable pub ownsb : ℕ → (ℕ → ℕ) → Holder → Bool
ownsb last f h = elim (walk last f h.start) [ None ↦ false | Some cs ↦ h.allows (length cs) ]

-- the marks of the chains of all of is, in a list of size places
unfoldable pub chain_marks : ℕ → ℕ → (ℕ → ℕ) → (ℕ → Holder) → List ℕ → List ℕ
chain_marks size last f h is = marks_of size (joined (λ i. chain_of last f (h i)) is)

-- finding 3 at cluster c
unfoldable pub no_value : ℕ → (ℕ → ℕ) → ℕ → Bool
no_value last f c = not (freeb (f c) || (linkb last (f c) || (endb (f c) || (badb (f c) || reservedb (f c)))))

-- finding 6 at cluster c, by the marks m
unfoldable pub in_two : List ℕ → ℕ → Bool
in_two m c = eqb (get_or m c 0) 2

-- finding 7 at cluster c, by the marks m
unfoldable pub lost : ℕ → (ℕ → ℕ) → List ℕ → ℕ → Bool
lost last f m c = (linkb last (f c) || endb (f c)) && eqb (get_or m c 0) 0

-- the answer from finding 7 on
unfoldable pub check_lost : {P A : Type 0} → ℕ → (ℕ → ℕ) → List ℕ → Voice P A → A
check_lost last f m W = or_else W.lost (lowest (lost last f m) 2 (last - 1)) W.fine

-- the answer from finding 6 on
unfoldable pub check_two : {P A : Type 0} → ℕ → (ℕ → ℕ) → List ℕ → Voice P A → A
check_two last f m W = or_else W.in_two (lowest (in_two m) 2 (last - 1)) (check_lost last f m W)

-- the answer from finding 5 on, o being what the search for it found
unfoldable pub check_chains : {P A : Type 0} → ℕ → (ℕ → ℕ) → List ℕ → Voice P A → Option P → A
check_chains last f m W o = or_else W.bad_chain o (check_two last f m W)
