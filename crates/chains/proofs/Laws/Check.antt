-- What is computed with walks and marks is what the findings say.
use Rattle.std.specs.Prelude.{ℕ, ◌+◌, ◌-◌, ◌≤◌, ◌<◌, ◌≡◌, refl, ◌↔◌, Bool, true, false, List, [], ◌∷◌, ltb, length, get_or, Option, Some, None}
use Rattle.std.proofs.Common.{arith, ap, subst, inl, inr}
use Rattle.search.specs.Search.{lowest}
use Rattle.chains.specs.Aids.Tests.{Says, aye, nay}
use Rattle.chains.specs.Lists.{◌∈◌}
use Rattle.chains.specs.Aids.Lists.{Once, joined, InTwoOf}
use Rattle.chains.specs.Aids.Sizes.{Geometry}
use Rattle.chains.specs.Values.{Link}
use Rattle.chains.specs.Aids.Walk.{walk}
use Rattle.chains.specs.Aids.Holders.{Holder, Owns}
use Rattle.chains.specs.Aids.Marks.{marks_of}
use Rattle.chains.specs.Aids.Verdict.{Finds}
use Rattle.chains.specs.Aids.Findings.{NoValue, InChain, InTwo, Lost, holders_of}
use Rattle.chains.specs.Aids.Check.{no_value, chain_marks, chain_of, in_two, lost, ownsb}
use Rattle.chains.proofs.Laws.Tests.{clash, says_and, says_eq, says_map, says_not, says_or}
use Rattle.chains.proofs.Laws.Lists.{joined_mem, mem_joined}
use Rattle.chains.proofs.Laws.Values.{says_end, says_link, says_valid}
use Rattle.chains.proofs.Laws.Chain.{chain_mem, chain_once}
use Rattle.chains.proofs.Laws.Walk.{chain_walk, walk_chain}
use Rattle.chains.proofs.Laws.Marks.{two_in_two, zero_none}
use Rattle.chains.proofs.Laws.Verdict.{lowest_finds}

-- ---- one holder: its clusters, if it has a good chain

says_owns : (G : Geometry) (f : ℕ → ℕ) (h : Holder) → Says (ownsb G.last f h) (Owns G.last f h (chain_of G.last f h))
unfolding ownsb chain_of
says_owns G f h = go (walk G.last f h.start) refl
  where
    fit : (cs : List ℕ) → walk G.last f h.start ≡ Some cs → (b : Bool) → h.allows (length cs) ≡ b → Says (h.allows (length cs)) (Owns G.last f h cs)
    fit cs e true q = aye q (record { chain = walk_chain G f h.start cs e; long = q })
    fit cs e false q = nay q (λ o. clash o.long q)

    go : (o : Option (List ℕ)) → walk G.last f h.start ≡ o
        → Says (elim o as (λ _. Bool) [ None ↦ false | Some cs ↦ h.allows (length cs) ]) (Owns G.last f h (elim o as (λ _. List ℕ) [ None ↦ [] | Some cs ↦ cs ]))
    go None e = nay refl (λ o. let z : ◌≡◌ {A = ℕ} 0 1 = cc (chain_walk G f h.start [] o.chain) in omega arith)
    go (Some cs) e = fit cs e (h.allows (length cs)) refl

-- whoever has a good chain has that one
pub owns_chain_of : (G : Geometry) (f : ℕ → ℕ) (h : Holder) (cs : List ℕ) → Owns G.last f h cs → cs ≡ chain_of G.last f h
unfolding chain_of
owns_chain_of G f h cs o = go (walk G.last f h.start) (chain_walk G f h.start cs o.chain)
  where
    go : (w : Option (List ℕ)) → w ≡ Some cs → cs ≡ (elim w as (λ _. List ℕ) [ None ↦ [] | Some cs ↦ cs ])
    go None e = absurd (let z : ◌≡◌ {A = ℕ} 0 1 = cc in omega arith)
    go (Some ds) e = cc

pub owned_chain_of : (G : Geometry) (f : ℕ → ℕ) (h : Holder) (cs : List ℕ) → Owns G.last f h cs → Owns G.last f h (chain_of G.last f h)
owned_chain_of G f h cs o = subst (λ (ds : List ℕ). Owns G.last f h ds) (owns_chain_of G f h cs o) o

pub says_owned : (G : Geometry) (f : ℕ → ℕ) (h : Holder) → Says (ownsb G.last f h) ((cs : List ℕ) × Owns G.last f h cs)
says_owned G f h = says_map (λ o. (chain_of G.last f h, o)) (λ r. owned_chain_of G f h r.0 r.1) (says_owns G f h)

-- ---- the numbers of the holders

pub in_holders : {P : Type 0} (es : List (P × ℕ)) (p : P) (i : ℕ) → (p, i) ∈ es → i ∈ holders_of es
unfolding holders_of
in_holders [] p i m = absurd m
in_holders (e ∷ es) p i (inl q) = inl (ap (λ (x : _ × ℕ). x.1) q)
in_holders (e ∷ es) p i (inr m) = inr (in_holders es p i m)

pub holders_in : {P : Type 0} (es : List (P × ℕ)) (i : ℕ) → i ∈ holders_of es → (p : P) × ((p, i) ∈ es)
unfolding holders_of
holders_in [] i m = absurd m
holders_in (e ∷ es) i (inl q) = (e.0, inl (λ k. (e.0, q k)))
holders_in (e ∷ es) i (inr m) = let r = holders_in es i m in (r.0, inr r.1)

-- ---- finding 3

pub found_no_value : (G : Geometry) (f : ℕ → ℕ) → Finds ltb (NoValue G.last f) (lowest (no_value G.last f) 2 (G.last - 1))
unfolding no_value
found_no_value G f = lowest_finds (NoValue G.last f) (no_value G.last f) 2 (G.last - 1) (λ p b. (b.0.0, omega arith))
    (λ c k l. says_map (λ n. ((k, omega arith), n)) (λ b. b.1) (says_not (says_valid G.last (f c))))

-- ---- where all chains are good, the marks decide findings 6 and 7

-- a holder's cluster is one of its walk
pub in_chain : (G : Geometry) (f : ℕ → ℕ) (h : ℕ → Holder) (i c : ℕ) → InChain G.last f h i c → c ∈ chain_of G.last f (h i)
in_chain G f h i c r = subst (λ (ds : List ℕ). c ∈ ds) (owns_chain_of G f (h i) r.0 r.1) r.2

module _ (G : Geometry) (f : ℕ → ℕ) (h : ℕ → Holder) (is : List ℕ) (good : (i : ℕ) → i ∈ is → Owns G.last f (h i) (chain_of G.last f (h i))) where
  abbrev χ : ℕ → List ℕ
  χ i = chain_of G.last f (h i)

  chain_in : (i c : ℕ) → i ∈ is → c ∈ χ i → InChain G.last f h i c
  chain_in i c m k = (χ i, good i m, k)

  in_range : (i c : ℕ) → i ∈ is → c ∈ χ i → Link G.last c
  in_range i c m k = (chain_mem G f (h i).start (χ i) (good i m).chain c k).0

  two_of : (c : ℕ) → InTwo G.last f h is c → InTwoOf χ is c
  two_of c r = (r.0, r.1, r.2, r.3, r.4, in_chain G f h r.0 c r.5, in_chain G f h r.1 c r.6)

  of_two : (c : ℕ) → InTwoOf χ is c → InTwo G.last f h is c
  of_two c r = (r.0, r.1, r.2, r.3, r.4, chain_in r.0 c r.3 r.5, chain_in r.1 c r.4 r.6)

  none_of : (c : ℕ) → ((i : ℕ) → i ∈ is → ¬ InChain G.last f h i c) → ¬ (c ∈ joined χ is)
  none_of c n m = let r = mem_joined χ is c m in n r.0 r.1 (chain_in r.0 c r.1 r.2)

  of_none : (c : ℕ) → ¬ (c ∈ joined χ is) → (i : ℕ) → i ∈ is → ¬ InChain G.last f h i c
  of_none c n i m r = n (joined_mem χ is c i m (in_chain G f h i c r))

  module _ (size : ℕ) (big : G.last < size) where
    pub says_in_two : Once is → (c : ℕ) → 2 ≤ c → c < 2 + (G.last - 1) → Says (in_two (chain_marks size G.last f h is) c) (InTwo G.last f h is c)
    unfolding in_two chain_marks
    says_in_two e c k l =
        let two : (get_or (marks_of size (joined χ is)) c 0 ≡ 2) ↔ InTwoOf χ is c = two_in_two size χ is c (omega arith) e (λ i m. chain_once G f (h i).start (χ i) (good i m).chain c) in
        says_map (λ q. of_two c (two.0 q)) (λ b. two.1 (two_of c b)) (says_eq (get_or (marks_of size (joined χ is)) c 0) 2)

    pub says_lost : (c : ℕ) → 2 ≤ c → c < 2 + (G.last - 1) → Says (lost G.last f (chain_marks size G.last f h is) c) (Lost G.last f h is c)
    unfolding lost chain_marks
    says_lost c k l =
        let no : (get_or (marks_of size (joined χ is)) c 0 ≡ 0) ↔ (¬ (c ∈ joined χ is)) = zero_none size (joined χ is) c (omega arith) in
        says_map (λ r. ((k, omega arith), r.0, of_none c r.1)) (λ b. (b.1, none_of c b.2))
        (says_and (says_or (says_link G.last (f c)) (says_end (f c))) (says_map no.0 no.1 (says_eq (get_or (marks_of size (joined χ is)) c 0) 0)))

    pub found_in_two : Once is → Finds ltb (InTwo G.last f h is) (lowest (in_two (chain_marks size G.last f h is)) 2 (G.last - 1))
    found_in_two e = lowest_finds (InTwo G.last f h is) (in_two (chain_marks size G.last f h is)) 2 (G.last - 1)
        (λ c b. let r = in_range b.0 c b.3 (in_chain G f h b.0 c b.5) in (r.0, omega arith)) (says_in_two e)

    pub found_lost : Finds ltb (Lost G.last f h is) (lowest (lost G.last f (chain_marks size G.last f h is)) 2 (G.last - 1))
    found_lost = lowest_finds (Lost G.last f h is) (lost G.last f (chain_marks size G.last f h is)) 2 (G.last - 1)
        (λ c b. (b.0.0, omega arith)) says_lost
