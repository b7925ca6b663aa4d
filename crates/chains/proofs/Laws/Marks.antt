-- What the marks say.
use Rattle.std.specs.Prelude.{ℕ, ◌+◌, ◌≤◌, ◌<◌, min, ◌≡◌, refl, ◌↔◌, List, [], ◌∷◌, ◌++◌, length, get_or, set, replicate}
use Rattle.std.proofs.Common.{arith, sym, ap, ◌∙◌, subst, inl, inr, length-set, get_or-set_same, get_or-set_other}
use Rattle.std.proofs.lemmas.List.{length-replicate, get_or-replicate, set-get_or}
use Rattle.chains.specs.Lists.{◌∈◌}
use Rattle.chains.specs.Aids.Lists.{hit, occ, Once, joined, InTwoOf}
use Rattle.chains.specs.Aids.Marks.{mark, marks, marks_of}
use Rattle.chains.proofs.Laws.Lists.{dec_mem, hit_cases, hit_same, joined_mem, mem_joined, mem_occ, occ_append, occ_mem, occ_not, once_head, once_tail}

pub mark_length : (m : List ℕ) (c : ℕ) → length (mark m c) ≡ length m
unfolding mark
mark_length m c = length-set m c _

pub marks_length : (m cs : List ℕ) → length (marks m cs) ≡ length m
unfolding marks
marks_length m [] = refl
marks_length m (c ∷ cs) = marks_length (mark m c) cs ∙ mark_length m c

-- chain after chain is one list of clusters
pub marks_append : (m cs ds : List ℕ) → marks m (cs ++ ds) ≡ marks (marks m cs) ds
unfolding marks
marks_append m [] ds = refl
marks_append m (c ∷ cs) ds = marks_append (mark m c) cs ds

pub marks_joined : (m : List ℕ) (χ : ℕ → List ℕ) (i : ℕ) (is : List ℕ) → marks m (joined χ (i ∷ is)) ≡ marks (marks m (χ i)) (joined χ is)
unfolding joined
marks_joined m χ i is = marks_append m (χ i) (joined χ is)

mark_at : (m : List ℕ) (c a t : ℕ) → a < length m → get_or m a 0 ≡ min 2 t → get_or (mark m c) a 0 ≡ min 2 (t + hit a c)
unfolding mark
mark_at m c a t l e = elim (hit_cases a c) [
  | inl h ↦
      let k : c < length m = omega arith in
      let q : get_or m c 0 ≡ get_or m a 0 = ap (λ (x : ℕ). get_or m x 0) (sym h.0) in
      rw (h.0, get_or-set_same m c (min 2 (get_or m c 0 + 1)) 0 k) (omega (arith, hit_same c c refl))
  | inr h ↦ get_or-set_other m c a (min 2 (get_or m c 0 + 1)) 0 h.0 ∙ omega arith
]

pub marks_at : (m cs : List ℕ) (a t : ℕ) → a < length m → get_or m a 0 ≡ min 2 t → get_or (marks m cs) a 0 ≡ min 2 (t + occ a cs)
unfolding marks occ
marks_at m [] a t l e = omega arith
marks_at m (c ∷ cs) a t l e =
    omega (arith, marks_at (mark m c) cs a (t + hit a c) (omega (arith, mark_length m c)) (mark_at m c a t l e))

pub marks_of_at : (size : ℕ) (all : List ℕ) (c : ℕ) → c < size → get_or (marks_of size all) c 0 ≡ min 2 (occ c all)
unfolding marks_of
marks_of_at size all c l = marks_at (replicate size 0) all c 0 (omega (arith, length-replicate {A = ℕ} size 0)) (get_or-replicate size c 0 0 l) ∙ omega arith

-- ---- 2 is in two of the lists

in_two_occ : (χ : ℕ → List ℕ) (is : List ℕ) (c : ℕ) → InTwoOf χ is c → 1 < occ c (joined χ is)
unfolding joined
in_two_occ χ [] c s = absurd s.3
in_two_occ χ (k ∷ is) c s = go (λ a b. in_two_occ χ is c (s.0, s.1, s.2, a, b, s.5, s.6)) s.3 s.4
  where
    here : (i j : ℕ) → i ≡ k → j ∈ is → c ∈ χ i → c ∈ χ j → 1 < occ c (χ k ++ joined χ is)
    here i j e m a b = omega (arith, occ_append c (χ k) (joined χ is), mem_occ c (χ k) (subst (λ (x : ℕ). c ∈ χ x) e a), mem_occ c (joined χ is) (joined_mem χ is c j m b))

    go : (s.0 ∈ is → s.1 ∈ is → 1 < occ c (joined χ is)) → s.0 ∈ (k ∷ is) → s.1 ∈ (k ∷ is) → 1 < occ c (χ k ++ joined χ is)
    go later (inl a) (inl b) = absurd (s.2 (a ∙ sym b))
    go later (inl a) (inr b) = here s.0 s.1 a b s.5 s.6
    go later (inr a) (inl b) = here s.1 s.0 b a s.6 s.5
    go later (inr a) (inr b) = omega (arith, occ_append c (χ k) (joined χ is), later a b)

occ_in_two : (χ : ℕ → List ℕ) (is : List ℕ) (c : ℕ) → Once is → ((i : ℕ) → i ∈ is → occ c (χ i) ≤ 1) → 1 < occ c (joined χ is) → InTwoOf χ is c
unfolding joined occ
occ_in_two χ [] c e o h = absurd (omega arith)
occ_in_two χ (i ∷ is) c e o h = elim (dec_mem c (χ i)) [
  | yes m ↦
      let r = mem_joined χ is c (occ_mem c (joined χ is) (omega (arith, occ_append c (χ i) (joined χ is), o i (inl refl)))) in
      (i, r.0, λ q. once_head i is e (subst (λ (x : ℕ). x ∈ is) (sym q) r.1), inl refl, inr r.1, m, r.2)
  | no n ↦
      let r = occ_in_two χ is c (once_tail i is e) (λ j k. o j (inr k)) (omega (arith, occ_append c (χ i) (joined χ is), occ_not c (χ i) n)) in
      (r.0, r.1, r.2, inr r.3, inr r.4, r.5, r.6)
]

pub two_in_two : (size : ℕ) (χ : ℕ → List ℕ) (is : List ℕ) (c : ℕ) → c < size → Once is → ((i : ℕ) → i ∈ is → occ c (χ i) ≤ 1) → (get_or (marks_of size (joined χ is)) c 0 ≡ 2) ↔ InTwoOf χ is c
two_in_two size χ is c l e o = (λ q. occ_in_two χ is c e o (omega (arith, marks_of_at size (joined χ is) c l)), λ s. omega (arith, marks_of_at size (joined χ is) c l, in_two_occ χ is c s))

-- ---- 0 is in none

pub zero_none : (size : ℕ) (all : List ℕ) (c : ℕ) → c < size → (get_or (marks_of size all) c 0 ≡ 0) ↔ (¬ (c ∈ all))
zero_none size all c l = (λ e m. omega (arith, marks_of_at size all c l, mem_occ c all m), λ n. omega (arith, marks_of_at size all c l, occ_not c all n))

-- ---- 2 stays

mark_stays : (m : List ℕ) (c : ℕ) → get_or m c 0 ≡ 2 → mark m c ≡ m
unfolding mark
mark_stays m c e = let z : min 2 (get_or m c 0 + 1) ≡ get_or m c 0 = omega arith in ap (set m c) z ∙ set-get_or m c 0

pub marks_stay : (m cs : List ℕ) → ((c : ℕ) → c ∈ cs → get_or m c 0 ≡ 2) → marks m cs ≡ m
unfolding marks
marks_stay m [] h = refl
marks_stay m (c ∷ cs) h = ap (λ (k : List ℕ). marks k cs) (mark_stays m c (h c (inl refl))) ∙ marks_stay m cs (λ d k. h d (inr k))
