-- Finding 5 by examples, on volumes with clusters of 512 bytes. The table f has the chains 2, 3, 4 and 5, 6, and the ring 7, 8.
use Rattle.std.specs.Prelude.{ℕ, cond, List, [], ◌∷◌, refl, eqb}
use Rattle.std.proofs.Common.{arith, sym, subst}
use Rattle.chains.specs.Sizes.{clusters_for}
use Rattle.chains.specs.Aids.Chain.{Leads}
use Rattle.chains.specs.Aids.Holders.{Owns, file_holder}
use Rattle.chains.proofs.Laws.Sizes.{fits_least}
use Rattle.sound.specs.Files.{FileClusters, none_of_it, enough}
use Rattle.sound.proofs.Laws.Clusters.{chain_clusters, file_owns}

abbrev f : ℕ → ℕ
f c =
    cond (eqb c 2) 3 (cond (eqb c 3) 4 (cond (eqb c 4) 0xFFF
    (cond (eqb c 5) 6 (cond (eqb c 6) 0xFF8
    (cond (eqb c 7) 8 (cond (eqb c 8) 7 0))))))

abbrev File : ℕ → ℕ → List ℕ → Type 0
File start size cs = FileClusters 314 512 f start size cs

-- "a chain may be longer": three clusters for one byte
pub one_byte : File 2 1 (2 ∷ 3 ∷ 4 ∷ [])
unfolding clusters_for
one_byte = enough (omega arith) (omega arith) (chain_clusters 314 f 2 (2 ∷ 3 ∷ 4 ∷ []) (omega arith)
    (refl, (omega arith, omega arith), (refl, (omega arith, omega arith), (refl, (omega arith, omega arith), (omega arith, omega arith)))))

-- "a file of size 0 may have a chain
pub no_byte : File 5 0 (5 ∷ 6 ∷ [])
unfolding clusters_for
no_byte = enough (omega arith) (omega arith) (chain_clusters 314 f 5 (5 ∷ 6 ∷ []) (omega arith)
    (refl, (omega arith, omega arith), (refl, (omega arith, omega arith), (omega arith, omega arith))))

-- or start 0"
pub no_chain : File 0 0 []
no_chain = none_of_it refl refl refl

-- ---- "start 0 with size above 0, or a chain too short, broken or without end": no list of clusters is such a file's

owned : (start size : ℕ) (cs : List ℕ) → File start size cs → Owns 314 f (file_holder 512 start size) cs
owned start size cs c = file_owns 314 512 (omega arith) f start size cs c

pub without_start : (cs : List ℕ) → ¬ File 0 1 cs
unfolding clusters_for
without_start [] c = omega (arith, fits_least 512 1 0 (owned 0 1 [] c).long)
without_start (x ∷ xs) c = let p = (owned 0 1 (x ∷ xs) c).chain in omega (arith, p.0, p.1.0)

-- two clusters for 1,025 bytes
pub too_short : (cs : List ℕ) → ¬ File 5 1025 cs
unfolding clusters_for
too_short [] c = let p = (owned 5 1025 [] c).chain in omega arith
too_short (x ∷ []) c = omega (arith, fits_least 512 1025 1 (owned 5 1025 (x ∷ []) c).long)
too_short (x ∷ (y ∷ [])) c = omega (arith, fits_least 512 1025 2 (owned 5 1025 (x ∷ (y ∷ [])) c).long)
too_short (x ∷ (y ∷ (z ∷ zs))) c =
    let p = (owned 5 1025 (x ∷ (y ∷ (z ∷ zs))) c).chain in
    let q : Leads 314 f 6 (y ∷ (z ∷ zs)) = subst (λ (c : ℕ). Leads 314 f (f c) (y ∷ (z ∷ zs))) (sym p.0) p.2 in
    let r : Leads 314 f 0xFF8 (z ∷ zs) = subst (λ (c : ℕ). Leads 314 f (f c) (z ∷ zs)) (sym q.0) q.2 in
    omega (arith, r.0, r.1.1)

-- size 0 and a start that is no cluster
pub broken : (cs : List ℕ) → ¬ File 1 0 cs
broken [] c = let p = (owned 1 0 [] c).chain in omega arith
broken (x ∷ xs) c = let p = (owned 1 0 (x ∷ xs) c).chain in omega (arith, p.0, p.1.0)

-- enough clusters, and then the first of them again
round : (cs : List ℕ) → ¬ Leads 314 f 7 cs
round [] p = omega (arith, p.0)
round (x ∷ []) p = let q : Leads 314 f 8 [] = subst (λ (c : ℕ). Leads 314 f (f c) []) (sym p.0) p.2 in omega (arith, q.0)
round (x ∷ (y ∷ ys)) p =
    let q : Leads 314 f 8 (y ∷ ys) = subst (λ (c : ℕ). Leads 314 f (f c) (y ∷ ys)) (sym p.0) p.2 in
    round ys (subst (λ (c : ℕ). Leads 314 f (f c) ys) (sym q.0) q.2)

pub without_end : (cs : List ℕ) → ¬ File 7 512 cs
without_end [] c = let p = (owned 7 512 [] c).chain in omega arith
without_end (x ∷ xs) c = round (x ∷ xs) (owned 7 512 (x ∷ xs) c).chain
