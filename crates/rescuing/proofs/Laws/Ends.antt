-- A chain whose last cluster has an end value.
use Rattle.std.specs.Prelude.{ℕ, zero, suc, ◌≤◌, ◌<◌, Bool, true, false, cond, List, [], ◌∷◌, ◌≡◌, refl, length}
use Rattle.std.proofs.Common.{arith, ap, ◌∙◌}
use Rattle.chains.specs.Aids.Chain.{Chain, Leads}
use Rattle.chains.specs.Aids.Lists.{last_of}
use Rattle.chains.specs.Chain.{clusters_from}
use Rattle.chains.specs.Values.{End, linkb}
use Rattle.chains.proofs.Laws.Tests.{says_true}
use Rattle.chains.proofs.Laws.Values.{says_link}
use Rattle.links.specs.Linked.{end_of}
use Rattle.links.proofs.Laws.Linked.{end_none, end_last}

-- c was met last, and clusters from its value on: where the last of all has an end value, that value leads to them
met_leads : (last : ℕ) (f : ℕ → ℕ) (n c : ℕ) → End (f (last_of c (clusters_from last f n (f c)))) → Leads last f (f c) (clusters_from last f n (f c))
unfolding clusters_from last_of
met_leads last f zero c e = e
met_leads last f (suc n) c e = by (linkb last (f c)) refl (met_leads last f n (f c)) e
  where
    by : (b : Bool) → linkb last (f c) ≡ b
        → (End (f (last_of (f c) (clusters_from last f n (f (f c))))) → Leads last f (f (f c)) (clusters_from last f n (f (f c))))
        → End (f (last_of c (cond b (f c ∷ clusters_from last f n (f (f c))) []))) → Leads last f (f c) (cond b (f c ∷ clusters_from last f n (f (f c))) [])
    by true q later e = (refl, says_true (says_link last (f c)) q, later e)
    by false q later e = e

-- so clusters from start on are a chain where there are any and the last has an end value
pub met_chain : (last : ℕ) (f : ℕ → ℕ) → f 0 ≡ 0 → (n start : ℕ) → End (f (end_of (clusters_from last f n start)))
    → (0 < length (clusters_from last f n start)) × Chain last f start (clusters_from last f n start)
unfolding clusters_from
met_chain last f z zero start e = absurd (let q : f (end_of []) ≡ 0 = ap f end_none ∙ z in omega arith)
met_chain last f z (suc n) start e = by (linkb last start) refl e
  where
    by : (b : Bool) → linkb last start ≡ b → End (f (end_of (cond b (start ∷ clusters_from last f n (f start)) [])))
        → (0 < length (cond b (start ∷ clusters_from last f n (f start)) [])) × Chain last f start (cond b (start ∷ clusters_from last f n (f start)) [])
    by true q e = (omega arith, (refl, says_true (says_link last start) q, met_leads last f n start (rw (end_last start (clusters_from last f n (f start))) at e)))
    by false q e = absurd (let q : f (end_of []) ≡ 0 = ap f end_none ∙ z in omega arith)

pub met_start : (last : ℕ) (f : ℕ → ℕ) → f 0 ≡ 0 → (n start : ℕ) → End (f (end_of (clusters_from last f n start))) → 2 ≤ start
met_start last f z n start e = let m = met_chain last f z n start e in by (clusters_from last f n start) m.0 m.1
  where
    by : (cs : List ℕ) → 0 < length cs → Chain last f start cs → 2 ≤ start
    by [] h p = absurd (omega arith)
    by (c ∷ cs) h p = omega (arith, p.0, p.1.0)
