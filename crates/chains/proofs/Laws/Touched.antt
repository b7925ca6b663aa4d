-- What a change of some clusters leaves: every other holder keeps its bytes.
use Rattle.std.specs.Prelude.{ℕ, ◌+◌, ◌-◌, ◌*◌, ◌/◌, ◌%◌, ◌≤◌, ◌<◌, ◌≡◌, refl, ◌≢◌, List, length, get_or}
use Rattle.std.proofs.Common.{arith, div-lt_iff_lt-mul, mod-lt, sym, ◌∙◌, ext_get_or}
use Rattle.chains.specs.Lists.{◌∈◌}
use Rattle.chains.specs.Aids.Sizes.{Geometry}
use Rattle.chains.specs.Values.{Link}
use Rattle.chains.specs.Aids.Holders.{Holder, FitTogether}
use Rattle.chains.specs.Aids.Replace.{Replaced}
use Rattle.chains.specs.Content.{byte_at, cluster_begin, content}
use Rattle.chains.specs.Aids.Content.{Room, InCluster, Touches}
use Rattle.chains.specs.Write.{poured}
use Rattle.chains.proofs.Laws.Lists.{index_mem}
use Rattle.chains.proofs.Laws.Holders.{in_range}
use Rattle.chains.proofs.Laws.Replace.{foreign}
use Rattle.chains.proofs.Laws.Content.{cluster_same, content_at, content_length}
use Rattle.chains.proofs.Laws.Poured.{poured_length, poured_out}

-- two images that agree on every byte of the clusters cs
pub content_same : (base cb : ℕ) → 0 < cb → (img now cs : List ℕ) (n : ℕ) → Room base cb img cs → length now ≡ length img
    → ((c q : ℕ) → c ∈ cs → InCluster base cb c q → get_or now q 0 ≡ get_or img q 0) → n ≤ length cs * cb → content base cb now cs n ≡ content base cb img cs n
unfolding byte_at
content_same base cb wide img now cs n r len same full =
    let r' : Room base cb now cs = λ c m. ((r c m).0, omega (arith, (r c m).1)) in
    let x : length (content base cb now cs n) ≡ n = content_length base cb wide now cs n r' full in
    let y : length (content base cb img cs n) ≡ n = content_length base cb wide img cs n r full in
    ext_get_or 0 _ _ (x ∙ sym y) (λ i l.
    content_at base cb wide now cs n r' full i (omega arith)
    ∙ at i (omega arith)
    ∙ sym (content_at base cb wide img cs n r full i (omega arith)))
  where
    at : (i : ℕ) → i < length cs * cb → get_or now (byte_at base cb cs i) 0 ≡ get_or img (byte_at base cb cs i) 0
    at i l = same (get_or cs (i / cb) 0) (cluster_begin base cb (get_or cs (i / cb) 0) + i % cb) (index_mem cs (i / cb) ((div-lt_iff_lt-mul wide).1 l)) (omega arith, omega (arith, mod-lt i wide))

-- the companion of replace: one holder is replaced, and the image changes in its new clusters alone
pub others_keep : (G : Geometry) (base : ℕ) (f g : ℕ → ℕ) (h : ℕ → Holder) (χ : ℕ → List ℕ) (v : FitTogether G.last f h χ) (i : ℕ) (new : Holder) (ds : List ℕ) → Replaced G.last f g new (χ i) ds
    → (img now : List ℕ) → ((c : ℕ) → Link G.last c → cluster_begin base G.cb c + G.cb ≤ length img) → Touches G.last base G.cb img now ds
    → (t n : ℕ) → t ≢ i → n ≤ length (χ t) * G.cb → content base G.cb now (χ t) n ≡ content base G.cb img (χ t) n
others_keep G base f g h χ v i new ds r img now whole e t n ne full =
    content_same base G.cb G.wide img now (χ t) n (λ c m. ((range c m).0, whole c (range c m))) e.size
    (λ c q m k. e.rest c q (range c m) (foreign G f g h χ v i new ds r t c ne m) k) full
  where
    range : (c : ℕ) → c ∈ χ t → Link G.last c
    range c m = in_range G f h χ v t c m

-- ---- what touches clusters

-- nothing
pub untouched : (last base cb : ℕ) (img ds : List ℕ) → Touches last base cb img img ds
untouched last base cb img ds = record { size = refl; rest = λ c q l n k. refl }

-- one change after another
pub touched_twice : (last base cb : ℕ) (img mid now ds : List ℕ) → Touches last base cb img mid ds → Touches last base cb mid now ds → Touches last base cb img now ds
touched_twice last base cb img mid now ds a b = record { size = b.size ∙ a.size; rest = λ c q l n k. b.rest c q l n k ∙ a.rest c q l n k }

-- a store along a chain touches that chain
pub poured_touches : (last base cb : ℕ) → 0 < cb → (img cs : List ℕ) → ((a : ℕ) → a ∈ cs → 2 ≤ a) → (pos : ℕ) (bs : List ℕ) (n : ℕ) → pos + n ≤ length cs * cb
    → Touches last base cb img (poured base cb img cs pos bs n) cs
unfolding byte_at
poured_touches last base cb wide img cs r pos bs n full = record {
  size = poured_length base cb img cs pos bs n;
  rest = λ c q l no k. poured_out base cb wide img cs pos bs n q (λ i j e.
      let d = get_or cs ((pos + i) / cb) 0 in
      let m : d ∈ cs = index_mem cs ((pos + i) / cb) ((div-lt_iff_lt-mul wide).1 (omega arith)) in
      let z : cluster_begin base cb c + (q - cluster_begin base cb c) ≡ cluster_begin base cb d + (pos + i) % cb = omega arith in
      no (rw (cluster_same base cb wide c d (q - cluster_begin base cb c) ((pos + i) % cb) l.0 (r d m) (omega arith) (mod-lt (pos + i) wide) z).0 m));
}
