-- Where the bytes of a chain lie, and that the bytes of a file are those.
use Prim.Native.Nat.{ℕ, suc, ◌+◌, ◌-◌, ◌*◌, ◌/◌, ◌%◌, ◌≤◌, ◌<◌}
use native.Mathlib.Omega.{arith}
use Rattle.std.proofs.Common.{div-lt_iff_lt-mul, div-add-mod', sym, ◌∙◌, inl, inr, length-drop, get_or-drop}
use Rattle.std.proofs.Math.Nat.{div-eq_of_lt, mul-add-div_right, mod-lt, mul-le-mul_right, mod-eq_of_lt, add-div_right, add-mod_right}
use Rattle.std.proofs.Math.Decide.{dec_lt}
use Rattle.std.specs.Prelude.{◌≡◌, refl, take, drop}
use Rattle.std.proofs.Math.Path.{ap}
use mathlib.Core.List.{List, [], ◌∷◌, ◌++◌}
use Rattle.std.proofs.Math.ListN.{length, get_or, length-append, get_or-append}
use Rattle.std.proofs.Math.Seq.{get_or-take, get_or-append-add, length-take-le}
use Rattle.chains.specs.Lists.{◌∈◌}
use Rattle.chains.specs.Aids.Lists.{Once}
use Rattle.chains.specs.Aids.Sizes.{Geometry}
use Rattle.chains.specs.Values.{Link}
use Rattle.chains.specs.Content.{byte_at, chain_bytes, cluster_begin, content}
use Rattle.chains.specs.Aids.Content.{Room}
use Rattle.chains.proofs.Laws.Lists.{index_mem, index_same}

module _ (base cb : ℕ) (wide : 0 < cb) where
  -- bytes of clusters that lie at one place are the same byte
  pub cluster_same : (c d x y : ℕ) → 2 ≤ c → 2 ≤ d → x < cb → y < cb → cluster_begin base cb c + x ≡ cluster_begin base cb d + y → (c ≡ d) × (x ≡ y)
  unfolding cluster_begin
  cluster_same c d x y k l i j e =
      let q : (c - 2) * cb + x ≡ (d - 2) * cb + y = omega arith in
      let a : c - 2 ≡ d - 2 =
      omega (arith, ap (λ (z : ℕ). z / cb) q, mul-add-div_right wide (c - 2) x, mul-add-div_right wide (d - 2) y, div-eq_of_lt i, div-eq_of_lt j) in
      let b : (c - 2) * cb ≡ (d - 2) * cb = ap (λ (z : ℕ). z * cb) a in
      (omega arith, omega arith)

  div_same : (p q : ℕ) → p / cb ≡ q / cb → p % cb ≡ q % cb → p ≡ q
  div_same p q d m =
      let b : p / cb * cb ≡ q / cb * cb = ap (λ (z : ℕ). z * cb) d in
      omega (arith, div-add-mod' p cb, div-add-mod' q cb)

  index_lt : (cs : List ℕ) (p : ℕ) → p < length cs * cb → p / cb < length cs
  index_lt cs p l = (div-lt_iff_lt-mul wide).1 l

  -- bytes of two chains that lie at one place: the same cluster, and the same byte in it
  pub byte_same : (cs ds : List ℕ) (p q : ℕ) → ((a : ℕ) → a ∈ cs → 2 ≤ a) → ((a : ℕ) → a ∈ ds → 2 ≤ a) → p < length cs * cb → q < length ds * cb
      → byte_at base cb cs p ≡ byte_at base cb ds q → (get_or cs (p / cb) 0 ≡ get_or ds (q / cb) 0) × (p % cb ≡ q % cb)
  unfolding byte_at
  byte_same cs ds p q r t k l e =
      cluster_same (get_or cs (p / cb) 0) (get_or ds (q / cb) 0) (p % cb) (q % cb) (r _ (index_mem cs (p / cb) (index_lt cs p k))) (t _ (index_mem ds (q / cb) (index_lt ds q l)))
      (mod-lt p wide) (mod-lt q wide) e

  -- no two bytes of a chain lie at one place
  pub byte_once : (cs : List ℕ) → Once cs → ((a : ℕ) → a ∈ cs → 2 ≤ a) → (p q : ℕ) → p < length cs * cb → q < length cs * cb → byte_at base cb cs p ≡ byte_at base cb cs q → p ≡ q
  byte_once cs o r p q k l e =
      let h = byte_same cs cs p q r r k l e in
      div_same p q (index_same cs o (p / cb) (q / cb) (index_lt cs p k) (index_lt cs q l) h.0) h.1

  -- ---- the bytes of a cluster, of a chain, of a file, one by one

  abbrev bytes_in : List ℕ → ℕ → List ℕ
  bytes_in img c = take cb (drop (cluster_begin base cb c) img)

  cluster_bytes_length : (img : List ℕ) (c : ℕ) → cluster_begin base cb c + cb ≤ length img → length (bytes_in img c) ≡ cb
  cluster_bytes_length img c h = length-take-le cb (drop (cluster_begin base cb c) img) (omega (arith, length-drop (cluster_begin base cb c) img))

  cluster_bytes_at : (img : List ℕ) (c i : ℕ) → i < cb → get_or (bytes_in img c) i 0 ≡ get_or img (cluster_begin base cb c + i) 0
  cluster_bytes_at img c i l = get_or-take cb (drop (cluster_begin base cb c) img) i 0 l ∙ get_or-drop (cluster_begin base cb c) img i 0

  byte_first : (c : ℕ) (cs : List ℕ) (p : ℕ) → p < cb → byte_at base cb (c ∷ cs) p ≡ cluster_begin base cb c + p
  unfolding byte_at
  byte_first c cs p l = rw (div-eq_of_lt l, mod-eq_of_lt l)

  byte_next : (c : ℕ) (cs : List ℕ) (p : ℕ) → byte_at base cb (c ∷ cs) (p + cb) ≡ byte_at base cb cs p
  unfolding byte_at
  byte_next c cs p =
      let d : (p + cb) / cb ≡ suc (p / cb) = omega (arith, add-div_right p wide) in
      rw (d, add-mod_right p cb)

  pub chain_bytes_length : (img cs : List ℕ) → Room base cb img cs → length (chain_bytes base cb img cs) ≡ length cs * cb
  unfolding chain_bytes
  chain_bytes_length img [] r = omega arith
  chain_bytes_length img (c ∷ cs) r =
      omega (arith, length-append (bytes_in img c) (chain_bytes base cb img cs), cluster_bytes_length img c (r c (inl refl)).1, chain_bytes_length img cs (λ a m. r a (inr m)))

  pub chain_bytes_at : (img cs : List ℕ) → Room base cb img cs → (p : ℕ) → p < length cs * cb → get_or (chain_bytes base cb img cs) p 0 ≡ get_or img (byte_at base cb cs p) 0
  unfolding chain_bytes
  chain_bytes_at img [] r p l = absurd (omega arith)
  chain_bytes_at img (c ∷ cs) r p l = elim (dec_lt p cb) [
    | yes h ↦
        get_or-append (bytes_in img c) (chain_bytes base cb img cs) 0 p (omega (arith, cluster_bytes_length img c (r c (inl refl)).1))
        ∙ cluster_bytes_at img c p h ∙ ap (λ (x : ℕ). get_or img x 0) (sym (byte_first c cs p h))
    | no n ↦
        let q : p ≡ length (bytes_in img c) + (p - cb) = omega (arith, cluster_bytes_length img c (r c (inl refl)).1) in
        let z : p ≡ (p - cb) + cb = omega arith in
        ap (λ (x : ℕ). get_or (bytes_in img c ++ chain_bytes base cb img cs) x 0) q
        ∙ get_or-append-add (bytes_in img c) (chain_bytes base cb img cs) (p - cb) 0
        ∙ chain_bytes_at img cs (λ a m. r a (inr m)) (p - cb) (omega arith)
        ∙ ap (λ (x : ℕ). get_or img x 0) (sym (byte_next c cs (p - cb)) ∙ ap (byte_at base cb (c ∷ cs)) (sym z))
  ]

  pub byte_inside : (img cs : List ℕ) → Room base cb img cs → (p : ℕ) → p < length cs * cb → byte_at base cb cs p < length img
  unfolding byte_at
  byte_inside img cs r p l = omega (arith, (r (get_or cs (p / cb) 0) (index_mem cs (p / cb) (index_lt cs p l))).1, mod-lt p wide)

  -- the places lie in the clusters 2 .. last
  pub cluster_high : (G : Geometry) (c : ℕ) → Link G.last c → cluster_begin base cb c + cb ≤ base + (G.last - 1) * cb
  unfolding cluster_begin
  cluster_high G c l =
      let e : (c - 2) + 1 ≤ G.last - 1 = omega arith in
      omega (arith, mul-le-mul_right cb e)

  pub byte_low : (cs : List ℕ) (p : ℕ) → base ≤ byte_at base cb cs p
  unfolding byte_at cluster_begin
  byte_low cs p = omega arith

  pub content_length : (img cs : List ℕ) (size : ℕ) → Room base cb img cs → size ≤ length cs * cb → length (content base cb img cs size) ≡ size
  unfolding content
  content_length img cs size r l = length-take-le size (chain_bytes base cb img cs) (omega (arith, chain_bytes_length img cs r))

  pub content_at : (img cs : List ℕ) (size : ℕ) → Room base cb img cs → size ≤ length cs * cb → (p : ℕ) → p < size
      → get_or (content base cb img cs size) p 0 ≡ get_or img (byte_at base cb cs p) 0
  unfolding content
  content_at img cs size r l p k = get_or-take size (chain_bytes base cb img cs) p 0 k ∙ chain_bytes_at img cs r p (omega arith)
