-- A write: the table, the holders and the bytes of every file after it.
use Rattle.std.specs.Prelude.{ℕ, ◌+◌, ◌-◌, ◌*◌, ◌≤◌, ◌<◌, max, ◌≡◌, ◌≢◌, get_or, take, drop}
use Rattle.std.proofs.Common.{arith, sym, ◌∙◌}
use Rattle.std.proofs.Math.Path.{refl, ap, ap₂}
use mathlib.Core.List.{List, [], ◌∷◌, ◌++◌, append-nil, append_assoc}
use Rattle.std.proofs.Math.ListN.{length, replicate}
use Rattle.std.proofs.lemmas.List.{length-replicate, take-append-le}
use Rattle.chains.specs.Aids.Put.{put}
use Rattle.chains.specs.Lists.{◌∈◌}
use Rattle.chains.specs.Aids.Lists.{Once}
use Rattle.chains.specs.Sizes.{clusters_for}
use Rattle.chains.specs.Aids.Sizes.{Geometry, lacking}
use Rattle.chains.specs.Values.{Link}
use Rattle.chains.specs.Aids.Holders.{Holder, FitTogether, file_holder}
use Rattle.chains.specs.Aids.Replace.{Replaced}
use Rattle.chains.specs.Free.{free_clusters}
use Rattle.chains.specs.Aids.Growth.{extended, longer_chain, longer_table}
use Rattle.chains.specs.Content.{chain_bytes, cluster_begin, content}
use Rattle.chains.specs.Aids.Content.{Room, Touches}
use Rattle.chains.specs.Write.{poured, written, written_image}
use Rattle.chains.specs.Aids.Write.{splice}
use Rattle.chains.proofs.Laws.Sizes.{clusters_least}
use Rattle.chains.proofs.Laws.Chain.{chain_mem, chain_once}
use Rattle.chains.proofs.Laws.Holders.{file_fits, in_range}
use Rattle.chains.proofs.Laws.Replace.{replace}
use Rattle.chains.proofs.Laws.Changes.{file_grows, longer_fits}
use Rattle.chains.proofs.Laws.Content.{chain_bytes_length, content_length}
use Rattle.chains.proofs.Laws.Touched.{others_keep, poured_touches, touched_twice}
use Rattle.chains.proofs.Laws.Splice.{splice_end}
use Rattle.chains.proofs.Laws.Poured.{content_poured, poured_length}

chain_bytes_append : (base cb : ℕ) (img cs ds : List ℕ) → chain_bytes base cb img (cs ++ ds) ≡ chain_bytes base cb img cs ++ chain_bytes base cb img ds
unfolding chain_bytes
chain_bytes_append base cb img [] ds = refl
chain_bytes_append base cb img (c ∷ cs) ds =
    let first = take cb (drop (cluster_begin base cb c) img) in
    ap (λ (r : List ℕ). first ++ r) (chain_bytes_append base cb img cs ds) ∙ sym (append_assoc first _ _)

pub content_more : (base cb : ℕ) → 0 < cb → (img cs ds : List ℕ) (n : ℕ) → Room base cb img cs → n ≤ length cs * cb
    → content base cb img (cs ++ ds) n ≡ content base cb img cs n
unfolding content
content_more base cb p img cs ds n r l =
    ap (take n) (chain_bytes_append base cb img cs ds) ∙ take-append-le n (chain_bytes base cb img cs) (chain_bytes base cb img ds) (omega (arith, chain_bytes_length base cb p img cs r))

module _ (G : Geometry) (base : ℕ) (f : ℕ → ℕ) (h : ℕ → Holder) (χ : ℕ → List ℕ) (v : FitTogether G.last f h χ)
    (img : List ℕ) (whole : (c : ℕ) → Link G.last c → cluster_begin base G.cb c + G.cb ≤ length img) (i st sz : ℕ) (is : h i ≡ file_holder G.cb st sz) (pos : ℕ) (bs : List ℕ)
    (room : max sz (pos + length bs) ≤ (length (χ i) + length (free_clusters G.last f)) * G.cb) where
  abbrev size' : ℕ
  size' = max sz (pos + length bs)

  abbrev chain' : List ℕ
  chain' = longer_chain G.last G.cb f (χ i) size'

  abbrev image' : List ℕ
  image' = written_image base G.cb img chain' sz pos bs

  pub write_replaces : Replaced G.last f (longer_table G.last G.cb f (χ i) size') (file_holder G.cb (get_or chain' 0 0) size') (χ i) chain'
  write_replaces = file_grows G f h χ v i size' room

  pub write_sound : FitTogether G.last (longer_table G.last G.cb f (χ i) size') (put h i (file_holder G.cb (get_or chain' 0 0) size')) (put χ i chain')
  write_sound = replace G f (longer_table G.last G.cb f (χ i) size') h χ v i (file_holder G.cb (get_or chain' 0 0) size') chain' write_replaces

  in_new : (c : ℕ) → c ∈ chain' → Link G.last c
  in_new c m = (chain_mem G _ _ chain' write_replaces.owns.chain c m).0

  room_of_lem : Room base G.cb img chain'
  room_of_lem c m = ((in_new c m).0, whole c (in_new c m))

  once' : Once chain'
  once' = chain_once G _ _ chain' write_replaces.owns.chain

  fits' : size' ≤ length chain' * G.cb
  fits' = longer_fits G f h χ v i size' room

  abbrev gap : ℕ
  gap = pos - sz

  abbrev between : List ℕ
  between = poured base G.cb img chain' sz (replicate gap 0) gap

  filled_length : length between ≡ length img
  filled_length = poured_length base G.cb img chain' sz (replicate gap 0) gap

  prefix : content base G.cb img chain' sz ≡ content base G.cb img (χ i) sz
  unfolding longer_chain
  prefix = content_more base G.cb G.wide img (χ i) (take (lacking G.cb (χ i) size') (free_clusters G.last f)) sz
      (λ a m. ((in_range G f h χ v i a m).0, whole a (in_range G f h χ v i a m))) (file_fits G f (h i) (χ i) st sz is (v.owns i))

  prefix_length : length (content base G.cb img chain' sz) ≡ sz
  prefix_length = content_length base G.cb G.wide img chain' sz room_of_lem (omega (arith, fits'))

  first_step : content base G.cb between chain' (sz + gap) ≡ content base G.cb img chain' sz ++ replicate gap 0
  first_step =
      content_poured base G.cb G.wide img chain' once' room_of_lem sz sz (replicate gap 0) gap (sz + gap) (sym (length-replicate gap 0)) (omega arith) (omega arith) (omega (arith, fits'))
      ∙ splice_end (content base G.cb img chain' sz) (replicate gap 0) sz prefix_length

  pub write_bytes : content base G.cb image' chain' size' ≡ written (content base G.cb img (χ i) sz) pos bs
  unfolding written_image written splice
  write_bytes =
      content_poured base G.cb G.wide between chain' once' (λ c m. ((room_of_lem c m).0, rw filled_length (room_of_lem c m).1)) (sz + gap) pos bs (length bs) size' refl (omega arith) (omega arith) fits'
      ∙ ap (λ (r : List ℕ). splice r pos bs) (first_step ∙ ap₂ (λ (r : List ℕ) (n : ℕ). r ++ replicate (pos - n) 0) prefix (sym prefix_length ∙ ap length prefix))

  pub write_touches : Touches G.last base G.cb img image' chain'
  unfolding written_image
  write_touches = touched_twice G.last base G.cb img between image' chain'
      (poured_touches G.last base G.cb G.wide img chain' (λ a m. (in_new a m).0) sz (replicate gap 0) gap (omega (arith, fits')))
      (poured_touches G.last base G.cb G.wide between chain' (λ a m. (in_new a m).0) pos bs (length bs) (omega (arith, fits')))

  -- any other holder's bytes, as many as its chain holds
  pub write_others : (t n : ℕ) → t ≢ i → n ≤ length (χ t) * G.cb → content base G.cb image' (χ t) n ≡ content base G.cb img (χ t) n
  write_others t n ne full = others_keep G base f (longer_table G.last G.cb f (χ i) size') h χ v i (file_holder G.cb (get_or chain' 0 0) size') chain' write_replaces img image' whole write_touches t n ne full

-- who lacks no cluster keeps its chain, and the table stays
pub lacks_none : (last cb : ℕ) (f : ℕ → ℕ) (cs : List ℕ) (n : ℕ) → n ≤ length cs * cb → 0 < cb → (longer_chain last cb f cs n ≡ cs) × (longer_table last cb f cs n ≡ f)
unfolding longer_chain longer_table extended
lacks_none last cb f cs n l p =
    let z : clusters_for cb n - length cs ≡ 0 = omega (arith, clusters_least cb p n (length cs) l) in
    (rw z (append-nil cs), rw z refl)
