-- A run of bytes inside one cluster is put by one store, and read as one part.
use Rattle.std.specs.Prelude.{ℕ, ◌+◌, ◌*◌, ◌/◌, ◌%◌, ◌≤◌, ◌<◌, ◌≡◌, List, ◌++◌, length, get_or, take, drop}
use Rattle.std.proofs.Common.{arith, div-lt_iff_lt-mul, sym, ◌∙◌, ap, inl, inr, length-drop, ext_get_or, take-add, drop-drop}
use Rattle.std.proofs.Math.Seq.{take_all}
use Rattle.image.specs.Store.{stored, part}
use Rattle.image.proofs.Laws.Store.{length_stored, stored_byte, stored_append, part_same, length_part}
use Rattle.chains.specs.Content.{byte_at, chain_bytes, content}
use Rattle.chains.specs.Aids.Content.{Room}
use Rattle.chains.specs.Write.{poured}
use Rattle.chains.specs.Aids.Write.{splice}
use Rattle.chains.proofs.Laws.Lists.{index_mem}
use Rattle.chains.proofs.Laws.Content.{chain_bytes_length, chain_bytes_at, content_length, content_at}
use Rattle.chains.proofs.Laws.Splice.{splice_length, splice_before, splice_in, splice_after}
use Rattle.chains.proofs.Laws.Poured.{poured_length}
use Rattle.chains.proofs.Laws.Runs.{content_run, poured_run, poured_split}

-- a store inside the list puts the bytes over those that were there
pub stored_splice : (l : List ℕ) (at : ℕ) (s : List ℕ) → at + length s ≤ length l → stored l at s ≡ splice l at s
stored_splice l at s f = ext_get_or 0 _ _ (length_stored l at s ∙ sym (splice_length l at s (omega arith) ∙ omega arith)) (λ i h. elim (stored_byte l at s i f) [
  | inr x ↦ x.2 ∙ sym (splice_in l at s i (omega arith) x.0 x.1)
  | inl x ↦ elim x.0 [
    | inl q ↦ x.1 ∙ sym (splice_before l at s i (omega arith) q)
    | inr q ↦ x.1 ∙ sym (splice_after l at s i (omega arith) q)
  ]
])

-- two parts side by side are one
pub part_more : (l : List ℕ) (at n k : ℕ) → part l at (n + k) ≡ part l at n ++ part l (at + n) k
part_more l at n k = take-add n k (drop at l) ∙ ap (λ (xs : List ℕ). take n (drop at l) ++ take k xs) (drop-drop n at l)

module _ (base cb : ℕ) (wide : 0 < cb) where
  -- the bytes of a chain are those of the longest file that it can hold
  chain_whole : (l cs : List ℕ) → Room base cb l cs → content base cb l cs (length cs * cb) ≡ chain_bytes base cb l cs
  unfolding content
  chain_whole l cs r = take_all (length cs * cb) (chain_bytes base cb l cs) (omega (arith, chain_bytes_length base cb wide l cs r))

  -- so are the bytes of any file that reaches that far
  pub content_part : (l cs : List ℕ) (size pos n : ℕ) → Room base cb l cs → pos + n ≤ size → size ≤ length cs * cb → part (content base cb l cs size) pos n ≡ part (chain_bytes base cb l cs) pos n
  content_part l cs size pos n r h k =
      let long : length (content base cb l cs size) ≡ size = content_length base cb wide l cs size r k in
      let whole : length (chain_bytes base cb l cs) ≡ length cs * cb = chain_bytes_length base cb wide l cs r in
      part_same (content base cb l cs size) (chain_bytes base cb l cs) pos pos n (omega arith) (omega arith)
      (λ i j. content_at base cb wide l cs size r k (pos + i) (omega arith) ∙ sym (chain_bytes_at base cb wide l cs r (pos + i) (omega arith)))

  -- a run in a cluster lies in the image
  pub run_fits : (l cs : List ℕ) (p k : ℕ) → Room base cb l cs → p < length cs * cb → p % cb + k ≤ cb → byte_at base cb cs p + k ≤ length l
  unfolding byte_at
  run_fits l cs p k r h i = omega (arith, (r (get_or cs (p / cb) 0) (index_mem cs (p / cb) ((div-lt_iff_lt-mul wide).1 h))).1)

  module _ (l cs : List ℕ) (room : Room base cb l cs) (pos done k : ℕ) (any : 0 < k) (within : (pos + done) % cb + k ≤ cb) (full : pos + done + k ≤ length cs * cb) where
    -- one run more is put
    pub poured_more : (bs : List ℕ) → done + k ≤ length bs
        → stored (poured base cb l cs pos bs done) (byte_at base cb cs (pos + done)) (part bs done k) ≡ poured base cb l cs pos bs (done + k)
    poured_more bs h =
        stored_splice m (byte_at base cb cs (pos + done)) (part bs done k) (rw (length_part bs done k h) (run_fits m cs (pos + done) k room' (omega arith) within))
        ∙ sym (poured_split base cb l cs pos bs done k ∙ poured_run base cb wide m cs (pos + done) (drop done bs) k room' within any full (omega (arith, length-drop done bs)))
      where
        m : List ℕ
        m = poured base cb l cs pos bs done

        room' : Room base cb m cs
        room' c i = ((room c i).0, rw (poured_length base cb l cs pos bs done) (room c i).1)

    -- one run more is read
    pub fetched_more : (out : List ℕ)
        → stored (stored out 0 (part (chain_bytes base cb l cs) pos done)) done (part l (byte_at base cb cs (pos + done)) k) ≡ stored out 0 (part (chain_bytes base cb l cs) pos (done + k))
    fetched_more out = rw (part_more bytes pos done k, run) (sym (rw seam at (stored_append out 0 (part bytes pos done) (part l (byte_at base cb cs (pos + done)) k))))
      where
        bytes : List ℕ
        bytes = chain_bytes base cb l cs

        long : length bytes ≡ length cs * cb
        long = chain_bytes_length base cb wide l cs room

        seam : 0 + length (part bytes pos done) ≡ done
        seam = omega (arith, length_part bytes pos done (omega (arith, long)))

        run : part bytes (pos + done) k ≡ part l (byte_at base cb cs (pos + done)) k
        run = ap (λ (xs : List ℕ). part xs (pos + done) k) (sym (chain_whole l cs room)) ∙ content_run base cb wide l cs (length cs * cb) (pos + done) k room (omega arith) within full
