-- Runs of bytes inside one cluster: they lie one after the other in the image, so they are read and stored as one part of it.
use Prim.Native.Nat.{ℕ, zero, suc, ◌+◌, ◌-◌, ◌*◌, ◌/◌, ◌%◌, ◌≤◌, ◌<◌}
use Rattle.std.proofs.Common.{arith, sym, ◌∙◌, inl, inr, length-drop, get_or-set_same, get_or-set_other, get_or-take, get_or-drop, ext_get_or, length-take-le}
use Rattle.std.proofs.Math.Nat.{div-eq_of_lt, mul-add-div_right, div-add-mod'}
use Rattle.std.proofs.Math.Decide.{ℕ_discrete, dec_lt}
use Rattle.std.specs.Prelude.{◌≡◌, refl, ◌⊎◌, List, length, get_or, take, drop}
use Rattle.std.proofs.Math.Path.{ap}
use Rattle.chains.specs.Content.{byte_at, content}
use Rattle.chains.specs.Aids.Content.{Room}
use Rattle.chains.specs.Write.{poured}
use Rattle.chains.specs.Aids.Write.{splice}
use Rattle.chains.proofs.Laws.Content.{byte_inside, content_at, content_length}
use Rattle.chains.proofs.Laws.Splice.{splice_after, splice_before, splice_in, splice_length}
use Rattle.chains.proofs.Laws.Poured.{poured_length, poured_out}

module _ (base cb : ℕ) (wide : 0 < cb) where
  pub byte_run : (cs : List ℕ) (p i : ℕ) → p % cb + i < cb → byte_at base cb cs (p + i) ≡ byte_at base cb cs p + i
  unfolding byte_at
  byte_run cs p i h =
      let e : p + i ≡ p / cb * cb + (p % cb + i) = omega (arith, div-add-mod' p cb) in
      let q : (p + i) / cb ≡ p / cb = ap (λ (z : ℕ). z / cb) e ∙ omega (arith, mul-add-div_right wide (p / cb) (p % cb + i), div-eq_of_lt h) in
      let m : (p + i) / cb * cb ≡ p / cb * cb = ap (λ (z : ℕ). z * cb) q in
      let r : (p + i) % cb ≡ p % cb + i = omega (arith, div-add-mod' p cb, div-add-mod' (p + i) cb) in
      rw (q, r) (omega arith)

  run_inside : (img cs : List ℕ) (pos n : ℕ) → Room base cb img cs → pos % cb + n ≤ cb → 0 < n → pos + n ≤ length cs * cb → byte_at base cb cs pos + n ≤ length img
  run_inside img cs pos n r h k l =
      let z : n - 1 + 1 ≡ n = omega arith in
      omega (arith, byte_inside base cb wide img cs r (pos + (n - 1)) (omega arith), byte_run cs pos (n - 1) (omega arith))

  -- n bytes of a file from pos on
  pub content_run : (img cs : List ℕ) (size pos n : ℕ) → Room base cb img cs → size ≤ length cs * cb → pos % cb + n ≤ cb → pos + n ≤ size
      → take n (drop pos (content base cb img cs size)) ≡ take n (drop (byte_at base cb cs pos) img)
  content_run img cs size pos zero r s h l = refl
  content_run img cs size pos (suc n) r s h l =
      let here : length (take (suc n) (drop pos (content base cb img cs size))) ≡ suc n =
      length-take-le (suc n) (drop pos (content base cb img cs size)) (omega (arith, length-drop pos (content base cb img cs size), content_length base cb wide img cs size r s)) in
      let there : length (take (suc n) (drop (byte_at base cb cs pos) img)) ≡ suc n =
      length-take-le (suc n) (drop (byte_at base cb cs pos) img) (omega (arith, length-drop (byte_at base cb cs pos) img, run_inside img cs pos (suc n) r h (omega arith) (omega arith))) in
      ext_get_or 0 _ _ (here ∙ sym there) (λ i k. at i (omega arith))
    where
      at : (i : ℕ) → i < suc n → get_or (take (suc n) (drop pos (content base cb img cs size))) i 0 ≡ get_or (take (suc n) (drop (byte_at base cb cs pos) img)) i 0
      at i k =
          get_or-take (suc n) (drop pos (content base cb img cs size)) i 0 k ∙ get_or-drop pos (content base cb img cs size) i 0
          ∙ content_at base cb wide img cs size r s (pos + i) (omega arith) ∙ ap (λ (x : ℕ). get_or img x 0) (byte_run cs pos i (omega arith))
          ∙ sym (get_or-take (suc n) (drop (byte_at base cb cs pos) img) i 0 k ∙ get_or-drop (byte_at base cb cs pos) img i 0)

  -- n bytes stored from pos on
  module _ (img cs : List ℕ) (pos : ℕ) (bs : List ℕ) where
    run_out : (n q : ℕ) → pos % cb + n ≤ cb → (q < byte_at base cb cs pos) ⊎ (byte_at base cb cs pos + n ≤ q) → get_or (poured base cb img cs pos bs n) q 0 ≡ get_or img q 0
    run_out n q h o = poured_out base cb wide img cs pos bs n q (λ i k e. elim o [
      | inl a ↦ omega (arith, byte_run cs pos i (omega arith))
      | inr a ↦ omega (arith, byte_run cs pos i (omega arith))
    ])

    run_in : (n i : ℕ) → pos % cb + n ≤ cb → byte_at base cb cs pos + n ≤ length img → i < n → get_or (poured base cb img cs pos bs n) (byte_at base cb cs pos + i) 0 ≡ get_or bs i 0
    unfolding poured
    run_in zero i h l k = absurd (omega arith)
    run_in (suc n) i h l k =
        let e : byte_at base cb cs (pos + n) ≡ byte_at base cb cs pos + n = byte_run cs pos n (omega arith) in
        elim (ℕ_discrete i n) [
          | yes q ↦ rw (q, e) (get_or-set_same (poured base cb img cs pos bs n) (byte_at base cb cs pos + n) (get_or bs n 0) 0 (omega (arith, poured_length base cb img cs pos bs n)))
          | no q ↦ rw e (get_or-set_other (poured base cb img cs pos bs n) (byte_at base cb cs pos + n) (byte_at base cb cs pos + i) (get_or bs n 0) 0 (omega arith) ∙ run_in n i (omega arith) (omega arith) (omega arith))
        ]

    pub poured_run : (n : ℕ) → Room base cb img cs → pos % cb + n ≤ cb → 0 < n → pos + n ≤ length cs * cb → n ≤ length bs
        → poured base cb img cs pos bs n ≡ splice img (byte_at base cb cs pos) (take n bs)
    poured_run n r h k l b = ext_get_or 0 _ _ (poured_length base cb img cs pos bs n ∙ sym (splice_length img at (take n bs) (omega (arith, inside)) ∙ omega (arith, inside, long))) (λ q j. byte q)
      where
        at : ℕ
        at = byte_at base cb cs pos

        inside : at + n ≤ length img
        inside = run_inside img cs pos n r h k l

        long : length (take n bs) ≡ n
        long = length-take-le n bs b

        byte : (q : ℕ) → get_or (poured base cb img cs pos bs n) q 0 ≡ get_or (splice img at (take n bs)) q 0
        byte q = elim (dec_lt q at) [
          | yes a ↦ run_out n q h (inl a) ∙ sym (splice_before img at (take n bs) q (omega (arith, inside)) a)
          | no a ↦ elim (dec_lt q (at + n)) [
            | no c ↦ run_out n q h (inr (omega arith)) ∙ sym (splice_after img at (take n bs) q (omega (arith, inside)) (omega (arith, long)))
            | yes c ↦
                let z : at + (q - at) ≡ q = omega arith in
                ap (λ (x : ℕ). get_or (poured base cb img cs pos bs n) x 0) (sym z) ∙ run_in n (q - at) h inside (omega arith)
                ∙ sym (splice_in img at (take n bs) q (omega (arith, inside)) (omega arith) (omega (arith, long)) ∙ get_or-take n bs (q - at) 0 (omega arith))
          ]
        ]

-- a store is made run by run
pub poured_split : (base cb : ℕ) (img cs : List ℕ) (pos : ℕ) (bs : List ℕ) (a b : ℕ) → poured base cb img cs pos bs (a + b) ≡ poured base cb (poured base cb img cs pos bs a) cs (pos + a) (drop a bs) b
unfolding poured
poured_split base cb img cs pos bs a zero = let z : a + 0 ≡ a = omega arith in rw z refl
poured_split base cb img cs pos bs a (suc b) =
    let y : a + suc b ≡ suc (a + b) = omega arith in
    let z : pos + (a + b) ≡ pos + a + b = omega arith in
    rw y (rw (poured_split base cb img cs pos bs a b, z, get_or-drop a bs b 0) refl)
