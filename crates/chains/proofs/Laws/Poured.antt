-- What a store along a chain leaves, and what it writes.
use Prim.Native.Nat.{ℕ, zero, suc, ◌+◌, ◌-◌, ◌*◌, ◌≤◌, ◌<◌, max}
use Rattle.std.proofs.Common.{arith, sym, ap, ◌∙◌, inl, inr, length-set, get_or-set_same, ext_get_or}
use Rattle.std.proofs.Math.Decide.{ℕ_discrete, dec_lt}
use Rattle.std.specs.Prelude.{◌≡◌, ◌≢◌, ◌⊎◌, List, length, get_or}
use Rattle.std.proofs.Math.Path.{refl}
use Rattle.std.proofs.Math.Seq.{get_or-set_other}
use Rattle.chains.specs.Aids.Lists.{Once}
use Rattle.chains.specs.Content.{byte_at, content}
use Rattle.chains.specs.Aids.Content.{Room}
use Rattle.chains.specs.Write.{poured}
use Rattle.chains.specs.Aids.Write.{splice}
use Rattle.chains.proofs.Laws.Content.{byte_inside, byte_once, content_at, content_length}
use Rattle.chains.proofs.Laws.Splice.{splice_after, splice_before, splice_in, splice_length}

pub poured_length : (base cb : ℕ) (img cs : List ℕ) (pos : ℕ) (bs : List ℕ) (n : ℕ) → length (poured base cb img cs pos bs n) ≡ length img
unfolding poured
poured_length base cb img cs pos bs zero = refl
poured_length base cb img cs pos bs (suc n) = length-set (poured base cb img cs pos bs n) _ _ ∙ poured_length base cb img cs pos bs n

module _ (base cb : ℕ) (wide : 0 < cb) where
  pub poured_out : (img cs : List ℕ) (pos : ℕ) (bs : List ℕ) (n q : ℕ) → ((i : ℕ) → i < n → q ≢ byte_at base cb cs (pos + i)) → get_or (poured base cb img cs pos bs n) q 0 ≡ get_or img q 0
  unfolding poured
  poured_out img cs pos bs zero q h = refl
  poured_out img cs pos bs (suc n) q h =
      get_or-set_other (poured base cb img cs pos bs n) (byte_at base cb cs (pos + n)) q (get_or bs n 0) 0 (h n (omega arith))
      ∙ poured_out img cs pos bs n q (λ i l. h i (omega arith))

  module _ (img cs : List ℕ) (o : Once cs) (r : Room base cb img cs) (pos : ℕ) (bs : List ℕ) where
    pub poured_in : (n i : ℕ) → pos + n ≤ length cs * cb → i < n → get_or (poured base cb img cs pos bs n) (byte_at base cb cs (pos + i)) 0 ≡ get_or bs i 0
    unfolding poured
    poured_in zero i l k = absurd (omega arith)
    poured_in (suc n) i l k = elim (ℕ_discrete i n) [
      | yes e ↦ rw e (get_or-set_same (poured base cb img cs pos bs n) (byte_at base cb cs (pos + n)) (get_or bs n 0) 0 (omega (arith, poured_length base cb img cs pos bs n, byte_inside base cb wide img cs r (pos + n) (omega arith))))
      | no ne ↦
          get_or-set_other (poured base cb img cs pos bs n) (byte_at base cb cs (pos + n)) (byte_at base cb cs (pos + i)) (get_or bs n 0) 0
          (λ q. ne (omega (arith, byte_once base cb wide cs o (λ a m. (r a m).0) (pos + i) (pos + n) (omega arith) (omega arith) q)))
          ∙ poured_in n i (omega arith) (omega arith)
    ]

    -- before and behind what was written
    pub poured_beside : (n p : ℕ) → pos + n ≤ length cs * cb → p < length cs * cb → (p < pos) ⊎ (pos + n ≤ p) → get_or (poured base cb img cs pos bs n) (byte_at base cb cs p) 0 ≡ get_or img (byte_at base cb cs p) 0
    poured_beside n p l k h = poured_out img cs pos bs n (byte_at base cb cs p) (λ i j e. elim h [
      | inl a ↦ omega (arith, byte_once base cb wide cs o (λ a m. (r a m).0) p (pos + i) k (omega arith) e)
      | inr b ↦ omega (arith, byte_once base cb wide cs o (λ a m. (r a m).0) p (pos + i) k (omega arith) e)
    ])

  room_poured : (img cs ds : List ℕ) (pos : ℕ) (bs : List ℕ) (n : ℕ) → Room base cb img cs → Room base cb (poured base cb img ds pos bs n) cs
  room_poured img cs ds pos bs n r a m = ((r a m).0, rw (poured_length base cb img ds pos bs n) (r a m).1)

  -- a file's bytes after a store into it
  pub content_spliced : (img cs : List ℕ) → Once cs → Room base cb img cs → (size pos : ℕ) (bs : List ℕ) → pos ≤ size → size ≤ length cs * cb → pos + length bs ≤ length cs * cb
      → content base cb (poured base cb img cs pos bs (length bs)) cs (pos + (length bs + (size - (pos + length bs)))) ≡ splice (content base cb img cs size) pos bs
  content_spliced img cs o r size pos bs le full room =
      ext_get_or 0 _ _ (len ∙ sym (splice_length old pos bs lo ∙ ap (λ (x : ℕ). pos + (length bs + (x - (pos + length bs)))) ol)) at
    where
      old : List ℕ
      old = content base cb img cs size

      now : List ℕ
      now = poured base cb img cs pos bs (length bs)

      size' : ℕ
      size' = pos + (length bs + (size - (pos + length bs)))

      r' : Room base cb now cs
      r' = room_poured img cs cs pos bs (length bs) r

      ol : length old ≡ size
      ol = content_length base cb wide img cs size r full

      lo : pos ≤ length old
      lo = rw ol le

      len : length (content base cb now cs size') ≡ size'
      len = content_length base cb wide now cs size' r' (omega arith)

      at : (i : ℕ) → i < length (content base cb now cs size') → get_or (content base cb now cs size') i 0 ≡ get_or (splice old pos bs) i 0
      at i l =
          let k : i < size' = omega (arith, len) in
          let c : get_or (content base cb now cs size') i 0 ≡ get_or now (byte_at base cb cs i) 0 = content_at base cb wide now cs size' r' (omega arith) i k in
          elim (dec_lt i pos) [
            | yes h ↦
                c ∙ poured_beside img cs o r pos bs (length bs) i room (omega arith) (inl h)
                ∙ sym (splice_before old pos bs i lo h ∙ content_at base cb wide img cs size r full i (omega arith))
            | no n ↦ elim (dec_lt i (pos + length bs)) [
              | yes h ↦
                  let z : pos + (i - pos) ≡ i = omega arith in
                  c ∙ ap (λ (x : ℕ). get_or now (byte_at base cb cs x) 0) (sym z)
                  ∙ poured_in img cs o r pos bs (length bs) (i - pos) room (omega arith)
                  ∙ sym (splice_in old pos bs i lo (omega arith) h)
              | no m ↦
                  c ∙ poured_beside img cs o r pos bs (length bs) i room (omega arith) (inr (omega arith))
                  ∙ sym (splice_after old pos bs i lo (omega arith) ∙ content_at base cb wide img cs size r full i (omega arith))
            ]
          ]

  -- the same with the two numbers given by equations, as callers have them
  pub content_poured : (img cs : List ℕ) → Once cs → Room base cb img cs → (size pos : ℕ) (bs : List ℕ) (n to : ℕ) → n ≡ length bs → to ≡ max size (pos + n) → pos ≤ size → to ≤ length cs * cb
      → content base cb (poured base cb img cs pos bs n) cs to ≡ splice (content base cb img cs size) pos bs
  content_poured img cs o r size pos bs n to e g le room =
      let q : to ≡ pos + (length bs + (size - (pos + length bs))) = omega arith in
      rw (q, e) (content_spliced img cs o r size pos bs le (omega arith) (omega arith))
