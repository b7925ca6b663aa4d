-- The bytes of a fresh entry: how many they are, that they are bytes, and that stores side by side make them.
use Rattle.std.specs.Prelude.{ℕ, ◌+◌, ◌<◌, ◌≡◌, List, [], ◌∷◌, ◌++◌, length, replicate}
use Rattle.std.proofs.Common.{arith, ◌∙◌, length-append}
use Rattle.image.specs.Bytes.{Bytes}
use Rattle.image.specs.Store.{stored}
use Rattle.image.specs.Numbers.{digits}
use Rattle.image.proofs.Laws.Store.{bytes_one, bytes_append, bytes_zeros, and_then}
use Rattle.image.proofs.Laws.Numbers.{length_digits, bytes_digits}
use Rattle.fields.specs.Fields.{tail_bytes}
use Rattle.fields.specs.Aids.Fields.{head_bytes, entry_bytes}

pub length_head : (name : List ℕ) (attr : ℕ) → length name ≡ 11 → length (head_bytes name attr) ≡ 22
unfolding head_bytes
length_head name attr e = length-append name (attr ∷ replicate 10 0) ∙ omega arith

pub length_entry : (name : List ℕ) (attr time date start size : ℕ) → length name ≡ 11 → length (entry_bytes name attr time date start size) ≡ 32
unfolding head_bytes tail_bytes digits
length_entry name attr time date start size e =
    length-append (head_bytes name attr) (tail_bytes time date start size) ∙ omega (arith, length_head name attr e)

pub bytes_entry : (name : List ℕ) (attr time date start size : ℕ) → Bytes name → attr < 256 → Bytes (entry_bytes name attr time date start size)
unfolding head_bytes tail_bytes
bytes_entry name attr time date start size b h =
    bytes_append (name ++ (attr ∷ replicate 10 0)) _ (bytes_append name _ b (bytes_append (attr ∷ []) (replicate 10 0) (bytes_one attr h) (bytes_zeros 10)))
    (bytes_append (digits time 2) _ (bytes_digits time 2) (bytes_append (digits date 2) _ (bytes_digits date 2) (bytes_append (digits start 2) _ (bytes_digits start 2) (bytes_digits size 4))))

-- ---- the code's needs

pub head_stored : (l l₁ l₂ l₃ : List ℕ) (a : ℕ) (name : List ℕ) (attr : ℕ) → length name ≡ 11
    → l₁ ≡ stored l a name → l₂ ≡ stored l₁ (a + 11) (attr ∷ []) → l₃ ≡ stored l₂ (a + 12) (replicate 10 0)
    → l₃ ≡ stored l a (head_bytes name attr)
unfolding head_bytes
head_stored l l₁ l₂ l₃ a name attr e p q r =
    let x : l₃ ≡ stored l₁ (a + 11) ((attr ∷ []) ++ replicate 10 0) = and_then l₁ l₂ l₃ (a + 11) (a + 12) (attr ∷ []) (replicate 10 0) q r (omega arith) in
    and_then l l₁ l₃ a (a + 11) name (attr ∷ replicate 10 0) p x (omega arith)

pub tail_stored : (l l₁ l₂ l₃ l₄ : List ℕ) (a time date start size : ℕ)
    → l₁ ≡ stored l (a + 22) (digits time 2) → l₂ ≡ stored l₁ (a + 24) (digits date 2)
    → l₃ ≡ stored l₂ (a + 26) (digits start 2) → l₄ ≡ stored l₃ (a + 28) (digits size 4)
    → l₄ ≡ stored l (a + 22) (tail_bytes time date start size)
unfolding tail_bytes
tail_stored l l₁ l₂ l₃ l₄ a time date start size p q r s =
    let y = and_then l₂ l₃ l₄ (a + 26) (a + 28) (digits start 2) (digits size 4) r s (rw (length_digits start 2) (omega arith)) in
    let x = and_then l₁ l₂ l₄ (a + 24) (a + 26) (digits date 2) (digits start 2 ++ digits size 4) q y (rw (length_digits date 2) (omega arith)) in
    and_then l l₁ l₄ (a + 22) (a + 24) (digits time 2) (digits date 2 ++ (digits start 2 ++ digits size 4)) p x (rw (length_digits time 2) (omega arith))

pub entry_stored : (l m k : List ℕ) (a : ℕ) (name : List ℕ) (attr time date start size : ℕ) → length name ≡ 11
    → m ≡ stored l a (head_bytes name attr) → k ≡ stored m (a + 22) (tail_bytes time date start size)
    → k ≡ stored l a (entry_bytes name attr time date start size)
unfolding head_bytes
entry_stored l m k a name attr time date start size e p q =
    and_then l m k a (a + 22) (head_bytes name attr) (tail_bytes time date start size) p q (omega (arith, length_head name attr e))
