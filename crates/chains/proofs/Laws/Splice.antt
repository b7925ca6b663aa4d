-- What is read of a splice.
use Rattle.std.specs.Prelude.{ℕ, ◌+◌, ◌-◌, ◌≤◌, ◌<◌, ◌≡◌, List, ◌++◌, length, get_or, take, drop}
use Rattle.std.proofs.Common.{arith, ap, ap₂, ◌∙◌, append-nil, length-append, length-drop, drop_of_length-le, get_or-take, get_or-drop, get_or-append-add, length-take-le, take_all}
use Rattle.std.proofs.Math.ListN.{get_or-append}
use Rattle.chains.specs.Aids.Write.{splice}

pub splice_length : (xs : List ℕ) (pos : ℕ) (bs : List ℕ) → pos ≤ length xs → length (splice xs pos bs) ≡ pos + (length bs + (length xs - (pos + length bs)))
unfolding splice
splice_length xs pos bs h =
    length-append (take pos xs) (bs ++ drop (pos + length bs) xs)
    ∙ omega (arith, length-take-le pos xs h, length-append bs (drop (pos + length bs) xs), length-drop (pos + length bs) xs)

pub splice_before : (xs : List ℕ) (pos : ℕ) (bs : List ℕ) (i : ℕ) → pos ≤ length xs → i < pos → get_or (splice xs pos bs) i 0 ≡ get_or xs i 0
unfolding splice
splice_before xs pos bs i h l = get_or-append (take pos xs) _ 0 i (omega (arith, length-take-le pos xs h)) ∙ get_or-take pos xs i 0 l

-- past the seam, by how far
seam : (xs ys : List ℕ) (i : ℕ) → length xs ≤ i → get_or (xs ++ ys) i 0 ≡ get_or ys (i - length xs) 0
seam xs ys i h =
    let z : i ≡ length xs + (i - length xs) = omega arith in
    ap (λ (x : ℕ). get_or (xs ++ ys) x 0) z ∙ get_or-append-add xs ys (i - length xs) 0

pub splice_in : (xs : List ℕ) (pos : ℕ) (bs : List ℕ) (i : ℕ) → pos ≤ length xs → pos ≤ i → i < pos + length bs → get_or (splice xs pos bs) i 0 ≡ get_or bs (i - pos) 0
unfolding splice
splice_in xs pos bs i h k l =
    let t : length (take pos xs) ≡ pos = length-take-le pos xs h in
    seam (take pos xs) _ i (omega arith) ∙ ap (λ (x : ℕ). get_or (bs ++ drop (pos + length bs) xs) (i - x) 0) t ∙ get_or-append bs _ 0 (i - pos) (omega arith)

pub splice_after : (xs : List ℕ) (pos : ℕ) (bs : List ℕ) (i : ℕ) → pos ≤ length xs → pos + length bs ≤ i → get_or (splice xs pos bs) i 0 ≡ get_or xs i 0
unfolding splice
splice_after xs pos bs i h k =
    let t : length (take pos xs) ≡ pos = length-take-le pos xs h in
    let z : pos + length bs + (i - pos - length bs) ≡ i = omega arith in
    seam (take pos xs) _ i (omega arith) ∙ ap (λ (x : ℕ). get_or (bs ++ drop (pos + length bs) xs) (i - x) 0) t
    ∙ seam bs _ (i - pos) (omega arith) ∙ get_or-drop (pos + length bs) xs (i - pos - length bs) 0 ∙ ap (λ (x : ℕ). get_or xs x 0) z

-- at the end it is put behind
pub splice_end : (xs zs : List ℕ) (n : ℕ) → length xs ≡ n → splice xs n zs ≡ xs ++ zs
unfolding splice
splice_end xs zs n e =
    ap₂ (λ (a b : List ℕ). a ++ (zs ++ b)) (take_all n xs (omega arith)) (drop_of_length-le xs {i = n + length zs} (omega arith))
    ∙ ap (λ (b : List ℕ). xs ++ b) (append-nil zs)
