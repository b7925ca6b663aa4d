-- Bytes put into a file: what its bytes are then, and what the image is then.
use Rattle.std.specs.Prelude.{ℕ, zero, suc, ◌+◌, ◌-◌, List, ◌++◌, length, get_or, set, take, drop, replicate}
use Rattle.chains.specs.Content.{byte_at}

-- the bytes of a file after bs were put at pos: "bytes between the old size and the pointer become zero"
unfoldable pub written : List ℕ → ℕ → List ℕ → List ℕ
written xs pos bs =
    let filled = xs ++ replicate (pos - length xs) 0 in
    take pos filled ++ (bs ++ drop (pos + length bs) filled)

-- the image after the first n of bs were stored along the chain cs, from its byte pos on
unfoldable pub poured : ℕ → ℕ → List ℕ → List ℕ → ℕ → List ℕ → ℕ → List ℕ
poured base cb img cs pos bs zero = img
poured base cb img cs pos bs (suc n) = set (poured base cb img cs pos bs n) (byte_at base cb cs (pos + n)) (get_or bs n 0)

-- the image after bs were put at pos into a file of size bytes with the chain cs: zeros are stored between the size and pos
unfoldable pub written_image : ℕ → ℕ → List ℕ → List ℕ → ℕ → ℕ → List ℕ → List ℕ
written_image base cb img cs size pos bs =
    let filled = poured base cb img cs size (replicate (pos - size) 0) (pos - size) in
    poured base cb filled cs pos bs (length bs)
