-- "out takes what does not fit one number"
use Rattle.std.specs.Prelude.{ℕ, cond, List, [], ◌∷◌, ◌++◌, ltb, length}
use Rattle.image.specs.Store.{stored}
use Rattle.image.specs.Numbers.{digits}
use Rattle.fields.specs.Fields.{tail_bytes}

-- "as 32-bit words, low byte first"
unfoldable pub words : List ℕ → List ℕ
words [] = []
words (n ∷ ns) = digits n 4 ++ words ns

-- "22 bytes as stored: name 11, attribute 1, time 2, date 2, start 2, size 4"
unfoldable pub fields : List ℕ → ℕ → ℕ → ℕ → ℕ → ℕ → List ℕ
fields name attr time date start size = name ++ (attr ∷ tail_bytes time date start size)

-- "Where out is shorter than what is to be put into it .. it is left as it came .. Bytes of out past what is put there stay."
unfoldable pub put_out : List ℕ → List ℕ → List ℕ
put_out out s = cond (ltb (length out) (length s)) out (stored out 0 s)
