-- A name that was given, and its bytes.
use Rattle.std.specs.Prelude.{ℕ, true, List, ◌≡◌, Option, Some, None, is_some}
use Rattle.std.proofs.Common.{arith}
use Rattle.std.proofs.Math.Path.{refl}
use Rattle.names.specs.Reading.{name_bytes}

pub given_bytes : (o : Option (List ℕ)) → is_some o ≡ true → o ≡ Some (name_bytes o)
given_bytes (Some n) e = refl
given_bytes None e = absurd (let z : ◌≡◌ {A = ℕ} 0 1 = cc in omega arith)
