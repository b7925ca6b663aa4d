-- What is given: bytes to be written, and no other call has any.
use Rattle.std.specs.Prelude.{ℕ, List, ◌≡◌}
use Rattle.std.proofs.Common.{arith, subst}
use Rattle.image.specs.Bytes.{Bytes}
use Rattle.stamps.specs.declared.Stamp.{Stamp}
use Rattle.history.specs.Promises.{Given}
use Rattle.history.specs.World.{create, write, close, delete}

pub given_write : (h : ℕ) (bs : List ℕ) → Bytes bs → Given (write h bs)
given_write h bs b i cs e = let q : bs ≡ cs = cc in subst Bytes q b

pub given_create : (name : List ℕ) (attr : ℕ) (stamp : Stamp) → Given (create name attr stamp)
given_create name attr stamp h bs e = absurd (let z : ◌≡◌ {A = ℕ} 0 1 = cc in omega arith)

pub given_close : (h : ℕ) (stamp : Stamp) → Given (close h stamp)
given_close h stamp i bs e = absurd (let z : ◌≡◌ {A = ℕ} 0 1 = cc in omega arith)

pub given_delete : (name : List ℕ) → Given (delete name)
given_delete name h bs e = absurd (let z : ◌≡◌ {A = ℕ} 0 1 = cc in omega arith)
