-- How far a loop along a chain has come: it goes run by run, a run being what lies in one cluster.
use Rattle.std.specs.Prelude.{ℕ, ◌+◌, ◌-◌, ◌*◌, ◌/◌, ◌%◌, ◌≤◌, ◌<◌, min, List, ◌≡◌, length, get_or}
use Rattle.image.specs.Store.{stored}
use Rattle.chains.specs.Write.{poured}
use Rattle.chains.specs.Content.{cluster_begin}
use Rattle.table.specs.Entries.{word_at, table_of}
use Rattle.contents.specs.Aids.Contents.{chain_from, Area, fetched}
use Rattle.contents.specs.declared.Run.{Run}
use Rattle.contents.specs.declared.Runs.{Runs}

-- how many of left bytes from byte p of a chain on lie in one cluster
unfoldable pub run_of : ℕ → ℕ → ℕ → ℕ
run_of cb p left = min (cb - p % cb) left

-- what the code keeps of runs
abbrev pub runs_at : ℕ → ℕ → ℕ → ℕ → ℕ → ℕ → ℕ → Runs
runs_at base cb last pos n c done = record { base = base; cb = cb; last = last; pos = pos; n = n; cluster = c; done = done }

-- the next one can be named: its place fits, and an image of so many bytes has the table
pub record Ready (s : Runs) (bytes : ℕ) : Type 0 where
  pub small : s.last ≤ 4079
  pub wide : 0 < s.cb
  pub table : word_at 512 s.last + 2 ≤ bytes
  pub from : s.done < s.n → 2 ≤ s.cluster
  pub fits : s.done < s.n → cluster_begin s.base s.cb s.cluster + s.cb < 18446744073709551616
  pub next_fits : s.done < s.n → s.pos + s.done < 18446744073709551616

-- r is the next one by the table of l, and t has those behind it
pub record Ran (s : Runs) (l : List ℕ) (r : Run) (t : Runs) : Type 0 where
  pub more : s.done < s.n
  pub done : r.done ≡ s.done
  pub at : r.at ≡ cluster_begin s.base s.cb s.cluster + (s.pos + s.done) % s.cb
  pub len : r.len ≡ run_of s.cb (s.pos + s.done) (s.n - s.done)
  pub after : t ≡ runs_at s.base s.cb s.last s.pos s.n (table_of s.last l s.cluster) (s.done + r.len)

-- done of n bytes from byte pos of the chain cs on are dealt with, and the cluster c holds the next one if there is one
pub record Stands (cb : ℕ) (cs : List ℕ) (pos n c done : ℕ) : Type 0 where
  pub far : done ≤ n
  pub holds : done < n → c ≡ get_or cs ((pos + done) / cb) 0

-- a loop along the chain that starts at start in the image l: s has the runs of n bytes from its byte pos on that are to come
pub record Going (base cb last : ℕ) (l : List ℕ) (start pos n : ℕ) (s : Runs) : Type 0 where
  pub area : Area base cb last (length l)
  pub inside : pos + n ≤ length (chain_from last l start) * cb
  pub runs : s ≡ runs_at base cb last pos n s.cluster s.done
  pub stands : Stands cb (chain_from last l start) pos n s.cluster s.done

-- of the bytes bs, as many as s says are put into the chain of the image, which was l at first and is m by now
pub record Pouring (base cb last : ℕ) (l : List ℕ) (start pos : ℕ) (bs : List ℕ) (n : ℕ) (m : List ℕ) (s : Runs) : Type 0 where
  pub going : Going base cb last l start pos n s
  pub image : m ≡ poured base cb l (chain_from last l start) pos bs s.done

-- so many bytes of the chain of the image l are copied to the buffer, which was out at first and is filled by now
pub record Fetching (base cb last : ℕ) (l : List ℕ) (start pos : ℕ) (out : List ℕ) (n : ℕ) (filled : List ℕ) (s : Runs) : Type 0 where
  pub going : Going base cb last l start pos n s
  pub buffer : filled ≡ stored out 0 (fetched base cb last l start pos s.done)
