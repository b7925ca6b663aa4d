-- The walk along one chain, and what the two buffers hold between the files.
use Rattle.std.specs.Prelude.{ℕ, zero, suc, ◌+◌, ◌-◌, ◌≤◌, ◌<◌, List, [], ◌∷◌, ◌++◌, ◌≢◌, ◌≡◌, length, get_or, set, Option, Some, None}
use Rattle.chains.specs.Aids.Chain.{Leads, Chain}
use Rattle.chains.specs.Lists.{◌∈◌}
use Rattle.chains.specs.Aids.Marks.{marks}
use Rattle.chains.specs.Values.{Link}
use Rattle.table.specs.Entries.{table_of}

-- r is the value of cluster c, which has 12 bits
pub record ValueIs (last : ℕ) (l : List ℕ) (c r : ℕ) : Type 0 where
  pub is : r ≡ table_of last l c
  pub small : r < 4096

-- v leads to n clusters
pub record LeadsTo (last : ℕ) (f : ℕ → ℕ) (v n : ℕ) : Type 0 where
  pub clusters : List ℕ
  pub leads : Leads last f v clusters
  pub long : length clusters ≡ n

-- what the buffers hold while no chain was bad. Along a chain the marks m do not fall, since whoever meets a cluster meets
-- those behind it; and t has, for each cluster met twice, how many clusters there are from it to the end. 0 is not known.
pub record Tails (last : ℕ) (f : ℕ → ℕ) (m t : List ℕ) : Type 0 where
  pub few : (c : ℕ) → Link last c → get_or m c 0 ≤ 2
  pub rising : (c : ℕ) → Link last c → Link last (f c) → get_or m c 0 ≤ get_or m (f c) 0
  pub known : (c : ℕ) → Link last c → get_or t c 0 ≢ 0 → LeadsTo last f c (get_or t c 0)
  pub twice : (c : ℕ) → Link last c → get_or m c 0 ≡ 2 → get_or t c 0 ≢ 0

-- start leads to n clusters, which are marked; of the last of them, so many as known says, those met twice are known in t
pub record WalkEnds (last : ℕ) (f : ℕ → ℕ) (start : ℕ) (m t : List ℕ) (n known : ℕ) (after : List ℕ) : Type 0 where
  pub ahead : List ℕ
  pub behind : List ℕ
  pub leads : Leads last f start (ahead ++ behind)
  pub long : length ahead + length behind ≡ n
  pub known_are : length behind ≡ known
  pub marks_are : after ≡ marks m (ahead ++ behind)
  pub twice_known : (c : ℕ) → c ∈ behind → get_or after c 0 ≡ 2 → get_or t c 0 ≢ 0

abbrev pub WalkedBy : ℕ → (ℕ → ℕ) → ℕ → List ℕ → List ℕ → Option (ℕ × ℕ) → List ℕ → Type 0
WalkedBy last f start m t (Some (n, known)) after = WalkEnds last f start m t n known after
WalkedBy last f start m t None after = (cs : List ℕ) → ¬ Leads last f start cs

-- what the code's walk promises: its answer r, and where there is an end the marks after
pub record Walked (last : ℕ) (f : ℕ → ℕ) (start : ℕ) (m t : List ℕ) (r : Option (ℕ × ℕ)) (after : List ℕ) : Type 0 where
  pub is : WalkedBy last f start m t r after

-- ps lead from v to c: each is named by the value before it, all are in range, and the last one's value is c
abbrev pub Path : ℕ → (ℕ → ℕ) → ℕ → List ℕ → ℕ → Type 0
Path last f v [] c = v ≡ c
Path last f v (d ∷ ds) c = (v ≡ d) × Link last d × Path last f (f d) ds c

-- where the walk stands: n clusters were met and marked, c is the next
pub record Walking (last : ℕ) (f : ℕ → ℕ) (start : ℕ) (m₀ : List ℕ) (n c : ℕ) (m : List ℕ) : Type 0 where
  pub from : 2 ≤ c
  pub to : c ≤ last
  pub met : List ℕ
  pub path : Path last f start met c
  pub many : length met ≡ n
  pub marks_are : m ≡ marks m₀ met

-- t with n stored at c, n - 1 at the next cluster, and so on for k clusters
unfoldable pub left_stored : (ℕ → ℕ) → List ℕ → ℕ → ℕ → ℕ → List ℕ
left_stored f t c n zero = t
left_stored f t c n (suc k) = left_stored f (set t c n) (f c) (n - 1) k

-- the chain that starts at start has n clusters, which are marked, and the buffers hold what they must; or there is no chain
pub record Chained (last : ℕ) (f : ℕ → ℕ) (start : ℕ) (m : List ℕ) (n : ℕ) (after t : List ℕ) : Type 0 where
  pub clusters : List ℕ
  pub chain : Chain last f start clusters
  pub long : length clusters ≡ n
  pub marks_are : after ≡ marks m clusters
  pub tails : Tails last f after t

abbrev pub VisitedBy : ℕ → (ℕ → ℕ) → ℕ → List ℕ → Option ℕ → List ℕ → List ℕ → Type 0
VisitedBy last f start m (Some n) after t = Chained last f start m n after t
VisitedBy last f start m None after t = (cs : List ℕ) → ¬ Chain last f start cs

-- what the visit of a chain promises: its answer r, and where there is an end the buffers after
pub record Visited (last : ℕ) (f : ℕ → ℕ) (start : ℕ) (m : List ℕ) (r : Option ℕ) (after t : List ℕ) : Type 0 where
  pub is : VisitedBy last f start m r after t
