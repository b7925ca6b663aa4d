-- New clusters linked behind a chain, as code does it.
use Rattle.std.specs.Prelude.{ℕ, zero, suc, ◌+◌, ◌-◌, cond, List, ◌⊎◌, ◌≢◌, ◌≡◌, eqb, get_or, take}
use Rattle.chains.specs.Values.{Link}
use Rattle.chains.specs.Free.{free_from, free_clusters}
use Rattle.table.specs.Entries.{table_of}
use Rattle.links.specs.Linked.{linked_to}

-- the clusters that are taken where n are needed: the lowest free ones
abbrev pub new_clusters : ℕ → List ℕ → ℕ → List ℕ
new_clusters last l n = take n (free_clusters last (table_of last l))

-- prev may have a new cluster behind it: it is a cluster and not free, or 0
abbrev pub Behind : ℕ → (ℕ → ℕ) → ℕ → Type 0
Behind last f prev = (prev ≡ 0) ⊎ (Link last prev × (f prev ≢ 0))

-- the lowest free cluster from cluster c on, 0 where there is none
unfoldable pub next_free : ℕ → List ℕ → ℕ → ℕ
next_free last l c = get_or (free_from (table_of last l) (last + 1 - c) c) 0 0

-- the new clusters linked as code does it: up to n times, the lowest free cluster from c on comes behind the one before
unfoldable pub linked_from : ℕ → ℕ → List ℕ → ℕ → ℕ → ℕ → List ℕ
linked_from second last l prev c zero = l
linked_from second last l prev c (suc n) = let d = next_free last l c in cond (eqb d 0) l (linked_from second last (linked_to second l prev d) d (d + 1) n)

-- the first cluster that is taken, as code has it while it goes on: the one found so far, or where that is 0 the next one
unfoldable pub first_from : ℕ → ℕ → List ℕ → ℕ → ℕ → ℕ
first_from first last l c n = cond (eqb first 0) (get_or (take n (free_from (table_of last l) (last + 1 - c) c)) 0 0) first

-- n clusters were added behind prev: the answer is the first of them, 0 where there is none, and m the image after
pub record Added (second last : ℕ) (l : List ℕ) (prev n answer : ℕ) (m : List ℕ) : Type 0 where
  pub first : answer ≡ get_or (new_clusters last l n) 0 0
  pub image : m ≡ linked_from second last l prev 2 n
