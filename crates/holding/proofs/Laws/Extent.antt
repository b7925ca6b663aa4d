-- How far a file's chain goes, in the form of the code's need.
use Rattle.std.specs.Prelude.{ℕ, ◌-◌, List, ◌≡◌}
use Rattle.std.proofs.Common.{◌∙◌}
use Rattle.chains.specs.Chain.{clusters_from}
use Rattle.diskette.specs.Places.{last_cluster}
use Rattle.diskette.specs.declared.Kind.{Kind}
use Rattle.fields.specs.Fields.{start_of}
use Rattle.table.specs.Entries.{table_of}
use Rattle.links.specs.Aids.Extent.{extent_of}
use Rattle.links.specs.declared.Extent.{Extent}
use Rattle.holding.specs.Holding.{file_chain}

pub extent_is : (img : List ℕ) (k : Kind) (a start last : ℕ) → start ≡ start_of img a → last ≡ last_cluster k
    → (r : Extent) → r ≡ extent_of (clusters_from last (table_of last img) (last - 1) start) → r ≡ extent_of (file_chain k img a)
extent_is img k a start last se le r e = e ∙ rw (se, le)
