-- The clusters of a file given back: "frees the chain" (delete), "its clusters freed" (create).
use Rattle.std.specs.Prelude.{ℕ, List}
use Rattle.diskette.specs.Places.{copy_two}
use Rattle.diskette.specs.declared.Kind.{Kind}
use Rattle.links.specs.Freed.{freed}
use Rattle.holding.specs.Holding.{file_chain}

-- the image with each cluster of the file, whose entry starts at byte a, free in both copies of the table
unfoldable pub chain_freed : Kind → List ℕ → ℕ → List ℕ
chain_freed k img a = freed (copy_two k) img (file_chain k img a)
