-- What is read of a chain: bytes of the file, as many as were asked for.
use Rattle.std.specs.Prelude.{ℕ, ◌+◌, ◌*◌, ◌≤◌, ◌≡◌, List, length}
use Rattle.std.proofs.Common.{sym}
use Rattle.image.specs.Store.{part}
use Rattle.chains.specs.Content.{content}
use Rattle.contents.specs.Aids.Contents.{chain_from, Area, fetched}
use Rattle.contents.proofs.Laws.Chain.{chain_room}
use Rattle.contents.proofs.Laws.Stores.{content_part}

module _ (base cb last : ℕ) (l : List ℕ) (start : ℕ) (a : Area base cb last (length l)) (pos n : ℕ) where
  -- the file has size bytes
  pub fetched_content : (size : ℕ) → pos + n ≤ size → size ≤ length (chain_from last l start) * cb
      → fetched base cb last l start pos n ≡ part (content base cb l (chain_from last l start) size) pos n
  fetched_content size h k = sym (content_part base cb a.wide l (chain_from last l start) size pos n (chain_room base cb last l start a) h k)
