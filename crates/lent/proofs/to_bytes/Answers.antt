-- Each way out is one case of the definition.
use Rattle.records.proofs.Laws.Bytes.{bytes_past, bytes_freed, bytes_taken, bytes_written}
use Rattle.lent.proofs.to_bytes.Goals as goal

pub returns-then-held-2 : goal.returns-then-held-2
returns-then-held-2 c = search (bytes_past, bytes_freed, bytes_taken, bytes_written)

pub returns-else-held-2 : goal.returns-else-held-2
returns-else-held-2 c = search (bytes_past, bytes_freed, bytes_taken, bytes_written)

pub returns-else-held : goal.returns-else-held
returns-else-held c = search (bytes_past, bytes_freed, bytes_taken, bytes_written)

pub returns-else-place-place_count : goal.returns-else-place-place_count
returns-else-place-place_count c = search (bytes_past, bytes_freed, bytes_taken, bytes_written)
