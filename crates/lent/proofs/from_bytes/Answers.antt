-- The five fields of a place that counts, or an unused record.
use Rattle.std.proofs.Common.{◌∙◌}
use Rattle.records.proofs.Laws.Row.{default_is}
use Rattle.records.proofs.Laws.Alike.{read_some, read_none}
use Rattle.lent.proofs.from_bytes.Goals as goal

pub returns-then-place-place_count : goal.returns-then-place-place_count
returns-then-place-place_count c = search read_some

pub returns-else-place-place_count : goal.returns-else-place-place_count
returns-else-place-place_count c = default_is c.default.ensures ∙ search read_none
