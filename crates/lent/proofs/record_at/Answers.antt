-- Within the row and its first 16 places it is the record there, else an unused one.
use Rattle.records.proofs.Laws.Row.{record_got, record_beyond}
use Rattle.lent.proofs.record_at.Goals as goal

pub returns-then-place-lt16 : goal.returns-then-place-lt16
returns-then-place-lt16 c = record_got _ _ _ c.get.result c.if-place-lt16.true c.get.ensures.lookup.3 (rw (← c.copied.ensures) c.unwrap_or_default.ensures)

pub returns-else-place-lt16 : goal.returns-else-place-lt16
returns-else-place-lt16 c = record_beyond _ _ _ c.if-place-lt16.false c.default.ensures
