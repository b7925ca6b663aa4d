-- The call on the record alone, put back where it came from.
use Rattle.lending.proofs.Laws.Through.{read_through}
use Rattle.lending.proofs.read.Goals as goal

pub returns : goal.returns
returns c =
    read_through c.args.row.now c.all_fit.ensures.fit c.args.handle c.args.img.now c.read-done.result.answer c.read-done.result.held c.put_record.new.row c.put_record.ensures
    c.args.buf.now c.read-done.new.buf (rw c.record_at-record.ensures at c.read-done.ensures)
