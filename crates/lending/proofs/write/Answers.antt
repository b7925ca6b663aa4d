-- The call on the record alone, put back where it came from.
use Rattle.lending.proofs.Laws.Through.{write_through}
use Rattle.lending.proofs.write.Goals as goal

pub returns : goal.returns
returns c =
    write_through c.args.row.now c.all_fit.ensures.fit c.args.handle c.args.img.now c.write-done.result.answer c.write-done.result.held c.put_record.new.row c.put_record.ensures
    c.args.bytes.now c.write-done.new.img (rw c.record_at-record.ensures at c.write-done.ensures)
