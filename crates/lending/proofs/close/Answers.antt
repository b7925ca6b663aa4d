-- The call on the record alone, put back where it came from.
use Rattle.lending.proofs.Laws.Through.{close_through}
use Rattle.lending.proofs.close.Goals as goal

pub returns : goal.returns
returns c =
    close_through c.args.row.now c.all_fit.ensures.fit c.args.handle c.args.img.now c.close-done.result.answer c.close-done.result.held c.put_record.new.row c.put_record.ensures
    c.args.stamp c.close-done.new.img (rw c.record_at-record.ensures at c.close-done.ensures)
