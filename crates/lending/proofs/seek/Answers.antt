-- The call on the record alone, put back where it came from.
use mir.Facts.{to_z-of_z}
use Rattle.lending.proofs.Laws.Through.{seek_through}
use Rattle.lending.proofs.seek.Goals as goal

pub returns : goal.returns
returns c =
    seek_through c.args.row.now c.all_fit.ensures.fit c.args.handle c.args.img.now c.seek-done.result.answer c.seek-done.result.held c.put_record.new.row c.put_record.ensures
    c.args.method c.args.offset (rw (to_z-of_z c.ranges.offset) at (rw c.record_at-record.ensures at c.seek-done.ensures))
