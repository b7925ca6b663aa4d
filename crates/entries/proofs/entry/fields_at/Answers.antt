-- Each field is the one that was read.
use Rattle.entries.proofs.entry.fields_at.Goals as goal

pub returns : goal.returns
returns c = cc
