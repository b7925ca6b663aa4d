-- Both halves are below 2^32, so each can be had back.
use Rattle.packing.proofs.Laws.Packing.{packs}
use Rattle.packing.proofs.answer.pack.Goals as goal

pub returns : goal.returns
returns c = search packs
