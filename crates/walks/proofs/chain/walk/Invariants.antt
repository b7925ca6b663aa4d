-- A chain from the start, if there is one, goes on from here, and the clusters before are marked.
use Rattle.table.specs.Entries.{table_of}
use Rattle.walks.specs.Aids.Walks.{Walking}
use Rattle.walks.proofs.chain.walk.Given as goal

abbrev pub invariant-loop-met : goal.invariant-loop-met
invariant-loop-met l = Walking l.last (table_of l.last l.img) l.start l.initial.marks l.met l.c l.marks
