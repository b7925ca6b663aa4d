-- Our library keeps all of demand 3.
use Rattle.history.specs.Keeps.{Keeps}
use Rattle.history.specs.World.{ours}
use Rattle.history.proofs.Laws.Handles.{hands_out_its_file}
use Rattle.history.proofs.Laws.HandlesKept.{handles_keep_their_files}
use Rattle.history.proofs.Laws.Looks.{looks_alter_nothing}
use Rattle.history.proofs.Laws.Promises.{sound_after_each, files_of_history, names_a_file, alters_no_other, total_after_each, short_only_where_full}
use Rattle.history.proofs.Laws.Refused.{refusals_leave_all, refused_reads_leave_buffer}
use Rattle.history.proofs.Laws.Seeks.{seeks_are_of_history}
use Rattle.history.proofs.Laws.Shown.{first_files, reads_are_of_history}
use Rattle.history.proofs.Laws.Spare.{spare_first}
use Rattle.history.proofs.Laws.TableBecomes.{pointers_move}
use Rattle.history.proofs.Laws.Tare.{tare_stays}

pub ours_keeps : Keeps ours
ours_keeps = record {
  sound = sound_after_each;
  files = files_of_history;
  first = first_files;
  reads = reads_are_of_history;
  seeks = seeks_are_of_history;
  names = names_a_file;
  others = alters_no_other;
  total = total_after_each;
  short = short_only_where_full;
  spare = spare_first;
  looks = looks_alter_nothing;
  refusals = refusals_leave_all;
  buffer = refused_reads_leave_buffer;
  tare = tare_stays;
  handed = hands_out_its_file;
  handles = handles_keep_their_files;
  pointers = pointers_move;
}
