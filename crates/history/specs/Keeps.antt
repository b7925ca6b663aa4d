-- All of demand 3, of one library.
use Rattle.history.specs.Handles.{HandsOutItsFile, HandlesKeepTheirFiles, PointersMove}
use Rattle.history.specs.Promises.{SoundAfterEach, FilesOfHistory, FirstFiles, ReadsAreOfHistory, SeeksAreOfHistory, NamesAFile, AltersNoOther}
use Rattle.history.specs.Promises.{TotalAfterEach, ShortOnlyWhereFull, SpareFirst, LooksAlterNothing, RefusalsLeaveAll, RefusedReadsLeaveBuffer}
use Rattle.history.specs.Tare.{TareStays}
use Rattle.history.specs.World.{Library}

pub record Keeps (lib : Library) : Type 0 where
  pub sound : SoundAfterEach lib
  pub files : FilesOfHistory lib
  pub first : FirstFiles
  pub reads : ReadsAreOfHistory lib
  pub seeks : SeeksAreOfHistory lib
  pub names : NamesAFile lib
  pub others : AltersNoOther lib
  pub total : TotalAfterEach lib
  pub short : ShortOnlyWhereFull lib
  pub spare : SpareFirst lib
  pub looks : LooksAlterNothing lib
  pub refusals : RefusalsLeaveAll lib
  pub buffer : RefusedReadsLeaveBuffer lib
  pub tare : TareStays lib
  pub handed : HandsOutItsFile lib
  pub handles : HandlesKeepTheirFiles lib
  pub pointers : PointersMove lib
