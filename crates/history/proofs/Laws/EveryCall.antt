-- Every call comes to one of what Came says.
use Rattle.std.specs.Prelude.{refl}
use Rattle.diskette.specs.declared.Kind.{Kind}
use Rattle.history.specs.Aids.Came.{Came}
use Rattle.history.specs.Promises.{Given, Begins}
use Rattle.history.specs.World.{World, Call, look, open_file, create, read, write, seek, close, delete, rename, mode}
use Rattle.history.proofs.Laws.CameFiles.{came_delete, came_create, came_write}
use Rattle.history.proofs.Laws.CameMarks.{came_rename, came_mode, came_close}
use Rattle.history.proofs.Laws.CameSame.{came_look, came_open, came_read, came_seek}

pub came : (k : Kind) (w : World) (c : Call) → Begins k w → Given c → Came k w c
came k w (look x) b g = came_look k w b x
came k w (open_file name access) b g = came_open k w b name access
came k w (create name attr stamp) b g = came_create k w b name attr stamp
came k w (read h buffer) b g = came_read k w b h buffer
came k w (write h bs) b g = came_write k w b h bs (g h bs refl)
came k w (seek h method offset) b g = came_seek k w b h method offset
came k w (close h stamp) b g = came_close k w b h stamp
came k w (delete name) b g = came_delete k w b name
came k w (rename name new) b g = came_rename k w b name new
came k w (mode name function attr) b g = came_mode k w b name function attr
