-- A world to begin with, and the volume that the calls ask for: the same.
use Rattle.chains.proofs.Laws.Tests.{true_says}
use Rattle.image.specs.Bytes.{Bytes}
use Rattle.diskette.proofs.Laws.Images.{image_of_kind}
use Rattle.diskette.specs.declared.Kind.{Kind}
use Rattle.sound.proofs.Laws.IsSound.{known_says}
use Rattle.calls.specs.Aids.Ready.{OnVolume}
use Rattle.calls.proofs.Laws.Ready.{on_of_kind}
use Rattle.changes.proofs.Laws.Changed.{on_sound}
use Rattle.history.specs.Promises.{Begins}
use Rattle.history.specs.World.{World}

pub on : {k : Kind} {w : World} → Begins k w → OnVolume w.image k
on {k} {w} b =
    let known = (image_of_kind w.image k).1 b.of_kind in
    record { known = known; sound = true_says (known_says w.image k known) b.sound }

pub on_begins : (k : Kind) (w : World) → OnVolume w.image k → Bytes w.image → Begins k w
on_begins k w v b = record { of_kind = on_of_kind w.image k v; sound = on_sound k w.image v; bytes = b }
