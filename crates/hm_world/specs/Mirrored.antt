-- What a page is read through, if a mirror's table has an entry for it.
use Rattle.std.specs.Prelude.{◌≡◌, Option, Some, None}
use Rattle.hm_base.specs.declared.Place.{Place}
use Rattle.hm_history.specs.Memory.Places.{Places, TableEntry}
use Rattle.hm_history.specs.Memory.Contents.{backing}

-- the place stands for the entry's frame, whatever was committed
abbrev pub MirroredBy : Option TableEntry → Place → Type 0
MirroredBy None x = x ≡ Place.Empty
MirroredBy (Some e) x = (t : Places) → backing t x ≡ e.target
