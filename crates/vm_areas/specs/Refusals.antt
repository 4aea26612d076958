-- When a change of areas is refused, the first reason first.
use Rattle.std.specs.Prelude.{not, nat_lt, nat_le, if◌then◌else◌, Option, Some, None, List, length}
use Rattle.hm_base.specs.Pages.{Pages}
use Rattle.hm_base.specs.Areas.{without, with_rights, meets, all_mapped}
use Rattle.hm_base.specs.declared.area.Area.{Area}
use Rattle.hm_base.specs.declared.ops.Rights.{Rights}
use Rattle.vm_areas.specs.declared.AreaRefusal.{AreaRefusal}
use Rattle.vm_areas.specs.declared.AreaRefusal.TheVariants.{Overlap, TooMany, Unmapped}

-- why an area cannot be added
abbrev pub insert_refusal : Pages → List Area → Option AreaRefusal
insert_refusal r as_ = if meets r as_ then Some Overlap else if nat_lt (length as_) 64 then None else Some TooMany

-- why a span cannot be unmapped: a cut through the middle of an area makes two of it
abbrev pub remove_refusal : Pages → List Area → Option AreaRefusal
remove_refusal r as_ = if nat_le (length (without r as_)) 64 then None else Some TooMany

-- why a span's right cannot be changed
abbrev pub protect_refusal : Pages → Rights → List Area → Option AreaRefusal
protect_refusal r w as_ =
    if not (all_mapped r as_) then Some Unmapped
    else if nat_le (length (with_rights r w as_)) 64 then None
    else Some TooMany
