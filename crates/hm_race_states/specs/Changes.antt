-- How an area list changes.
use Rattle.std.specs.Prelude.{Option, List}
use Rattle.hm_base.specs.Areas.{without, with_rights, with_area}
use Rattle.hm_base.specs.declared.area.Area.{Area}
use Rattle.vm_areas.specs.Refusals.{insert_refusal, remove_refusal, protect_refusal}
use Rattle.vm_areas.specs.declared.AreaRefusal.{AreaRefusal}
use Rattle.hm_race_states.specs.declared.spaces.Change.{Change}

-- the areas after a change
abbrev pub changed_to : Change → List Area → List Area
changed_to (Change.Insert r w) xs = with_area (record { span = r; rights = w }) xs
changed_to (Change.Remove r) xs = without r xs
changed_to (Change.Protect r w) xs = with_rights r w xs

-- why a change is refused
abbrev pub refusal_of : Change → List Area → Option AreaRefusal
refusal_of (Change.Insert r w) xs = insert_refusal r xs
refusal_of (Change.Remove r) xs = remove_refusal r xs
refusal_of (Change.Protect r w) xs = protect_refusal r w xs
