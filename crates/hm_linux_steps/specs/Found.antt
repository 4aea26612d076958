-- The state as actors find it, by what was computed of it.
use Rattle.std.specs.Prelude.{ℕ, nat_lt, if◌then◌else◌, Option, Some, None, List, [], map, slice_index_or}
use Rattle.hm_base.specs.Program.{Program}
use Rattle.hm_base.specs.declared.area.Area.{Area}
use Rattle.hm_history.specs.Kernel.Going.{State, op_at}
use Rattle.hm_history.specs.declared.Progress.{Progress}
use Rattle.hm_linux.specs.declared.variant.Variant.{Variant}
use Rattle.hm_linux.specs.Noted.{Noted}
use Rattle.hm_linux.specs.Instead.{plain_found, locks_found, due_varied_top}
use Rattle.hm_linux_steps.specs.declared.area_lists.AreaLists.{AreaLists}

-- the areas of each process, by their lists
abbrev pub listed_areas : AreaLists → ℕ → List Area
listed_areas x p = slice_index_or (map (λ v. v.items) x.lists.items) p []

-- the areas as actors find them: those of the lists, for the processes that have one; as they are, if there are none
abbrev pub areas_shown : Option AreaLists → (ℕ → List Area) → (ℕ → List Area) → ℕ → List Area
areas_shown None own left p = own p
areas_shown (Some x) own left p = if nat_lt p 32 then listed_areas x p else left p

-- the state as actors find it, with the areas that were computed
abbrev pub shown : Variant → Program → Option AreaLists → State → State
shown l c x u = record {
  after = record u.after {
    plain = record u.after.plain { areas = areas_shown x u.after.plain.areas (plain_found l c u).areas };
    locks = locks_found l c u;
  };
  going = u.going;
}

-- what is due to an actor in a state as it finds it
abbrev pub due_found : Variant → Program → Noted → State → ℕ → Progress
due_found l c n u a = let g = u.going a in due_varied_top l c n u.after a (op_at c a g.index) g.pages g.stack
