-- exclusive-pins: who makes a page its alone has a reference to the page's frame, so that a migration keeps it.
use Rattle.std.specs.Prelude.{List, []}
use Rattle.hm_base.specs.declared.Frame.{Frame}
use Rattle.hm_history.specs.Memory.After.{After}
use Rattle.hm_history.specs.declared.Kind.{Kind}
use Rattle.hm_history.specs.declared.phases.Touch.TheVariants.{Sole}
use Rattle.hm_history.specs.declared.phases.Phase.{Phase}
use Rattle.hm_linux.specs.HeldPage.{with_taken_away}

-- the references of an actor after its entry at this phase: from the start of an invalidation in which a page is to
-- become the actor's alone, to its end
abbrev pub references_pinned : After → List Frame → Phase → Kind → List Frame
references_pinned s fs (Phase.Decide Sole) (Kind.Start p r q) = with_taken_away (s.places.place p r.first) fs
references_pinned s fs top (Kind.End p r q) = []
references_pinned s fs top k = fs
