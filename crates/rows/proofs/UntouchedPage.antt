-- The worked script untouched_page: its run, and that it is legal.
use Rattle.std.specs.Prelude.{◌≡◌, List, [], ◌∷◌, refl}
use Rattle.hm_base.specs.Program.{Program}
use Rattle.hm_base.specs.declared.ops.Version.{Version}
use Rattle.hm_base.specs.declared.ops.Rights.{Rights}
use Rattle.hm_base.specs.declared.ops.Op.{Op}
use Rattle.hm_base.specs.declared.ops.ScheduleLine.{ScheduleLine}
use Rattle.hm_base.specs.declared.Place.{Place}
use Rattle.hm_history.specs.declared.Who.{Who}
use Rattle.hm_history.specs.declared.Kind.{Kind}
use Rattle.hm_history.specs.declared.Entry.{Entry}
use Rattle.hm_history.specs.Kernel.Run.{run}
use Rattle.hm_history.specs.Kernel.Legal.{Legal}

abbrev script : Program
script = record {
  version = Version.One;
  frames = 0;
  devices = [];
  skip = 0;
  actors = (Op.Map 0 (record { first = 16; count = 1 }) Rights.ReadWrite ∷ Op.Load 0 0x10000 1 ∷ []) ∷ [];
  schedule = ScheduleLine.Run 0 9 ∷ [];
}

abbrev history : List Entry
history =
    record { actor = 0; kind = Kind.Wlock 0 } ∷
    record { actor = 0; kind = Kind.Mapped 0 (record { first = 16; count = 1 }) Rights.ReadWrite } ∷
    record { actor = 0; kind = Kind.Rlock 0 } ∷
    record { actor = 0; kind = Kind.Place 0 16 Place.Zero } ∷
    record { actor = 0; kind = Kind.Runlock 0 } ∷
    record { actor = 0; kind = Kind.Loaded (Who.Cpu 0) 0x10000 (0 ∷ []) } ∷ []

runs : run script ≡ history
runs = refl

legal : Legal script history
legal = (
  record { is_due = refl; rules = record { answers = refl; places = refl; frames = refl; sequences = refl; untold = refl; guarded = refl }; kept = refl },
  (
    record { is_due = refl; rules = record { answers = refl; places = refl; frames = refl; sequences = refl; untold = refl; guarded = refl }; kept = refl },
    (
      record { is_due = refl; rules = record { answers = refl; places = refl; frames = refl; sequences = refl; untold = refl; guarded = refl }; kept = refl },
      (
        record { is_due = refl; rules = record { answers = refl; places = refl; frames = refl; sequences = refl; untold = refl; guarded = refl }; kept = refl },
        (
          record { is_due = refl; rules = record { answers = refl; places = refl; frames = refl; sequences = refl; untold = refl; guarded = refl }; kept = refl },
          (
            record { is_due = refl; rules = record { answers = refl; places = refl; frames = refl; sequences = refl; untold = refl; guarded = refl }; kept = refl },
            tt,
          ),
        ),
      ),
    ),
  ),
)
