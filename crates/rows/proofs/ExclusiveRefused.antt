-- The worked script exclusive_refused: its run, and that it is legal.
use Rattle.std.specs.Prelude.{◌≡◌, List, [], ◌∷◌, refl}
use Rattle.hm_base.specs.Program.{Program}
use Rattle.hm_base.specs.declared.ops.Version.{Version}
use Rattle.hm_base.specs.declared.ops.Rights.{Rights}
use Rattle.hm_base.specs.declared.ops.Op.{Op}
use Rattle.hm_base.specs.declared.ops.ScheduleLine.{ScheduleLine}
use Rattle.hm_base.specs.declared.cause.Cause.{Cause}
use Rattle.hm_history.specs.declared.Who.{Who}
use Rattle.hm_history.specs.declared.Kind.{Kind}
use Rattle.hm_history.specs.declared.Entry.{Entry}
use Rattle.hm_history.specs.Kernel.Run.{run}
use Rattle.hm_history.specs.Kernel.Legal.{Legal}

abbrev script : Program
script = record {
  version = Version.Two;
  frames = 0;
  devices = 4 ∷ [];
  skip = 0;
  actors = (Op.Map 0 (record { first = 16; count = 1 }) Rights.ReadWrite ∷ Op.Map 0 (record { first = 17; count = 1 }) Rights.Read ∷ Op.Attach 0 0 0 (record { first = 16; count = 3 }) ∷ Op.Exclusive 0 16 ∷ Op.Exclusive 0 17 ∷ Op.Exclusive 0 18 ∷ Op.Add 0 0x10000 1 ∷ Op.Add 0 0x11000 1 ∷ Op.Add 0 0x12000 1 ∷ []) ∷ [];
  schedule = ScheduleLine.Run 0 99 ∷ [];
}

abbrev history : List Entry
history =
    record { actor = 0; kind = Kind.Wlock 0 } ∷
    record { actor = 0; kind = Kind.Mapped 0 (record { first = 16; count = 1 }) Rights.ReadWrite } ∷
    record { actor = 0; kind = Kind.Wlock 0 } ∷
    record { actor = 0; kind = Kind.Mapped 0 (record { first = 17; count = 1 }) Rights.Read } ∷
    record { actor = 0; kind = Kind.Attached 0 0 0 (record { first = 16; count = 3 }) 1 } ∷
    record { actor = 0; kind = Kind.Rlock 0 } ∷
    record { actor = 0; kind = Kind.Refused Cause.NoFrame } ∷
    record { actor = 0; kind = Kind.Rlock 0 } ∷
    record { actor = 0; kind = Kind.Refused Cause.Forbidden } ∷
    record { actor = 0; kind = Kind.Rlock 0 } ∷
    record { actor = 0; kind = Kind.Refused Cause.Unmapped } ∷
    record { actor = 0; kind = Kind.Rlock 0 } ∷
    record { actor = 0; kind = Kind.Failed (Who.Mirror 0) 0x10000 1 Cause.NoFrame } ∷
    record { actor = 0; kind = Kind.Rlock 0 } ∷
    record { actor = 0; kind = Kind.Failed (Who.Mirror 0) 0x11000 1 Cause.Forbidden } ∷
    record { actor = 0; kind = Kind.Rlock 0 } ∷
    record { actor = 0; kind = Kind.Failed (Who.Mirror 0) 0x12000 1 Cause.Unmapped } ∷ []

runs : run script ≡ history
runs = refl

legal : Legal script history
legal = (
  record { is_due = refl; rules = record { answers = refl; places = refl; frames = refl; sequences = refl; untold = refl; guarded = refl }; kept = refl },
  (
    record { is_due = refl; rules = record { answers = refl; places = refl; frames = refl; sequences = refl; untold = refl; guarded = refl }; kept = refl },
    (
      record { is_due = refl; rules = record { answers = refl; places = refl; frames = refl; sequences = refl; untold = refl; guarded = refl }; kept = refl },
      (
        record { is_due = refl; rules = record { answers = refl; places = refl; frames = refl; sequences = refl; untold = refl; guarded = refl }; kept = refl },
        (
          record { is_due = refl; rules = record { answers = refl; places = refl; frames = refl; sequences = refl; untold = refl; guarded = refl }; kept = refl },
          (
            record { is_due = refl; rules = record { answers = refl; places = refl; frames = refl; sequences = refl; untold = refl; guarded = refl }; kept = refl },
            (
              record { is_due = refl; rules = record { answers = refl; places = refl; frames = refl; sequences = refl; untold = refl; guarded = refl }; kept = refl },
              (
                record { is_due = refl; rules = record { answers = refl; places = refl; frames = refl; sequences = refl; untold = refl; guarded = refl }; kept = refl },
                (
                  record { is_due = refl; rules = record { answers = refl; places = refl; frames = refl; sequences = refl; untold = refl; guarded = refl }; kept = refl },
                  (
                    record { is_due = refl; rules = record { answers = refl; places = refl; frames = refl; sequences = refl; untold = refl; guarded = refl }; kept = refl },
                    (
                      record { is_due = refl; rules = record { answers = refl; places = refl; frames = refl; sequences = refl; untold = refl; guarded = refl }; kept = refl },
                      (
                        record { is_due = refl; rules = record { answers = refl; places = refl; frames = refl; sequences = refl; untold = refl; guarded = refl }; kept = refl },
                        (
                          record { is_due = refl; rules = record { answers = refl; places = refl; frames = refl; sequences = refl; untold = refl; guarded = refl }; kept = refl },
                          (
                            record { is_due = refl; rules = record { answers = refl; places = refl; frames = refl; sequences = refl; untold = refl; guarded = refl }; kept = refl },
                            (
                              record { is_due = refl; rules = record { answers = refl; places = refl; frames = refl; sequences = refl; untold = refl; guarded = refl }; kept = refl },
                              (
                                record { is_due = refl; rules = record { answers = refl; places = refl; frames = refl; sequences = refl; untold = refl; guarded = refl }; kept = refl },
                                (
                                  record { is_due = refl; rules = record { answers = refl; places = refl; frames = refl; sequences = refl; untold = refl; guarded = refl }; kept = refl },
                                  tt,
                                ),
                              ),
                            ),
                          ),
                        ),
                      ),
                    ),
                  ),
                ),
              ),
            ),
          ),
        ),
      ),
    ),
  ),
)
