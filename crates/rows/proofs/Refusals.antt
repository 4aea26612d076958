-- The worked script refusals: its run, and that it is legal.
use Rattle.std.specs.Prelude.{◌≡◌, List, [], ◌∷◌, refl}
use Rattle.hm_base.specs.Program.{Program}
use Rattle.hm_base.specs.declared.ops.Version.{Version}
use Rattle.hm_base.specs.declared.ops.Rights.{Rights}
use Rattle.hm_base.specs.declared.ops.Op.{Op}
use Rattle.hm_base.specs.declared.ops.ScheduleLine.{ScheduleLine}
use Rattle.hm_base.specs.declared.cause.Cause.{Cause}
use Rattle.hm_history.specs.declared.Who.{Who}
use Rattle.hm_history.specs.declared.Kind.{Kind}
use Rattle.hm_history.specs.declared.Entry.{Entry}
use Rattle.hm_history.specs.Kernel.Run.{run}
use Rattle.hm_history.specs.Kernel.Legal.{Legal}

abbrev script : Program
script = record {
  version = Version.One;
  frames = 4;
  devices = 4 ∷ [];
  skip = 0;
  actors = (Op.Exit 1 ∷ Op.Map 0 (record { first = 16; count = 1 }) Rights.ReadWrite ∷ Op.Map 0 (record { first = 16; count = 1 }) Rights.Read ∷ Op.Protect 0 (record { first = 16; count = 2 }) Rights.Read ∷ Op.Fork 0 0 ∷ Op.Attach 0 0 0 (record { first = 16; count = 1 }) ∷ Op.Attach 0 0 0 (record { first = 16; count = 1 }) ∷ Op.DeviceLoad 1 0x10000 1 ∷ Op.DeviceLoad 0 0x11000 1 ∷ Op.ToDevice 0 (record { first = 16; count = 2 }) ∷ Op.Remove 0 ∷ Op.Remove 0 ∷ Op.Snap 0 (record { first = 16; count = 1 }) ∷ Op.Detach 0 ∷ Op.Detach 0 ∷ []) ∷ [];
  schedule = ScheduleLine.Run 0 99 ∷ [];
}

abbrev history : List Entry
history =
    record { actor = 0; kind = Kind.Refused Cause.NoProcess } ∷
    record { actor = 0; kind = Kind.Wlock 0 } ∷
    record { actor = 0; kind = Kind.Mapped 0 (record { first = 16; count = 1 }) Rights.ReadWrite } ∷
    record { actor = 0; kind = Kind.Wlock 0 } ∷
    record { actor = 0; kind = Kind.Refused Cause.Overlap } ∷
    record { actor = 0; kind = Kind.Wlock 0 } ∷
    record { actor = 0; kind = Kind.Refused Cause.Unmapped } ∷
    record { actor = 0; kind = Kind.Wlock 0 } ∷
    record { actor = 0; kind = Kind.Refused Cause.NameTaken } ∷
    record { actor = 0; kind = Kind.Attached 0 0 0 (record { first = 16; count = 1 }) 1 } ∷
    record { actor = 0; kind = Kind.Refused Cause.MirrorTaken } ∷
    record { actor = 0; kind = Kind.Failed (Who.Mirror 1) 0x10000 1 Cause.Outside } ∷
    record { actor = 0; kind = Kind.Failed (Who.Mirror 0) 0x11000 1 Cause.Outside } ∷
    record { actor = 0; kind = Kind.Refused Cause.Outside } ∷
    record { actor = 0; kind = Kind.Withdrawn 0 } ∷
    record { actor = 0; kind = Kind.Removed 0 } ∷
    record { actor = 0; kind = Kind.Refused Cause.Removed } ∷
    record { actor = 0; kind = Kind.Rlock 0 } ∷
    record { actor = 0; kind = Kind.Seen 0 16 0 } ∷
    record { actor = 0; kind = Kind.Runlock 0 } ∷
    record { actor = 0; kind = Kind.Detached 0 } ∷
    record { actor = 0; kind = Kind.Refused Cause.Outside } ∷ []

runs : run script ≡ history
runs = refl

legal : Legal script history
legal = (
  record { is_due = refl; rules = record { answers = refl; places = refl; frames = refl; sequences = refl; untold = refl; guarded = refl }; kept = refl },
  (
    record { is_due = refl; rules = record { answers = refl; places = refl; frames = refl; sequences = refl; untold = refl; guarded = refl }; kept = refl },
    (
      record { is_due = refl; rules = record { answers = refl; places = refl; frames = refl; sequences = refl; untold = refl; guarded = refl }; kept = refl },
      (
        record { is_due = refl; rules = record { answers = refl; places = refl; frames = refl; sequences = refl; untold = refl; guarded = refl }; kept = refl },
        (
          record { is_due = refl; rules = record { answers = refl; places = refl; frames = refl; sequences = refl; untold = refl; guarded = refl }; kept = refl },
          (
            record { is_due = refl; rules = record { answers = refl; places = refl; frames = refl; sequences = refl; untold = refl; guarded = refl }; kept = refl },
            (
              record { is_due = refl; rules = record { answers = refl; places = refl; frames = refl; sequences = refl; untold = refl; guarded = refl }; kept = refl },
              (
                record { is_due = refl; rules = record { answers = refl; places = refl; frames = refl; sequences = refl; untold = refl; guarded = refl }; kept = refl },
                (
                  record { is_due = refl; rules = record { answers = refl; places = refl; frames = refl; sequences = refl; untold = refl; guarded = refl }; kept = refl },
                  (
                    record { is_due = refl; rules = record { answers = refl; places = refl; frames = refl; sequences = refl; untold = refl; guarded = refl }; kept = refl },
                    (
                      record { is_due = refl; rules = record { answers = refl; places = refl; frames = refl; sequences = refl; untold = refl; guarded = refl }; kept = refl },
                      (
                        record { is_due = refl; rules = record { answers = refl; places = refl; frames = refl; sequences = refl; untold = refl; guarded = refl }; kept = refl },
                        (
                          record { is_due = refl; rules = record { answers = refl; places = refl; frames = refl; sequences = refl; untold = refl; guarded = refl }; kept = refl },
                          (
                            record { is_due = refl; rules = record { answers = refl; places = refl; frames = refl; sequences = refl; untold = refl; guarded = refl }; kept = refl },
                            (
                              record { is_due = refl; rules = record { answers = refl; places = refl; frames = refl; sequences = refl; untold = refl; guarded = refl }; kept = refl },
                              (
                                record { is_due = refl; rules = record { answers = refl; places = refl; frames = refl; sequences = refl; untold = refl; guarded = refl }; kept = refl },
                                (
                                  record { is_due = refl; rules = record { answers = refl; places = refl; frames = refl; sequences = refl; untold = refl; guarded = refl }; kept = refl },
                                  (
                                    record { is_due = refl; rules = record { answers = refl; places = refl; frames = refl; sequences = refl; untold = refl; guarded = refl }; kept = refl },
                                    (
                                      record { is_due = refl; rules = record { answers = refl; places = refl; frames = refl; sequences = refl; untold = refl; guarded = refl }; kept = refl },
                                      (
                                        record { is_due = refl; rules = record { answers = refl; places = refl; frames = refl; sequences = refl; untold = refl; guarded = refl }; kept = refl },
                                        (
                                          record { is_due = refl; rules = record { answers = refl; places = refl; frames = refl; sequences = refl; untold = refl; guarded = refl }; kept = refl },
                                          (
                                            record { is_due = refl; rules = record { answers = refl; places = refl; frames = refl; sequences = refl; untold = refl; guarded = refl }; kept = refl },
                                            tt,
                                          ),
                                        ),
                                      ),
                                    ),
                                  ),
                                ),
                              ),
                            ),
                          ),
                        ),
                      ),
                    ),
                  ),
                ),
              ),
            ),
          ),
        ),
      ),
    ),
  ),
)
