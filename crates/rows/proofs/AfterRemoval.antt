-- The worked script after_removal: its run, and that it is legal.
use Rattle.std.specs.Prelude.{◌≡◌, Some, true, List, [], ◌∷◌, refl}
use Rattle.hm_base.specs.Program.{Program}
use Rattle.hm_base.specs.declared.ops.Version.{Version}
use Rattle.hm_base.specs.declared.ops.Rights.{Rights}
use Rattle.hm_base.specs.declared.ops.Op.{Op}
use Rattle.hm_base.specs.declared.ops.ScheduleLine.{ScheduleLine}
use Rattle.hm_base.specs.declared.Place.{Place}
use Rattle.hm_history.specs.declared.Who.{Who}
use Rattle.hm_history.specs.declared.TableRight.{TableRight}
use Rattle.hm_history.specs.declared.KeptAt.{KeptAt}
use Rattle.hm_history.specs.declared.KeptWhy.{KeptWhy}
use Rattle.hm_history.specs.declared.Kind.{Kind}
use Rattle.hm_history.specs.Memory.Words.{sys_frame}
use Rattle.hm_history.specs.declared.Entry.{Entry}
use Rattle.hm_history.specs.Kernel.Run.{run}
use Rattle.hm_history.specs.Kernel.Legal.{Legal}

abbrev script : Program
script = record {
  version = Version.One;
  frames = 4;
  devices = 4 ∷ [];
  skip = 0;
  actors = (Op.Map 0 (record { first = 16; count = 1 }) Rights.ReadWrite ∷ Op.Store 0 0x10000 (65 ∷ []) ∷ Op.Attach 0 0 0 (record { first = 16; count = 1 }) ∷ Op.Remove 0 ∷ Op.ToDevice 0 (record { first = 16; count = 1 }) ∷ Op.DeviceLoad 0 0x10000 1 ∷ []) ∷ [];
  schedule = ScheduleLine.Run 0 99 ∷ [];
}

abbrev history : List Entry
history =
    record { actor = 0; kind = Kind.Wlock 0 } ∷
    record { actor = 0; kind = Kind.Mapped 0 (record { first = 16; count = 1 }) Rights.ReadWrite } ∷
    record { actor = 0; kind = Kind.Rlock 0 } ∷
    record { actor = 0; kind = Kind.Take (sys_frame 0) } ∷
    record { actor = 0; kind = Kind.Place 0 16 (Place.Sys 0 true) } ∷
    record { actor = 0; kind = Kind.Runlock 0 } ∷
    record { actor = 0; kind = Kind.Stored (Who.Cpu 0) 0x10000 (65 ∷ []) } ∷
    record { actor = 0; kind = Kind.Attached 0 0 0 (record { first = 16; count = 1 }) 1 } ∷
    record { actor = 0; kind = Kind.Withdrawn 0 } ∷
    record { actor = 0; kind = Kind.Removed 0 } ∷
    record { actor = 0; kind = Kind.Rlock 0 } ∷
    record { actor = 0; kind = Kind.Start 0 (record { first = 16; count = 1 }) 3 } ∷
    record { actor = 0; kind = Kind.Told 0 (record { first = 16; count = 1 }) 3 } ∷
    record { actor = 0; kind = Kind.Place 0 16 (Place.Moving (sys_frame 0) true) } ∷
    record { actor = 0; kind = Kind.End 0 (record { first = 16; count = 1 }) 4 } ∷
    record { actor = 0; kind = Kind.Kept (KeptAt.Page 16) KeptWhy.NoFrame } ∷
    record { actor = 0; kind = Kind.Place 0 16 (Place.Sys 0 true) } ∷
    record { actor = 0; kind = Kind.Done (sys_frame 0) } ∷
    record { actor = 0; kind = Kind.Migrated 0 } ∷
    record { actor = 0; kind = Kind.Begin 0 3 } ∷
    record { actor = 0; kind = Kind.Rlock 0 } ∷
    record { actor = 0; kind = Kind.Runlock 0 } ∷
    record { actor = 0; kind = Kind.Set 0 16 (Some (sys_frame 0)) TableRight.Write 19 } ∷
    record { actor = 0; kind = Kind.Loaded (Who.Mirror 0) 0x10000 (65 ∷ []) } ∷ []

runs : run script ≡ history
runs = refl

legal : Legal script history
legal = (
  record { is_due = refl; rules = record { answers = refl; places = refl; frames = refl; sequences = refl; untold = refl; guarded = refl }; kept = refl },
  (
    record { is_due = refl; rules = record { answers = refl; places = refl; frames = refl; sequences = refl; untold = refl; guarded = refl }; kept = refl },
    (
      record { is_due = refl; rules = record { answers = refl; places = refl; frames = refl; sequences = refl; untold = refl; guarded = refl }; kept = refl },
      (
        record { is_due = refl; rules = record { answers = refl; places = refl; frames = refl; sequences = refl; untold = refl; guarded = refl }; kept = refl },
        (
          record { is_due = refl; rules = record { answers = refl; places = refl; frames = refl; sequences = refl; untold = refl; guarded = refl }; kept = refl },
          (
            record { is_due = refl; rules = record { answers = refl; places = refl; frames = refl; sequences = refl; untold = refl; guarded = refl }; kept = refl },
            (
              record { is_due = refl; rules = record { answers = refl; places = refl; frames = refl; sequences = refl; untold = refl; guarded = refl }; kept = refl },
              (
                record { is_due = refl; rules = record { answers = refl; places = refl; frames = refl; sequences = refl; untold = refl; guarded = refl }; kept = refl },
                (
                  record { is_due = refl; rules = record { answers = refl; places = refl; frames = refl; sequences = refl; untold = refl; guarded = refl }; kept = refl },
                  (
                    record { is_due = refl; rules = record { answers = refl; places = refl; frames = refl; sequences = refl; untold = refl; guarded = refl }; kept = refl },
                    (
                      record { is_due = refl; rules = record { answers = refl; places = refl; frames = refl; sequences = refl; untold = refl; guarded = refl }; kept = refl },
                      (
                        record { is_due = refl; rules = record { answers = refl; places = refl; frames = refl; sequences = refl; untold = refl; guarded = refl }; kept = refl },
                        (
                          record { is_due = refl; rules = record { answers = refl; places = refl; frames = refl; sequences = refl; untold = refl; guarded = refl }; kept = refl },
                          (
                            record { is_due = refl; rules = record { answers = refl; places = refl; frames = refl; sequences = refl; untold = refl; guarded = refl }; kept = refl },
                            (
                              record { is_due = refl; rules = record { answers = refl; places = refl; frames = refl; sequences = refl; untold = refl; guarded = refl }; kept = refl },
                              (
                                record { is_due = refl; rules = record { answers = refl; places = refl; frames = refl; sequences = refl; untold = refl; guarded = refl }; kept = refl },
                                (
                                  record { is_due = refl; rules = record { answers = refl; places = refl; frames = refl; sequences = refl; untold = refl; guarded = refl }; kept = refl },
                                  (
                                    record { is_due = refl; rules = record { answers = refl; places = refl; frames = refl; sequences = refl; untold = refl; guarded = refl }; kept = refl },
                                    (
                                      record { is_due = refl; rules = record { answers = refl; places = refl; frames = refl; sequences = refl; untold = refl; guarded = refl }; kept = refl },
                                      (
                                        record { is_due = refl; rules = record { answers = refl; places = refl; frames = refl; sequences = refl; untold = refl; guarded = refl }; kept = refl },
                                        (
                                          record { is_due = refl; rules = record { answers = refl; places = refl; frames = refl; sequences = refl; untold = refl; guarded = refl }; kept = refl },
                                          (
                                            record { is_due = refl; rules = record { answers = refl; places = refl; frames = refl; sequences = refl; untold = refl; guarded = refl }; kept = refl },
                                            (
                                              record { is_due = refl; rules = record { answers = refl; places = refl; frames = refl; sequences = refl; untold = refl; guarded = refl }; kept = refl },
                                              (
                                                record { is_due = refl; rules = record { answers = refl; places = refl; frames = refl; sequences = refl; untold = refl; guarded = refl }; kept = refl },
                                                tt,
                                              ),
                                            ),
                                          ),
                                        ),
                                      ),
                                    ),
                                  ),
                                ),
                              ),
                            ),
                          ),
                        ),
                      ),
                    ),
                  ),
                ),
              ),
            ),
          ),
        ),
      ),
    ),
  ),
)
