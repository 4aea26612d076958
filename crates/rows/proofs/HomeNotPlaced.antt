-- The worked script home_not_placed: its run, and that it is legal.
use Rattle.std.specs.Prelude.{◌≡◌, Some, true, List, [], ◌∷◌, refl}
use Rattle.hm_base.specs.Program.{Program}
use Rattle.hm_base.specs.declared.ops.Version.{Version}
use Rattle.hm_base.specs.declared.ops.Rights.{Rights}
use Rattle.hm_base.specs.declared.ops.Op.{Op}
use Rattle.hm_base.specs.declared.ops.ScheduleLine.{ScheduleLine}
use Rattle.hm_base.specs.declared.Place.{Place}
use Rattle.hm_history.specs.declared.Who.{Who}
use Rattle.hm_history.specs.declared.TableRight.{TableRight}
use Rattle.hm_history.specs.declared.Kind.{Kind}
use Rattle.hm_history.specs.Memory.Words.{sys_frame, dev_frame}
use Rattle.hm_history.specs.declared.Entry.{Entry}
use Rattle.hm_history.specs.Kernel.Run.{run}
use Rattle.hm_history.specs.Kernel.Legal.{Legal}

abbrev script : Program
script = record {
  version = Version.One;
  frames = 4;
  devices = 4 ∷ [];
  skip = 0;
  actors = (Op.Map 0 (record { first = 16; count = 1 }) Rights.ReadWrite ∷ Op.Attach 0 0 0 (record { first = 16; count = 1 }) ∷ Op.ToDevice 0 (record { first = 16; count = 1 }) ∷ []) ∷ (Op.Load 0 0x10000 1 ∷ []) ∷ (Op.Load 0 0x10000 1 ∷ []) ∷ [];
  schedule = ScheduleLine.Run 0 16 ∷ ScheduleLine.Run 1 3 ∷ ScheduleLine.Run 2 99 ∷ ScheduleLine.Run 1 99 ∷ [];
}

abbrev history : List Entry
history =
    record { actor = 0; kind = Kind.Wlock 0 } ∷
    record { actor = 0; kind = Kind.Mapped 0 (record { first = 16; count = 1 }) Rights.ReadWrite } ∷
    record { actor = 0; kind = Kind.Attached 0 0 0 (record { first = 16; count = 1 }) 1 } ∷
    record { actor = 0; kind = Kind.Rlock 0 } ∷
    record { actor = 0; kind = Kind.Start 0 (record { first = 16; count = 1 }) 3 } ∷
    record { actor = 0; kind = Kind.Told 0 (record { first = 16; count = 1 }) 3 } ∷
    record { actor = 0; kind = Kind.Fresh 0 16 } ∷
    record { actor = 0; kind = Kind.End 0 (record { first = 16; count = 1 }) 4 } ∷
    record { actor = 0; kind = Kind.Take (dev_frame 0 0) } ∷
    record { actor = 0; kind = Kind.Start 0 (record { first = 16; count = 1 }) 5 } ∷
    record { actor = 0; kind = Kind.Told 0 (record { first = 16; count = 1 }) 5 } ∷
    record { actor = 0; kind = Kind.Place 0 16 (Place.Own 0 0 true) } ∷
    record { actor = 0; kind = Kind.End 0 (record { first = 16; count = 1 }) 6 } ∷
    record { actor = 0; kind = Kind.Set 0 16 (Some (dev_frame 0 0)) TableRight.Write 13 } ∷
    record { actor = 0; kind = Kind.Done (dev_frame 0 0) } ∷
    record { actor = 0; kind = Kind.Migrated 1 } ∷
    record { actor = 1; kind = Kind.Rlock 0 } ∷
    record { actor = 1; kind = Kind.Start 0 (record { first = 16; count = 1 }) 7 } ∷
    record { actor = 1; kind = Kind.Told 0 (record { first = 16; count = 1 }) 7 } ∷
    record { actor = 2; kind = Kind.Rlock 0 } ∷
    record { actor = 2; kind = Kind.Start 0 (record { first = 16; count = 1 }) 7 } ∷
    record { actor = 2; kind = Kind.Told 0 (record { first = 16; count = 1 }) 7 } ∷
    record { actor = 2; kind = Kind.Place 0 16 (Place.Moving (dev_frame 0 0) true) } ∷
    record { actor = 2; kind = Kind.End 0 (record { first = 16; count = 1 }) 7 } ∷
    record { actor = 2; kind = Kind.Take (sys_frame 0) } ∷
    record { actor = 2; kind = Kind.Copied (dev_frame 0 0) (sys_frame 0) (Some 0) } ∷
    record { actor = 2; kind = Kind.Copied (dev_frame 0 0) (sys_frame 0) (Some 1) } ∷
    record { actor = 2; kind = Kind.Copied (dev_frame 0 0) (sys_frame 0) (Some 2) } ∷
    record { actor = 2; kind = Kind.Copied (dev_frame 0 0) (sys_frame 0) (Some 3) } ∷
    record { actor = 2; kind = Kind.Copied (dev_frame 0 0) (sys_frame 0) (Some 4) } ∷
    record { actor = 2; kind = Kind.Copied (dev_frame 0 0) (sys_frame 0) (Some 5) } ∷
    record { actor = 2; kind = Kind.Copied (dev_frame 0 0) (sys_frame 0) (Some 6) } ∷
    record { actor = 2; kind = Kind.Copied (dev_frame 0 0) (sys_frame 0) (Some 7) } ∷
    record { actor = 2; kind = Kind.Committed (dev_frame 0 0) (sys_frame 0) } ∷
    record { actor = 2; kind = Kind.Place 0 16 (Place.Sys 0 true) } ∷
    record { actor = 2; kind = Kind.Drop (dev_frame 0 0) } ∷
    record { actor = 2; kind = Kind.Done (sys_frame 0) } ∷
    record { actor = 2; kind = Kind.Runlock 0 } ∷
    record { actor = 2; kind = Kind.Loaded (Who.Cpu 0) 0x10000 (0 ∷ []) } ∷
    record { actor = 1; kind = Kind.End 0 (record { first = 16; count = 1 }) 8 } ∷
    record { actor = 1; kind = Kind.Runlock 0 } ∷
    record { actor = 1; kind = Kind.Loaded (Who.Cpu 0) 0x10000 (0 ∷ []) } ∷ []

runs : run script ≡ history
runs = refl

legal : Legal script history
legal = (
  record { is_due = refl; rules = record { answers = refl; places = refl; frames = refl; sequences = refl; untold = refl; guarded = refl }; kept = refl },
  (
    record { is_due = refl; rules = record { answers = refl; places = refl; frames = refl; sequences = refl; untold = refl; guarded = refl }; kept = refl },
    (
      record { is_due = refl; rules = record { answers = refl; places = refl; frames = refl; sequences = refl; untold = refl; guarded = refl }; kept = refl },
      (
        record { is_due = refl; rules = record { answers = refl; places = refl; frames = refl; sequences = refl; untold = refl; guarded = refl }; kept = refl },
        (
          record { is_due = refl; rules = record { answers = refl; places = refl; frames = refl; sequences = refl; untold = refl; guarded = refl }; kept = refl },
          (
            record { is_due = refl; rules = record { answers = refl; places = refl; frames = refl; sequences = refl; untold = refl; guarded = refl }; kept = refl },
            (
              record { is_due = refl; rules = record { answers = refl; places = refl; frames = refl; sequences = refl; untold = refl; guarded = refl }; kept = refl },
              (
                record { is_due = refl; rules = record { answers = refl; places = refl; frames = refl; sequences = refl; untold = refl; guarded = refl }; kept = refl },
                (
                  record { is_due = refl; rules = record { answers = refl; places = refl; frames = refl; sequences = refl; untold = refl; guarded = refl }; kept = refl },
                  (
                    record { is_due = refl; rules = record { answers = refl; places = refl; frames = refl; sequences = refl; untold = refl; guarded = refl }; kept = refl },
                    (
                      record { is_due = refl; rules = record { answers = refl; places = refl; frames = refl; sequences = refl; untold = refl; guarded = refl }; kept = refl },
                      (
                        record { is_due = refl; rules = record { answers = refl; places = refl; frames = refl; sequences = refl; untold = refl; guarded = refl }; kept = refl },
                        (
                          record { is_due = refl; rules = record { answers = refl; places = refl; frames = refl; sequences = refl; untold = refl; guarded = refl }; kept = refl },
                          (
                            record { is_due = refl; rules = record { answers = refl; places = refl; frames = refl; sequences = refl; untold = refl; guarded = refl }; kept = refl },
                            (
                              record { is_due = refl; rules = record { answers = refl; places = refl; frames = refl; sequences = refl; untold = refl; guarded = refl }; kept = refl },
                              (
                                record { is_due = refl; rules = record { answers = refl; places = refl; frames = refl; sequences = refl; untold = refl; guarded = refl }; kept = refl },
                                (
                                  record { is_due = refl; rules = record { answers = refl; places = refl; frames = refl; sequences = refl; untold = refl; guarded = refl }; kept = refl },
                                  (
                                    record { is_due = refl; rules = record { answers = refl; places = refl; frames = refl; sequences = refl; untold = refl; guarded = refl }; kept = refl },
                                    (
                                      record { is_due = refl; rules = record { answers = refl; places = refl; frames = refl; sequences = refl; untold = refl; guarded = refl }; kept = refl },
                                      (
                                        record { is_due = refl; rules = record { answers = refl; places = refl; frames = refl; sequences = refl; untold = refl; guarded = refl }; kept = refl },
                                        (
                                          record { is_due = refl; rules = record { answers = refl; places = refl; frames = refl; sequences = refl; untold = refl; guarded = refl }; kept = refl },
                                          (
                                            record { is_due = refl; rules = record { answers = refl; places = refl; frames = refl; sequences = refl; untold = refl; guarded = refl }; kept = refl },
                                            (
                                              record { is_due = refl; rules = record { answers = refl; places = refl; frames = refl; sequences = refl; untold = refl; guarded = refl }; kept = refl },
                                              (
                                                record { is_due = refl; rules = record { answers = refl; places = refl; frames = refl; sequences = refl; untold = refl; guarded = refl }; kept = refl },
                                                (
                                                  record { is_due = refl; rules = record { answers = refl; places = refl; frames = refl; sequences = refl; untold = refl; guarded = refl }; kept = refl },
                                                  (
                                                    record { is_due = refl; rules = record { answers = refl; places = refl; frames = refl; sequences = refl; untold = refl; guarded = refl }; kept = refl },
                                                    (
                                                      record { is_due = refl; rules = record { answers = refl; places = refl; frames = refl; sequences = refl; untold = refl; guarded = refl }; kept = refl },
                                                      (
                                                        record { is_due = refl; rules = record { answers = refl; places = refl; frames = refl; sequences = refl; untold = refl; guarded = refl }; kept = refl },
                                                        (
                                                          record { is_due = refl; rules = record { answers = refl; places = refl; frames = refl; sequences = refl; untold = refl; guarded = refl }; kept = refl },
                                                          (
                                                            record { is_due = refl; rules = record { answers = refl; places = refl; frames = refl; sequences = refl; untold = refl; guarded = refl }; kept = refl },
                                                            (
                                                              record { is_due = refl; rules = record { answers = refl; places = refl; frames = refl; sequences = refl; untold = refl; guarded = refl }; kept = refl },
                                                              (
                                                                record { is_due = refl; rules = record { answers = refl; places = refl; frames = refl; sequences = refl; untold = refl; guarded = refl }; kept = refl },
                                                                (
                                                                  record { is_due = refl; rules = record { answers = refl; places = refl; frames = refl; sequences = refl; untold = refl; guarded = refl }; kept = refl },
                                                                  (
                                                                    record { is_due = refl; rules = record { answers = refl; places = refl; frames = refl; sequences = refl; untold = refl; guarded = refl }; kept = refl },
                                                                    (
                                                                      record { is_due = refl; rules = record { answers = refl; places = refl; frames = refl; sequences = refl; untold = refl; guarded = refl }; kept = refl },
                                                                      (
                                                                        record { is_due = refl; rules = record { answers = refl; places = refl; frames = refl; sequences = refl; untold = refl; guarded = refl }; kept = refl },
                                                                        (
                                                                          record { is_due = refl; rules = record { answers = refl; places = refl; frames = refl; sequences = refl; untold = refl; guarded = refl }; kept = refl },
                                                                          (
                                                                            record { is_due = refl; rules = record { answers = refl; places = refl; frames = refl; sequences = refl; untold = refl; guarded = refl }; kept = refl },
                                                                            (
                                                                              record { is_due = refl; rules = record { answers = refl; places = refl; frames = refl; sequences = refl; untold = refl; guarded = refl }; kept = refl },
                                                                              (
                                                                                record { is_due = refl; rules = record { answers = refl; places = refl; frames = refl; sequences = refl; untold = refl; guarded = refl }; kept = refl },
                                                                                (
                                                                                  record { is_due = refl; rules = record { answers = refl; places = refl; frames = refl; sequences = refl; untold = refl; guarded = refl }; kept = refl },
                                                                                  (
                                                                                    record { is_due = refl; rules = record { answers = refl; places = refl; frames = refl; sequences = refl; untold = refl; guarded = refl }; kept = refl },
                                                                                    tt,
                                                                                  ),
                                                                                ),
                                                                              ),
                                                                            ),
                                                                          ),
                                                                        ),
                                                                      ),
                                                                    ),
                                                                  ),
                                                                ),
                                                              ),
                                                            ),
                                                          ),
                                                        ),
                                                      ),
                                                    ),
                                                  ),
                                                ),
                                              ),
                                            ),
                                          ),
                                        ),
                                      ),
                                    ),
                                  ),
                                ),
                              ),
                            ),
                          ),
                        ),
                      ),
                    ),
                  ),
                ),
              ),
            ),
          ),
        ),
      ),
    ),
  ),
)
