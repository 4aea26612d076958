-- The worked script fresh_page_and_own_walk: its run, and that it is legal.
use Rattle.std.specs.Prelude.{◌≡◌, Some, true, false, List, [], ◌∷◌, ◌++◌, refl, take}
use Rattle.hm_base.specs.Program.{Program}
use Rattle.hm_base.specs.declared.ops.Version.{Version}
use Rattle.hm_base.specs.declared.ops.Rights.{Rights}
use Rattle.hm_base.specs.declared.ops.Op.{Op}
use Rattle.hm_base.specs.declared.ops.ScheduleLine.{ScheduleLine}
use Rattle.hm_base.specs.declared.Place.{Place}
use Rattle.hm_history.specs.declared.Who.{Who}
use Rattle.hm_history.specs.declared.TableRight.{TableRight}
use Rattle.hm_history.specs.declared.KeptAt.{KeptAt}
use Rattle.hm_history.specs.declared.KeptWhy.{KeptWhy}
use Rattle.hm_history.specs.declared.Kind.{Kind}
use Rattle.hm_history.specs.Memory.Words.{sys_frame, dev_frame}
use Rattle.hm_history.specs.declared.Entry.{Entry}
use Rattle.hm_history.specs.Kernel.Run.{run}
use Rattle.hm_history.specs.Memory.Lookups.{uses_untold}
use Rattle.hm_history.specs.Kernel.Legal.{Legal, kept_rightly}
use Rattle.hm_history.specs.Kernel.Going.{state_of}

abbrev script : Program
script = record {
  version = Version.One;
  frames = 4;
  devices = 4 ∷ [];
  skip = 0;
  actors = (Op.Map 0 (record { first = 16; count = 1 }) Rights.ReadWrite ∷ Op.Attach 0 0 0 (record { first = 16; count = 1 }) ∷ Op.ToDevice 0 (record { first = 16; count = 1 }) ∷ Op.Attach 1 0 0 (record { first = 16; count = 1 }) ∷ Op.DeviceLoad 1 0x10000 1 ∷ []) ∷ [];
  schedule = ScheduleLine.Run 0 99 ∷ [];
}

abbrev history : List Entry
history =
    record { actor = 0; kind = Kind.Wlock 0 } ∷
    record { actor = 0; kind = Kind.Mapped 0 (record { first = 16; count = 1 }) Rights.ReadWrite } ∷
    record { actor = 0; kind = Kind.Attached 0 0 0 (record { first = 16; count = 1 }) 1 } ∷
    record { actor = 0; kind = Kind.Rlock 0 } ∷
    record { actor = 0; kind = Kind.Start 0 (record { first = 16; count = 1 }) 3 } ∷
    record { actor = 0; kind = Kind.Told 0 (record { first = 16; count = 1 }) 3 } ∷
    record { actor = 0; kind = Kind.Fresh 0 16 } ∷
    record { actor = 0; kind = Kind.End 0 (record { first = 16; count = 1 }) 4 } ∷
    record { actor = 0; kind = Kind.Take (dev_frame 0 0) } ∷
    record { actor = 0; kind = Kind.Start 0 (record { first = 16; count = 1 }) 5 } ∷
    record { actor = 0; kind = Kind.Told 0 (record { first = 16; count = 1 }) 5 } ∷
    record { actor = 0; kind = Kind.Place 0 16 (Place.Own 0 0 true) } ∷
    record { actor = 0; kind = Kind.End 0 (record { first = 16; count = 1 }) 6 } ∷
    record { actor = 0; kind = Kind.Set 0 16 (Some (dev_frame 0 0)) TableRight.Write 13 } ∷
    record { actor = 0; kind = Kind.Done (dev_frame 0 0) } ∷
    record { actor = 0; kind = Kind.Migrated 1 } ∷
    record { actor = 0; kind = Kind.Attached 1 0 0 (record { first = 16; count = 1 }) 5 } ∷
    record { actor = 0; kind = Kind.Begin 1 5 } ∷
    record { actor = 0; kind = Kind.Rlock 0 } ∷
    record { actor = 0; kind = Kind.Runlock 0 } ∷
    record { actor = 0; kind = Kind.Set 1 16 (Some (dev_frame 0 0)) TableRight.Write 17 } ∷
    record { actor = 0; kind = Kind.Loaded (Who.Mirror 1) 0x10000 (0 ∷ []) } ∷ []

runs : run script ≡ history
runs = refl

legal : Legal script history
legal = (
  record { is_due = refl; rules = record { answers = refl; places = refl; frames = refl; sequences = refl; untold = refl; guarded = refl }; kept = refl },
  (
    record { is_due = refl; rules = record { answers = refl; places = refl; frames = refl; sequences = refl; untold = refl; guarded = refl }; kept = refl },
    (
      record { is_due = refl; rules = record { answers = refl; places = refl; frames = refl; sequences = refl; untold = refl; guarded = refl }; kept = refl },
      (
        record { is_due = refl; rules = record { answers = refl; places = refl; frames = refl; sequences = refl; untold = refl; guarded = refl }; kept = refl },
        (
          record { is_due = refl; rules = record { answers = refl; places = refl; frames = refl; sequences = refl; untold = refl; guarded = refl }; kept = refl },
          (
            record { is_due = refl; rules = record { answers = refl; places = refl; frames = refl; sequences = refl; untold = refl; guarded = refl }; kept = refl },
            (
              record { is_due = refl; rules = record { answers = refl; places = refl; frames = refl; sequences = refl; untold = refl; guarded = refl }; kept = refl },
              (
                record { is_due = refl; rules = record { answers = refl; places = refl; frames = refl; sequences = refl; untold = refl; guarded = refl }; kept = refl },
                (
                  record { is_due = refl; rules = record { answers = refl; places = refl; frames = refl; sequences = refl; untold = refl; guarded = refl }; kept = refl },
                  (
                    record { is_due = refl; rules = record { answers = refl; places = refl; frames = refl; sequences = refl; untold = refl; guarded = refl }; kept = refl },
                    (
                      record { is_due = refl; rules = record { answers = refl; places = refl; frames = refl; sequences = refl; untold = refl; guarded = refl }; kept = refl },
                      (
                        record { is_due = refl; rules = record { answers = refl; places = refl; frames = refl; sequences = refl; untold = refl; guarded = refl }; kept = refl },
                        (
                          record { is_due = refl; rules = record { answers = refl; places = refl; frames = refl; sequences = refl; untold = refl; guarded = refl }; kept = refl },
                          (
                            record { is_due = refl; rules = record { answers = refl; places = refl; frames = refl; sequences = refl; untold = refl; guarded = refl }; kept = refl },
                            (
                              record { is_due = refl; rules = record { answers = refl; places = refl; frames = refl; sequences = refl; untold = refl; guarded = refl }; kept = refl },
                              (
                                record { is_due = refl; rules = record { answers = refl; places = refl; frames = refl; sequences = refl; untold = refl; guarded = refl }; kept = refl },
                                (
                                  record { is_due = refl; rules = record { answers = refl; places = refl; frames = refl; sequences = refl; untold = refl; guarded = refl }; kept = refl },
                                  (
                                    record { is_due = refl; rules = record { answers = refl; places = refl; frames = refl; sequences = refl; untold = refl; guarded = refl }; kept = refl },
                                    (
                                      record { is_due = refl; rules = record { answers = refl; places = refl; frames = refl; sequences = refl; untold = refl; guarded = refl }; kept = refl },
                                      (
                                        record { is_due = refl; rules = record { answers = refl; places = refl; frames = refl; sequences = refl; untold = refl; guarded = refl }; kept = refl },
                                        (
                                          record { is_due = refl; rules = record { answers = refl; places = refl; frames = refl; sequences = refl; untold = refl; guarded = refl }; kept = refl },
                                          (
                                            record { is_due = refl; rules = record { answers = refl; places = refl; frames = refl; sequences = refl; untold = refl; guarded = refl }; kept = refl },
                                            tt,
                                          ),
                                        ),
                                      ),
                                    ),
                                  ),
                                ),
                              ),
                            ),
                          ),
                        ),
                      ),
                    ),
                  ),
                ),
              ),
            ),
          ),
        ),
      ),
    ),
  ),
)

-- loaded m1 0x10000 00, by actor 0
tried_1 : uses_untold (take 21 history) (Kind.Loaded (Who.Mirror 1) 0x10000 (0 ∷ [])) ≡ true
tried_1 = refl

-- loaded m1 0x10000 00, by actor 0
tried_2 : uses_untold (take 20 history ++ (record { actor = 0; kind = Kind.Set 1 16 (Some (dev_frame 0 0)) TableRight.Write 16 } ∷ [])) (Kind.Loaded (Who.Mirror 1) 0x10000 (0 ∷ [])) ≡ false
tried_2 = refl

-- loaded m1 0x10000 00, by actor 0
tried_3 : uses_untold (take 20 history ++ (record { actor = 0; kind = Kind.Set 1 16 (Some (dev_frame 0 0)) TableRight.Write 20 } ∷ [])) (Kind.Loaded (Who.Mirror 1) 0x10000 (0 ∷ [])) ≡ true
tried_3 = refl

-- loaded m1 0x10000 00, by actor 0
tried_4 : uses_untold (take 19 history ++ (record { actor = 1; kind = Kind.Told 1 (record { first = 16; count = 1 }) 5 } ∷ record { actor = 0; kind = Kind.Set 1 16 (Some (dev_frame 0 0)) TableRight.Write 17 } ∷ [])) (Kind.Loaded (Who.Mirror 1) 0x10000 (0 ∷ [])) ≡ false
tried_4 = refl

-- loaded m1 0x10000 00, by actor 0
tried_5 : uses_untold (take 20 history ++ (record { actor = 1; kind = Kind.Set 1 16 (Some (dev_frame 0 0)) TableRight.Write 17 } ∷ [])) (Kind.Loaded (Who.Mirror 1) 0x10000 (0 ∷ [])) ≡ false
tried_5 = refl

-- loaded m1 0x10000 00, by actor 0
tried_6 : uses_untold (take 20 history) (Kind.Loaded (Who.Mirror 1) 0x10000 (0 ∷ [])) ≡ false
tried_6 = refl

-- kept 16 nothere, by actor 0
tried_7 : kept_rightly script (state_of script (take 6 history)) (record { actor = 0; kind = Kind.Kept (KeptAt.Page 16) KeptWhy.NotHere }) ≡ false
tried_7 = refl

-- kept 16 skipped, by actor 0
tried_8 : kept_rightly script (state_of script (take 8 history)) (record { actor = 0; kind = Kind.Kept (KeptAt.Page 16) KeptWhy.Skipped }) ≡ false
tried_8 = refl

-- kept 16 lost, by actor 0
tried_9 : kept_rightly script (state_of script (take 8 history)) (record { actor = 0; kind = Kind.Kept (KeptAt.Page 16) KeptWhy.Lost }) ≡ false
tried_9 = refl

-- kept 16 noframe, by actor 0
tried_10 : kept_rightly script (state_of script (take 8 history)) (record { actor = 0; kind = Kind.Kept (KeptAt.Page 16) KeptWhy.NoFrame }) ≡ false
tried_10 = refl

-- kept 16 lost, by actor 0
tried_11 : kept_rightly script (state_of script (take 8 history ++ (record { actor = 1; kind = Kind.Place 0 16 Place.Zero } ∷ record { actor = 1; kind = Kind.Take (sys_frame 0) } ∷ record { actor = 1; kind = Kind.Place 0 16 (Place.Sys 0 true) } ∷ []))) (record { actor = 0; kind = Kind.Kept (KeptAt.Page 16) KeptWhy.Lost }) ≡ true
tried_11 = refl
