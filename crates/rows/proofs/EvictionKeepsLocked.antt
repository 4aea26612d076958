-- The worked script eviction_keeps_locked: its run, and that it is legal.
use Rattle.std.specs.Prelude.{◌≡◌, Some, true, false, List, [], ◌∷◌, ◌++◌, refl, take}
use Rattle.hm_base.specs.Program.{Program}
use Rattle.hm_base.specs.declared.ops.Version.{Version}
use Rattle.hm_base.specs.declared.ops.Rights.{Rights}
use Rattle.hm_base.specs.declared.ops.Op.{Op}
use Rattle.hm_base.specs.declared.ops.ScheduleLine.{ScheduleLine}
use Rattle.hm_base.specs.declared.Place.{Place}
use Rattle.hm_history.specs.declared.Who.{Who}
use Rattle.hm_history.specs.declared.TableRight.{TableRight}
use Rattle.hm_history.specs.declared.KeptAt.{KeptAt}
use Rattle.hm_history.specs.declared.KeptWhy.{KeptWhy}
use Rattle.hm_history.specs.declared.Kind.{Kind}
use Rattle.hm_history.specs.Memory.Words.{sys_frame, dev_frame}
use Rattle.hm_history.specs.declared.Entry.{Entry}
use Rattle.hm_history.specs.Kernel.Run.{run}
use Rattle.hm_history.specs.Memory.After.{after}
use Rattle.hm_history.specs.Memory.Plain.{mirror_owner}
use Rattle.hm_history.specs.Memory.Places.{places_accept}
use Rattle.hm_history.specs.Memory.Lookups.{narrows_guarded}
use Rattle.hm_history.specs.Kernel.Legal.{Legal, kept_rightly}
use Rattle.hm_history.specs.Kernel.Going.{state_of}

abbrev script : Program
script = record {
  version = Version.One;
  frames = 4;
  devices = 4 ∷ [];
  skip = 0;
  actors = (Op.Map 0 (record { first = 16; count = 1 }) Rights.ReadWrite ∷ Op.Attach 0 0 0 (record { first = 16; count = 1 }) ∷ Op.ToDevice 0 (record { first = 16; count = 1 }) ∷ []) ∷ (Op.Load 0 0x10000 1 ∷ []) ∷ (Op.Evict 0 ∷ []) ∷ (Op.Remove 0 ∷ []) ∷ [];
  schedule = ScheduleLine.Run 0 16 ∷ ScheduleLine.Run 1 6 ∷ ScheduleLine.Run 2 9 ∷ ScheduleLine.Run 3 9 ∷ ScheduleLine.Run 1 99 ∷ ScheduleLine.Run 3 9 ∷ [];
}

abbrev history : List Entry
history =
    record { actor = 0; kind = Kind.Wlock 0 } ∷
    record { actor = 0; kind = Kind.Mapped 0 (record { first = 16; count = 1 }) Rights.ReadWrite } ∷
    record { actor = 0; kind = Kind.Attached 0 0 0 (record { first = 16; count = 1 }) 1 } ∷
    record { actor = 0; kind = Kind.Rlock 0 } ∷
    record { actor = 0; kind = Kind.Start 0 (record { first = 16; count = 1 }) 3 } ∷
    record { actor = 0; kind = Kind.Told 0 (record { first = 16; count = 1 }) 3 } ∷
    record { actor = 0; kind = Kind.Fresh 0 16 } ∷
    record { actor = 0; kind = Kind.End 0 (record { first = 16; count = 1 }) 4 } ∷
    record { actor = 0; kind = Kind.Take (dev_frame 0 0) } ∷
    record { actor = 0; kind = Kind.Start 0 (record { first = 16; count = 1 }) 5 } ∷
    record { actor = 0; kind = Kind.Told 0 (record { first = 16; count = 1 }) 5 } ∷
    record { actor = 0; kind = Kind.Place 0 16 (Place.Own 0 0 true) } ∷
    record { actor = 0; kind = Kind.End 0 (record { first = 16; count = 1 }) 6 } ∷
    record { actor = 0; kind = Kind.Set 0 16 (Some (dev_frame 0 0)) TableRight.Write 13 } ∷
    record { actor = 0; kind = Kind.Done (dev_frame 0 0) } ∷
    record { actor = 0; kind = Kind.Migrated 1 } ∷
    record { actor = 1; kind = Kind.Rlock 0 } ∷
    record { actor = 1; kind = Kind.Start 0 (record { first = 16; count = 1 }) 7 } ∷
    record { actor = 1; kind = Kind.Told 0 (record { first = 16; count = 1 }) 7 } ∷
    record { actor = 1; kind = Kind.Place 0 16 (Place.Moving (dev_frame 0 0) true) } ∷
    record { actor = 1; kind = Kind.End 0 (record { first = 16; count = 1 }) 8 } ∷
    record { actor = 1; kind = Kind.Take (sys_frame 0) } ∷
    record { actor = 2; kind = Kind.Kept (KeptAt.Frame (dev_frame 0 0)) (KeptWhy.LockedBy 1) } ∷
    record { actor = 2; kind = Kind.Evicted 0 } ∷
    record { actor = 3; kind = Kind.Withdrawn 0 } ∷
    record { actor = 1; kind = Kind.Copied (dev_frame 0 0) (sys_frame 0) (Some 0) } ∷
    record { actor = 1; kind = Kind.Copied (dev_frame 0 0) (sys_frame 0) (Some 1) } ∷
    record { actor = 1; kind = Kind.Copied (dev_frame 0 0) (sys_frame 0) (Some 2) } ∷
    record { actor = 1; kind = Kind.Copied (dev_frame 0 0) (sys_frame 0) (Some 3) } ∷
    record { actor = 1; kind = Kind.Copied (dev_frame 0 0) (sys_frame 0) (Some 4) } ∷
    record { actor = 1; kind = Kind.Copied (dev_frame 0 0) (sys_frame 0) (Some 5) } ∷
    record { actor = 1; kind = Kind.Copied (dev_frame 0 0) (sys_frame 0) (Some 6) } ∷
    record { actor = 1; kind = Kind.Copied (dev_frame 0 0) (sys_frame 0) (Some 7) } ∷
    record { actor = 1; kind = Kind.Committed (dev_frame 0 0) (sys_frame 0) } ∷
    record { actor = 1; kind = Kind.Place 0 16 (Place.Sys 0 true) } ∷
    record { actor = 1; kind = Kind.Drop (dev_frame 0 0) } ∷
    record { actor = 1; kind = Kind.Done (sys_frame 0) } ∷
    record { actor = 1; kind = Kind.Runlock 0 } ∷
    record { actor = 1; kind = Kind.Loaded (Who.Cpu 0) 0x10000 (0 ∷ []) } ∷
    record { actor = 3; kind = Kind.Removed 0 } ∷ []

runs : run script ≡ history
runs = refl

legal : Legal script history
legal = (
  record { is_due = refl; rules = record { answers = refl; places = refl; frames = refl; sequences = refl; untold = refl; guarded = refl }; kept = refl },
  (
    record { is_due = refl; rules = record { answers = refl; places = refl; frames = refl; sequences = refl; untold = refl; guarded = refl }; kept = refl },
    (
      record { is_due = refl; rules = record { answers = refl; places = refl; frames = refl; sequences = refl; untold = refl; guarded = refl }; kept = refl },
      (
        record { is_due = refl; rules = record { answers = refl; places = refl; frames = refl; sequences = refl; untold = refl; guarded = refl }; kept = refl },
        (
          record { is_due = refl; rules = record { answers = refl; places = refl; frames = refl; sequences = refl; untold = refl; guarded = refl }; kept = refl },
          (
            record { is_due = refl; rules = record { answers = refl; places = refl; frames = refl; sequences = refl; untold = refl; guarded = refl }; kept = refl },
            (
              record { is_due = refl; rules = record { answers = refl; places = refl; frames = refl; sequences = refl; untold = refl; guarded = refl }; kept = refl },
              (
                record { is_due = refl; rules = record { answers = refl; places = refl; frames = refl; sequences = refl; untold = refl; guarded = refl }; kept = refl },
                (
                  record { is_due = refl; rules = record { answers = refl; places = refl; frames = refl; sequences = refl; untold = refl; guarded = refl }; kept = refl },
                  (
                    record { is_due = refl; rules = record { answers = refl; places = refl; frames = refl; sequences = refl; untold = refl; guarded = refl }; kept = refl },
                    (
                      record { is_due = refl; rules = record { answers = refl; places = refl; frames = refl; sequences = refl; untold = refl; guarded = refl }; kept = refl },
                      (
                        record { is_due = refl; rules = record { answers = refl; places = refl; frames = refl; sequences = refl; untold = refl; guarded = refl }; kept = refl },
                        (
                          record { is_due = refl; rules = record { answers = refl; places = refl; frames = refl; sequences = refl; untold = refl; guarded = refl }; kept = refl },
                          (
                            record { is_due = refl; rules = record { answers = refl; places = refl; frames = refl; sequences = refl; untold = refl; guarded = refl }; kept = refl },
                            (
                              record { is_due = refl; rules = record { answers = refl; places = refl; frames = refl; sequences = refl; untold = refl; guarded = refl }; kept = refl },
                              (
                                record { is_due = refl; rules = record { answers = refl; places = refl; frames = refl; sequences = refl; untold = refl; guarded = refl }; kept = refl },
                                (
                                  record { is_due = refl; rules = record { answers = refl; places = refl; frames = refl; sequences = refl; untold = refl; guarded = refl }; kept = refl },
                                  (
                                    record { is_due = refl; rules = record { answers = refl; places = refl; frames = refl; sequences = refl; untold = refl; guarded = refl }; kept = refl },
                                    (
                                      record { is_due = refl; rules = record { answers = refl; places = refl; frames = refl; sequences = refl; untold = refl; guarded = refl }; kept = refl },
                                      (
                                        record { is_due = refl; rules = record { answers = refl; places = refl; frames = refl; sequences = refl; untold = refl; guarded = refl }; kept = refl },
                                        (
                                          record { is_due = refl; rules = record { answers = refl; places = refl; frames = refl; sequences = refl; untold = refl; guarded = refl }; kept = refl },
                                          (
                                            record { is_due = refl; rules = record { answers = refl; places = refl; frames = refl; sequences = refl; untold = refl; guarded = refl }; kept = refl },
                                            (
                                              record { is_due = refl; rules = record { answers = refl; places = refl; frames = refl; sequences = refl; untold = refl; guarded = refl }; kept = refl },
                                              (
                                                record { is_due = refl; rules = record { answers = refl; places = refl; frames = refl; sequences = refl; untold = refl; guarded = refl }; kept = refl },
                                                (
                                                  record { is_due = refl; rules = record { answers = refl; places = refl; frames = refl; sequences = refl; untold = refl; guarded = refl }; kept = refl },
                                                  (
                                                    record { is_due = refl; rules = record { answers = refl; places = refl; frames = refl; sequences = refl; untold = refl; guarded = refl }; kept = refl },
                                                    (
                                                      record { is_due = refl; rules = record { answers = refl; places = refl; frames = refl; sequences = refl; untold = refl; guarded = refl }; kept = refl },
                                                      (
                                                        record { is_due = refl; rules = record { answers = refl; places = refl; frames = refl; sequences = refl; untold = refl; guarded = refl }; kept = refl },
                                                        (
                                                          record { is_due = refl; rules = record { answers = refl; places = refl; frames = refl; sequences = refl; untold = refl; guarded = refl }; kept = refl },
                                                          (
                                                            record { is_due = refl; rules = record { answers = refl; places = refl; frames = refl; sequences = refl; untold = refl; guarded = refl }; kept = refl },
                                                            (
                                                              record { is_due = refl; rules = record { answers = refl; places = refl; frames = refl; sequences = refl; untold = refl; guarded = refl }; kept = refl },
                                                              (
                                                                record { is_due = refl; rules = record { answers = refl; places = refl; frames = refl; sequences = refl; untold = refl; guarded = refl }; kept = refl },
                                                                (
                                                                  record { is_due = refl; rules = record { answers = refl; places = refl; frames = refl; sequences = refl; untold = refl; guarded = refl }; kept = refl },
                                                                  (
                                                                    record { is_due = refl; rules = record { answers = refl; places = refl; frames = refl; sequences = refl; untold = refl; guarded = refl }; kept = refl },
                                                                    (
                                                                      record { is_due = refl; rules = record { answers = refl; places = refl; frames = refl; sequences = refl; untold = refl; guarded = refl }; kept = refl },
                                                                      (
                                                                        record { is_due = refl; rules = record { answers = refl; places = refl; frames = refl; sequences = refl; untold = refl; guarded = refl }; kept = refl },
                                                                        (
                                                                          record { is_due = refl; rules = record { answers = refl; places = refl; frames = refl; sequences = refl; untold = refl; guarded = refl }; kept = refl },
                                                                          (
                                                                            record { is_due = refl; rules = record { answers = refl; places = refl; frames = refl; sequences = refl; untold = refl; guarded = refl }; kept = refl },
                                                                            (
                                                                              record { is_due = refl; rules = record { answers = refl; places = refl; frames = refl; sequences = refl; untold = refl; guarded = refl }; kept = refl },
                                                                              (
                                                                                record { is_due = refl; rules = record { answers = refl; places = refl; frames = refl; sequences = refl; untold = refl; guarded = refl }; kept = refl },
                                                                                tt,
                                                                              ),
                                                                            ),
                                                                          ),
                                                                        ),
                                                                      ),
                                                                    ),
                                                                  ),
                                                                ),
                                                              ),
                                                            ),
                                                          ),
                                                        ),
                                                      ),
                                                    ),
                                                  ),
                                                ),
                                              ),
                                            ),
                                          ),
                                        ),
                                      ),
                                    ),
                                  ),
                                ),
                              ),
                            ),
                          ),
                        ),
                      ),
                    ),
                  ),
                ),
              ),
            ),
          ),
        ),
      ),
    ),
  ),
)

-- kept 16 noframe, by actor 1
tried_1 : kept_rightly script (state_of script (take 22 history)) (record { actor = 1; kind = Kind.Kept (KeptAt.Page 16) KeptWhy.NoFrame }) ≡ false
tried_1 = refl

-- take s1, by actor 1
tried_2 : places_accept script (mirror_owner (after (take 21 history)).plain) (after (take 21 history)).places 1 (Kind.Take (sys_frame 1)) ≡ false
tried_2 = refl

-- take s0, by actor 1
tried_3 : places_accept script (mirror_owner (after (take 21 history)).plain) (after (take 21 history)).places 1 (Kind.Take (sys_frame 0)) ≡ true
tried_3 = refl

-- take d0.0, by actor 1
tried_4 : places_accept script (mirror_owner (after (take 21 history)).plain) (after (take 21 history)).places 1 (Kind.Take (dev_frame 0 0)) ≡ false
tried_4 = refl

-- kept d0.0 locked a2, by actor 2
tried_5 : kept_rightly script (state_of script (take 22 history)) (record { actor = 2; kind = Kind.Kept (KeptAt.Frame (dev_frame 0 0)) (KeptWhy.LockedBy 2) }) ≡ false
tried_5 = refl

-- kept d0.0 locked a0, by actor 2
tried_6 : kept_rightly script (state_of script (take 22 history)) (record { actor = 2; kind = Kind.Kept (KeptAt.Frame (dev_frame 0 0)) (KeptWhy.LockedBy 0) }) ≡ false
tried_6 = refl

-- kept d0.0 locked a1, by actor 2
tried_7 : kept_rightly script (state_of script (take 22 history)) (record { actor = 2; kind = Kind.Kept (KeptAt.Frame (dev_frame 0 0)) (KeptWhy.LockedBy 1) }) ≡ true
tried_7 = refl

-- kept d0.0 locked a1, by actor 1
tried_8 : kept_rightly script (state_of script (take 22 history)) (record { actor = 1; kind = Kind.Kept (KeptAt.Frame (dev_frame 0 0)) (KeptWhy.LockedBy 1) }) ≡ false
tried_8 = refl

-- place p0 16 sys s0 w, by actor 1
tried_9 : places_accept script (mirror_owner (after (take 20 history)).plain) (after (take 20 history)).places 1 (Kind.Place 0 16 (Place.Sys 0 true)) ≡ false
tried_9 = refl

-- drop d0.0, by actor 1
tried_10 : places_accept script (mirror_owner (after (take 33 history)).plain) (after (take 33 history)).places 1 (Kind.Drop (dev_frame 0 0)) ≡ false
tried_10 = refl

-- drop d0.0, by actor 1
tried_11 : places_accept script (mirror_owner (after (take 35 history)).plain) (after (take 35 history)).places 1 (Kind.Drop (dev_frame 0 0)) ≡ true
tried_11 = refl

-- drop s0, by actor 1
tried_12 : places_accept script (mirror_owner (after (take 35 history)).plain) (after (take 35 history)).places 1 (Kind.Drop (sys_frame 0)) ≡ false
tried_12 = refl

-- drop s1, by actor 1
tried_13 : places_accept script (mirror_owner (after (take 35 history)).plain) (after (take 35 history)).places 1 (Kind.Drop (sys_frame 1)) ≡ false
tried_13 = refl

-- removed d0, by actor 3
tried_14 : places_accept script (mirror_owner (after (take 24 history)).plain) (after (take 24 history)).places 3 (Kind.Removed 0) ≡ false
tried_14 = refl

-- removed d0, by actor 3
tried_15 : places_accept script (mirror_owner (after (take 39 history)).plain) (after (take 39 history)).places 3 (Kind.Removed 0) ≡ true
tried_15 = refl

-- take d0.0, by actor 3
tried_16 : places_accept script (mirror_owner (after (take 39 history)).plain) (after (take 39 history)).places 3 (Kind.Take (dev_frame 0 0)) ≡ false
tried_16 = refl

-- place p0 16 moving d0.0 w, by actor 1
tried_17 : narrows_guarded (after (take 17 history)).sequences (after (take 17 history)).places.place 1 (Kind.Place 0 16 (Place.Moving (dev_frame 0 0) true)) ≡ false
tried_17 = refl

-- place p0 16 moving d0.0 w, by actor 1
tried_18 : narrows_guarded (after (take 18 history)).sequences (after (take 18 history)).places.place 1 (Kind.Place 0 16 (Place.Moving (dev_frame 0 0) true)) ≡ false
tried_18 = refl

-- place p0 16 moving d0.0 w, by actor 1
tried_19 : narrows_guarded (after (take 19 history)).sequences (after (take 19 history)).places.place 1 (Kind.Place 0 16 (Place.Moving (dev_frame 0 0) true)) ≡ true
tried_19 = refl

-- place p0 16 moving d0.0 w, by actor 2
tried_20 : narrows_guarded (after (take 19 history)).sequences (after (take 19 history)).places.place 2 (Kind.Place 0 16 (Place.Moving (dev_frame 0 0) true)) ≡ false
tried_20 = refl

-- place p0 17 sys s0 w, by actor 1
tried_21 : narrows_guarded (after (take 19 history)).sequences (after (take 19 history)).places.place 1 (Kind.Place 0 17 (Place.Sys 0 true)) ≡ true
tried_21 = refl

-- place p0 16 none, by actor 1
tried_22 : narrows_guarded (after (take 33 history)).sequences (after (take 33 history)).places.place 1 (Kind.Place 0 16 Place.Empty) ≡ false
tried_22 = refl

-- place p0 16 sys s0 r, by actor 1
tried_23 : narrows_guarded (after (take 33 history)).sequences (after (take 33 history)).places.place 1 (Kind.Place 0 16 (Place.Sys 0 false)) ≡ false
tried_23 = refl

-- place p0 16 sys s0 w, by actor 1
tried_24 : narrows_guarded (after (take 33 history)).sequences (after (take 33 history)).places.place 1 (Kind.Place 0 16 (Place.Sys 0 true)) ≡ true
tried_24 = refl

-- place p1 16 sys s0 r, by actor 1
tried_25 : places_accept script (mirror_owner (after (take 34 history)).plain) (after (take 34 history)).places 1 (Kind.Place 1 16 (Place.Sys 0 false)) ≡ false
tried_25 = refl

-- place p0 16 sys s0 w, by actor 1
tried_26 : places_accept script (mirror_owner (after (take 34 history)).plain) (after (take 34 history)).places 1 (Kind.Place 0 16 (Place.Sys 0 true)) ≡ true
tried_26 = refl

-- committed d0.0 s0, by actor 1
tried_27 : places_accept script (mirror_owner (after (take 33 history ++ (record { actor = 1; kind = Kind.Place 1 16 (Place.Sys 0 false) } ∷ []))).plain) (after (take 33 history ++ (record { actor = 1; kind = Kind.Place 1 16 (Place.Sys 0 false) } ∷ []))).places 1 (Kind.Committed (dev_frame 0 0) (sys_frame 0)) ≡ false
tried_27 = refl

-- committed d0.0 s0, by actor 1
tried_28 : places_accept script (mirror_owner (after (take 33 history)).plain) (after (take 33 history)).places 1 (Kind.Committed (dev_frame 0 0) (sys_frame 0)) ≡ true
tried_28 = refl
