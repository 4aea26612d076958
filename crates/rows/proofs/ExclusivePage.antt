-- The worked script exclusive_page: its run, and that it is legal.
use Rattle.std.specs.Prelude.{◌≡◌, Some, true, false, List, [], ◌∷◌, ◌++◌, refl, take}
use Rattle.hm_base.specs.Program.{Program}
use Rattle.hm_base.specs.declared.ops.Version.{Version}
use Rattle.hm_base.specs.declared.ops.Rights.{Rights}
use Rattle.hm_base.specs.declared.ops.Op.{Op}
use Rattle.hm_base.specs.declared.ops.ScheduleLine.{ScheduleLine}
use Rattle.hm_base.specs.declared.Place.{Place}
use Rattle.hm_base.specs.declared.cause.Cause.{Cause}
use Rattle.hm_history.specs.declared.Who.{Who}
use Rattle.hm_history.specs.declared.TableRight.{TableRight}
use Rattle.hm_history.specs.declared.KeptAt.{KeptAt}
use Rattle.hm_history.specs.declared.KeptWhy.{KeptWhy}
use Rattle.hm_history.specs.declared.Kind.{Kind}
use Rattle.hm_history.specs.Memory.Words.{sys_frame}
use Rattle.hm_history.specs.declared.Entry.{Entry}
use Rattle.hm_history.specs.Kernel.Run.{run}
use Rattle.hm_history.specs.Memory.After.{after}
use Rattle.hm_history.specs.Memory.Plain.{mirror_owner, plain_accepts}
use Rattle.hm_history.specs.Memory.Places.{places_accept}
use Rattle.hm_history.specs.Memory.Lookups.{narrows_guarded}
use Rattle.hm_history.specs.Memory.Rules.{fails_rightly}
use Rattle.hm_history.specs.Kernel.Legal.{Legal}

abbrev script : Program
script = record {
  version = Version.Two;
  frames = 4;
  devices = 4 ∷ [];
  skip = 0;
  actors = (Op.Map 0 (record { first = 16; count = 2 }) Rights.ReadWrite ∷ Op.Attach 0 0 0 (record { first = 16; count = 2 }) ∷ Op.Exclusive 0 16 ∷ Op.Snap 0 (record { first = 16; count = 1 }) ∷ Op.ToDevice 0 (record { first = 16; count = 1 }) ∷ Op.DeviceLoad 0 0x10000 1 ∷ Op.Exclusive 0 18 ∷ Op.Exclusive 1 16 ∷ Op.Add 0 0x12000 1 ∷ []) ∷ [];
  schedule = ScheduleLine.Run 0 99 ∷ [];
}

abbrev history : List Entry
history =
    record { actor = 0; kind = Kind.Wlock 0 } ∷
    record { actor = 0; kind = Kind.Mapped 0 (record { first = 16; count = 2 }) Rights.ReadWrite } ∷
    record { actor = 0; kind = Kind.Attached 0 0 0 (record { first = 16; count = 2 }) 1 } ∷
    record { actor = 0; kind = Kind.Rlock 0 } ∷
    record { actor = 0; kind = Kind.Take (sys_frame 0) } ∷
    record { actor = 0; kind = Kind.Place 0 16 (Place.Sys 0 true) } ∷
    record { actor = 0; kind = Kind.Start 0 (record { first = 16; count = 1 }) 3 } ∷
    record { actor = 0; kind = Kind.Told 0 (record { first = 16; count = 1 }) 3 } ∷
    record { actor = 0; kind = Kind.Place 0 16 (Place.Exclusive 0 0) } ∷
    record { actor = 0; kind = Kind.End 0 (record { first = 16; count = 1 }) 4 } ∷
    record { actor = 0; kind = Kind.Set 0 16 (Some (sys_frame 0)) TableRight.Sole 10 } ∷
    record { actor = 0; kind = Kind.Excluded 0 16 } ∷
    record { actor = 0; kind = Kind.Rlock 0 } ∷
    record { actor = 0; kind = Kind.Seen 0 16 49 } ∷
    record { actor = 0; kind = Kind.Runlock 0 } ∷
    record { actor = 0; kind = Kind.Rlock 0 } ∷
    record { actor = 0; kind = Kind.Start 0 (record { first = 16; count = 1 }) 5 } ∷
    record { actor = 0; kind = Kind.Told 0 (record { first = 16; count = 1 }) 5 } ∷
    record { actor = 0; kind = Kind.Kept (KeptAt.Page 16) KeptWhy.NotHere } ∷
    record { actor = 0; kind = Kind.End 0 (record { first = 16; count = 1 }) 6 } ∷
    record { actor = 0; kind = Kind.Migrated 0 } ∷
    record { actor = 0; kind = Kind.Begin 0 5 } ∷
    record { actor = 0; kind = Kind.Rlock 0 } ∷
    record { actor = 0; kind = Kind.Start 0 (record { first = 16; count = 1 }) 7 } ∷
    record { actor = 0; kind = Kind.Told 0 (record { first = 16; count = 1 }) 7 } ∷
    record { actor = 0; kind = Kind.Place 0 16 (Place.Sys 0 true) } ∷
    record { actor = 0; kind = Kind.End 0 (record { first = 16; count = 1 }) 8 } ∷
    record { actor = 0; kind = Kind.Retry 0 } ∷
    record { actor = 0; kind = Kind.Begin 0 7 } ∷
    record { actor = 0; kind = Kind.Rlock 0 } ∷
    record { actor = 0; kind = Kind.Runlock 0 } ∷
    record { actor = 0; kind = Kind.Set 0 16 (Some (sys_frame 0)) TableRight.Write 28 } ∷
    record { actor = 0; kind = Kind.Loaded (Who.Mirror 0) 0x10000 (0 ∷ []) } ∷
    record { actor = 0; kind = Kind.Refused Cause.Outside } ∷
    record { actor = 0; kind = Kind.Refused Cause.Outside } ∷
    record { actor = 0; kind = Kind.Failed (Who.Mirror 0) 0x12000 1 Cause.Outside } ∷ []

runs : run script ≡ history
runs = refl

legal : Legal script history
legal = (
  record { is_due = refl; rules = record { answers = refl; places = refl; frames = refl; sequences = refl; untold = refl; guarded = refl }; kept = refl },
  (
    record { is_due = refl; rules = record { answers = refl; places = refl; frames = refl; sequences = refl; untold = refl; guarded = refl }; kept = refl },
    (
      record { is_due = refl; rules = record { answers = refl; places = refl; frames = refl; sequences = refl; untold = refl; guarded = refl }; kept = refl },
      (
        record { is_due = refl; rules = record { answers = refl; places = refl; frames = refl; sequences = refl; untold = refl; guarded = refl }; kept = refl },
        (
          record { is_due = refl; rules = record { answers = refl; places = refl; frames = refl; sequences = refl; untold = refl; guarded = refl }; kept = refl },
          (
            record { is_due = refl; rules = record { answers = refl; places = refl; frames = refl; sequences = refl; untold = refl; guarded = refl }; kept = refl },
            (
              record { is_due = refl; rules = record { answers = refl; places = refl; frames = refl; sequences = refl; untold = refl; guarded = refl }; kept = refl },
              (
                record { is_due = refl; rules = record { answers = refl; places = refl; frames = refl; sequences = refl; untold = refl; guarded = refl }; kept = refl },
                (
                  record { is_due = refl; rules = record { answers = refl; places = refl; frames = refl; sequences = refl; untold = refl; guarded = refl }; kept = refl },
                  (
                    record { is_due = refl; rules = record { answers = refl; places = refl; frames = refl; sequences = refl; untold = refl; guarded = refl }; kept = refl },
                    (
                      record { is_due = refl; rules = record { answers = refl; places = refl; frames = refl; sequences = refl; untold = refl; guarded = refl }; kept = refl },
                      (
                        record { is_due = refl; rules = record { answers = refl; places = refl; frames = refl; sequences = refl; untold = refl; guarded = refl }; kept = refl },
                        (
                          record { is_due = refl; rules = record { answers = refl; places = refl; frames = refl; sequences = refl; untold = refl; guarded = refl }; kept = refl },
                          (
                            record { is_due = refl; rules = record { answers = refl; places = refl; frames = refl; sequences = refl; untold = refl; guarded = refl }; kept = refl },
                            (
                              record { is_due = refl; rules = record { answers = refl; places = refl; frames = refl; sequences = refl; untold = refl; guarded = refl }; kept = refl },
                              (
                                record { is_due = refl; rules = record { answers = refl; places = refl; frames = refl; sequences = refl; untold = refl; guarded = refl }; kept = refl },
                                (
                                  record { is_due = refl; rules = record { answers = refl; places = refl; frames = refl; sequences = refl; untold = refl; guarded = refl }; kept = refl },
                                  (
                                    record { is_due = refl; rules = record { answers = refl; places = refl; frames = refl; sequences = refl; untold = refl; guarded = refl }; kept = refl },
                                    (
                                      record { is_due = refl; rules = record { answers = refl; places = refl; frames = refl; sequences = refl; untold = refl; guarded = refl }; kept = refl },
                                      (
                                        record { is_due = refl; rules = record { answers = refl; places = refl; frames = refl; sequences = refl; untold = refl; guarded = refl }; kept = refl },
                                        (
                                          record { is_due = refl; rules = record { answers = refl; places = refl; frames = refl; sequences = refl; untold = refl; guarded = refl }; kept = refl },
                                          (
                                            record { is_due = refl; rules = record { answers = refl; places = refl; frames = refl; sequences = refl; untold = refl; guarded = refl }; kept = refl },
                                            (
                                              record { is_due = refl; rules = record { answers = refl; places = refl; frames = refl; sequences = refl; untold = refl; guarded = refl }; kept = refl },
                                              (
                                                record { is_due = refl; rules = record { answers = refl; places = refl; frames = refl; sequences = refl; untold = refl; guarded = refl }; kept = refl },
                                                (
                                                  record { is_due = refl; rules = record { answers = refl; places = refl; frames = refl; sequences = refl; untold = refl; guarded = refl }; kept = refl },
                                                  (
                                                    record { is_due = refl; rules = record { answers = refl; places = refl; frames = refl; sequences = refl; untold = refl; guarded = refl }; kept = refl },
                                                    (
                                                      record { is_due = refl; rules = record { answers = refl; places = refl; frames = refl; sequences = refl; untold = refl; guarded = refl }; kept = refl },
                                                      (
                                                        record { is_due = refl; rules = record { answers = refl; places = refl; frames = refl; sequences = refl; untold = refl; guarded = refl }; kept = refl },
                                                        (
                                                          record { is_due = refl; rules = record { answers = refl; places = refl; frames = refl; sequences = refl; untold = refl; guarded = refl }; kept = refl },
                                                          (
                                                            record { is_due = refl; rules = record { answers = refl; places = refl; frames = refl; sequences = refl; untold = refl; guarded = refl }; kept = refl },
                                                            (
                                                              record { is_due = refl; rules = record { answers = refl; places = refl; frames = refl; sequences = refl; untold = refl; guarded = refl }; kept = refl },
                                                              (
                                                                record { is_due = refl; rules = record { answers = refl; places = refl; frames = refl; sequences = refl; untold = refl; guarded = refl }; kept = refl },
                                                                (
                                                                  record { is_due = refl; rules = record { answers = refl; places = refl; frames = refl; sequences = refl; untold = refl; guarded = refl }; kept = refl },
                                                                  (
                                                                    record { is_due = refl; rules = record { answers = refl; places = refl; frames = refl; sequences = refl; untold = refl; guarded = refl }; kept = refl },
                                                                    (
                                                                      record { is_due = refl; rules = record { answers = refl; places = refl; frames = refl; sequences = refl; untold = refl; guarded = refl }; kept = refl },
                                                                      (
                                                                        record { is_due = refl; rules = record { answers = refl; places = refl; frames = refl; sequences = refl; untold = refl; guarded = refl }; kept = refl },
                                                                        tt,
                                                                      ),
                                                                    ),
                                                                  ),
                                                                ),
                                                              ),
                                                            ),
                                                          ),
                                                        ),
                                                      ),
                                                    ),
                                                  ),
                                                ),
                                              ),
                                            ),
                                          ),
                                        ),
                                      ),
                                    ),
                                  ),
                                ),
                              ),
                            ),
                          ),
                        ),
                      ),
                    ),
                  ),
                ),
              ),
            ),
          ),
        ),
      ),
    ),
  ),
)

-- fetched m0 0x10000 00, by actor 0
tried_1 : places_accept script (mirror_owner (after (take 11 history)).plain) (after (take 11 history)).places 0 (Kind.Fetched 0 0x10000 (0 ∷ [])) ≡ true
tried_1 = refl

-- fetched m0 0x10000 00, by actor 1
tried_2 : places_accept script (mirror_owner (after (take 11 history)).plain) (after (take 11 history)).places 1 (Kind.Fetched 0 0x10000 (0 ∷ [])) ≡ false
tried_2 = refl

-- loaded m0 0x10000 00, by actor 0
tried_3 : places_accept script (mirror_owner (after (take 11 history)).plain) (after (take 11 history)).places 0 (Kind.Loaded (Who.Mirror 0) 0x10000 (0 ∷ [])) ≡ false
tried_3 = refl

-- loaded m0 0x10000 00, by actor 0
tried_4 : places_accept script (mirror_owner (after (take 10 history ++ (record { actor = 0; kind = Kind.Set 0 16 (Some (sys_frame 0)) TableRight.Write 10 } ∷ []))).plain) (after (take 10 history ++ (record { actor = 0; kind = Kind.Set 0 16 (Some (sys_frame 0)) TableRight.Write 10 } ∷ []))).places 0 (Kind.Loaded (Who.Mirror 0) 0x10000 (0 ∷ [])) ≡ false
tried_4 = refl

-- fetched m0 0x10000 00, by actor 0
tried_5 : places_accept script (mirror_owner (after (take 10 history ++ (record { actor = 0; kind = Kind.Set 0 16 (Some (sys_frame 0)) TableRight.Write 10 } ∷ []))).plain) (after (take 10 history ++ (record { actor = 0; kind = Kind.Set 0 16 (Some (sys_frame 0)) TableRight.Write 10 } ∷ []))).places 0 (Kind.Fetched 0 0x10000 (0 ∷ [])) ≡ false
tried_5 = refl

-- loaded p0 0x10000 00, by actor 0
tried_6 : places_accept script (mirror_owner (after (take 12 history)).plain) (after (take 12 history)).places 0 (Kind.Loaded (Who.Cpu 0) 0x10000 (0 ∷ [])) ≡ false
tried_6 = refl

-- stored p0 0x10000 00, by actor 0
tried_7 : places_accept script (mirror_owner (after (take 12 history)).plain) (after (take 12 history)).places 0 (Kind.Stored (Who.Cpu 0) 0x10000 (0 ∷ [])) ≡ false
tried_7 = refl

-- place p0 16 sys s0 w, by actor 0
tried_8 : narrows_guarded (after (take 11 history)).sequences (after (take 11 history)).places.place 0 (Kind.Place 0 16 (Place.Sys 0 true)) ≡ false
tried_8 = refl

-- place p0 16 sys s0 w, by actor 0
tried_9 : narrows_guarded (after (take 25 history)).sequences (after (take 25 history)).places.place 0 (Kind.Place 0 16 (Place.Sys 0 true)) ≡ true
tried_9 = refl

-- place p0 16 excl s0 a0, by actor 0
tried_10 : narrows_guarded (after (take 7 history)).sequences (after (take 7 history)).places.place 0 (Kind.Place 0 16 (Place.Exclusive 0 0)) ≡ false
tried_10 = refl

-- place p0 16 excl s0 a0, by actor 0
tried_11 : narrows_guarded (after (take 8 history)).sequences (after (take 8 history)).places.place 0 (Kind.Place 0 16 (Place.Exclusive 0 0)) ≡ true
tried_11 = refl

-- failed m0 0x10000 1 4, by actor 0
tried_12 : plain_accepts (after (take 12 history)).plain (Kind.Failed (Who.Mirror 0) 0x10000 1 Cause.Outside) ≡ false
tried_12 = refl

-- failed m0 0x10000 1 1, by actor 0
tried_13 : plain_accepts (after (take 12 history)).plain (Kind.Failed (Who.Mirror 0) 0x10000 1 Cause.Unmapped) ≡ false
tried_13 = refl

-- failed m0 0x10000 1 2, by actor 0
tried_14 : plain_accepts (after (take 12 history)).plain (Kind.Failed (Who.Mirror 0) 0x10000 1 Cause.Forbidden) ≡ false
tried_14 = refl

-- failed m0 0x10000 1 3, by actor 0
tried_15 : plain_accepts (after (take 12 history)).plain (Kind.Failed (Who.Mirror 0) 0x10000 1 Cause.NoFrame) ≡ true
tried_15 = refl

-- failed m0 0x10000 1 5, by actor 0
tried_16 : plain_accepts (after (take 12 history)).plain (Kind.Failed (Who.Mirror 0) 0x10000 1 Cause.Overlap) ≡ false
tried_16 = refl

-- failed m0 0x10000 1 0, by actor 0
tried_17 : plain_accepts (after (take 12 history)).plain (Kind.Failed (Who.Mirror 0) 0x10000 1 Cause.Never) ≡ false
tried_17 = refl

-- failed m0 0x12000 1 3, by actor 0
tried_18 : plain_accepts (after (take 12 history)).plain (Kind.Failed (Who.Mirror 0) 0x12000 1 Cause.NoFrame) ≡ false
tried_18 = refl

-- failed m0 0x12000 1 1, by actor 0
tried_19 : plain_accepts (after (take 12 history)).plain (Kind.Failed (Who.Mirror 0) 0x12000 1 Cause.Unmapped) ≡ false
tried_19 = refl

-- failed m0 0x12000 1 4, by actor 0
tried_20 : plain_accepts (after (take 12 history)).plain (Kind.Failed (Who.Mirror 0) 0x12000 1 Cause.Outside) ≡ true
tried_20 = refl

-- failed p0 0x12000 1 1, by actor 0
tried_21 : plain_accepts (after (take 12 history)).plain (Kind.Failed (Who.Cpu 0) 0x12000 1 Cause.Unmapped) ≡ true
tried_21 = refl

-- failed p0 0x12000 1 2, by actor 0
tried_22 : plain_accepts (after (take 12 history)).plain (Kind.Failed (Who.Cpu 0) 0x12000 1 Cause.Forbidden) ≡ false
tried_22 = refl

-- failed p0 0x10000 1 3, by actor 0
tried_23 : fails_rightly script (take 12 history) (record { actor = 0; kind = Kind.Failed (Who.Cpu 0) 0x10000 1 Cause.NoFrame }) ≡ false
tried_23 = refl

-- refused 3, by actor 0
tried_24 : fails_rightly script (take 12 history) (record { actor = 0; kind = Kind.Refused Cause.NoFrame }) ≡ false
tried_24 = refl

-- refused 4, by actor 0
tried_25 : fails_rightly script (take 12 history) (record { actor = 0; kind = Kind.Refused Cause.Outside }) ≡ true
tried_25 = refl

-- loaded p0 0x10000 01, by actor 0
tried_26 : plain_accepts (after (take 12 history)).plain (Kind.Loaded (Who.Cpu 0) 0x10000 (1 ∷ [])) ≡ false
tried_26 = refl

-- fetched m0 0x10000 01, by actor 0
tried_27 : plain_accepts (after (take 12 history)).plain (Kind.Fetched 0 0x10000 (1 ∷ [])) ≡ false
tried_27 = refl

-- added m0 0x10000 01 02, by actor 0
tried_28 : plain_accepts (after (take 12 history)).plain (Kind.Added 0 0x10000 1 2) ≡ false
tried_28 = refl

-- added m0 0x10000 00 02, by actor 0
tried_29 : plain_accepts (after (take 12 history)).plain (Kind.Added 0 0x10000 0 2) ≡ true
tried_29 = refl
