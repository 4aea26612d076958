-- The worked script two_mirrors_one_actor: its run, and that it is legal.
use Rattle.std.specs.Prelude.{◌≡◌, Some, None, true, false, List, [], ◌∷◌, ◌++◌, refl, take}
use Rattle.hm_base.specs.Program.{Program}
use Rattle.hm_base.specs.declared.ops.Version.{Version}
use Rattle.hm_base.specs.declared.ops.Rights.{Rights}
use Rattle.hm_base.specs.declared.ops.Op.{Op}
use Rattle.hm_base.specs.declared.ops.ScheduleLine.{ScheduleLine}
use Rattle.hm_base.specs.declared.Place.{Place}
use Rattle.hm_history.specs.declared.TableRight.{TableRight}
use Rattle.hm_history.specs.declared.Kind.{Kind}
use Rattle.hm_history.specs.Memory.Words.{sys_frame, dev_frame}
use Rattle.hm_history.specs.declared.Entry.{Entry}
use Rattle.hm_history.specs.Kernel.Run.{run}
use Rattle.hm_history.specs.Memory.After.{after}
use Rattle.hm_history.specs.Memory.Plain.{mirror_owner}
use Rattle.hm_history.specs.Memory.Places.{places_accept}
use Rattle.hm_history.specs.Memory.Sequences.{sequences_accept}
use Rattle.hm_history.specs.Kernel.Legal.{Legal}

abbrev script : Program
script = record {
  version = Version.Two;
  frames = 4;
  devices = 4 ∷ 4 ∷ [];
  skip = 0;
  actors = (Op.Map 0 (record { first = 16; count = 1 }) Rights.ReadWrite ∷ Op.Attach 0 0 0 (record { first = 16; count = 1 }) ∷ Op.Attach 1 1 0 (record { first = 16; count = 1 }) ∷ Op.Exclusive 0 16 ∷ Op.Add 1 0x10000 3 ∷ Op.Add 0 0x10000 4 ∷ Op.Exclusive 1 16 ∷ []) ∷ (Op.Add 0 0x10000 7 ∷ Op.Exclusive 0 16 ∷ []) ∷ [];
  schedule = ScheduleLine.Run 0 27 ∷ ScheduleLine.Run 1 9 ∷ ScheduleLine.Run 0 9 ∷ ScheduleLine.Run 1 99 ∷ ScheduleLine.Run 0 99 ∷ [];
}

abbrev history : List Entry
history =
    record { actor = 0; kind = Kind.Wlock 0 } ∷
    record { actor = 0; kind = Kind.Mapped 0 (record { first = 16; count = 1 }) Rights.ReadWrite } ∷
    record { actor = 0; kind = Kind.Attached 0 0 0 (record { first = 16; count = 1 }) 1 } ∷
    record { actor = 0; kind = Kind.Attached 1 1 0 (record { first = 16; count = 1 }) 1 } ∷
    record { actor = 0; kind = Kind.Rlock 0 } ∷
    record { actor = 0; kind = Kind.Take (sys_frame 0) } ∷
    record { actor = 0; kind = Kind.Place 0 16 (Place.Sys 0 true) } ∷
    record { actor = 0; kind = Kind.Start 0 (record { first = 16; count = 1 }) 3 } ∷
    record { actor = 0; kind = Kind.Told 0 (record { first = 16; count = 1 }) 3 } ∷
    record { actor = 0; kind = Kind.Told 1 (record { first = 16; count = 1 }) 3 } ∷
    record { actor = 0; kind = Kind.Place 0 16 (Place.Exclusive 0 0) } ∷
    record { actor = 0; kind = Kind.End 0 (record { first = 16; count = 1 }) 4 } ∷
    record { actor = 0; kind = Kind.Set 0 16 (Some (sys_frame 0)) TableRight.Sole 12 } ∷
    record { actor = 0; kind = Kind.Excluded 0 16 } ∷
    record { actor = 0; kind = Kind.Rlock 0 } ∷
    record { actor = 0; kind = Kind.Set 1 16 (Some (sys_frame 0)) TableRight.Sole 15 } ∷
    record { actor = 0; kind = Kind.Runlock 0 } ∷
    record { actor = 0; kind = Kind.Fetched 1 0x10000 (0 ∷ []) } ∷
    record { actor = 0; kind = Kind.Added 1 0x10000 0 3 } ∷
    record { actor = 0; kind = Kind.Fetched 0 0x10000 (3 ∷ []) } ∷
    record { actor = 0; kind = Kind.Added 0 0x10000 3 7 } ∷
    record { actor = 0; kind = Kind.Rlock 0 } ∷
    record { actor = 0; kind = Kind.Set 1 16 (Some (sys_frame 0)) TableRight.Sole 22 } ∷
    record { actor = 0; kind = Kind.Excluded 1 16 } ∷
    record { actor = 1; kind = Kind.Rlock 0 } ∷
    record { actor = 1; kind = Kind.Start 0 (record { first = 16; count = 1 }) 5 } ∷
    record { actor = 1; kind = Kind.Told 0 (record { first = 16; count = 1 }) 5 } ∷
    record { actor = 1; kind = Kind.Told 1 (record { first = 16; count = 1 }) 5 } ∷
    record { actor = 1; kind = Kind.Place 0 16 (Place.Sys 0 true) } ∷
    record { actor = 1; kind = Kind.End 0 (record { first = 16; count = 1 }) 6 } ∷
    record { actor = 1; kind = Kind.Start 0 (record { first = 16; count = 1 }) 7 } ∷
    record { actor = 1; kind = Kind.Told 0 (record { first = 16; count = 1 }) 7 } ∷
    record { actor = 1; kind = Kind.Told 1 (record { first = 16; count = 1 }) 7 } ∷
    record { actor = 1; kind = Kind.Place 0 16 (Place.Exclusive 0 1) } ∷
    record { actor = 1; kind = Kind.End 0 (record { first = 16; count = 1 }) 8 } ∷
    record { actor = 1; kind = Kind.Set 0 16 (Some (sys_frame 0)) TableRight.Sole 35 } ∷
    record { actor = 1; kind = Kind.Runlock 0 } ∷
    record { actor = 1; kind = Kind.Fetched 0 0x10000 (7 ∷ []) } ∷
    record { actor = 1; kind = Kind.Added 0 0x10000 7 14 } ∷
    record { actor = 1; kind = Kind.Rlock 0 } ∷
    record { actor = 1; kind = Kind.Set 0 16 (Some (sys_frame 0)) TableRight.Sole 40 } ∷
    record { actor = 1; kind = Kind.Excluded 0 16 } ∷ []

runs : run script ≡ history
runs = refl

legal : Legal script history
legal = (
  record { is_due = refl; rules = record { answers = refl; places = refl; frames = refl; sequences = refl; untold = refl; guarded = refl }; kept = refl },
  (
    record { is_due = refl; rules = record { answers = refl; places = refl; frames = refl; sequences = refl; untold = refl; guarded = refl }; kept = refl },
    (
      record { is_due = refl; rules = record { answers = refl; places = refl; frames = refl; sequences = refl; untold = refl; guarded = refl }; kept = refl },
      (
        record { is_due = refl; rules = record { answers = refl; places = refl; frames = refl; sequences = refl; untold = refl; guarded = refl }; kept = refl },
        (
          record { is_due = refl; rules = record { answers = refl; places = refl; frames = refl; sequences = refl; untold = refl; guarded = refl }; kept = refl },
          (
            record { is_due = refl; rules = record { answers = refl; places = refl; frames = refl; sequences = refl; untold = refl; guarded = refl }; kept = refl },
            (
              record { is_due = refl; rules = record { answers = refl; places = refl; frames = refl; sequences = refl; untold = refl; guarded = refl }; kept = refl },
              (
                record { is_due = refl; rules = record { answers = refl; places = refl; frames = refl; sequences = refl; untold = refl; guarded = refl }; kept = refl },
                (
                  record { is_due = refl; rules = record { answers = refl; places = refl; frames = refl; sequences = refl; untold = refl; guarded = refl }; kept = refl },
                  (
                    record { is_due = refl; rules = record { answers = refl; places = refl; frames = refl; sequences = refl; untold = refl; guarded = refl }; kept = refl },
                    (
                      record { is_due = refl; rules = record { answers = refl; places = refl; frames = refl; sequences = refl; untold = refl; guarded = refl }; kept = refl },
                      (
                        record { is_due = refl; rules = record { answers = refl; places = refl; frames = refl; sequences = refl; untold = refl; guarded = refl }; kept = refl },
                        (
                          record { is_due = refl; rules = record { answers = refl; places = refl; frames = refl; sequences = refl; untold = refl; guarded = refl }; kept = refl },
                          (
                            record { is_due = refl; rules = record { answers = refl; places = refl; frames = refl; sequences = refl; untold = refl; guarded = refl }; kept = refl },
                            (
                              record { is_due = refl; rules = record { answers = refl; places = refl; frames = refl; sequences = refl; untold = refl; guarded = refl }; kept = refl },
                              (
                                record { is_due = refl; rules = record { answers = refl; places = refl; frames = refl; sequences = refl; untold = refl; guarded = refl }; kept = refl },
                                (
                                  record { is_due = refl; rules = record { answers = refl; places = refl; frames = refl; sequences = refl; untold = refl; guarded = refl }; kept = refl },
                                  (
                                    record { is_due = refl; rules = record { answers = refl; places = refl; frames = refl; sequences = refl; untold = refl; guarded = refl }; kept = refl },
                                    (
                                      record { is_due = refl; rules = record { answers = refl; places = refl; frames = refl; sequences = refl; untold = refl; guarded = refl }; kept = refl },
                                      (
                                        record { is_due = refl; rules = record { answers = refl; places = refl; frames = refl; sequences = refl; untold = refl; guarded = refl }; kept = refl },
                                        (
                                          record { is_due = refl; rules = record { answers = refl; places = refl; frames = refl; sequences = refl; untold = refl; guarded = refl }; kept = refl },
                                          (
                                            record { is_due = refl; rules = record { answers = refl; places = refl; frames = refl; sequences = refl; untold = refl; guarded = refl }; kept = refl },
                                            (
                                              record { is_due = refl; rules = record { answers = refl; places = refl; frames = refl; sequences = refl; untold = refl; guarded = refl }; kept = refl },
                                              (
                                                record { is_due = refl; rules = record { answers = refl; places = refl; frames = refl; sequences = refl; untold = refl; guarded = refl }; kept = refl },
                                                (
                                                  record { is_due = refl; rules = record { answers = refl; places = refl; frames = refl; sequences = refl; untold = refl; guarded = refl }; kept = refl },
                                                  (
                                                    record { is_due = refl; rules = record { answers = refl; places = refl; frames = refl; sequences = refl; untold = refl; guarded = refl }; kept = refl },
                                                    (
                                                      record { is_due = refl; rules = record { answers = refl; places = refl; frames = refl; sequences = refl; untold = refl; guarded = refl }; kept = refl },
                                                      (
                                                        record { is_due = refl; rules = record { answers = refl; places = refl; frames = refl; sequences = refl; untold = refl; guarded = refl }; kept = refl },
                                                        (
                                                          record { is_due = refl; rules = record { answers = refl; places = refl; frames = refl; sequences = refl; untold = refl; guarded = refl }; kept = refl },
                                                          (
                                                            record { is_due = refl; rules = record { answers = refl; places = refl; frames = refl; sequences = refl; untold = refl; guarded = refl }; kept = refl },
                                                            (
                                                              record { is_due = refl; rules = record { answers = refl; places = refl; frames = refl; sequences = refl; untold = refl; guarded = refl }; kept = refl },
                                                              (
                                                                record { is_due = refl; rules = record { answers = refl; places = refl; frames = refl; sequences = refl; untold = refl; guarded = refl }; kept = refl },
                                                                (
                                                                  record { is_due = refl; rules = record { answers = refl; places = refl; frames = refl; sequences = refl; untold = refl; guarded = refl }; kept = refl },
                                                                  (
                                                                    record { is_due = refl; rules = record { answers = refl; places = refl; frames = refl; sequences = refl; untold = refl; guarded = refl }; kept = refl },
                                                                    (
                                                                      record { is_due = refl; rules = record { answers = refl; places = refl; frames = refl; sequences = refl; untold = refl; guarded = refl }; kept = refl },
                                                                      (
                                                                        record { is_due = refl; rules = record { answers = refl; places = refl; frames = refl; sequences = refl; untold = refl; guarded = refl }; kept = refl },
                                                                        (
                                                                          record { is_due = refl; rules = record { answers = refl; places = refl; frames = refl; sequences = refl; untold = refl; guarded = refl }; kept = refl },
                                                                          (
                                                                            record { is_due = refl; rules = record { answers = refl; places = refl; frames = refl; sequences = refl; untold = refl; guarded = refl }; kept = refl },
                                                                            (
                                                                              record { is_due = refl; rules = record { answers = refl; places = refl; frames = refl; sequences = refl; untold = refl; guarded = refl }; kept = refl },
                                                                              (
                                                                                record { is_due = refl; rules = record { answers = refl; places = refl; frames = refl; sequences = refl; untold = refl; guarded = refl }; kept = refl },
                                                                                (
                                                                                  record { is_due = refl; rules = record { answers = refl; places = refl; frames = refl; sequences = refl; untold = refl; guarded = refl }; kept = refl },
                                                                                  (
                                                                                    record { is_due = refl; rules = record { answers = refl; places = refl; frames = refl; sequences = refl; untold = refl; guarded = refl }; kept = refl },
                                                                                    tt,
                                                                                  ),
                                                                                ),
                                                                              ),
                                                                            ),
                                                                          ),
                                                                        ),
                                                                      ),
                                                                    ),
                                                                  ),
                                                                ),
                                                              ),
                                                            ),
                                                          ),
                                                        ),
                                                      ),
                                                    ),
                                                  ),
                                                ),
                                              ),
                                            ),
                                          ),
                                        ),
                                      ),
                                    ),
                                  ),
                                ),
                              ),
                            ),
                          ),
                        ),
                      ),
                    ),
                  ),
                ),
              ),
            ),
          ),
        ),
      ),
    ),
  ),
)

-- told m0 16 1 3, by actor 0
tried_1 : sequences_accept (after (take 9 history)).sequences 0 (Kind.Told 0 (record { first = 16; count = 1 }) 3) ≡ false
tried_1 = refl

-- end p0 16 1 4, by actor 0
tried_2 : sequences_accept (after (take 9 history)).sequences 0 (Kind.End 0 (record { first = 16; count = 1 }) 4) ≡ false
tried_2 = refl

-- told m1 16 1 3, by actor 0
tried_3 : sequences_accept (after (take 9 history)).sequences 0 (Kind.Told 1 (record { first = 16; count = 1 }) 3) ≡ true
tried_3 = refl

-- told m1 16 1 3, by actor 0
tried_4 : sequences_accept (after (take 8 history)).sequences 0 (Kind.Told 1 (record { first = 16; count = 1 }) 3) ≡ false
tried_4 = refl

-- told m1 16 2 3, by actor 0
tried_5 : sequences_accept (after (take 9 history)).sequences 0 (Kind.Told 1 (record { first = 16; count = 2 }) 3) ≡ false
tried_5 = refl

-- told m1 16 1 4, by actor 0
tried_6 : sequences_accept (after (take 9 history)).sequences 0 (Kind.Told 1 (record { first = 16; count = 1 }) 4) ≡ false
tried_6 = refl

-- told m1 16 1 3, by actor 1
tried_7 : sequences_accept (after (take 9 history)).sequences 1 (Kind.Told 1 (record { first = 16; count = 1 }) 3) ≡ false
tried_7 = refl

-- start p0 17 1 3, by actor 0
tried_8 : sequences_accept (after (take 9 history)).sequences 0 (Kind.Start 0 (record { first = 17; count = 1 }) 3) ≡ false
tried_8 = refl

-- start p0 17 1 3, by actor 1
tried_9 : sequences_accept (after (take 9 history)).sequences 1 (Kind.Start 0 (record { first = 17; count = 1 }) 3) ≡ true
tried_9 = refl

-- start p0 17 1 4, by actor 1
tried_10 : sequences_accept (after (take 9 history)).sequences 1 (Kind.Start 0 (record { first = 17; count = 1 }) 4) ≡ false
tried_10 = refl

-- end p0 16 1 3, by actor 0
tried_11 : sequences_accept (after (take 11 history)).sequences 0 (Kind.End 0 (record { first = 16; count = 1 }) 3) ≡ false
tried_11 = refl

-- end p0 16 1 4, by actor 0
tried_12 : sequences_accept (after (take 11 history ++ (record { actor = 1; kind = Kind.Start 0 (record { first = 17; count = 1 }) 3 } ∷ []))).sequences 0 (Kind.End 0 (record { first = 16; count = 1 }) 4) ≡ false
tried_12 = refl

-- end p0 16 1 3, by actor 0
tried_13 : sequences_accept (after (take 11 history ++ (record { actor = 1; kind = Kind.Start 0 (record { first = 17; count = 1 }) 3 } ∷ []))).sequences 0 (Kind.End 0 (record { first = 16; count = 1 }) 3) ≡ true
tried_13 = refl

-- set m0 16 d1.0 w 12, by actor 0
tried_14 : places_accept script (mirror_owner (after (take 12 history)).plain) (after (take 12 history)).places 0 (Kind.Set 0 16 (Some (dev_frame 1 0)) TableRight.Write 12) ≡ false
tried_14 = refl

-- set m1 16 d1.0 w 12, by actor 0
tried_15 : places_accept script (mirror_owner (after (take 12 history)).plain) (after (take 12 history)).places 0 (Kind.Set 1 16 (Some (dev_frame 1 0)) TableRight.Write 12) ≡ true
tried_15 = refl

-- set m0 16 zero w 12, by actor 0
tried_16 : places_accept script (mirror_owner (after (take 12 history)).plain) (after (take 12 history)).places 0 (Kind.Set 0 16 None TableRight.Write 12) ≡ true
tried_16 = refl
