-- The worked script deferred_insert_cancelled: its run, and that it is legal.
use Rattle.std.specs.Prelude.{◌≡◌, None, true, false, List, [], ◌∷◌, refl, take}
use Rattle.hm_base.specs.Program.{Program}
use Rattle.hm_base.specs.declared.ops.Version.{Version}
use Rattle.hm_base.specs.declared.ops.Rights.{Rights}
use Rattle.hm_base.specs.declared.ops.Op.{Op}
use Rattle.hm_base.specs.declared.ops.ScheduleLine.{ScheduleLine}
use Rattle.hm_base.specs.declared.Place.{Place}
use Rattle.hm_history.specs.declared.Who.{Who}
use Rattle.hm_history.specs.declared.Kind.{Kind}
use Rattle.hm_history.specs.Memory.Words.{sys_frame}
use Rattle.hm_history.specs.declared.Entry.{Entry}
use Rattle.hm_history.specs.Kernel.Run.{run}
use Rattle.hm_history.specs.Memory.After.{after}
use Rattle.hm_history.specs.Memory.Plain.{mirror_owner, plain_accepts}
use Rattle.hm_history.specs.Memory.Places.{places_accept}
use Rattle.hm_history.specs.Memory.Sequences.{sequences_accept}
use Rattle.hm_history.specs.Kernel.Legal.{Legal}

abbrev script : Program
script = record {
  version = Version.One;
  frames = 4;
  devices = 4 ∷ [];
  skip = 0;
  actors = (Op.Map 0 (record { first = 16; count = 1 }) Rights.ReadWrite ∷ Op.Store 0 0x10000 (65 ∷ []) ∷ Op.Fork 0 1 ∷ Op.Attach 0 0 0 (record { first = 16; count = 1 }) ∷ Op.Store 0 0x10000 (67 ∷ []) ∷ []) ∷ (Op.Attach 1 0 0 (record { first = 16; count = 1 }) ∷ Op.Detach 1 ∷ Op.Detach 0 ∷ []) ∷ [];
  schedule = ScheduleLine.Run 0 20 ∷ ScheduleLine.Run 1 9 ∷ ScheduleLine.Run 0 9 ∷ ScheduleLine.Run 1 9 ∷ [];
}

abbrev history : List Entry
history =
    record { actor = 0; kind = Kind.Wlock 0 } ∷
    record { actor = 0; kind = Kind.Mapped 0 (record { first = 16; count = 1 }) Rights.ReadWrite } ∷
    record { actor = 0; kind = Kind.Rlock 0 } ∷
    record { actor = 0; kind = Kind.Take (sys_frame 0) } ∷
    record { actor = 0; kind = Kind.Place 0 16 (Place.Sys 0 true) } ∷
    record { actor = 0; kind = Kind.Runlock 0 } ∷
    record { actor = 0; kind = Kind.Stored (Who.Cpu 0) 0x10000 (65 ∷ []) } ∷
    record { actor = 0; kind = Kind.Wlock 0 } ∷
    record { actor = 0; kind = Kind.Named 0 1 } ∷
    record { actor = 0; kind = Kind.Start 0 (record { first = 0; count = 68719476736 }) 2 } ∷
    record { actor = 0; kind = Kind.Place 0 16 (Place.Sys 0 false) } ∷
    record { actor = 0; kind = Kind.Place 1 16 (Place.Sys 0 false) } ∷
    record { actor = 0; kind = Kind.End 0 (record { first = 0; count = 68719476736 }) 2 } ∷
    record { actor = 0; kind = Kind.Forked 0 1 } ∷
    record { actor = 0; kind = Kind.Attached 0 0 0 (record { first = 16; count = 1 }) 1 } ∷
    record { actor = 0; kind = Kind.Rlock 0 } ∷
    record { actor = 0; kind = Kind.Take (sys_frame 1) } ∷
    record { actor = 0; kind = Kind.Copied (sys_frame 0) (sys_frame 1) None } ∷
    record { actor = 0; kind = Kind.Start 0 (record { first = 16; count = 1 }) 3 } ∷
    record { actor = 0; kind = Kind.Told 0 (record { first = 16; count = 1 }) 3 } ∷
    record { actor = 1; kind = Kind.Attached 1 0 0 (record { first = 16; count = 1 }) 3 } ∷
    record { actor = 1; kind = Kind.Detached 1 } ∷
    record { actor = 1; kind = Kind.Detaching 0 3 } ∷
    record { actor = 0; kind = Kind.Place 0 16 (Place.Sys 1 true) } ∷
    record { actor = 0; kind = Kind.End 0 (record { first = 16; count = 1 }) 4 } ∷
    record { actor = 0; kind = Kind.Runlock 0 } ∷
    record { actor = 0; kind = Kind.Stored (Who.Cpu 0) 0x10000 (67 ∷ []) } ∷
    record { actor = 1; kind = Kind.Detached 0 } ∷ []

runs : run script ≡ history
runs = refl

legal : Legal script history
legal = (
  record { is_due = refl; rules = record { answers = refl; places = refl; frames = refl; sequences = refl; untold = refl; guarded = refl }; kept = refl },
  (
    record { is_due = refl; rules = record { answers = refl; places = refl; frames = refl; sequences = refl; untold = refl; guarded = refl }; kept = refl },
    (
      record { is_due = refl; rules = record { answers = refl; places = refl; frames = refl; sequences = refl; untold = refl; guarded = refl }; kept = refl },
      (
        record { is_due = refl; rules = record { answers = refl; places = refl; frames = refl; sequences = refl; untold = refl; guarded = refl }; kept = refl },
        (
          record { is_due = refl; rules = record { answers = refl; places = refl; frames = refl; sequences = refl; untold = refl; guarded = refl }; kept = refl },
          (
            record { is_due = refl; rules = record { answers = refl; places = refl; frames = refl; sequences = refl; untold = refl; guarded = refl }; kept = refl },
            (
              record { is_due = refl; rules = record { answers = refl; places = refl; frames = refl; sequences = refl; untold = refl; guarded = refl }; kept = refl },
              (
                record { is_due = refl; rules = record { answers = refl; places = refl; frames = refl; sequences = refl; untold = refl; guarded = refl }; kept = refl },
                (
                  record { is_due = refl; rules = record { answers = refl; places = refl; frames = refl; sequences = refl; untold = refl; guarded = refl }; kept = refl },
                  (
                    record { is_due = refl; rules = record { answers = refl; places = refl; frames = refl; sequences = refl; untold = refl; guarded = refl }; kept = refl },
                    (
                      record { is_due = refl; rules = record { answers = refl; places = refl; frames = refl; sequences = refl; untold = refl; guarded = refl }; kept = refl },
                      (
                        record { is_due = refl; rules = record { answers = refl; places = refl; frames = refl; sequences = refl; untold = refl; guarded = refl }; kept = refl },
                        (
                          record { is_due = refl; rules = record { answers = refl; places = refl; frames = refl; sequences = refl; untold = refl; guarded = refl }; kept = refl },
                          (
                            record { is_due = refl; rules = record { answers = refl; places = refl; frames = refl; sequences = refl; untold = refl; guarded = refl }; kept = refl },
                            (
                              record { is_due = refl; rules = record { answers = refl; places = refl; frames = refl; sequences = refl; untold = refl; guarded = refl }; kept = refl },
                              (
                                record { is_due = refl; rules = record { answers = refl; places = refl; frames = refl; sequences = refl; untold = refl; guarded = refl }; kept = refl },
                                (
                                  record { is_due = refl; rules = record { answers = refl; places = refl; frames = refl; sequences = refl; untold = refl; guarded = refl }; kept = refl },
                                  (
                                    record { is_due = refl; rules = record { answers = refl; places = refl; frames = refl; sequences = refl; untold = refl; guarded = refl }; kept = refl },
                                    (
                                      record { is_due = refl; rules = record { answers = refl; places = refl; frames = refl; sequences = refl; untold = refl; guarded = refl }; kept = refl },
                                      (
                                        record { is_due = refl; rules = record { answers = refl; places = refl; frames = refl; sequences = refl; untold = refl; guarded = refl }; kept = refl },
                                        (
                                          record { is_due = refl; rules = record { answers = refl; places = refl; frames = refl; sequences = refl; untold = refl; guarded = refl }; kept = refl },
                                          (
                                            record { is_due = refl; rules = record { answers = refl; places = refl; frames = refl; sequences = refl; untold = refl; guarded = refl }; kept = refl },
                                            (
                                              record { is_due = refl; rules = record { answers = refl; places = refl; frames = refl; sequences = refl; untold = refl; guarded = refl }; kept = refl },
                                              (
                                                record { is_due = refl; rules = record { answers = refl; places = refl; frames = refl; sequences = refl; untold = refl; guarded = refl }; kept = refl },
                                                (
                                                  record { is_due = refl; rules = record { answers = refl; places = refl; frames = refl; sequences = refl; untold = refl; guarded = refl }; kept = refl },
                                                  (
                                                    record { is_due = refl; rules = record { answers = refl; places = refl; frames = refl; sequences = refl; untold = refl; guarded = refl }; kept = refl },
                                                    (
                                                      record { is_due = refl; rules = record { answers = refl; places = refl; frames = refl; sequences = refl; untold = refl; guarded = refl }; kept = refl },
                                                      (
                                                        record { is_due = refl; rules = record { answers = refl; places = refl; frames = refl; sequences = refl; untold = refl; guarded = refl }; kept = refl },
                                                        tt,
                                                      ),
                                                    ),
                                                  ),
                                                ),
                                              ),
                                            ),
                                          ),
                                        ),
                                      ),
                                    ),
                                  ),
                                ),
                              ),
                            ),
                          ),
                        ),
                      ),
                    ),
                  ),
                ),
              ),
            ),
          ),
        ),
      ),
    ),
  ),
)

-- place p1 16 sys s0 r, by actor 0
tried_1 : places_accept script (mirror_owner (after (take 10 history)).plain) (after (take 10 history)).places 0 (Kind.Place 1 16 (Place.Sys 0 false)) ≡ false
tried_1 = refl

-- place p1 16 sys s0 r, by actor 0
tried_2 : places_accept script (mirror_owner (after (take 11 history)).plain) (after (take 11 history)).places 0 (Kind.Place 1 16 (Place.Sys 0 false)) ≡ true
tried_2 = refl

-- detached m0, by actor 1
tried_3 : sequences_accept (after (take 22 history)).sequences 1 (Kind.Detached 0) ≡ false
tried_3 = refl

-- detaching m0 3, by actor 1
tried_4 : sequences_accept (after (take 22 history)).sequences 1 (Kind.Detaching 0 3) ≡ true
tried_4 = refl

-- detaching m0 4, by actor 1
tried_5 : sequences_accept (after (take 22 history)).sequences 1 (Kind.Detaching 0 4) ≡ false
tried_5 = refl

-- detached m0, by actor 1
tried_6 : sequences_accept (after (take 23 history)).sequences 1 (Kind.Detached 0) ≡ false
tried_6 = refl

-- detached m0, by actor 1
tried_7 : sequences_accept (after (take 27 history)).sequences 1 (Kind.Detached 0) ≡ true
tried_7 = refl

-- detaching m1 3, by actor 1
tried_8 : sequences_accept (after (take 21 history)).sequences 1 (Kind.Detaching 1 3) ≡ false
tried_8 = refl

-- attached m1 d0 p0 16 1 4, by actor 1
tried_9 : sequences_accept (after (take 20 history)).sequences 1 (Kind.Attached 1 0 0 (record { first = 16; count = 1 }) 4) ≡ false
tried_9 = refl

-- detached m1, by actor 1
tried_10 : sequences_accept (after (take 22 history)).sequences 1 (Kind.Detached 1) ≡ false
tried_10 = refl

-- detached m1, by actor 1
tried_11 : plain_accepts (after (take 22 history)).plain (Kind.Detached 1) ≡ false
tried_11 = refl

-- detaching m0 3, by actor 1
tried_12 : sequences_accept (after (take 23 history)).sequences 1 (Kind.Detaching 0 3) ≡ true
tried_12 = refl
