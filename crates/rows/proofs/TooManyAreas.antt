-- The worked script too_many_areas: its run, and that it is legal.
use Rattle.std.specs.Prelude.{◌≡◌, List, [], ◌∷◌, refl}
use Rattle.hm_base.specs.Program.{Program}
use Rattle.hm_base.specs.declared.ops.Version.{Version}
use Rattle.hm_base.specs.declared.ops.Rights.{Rights}
use Rattle.hm_base.specs.declared.ops.Op.{Op}
use Rattle.hm_base.specs.declared.ops.ScheduleLine.{ScheduleLine}
use Rattle.hm_base.specs.declared.cause.Cause.{Cause}
use Rattle.hm_history.specs.declared.Kind.{Kind}
use Rattle.hm_history.specs.declared.Entry.{Entry}
use Rattle.hm_history.specs.Kernel.Run.{run}
use Rattle.hm_history.specs.Kernel.Legal.{Legal}

abbrev script : Program
script = record {
  version = Version.One;
  frames = 1;
  devices = [];
  skip = 0;
  actors = (Op.Map 0 (record { first = 0; count = 66 }) Rights.ReadWrite ∷ Op.Protect 0 (record { first = 1; count = 1 }) Rights.Read ∷ Op.Protect 0 (record { first = 3; count = 1 }) Rights.Read ∷ Op.Protect 0 (record { first = 5; count = 1 }) Rights.Read ∷ Op.Protect 0 (record { first = 7; count = 1 }) Rights.Read ∷ Op.Protect 0 (record { first = 9; count = 1 }) Rights.Read ∷ Op.Protect 0 (record { first = 11; count = 1 }) Rights.Read ∷ Op.Protect 0 (record { first = 13; count = 1 }) Rights.Read ∷ Op.Protect 0 (record { first = 15; count = 1 }) Rights.Read ∷ Op.Protect 0 (record { first = 17; count = 1 }) Rights.Read ∷ Op.Protect 0 (record { first = 19; count = 1 }) Rights.Read ∷ Op.Protect 0 (record { first = 21; count = 1 }) Rights.Read ∷ Op.Protect 0 (record { first = 23; count = 1 }) Rights.Read ∷ Op.Protect 0 (record { first = 25; count = 1 }) Rights.Read ∷ Op.Protect 0 (record { first = 27; count = 1 }) Rights.Read ∷ Op.Protect 0 (record { first = 29; count = 1 }) Rights.Read ∷ Op.Protect 0 (record { first = 31; count = 1 }) Rights.Read ∷ Op.Protect 0 (record { first = 33; count = 1 }) Rights.Read ∷ Op.Protect 0 (record { first = 35; count = 1 }) Rights.Read ∷ Op.Protect 0 (record { first = 37; count = 1 }) Rights.Read ∷ Op.Protect 0 (record { first = 39; count = 1 }) Rights.Read ∷ Op.Protect 0 (record { first = 41; count = 1 }) Rights.Read ∷ Op.Protect 0 (record { first = 43; count = 1 }) Rights.Read ∷ Op.Protect 0 (record { first = 45; count = 1 }) Rights.Read ∷ Op.Protect 0 (record { first = 47; count = 1 }) Rights.Read ∷ Op.Protect 0 (record { first = 49; count = 1 }) Rights.Read ∷ Op.Protect 0 (record { first = 51; count = 1 }) Rights.Read ∷ Op.Protect 0 (record { first = 53; count = 1 }) Rights.Read ∷ Op.Protect 0 (record { first = 55; count = 1 }) Rights.Read ∷ Op.Protect 0 (record { first = 57; count = 1 }) Rights.Read ∷ Op.Protect 0 (record { first = 59; count = 1 }) Rights.Read ∷ Op.Protect 0 (record { first = 61; count = 1 }) Rights.Read ∷ Op.Map 0 (record { first = 100; count = 1 }) Rights.ReadWrite ∷ Op.Map 0 (record { first = 200; count = 1 }) Rights.ReadWrite ∷ Op.Unmap 0 (record { first = 63; count = 1 }) ∷ Op.Protect 0 (record { first = 63; count = 1 }) Rights.Read ∷ Op.Unmap 0 (record { first = 0; count = 1 }) ∷ Op.Map 0 (record { first = 200; count = 1 }) Rights.ReadWrite ∷ []) ∷ [];
  schedule = ScheduleLine.Run 0 1000 ∷ [];
}

abbrev history : List Entry
history =
    record { actor = 0; kind = Kind.Wlock 0 } ∷
    record { actor = 0; kind = Kind.Mapped 0 (record { first = 0; count = 66 }) Rights.ReadWrite } ∷
    record { actor = 0; kind = Kind.Wlock 0 } ∷
    record { actor = 0; kind = Kind.Start 0 (record { first = 1; count = 1 }) 2 } ∷
    record { actor = 0; kind = Kind.End 0 (record { first = 1; count = 1 }) 2 } ∷
    record { actor = 0; kind = Kind.Protected 0 (record { first = 1; count = 1 }) Rights.Read } ∷
    record { actor = 0; kind = Kind.Wlock 0 } ∷
    record { actor = 0; kind = Kind.Start 0 (record { first = 3; count = 1 }) 2 } ∷
    record { actor = 0; kind = Kind.End 0 (record { first = 3; count = 1 }) 2 } ∷
    record { actor = 0; kind = Kind.Protected 0 (record { first = 3; count = 1 }) Rights.Read } ∷
    record { actor = 0; kind = Kind.Wlock 0 } ∷
    record { actor = 0; kind = Kind.Start 0 (record { first = 5; count = 1 }) 2 } ∷
    record { actor = 0; kind = Kind.End 0 (record { first = 5; count = 1 }) 2 } ∷
    record { actor = 0; kind = Kind.Protected 0 (record { first = 5; count = 1 }) Rights.Read } ∷
    record { actor = 0; kind = Kind.Wlock 0 } ∷
    record { actor = 0; kind = Kind.Start 0 (record { first = 7; count = 1 }) 2 } ∷
    record { actor = 0; kind = Kind.End 0 (record { first = 7; count = 1 }) 2 } ∷
    record { actor = 0; kind = Kind.Protected 0 (record { first = 7; count = 1 }) Rights.Read } ∷
    record { actor = 0; kind = Kind.Wlock 0 } ∷
    record { actor = 0; kind = Kind.Start 0 (record { first = 9; count = 1 }) 2 } ∷
    record { actor = 0; kind = Kind.End 0 (record { first = 9; count = 1 }) 2 } ∷
    record { actor = 0; kind = Kind.Protected 0 (record { first = 9; count = 1 }) Rights.Read } ∷
    record { actor = 0; kind = Kind.Wlock 0 } ∷
    record { actor = 0; kind = Kind.Start 0 (record { first = 11; count = 1 }) 2 } ∷
    record { actor = 0; kind = Kind.End 0 (record { first = 11; count = 1 }) 2 } ∷
    record { actor = 0; kind = Kind.Protected 0 (record { first = 11; count = 1 }) Rights.Read } ∷
    record { actor = 0; kind = Kind.Wlock 0 } ∷
    record { actor = 0; kind = Kind.Start 0 (record { first = 13; count = 1 }) 2 } ∷
    record { actor = 0; kind = Kind.End 0 (record { first = 13; count = 1 }) 2 } ∷
    record { actor = 0; kind = Kind.Protected 0 (record { first = 13; count = 1 }) Rights.Read } ∷
    record { actor = 0; kind = Kind.Wlock 0 } ∷
    record { actor = 0; kind = Kind.Start 0 (record { first = 15; count = 1 }) 2 } ∷
    record { actor = 0; kind = Kind.End 0 (record { first = 15; count = 1 }) 2 } ∷
    record { actor = 0; kind = Kind.Protected 0 (record { first = 15; count = 1 }) Rights.Read } ∷
    record { actor = 0; kind = Kind.Wlock 0 } ∷
    record { actor = 0; kind = Kind.Start 0 (record { first = 17; count = 1 }) 2 } ∷
    record { actor = 0; kind = Kind.End 0 (record { first = 17; count = 1 }) 2 } ∷
    record { actor = 0; kind = Kind.Protected 0 (record { first = 17; count = 1 }) Rights.Read } ∷
    record { actor = 0; kind = Kind.Wlock 0 } ∷
    record { actor = 0; kind = Kind.Start 0 (record { first = 19; count = 1 }) 2 } ∷
    record { actor = 0; kind = Kind.End 0 (record { first = 19; count = 1 }) 2 } ∷
    record { actor = 0; kind = Kind.Protected 0 (record { first = 19; count = 1 }) Rights.Read } ∷
    record { actor = 0; kind = Kind.Wlock 0 } ∷
    record { actor = 0; kind = Kind.Start 0 (record { first = 21; count = 1 }) 2 } ∷
    record { actor = 0; kind = Kind.End 0 (record { first = 21; count = 1 }) 2 } ∷
    record { actor = 0; kind = Kind.Protected 0 (record { first = 21; count = 1 }) Rights.Read } ∷
    record { actor = 0; kind = Kind.Wlock 0 } ∷
    record { actor = 0; kind = Kind.Start 0 (record { first = 23; count = 1 }) 2 } ∷
    record { actor = 0; kind = Kind.End 0 (record { first = 23; count = 1 }) 2 } ∷
    record { actor = 0; kind = Kind.Protected 0 (record { first = 23; count = 1 }) Rights.Read } ∷
    record { actor = 0; kind = Kind.Wlock 0 } ∷
    record { actor = 0; kind = Kind.Start 0 (record { first = 25; count = 1 }) 2 } ∷
    record { actor = 0; kind = Kind.End 0 (record { first = 25; count = 1 }) 2 } ∷
    record { actor = 0; kind = Kind.Protected 0 (record { first = 25; count = 1 }) Rights.Read } ∷
    record { actor = 0; kind = Kind.Wlock 0 } ∷
    record { actor = 0; kind = Kind.Start 0 (record { first = 27; count = 1 }) 2 } ∷
    record { actor = 0; kind = Kind.End 0 (record { first = 27; count = 1 }) 2 } ∷
    record { actor = 0; kind = Kind.Protected 0 (record { first = 27; count = 1 }) Rights.Read } ∷
    record { actor = 0; kind = Kind.Wlock 0 } ∷
    record { actor = 0; kind = Kind.Start 0 (record { first = 29; count = 1 }) 2 } ∷
    record { actor = 0; kind = Kind.End 0 (record { first = 29; count = 1 }) 2 } ∷
    record { actor = 0; kind = Kind.Protected 0 (record { first = 29; count = 1 }) Rights.Read } ∷
    record { actor = 0; kind = Kind.Wlock 0 } ∷
    record { actor = 0; kind = Kind.Start 0 (record { first = 31; count = 1 }) 2 } ∷
    record { actor = 0; kind = Kind.End 0 (record { first = 31; count = 1 }) 2 } ∷
    record { actor = 0; kind = Kind.Protected 0 (record { first = 31; count = 1 }) Rights.Read } ∷
    record { actor = 0; kind = Kind.Wlock 0 } ∷
    record { actor = 0; kind = Kind.Start 0 (record { first = 33; count = 1 }) 2 } ∷
    record { actor = 0; kind = Kind.End 0 (record { first = 33; count = 1 }) 2 } ∷
    record { actor = 0; kind = Kind.Protected 0 (record { first = 33; count = 1 }) Rights.Read } ∷
    record { actor = 0; kind = Kind.Wlock 0 } ∷
    record { actor = 0; kind = Kind.Start 0 (record { first = 35; count = 1 }) 2 } ∷
    record { actor = 0; kind = Kind.End 0 (record { first = 35; count = 1 }) 2 } ∷
    record { actor = 0; kind = Kind.Protected 0 (record { first = 35; count = 1 }) Rights.Read } ∷
    record { actor = 0; kind = Kind.Wlock 0 } ∷
    record { actor = 0; kind = Kind.Start 0 (record { first = 37; count = 1 }) 2 } ∷
    record { actor = 0; kind = Kind.End 0 (record { first = 37; count = 1 }) 2 } ∷
    record { actor = 0; kind = Kind.Protected 0 (record { first = 37; count = 1 }) Rights.Read } ∷
    record { actor = 0; kind = Kind.Wlock 0 } ∷
    record { actor = 0; kind = Kind.Start 0 (record { first = 39; count = 1 }) 2 } ∷
    record { actor = 0; kind = Kind.End 0 (record { first = 39; count = 1 }) 2 } ∷
    record { actor = 0; kind = Kind.Protected 0 (record { first = 39; count = 1 }) Rights.Read } ∷
    record { actor = 0; kind = Kind.Wlock 0 } ∷
    record { actor = 0; kind = Kind.Start 0 (record { first = 41; count = 1 }) 2 } ∷
    record { actor = 0; kind = Kind.End 0 (record { first = 41; count = 1 }) 2 } ∷
    record { actor = 0; kind = Kind.Protected 0 (record { first = 41; count = 1 }) Rights.Read } ∷
    record { actor = 0; kind = Kind.Wlock 0 } ∷
    record { actor = 0; kind = Kind.Start 0 (record { first = 43; count = 1 }) 2 } ∷
    record { actor = 0; kind = Kind.End 0 (record { first = 43; count = 1 }) 2 } ∷
    record { actor = 0; kind = Kind.Protected 0 (record { first = 43; count = 1 }) Rights.Read } ∷
    record { actor = 0; kind = Kind.Wlock 0 } ∷
    record { actor = 0; kind = Kind.Start 0 (record { first = 45; count = 1 }) 2 } ∷
    record { actor = 0; kind = Kind.End 0 (record { first = 45; count = 1 }) 2 } ∷
    record { actor = 0; kind = Kind.Protected 0 (record { first = 45; count = 1 }) Rights.Read } ∷
    record { actor = 0; kind = Kind.Wlock 0 } ∷
    record { actor = 0; kind = Kind.Start 0 (record { first = 47; count = 1 }) 2 } ∷
    record { actor = 0; kind = Kind.End 0 (record { first = 47; count = 1 }) 2 } ∷
    record { actor = 0; kind = Kind.Protected 0 (record { first = 47; count = 1 }) Rights.Read } ∷
    record { actor = 0; kind = Kind.Wlock 0 } ∷
    record { actor = 0; kind = Kind.Start 0 (record { first = 49; count = 1 }) 2 } ∷
    record { actor = 0; kind = Kind.End 0 (record { first = 49; count = 1 }) 2 } ∷
    record { actor = 0; kind = Kind.Protected 0 (record { first = 49; count = 1 }) Rights.Read } ∷
    record { actor = 0; kind = Kind.Wlock 0 } ∷
    record { actor = 0; kind = Kind.Start 0 (record { first = 51; count = 1 }) 2 } ∷
    record { actor = 0; kind = Kind.End 0 (record { first = 51; count = 1 }) 2 } ∷
    record { actor = 0; kind = Kind.Protected 0 (record { first = 51; count = 1 }) Rights.Read } ∷
    record { actor = 0; kind = Kind.Wlock 0 } ∷
    record { actor = 0; kind = Kind.Start 0 (record { first = 53; count = 1 }) 2 } ∷
    record { actor = 0; kind = Kind.End 0 (record { first = 53; count = 1 }) 2 } ∷
    record { actor = 0; kind = Kind.Protected 0 (record { first = 53; count = 1 }) Rights.Read } ∷
    record { actor = 0; kind = Kind.Wlock 0 } ∷
    record { actor = 0; kind = Kind.Start 0 (record { first = 55; count = 1 }) 2 } ∷
    record { actor = 0; kind = Kind.End 0 (record { first = 55; count = 1 }) 2 } ∷
    record { actor = 0; kind = Kind.Protected 0 (record { first = 55; count = 1 }) Rights.Read } ∷
    record { actor = 0; kind = Kind.Wlock 0 } ∷
    record { actor = 0; kind = Kind.Start 0 (record { first = 57; count = 1 }) 2 } ∷
    record { actor = 0; kind = Kind.End 0 (record { first = 57; count = 1 }) 2 } ∷
    record { actor = 0; kind = Kind.Protected 0 (record { first = 57; count = 1 }) Rights.Read } ∷
    record { actor = 0; kind = Kind.Wlock 0 } ∷
    record { actor = 0; kind = Kind.Start 0 (record { first = 59; count = 1 }) 2 } ∷
    record { actor = 0; kind = Kind.End 0 (record { first = 59; count = 1 }) 2 } ∷
    record { actor = 0; kind = Kind.Protected 0 (record { first = 59; count = 1 }) Rights.Read } ∷
    record { actor = 0; kind = Kind.Wlock 0 } ∷
    record { actor = 0; kind = Kind.Start 0 (record { first = 61; count = 1 }) 2 } ∷
    record { actor = 0; kind = Kind.End 0 (record { first = 61; count = 1 }) 2 } ∷
    record { actor = 0; kind = Kind.Protected 0 (record { first = 61; count = 1 }) Rights.Read } ∷
    record { actor = 0; kind = Kind.Wlock 0 } ∷
    record { actor = 0; kind = Kind.Mapped 0 (record { first = 100; count = 1 }) Rights.ReadWrite } ∷
    record { actor = 0; kind = Kind.Wlock 0 } ∷
    record { actor = 0; kind = Kind.Refused Cause.TooManyAreas } ∷
    record { actor = 0; kind = Kind.Wlock 0 } ∷
    record { actor = 0; kind = Kind.Refused Cause.TooManyAreas } ∷
    record { actor = 0; kind = Kind.Wlock 0 } ∷
    record { actor = 0; kind = Kind.Refused Cause.TooManyAreas } ∷
    record { actor = 0; kind = Kind.Wlock 0 } ∷
    record { actor = 0; kind = Kind.Start 0 (record { first = 0; count = 1 }) 2 } ∷
    record { actor = 0; kind = Kind.End 0 (record { first = 0; count = 1 }) 2 } ∷
    record { actor = 0; kind = Kind.Unmapped 0 (record { first = 0; count = 1 }) } ∷
    record { actor = 0; kind = Kind.Wlock 0 } ∷
    record { actor = 0; kind = Kind.Mapped 0 (record { first = 200; count = 1 }) Rights.ReadWrite } ∷ []

runs : run script ≡ history
runs = refl

legal : Legal script history
legal = (
  record { is_due = refl; rules = record { answers = refl; places = refl; frames = refl; sequences = refl; untold = refl; guarded = refl }; kept = refl },
  (
    record { is_due = refl; rules = record { answers = refl; places = refl; frames = refl; sequences = refl; untold = refl; guarded = refl }; kept = refl },
    (
      record { is_due = refl; rules = record { answers = refl; places = refl; frames = refl; sequences = refl; untold = refl; guarded = refl }; kept = refl },
      (
        record { is_due = refl; rules = record { answers = refl; places = refl; frames = refl; sequences = refl; untold = refl; guarded = refl }; kept = refl },
        (
          record { is_due = refl; rules = record { answers = refl; places = refl; frames = refl; sequences = refl; untold = refl; guarded = refl }; kept = refl },
          (
            record { is_due = refl; rules = record { answers = refl; places = refl; frames = refl; sequences = refl; untold = refl; guarded = refl }; kept = refl },
            (
              record { is_due = refl; rules = record { answers = refl; places = refl; frames = refl; sequences = refl; untold = refl; guarded = refl }; kept = refl },
              (
                record { is_due = refl; rules = record { answers = refl; places = refl; frames = refl; sequences = refl; untold = refl; guarded = refl }; kept = refl },
                (
                  record { is_due = refl; rules = record { answers = refl; places = refl; frames = refl; sequences = refl; untold = refl; guarded = refl }; kept = refl },
                  (
                    record { is_due = refl; rules = record { answers = refl; places = refl; frames = refl; sequences = refl; untold = refl; guarded = refl }; kept = refl },
                    (
                      record { is_due = refl; rules = record { answers = refl; places = refl; frames = refl; sequences = refl; untold = refl; guarded = refl }; kept = refl },
                      (
                        record { is_due = refl; rules = record { answers = refl; places = refl; frames = refl; sequences = refl; untold = refl; guarded = refl }; kept = refl },
                        (
                          record { is_due = refl; rules = record { answers = refl; places = refl; frames = refl; sequences = refl; untold = refl; guarded = refl }; kept = refl },
                          (
                            record { is_due = refl; rules = record { answers = refl; places = refl; frames = refl; sequences = refl; untold = refl; guarded = refl }; kept = refl },
                            (
                              record { is_due = refl; rules = record { answers = refl; places = refl; frames = refl; sequences = refl; untold = refl; guarded = refl }; kept = refl },
                              (
                                record { is_due = refl; rules = record { answers = refl; places = refl; frames = refl; sequences = refl; untold = refl; guarded = refl }; kept = refl },
                                (
                                  record { is_due = refl; rules = record { answers = refl; places = refl; frames = refl; sequences = refl; untold = refl; guarded = refl }; kept = refl },
                                  (
                                    record { is_due = refl; rules = record { answers = refl; places = refl; frames = refl; sequences = refl; untold = refl; guarded = refl }; kept = refl },
                                    (
                                      record { is_due = refl; rules = record { answers = refl; places = refl; frames = refl; sequences = refl; untold = refl; guarded = refl }; kept = refl },
                                      (
                                        record { is_due = refl; rules = record { answers = refl; places = refl; frames = refl; sequences = refl; untold = refl; guarded = refl }; kept = refl },
                                        (
                                          record { is_due = refl; rules = record { answers = refl; places = refl; frames = refl; sequences = refl; untold = refl; guarded = refl }; kept = refl },
                                          (
                                            record { is_due = refl; rules = record { answers = refl; places = refl; frames = refl; sequences = refl; untold = refl; guarded = refl }; kept = refl },
                                            (
                                              record { is_due = refl; rules = record { answers = refl; places = refl; frames = refl; sequences = refl; untold = refl; guarded = refl }; kept = refl },
                                              (
                                                record { is_due = refl; rules = record { answers = refl; places = refl; frames = refl; sequences = refl; untold = refl; guarded = refl }; kept = refl },
                                                (
                                                  record { is_due = refl; rules = record { answers = refl; places = refl; frames = refl; sequences = refl; untold = refl; guarded = refl }; kept = refl },
                                                  (
                                                    record { is_due = refl; rules = record { answers = refl; places = refl; frames = refl; sequences = refl; untold = refl; guarded = refl }; kept = refl },
                                                    (
                                                      record { is_due = refl; rules = record { answers = refl; places = refl; frames = refl; sequences = refl; untold = refl; guarded = refl }; kept = refl },
                                                      (
                                                        record { is_due = refl; rules = record { answers = refl; places = refl; frames = refl; sequences = refl; untold = refl; guarded = refl }; kept = refl },
                                                        (
                                                          record { is_due = refl; rules = record { answers = refl; places = refl; frames = refl; sequences = refl; untold = refl; guarded = refl }; kept = refl },
                                                          (
                                                            record { is_due = refl; rules = record { answers = refl; places = refl; frames = refl; sequences = refl; untold = refl; guarded = refl }; kept = refl },
                                                            (
                                                              record { is_due = refl; rules = record { answers = refl; places = refl; frames = refl; sequences = refl; untold = refl; guarded = refl }; kept = refl },
                                                              (
                                                                record { is_due = refl; rules = record { answers = refl; places = refl; frames = refl; sequences = refl; untold = refl; guarded = refl }; kept = refl },
                                                                (
                                                                  record { is_due = refl; rules = record { answers = refl; places = refl; frames = refl; sequences = refl; untold = refl; guarded = refl }; kept = refl },
                                                                  (
                                                                    record { is_due = refl; rules = record { answers = refl; places = refl; frames = refl; sequences = refl; untold = refl; guarded = refl }; kept = refl },
                                                                    (
                                                                      record { is_due = refl; rules = record { answers = refl; places = refl; frames = refl; sequences = refl; untold = refl; guarded = refl }; kept = refl },
                                                                      (
                                                                        record { is_due = refl; rules = record { answers = refl; places = refl; frames = refl; sequences = refl; untold = refl; guarded = refl }; kept = refl },
                                                                        (
                                                                          record { is_due = refl; rules = record { answers = refl; places = refl; frames = refl; sequences = refl; untold = refl; guarded = refl }; kept = refl },
                                                                          (
                                                                            record { is_due = refl; rules = record { answers = refl; places = refl; frames = refl; sequences = refl; untold = refl; guarded = refl }; kept = refl },
                                                                            (
                                                                              record { is_due = refl; rules = record { answers = refl; places = refl; frames = refl; sequences = refl; untold = refl; guarded = refl }; kept = refl },
                                                                              (
                                                                                record { is_due = refl; rules = record { answers = refl; places = refl; frames = refl; sequences = refl; untold = refl; guarded = refl }; kept = refl },
                                                                                (
                                                                                  record { is_due = refl; rules = record { answers = refl; places = refl; frames = refl; sequences = refl; untold = refl; guarded = refl }; kept = refl },
                                                                                  (
                                                                                    record { is_due = refl; rules = record { answers = refl; places = refl; frames = refl; sequences = refl; untold = refl; guarded = refl }; kept = refl },
                                                                                    (
                                                                                      record { is_due = refl; rules = record { answers = refl; places = refl; frames = refl; sequences = refl; untold = refl; guarded = refl }; kept = refl },
                                                                                      (
                                                                                        record { is_due = refl; rules = record { answers = refl; places = refl; frames = refl; sequences = refl; untold = refl; guarded = refl }; kept = refl },
                                                                                        (
                                                                                          record { is_due = refl; rules = record { answers = refl; places = refl; frames = refl; sequences = refl; untold = refl; guarded = refl }; kept = refl },
                                                                                          (
                                                                                            record { is_due = refl; rules = record { answers = refl; places = refl; frames = refl; sequences = refl; untold = refl; guarded = refl }; kept = refl },
                                                                                            (
                                                                                              record { is_due = refl; rules = record { answers = refl; places = refl; frames = refl; sequences = refl; untold = refl; guarded = refl }; kept = refl },
                                                                                              (
                                                                                                record { is_due = refl; rules = record { answers = refl; places = refl; frames = refl; sequences = refl; untold = refl; guarded = refl }; kept = refl },
                                                                                                (
                                                                                                  record { is_due = refl; rules = record { answers = refl; places = refl; frames = refl; sequences = refl; untold = refl; guarded = refl }; kept = refl },
                                                                                                  (
                                                                                                    record { is_due = refl; rules = record { answers = refl; places = refl; frames = refl; sequences = refl; untold = refl; guarded = refl }; kept = refl },
                                                                                                    (
                                                                                                      record { is_due = refl; rules = record { answers = refl; places = refl; frames = refl; sequences = refl; untold = refl; guarded = refl }; kept = refl },
                                                                                                      (
                                                                                                        record { is_due = refl; rules = record { answers = refl; places = refl; frames = refl; sequences = refl; untold = refl; guarded = refl }; kept = refl },
                                                                                                        (
                                                                                                          record { is_due = refl; rules = record { answers = refl; places = refl; frames = refl; sequences = refl; untold = refl; guarded = refl }; kept = refl },
                                                                                                          (
                                                                                                            record { is_due = refl; rules = record { answers = refl; places = refl; frames = refl; sequences = refl; untold = refl; guarded = refl }; kept = refl },
                                                                                                            (
                                                                                                              record { is_due = refl; rules = record { answers = refl; places = refl; frames = refl; sequences = refl; untold = refl; guarded = refl }; kept = refl },
                                                                                                              (
                                                                                                                record { is_due = refl; rules = record { answers = refl; places = refl; frames = refl; sequences = refl; untold = refl; guarded = refl }; kept = refl },
                                                                                                                (
                                                                                                                  record { is_due = refl; rules = record { answers = refl; places = refl; frames = refl; sequences = refl; untold = refl; guarded = refl }; kept = refl },
                                                                                                                  (
                                                                                                                    record { is_due = refl; rules = record { answers = refl; places = refl; frames = refl; sequences = refl; untold = refl; guarded = refl }; kept = refl },
                                                                                                                    (
                                                                                                                      record { is_due = refl; rules = record { answers = refl; places = refl; frames = refl; sequences = refl; untold = refl; guarded = refl }; kept = refl },
                                                                                                                      (
                                                                                                                        record { is_due = refl; rules = record { answers = refl; places = refl; frames = refl; sequences = refl; untold = refl; guarded = refl }; kept = refl },
                                                                                                                        (
                                                                                                                          record { is_due = refl; rules = record { answers = refl; places = refl; frames = refl; sequences = refl; untold = refl; guarded = refl }; kept = refl },
                                                                                                                          (
                                                                                                                            record { is_due = refl; rules = record { answers = refl; places = refl; frames = refl; sequences = refl; untold = refl; guarded = refl }; kept = refl },
                                                                                                                            (
                                                                                                                              record { is_due = refl; rules = record { answers = refl; places = refl; frames = refl; sequences = refl; untold = refl; guarded = refl }; kept = refl },
                                                                                                                              (
                                                                                                                                record { is_due = refl; rules = record { answers = refl; places = refl; frames = refl; sequences = refl; untold = refl; guarded = refl }; kept = refl },
                                                                                                                                (
                                                                                                                                  record { is_due = refl; rules = record { answers = refl; places = refl; frames = refl; sequences = refl; untold = refl; guarded = refl }; kept = refl },
                                                                                                                                  (
                                                                                                                                    record { is_due = refl; rules = record { answers = refl; places = refl; frames = refl; sequences = refl; untold = refl; guarded = refl }; kept = refl },
                                                                                                                                    (
                                                                                                                                      record { is_due = refl; rules = record { answers = refl; places = refl; frames = refl; sequences = refl; untold = refl; guarded = refl }; kept = refl },
                                                                                                                                      (
                                                                                                                                        record { is_due = refl; rules = record { answers = refl; places = refl; frames = refl; sequences = refl; untold = refl; guarded = refl }; kept = refl },
                                                                                                                                        (
                                                                                                                                          record { is_due = refl; rules = record { answers = refl; places = refl; frames = refl; sequences = refl; untold = refl; guarded = refl }; kept = refl },
                                                                                                                                          (
                                                                                                                                            record { is_due = refl; rules = record { answers = refl; places = refl; frames = refl; sequences = refl; untold = refl; guarded = refl }; kept = refl },
                                                                                                                                            (
                                                                                                                                              record { is_due = refl; rules = record { answers = refl; places = refl; frames = refl; sequences = refl; untold = refl; guarded = refl }; kept = refl },
                                                                                                                                              (
                                                                                                                                                record { is_due = refl; rules = record { answers = refl; places = refl; frames = refl; sequences = refl; untold = refl; guarded = refl }; kept = refl },
                                                                                                                                                (
                                                                                                                                                  record { is_due = refl; rules = record { answers = refl; places = refl; frames = refl; sequences = refl; untold = refl; guarded = refl }; kept = refl },
                                                                                                                                                  (
                                                                                                                                                    record { is_due = refl; rules = record { answers = refl; places = refl; frames = refl; sequences = refl; untold = refl; guarded = refl }; kept = refl },
                                                                                                                                                    (
                                                                                                                                                      record { is_due = refl; rules = record { answers = refl; places = refl; frames = refl; sequences = refl; untold = refl; guarded = refl }; kept = refl },
                                                                                                                                                      (
                                                                                                                                                        record { is_due = refl; rules = record { answers = refl; places = refl; frames = refl; sequences = refl; untold = refl; guarded = refl }; kept = refl },
                                                                                                                                                        (
                                                                                                                                                          record { is_due = refl; rules = record { answers = refl; places = refl; frames = refl; sequences = refl; untold = refl; guarded = refl }; kept = refl },
                                                                                                                                                          (
                                                                                                                                                            record { is_due = refl; rules = record { answers = refl; places = refl; frames = refl; sequences = refl; untold = refl; guarded = refl }; kept = refl },
                                                                                                                                                            (
                                                                                                                                                              record { is_due = refl; rules = record { answers = refl; places = refl; frames = refl; sequences = refl; untold = refl; guarded = refl }; kept = refl },
                                                                                                                                                              (
                                                                                                                                                                record { is_due = refl; rules = record { answers = refl; places = refl; frames = refl; sequences = refl; untold = refl; guarded = refl }; kept = refl },
                                                                                                                                                                (
                                                                                                                                                                  record { is_due = refl; rules = record { answers = refl; places = refl; frames = refl; sequences = refl; untold = refl; guarded = refl }; kept = refl },
                                                                                                                                                                  (
                                                                                                                                                                    record { is_due = refl; rules = record { answers = refl; places = refl; frames = refl; sequences = refl; untold = refl; guarded = refl }; kept = refl },
                                                                                                                                                                    (
                                                                                                                                                                      record { is_due = refl; rules = record { answers = refl; places = refl; frames = refl; sequences = refl; untold = refl; guarded = refl }; kept = refl },
                                                                                                                                                                      (
                                                                                                                                                                        record { is_due = refl; rules = record { answers = refl; places = refl; frames = refl; sequences = refl; untold = refl; guarded = refl }; kept = refl },
                                                                                                                                                                        (
                                                                                                                                                                          record { is_due = refl; rules = record { answers = refl; places = refl; frames = refl; sequences = refl; untold = refl; guarded = refl }; kept = refl },
                                                                                                                                                                          (
                                                                                                                                                                            record { is_due = refl; rules = record { answers = refl; places = refl; frames = refl; sequences = refl; untold = refl; guarded = refl }; kept = refl },
                                                                                                                                                                            (
                                                                                                                                                                              record { is_due = refl; rules = record { answers = refl; places = refl; frames = refl; sequences = refl; untold = refl; guarded = refl }; kept = refl },
                                                                                                                                                                              (
                                                                                                                                                                                record { is_due = refl; rules = record { answers = refl; places = refl; frames = refl; sequences = refl; untold = refl; guarded = refl }; kept = refl },
                                                                                                                                                                                (
                                                                                                                                                                                  record { is_due = refl; rules = record { answers = refl; places = refl; frames = refl; sequences = refl; untold = refl; guarded = refl }; kept = refl },
                                                                                                                                                                                  (
                                                                                                                                                                                    record { is_due = refl; rules = record { answers = refl; places = refl; frames = refl; sequences = refl; untold = refl; guarded = refl }; kept = refl },
                                                                                                                                                                                    (
                                                                                                                                                                                      record { is_due = refl; rules = record { answers = refl; places = refl; frames = refl; sequences = refl; untold = refl; guarded = refl }; kept = refl },
                                                                                                                                                                                      (
                                                                                                                                                                                        record { is_due = refl; rules = record { answers = refl; places = refl; frames = refl; sequences = refl; untold = refl; guarded = refl }; kept = refl },
                                                                                                                                                                                        (
                                                                                                                                                                                          record { is_due = refl; rules = record { answers = refl; places = refl; frames = refl; sequences = refl; untold = refl; guarded = refl }; kept = refl },
                                                                                                                                                                                          (
                                                                                                                                                                                            record { is_due = refl; rules = record { answers = refl; places = refl; frames = refl; sequences = refl; untold = refl; guarded = refl }; kept = refl },
                                                                                                                                                                                            (
                                                                                                                                                                                              record { is_due = refl; rules = record { answers = refl; places = refl; frames = refl; sequences = refl; untold = refl; guarded = refl }; kept = refl },
                                                                                                                                                                                              (
                                                                                                                                                                                                record { is_due = refl; rules = record { answers = refl; places = refl; frames = refl; sequences = refl; untold = refl; guarded = refl }; kept = refl },
                                                                                                                                                                                                (
                                                                                                                                                                                                  record { is_due = refl; rules = record { answers = refl; places = refl; frames = refl; sequences = refl; untold = refl; guarded = refl }; kept = refl },
                                                                                                                                                                                                  (
                                                                                                                                                                                                    record { is_due = refl; rules = record { answers = refl; places = refl; frames = refl; sequences = refl; untold = refl; guarded = refl }; kept = refl },
                                                                                                                                                                                                    (
                                                                                                                                                                                                      record { is_due = refl; rules = record { answers = refl; places = refl; frames = refl; sequences = refl; untold = refl; guarded = refl }; kept = refl },
                                                                                                                                                                                                      (
                                                                                                                                                                                                        record { is_due = refl; rules = record { answers = refl; places = refl; frames = refl; sequences = refl; untold = refl; guarded = refl }; kept = refl },
                                                                                                                                                                                                        (
                                                                                                                                                                                                          record { is_due = refl; rules = record { answers = refl; places = refl; frames = refl; sequences = refl; untold = refl; guarded = refl }; kept = refl },
                                                                                                                                                                                                          (
                                                                                                                                                                                                            record { is_due = refl; rules = record { answers = refl; places = refl; frames = refl; sequences = refl; untold = refl; guarded = refl }; kept = refl },
                                                                                                                                                                                                            (
                                                                                                                                                                                                              record { is_due = refl; rules = record { answers = refl; places = refl; frames = refl; sequences = refl; untold = refl; guarded = refl }; kept = refl },
                                                                                                                                                                                                              (
                                                                                                                                                                                                                record { is_due = refl; rules = record { answers = refl; places = refl; frames = refl; sequences = refl; untold = refl; guarded = refl }; kept = refl },
                                                                                                                                                                                                                (
                                                                                                                                                                                                                  record { is_due = refl; rules = record { answers = refl; places = refl; frames = refl; sequences = refl; untold = refl; guarded = refl }; kept = refl },
                                                                                                                                                                                                                  (
                                                                                                                                                                                                                    record { is_due = refl; rules = record { answers = refl; places = refl; frames = refl; sequences = refl; untold = refl; guarded = refl }; kept = refl },
                                                                                                                                                                                                                    (
                                                                                                                                                                                                                      record { is_due = refl; rules = record { answers = refl; places = refl; frames = refl; sequences = refl; untold = refl; guarded = refl }; kept = refl },
                                                                                                                                                                                                                      (
                                                                                                                                                                                                                        record { is_due = refl; rules = record { answers = refl; places = refl; frames = refl; sequences = refl; untold = refl; guarded = refl }; kept = refl },
                                                                                                                                                                                                                        (
                                                                                                                                                                                                                          record { is_due = refl; rules = record { answers = refl; places = refl; frames = refl; sequences = refl; untold = refl; guarded = refl }; kept = refl },
                                                                                                                                                                                                                          (
                                                                                                                                                                                                                            record { is_due = refl; rules = record { answers = refl; places = refl; frames = refl; sequences = refl; untold = refl; guarded = refl }; kept = refl },
                                                                                                                                                                                                                            (
                                                                                                                                                                                                                              record { is_due = refl; rules = record { answers = refl; places = refl; frames = refl; sequences = refl; untold = refl; guarded = refl }; kept = refl },
                                                                                                                                                                                                                              (
                                                                                                                                                                                                                                record { is_due = refl; rules = record { answers = refl; places = refl; frames = refl; sequences = refl; untold = refl; guarded = refl }; kept = refl },
                                                                                                                                                                                                                                (
                                                                                                                                                                                                                                  record { is_due = refl; rules = record { answers = refl; places = refl; frames = refl; sequences = refl; untold = refl; guarded = refl }; kept = refl },
                                                                                                                                                                                                                                  (
                                                                                                                                                                                                                                    record { is_due = refl; rules = record { answers = refl; places = refl; frames = refl; sequences = refl; untold = refl; guarded = refl }; kept = refl },
                                                                                                                                                                                                                                    (
                                                                                                                                                                                                                                      record { is_due = refl; rules = record { answers = refl; places = refl; frames = refl; sequences = refl; untold = refl; guarded = refl }; kept = refl },
                                                                                                                                                                                                                                      (
                                                                                                                                                                                                                                        record { is_due = refl; rules = record { answers = refl; places = refl; frames = refl; sequences = refl; untold = refl; guarded = refl }; kept = refl },
                                                                                                                                                                                                                                        (
                                                                                                                                                                                                                                          record { is_due = refl; rules = record { answers = refl; places = refl; frames = refl; sequences = refl; untold = refl; guarded = refl }; kept = refl },
                                                                                                                                                                                                                                          (
                                                                                                                                                                                                                                            record { is_due = refl; rules = record { answers = refl; places = refl; frames = refl; sequences = refl; untold = refl; guarded = refl }; kept = refl },
                                                                                                                                                                                                                                            (
                                                                                                                                                                                                                                              record { is_due = refl; rules = record { answers = refl; places = refl; frames = refl; sequences = refl; untold = refl; guarded = refl }; kept = refl },
                                                                                                                                                                                                                                              (
                                                                                                                                                                                                                                                record { is_due = refl; rules = record { answers = refl; places = refl; frames = refl; sequences = refl; untold = refl; guarded = refl }; kept = refl },
                                                                                                                                                                                                                                                (
                                                                                                                                                                                                                                                  record { is_due = refl; rules = record { answers = refl; places = refl; frames = refl; sequences = refl; untold = refl; guarded = refl }; kept = refl },
                                                                                                                                                                                                                                                  (
                                                                                                                                                                                                                                                    record { is_due = refl; rules = record { answers = refl; places = refl; frames = refl; sequences = refl; untold = refl; guarded = refl }; kept = refl },
                                                                                                                                                                                                                                                    (
                                                                                                                                                                                                                                                      record { is_due = refl; rules = record { answers = refl; places = refl; frames = refl; sequences = refl; untold = refl; guarded = refl }; kept = refl },
                                                                                                                                                                                                                                                      (
                                                                                                                                                                                                                                                        record { is_due = refl; rules = record { answers = refl; places = refl; frames = refl; sequences = refl; untold = refl; guarded = refl }; kept = refl },
                                                                                                                                                                                                                                                        (
                                                                                                                                                                                                                                                          record { is_due = refl; rules = record { answers = refl; places = refl; frames = refl; sequences = refl; untold = refl; guarded = refl }; kept = refl },
                                                                                                                                                                                                                                                          (
                                                                                                                                                                                                                                                            record { is_due = refl; rules = record { answers = refl; places = refl; frames = refl; sequences = refl; untold = refl; guarded = refl }; kept = refl },
                                                                                                                                                                                                                                                            (
                                                                                                                                                                                                                                                              record { is_due = refl; rules = record { answers = refl; places = refl; frames = refl; sequences = refl; untold = refl; guarded = refl }; kept = refl },
                                                                                                                                                                                                                                                              (
                                                                                                                                                                                                                                                                record { is_due = refl; rules = record { answers = refl; places = refl; frames = refl; sequences = refl; untold = refl; guarded = refl }; kept = refl },
                                                                                                                                                                                                                                                                (
                                                                                                                                                                                                                                                                  record { is_due = refl; rules = record { answers = refl; places = refl; frames = refl; sequences = refl; untold = refl; guarded = refl }; kept = refl },
                                                                                                                                                                                                                                                                  (
                                                                                                                                                                                                                                                                    record { is_due = refl; rules = record { answers = refl; places = refl; frames = refl; sequences = refl; untold = refl; guarded = refl }; kept = refl },
                                                                                                                                                                                                                                                                    (
                                                                                                                                                                                                                                                                      record { is_due = refl; rules = record { answers = refl; places = refl; frames = refl; sequences = refl; untold = refl; guarded = refl }; kept = refl },
                                                                                                                                                                                                                                                                      (
                                                                                                                                                                                                                                                                        record { is_due = refl; rules = record { answers = refl; places = refl; frames = refl; sequences = refl; untold = refl; guarded = refl }; kept = refl },
                                                                                                                                                                                                                                                                        (
                                                                                                                                                                                                                                                                          record { is_due = refl; rules = record { answers = refl; places = refl; frames = refl; sequences = refl; untold = refl; guarded = refl }; kept = refl },
                                                                                                                                                                                                                                                                          (
                                                                                                                                                                                                                                                                            record { is_due = refl; rules = record { answers = refl; places = refl; frames = refl; sequences = refl; untold = refl; guarded = refl }; kept = refl },
                                                                                                                                                                                                                                                                            (
                                                                                                                                                                                                                                                                              record { is_due = refl; rules = record { answers = refl; places = refl; frames = refl; sequences = refl; untold = refl; guarded = refl }; kept = refl },
                                                                                                                                                                                                                                                                              (
                                                                                                                                                                                                                                                                                record { is_due = refl; rules = record { answers = refl; places = refl; frames = refl; sequences = refl; untold = refl; guarded = refl }; kept = refl },
                                                                                                                                                                                                                                                                                (
                                                                                                                                                                                                                                                                                  record { is_due = refl; rules = record { answers = refl; places = refl; frames = refl; sequences = refl; untold = refl; guarded = refl }; kept = refl },
                                                                                                                                                                                                                                                                                  (
                                                                                                                                                                                                                                                                                    record { is_due = refl; rules = record { answers = refl; places = refl; frames = refl; sequences = refl; untold = refl; guarded = refl }; kept = refl },
                                                                                                                                                                                                                                                                                    (
                                                                                                                                                                                                                                                                                      record { is_due = refl; rules = record { answers = refl; places = refl; frames = refl; sequences = refl; untold = refl; guarded = refl }; kept = refl },
                                                                                                                                                                                                                                                                                      (
                                                                                                                                                                                                                                                                                        record { is_due = refl; rules = record { answers = refl; places = refl; frames = refl; sequences = refl; untold = refl; guarded = refl }; kept = refl },
                                                                                                                                                                                                                                                                                        tt,
                                                                                                                                                                                                                                                                                      ),
                                                                                                                                                                                                                                                                                    ),
                                                                                                                                                                                                                                                                                  ),
                                                                                                                                                                                                                                                                                ),
                                                                                                                                                                                                                                                                              ),
                                                                                                                                                                                                                                                                            ),
                                                                                                                                                                                                                                                                          ),
                                                                                                                                                                                                                                                                        ),
                                                                                                                                                                                                                                                                      ),
                                                                                                                                                                                                                                                                    ),
                                                                                                                                                                                                                                                                  ),
                                                                                                                                                                                                                                                                ),
                                                                                                                                                                                                                                                              ),
                                                                                                                                                                                                                                                            ),
                                                                                                                                                                                                                                                          ),
                                                                                                                                                                                                                                                        ),
                                                                                                                                                                                                                                                      ),
                                                                                                                                                                                                                                                    ),
                                                                                                                                                                                                                                                  ),
                                                                                                                                                                                                                                                ),
                                                                                                                                                                                                                                              ),
                                                                                                                                                                                                                                            ),
                                                                                                                                                                                                                                          ),
                                                                                                                                                                                                                                        ),
                                                                                                                                                                                                                                      ),
                                                                                                                                                                                                                                    ),
                                                                                                                                                                                                                                  ),
                                                                                                                                                                                                                                ),
                                                                                                                                                                                                                              ),
                                                                                                                                                                                                                            ),
                                                                                                                                                                                                                          ),
                                                                                                                                                                                                                        ),
                                                                                                                                                                                                                      ),
                                                                                                                                                                                                                    ),
                                                                                                                                                                                                                  ),
                                                                                                                                                                                                                ),
                                                                                                                                                                                                              ),
                                                                                                                                                                                                            ),
                                                                                                                                                                                                          ),
                                                                                                                                                                                                        ),
                                                                                                                                                                                                      ),
                                                                                                                                                                                                    ),
                                                                                                                                                                                                  ),
                                                                                                                                                                                                ),
                                                                                                                                                                                              ),
                                                                                                                                                                                            ),
                                                                                                                                                                                          ),
                                                                                                                                                                                        ),
                                                                                                                                                                                      ),
                                                                                                                                                                                    ),
                                                                                                                                                                                  ),
                                                                                                                                                                                ),
                                                                                                                                                                              ),
                                                                                                                                                                            ),
                                                                                                                                                                          ),
                                                                                                                                                                        ),
                                                                                                                                                                      ),
                                                                                                                                                                    ),
                                                                                                                                                                  ),
                                                                                                                                                                ),
                                                                                                                                                              ),
                                                                                                                                                            ),
                                                                                                                                                          ),
                                                                                                                                                        ),
                                                                                                                                                      ),
                                                                                                                                                    ),
                                                                                                                                                  ),
                                                                                                                                                ),
                                                                                                                                              ),
                                                                                                                                            ),
                                                                                                                                          ),
                                                                                                                                        ),
                                                                                                                                      ),
                                                                                                                                    ),
                                                                                                                                  ),
                                                                                                                                ),
                                                                                                                              ),
                                                                                                                            ),
                                                                                                                          ),
                                                                                                                        ),
                                                                                                                      ),
                                                                                                                    ),
                                                                                                                  ),
                                                                                                                ),
                                                                                                              ),
                                                                                                            ),
                                                                                                          ),
                                                                                                        ),
                                                                                                      ),
                                                                                                    ),
                                                                                                  ),
                                                                                                ),
                                                                                              ),
                                                                                            ),
                                                                                          ),
                                                                                        ),
                                                                                      ),
                                                                                    ),
                                                                                  ),
                                                                                ),
                                                                              ),
                                                                            ),
                                                                          ),
                                                                        ),
                                                                      ),
                                                                    ),
                                                                  ),
                                                                ),
                                                              ),
                                                            ),
                                                          ),
                                                        ),
                                                      ),
                                                    ),
                                                  ),
                                                ),
                                              ),
                                            ),
                                          ),
                                        ),
                                      ),
                                    ),
                                  ),
                                ),
                              ),
                            ),
                          ),
                        ),
                      ),
                    ),
                  ),
                ),
              ),
            ),
          ),
        ),
      ),
    ),
  ),
)
