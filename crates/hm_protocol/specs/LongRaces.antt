-- Races of drivers with a flaw, longer ones, for rules that no shortest race decides: of turns that were drawn, and
-- one by hand.
-- They were found by search once, and written by a program that is not kept.
use Rattle.std.specs.Prelude.{List, [], ◌∷◌}
use Rattle.hm_base.specs.Pages.{span}
use Rattle.hm_base.specs.Program.{Program}
use Rattle.hm_base.specs.declared.ops.Op.{Op}
use Rattle.hm_base.specs.declared.ops.Rights.{Rights}
use Rattle.hm_base.specs.declared.ops.Version.{Version}
use Rattle.hm_flaws.specs.declared.flaws.Flaw.{Flaw}
use Rattle.hm_protocol.specs.declared.rules.Rule.{Rule}
use Rattle.hm_protocol.specs.declared.rules.Joint.{Joint}
use Rattle.hm_protocol.specs.Races.{Race, AllComeTo, script}

-- the script told twice
abbrev pub long_told_twice : Program
long_told_twice = script Version.Two 8 (4 ∷ []) 0 (
    (Op.Map 0 (span 16 2) Rights.ReadWrite ∷ Op.Store 0 65536 (65 ∷ []) ∷ Op.Store 0 69632 (66 ∷ []) ∷
    Op.Attach 0 0 0 (span 16 2) ∷ Op.DeviceLoad 0 65536 1 ∷ Op.DeviceLoad 0 69632 1 ∷
    Op.DeviceLoad 0 65536 1 ∷ Op.DeviceLoad 0 69632 1 ∷ [])
    ∷ (Op.Protect 0 (span 16 2) Rights.Read ∷ Op.Protect 0 (span 16 2) Rights.ReadWrite ∷
    Op.Protect 0 (span 16 2) Rights.Read ∷ [])
    ∷ (Op.DeviceLoad 0 69632 1 ∷ Op.DeviceLoad 0 65536 1 ∷ [])
    ∷ [])

-- its races
abbrev pub long_told_twice_races : List Race
long_told_twice_races =
    record {
      flaw = Flaw.FirstErased;
      before = (13, 0) ∷ [];
      turns = (3, 0) ∷ (1, 1) ∷ (3, 0) ∷ (1, 2) ∷ (6, 1) ∷ (1, 2) ∷ (9, 0) ∷ (3, 2) ∷ (1, 0) ∷ (1, 1) ∷
          (3, 0) ∷ (9, 1) ∷ (7, 2) ∷ [];
      blame = record {
        entries = 61;
        events = 51;
        broken = (Rule.EraseAll, 37) ∷ [];
        joint = Joint.EntriesLeft ∷ [];
      };
    }
    ∷ record {
      flaw = Flaw.FirstErased;
      before = (13, 0) ∷ [];
      turns = (10, 2) ∷ (4, 0) ∷ (17, 1) ∷ [];
      blame = record {
        entries = 44;
        events = 31;
        broken = (Rule.EraseAll, 21) ∷ [];
        joint = Joint.EntriesLeft ∷ [];
      };
    }
    ∷ record {
      flaw = Flaw.FirstErased;
      before = (13, 0) ∷ [];
      turns = (1, 2) ∷ (2, 1) ∷ (1, 0) ∷ (5, 1) ∷ (3, 2) ∷ (4, 0) ∷ (2, 2) ∷ (10, 0) ∷ (3, 2) ∷ (10, 1) ∷ [];
      blame = record {
        entries = 54;
        events = 42;
        broken = (Rule.EraseAll, 36) ∷ [];
        joint = Joint.EntriesLeft ∷ [];
      };
    }
    ∷ record {
      flaw = Flaw.ErasedAtEnd;
      before = (13, 0) ∷ [];
      turns = (6, 0) ∷ (2, 1) ∷ (1, 2) ∷ (15, 1) ∷ (12, 2) ∷ (5, 0) ∷ [];
      blame = record {
        entries = 54;
        events = 42;
        broken = (Rule.EraseInTime, 12) ∷ [];
        joint = Joint.EntriesLeft ∷ [];
      };
    }
    ∷ record {
      flaw = Flaw.ErasedAtEnd;
      before = (13, 0) ∷ [];
      turns = (3, 0) ∷ (1, 1) ∷ (3, 0) ∷ (1, 2) ∷ (6, 1) ∷ (1, 2) ∷ (9, 0) ∷ (3, 2) ∷ (1, 0) ∷ (1, 1) ∷
          (3, 0) ∷ (9, 1) ∷ (7, 2) ∷ [];
      blame = record {
        entries = 61;
        events = 52;
        broken = (Rule.EraseInTime, 12) ∷ [];
        joint = Joint.EntriesLeft ∷ [];
      };
    }
    ∷ record {
      flaw = Flaw.ErasedAtEnd;
      before = (13, 0) ∷ [];
      turns = (10, 2) ∷ (4, 0) ∷ (17, 1) ∷ [];
      blame = record {
        entries = 44;
        events = 32;
        broken = (Rule.EraseInTime, 20) ∷ [];
        joint = Joint.EntriesLeft ∷ [];
      };
    }
    ∷ record {
      flaw = Flaw.ComparedNow;
      before = (13, 0) ∷ [];
      turns = (3, 0) ∷ (3, 1) ∷ (1, 0) ∷ (4, 1) ∷ (3, 0) ∷ (5, 1) ∷ (2, 0) ∷ [];
      blame = record {
        entries = 34;
        events = 20;
        broken = (Rule.CompareSequence, 18) ∷ [];
        joint = Joint.StaleCommit ∷ [];
      };
    }
    ∷ []

-- the script own
abbrev pub long_own : Program
long_own = script Version.Two 4 (2 ∷ []) 0 (
    (Op.Map 0 (span 16 1) Rights.ReadWrite ∷ Op.Store 0 65536 (65 ∷ []) ∷ Op.Attach 0 0 0 (span 16 1) ∷
    Op.DeviceLoad 0 65536 1 ∷ Op.ToDevice 0 (span 16 1) ∷ Op.DeviceLoad 0 65536 1 ∷ [])
    ∷ (Op.DeviceStore 0 65536 (66 ∷ []) ∷ [])
    ∷ [])

-- its races
abbrev pub long_own_races : List Race
long_own_races =
    record {
      flaw = Flaw.OwnSequenceLeft;
      before = (13, 0) ∷ [];
      turns = (1, 1) ∷ (21, 0) ∷ [];
      blame = record {
        entries = 35;
        events = 23;
        broken = (Rule.OwnSequence, 11) ∷ [];
        joint = Joint.OwnSequenceLeft ∷ [];
      };
    }
    ∷ record {
      flaw = Flaw.OwnSequenceLeft;
      before = (13, 0) ∷ [];
      turns = (6, 0) ∷ (1, 1) ∷ (15, 0) ∷ [];
      blame = record {
        entries = 35;
        events = 23;
        broken = (Rule.OwnSequence, 10) ∷ [];
        joint = Joint.OwnSequenceLeft ∷ [];
      };
    }
    ∷ record {
      flaw = Flaw.OwnSequenceLeft;
      before = (13, 0) ∷ [];
      turns = (3, 0) ∷ (1, 1) ∷ (18, 0) ∷ [];
      blame = record {
        entries = 35;
        events = 23;
        broken = (Rule.OwnSequence, 10) ∷ [];
        joint = Joint.OwnSequenceLeft ∷ [];
      };
    }
    ∷ record {
      flaw = Flaw.OwnTableLeft;
      before = (13, 0) ∷ [];
      turns = (1, 1) ∷ (21, 0) ∷ [];
      blame = record {
        entries = 35;
        events = 23;
        broken = (Rule.OwnEntries, 11) ∷ [];
        joint = Joint.EntriesLeft ∷ [];
      };
    }
    ∷ record {
      flaw = Flaw.OwnTableLeft;
      before = (13, 0) ∷ [];
      turns = (6, 0) ∷ (1, 1) ∷ (15, 0) ∷ [];
      blame = record {
        entries = 35;
        events = 23;
        broken = (Rule.OwnEntries, 10) ∷ [];
        joint = Joint.EntriesLeft ∷ [];
      };
    }
    ∷ record {
      flaw = Flaw.OwnTableLeft;
      before = (13, 0) ∷ [];
      turns = (3, 0) ∷ (1, 1) ∷ (18, 0) ∷ [];
      blame = record {
        entries = 35;
        events = 23;
        broken = (Rule.OwnEntries, 10) ∷ [];
        joint = Joint.EntriesLeft ∷ [];
      };
    }
    ∷ []

-- the script leave
abbrev pub long_leave : Program
long_leave = script Version.Two 4 (2 ∷ []) 0 (
    (Op.Map 0 (span 16 1) Rights.ReadWrite ∷ Op.Store 0 65536 (65 ∷ []) ∷ Op.Attach 0 0 0 (span 16 1) ∷
    Op.Unmap 0 (span 16 1) ∷ [])
    ∷ (Op.Detach 0 ∷ [])
    ∷ [])

-- its races
abbrev pub long_leave_races : List Race
long_leave_races =
    record {
      flaw = Flaw.DetachedAtOnce;
      before = (8, 0) ∷ [];
      turns = (3, 0) ∷ (1, 1) ∷ (4, 0) ∷ [];
      blame = record { entries = 16; events = 8; broken = (Rule.DetachWaits, 6) ∷ []; joint = [] };
    }
    ∷ record {
      flaw = Flaw.DetachedAtOnce;
      before = (8, 0) ∷ [];
      turns = (4, 0) ∷ (1, 1) ∷ (3, 0) ∷ [];
      blame = record { entries = 16; events = 8; broken = (Rule.DetachWaits, 6) ∷ []; joint = [] };
    }
    ∷ record {
      flaw = Flaw.DetachedAtOnce;
      before = (8, 0) ∷ [];
      turns = (3, 0) ∷ (1, 1) ∷ (4, 0) ∷ [];
      blame = record { entries = 16; events = 8; broken = (Rule.DetachWaits, 6) ∷ []; joint = [] };
    }
    ∷ []

-- the script busy
abbrev pub long_busy : Program
long_busy = script Version.Two 4 (2 ∷ []) 0 (
    (Op.Map 0 (span 16 2) Rights.ReadWrite ∷ Op.Store 0 65536 (65 ∷ []) ∷ Op.Attach 0 0 0 (span 16 2) ∷
    Op.Exclusive 0 16 ∷ [])
    ∷ (Op.ToDevice 0 (span 17 1) ∷ [])
    ∷ [])

-- its races
abbrev pub long_busy_races : List Race
long_busy_races =
    record {
      flaw = Flaw.OwnAnyway;
      before = (8, 0) ∷ [];
      turns = (2, 0) ∷ (8, 1) ∷ (1, 0) ∷ (3, 1) ∷ (4, 0) ∷ (2, 1) ∷ [];
      blame = record { entries = 28; events = 23; broken = (Rule.SetUnlessInvalidated, 19) ∷ []; joint = [] };
    }
    ∷ record {
      flaw = Flaw.OwnAnyway;
      before = (8, 0) ∷ [];
      turns = (1, 0) ∷ (1, 1) ∷ (1, 0) ∷ (2, 1) ∷ (2, 0) ∷ (10, 1) ∷ (3, 0) ∷ [];
      blame = record { entries = 28; events = 23; broken = (Rule.SetUnlessInvalidated, 19) ∷ []; joint = [] };
    }
    ∷ record {
      flaw = Flaw.OwnAnyway;
      before = (8, 0) ∷ [];
      turns = (8, 1) ∷ (3, 0) ∷ (3, 1) ∷ (1, 0) ∷ (1, 1) ∷ (2, 0) ∷ (1, 1) ∷ (1, 0) ∷ [];
      blame = record { entries = 28; events = 23; broken = (Rule.SetUnlessInvalidated, 19) ∷ []; joint = [] };
    }
    ∷ record {
      flaw = Flaw.SoleAnyway;
      before = (8, 0) ∷ [];
      turns = (3, 0) ∷ (8, 1) ∷ (4, 0) ∷ (5, 1) ∷ [];
      blame = record { entries = 28; events = 23; broken = (Rule.ExclusiveWaits, 17) ∷ []; joint = [] };
    }
    ∷ record {
      flaw = Flaw.SoleAnyway;
      before = (8, 0) ∷ [];
      turns = (8, 1) ∷ (6, 0) ∷ (1, 1) ∷ (1, 0) ∷ (4, 1) ∷ [];
      blame = record { entries = 28; events = 23; broken = (Rule.ExclusiveWaits, 17) ∷ []; joint = [] };
    }
    ∷ []

-- each comes to what stands there
abbrev pub LongRacesAreBlamed : Type 0
LongRacesAreBlamed =
    AllComeTo long_told_twice long_told_twice_races
    × AllComeTo long_own long_own_races
    × AllComeTo long_leave long_leave_races
    × AllComeTo long_busy long_busy_races
