-- Races of drivers with a flaw: the shortest in which they do wrong, of scripts of examples/broken.
-- They were found by search once, and written by a program that is not kept.
use Rattle.std.specs.Prelude.{List, [], ◌∷◌}
use Rattle.hm_base.specs.Pages.{span}
use Rattle.hm_base.specs.Program.{Program}
use Rattle.hm_base.specs.declared.ops.Op.{Op}
use Rattle.hm_base.specs.declared.ops.Rights.{Rights}
use Rattle.hm_base.specs.declared.ops.Version.{Version}
use Rattle.hm_flaws.specs.declared.flaws.Flaw.{Flaw}
use Rattle.hm_protocol.specs.declared.rules.Rule.{Rule}
use Rattle.hm_protocol.specs.declared.rules.Joint.{Joint}
use Rattle.hm_protocol.specs.Races.{Race, AllComeTo, script}

-- the script clear
abbrev pub clear : Program
clear = script Version.Two 4 (1 ∷ []) 0 (
    (Op.Map 0 (span 16 2) Rights.ReadWrite ∷ Op.Store 0 65536 (65 ∷ []) ∷ Op.Attach 0 0 0 (span 16 2) ∷
    Op.ToDevice 0 (span 16 1) ∷ Op.ToSystem 0 (span 16 1) ∷ Op.ToDevice 0 (span 17 1) ∷
    Op.DeviceLoad 0 69632 1 ∷ [])
    ∷ [])

-- its races
abbrev pub clear_races : List Race
clear_races =
    record {
      flaw = Flaw.NotCleared;
      before = (47, 0) ∷ [];
      turns = (14, 0) ∷ [];
      blame = record { entries = 61; events = 43; broken = []; joint = [] };
    }
    ∷ record {
      flaw = Flaw.NotCleared;
      before = (47, 0) ∷ [];
      turns = (14, 0) ∷ [];
      blame = record { entries = 61; events = 43; broken = []; joint = [] };
    }
    ∷ []

-- the script detach
abbrev pub detach : Program
detach = script Version.Two 4 (2 ∷ []) 0 (
    (Op.Map 0 (span 16 1) Rights.ReadWrite ∷ Op.Store 0 65536 (65 ∷ []) ∷ Op.Attach 0 0 0 (span 16 1) ∷
    Op.DeviceLoad 0 65536 1 ∷ Op.DeviceLoad 0 65536 1 ∷ [])
    ∷ (Op.Detach 0 ∷ [])
    ∷ [])

-- its races
abbrev pub detach_races : List Race
detach_races =
    record {
      flaw = Flaw.UsedDetached;
      before = (13, 0) ∷ [];
      turns = (1, 1) ∷ (1, 0) ∷ [];
      blame = record { entries = 15; events = 11; broken = (Rule.StopAtDetach, 10) ∷ []; joint = [] };
    }
    ∷ record {
      flaw = Flaw.UsedDetached;
      before = (13, 0) ∷ [];
      turns = (1, 1) ∷ (1, 0) ∷ [];
      blame = record { entries = 15; events = 11; broken = (Rule.StopAtDetach, 10) ∷ []; joint = [] };
    }
    ∷ []

-- the script dev2
abbrev pub dev2 : Program
dev2 = script Version.Two 4 (2 ∷ 2 ∷ []) 0 (
    (Op.Map 0 (span 16 1) Rights.ReadWrite ∷ Op.Store 0 65536 (65 ∷ []) ∷ Op.Attach 0 0 0 (span 16 1) ∷
    Op.Attach 1 1 0 (span 16 1) ∷ Op.ToDevice 0 (span 16 1) ∷ Op.DeviceLoad 1 65536 1 ∷ [])
    ∷ [])

-- its races
abbrev pub dev2_races : List Race
dev2_races =
    record {
      flaw = Flaw.AnyDevice;
      before = (30, 0) ∷ [];
      turns = (4, 0) ∷ [];
      blame = record { entries = 34; events = 23; broken = (Rule.OwnDevice, 22) ∷ []; joint = [] };
    }
    ∷ record {
      flaw = Flaw.SequenceLeft;
      before = (30, 0) ∷ [];
      turns = (23, 0) ∷ [];
      blame = record { entries = 53; events = 38; broken = (Rule.SetSequence, 23) ∷ []; joint = [] };
    }
    ∷ []

-- the script entry
abbrev pub entry : Program
entry = script Version.Two 4 (2 ∷ []) 0 (
    (Op.Map 0 (span 16 1) Rights.ReadWrite ∷ Op.Store 0 65536 (65 ∷ []) ∷ Op.Attach 0 0 0 (span 16 1) ∷
    Op.DeviceLoad 0 65536 1 ∷ [])
    ∷ (Op.Unmap 0 (span 16 1) ∷ [])
    ∷ [])

-- its races
abbrev pub entry_races : List Race
entry_races =
    record {
      flaw = Flaw.NotCompared;
      before = (8, 0) ∷ [];
      turns = (3, 0) ∷ (3, 1) ∷ (2, 0) ∷ [];
      blame = record {
        entries = 16;
        events = 11;
        broken = (Rule.Compare, 9) ∷ [];
        joint = Joint.StaleCommit ∷ [];
      };
    }
    ∷ record {
      flaw = Flaw.NotCompared;
      before = (8, 0) ∷ [];
      turns = (3, 0) ∷ (3, 1) ∷ (1, 0) ∷ (4, 1) ∷ (1, 0) ∷ [];
      blame = record {
        entries = 20;
        events = 12;
        broken = (Rule.Compare, 9) ∷ [];
        joint = Joint.StaleCommit ∷ [];
      };
    }
    ∷ record {
      flaw = Flaw.ComparedNow;
      before = (8, 0) ∷ [];
      turns = (3, 0) ∷ (6, 1) ∷ (2, 0) ∷ [];
      blame = record { entries = 19; events = 12; broken = []; joint = Joint.StaleCommit ∷ [] };
    }
    ∷ record {
      flaw = Flaw.ComparedNow;
      before = (8, 0) ∷ [];
      turns = (3, 0) ∷ (6, 1) ∷ (1, 0) ∷ (1, 1) ∷ (1, 0) ∷ [];
      blame = record { entries = 20; events = 12; broken = []; joint = Joint.StaleCommit ∷ [] };
    }
    ∷ record {
      flaw = Flaw.WalksUnlocked;
      before = (8, 0) ∷ [];
      turns = (6, 1) ∷ (6, 0) ∷ [];
      blame = record { entries = 20; events = 12; broken = (Rule.MmapLock, 7) ∷ []; joint = [] };
    }
    ∷ record {
      flaw = Flaw.WalksUnlocked;
      before = (8, 0) ∷ [];
      turns = (6, 1) ∷ (6, 0) ∷ [];
      blame = record { entries = 20; events = 12; broken = (Rule.MmapLock, 7) ∷ []; joint = [] };
    }
    ∷ record {
      flaw = Flaw.BegunAnyway;
      before = (8, 0) ∷ [];
      turns = (3, 1) ∷ (1, 0) ∷ [];
      blame = record { entries = 12; events = 6; broken = (Rule.BeginWaits, 5) ∷ []; joint = [] };
    }
    ∷ record {
      flaw = Flaw.BegunLast;
      before = (8, 0) ∷ [];
      turns = (2, 0) ∷ (6, 1) ∷ (3, 0) ∷ [];
      blame = record { entries = 19; events = 12; broken = (Rule.BeginFirst, 10) ∷ []; joint = [] };
    }
    ∷ record {
      flaw = Flaw.BegunLast;
      before = (8, 0) ∷ [];
      turns = (2, 0) ∷ (6, 1) ∷ (2, 0) ∷ (1, 1) ∷ (1, 0) ∷ [];
      blame = record { entries = 20; events = 12; broken = (Rule.BeginFirst, 10) ∷ []; joint = [] };
    }
    ∷ record {
      flaw = Flaw.SequenceLeft;
      before = (8, 0) ∷ [];
      turns = (3, 1) ∷ (1, 0) ∷ [];
      blame = record { entries = 12; events = 6; broken = (Rule.SetSequence, 4) ∷ []; joint = [] };
    }
    ∷ record {
      flaw = Flaw.SequenceLeft;
      before = (8, 0) ∷ [];
      turns = (3, 0) ∷ (3, 1) ∷ (1, 0) ∷ (4, 1) ∷ (1, 0) ∷ [];
      blame = record { entries = 20; events = 12; broken = (Rule.SetSequence, 8) ∷ []; joint = [] };
    }
    ∷ record {
      flaw = Flaw.TableLeft;
      before = (8, 0) ∷ [];
      turns = (4, 0) ∷ (3, 1) ∷ (1, 0) ∷ [];
      blame = record { entries = 16; events = 11; broken = []; joint = Joint.EntriesLeft ∷ [] };
    }
    ∷ record {
      flaw = Flaw.TableLeft;
      before = (8, 0) ∷ [];
      turns = (4, 0) ∷ (7, 1) ∷ (1, 0) ∷ [];
      blame = record {
        entries = 20;
        events = 12;
        broken = (Rule.Erase, 9) ∷ [];
        joint = Joint.EntriesLeft ∷ [];
      };
    }
    ∷ record {
      flaw = Flaw.ErasedAtEnd;
      before = (8, 0) ∷ [];
      turns = (4, 0) ∷ (3, 1) ∷ (1, 0) ∷ [];
      blame = record { entries = 16; events = 11; broken = []; joint = Joint.EntriesLeft ∷ [] };
    }
    ∷ []

-- the script entry2
abbrev pub entry2 : Program
entry2 = script Version.Two 4 (2 ∷ []) 0 (
    (Op.Map 0 (span 16 1) Rights.ReadWrite ∷ Op.Store 0 65536 (65 ∷ []) ∷ Op.Attach 0 0 0 (span 16 1) ∷
    Op.DeviceLoad 0 65536 1 ∷ Op.DeviceLoad 0 65536 1 ∷ [])
    ∷ (Op.Unmap 0 (span 16 1) ∷ [])
    ∷ [])

-- its races
abbrev pub entry2_races : List Race
entry2_races =
    record {
      flaw = Flaw.WalksUnlocked;
      before = (13, 0) ∷ [];
      turns = (6, 1) ∷ (6, 0) ∷ [];
      blame = record { entries = 25; events = 19; broken = (Rule.MmapLock, 14) ∷ []; joint = [] };
    }
    ∷ record {
      flaw = Flaw.WalksUnlocked;
      before = (13, 0) ∷ [];
      turns = (6, 1) ∷ (6, 0) ∷ [];
      blame = record { entries = 25; events = 19; broken = (Rule.MmapLock, 14) ∷ []; joint = [] };
    }
    ∷ record {
      flaw = Flaw.BegunAnyway;
      before = (13, 0) ∷ [];
      turns = (3, 1) ∷ (1, 0) ∷ [];
      blame = record { entries = 17; events = 13; broken = (Rule.BeginWaits, 12) ∷ []; joint = [] };
    }
    ∷ record {
      flaw = Flaw.SequenceLeft;
      before = (13, 0) ∷ [];
      turns = (3, 1) ∷ (1, 0) ∷ [];
      blame = record { entries = 17; events = 13; broken = (Rule.SetSequence, 11) ∷ []; joint = [] };
    }
    ∷ record {
      flaw = Flaw.TableLeft;
      before = (13, 0) ∷ [];
      turns = (3, 1) ∷ (1, 0) ∷ [];
      blame = record { entries = 17; events = 12; broken = []; joint = Joint.EntriesLeft ∷ [] };
    }
    ∷ record {
      flaw = Flaw.TableLeft;
      before = (13, 0) ∷ [];
      turns = (7, 1) ∷ (1, 0) ∷ [];
      blame = record {
        entries = 21;
        events = 13;
        broken = (Rule.Erase, 10) ∷ [];
        joint = Joint.EntriesLeft ∷ [];
      };
    }
    ∷ record {
      flaw = Flaw.ErasedAtEnd;
      before = (13, 0) ∷ [];
      turns = (3, 1) ∷ (1, 0) ∷ [];
      blame = record { entries = 17; events = 12; broken = []; joint = Joint.EntriesLeft ∷ [] };
    }
    ∷ []

-- the script forkdev
abbrev pub forkdev : Program
forkdev = script Version.Two 2 (1 ∷ []) 0 (
    (Op.Map 0 (span 16 1) Rights.ReadWrite ∷ Op.Attach 0 0 0 (span 16 1) ∷ Op.DeviceStore 0 65536 (65 ∷ []) ∷
    Op.ToDevice 0 (span 16 1) ∷ Op.Fork 0 1 ∷ Op.DeviceStore 0 65536 (66 ∷ []) ∷ Op.Load 1 65536 1 ∷ [])
    ∷ [])

-- its races
abbrev pub forkdev_races : List Race
forkdev_races =
    record {
      flaw = Flaw.SequenceLeft;
      before = (30, 0) ∷ [];
      turns = (9, 0) ∷ [];
      blame = record { entries = 39; events = 27; broken = (Rule.SetSequence, 24) ∷ []; joint = [] };
    }
    ∷ record {
      flaw = Flaw.TableLeft;
      before = (30, 0) ∷ [];
      turns = (9, 0) ∷ [];
      blame = record {
        entries = 39;
        events = 26;
        broken = (Rule.Erase, 23) ∷ [];
        joint = Joint.EntriesLeft ∷ [];
      };
    }
    ∷ record {
      flaw = Flaw.TableLeft;
      before = (30, 0) ∷ [];
      turns = (33, 0) ∷ [];
      blame = record {
        entries = 63;
        events = 39;
        broken = (Rule.Erase, 23) ∷ [];
        joint = Joint.EntriesLeft ∷ [];
      };
    }
    ∷ []

-- the script late
abbrev pub late : Program
late = script Version.Two 1 (2 ∷ []) 0 (
    (Op.Map 0 (span 16 1) Rights.ReadWrite ∷ Op.Map 0 (span 20 1) Rights.ReadWrite ∷ Op.Fork 0 1 ∷
    Op.Store 0 65536 (65 ∷ []) ∷ Op.Attach 0 0 0 (span 16 1) ∷ Op.DeviceLoad 0 65536 1 ∷
    Op.Unmap 0 (span 16 1) ∷ [])
    ∷ (Op.DeviceStore 0 65536 (67 ∷ []) ∷ [])
    ∷ (Op.Store 1 81920 (66 ∷ []) ∷ Op.Load 1 81920 1 ∷ [])
    ∷ [])

-- its races
abbrev pub late_races : List Race
late_races =
    record {
      flaw = Flaw.WalksUnlocked;
      before = (20, 0) ∷ [];
      turns = (6, 0) ∷ (5, 1) ∷ (1, 0) ∷ (2, 1) ∷ [];
      blame = record { entries = 34; events = 21; broken = (Rule.MmapLock, 16) ∷ []; joint = [] };
    }
    ∷ record {
      flaw = Flaw.WalksUnlocked;
      before = (20, 0) ∷ [];
      turns = (6, 0) ∷ (5, 1) ∷ (1, 0) ∷ (2, 1) ∷ [];
      blame = record { entries = 34; events = 21; broken = (Rule.MmapLock, 16) ∷ []; joint = [] };
    }
    ∷ record {
      flaw = Flaw.BegunAnyway;
      before = (20, 0) ∷ [];
      turns = (3, 0) ∷ (1, 1) ∷ [];
      blame = record { entries = 24; events = 15; broken = (Rule.BeginWaits, 14) ∷ []; joint = [] };
    }
    ∷ record {
      flaw = Flaw.SequenceLeft;
      before = (20, 0) ∷ [];
      turns = (3, 0) ∷ (1, 1) ∷ [];
      blame = record { entries = 24; events = 15; broken = (Rule.SetSequence, 13) ∷ []; joint = [] };
    }
    ∷ record {
      flaw = Flaw.TableLeft;
      before = (20, 0) ∷ [];
      turns = (3, 0) ∷ (1, 1) ∷ [];
      blame = record { entries = 24; events = 14; broken = []; joint = Joint.EntriesLeft ∷ [] };
    }
    ∷ record {
      flaw = Flaw.TableLeft;
      before = (20, 0) ∷ [];
      turns = (7, 0) ∷ (1, 1) ∷ [];
      blame = record {
        entries = 28;
        events = 15;
        broken = (Rule.Erase, 12) ∷ [];
        joint = Joint.EntriesLeft ∷ [];
      };
    }
    ∷ record {
      flaw = Flaw.ErasedAtEnd;
      before = (20, 0) ∷ [];
      turns = (3, 0) ∷ (1, 1) ∷ [];
      blame = record { entries = 24; events = 14; broken = []; joint = Joint.EntriesLeft ∷ [] };
    }
    ∷ record {
      flaw = Flaw.ErasedAtEnd;
      before = (20, 0) ∷ [];
      turns = (5, 0) ∷ (5, 2) ∷ (1, 1) ∷ (1, 2) ∷ [];
      blame = record { entries = 32; events = 14; broken = []; joint = Joint.EntriesLeft ∷ [] };
    }
    ∷ []

-- the script leave
abbrev pub leave : Program
leave = script Version.Two 4 (2 ∷ []) 0 (
    (Op.Map 0 (span 16 1) Rights.ReadWrite ∷ Op.Store 0 65536 (65 ∷ []) ∷ Op.Attach 0 0 0 (span 16 1) ∷
    Op.Unmap 0 (span 16 1) ∷ [])
    ∷ (Op.Detach 0 ∷ [])
    ∷ [])

-- its races
abbrev pub leave_races : List Race
leave_races =
    record {
      flaw = Flaw.DetachedAtOnce;
      before = (8, 0) ∷ [];
      turns = (2, 0) ∷ (1, 1) ∷ [];
      blame = record { entries = 11; events = 5; broken = []; joint = [] };
    }
    ∷ []

-- the script own
abbrev pub own : Program
own = script Version.Two 4 (2 ∷ []) 0 (
    (Op.Map 0 (span 16 1) Rights.ReadWrite ∷ Op.Store 0 65536 (65 ∷ []) ∷ Op.Attach 0 0 0 (span 16 1) ∷
    Op.DeviceLoad 0 65536 1 ∷ Op.ToDevice 0 (span 16 1) ∷ Op.DeviceLoad 0 65536 1 ∷ [])
    ∷ (Op.DeviceStore 0 65536 (66 ∷ []) ∷ [])
    ∷ [])

-- its races
abbrev pub own_races : List Race
own_races =
    record {
      flaw = Flaw.BegunAnyway;
      before = (13, 0) ∷ [];
      turns = (3, 0) ∷ (1, 1) ∷ [];
      blame = record { entries = 17; events = 13; broken = (Rule.BeginWaits, 12) ∷ []; joint = [] };
    }
    ∷ record {
      flaw = Flaw.BegunAnyway;
      before = (13, 0) ∷ [];
      turns = (3, 0) ∷ (3, 1) ∷ (12, 0) ∷ (2, 1) ∷ (6, 0) ∷ [];
      blame = record { entries = 39; events = 28; broken = (Rule.BeginWaits, 12) ∷ []; joint = [] };
    }
    ∷ record {
      flaw = Flaw.BegunLast;
      before = (13, 0) ∷ [];
      turns = (3, 0) ∷ (2, 1) ∷ (12, 0) ∷ (3, 1) ∷ [];
      blame = record { entries = 33; events = 24; broken = (Rule.BeginFirst, 22) ∷ []; joint = [] };
    }
    ∷ record {
      flaw = Flaw.BegunLast;
      before = (13, 0) ∷ [];
      turns = (3, 0) ∷ (2, 1) ∷ (12, 0) ∷ (3, 1) ∷ (6, 0) ∷ [];
      blame = record { entries = 39; events = 28; broken = (Rule.BeginFirst, 22) ∷ []; joint = [] };
    }
    ∷ record {
      flaw = Flaw.SequenceLeft;
      before = (13, 0) ∷ [];
      turns = (3, 0) ∷ (1, 1) ∷ [];
      blame = record { entries = 17; events = 13; broken = (Rule.SetSequence, 11) ∷ []; joint = [] };
    }
    ∷ record {
      flaw = Flaw.SequenceLeft;
      before = (13, 0) ∷ [];
      turns = (3, 0) ∷ (3, 1) ∷ (12, 0) ∷ (2, 1) ∷ (6, 0) ∷ [];
      blame = record { entries = 39; events = 28; broken = (Rule.SetSequence, 11) ∷ []; joint = [] };
    }
    ∷ record {
      flaw = Flaw.TableLeft;
      before = (13, 0) ∷ [];
      turns = (3, 0) ∷ (1, 1) ∷ [];
      blame = record { entries = 17; events = 12; broken = []; joint = Joint.EntriesLeft ∷ [] };
    }
    ∷ record {
      flaw = Flaw.TableLeft;
      before = (13, 0) ∷ [];
      turns = (15, 0) ∷ (1, 1) ∷ (6, 0) ∷ [];
      blame = record {
        entries = 35;
        events = 22;
        broken = (Rule.Erase, 10) ∷ [];
        joint = Joint.EntriesLeft ∷ [];
      };
    }
    ∷ record {
      flaw = Flaw.ErasedAtEnd;
      before = (13, 0) ∷ [];
      turns = (3, 0) ∷ (1, 1) ∷ [];
      blame = record { entries = 17; events = 12; broken = []; joint = Joint.EntriesLeft ∷ [] };
    }
    ∷ record {
      flaw = Flaw.OwnIgnored;
      before = (13, 0) ∷ [];
      turns = (3, 0) ∷ (1, 1) ∷ [];
      blame = record { entries = 17; events = 12; broken = []; joint = Joint.OwnSequenceLeft ∷ [] };
    }
    ∷ record {
      flaw = Flaw.OwnIgnored;
      before = (13, 0) ∷ [];
      turns = (15, 0) ∷ (1, 1) ∷ (6, 0) ∷ [];
      blame = record {
        entries = 35;
        events = 22;
        broken = (Rule.OwnEvents, 10) ∷ [];
        joint = Joint.OwnSequenceLeft ∷ [];
      };
    }
    ∷ record {
      flaw = Flaw.OwnSequenceLeft;
      before = (13, 0) ∷ [];
      turns = (3, 0) ∷ (1, 1) ∷ [];
      blame = record { entries = 17; events = 12; broken = []; joint = Joint.OwnSequenceLeft ∷ [] };
    }
    ∷ record {
      flaw = Flaw.OwnTableLeft;
      before = (13, 0) ∷ [];
      turns = (3, 0) ∷ (1, 1) ∷ [];
      blame = record { entries = 17; events = 12; broken = []; joint = Joint.EntriesLeft ∷ [] };
    }
    ∷ []

-- the script protect
abbrev pub protect : Program
protect = script Version.Two 4 (2 ∷ []) 0 (
    (Op.Map 0 (span 16 1) Rights.ReadWrite ∷ Op.Attach 0 0 0 (span 16 1) ∷ Op.DeviceStore 0 65536 (65 ∷ []) ∷ [])
    ∷ (Op.Protect 0 (span 16 1) Rights.Read ∷ [])
    ∷ [])

-- its races
abbrev pub protect_races : List Race
protect_races =
    record {
      flaw = Flaw.NotCompared;
      before = (3, 0) ∷ [];
      turns = (5, 0) ∷ (3, 1) ∷ (2, 0) ∷ [];
      blame = record {
        entries = 13;
        events = 11;
        broken = (Rule.Compare, 9) ∷ [];
        joint = Joint.StaleCommit ∷ [];
      };
    }
    ∷ record {
      flaw = Flaw.NotCompared;
      before = (3, 0) ∷ [];
      turns = (5, 0) ∷ (3, 1) ∷ (1, 0) ∷ (3, 1) ∷ (1, 0) ∷ [];
      blame = record {
        entries = 16;
        events = 12;
        broken = (Rule.Compare, 9) ∷ [];
        joint = Joint.StaleCommit ∷ [];
      };
    }
    ∷ record {
      flaw = Flaw.ComparedNow;
      before = (3, 0) ∷ [];
      turns = (5, 0) ∷ (5, 1) ∷ (2, 0) ∷ [];
      blame = record { entries = 15; events = 12; broken = []; joint = Joint.StaleCommit ∷ [] };
    }
    ∷ record {
      flaw = Flaw.ComparedNow;
      before = (3, 0) ∷ [];
      turns = (5, 0) ∷ (5, 1) ∷ (1, 0) ∷ (1, 1) ∷ (1, 0) ∷ [];
      blame = record { entries = 16; events = 12; broken = []; joint = Joint.StaleCommit ∷ [] };
    }
    ∷ record {
      flaw = Flaw.WalksUnlocked;
      before = (3, 0) ∷ [];
      turns = (4, 1) ∷ (6, 0) ∷ (1, 1) ∷ (1, 0) ∷ [];
      blame = record { entries = 15; events = 12; broken = (Rule.MmapLock, 7) ∷ []; joint = [] };
    }
    ∷ record {
      flaw = Flaw.WalksUnlocked;
      before = (3, 0) ∷ [];
      turns = (4, 1) ∷ (6, 0) ∷ (1, 1) ∷ (1, 0) ∷ [];
      blame = record { entries = 15; events = 12; broken = (Rule.MmapLock, 7) ∷ []; joint = [] };
    }
    ∷ record {
      flaw = Flaw.BegunAnyway;
      before = (3, 0) ∷ [];
      turns = (3, 1) ∷ (1, 0) ∷ [];
      blame = record { entries = 7; events = 6; broken = (Rule.BeginWaits, 5) ∷ []; joint = [] };
    }
    ∷ record {
      flaw = Flaw.BegunLast;
      before = (3, 0) ∷ [];
      turns = (4, 0) ∷ (5, 1) ∷ (3, 0) ∷ [];
      blame = record { entries = 15; events = 12; broken = (Rule.BeginFirst, 10) ∷ []; joint = [] };
    }
    ∷ record {
      flaw = Flaw.BegunLast;
      before = (3, 0) ∷ [];
      turns = (4, 0) ∷ (5, 1) ∷ (2, 0) ∷ (1, 1) ∷ (1, 0) ∷ [];
      blame = record { entries = 16; events = 12; broken = (Rule.BeginFirst, 10) ∷ []; joint = [] };
    }
    ∷ record {
      flaw = Flaw.SequenceLeft;
      before = (3, 0) ∷ [];
      turns = (3, 1) ∷ (1, 0) ∷ [];
      blame = record { entries = 7; events = 6; broken = (Rule.SetSequence, 4) ∷ []; joint = [] };
    }
    ∷ record {
      flaw = Flaw.SequenceLeft;
      before = (3, 0) ∷ [];
      turns = (5, 0) ∷ (3, 1) ∷ (1, 0) ∷ (3, 1) ∷ (1, 0) ∷ [];
      blame = record { entries = 16; events = 12; broken = (Rule.SetSequence, 8) ∷ []; joint = [] };
    }
    ∷ record {
      flaw = Flaw.TableLeft;
      before = (3, 0) ∷ [];
      turns = (6, 0) ∷ (3, 1) ∷ (1, 0) ∷ [];
      blame = record { entries = 13; events = 11; broken = []; joint = Joint.EntriesLeft ∷ [] };
    }
    ∷ record {
      flaw = Flaw.TableLeft;
      before = (3, 0) ∷ [];
      turns = (6, 0) ∷ (6, 1) ∷ (1, 0) ∷ [];
      blame = record {
        entries = 16;
        events = 12;
        broken = (Rule.Erase, 9) ∷ [];
        joint = Joint.EntriesLeft ∷ [];
      };
    }
    ∷ record {
      flaw = Flaw.ErasedAtEnd;
      before = (3, 0) ∷ [];
      turns = (6, 0) ∷ (3, 1) ∷ (1, 0) ∷ [];
      blame = record { entries = 13; events = 11; broken = []; joint = Joint.EntriesLeft ∷ [] };
    }
    ∷ []

-- the script readonly
abbrev pub readonly : Program
readonly = script Version.Two 4 (2 ∷ []) 0 (
    (Op.Map 0 (span 16 1) Rights.Read ∷ Op.Attach 0 0 0 (span 16 1) ∷ Op.ToDevice 0 (span 16 1) ∷
    Op.DeviceStore 0 65536 (66 ∷ []) ∷ [])
    ∷ [])

-- its races
abbrev pub readonly_races : List Race
readonly_races =
    record {
      flaw = Flaw.SequenceLeft;
      before = (3, 0) ∷ [];
      turns = (14, 0) ∷ [];
      blame = record { entries = 17; events = 19; broken = []; joint = Joint.OwnSequenceLeft ∷ [] };
    }
    ∷ record {
      flaw = Flaw.OwnIgnored;
      before = (3, 0) ∷ [];
      turns = (14, 0) ∷ [];
      blame = record { entries = 17; events = 19; broken = []; joint = Joint.OwnSequenceLeft ∷ [] };
    }
    ∷ record {
      flaw = Flaw.OwnSequenceLeft;
      before = (3, 0) ∷ [];
      turns = (14, 0) ∷ [];
      blame = record { entries = 17; events = 19; broken = []; joint = Joint.OwnSequenceLeft ∷ [] };
    }
    ∷ record {
      flaw = Flaw.ReadsWritten;
      before = (3, 0) ∷ [];
      turns = (14, 0) ∷ [];
      blame = record { entries = 17; events = 19; broken = (Rule.WriteEntry, 18) ∷ []; joint = [] };
    }
    ∷ record {
      flaw = Flaw.ReadsWritten;
      before = (3, 0) ∷ [];
      turns = (14, 0) ∷ [];
      blame = record { entries = 17; events = 19; broken = (Rule.WriteEntry, 18) ∷ []; joint = [] };
    }
    ∷ record {
      flaw = Flaw.OwnForWrites;
      before = (3, 0) ∷ [];
      turns = (14, 0) ∷ [];
      blame = record { entries = 17; events = 19; broken = (Rule.SetRight, 16) ∷ []; joint = [] };
    }
    ∷ record {
      flaw = Flaw.OwnForWrites;
      before = (3, 0) ∷ [];
      turns = (14, 0) ∷ [];
      blame = record { entries = 17; events = 19; broken = (Rule.SetRight, 16) ∷ []; joint = [] };
    }
    ∷ []

-- the script rem2
abbrev pub rem2 : Program
rem2 = script Version.Two 4 (2 ∷ []) 0 (
    (Op.Map 0 (span 16 2) Rights.ReadWrite ∷ Op.Store 0 65536 (65 ∷ []) ∷ Op.Attach 0 0 0 (span 16 2) ∷
    Op.ToDevice 0 (span 16 1) ∷ Op.Load 0 65536 1 ∷ [])
    ∷ (Op.Remove 0 ∷ [])
    ∷ [])

-- its races
abbrev pub rem2_races : List Race
rem2_races =
    record {
      flaw = Flaw.RemovedAtOnce;
      before = (28, 0) ∷ [];
      turns = (2, 1) ∷ [];
      blame = record { entries = 30; events = 16; broken = (Rule.EvictFirst, 15) ∷ []; joint = [] };
    }
    ∷ record {
      flaw = Flaw.LockedPassed;
      before = (28, 0) ∷ [];
      turns = (4, 0) ∷ (3, 1) ∷ [];
      blame = record { entries = 35; events = 21; broken = (Rule.WaitForLocked, 20) ∷ []; joint = [] };
    }
    ∷ []

-- the script retry
abbrev pub retry : Program
retry = script Version.Two 4 (2 ∷ []) 0 (
    (Op.Map 0 (span 16 1) Rights.ReadWrite ∷ Op.Store 0 65536 (65 ∷ []) ∷ Op.Fork 0 1 ∷
    Op.Attach 0 0 0 (span 16 1) ∷ Op.DeviceLoad 0 65536 1 ∷ [])
    ∷ (Op.Store 0 65536 (66 ∷ []) ∷ [])
    ∷ [])

-- its races
abbrev pub retry_races : List Race
retry_races =
    record {
      flaw = Flaw.NotCompared;
      before = (15, 0) ∷ [];
      turns = (3, 0) ∷ (5, 1) ∷ (2, 0) ∷ [];
      blame = record {
        entries = 25;
        events = 13;
        broken = (Rule.Compare, 11) ∷ [];
        joint = Joint.StaleCommit ∷ [];
      };
    }
    ∷ record {
      flaw = Flaw.NotCompared;
      before = (15, 0) ∷ [];
      turns = (3, 0) ∷ (5, 1) ∷ (1, 0) ∷ (4, 1) ∷ (1, 0) ∷ [];
      blame = record {
        entries = 29;
        events = 14;
        broken = (Rule.Compare, 11) ∷ [];
        joint = Joint.StaleCommit ∷ [];
      };
    }
    ∷ record {
      flaw = Flaw.ComparedNow;
      before = (15, 0) ∷ [];
      turns = (3, 0) ∷ (7, 1) ∷ (2, 0) ∷ [];
      blame = record { entries = 27; events = 14; broken = []; joint = Joint.StaleCommit ∷ [] };
    }
    ∷ record {
      flaw = Flaw.ComparedNow;
      before = (15, 0) ∷ [];
      turns = (3, 0) ∷ (7, 1) ∷ (1, 0) ∷ (2, 1) ∷ (1, 0) ∷ [];
      blame = record { entries = 29; events = 14; broken = []; joint = Joint.StaleCommit ∷ [] };
    }
    ∷ record {
      flaw = Flaw.BegunAnyway;
      before = (15, 0) ∷ [];
      turns = (5, 1) ∷ (1, 0) ∷ [];
      blame = record { entries = 21; events = 8; broken = (Rule.BeginWaits, 7) ∷ []; joint = [] };
    }
    ∷ record {
      flaw = Flaw.BegunAnyway;
      before = (15, 0) ∷ [];
      turns = (5, 1) ∷ (4, 0) ∷ (4, 1) ∷ (1, 0) ∷ [];
      blame = record { entries = 29; events = 14; broken = (Rule.BeginWaits, 7) ∷ []; joint = [] };
    }
    ∷ record {
      flaw = Flaw.BegunLast;
      before = (15, 0) ∷ [];
      turns = (2, 0) ∷ (7, 1) ∷ (3, 0) ∷ [];
      blame = record { entries = 27; events = 14; broken = (Rule.BeginFirst, 12) ∷ []; joint = [] };
    }
    ∷ record {
      flaw = Flaw.BegunLast;
      before = (15, 0) ∷ [];
      turns = (2, 0) ∷ (7, 1) ∷ (2, 0) ∷ (2, 1) ∷ (1, 0) ∷ [];
      blame = record { entries = 29; events = 14; broken = (Rule.BeginFirst, 12) ∷ []; joint = [] };
    }
    ∷ record {
      flaw = Flaw.SequenceLeft;
      before = (15, 0) ∷ [];
      turns = (5, 1) ∷ (1, 0) ∷ [];
      blame = record { entries = 21; events = 8; broken = (Rule.SetSequence, 6) ∷ []; joint = [] };
    }
    ∷ record {
      flaw = Flaw.SequenceLeft;
      before = (15, 0) ∷ [];
      turns = (3, 0) ∷ (5, 1) ∷ (1, 0) ∷ (4, 1) ∷ (1, 0) ∷ [];
      blame = record { entries = 29; events = 14; broken = (Rule.SetSequence, 10) ∷ []; joint = [] };
    }
    ∷ record {
      flaw = Flaw.TableLeft;
      before = (15, 0) ∷ [];
      turns = (4, 0) ∷ (5, 1) ∷ (1, 0) ∷ [];
      blame = record { entries = 25; events = 13; broken = []; joint = Joint.EntriesLeft ∷ [] };
    }
    ∷ record {
      flaw = Flaw.TableLeft;
      before = (15, 0) ∷ [];
      turns = (4, 0) ∷ (9, 1) ∷ (1, 0) ∷ [];
      blame = record {
        entries = 29;
        events = 14;
        broken = (Rule.Erase, 11) ∷ [];
        joint = Joint.EntriesLeft ∷ [];
      };
    }
    ∷ record {
      flaw = Flaw.ErasedAtEnd;
      before = (15, 0) ∷ [];
      turns = (4, 0) ∷ (5, 1) ∷ (1, 0) ∷ [];
      blame = record { entries = 25; events = 13; broken = []; joint = Joint.EntriesLeft ∷ [] };
    }
    ∷ []

-- the script shared
abbrev pub shared : Program
shared = script Version.Two 4 (2 ∷ []) 0 (
    (Op.Map 0 (span 16 1) Rights.ReadWrite ∷ Op.Store 0 65536 (65 ∷ []) ∷ Op.Fork 0 1 ∷
    Op.Attach 0 0 0 (span 16 1) ∷ Op.DeviceLoad 0 65536 1 ∷ Op.DeviceStore 0 65536 (66 ∷ []) ∷ [])
    ∷ (Op.Load 1 65536 1 ∷ [])
    ∷ [])

-- its races
abbrev pub shared_races : List Race
shared_races =
    record {
      flaw = Flaw.AllForWrites;
      before = (15, 0) ∷ [];
      turns = (6, 0) ∷ [];
      blame = record { entries = 21; events = 11; broken = (Rule.EntryRight, 8) ∷ []; joint = [] };
    }
    ∷ record {
      flaw = Flaw.AllForWrites;
      before = (15, 0) ∷ [];
      turns = (6, 0) ∷ (1, 1) ∷ [];
      blame = record { entries = 22; events = 11; broken = (Rule.EntryRight, 8) ∷ []; joint = [] };
    }
    ∷ record {
      flaw = Flaw.SequenceLeft;
      before = (15, 0) ∷ [];
      turns = (16, 0) ∷ [];
      blame = record { entries = 31; events = 21; broken = (Rule.SetSequence, 15) ∷ []; joint = [] };
    }
    ∷ record {
      flaw = Flaw.ReadsWritten;
      before = (15, 0) ∷ [];
      turns = (6, 0) ∷ [];
      blame = record { entries = 21; events = 11; broken = (Rule.WriteEntry, 10) ∷ []; joint = [] };
    }
    ∷ record {
      flaw = Flaw.ReadsWritten;
      before = (15, 0) ∷ [];
      turns = (6, 0) ∷ (1, 1) ∷ [];
      blame = record { entries = 22; events = 11; broken = (Rule.WriteEntry, 10) ∷ []; joint = [] };
    }
    ∷ []

-- the script two
abbrev pub two : Program
two = script Version.Two 4 (2 ∷ []) 0 (
    (Op.Map 0 (span 16 2) Rights.ReadWrite ∷ Op.Store 0 69632 (65 ∷ []) ∷ Op.Attach 0 0 0 (span 16 2) ∷
    Op.DeviceLoad 0 69632 1 ∷ Op.DeviceLoad 0 69632 1 ∷ [])
    ∷ (Op.Unmap 0 (span 16 2) ∷ [])
    ∷ [])

-- its races
abbrev pub two_races : List Race
two_races =
    record {
      flaw = Flaw.WalksUnlocked;
      before = (13, 0) ∷ [];
      turns = (6, 1) ∷ (6, 0) ∷ [];
      blame = record { entries = 25; events = 19; broken = (Rule.MmapLock, 14) ∷ []; joint = [] };
    }
    ∷ record {
      flaw = Flaw.WalksUnlocked;
      before = (13, 0) ∷ [];
      turns = (6, 1) ∷ (6, 0) ∷ [];
      blame = record { entries = 25; events = 19; broken = (Rule.MmapLock, 14) ∷ []; joint = [] };
    }
    ∷ record {
      flaw = Flaw.BegunAnyway;
      before = (13, 0) ∷ [];
      turns = (3, 1) ∷ (1, 0) ∷ [];
      blame = record { entries = 17; events = 13; broken = (Rule.BeginWaits, 12) ∷ []; joint = [] };
    }
    ∷ record {
      flaw = Flaw.SequenceLeft;
      before = (13, 0) ∷ [];
      turns = (3, 1) ∷ (1, 0) ∷ [];
      blame = record { entries = 17; events = 13; broken = (Rule.SetSequence, 11) ∷ []; joint = [] };
    }
    ∷ record {
      flaw = Flaw.TableLeft;
      before = (13, 0) ∷ [];
      turns = (3, 1) ∷ (1, 0) ∷ [];
      blame = record { entries = 17; events = 12; broken = []; joint = Joint.EntriesLeft ∷ [] };
    }
    ∷ record {
      flaw = Flaw.TableLeft;
      before = (13, 0) ∷ [];
      turns = (7, 1) ∷ (1, 0) ∷ [];
      blame = record { entries = 21; events = 13; broken = []; joint = Joint.EntriesLeft ∷ [] };
    }
    ∷ record {
      flaw = Flaw.FirstErased;
      before = (13, 0) ∷ [];
      turns = (3, 1) ∷ (1, 0) ∷ [];
      blame = record { entries = 17; events = 12; broken = []; joint = Joint.EntriesLeft ∷ [] };
    }
    ∷ record {
      flaw = Flaw.FirstErased;
      before = (13, 0) ∷ [];
      turns = (7, 1) ∷ (1, 0) ∷ [];
      blame = record { entries = 21; events = 13; broken = []; joint = Joint.EntriesLeft ∷ [] };
    }
    ∷ record {
      flaw = Flaw.ErasedAtEnd;
      before = (13, 0) ∷ [];
      turns = (3, 1) ∷ (1, 0) ∷ [];
      blame = record { entries = 17; events = 12; broken = []; joint = Joint.EntriesLeft ∷ [] };
    }
    ∷ []

-- the script walk
abbrev pub walk : Program
walk = script Version.Two 4 (2 ∷ []) 0 (
    (Op.Map 0 (span 16 1) Rights.ReadWrite ∷ Op.Store 0 65536 (65 ∷ []) ∷ Op.Attach 0 0 0 (span 16 1) ∷
    Op.DeviceLoad 0 65536 1 ∷ [])
    ∷ (Op.Unmap 0 (span 16 1) ∷ [])
    ∷ (Op.Map 0 (span 16 1) Rights.ReadWrite ∷ [])
    ∷ [])

-- its races
abbrev pub walk_races : List Race
walk_races =
    record {
      flaw = Flaw.NotCompared;
      before = (8, 0) ∷ [];
      turns = (3, 0) ∷ (3, 1) ∷ (2, 0) ∷ [];
      blame = record {
        entries = 16;
        events = 11;
        broken = (Rule.Compare, 9) ∷ [];
        joint = Joint.StaleCommit ∷ [];
      };
    }
    ∷ record {
      flaw = Flaw.NotCompared;
      before = (8, 0) ∷ [];
      turns = (3, 0) ∷ (3, 1) ∷ (1, 0) ∷ (4, 1) ∷ (1, 0) ∷ [];
      blame = record {
        entries = 20;
        events = 12;
        broken = (Rule.Compare, 9) ∷ [];
        joint = Joint.StaleCommit ∷ [];
      };
    }
    ∷ record {
      flaw = Flaw.ComparedNow;
      before = (8, 0) ∷ [];
      turns = (3, 0) ∷ (6, 1) ∷ (2, 0) ∷ [];
      blame = record { entries = 19; events = 12; broken = []; joint = Joint.StaleCommit ∷ [] };
    }
    ∷ record {
      flaw = Flaw.ComparedNow;
      before = (8, 0) ∷ [];
      turns = (3, 0) ∷ (6, 1) ∷ (1, 0) ∷ (1, 1) ∷ (1, 0) ∷ [];
      blame = record { entries = 20; events = 12; broken = []; joint = Joint.StaleCommit ∷ [] };
    }
    ∷ record {
      flaw = Flaw.WalksUnlocked;
      before = (8, 0) ∷ [];
      turns = (6, 1) ∷ (6, 0) ∷ [];
      blame = record { entries = 20; events = 12; broken = (Rule.MmapLock, 7) ∷ []; joint = [] };
    }
    ∷ record {
      flaw = Flaw.WalksUnlocked;
      before = (8, 0) ∷ [];
      turns = (6, 1) ∷ (6, 0) ∷ [];
      blame = record { entries = 20; events = 12; broken = (Rule.MmapLock, 7) ∷ []; joint = [] };
    }
    ∷ record {
      flaw = Flaw.BegunAnyway;
      before = (8, 0) ∷ [];
      turns = (3, 1) ∷ (1, 0) ∷ [];
      blame = record { entries = 12; events = 6; broken = (Rule.BeginWaits, 5) ∷ []; joint = [] };
    }
    ∷ record {
      flaw = Flaw.BegunLast;
      before = (8, 0) ∷ [];
      turns = (2, 0) ∷ (6, 1) ∷ (3, 0) ∷ [];
      blame = record { entries = 19; events = 12; broken = (Rule.BeginFirst, 10) ∷ []; joint = [] };
    }
    ∷ record {
      flaw = Flaw.BegunLast;
      before = (8, 0) ∷ [];
      turns = (2, 0) ∷ (6, 1) ∷ (2, 0) ∷ (1, 1) ∷ (1, 0) ∷ [];
      blame = record { entries = 20; events = 12; broken = (Rule.BeginFirst, 10) ∷ []; joint = [] };
    }
    ∷ record {
      flaw = Flaw.SequenceLeft;
      before = (8, 0) ∷ [];
      turns = (3, 1) ∷ (1, 0) ∷ [];
      blame = record { entries = 12; events = 6; broken = (Rule.SetSequence, 4) ∷ []; joint = [] };
    }
    ∷ record {
      flaw = Flaw.SequenceLeft;
      before = (8, 0) ∷ [];
      turns = (3, 0) ∷ (3, 1) ∷ (1, 0) ∷ (4, 1) ∷ (1, 0) ∷ [];
      blame = record { entries = 20; events = 12; broken = (Rule.SetSequence, 8) ∷ []; joint = [] };
    }
    ∷ record {
      flaw = Flaw.TableLeft;
      before = (8, 0) ∷ [];
      turns = (4, 0) ∷ (3, 1) ∷ (1, 0) ∷ [];
      blame = record { entries = 16; events = 11; broken = []; joint = Joint.EntriesLeft ∷ [] };
    }
    ∷ record {
      flaw = Flaw.TableLeft;
      before = (8, 0) ∷ [];
      turns = (4, 0) ∷ (7, 1) ∷ (1, 0) ∷ [];
      blame = record {
        entries = 20;
        events = 12;
        broken = (Rule.Erase, 9) ∷ [];
        joint = Joint.EntriesLeft ∷ [];
      };
    }
    ∷ record {
      flaw = Flaw.ErasedAtEnd;
      before = (8, 0) ∷ [];
      turns = (4, 0) ∷ (3, 1) ∷ (1, 0) ∷ [];
      blame = record { entries = 16; events = 11; broken = []; joint = Joint.EntriesLeft ∷ [] };
    }
    ∷ []

-- the script zero
abbrev pub zero : Program
zero = script Version.Two 4 (2 ∷ []) 0 (
    (Op.Map 0 (span 16 1) Rights.ReadWrite ∷ Op.Attach 0 0 0 (span 16 1) ∷ Op.DeviceLoad 0 65536 1 ∷
    Op.DeviceStore 0 65536 (66 ∷ []) ∷ [])
    ∷ [])

-- its races
abbrev pub zero_races : List Race
zero_races =
    record {
      flaw = Flaw.AllForWrites;
      before = (3, 0) ∷ [];
      turns = (7, 0) ∷ [];
      blame = record { entries = 10; events = 9; broken = (Rule.EntryRight, 6) ∷ []; joint = [] };
    }
    ∷ record {
      flaw = Flaw.SequenceLeft;
      before = (3, 0) ∷ [];
      turns = (16, 0) ∷ [];
      blame = record { entries = 19; events = 19; broken = (Rule.SetSequence, 13) ∷ []; joint = [] };
    }
    ∷ []

-- the script own3
abbrev pub own3 : Program
own3 = script Version.Two 4 (2 ∷ []) 0 (
    (Op.Map 0 (span 16 1) Rights.ReadWrite ∷ Op.Store 0 65536 (65 ∷ []) ∷ Op.Attach 0 0 0 (span 16 1) ∷
    Op.ToDevice 0 (span 16 1) ∷ Op.DeviceLoad 0 65536 1 ∷ [])
    ∷ (Op.DeviceStore 0 65536 (66 ∷ []) ∷ [])
    ∷ [])

-- its races
abbrev pub own3_races : List Race
own3_races =
    record {
      flaw = Flaw.OwnSequenceLeft;
      before = (8, 0) ∷ [];
      turns = (3, 0) ∷ (3, 1) ∷ (12, 0) ∷ (2, 1) ∷ (6, 0) ∷ [];
      blame = record { entries = 34; events = 21; broken = []; joint = Joint.OwnSequenceLeft ∷ [] };
    }
    ∷ []

-- the script lost
abbrev pub lost : Program
lost = script Version.Two 4 (2 ∷ []) 0 (
    (Op.Map 0 (span 16 1) Rights.ReadWrite ∷ Op.Attach 0 0 0 (span 16 1) ∷ Op.ToDevice 0 (span 16 1) ∷ [])
    ∷ (Op.Store 0 65536 (65 ∷ []) ∷ Op.DeviceLoad 0 65536 1 ∷ [])
    ∷ [])

-- its races
abbrev pub lost_races : List Race
lost_races =
    record {
      flaw = Flaw.LostAsMoved;
      before = (3, 0) ∷ [];
      turns = (6, 0) ∷ (3, 1) ∷ (3, 0) ∷ (3, 1) ∷ [];
      blame = record { entries = 18; events = 15; broken = (Rule.SetMoved, 13) ∷ []; joint = [] };
    }
    ∷ record {
      flaw = Flaw.LostAsMoved;
      before = (3, 0) ∷ [];
      turns = (6, 0) ∷ (3, 1) ∷ (3, 0) ∷ (3, 1) ∷ [];
      blame = record { entries = 18; events = 15; broken = (Rule.SetMoved, 13) ∷ []; joint = [] };
    }
    ∷ []

-- the script move
abbrev pub move : Program
move = script Version.Two 4 (2 ∷ []) 0 (
    (Op.Map 0 (span 16 1) Rights.ReadWrite ∷ Op.Store 0 69120 (65 ∷ []) ∷ Op.Attach 0 0 0 (span 16 1) ∷
    Op.ToDevice 0 (span 16 1) ∷ [])
    ∷ (Op.DeviceLoad 0 69120 1 ∷ [])
    ∷ [])

-- its races
abbrev pub move_races : List Race
move_races =
    record {
      flaw = Flaw.OwnSequenceLeft;
      before = (8, 0) ∷ [];
      turns = (3, 0) ∷ (1, 1) ∷ [];
      blame = record { entries = 12; events = 6; broken = []; joint = Joint.OwnSequenceLeft ∷ [] };
    }
    ∷ record {
      flaw = Flaw.OwnIgnored;
      before = (8, 0) ∷ [];
      turns = (3, 0) ∷ (1, 1) ∷ [];
      blame = record { entries = 12; events = 6; broken = []; joint = Joint.OwnSequenceLeft ∷ [] };
    }
    ∷ []

-- the script leak
abbrev pub leak : Program
leak = script Version.Two 4 (2 ∷ []) 0 (
    (Op.Map 0 (span 16 1) Rights.ReadWrite ∷ Op.Attach 0 0 0 (span 16 1) ∷ Op.ToDevice 0 (span 16 1) ∷ [])
    ∷ (Op.Store 0 65536 (65 ∷ []) ∷ [])
    ∷ (Op.Remove 0 ∷ [])
    ∷ [])

-- its races
abbrev pub leak_races : List Race
leak_races =
    record {
      flaw = Flaw.WithdrawnTaken;
      before = (3, 0) ∷ [];
      turns = (5, 0) ∷ (1, 2) ∷ (1, 0) ∷ [];
      blame = record { entries = 10; events = 11; broken = (Rule.TakeFromThere, 10) ∷ []; joint = [] };
    }
    ∷ record {
      flaw = Flaw.NotWithdrawn;
      before = (3, 0) ∷ [];
      turns = (5, 0) ∷ (1, 2) ∷ (1, 0) ∷ [];
      blame = record { entries = 10; events = 11; broken = (Rule.WithdrawFirst, 6) ∷ []; joint = [] };
    }
    ∷ record {
      flaw = Flaw.LostHeld;
      before = (3, 0) ∷ [];
      turns = (6, 0) ∷ (3, 1) ∷ (2, 0) ∷ (2, 1) ∷ (1, 2) ∷ [];
      blame = record { entries = 17; events = 14; broken = (Rule.DropLost, 12) ∷ []; joint = [] };
    }
    ∷ []

-- the script rem
abbrev pub rem : Program
rem = script Version.Two 4 (2 ∷ []) 0 (
    (Op.Map 0 (span 16 2) Rights.ReadWrite ∷ Op.Store 0 65536 (65 ∷ []) ∷ Op.Attach 0 0 0 (span 16 2) ∷
    Op.ToDevice 0 (span 16 1) ∷ Op.ToDevice 0 (span 17 1) ∷ [])
    ∷ (Op.Remove 0 ∷ [])
    ∷ [])

-- its races
abbrev pub rem_races : List Race
rem_races =
    record {
      flaw = Flaw.RemovedAtOnce;
      before = (28, 0) ∷ [];
      turns = (2, 1) ∷ [];
      blame = record { entries = 30; events = 16; broken = (Rule.EvictFirst, 15) ∷ []; joint = [] };
    }
    ∷ []

-- the script excl
abbrev pub excl : Program
excl = script Version.Two 4 (2 ∷ []) 0 (
    (Op.Map 0 (span 16 1) Rights.ReadWrite ∷ Op.Store 0 65536 (65 ∷ []) ∷ Op.Attach 0 0 0 (span 16 1) ∷
    Op.Add 0 65536 1 ∷ [])
    ∷ (Op.Store 0 65536 (66 ∷ []) ∷ [])
    ∷ [])

-- its races
abbrev pub excl_races : List Race
excl_races =
    record {
      flaw = Flaw.AddedAnyway;
      before = (8, 0) ∷ [];
      turns = (8, 0) ∷ (3, 1) ∷ (1, 0) ∷ [];
      blame = record { entries = 20; events = 13; broken = (Rule.LookAgain, 12) ∷ []; joint = [] };
    }
    ∷ []

-- each comes to what stands there
abbrev pub ShortRacesAreBlamed : Type 0
ShortRacesAreBlamed =
    AllComeTo clear clear_races
    × AllComeTo detach detach_races
    × AllComeTo dev2 dev2_races
    × AllComeTo entry entry_races
    × AllComeTo entry2 entry2_races
    × AllComeTo forkdev forkdev_races
    × AllComeTo late late_races
    × AllComeTo leave leave_races
    × AllComeTo own own_races
    × AllComeTo protect protect_races
    × AllComeTo readonly readonly_races
    × AllComeTo rem2 rem2_races
    × AllComeTo retry retry_races
    × AllComeTo shared shared_races
    × AllComeTo two two_races
    × AllComeTo walk walk_races
    × AllComeTo zero zero_races
    × AllComeTo own3 own3_races
    × AllComeTo lost lost_races
    × AllComeTo move move_races
    × AllComeTo leak leak_races
    × AllComeTo rem rem_races
    × AllComeTo excl excl_races
