-- Races of right drivers: the worked scripts and those of the gallery, in the order of their reports.
-- They were written once, by a program that is not kept.
use Rattle.std.specs.Prelude.{List, [], ◌∷◌}
use Rattle.hm_base.specs.Pages.{span}
use Rattle.hm_base.specs.Program.{Program}
use Rattle.hm_base.specs.declared.ops.Op.{Op}
use Rattle.hm_base.specs.declared.ops.Rights.{Rights}
use Rattle.hm_base.specs.declared.ops.Version.{Version}
use Rattle.hm_flaws.specs.declared.flaws.Flaw.{Flaw}
use Rattle.hm_protocol.specs.Races.{Race, AllComeTo, script}

-- the script retry
abbrev pub right_retry : Program
right_retry = script Version.Two 4 (4 ∷ []) 0 (
    (Op.Map 0 (span 16 1) Rights.ReadWrite ∷ Op.Store 0 65536 (65 ∷ []) ∷ Op.Fork 0 1 ∷
    Op.Attach 0 0 0 (span 16 1) ∷ Op.DeviceLoad 0 65536 1 ∷ [])
    ∷ (Op.Store 0 65536 (66 ∷ []) ∷ [])
    ∷ [])

-- its races
abbrev pub right_retry_races : List Race
right_retry_races =
    record {
      flaw = Flaw.NoFlaw;
      before = (18, 0) ∷ (9, 1) ∷ (6, 0) ∷ [];
      turns = [];
      blame = record { entries = 33; events = 18; broken = []; joint = [] };
    }
    ∷ []

-- the script first
abbrev pub right_first : Program
right_first = script Version.Two 8 [] 0 (
    (Op.Map 0 (span 16 2) Rights.ReadWrite ∷ Op.Store 0 65536 (65 ∷ []) ∷ Op.Store 0 69632 (66 ∷ []) ∷
    Op.Fork 0 1 ∷ Op.Load 1 65536 1 ∷ Op.Load 1 69632 1 ∷ [])
    ∷ (Op.Store 0 69632 (67 ∷ []) ∷ [])
    ∷ [])

-- its races
abbrev pub right_first_races : List Race
right_first_races =
    record {
      flaw = Flaw.NoFlaw;
      before = (17, 0) ∷ (1, 1) ∷ (6, 0) ∷ [];
      turns = [];
      blame = record { entries = 24; events = 2; broken = []; joint = [] };
    }
    ∷ []

-- the script attach during invalidation
abbrev pub right_attach_during_invalidation : Program
right_attach_during_invalidation = script Version.Two 4 (4 ∷ 4 ∷ []) 0 (
    (Op.Map 0 (span 16 1) Rights.ReadWrite ∷ Op.Store 0 65536 (65 ∷ []) ∷ Op.Fork 0 1 ∷
    Op.Attach 0 0 0 (span 16 1) ∷ Op.Store 0 65536 (66 ∷ []) ∷ [])
    ∷ (Op.Attach 1 1 0 (span 16 1) ∷ Op.DeviceLoad 1 65536 1 ∷ [])
    ∷ [])

-- its races
abbrev pub right_attach_during_invalidation_races : List Race
right_attach_during_invalidation_races =
    record {
      flaw = Flaw.NoFlaw;
      before = (19, 0) ∷ (1, 1) ∷ (3, 0) ∷ (5, 1) ∷ (2, 0) ∷ [];
      turns = [];
      blame = record { entries = 30; events = 16; broken = []; joint = [] };
    }
    ∷ []

-- the script detach during invalidation
abbrev pub right_detach_during_invalidation : Program
right_detach_during_invalidation = script Version.Two 4 (4 ∷ []) 0 (
    (Op.Map 0 (span 16 1) Rights.ReadWrite ∷ Op.Attach 0 0 0 (span 16 1) ∷ Op.Store 0 65536 (65 ∷ []) ∷
    Op.Unmap 0 (span 16 1) ∷ [])
    ∷ (Op.DeviceLoad 0 65536 1 ∷ Op.Detach 0 ∷ Op.DeviceLoad 0 65536 1 ∷ [])
    ∷ [])

-- its races
abbrev pub right_detach_during_invalidation_races : List Race
right_detach_during_invalidation_races =
    record {
      flaw = Flaw.NoFlaw;
      before = (8, 0) ∷ (5, 1) ∷ (2, 0) ∷ (1, 1) ∷ (5, 0) ∷ (2, 1) ∷ [];
      turns = [];
      blame = record { entries = 23; events = 15; broken = []; joint = [] };
    }
    ∷ []

-- the script entry outlives unmap
abbrev pub right_entry_outlives_unmap : Program
right_entry_outlives_unmap = script Version.Two 4 (4 ∷ []) 0 (
    (Op.Map 0 (span 16 1) Rights.ReadWrite ∷ Op.Store 0 65536 (65 ∷ []) ∷ Op.Attach 0 0 0 (span 16 1) ∷
    Op.Unmap 0 (span 16 1) ∷ [])
    ∷ (Op.DeviceLoad 0 65536 1 ∷ Op.DeviceLoad 0 65536 1 ∷ Op.DeviceLoad 0 65536 1 ∷ [])
    ∷ [])

-- its races
abbrev pub right_entry_outlives_unmap_races : List Race
right_entry_outlives_unmap_races =
    record {
      flaw = Flaw.NoFlaw;
      before = (8, 0) ∷ (5, 1) ∷ (2, 0) ∷ (1, 1) ∷ (5, 0) ∷ (3, 1) ∷ [];
      turns = [];
      blame = record { entries = 24; events = 17; broken = []; joint = [] };
    }
    ∷ []

-- the script eviction against fault
abbrev pub right_eviction_against_fault : Program
right_eviction_against_fault = script Version.Two 4 (4 ∷ []) 0 (
    (Op.Map 0 (span 16 1) Rights.ReadWrite ∷ Op.Attach 0 0 0 (span 16 1) ∷ Op.ToDevice 0 (span 16 1) ∷
    Op.DeviceStore 0 65536 (65 ∷ []) ∷ Op.Load 0 65536 1 ∷ [])
    ∷ (Op.Evict 0 ∷ [])
    ∷ [])

-- its races
abbrev pub right_eviction_against_fault_races : List Race
right_eviction_against_fault_races =
    record {
      flaw = Flaw.NoFlaw;
      before = (17, 0) ∷ (1, 1) ∷ (4, 0) ∷ (4, 1) ∷ (16, 0) ∷ [];
      turns = [];
      blame = record { entries = 42; events = 36; broken = []; joint = [] };
    }
    ∷ []

-- the script eviction against fork
abbrev pub right_eviction_against_fork : Program
right_eviction_against_fork = script Version.Two 4 (4 ∷ []) 0 (
    (Op.Map 0 (span 16 1) Rights.ReadWrite ∷ Op.Attach 0 0 0 (span 16 1) ∷ Op.ToDevice 0 (span 16 1) ∷
    Op.DeviceStore 0 65536 (65 ∷ []) ∷ Op.Fork 0 1 ∷ Op.Load 1 65536 1 ∷ [])
    ∷ (Op.Evict 0 ∷ [])
    ∷ [])

-- its races
abbrev pub right_eviction_against_fork_races : List Race
right_eviction_against_fork_races =
    record {
      flaw = Flaw.NoFlaw;
      before = (17, 0) ∷ (8, 1) ∷ (9, 0) ∷ (11, 1) ∷ (2, 0) ∷ [];
      turns = [];
      blame = record { entries = 47; events = 29; broken = []; joint = [] };
    }
    ∷ []

-- the script eviction against unmap
abbrev pub right_eviction_against_unmap : Program
right_eviction_against_unmap = script Version.Two 4 (4 ∷ []) 0 (
    (Op.Map 0 (span 16 1) Rights.ReadWrite ∷ Op.Attach 0 0 0 (span 16 1) ∷ Op.ToDevice 0 (span 16 1) ∷
    Op.DeviceStore 0 65536 (65 ∷ []) ∷ Op.Unmap 0 (span 16 1) ∷ [])
    ∷ (Op.Evict 0 ∷ [])
    ∷ [])

-- its races
abbrev pub right_eviction_against_unmap_races : List Race
right_eviction_against_unmap_races =
    record {
      flaw = Flaw.NoFlaw;
      before = (17, 0) ∷ (8, 1) ∷ (6, 0) ∷ (9, 1) ∷ [];
      turns = [];
      blame = record { entries = 40; events = 29; broken = []; joint = [] };
    }
    ∷ []

-- the script exclusive against store
abbrev pub right_exclusive_against_store : Program
right_exclusive_against_store = script Version.Two 4 (4 ∷ []) 0 (
    (Op.Map 0 (span 16 1) Rights.ReadWrite ∷ Op.Store 0 65536 (16 ∷ []) ∷ Op.Attach 0 0 0 (span 16 1) ∷
    Op.Add 0 65536 1 ∷ [])
    ∷ (Op.Store 0 65536 (32 ∷ []) ∷ [])
    ∷ [])

-- its races
abbrev pub right_exclusive_against_store_races : List Race
right_exclusive_against_store_races =
    record {
      flaw = Flaw.NoFlaw;
      before = (16, 0) ∷ (7, 1) ∷ (9, 0) ∷ [];
      turns = [];
      blame = record { entries = 32; events = 20; broken = []; joint = [] };
    }
    ∷ []

-- the script fork during migration
abbrev pub right_fork_during_migration : Program
right_fork_during_migration = script Version.Two 4 (4 ∷ []) 0 (
    (Op.Map 0 (span 16 1) Rights.ReadWrite ∷ Op.Store 0 65536 (65 ∷ []) ∷ Op.Attach 0 0 0 (span 16 1) ∷
    Op.Fork 0 1 ∷ Op.ToDevice 0 (span 16 1) ∷ [])
    ∷ (Op.Fork 1 2 ∷ Op.Load 2 65536 1 ∷ [])
    ∷ [])

-- its races
abbrev pub right_fork_during_migration_races : List Race
right_fork_during_migration_races =
    record {
      flaw = Flaw.NoFlaw;
      before = (22, 0) ∷ (7, 1) ∷ (22, 0) ∷ [];
      turns = [];
      blame = record { entries = 51; events = 24; broken = []; joint = [] };
    }
    ∷ []

-- the script fork of device page
abbrev pub right_fork_of_device_page : Program
right_fork_of_device_page = script Version.Two 4 (4 ∷ []) 0 (
    (Op.Map 0 (span 16 1) Rights.ReadWrite ∷ Op.Store 0 65536 (65 ∷ []) ∷ Op.Attach 0 0 0 (span 16 1) ∷
    Op.ToDevice 0 (span 16 1) ∷ Op.Fork 0 1 ∷ Op.Load 1 65536 1 ∷ Op.Store 1 65536 (66 ∷ []) ∷
    Op.Load 0 65536 1 ∷ [])
    ∷ [])

-- its races
abbrev pub right_fork_of_device_page_races : List Race
right_fork_of_device_page_races =
    record {
      flaw = Flaw.NoFlaw;
      before = (69, 0) ∷ [];
      turns = [];
      blame = record { entries = 69; events = 34; broken = []; joint = [] };
    }
    ∷ []

-- the script fresh page lost
abbrev pub right_fresh_page_lost : Program
right_fresh_page_lost = script Version.Two 4 (4 ∷ []) 0 (
    (Op.Map 0 (span 16 1) Rights.ReadWrite ∷ Op.Attach 0 0 0 (span 16 1) ∷ Op.ToDevice 0 (span 16 1) ∷ [])
    ∷ (Op.Store 0 65536 (65 ∷ []) ∷ [])
    ∷ [])

-- its races
abbrev pub right_fresh_page_lost_races : List Race
right_fresh_page_lost_races =
    record {
      flaw = Flaw.NoFlaw;
      before = (8, 0) ∷ (5, 1) ∷ (4, 0) ∷ [];
      turns = [];
      blame = record { entries = 17; events = 14; broken = []; joint = [] };
    }
    ∷ []

-- the script look up must retry
abbrev pub right_look_up_must_retry : Program
right_look_up_must_retry = script Version.Two 4 (4 ∷ []) 0 (
    (Op.Map 0 (span 16 1) Rights.ReadWrite ∷ Op.Store 0 65536 (65 ∷ []) ∷ Op.Fork 0 1 ∷
    Op.Attach 0 0 0 (span 16 1) ∷ Op.DeviceLoad 0 65536 1 ∷ [])
    ∷ (Op.Store 0 65536 (66 ∷ []) ∷ [])
    ∷ [])

-- its races
abbrev pub right_look_up_must_retry_races : List Race
right_look_up_must_retry_races =
    record {
      flaw = Flaw.NoFlaw;
      before = (18, 0) ∷ (9, 1) ∷ (6, 0) ∷ [];
      turns = [];
      blame = record { entries = 33; events = 18; broken = []; joint = [] };
    }
    ∷ []

-- the script migration of shared page
abbrev pub right_migration_of_shared_page : Program
right_migration_of_shared_page = script Version.Two 4 (4 ∷ []) 0 (
    (Op.Map 0 (span 16 1) Rights.ReadWrite ∷ Op.Store 0 65536 (65 ∷ []) ∷ Op.Attach 0 0 0 (span 16 1) ∷
    Op.Fork 0 1 ∷ Op.ToDevice 0 (span 16 1) ∷ [])
    ∷ (Op.Store 1 65536 (66 ∷ []) ∷ [])
    ∷ [])

-- its races
abbrev pub right_migration_of_shared_page_races : List Race
right_migration_of_shared_page_races =
    record {
      flaw = Flaw.NoFlaw;
      before = (16, 0) ∷ (3, 1) ∷ (9, 0) ∷ (3, 1) ∷ (15, 0) ∷ (28, 1) ∷ [];
      turns = [];
      blame = record { entries = 74; events = 38; broken = []; joint = [] };
    }
    ∷ []

-- the script protect during look up
abbrev pub right_protect_during_look_up : Program
right_protect_during_look_up = script Version.Two 4 (4 ∷ []) 0 (
    (Op.Map 0 (span 16 1) Rights.ReadWrite ∷ Op.Store 0 65536 (65 ∷ []) ∷ Op.Attach 0 0 0 (span 16 1) ∷
    Op.Protect 0 (span 16 1) Rights.Read ∷ [])
    ∷ (Op.DeviceStore 0 65536 (66 ∷ []) ∷ [])
    ∷ [])

-- its races
abbrev pub right_protect_during_look_up_races : List Race
right_protect_during_look_up_races =
    record {
      flaw = Flaw.NoFlaw;
      before = (8, 0) ∷ (3, 1) ∷ (6, 0) ∷ (4, 1) ∷ [];
      turns = [];
      blame = record { entries = 21; events = 13; broken = []; joint = [] };
    }
    ∷ []

-- the script removal without frame
abbrev pub right_removal_without_frame : Program
right_removal_without_frame = script Version.Two 1 (4 ∷ []) 0 (
    (Op.Map 0 (span 16 2) Rights.ReadWrite ∷ Op.Attach 0 0 0 (span 16 2) ∷ Op.ToDevice 0 (span 16 1) ∷
    Op.Remove 0 ∷ Op.Unmap 0 (span 17 1) ∷ Op.Remove 0 ∷ Op.ToDevice 0 (span 16 1) ∷ [])
    ∷ (Op.Store 0 69632 (65 ∷ []) ∷ [])
    ∷ [])

-- its races
abbrev pub right_removal_without_frame_races : List Race
right_removal_without_frame_races =
    record {
      flaw = Flaw.NoFlaw;
      before = (17, 0) ∷ (5, 1) ∷ (42, 0) ∷ [];
      turns = [];
      blame = record { entries = 64; events = 43; broken = []; joint = [] };
    }
    ∷ []

-- the script two devices one page
abbrev pub right_two_devices_one_page : Program
right_two_devices_one_page = script Version.Two 4 (4 ∷ 4 ∷ []) 0 (
    (Op.Map 0 (span 16 1) Rights.ReadWrite ∷ Op.Store 0 65536 (65 ∷ []) ∷ Op.Attach 0 0 0 (span 16 1) ∷
    Op.Attach 1 1 0 (span 16 1) ∷ Op.ToDevice 0 (span 16 1) ∷ [])
    ∷ (Op.ToDevice 1 (span 16 1) ∷ Op.DeviceLoad 1 65536 1 ∷ [])
    ∷ [])

-- its races
abbrev pub right_two_devices_one_page_races : List Race
right_two_devices_one_page_races =
    record {
      flaw = Flaw.NoFlaw;
      before = (18, 0) ∷ (9, 1) ∷ (12, 0) ∷ (24, 1) ∷ [];
      turns = [];
      blame = record { entries = 63; events = 51; broken = []; joint = [] };
    }
    ∷ []

-- the script two faults one page
abbrev pub right_two_faults_one_page : Program
right_two_faults_one_page = script Version.Two 4 [] 0 (
    (Op.Map 0 (span 16 1) Rights.ReadWrite ∷ Op.Store 0 65536 (65 ∷ []) ∷ Op.Fork 0 1 ∷
    Op.Store 0 65536 (66 ∷ []) ∷ [])
    ∷ (Op.Store 0 65537 (67 ∷ []) ∷ [])
    ∷ [])

-- its races
abbrev pub right_two_faults_one_page_races : List Race
right_two_faults_one_page_races =
    record {
      flaw = Flaw.NoFlaw;
      before = (17, 0) ∷ (4, 1) ∷ (5, 0) ∷ (4, 1) ∷ [];
      turns = [];
      blame = record { entries = 30; events = 6; broken = []; joint = [] };
    }
    ∷ []

-- each comes to what stands there
abbrev pub RightRacesAreUnblamed : Type 0
RightRacesAreUnblamed =
    AllComeTo right_retry right_retry_races
    × AllComeTo right_first right_first_races
    × AllComeTo right_attach_during_invalidation right_attach_during_invalidation_races
    × AllComeTo right_detach_during_invalidation right_detach_during_invalidation_races
    × AllComeTo right_entry_outlives_unmap right_entry_outlives_unmap_races
    × AllComeTo right_eviction_against_fault right_eviction_against_fault_races
    × AllComeTo right_eviction_against_fork right_eviction_against_fork_races
    × AllComeTo right_eviction_against_unmap right_eviction_against_unmap_races
    × AllComeTo right_exclusive_against_store right_exclusive_against_store_races
    × AllComeTo right_fork_during_migration right_fork_during_migration_races
    × AllComeTo right_fork_of_device_page right_fork_of_device_page_races
    × AllComeTo right_fresh_page_lost right_fresh_page_lost_races
    × AllComeTo right_look_up_must_retry right_look_up_must_retry_races
    × AllComeTo right_migration_of_shared_page right_migration_of_shared_page_races
    × AllComeTo right_protect_during_look_up right_protect_during_look_up_races
    × AllComeTo right_removal_without_frame right_removal_without_frame_races
    × AllComeTo right_two_devices_one_page right_two_devices_one_page_races
    × AllComeTo right_two_faults_one_page right_two_faults_one_page_races
