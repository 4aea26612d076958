-- What drivers come to in the same turns, as far as it tells them apart. tools/make_flaw_races.py writes this file.
use Rattle.std.specs.Prelude.{◌≡◌, ℕ, true, false, Some, None, List, [], ◌∷◌, ◌++◌, map, replicate}
use Rattle.hm_base.specs.Program.{Program}
use Rattle.hm_base.specs.declared.ops.Op.{Op}
use Rattle.hm_base.specs.declared.ops.Rights.{Rights}
use Rattle.hm_base.specs.declared.ops.ScheduleLine.{ScheduleLine}
use Rattle.hm_base.specs.declared.ops.Version.{Version}
use Rattle.hm_flaws.specs.declared.flaws.Flaw.{Flaw}
use Rattle.hm_flaws.specs.declared.parts.Part.{Part}
use Rattle.hm_flaws.specs.Races.{ComesTo, broke, did_not, sticks, outcome_by}

-- examples/broken/busy.hmm
abbrev pub busy_script : Program
busy_script = record {
  version = Version.Two;
  frames = 4;
  devices = 2 ∷ [];
  skip = 0;
  actors = ((Op.Map 0 (record { first = 16; count = 2 }) Rights.ReadWrite)
      ∷ (Op.Store 0 0x10000 (65 ∷ []))
      ∷ (Op.Attach 0 0 0 (record { first = 16; count = 2 }))
      ∷ (Op.Exclusive 0 16)
      ∷ [])
      ∷ ((Op.ToDevice 0 (record { first = 17; count = 1 }))
      ∷ [])
      ∷ [];
  schedule = ScheduleLine.Run 0 8 ∷ [];
}

-- turns after the run of that script
abbrev pub busy_2_turns : List ℕ
busy_2_turns = replicate 4 0 ++ replicate 2 1 ++ replicate 1 0

-- some drivers
abbrev pub busy_2_flaws : List Flaw
busy_2_flaws = Flaw.NoFlaw
    ∷ Flaw.SoleAnyway
    ∷ Flaw.EndedAtOnce
    ∷ Flaw.UnnamedHeld
    ∷ []

-- what they come to in these turns
abbrev pub busy_2_outcomes : List ComesTo
busy_2_outcomes = (did_not 7)
    ∷ (did_not 7)
    ∷ (broke Part.Sequences 6)
    ∷ (did_not 7)
    ∷ []

-- examples/broken/clear.hmm
abbrev pub clear_script : Program
clear_script = record {
  version = Version.Two;
  frames = 4;
  devices = 1 ∷ [];
  skip = 0;
  actors = ((Op.Map 0 (record { first = 16; count = 2 }) Rights.ReadWrite)
      ∷ (Op.Store 0 0x10000 (65 ∷ []))
      ∷ (Op.Attach 0 0 0 (record { first = 16; count = 2 }))
      ∷ (Op.ToDevice 0 (record { first = 16; count = 1 }))
      ∷ (Op.ToSystem 0 (record { first = 16; count = 1 }))
      ∷ (Op.ToDevice 0 (record { first = 17; count = 1 }))
      ∷ (Op.DeviceLoad 0 0x11000 1)
      ∷ [])
      ∷ [];
  schedule = ScheduleLine.Run 0 47 ∷ [];
}

-- turns after the run of that script
abbrev pub clear_1_turns : List ℕ
clear_1_turns = replicate 14 0

-- some drivers
abbrev pub clear_1_flaws : List Flaw
clear_1_flaws = Flaw.NoFlaw
    ∷ Flaw.NotCleared
    ∷ Flaw.SoleAnyway
    ∷ Flaw.UnnamedHeld
    ∷ []

-- what they come to in these turns
abbrev pub clear_1_outcomes : List ComesTo
clear_1_outcomes = (did_not 14)
    ∷ (broke Part.Answers 13)
    ∷ (did_not 14)
    ∷ (did_not 14)
    ∷ []

-- examples/broken/detach.hmm
abbrev pub detach_script : Program
detach_script = record {
  version = Version.Two;
  frames = 4;
  devices = 2 ∷ [];
  skip = 0;
  actors = ((Op.Map 0 (record { first = 16; count = 1 }) Rights.ReadWrite)
      ∷ (Op.Store 0 0x10000 (65 ∷ []))
      ∷ (Op.Attach 0 0 0 (record { first = 16; count = 1 }))
      ∷ (Op.DeviceLoad 0 0x10000 1)
      ∷ (Op.DeviceLoad 0 0x10000 1)
      ∷ [])
      ∷ ((Op.Detach 0)
      ∷ [])
      ∷ [];
  schedule = ScheduleLine.Run 0 13 ∷ [];
}

-- turns after the run of that script
abbrev pub detach_1_turns : List ℕ
detach_1_turns = replicate 1 1 ++ replicate 1 0

-- some drivers
abbrev pub detach_1_flaws : List Flaw
detach_1_flaws = Flaw.NoFlaw
    ∷ Flaw.UsedDetached
    ∷ Flaw.SoleAnyway
    ∷ Flaw.UnnamedHeld
    ∷ []

-- what they come to in these turns
abbrev pub detach_1_outcomes : List ComesTo
detach_1_outcomes = (did_not 2)
    ∷ (broke Part.Answers 1)
    ∷ (did_not 2)
    ∷ (did_not 2)
    ∷ []

-- examples/broken/excl.hmm
abbrev pub excl_script : Program
excl_script = record {
  version = Version.Two;
  frames = 4;
  devices = 2 ∷ [];
  skip = 0;
  actors = ((Op.Map 0 (record { first = 16; count = 1 }) Rights.ReadWrite)
      ∷ (Op.Store 0 0x10000 (65 ∷ []))
      ∷ (Op.Attach 0 0 0 (record { first = 16; count = 1 }))
      ∷ (Op.Add 0 0x10000 1)
      ∷ [])
      ∷ ((Op.Store 0 0x10000 (66 ∷ []))
      ∷ [])
      ∷ [];
  schedule = ScheduleLine.Run 0 8 ∷ [];
}

-- turns after the run of that script
abbrev pub excl_2_turns : List ℕ
excl_2_turns = replicate 8 0 ++ replicate 3 1 ++ replicate 1 0

-- some drivers
abbrev pub excl_2_flaws : List Flaw
excl_2_flaws = Flaw.NoFlaw
    ∷ Flaw.FirstErased
    ∷ Flaw.SoleAnyway
    ∷ Flaw.AddedAnyway
    ∷ Flaw.UnnamedHeld
    ∷ []

-- what they come to in these turns
abbrev pub excl_2_outcomes : List ComesTo
excl_2_outcomes = (did_not 12)
    ∷ (did_not 12)
    ∷ (did_not 12)
    ∷ (broke Part.Places 11)
    ∷ (did_not 12)
    ∷ []

-- examples/broken/fork.hmm
abbrev pub fork_script : Program
fork_script = record {
  version = Version.Two;
  frames = 4;
  devices = 2 ∷ [];
  skip = 0;
  actors = ((Op.Map 0 (record { first = 16; count = 1 }) Rights.ReadWrite)
      ∷ (Op.Store 0 0x10000 (65 ∷ []))
      ∷ (Op.Fork 0 1)
      ∷ (Op.Load 1 0x10000 1)
      ∷ [])
      ∷ ((Op.Store 0 0x10000 (66 ∷ []))
      ∷ [])
      ∷ [];
  schedule = ScheduleLine.Run 0 7 ∷ [];
}

-- turns after the run of that script
abbrev pub fork_1_turns : List ℕ
fork_1_turns = replicate 4 0

-- some drivers
abbrev pub fork_1_flaws : List Flaw
fork_1_flaws = Flaw.NoFlaw
    ∷ Flaw.SoleAnyway
    ∷ Flaw.ForkedWhole
    ∷ Flaw.UnnamedHeld
    ∷ []

-- what they come to in these turns
abbrev pub fork_1_outcomes : List ComesTo
fork_1_outcomes = (did_not 4)
    ∷ (did_not 4)
    ∷ (broke Part.Places 3)
    ∷ (did_not 4)
    ∷ []

-- examples/broken/leak.hmm
abbrev pub leak_script : Program
leak_script = record {
  version = Version.Two;
  frames = 4;
  devices = 2 ∷ [];
  skip = 0;
  actors = ((Op.Map 0 (record { first = 16; count = 1 }) Rights.ReadWrite)
      ∷ (Op.Attach 0 0 0 (record { first = 16; count = 1 }))
      ∷ (Op.ToDevice 0 (record { first = 16; count = 1 }))
      ∷ [])
      ∷ ((Op.Store 0 0x10000 (65 ∷ []))
      ∷ [])
      ∷ ((Op.Remove 0)
      ∷ [])
      ∷ [];
  schedule = ScheduleLine.Run 0 3 ∷ [];
}

-- turns after the run of that script
abbrev pub leak_7_turns : List ℕ
leak_7_turns = replicate 3 0 ++ replicate 3 1 ++ replicate 2 0 ++ replicate 1 2 ++ replicate 3 0 ++ replicate 1 2

-- some drivers
abbrev pub leak_7_flaws : List Flaw
leak_7_flaws = Flaw.NoFlaw
    ∷ Flaw.SoleAnyway
    ∷ Flaw.NotPutBack
    ∷ Flaw.UnnamedHeld
    ∷ []

-- what they come to in these turns
abbrev pub leak_7_outcomes : List ComesTo
leak_7_outcomes = (did_not 13)
    ∷ (did_not 13)
    ∷ (sticks 13)
    ∷ (did_not 13)
    ∷ []

-- examples/broken/leave.hmm
abbrev pub leave_script : Program
leave_script = record {
  version = Version.Two;
  frames = 4;
  devices = 2 ∷ [];
  skip = 0;
  actors = ((Op.Map 0 (record { first = 16; count = 1 }) Rights.ReadWrite)
      ∷ (Op.Store 0 0x10000 (65 ∷ []))
      ∷ (Op.Attach 0 0 0 (record { first = 16; count = 1 }))
      ∷ (Op.Unmap 0 (record { first = 16; count = 1 }))
      ∷ [])
      ∷ ((Op.Detach 0)
      ∷ [])
      ∷ [];
  schedule = ScheduleLine.Run 0 8 ∷ [];
}

-- turns after the run of that script
abbrev pub leave_1_turns : List ℕ
leave_1_turns = replicate 2 0 ++ replicate 1 1

-- some drivers
abbrev pub leave_1_flaws : List Flaw
leave_1_flaws = Flaw.NoFlaw
    ∷ Flaw.DetachedAtOnce
    ∷ Flaw.SoleAnyway
    ∷ Flaw.UnnamedHeld
    ∷ []

-- what they come to in these turns
abbrev pub leave_1_outcomes : List ComesTo
leave_1_outcomes = (did_not 3)
    ∷ (broke Part.Sequences 2)
    ∷ (did_not 3)
    ∷ (did_not 3)
    ∷ []

-- examples/broken/locked.hmm
abbrev pub locked_script : Program
locked_script = record {
  version = Version.One;
  frames = 2;
  devices = 1 ∷ 1 ∷ [];
  skip = 0;
  actors = ((Op.Map 0 (record { first = 16; count = 1 }) Rights.ReadWrite)
      ∷ (Op.Store 0 0x10000 (65 ∷ []))
      ∷ (Op.Attach 0 0 0 (record { first = 16; count = 1 }))
      ∷ (Op.Attach 1 1 0 (record { first = 16; count = 1 }))
      ∷ (Op.ToDevice 0 (record { first = 16; count = 1 }))
      ∷ (Op.DeviceStore 0 0x10000 (66 ∷ []))
      ∷ [])
      ∷ ((Op.ToDevice 1 (record { first = 16; count = 1 }))
      ∷ (Op.DeviceLoad 1 0x10000 1)
      ∷ [])
      ∷ [];
  schedule = ScheduleLine.Run 0 25 ∷ ScheduleLine.Run 1 4 ∷ [];
}

-- turns after the run of that script
abbrev pub locked_2_turns : List ℕ
locked_2_turns = replicate 4 0 ++ replicate 2 1 ++ replicate 3 0 ++ replicate 8 1 ++ replicate 2 0

-- some drivers
abbrev pub locked_2_flaws : List Flaw
locked_2_flaws = Flaw.NoFlaw
    ∷ Flaw.OwnAnyway
    ∷ Flaw.SoleAnyway
    ∷ Flaw.UnnamedHeld
    ∷ []

-- what they come to in these turns
abbrev pub locked_2_outcomes : List ComesTo
locked_2_outcomes = (did_not 19)
    ∷ (did_not 16)
    ∷ (did_not 19)
    ∷ (did_not 19)
    ∷ []

-- turns after the run of that script
abbrev pub locked_6_turns : List ℕ
locked_6_turns = replicate 2 1 ++ replicate 5 0 ++ replicate 5 1 ++ replicate 1 0

-- some drivers
abbrev pub locked_6_flaws : List Flaw
locked_6_flaws = Flaw.NoFlaw
    ∷ Flaw.AnyDevice
    ∷ Flaw.SoleAnyway
    ∷ Flaw.UnnamedHeld
    ∷ []

-- what they come to in these turns
abbrev pub locked_6_outcomes : List ComesTo
locked_6_outcomes = (did_not 12)
    ∷ (broke Part.Places 11)
    ∷ (did_not 12)
    ∷ (did_not 12)
    ∷ []

-- turns after the run of that script
abbrev pub locked_8_turns : List ℕ
locked_8_turns = replicate 1 1 ++ replicate 2 0 ++ replicate 13 1

-- some drivers
abbrev pub locked_8_flaws : List Flaw
locked_8_flaws = Flaw.LockedTaken
    ∷ []

-- what they come to in these turns
abbrev pub locked_8_outcomes : List ComesTo
locked_8_outcomes = (broke Part.Places 15)
    ∷ []

-- examples/broken/lost.hmm
abbrev pub lost_script : Program
lost_script = record {
  version = Version.Two;
  frames = 4;
  devices = 2 ∷ [];
  skip = 0;
  actors = ((Op.Map 0 (record { first = 16; count = 1 }) Rights.ReadWrite)
      ∷ (Op.Attach 0 0 0 (record { first = 16; count = 1 }))
      ∷ (Op.ToDevice 0 (record { first = 16; count = 1 }))
      ∷ [])
      ∷ ((Op.Store 0 0x10000 (65 ∷ []))
      ∷ (Op.DeviceLoad 0 0x10000 1)
      ∷ [])
      ∷ [];
  schedule = ScheduleLine.Run 0 3 ∷ [];
}

-- turns after the run of that script
abbrev pub lost_5_turns : List ℕ
lost_5_turns = replicate 6 0 ++ replicate 3 1 ++ replicate 3 0 ++ replicate 3 1

-- some drivers
abbrev pub lost_5_flaws : List Flaw
lost_5_flaws = Flaw.LostAsMoved
    ∷ Flaw.LostHeld
    ∷ Flaw.FreshAnyway
    ∷ []

-- what they come to in these turns
abbrev pub lost_5_outcomes : List ComesTo
lost_5_outcomes = (broke Part.Answers 14)
    ∷ (did_not 14)
    ∷ (did_not 15)
    ∷ []

-- turns after the run of that script
abbrev pub lost_8_turns : List ℕ
lost_8_turns = replicate 8 0 ++ replicate 5 1 ++ replicate 4 0 ++ replicate 1 1

-- some drivers
abbrev pub lost_8_flaws : List Flaw
lost_8_flaws = Flaw.NoFlaw
    ∷ Flaw.SoleAnyway
    ∷ Flaw.FreshAnyway
    ∷ Flaw.UnnamedHeld
    ∷ []

-- what they come to in these turns
abbrev pub lost_8_outcomes : List ComesTo
lost_8_outcomes = (did_not 18)
    ∷ (did_not 18)
    ∷ (broke Part.Answers 17)
    ∷ (did_not 18)
    ∷ []

-- examples/broken/others.hmm
abbrev pub others_script : Program
others_script = record {
  version = Version.Two;
  frames = 4;
  devices = 2 ∷ [];
  skip = 0;
  actors = ((Op.Map 0 (record { first = 16; count = 2 }) Rights.ReadWrite)
      ∷ (Op.Store 0 0x10000 (65 ∷ []))
      ∷ (Op.Fork 0 1)
      ∷ (Op.Attach 0 0 0 (record { first = 16; count = 1 }))
      ∷ (Op.ToDevice 0 (record { first = 16; count = 1 }))
      ∷ [])
      ∷ ((Op.Store 0 0x11000 (66 ∷ []))
      ∷ (Op.Load 1 0x10000 1)
      ∷ [])
      ∷ [];
  schedule = ScheduleLine.Run 0 15 ∷ [];
}

-- turns after the run of that script
abbrev pub others_4_turns : List ℕ
others_4_turns = replicate 20 0

-- some drivers
abbrev pub others_4_flaws : List Flaw
others_4_flaws = Flaw.NoFlaw
    ∷ Flaw.SoleAnyway
    ∷ Flaw.OthersLeft
    ∷ Flaw.BackForWrites
    ∷ Flaw.UnnamedHeld
    ∷ []

-- what they come to in these turns
abbrev pub others_4_outcomes : List ComesTo
others_4_outcomes = (did_not 20)
    ∷ (did_not 20)
    ∷ (broke Part.Places 17)
    ∷ (broke Part.Places 19)
    ∷ (did_not 20)
    ∷ []

-- examples/broken/own.hmm
abbrev pub own_script : Program
own_script = record {
  version = Version.Two;
  frames = 4;
  devices = 2 ∷ [];
  skip = 0;
  actors = ((Op.Map 0 (record { first = 16; count = 1 }) Rights.ReadWrite)
      ∷ (Op.Store 0 0x10000 (65 ∷ []))
      ∷ (Op.Attach 0 0 0 (record { first = 16; count = 1 }))
      ∷ (Op.DeviceLoad 0 0x10000 1)
      ∷ (Op.ToDevice 0 (record { first = 16; count = 1 }))
      ∷ (Op.DeviceLoad 0 0x10000 1)
      ∷ [])
      ∷ ((Op.DeviceStore 0 0x10000 (66 ∷ []))
      ∷ [])
      ∷ [];
  schedule = ScheduleLine.Run 0 13 ∷ [];
}

-- turns after the run of that script
abbrev pub own_2_turns : List ℕ
own_2_turns = replicate 3 0 ++ replicate 2 1 ++ replicate 12 0 ++ replicate 3 1

-- some drivers
abbrev pub own_2_flaws : List Flaw
own_2_flaws = Flaw.NoFlaw
    ∷ Flaw.OwnTableLeft
    ∷ Flaw.PartCopied
    ∷ Flaw.SoleAnyway
    ∷ Flaw.FrozenLate
    ∷ Flaw.UnnamedHeld
    ∷ []

-- what they come to in these turns
abbrev pub own_2_outcomes : List ComesTo
own_2_outcomes = (did_not 17)
    ∷ (broke Part.Places 3)
    ∷ (did_not 16)
    ∷ (did_not 17)
    ∷ (did_not 18)
    ∷ (did_not 17)
    ∷ []

-- turns after the run of that script
abbrev pub own_4_turns : List ℕ
own_4_turns = replicate 15 0 ++ replicate 5 1 ++ replicate 10 0

-- some drivers
abbrev pub own_4_flaws : List Flaw
own_4_flaws = Flaw.OwnIgnored
    ∷ Flaw.OwnSequenceLeft
    ∷ Flaw.OwnTableLeft
    ∷ []

-- what they come to in these turns
abbrev pub own_4_outcomes : List ComesTo
own_4_outcomes = (broke Part.Places 15)
    ∷ (broke Part.Sequences 15)
    ∷ (did_not 23)
    ∷ []

-- examples/broken/protect.hmm
abbrev pub protect_script : Program
protect_script = record {
  version = Version.Two;
  frames = 4;
  devices = 2 ∷ [];
  skip = 0;
  actors = ((Op.Map 0 (record { first = 16; count = 1 }) Rights.ReadWrite)
      ∷ (Op.Attach 0 0 0 (record { first = 16; count = 1 }))
      ∷ (Op.DeviceStore 0 0x10000 (65 ∷ []))
      ∷ [])
      ∷ ((Op.Protect 0 (record { first = 16; count = 1 }) Rights.Read)
      ∷ [])
      ∷ [];
  schedule = ScheduleLine.Run 0 3 ∷ [];
}

-- turns after the run of that script
abbrev pub protect_6_turns : List ℕ
protect_6_turns = replicate 6 0 ++ replicate 3 1 ++ replicate 1 0

-- some drivers
abbrev pub protect_6_flaws : List Flaw
protect_6_flaws = Flaw.ErasedAtEnd
    ∷ Flaw.OwnIgnored
    ∷ Flaw.OwnSequenceLeft
    ∷ Flaw.OwnTableLeft
    ∷ Flaw.AddedAnyway
    ∷ Flaw.ToldLast
    ∷ []

-- what they come to in these turns
abbrev pub protect_6_outcomes : List ComesTo
protect_6_outcomes = (broke Part.Places 9)
    ∷ (did_not 9)
    ∷ (did_not 9)
    ∷ (did_not 9)
    ∷ (did_not 9)
    ∷ (broke Part.Guarded 8)
    ∷ []

-- examples/broken/readonly.hmm
abbrev pub readonly_script : Program
readonly_script = record {
  version = Version.Two;
  frames = 4;
  devices = 2 ∷ [];
  skip = 0;
  actors = ((Op.Map 0 (record { first = 16; count = 1 }) Rights.Read)
      ∷ (Op.Attach 0 0 0 (record { first = 16; count = 1 }))
      ∷ (Op.ToDevice 0 (record { first = 16; count = 1 }))
      ∷ (Op.DeviceStore 0 0x10000 (66 ∷ []))
      ∷ [])
      ∷ [];
  schedule = ScheduleLine.Run 0 3 ∷ [];
}

-- turns after the run of that script
abbrev pub readonly_1_turns : List ℕ
readonly_1_turns = replicate 14 0

-- some drivers
abbrev pub readonly_1_flaws : List Flaw
readonly_1_flaws = Flaw.NoFlaw
    ∷ Flaw.OwnForWrites
    ∷ Flaw.SoleAnyway
    ∷ Flaw.FreshForWrites
    ∷ Flaw.UnnamedHeld
    ∷ []

-- what they come to in these turns
abbrev pub readonly_1_outcomes : List ComesTo
readonly_1_outcomes = (did_not 14)
    ∷ (broke Part.Answers 13)
    ∷ (did_not 14)
    ∷ (broke Part.Answers 13)
    ∷ (did_not 14)
    ∷ []

-- examples/broken/rem.hmm
abbrev pub rem_script : Program
rem_script = record {
  version = Version.Two;
  frames = 4;
  devices = 2 ∷ [];
  skip = 0;
  actors = ((Op.Map 0 (record { first = 16; count = 2 }) Rights.ReadWrite)
      ∷ (Op.Store 0 0x10000 (65 ∷ []))
      ∷ (Op.Attach 0 0 0 (record { first = 16; count = 2 }))
      ∷ (Op.ToDevice 0 (record { first = 16; count = 1 }))
      ∷ (Op.ToDevice 0 (record { first = 17; count = 1 }))
      ∷ [])
      ∷ ((Op.Remove 0)
      ∷ [])
      ∷ [];
  schedule = ScheduleLine.Run 0 28 ∷ [];
}

-- turns after the run of that script
abbrev pub rem_1_turns : List ℕ
rem_1_turns = replicate 5 0 ++ replicate 1 1 ++ replicate 1 0

-- some drivers
abbrev pub rem_1_flaws : List Flaw
rem_1_flaws = Flaw.WithdrawnTaken
    ∷ []

-- what they come to in these turns
abbrev pub rem_1_outcomes : List ComesTo
rem_1_outcomes = (broke Part.Places 6)
    ∷ []

-- examples/broken/rem2.hmm
abbrev pub rem2_script : Program
rem2_script = record {
  version = Version.Two;
  frames = 4;
  devices = 2 ∷ [];
  skip = 0;
  actors = ((Op.Map 0 (record { first = 16; count = 2 }) Rights.ReadWrite)
      ∷ (Op.Store 0 0x10000 (65 ∷ []))
      ∷ (Op.Attach 0 0 0 (record { first = 16; count = 2 }))
      ∷ (Op.ToDevice 0 (record { first = 16; count = 1 }))
      ∷ (Op.Load 0 0x10000 1)
      ∷ [])
      ∷ ((Op.Remove 0)
      ∷ [])
      ∷ [];
  schedule = ScheduleLine.Run 0 28 ∷ [];
}

-- turns after the run of that script
abbrev pub rem2_2_turns : List ℕ
rem2_2_turns = replicate 4 0 ++ replicate 3 1

-- some drivers
abbrev pub rem2_2_flaws : List Flaw
rem2_2_flaws = Flaw.NoFlaw
    ∷ Flaw.RemovedAtOnce
    ∷ Flaw.NotWithdrawn
    ∷ Flaw.LockedPassed
    ∷ Flaw.SoleAnyway
    ∷ Flaw.DeviceAccessed
    ∷ Flaw.UnnamedHeld
    ∷ []

-- what they come to in these turns
abbrev pub rem2_2_outcomes : List ComesTo
rem2_2_outcomes = (did_not 5)
    ∷ (broke Part.Places 5)
    ∷ (did_not 4)
    ∷ (broke Part.Places 6)
    ∷ (did_not 5)
    ∷ (broke Part.Places 0)
    ∷ (did_not 5)
    ∷ []

-- examples/broken/shared.hmm
abbrev pub shared_script : Program
shared_script = record {
  version = Version.Two;
  frames = 4;
  devices = 2 ∷ [];
  skip = 0;
  actors = ((Op.Map 0 (record { first = 16; count = 1 }) Rights.ReadWrite)
      ∷ (Op.Store 0 0x10000 (65 ∷ []))
      ∷ (Op.Fork 0 1)
      ∷ (Op.Attach 0 0 0 (record { first = 16; count = 1 }))
      ∷ (Op.DeviceLoad 0 0x10000 1)
      ∷ (Op.DeviceStore 0 0x10000 (66 ∷ []))
      ∷ [])
      ∷ ((Op.Load 1 0x10000 1)
      ∷ [])
      ∷ [];
  schedule = ScheduleLine.Run 0 15 ∷ [];
}

-- turns after the run of that script
abbrev pub shared_1_turns : List ℕ
shared_1_turns = replicate 6 0

-- some drivers
abbrev pub shared_1_flaws : List Flaw
shared_1_flaws = Flaw.ReadsWritten
    ∷ Flaw.OwnForWrites
    ∷ Flaw.FreshForWrites
    ∷ []

-- what they come to in these turns
abbrev pub shared_1_outcomes : List ComesTo
shared_1_outcomes = (broke Part.Places 5)
    ∷ (did_not 6)
    ∷ (did_not 6)
    ∷ []

-- examples/broken/stale.hmm
abbrev pub stale_script : Program
stale_script = record {
  version = Version.Two;
  frames = 4;
  devices = 2 ∷ [];
  skip = 0;
  actors = ((Op.Map 0 (record { first = 16; count = 1 }) Rights.ReadWrite)
      ∷ (Op.Attach 0 0 0 (record { first = 16; count = 1 }))
      ∷ (Op.DeviceLoad 0 0x10000 1)
      ∷ (Op.Store 0 0x10000 (65 ∷ []))
      ∷ (Op.DeviceLoad 0 0x10000 1)
      ∷ [])
      ∷ ((Op.Store 0 0x10001 (66 ∷ []))
      ∷ [])
      ∷ [];
  schedule = ScheduleLine.Run 0 9 ∷ [];
}

-- turns after the run of that script
abbrev pub stale_1_turns : List ℕ
stale_1_turns = replicate 4 0 ++ replicate 2 1 ++ replicate 7 0 ++ replicate 2 1 ++ replicate 2 0

-- some drivers
abbrev pub stale_1_flaws : List Flaw
stale_1_flaws = Flaw.NotCompared
    ∷ Flaw.ComparedNow
    ∷ Flaw.BegunAnyway
    ∷ Flaw.TableLeft
    ∷ []

-- what they come to in these turns
abbrev pub stale_1_outcomes : List ComesTo
stale_1_outcomes = (broke Part.Untold 16)
    ∷ (did_not 16)
    ∷ (broke Part.Sequences 16)
    ∷ (broke Part.Answers 10)
    ∷ []

-- turns after the run of that script
abbrev pub stale_2_turns : List ℕ
stale_2_turns = replicate 4 0 ++ replicate 2 1 ++ replicate 7 0 ++ replicate 3 1 ++ replicate 2 0

-- some drivers
abbrev pub stale_2_flaws : List Flaw
stale_2_flaws = Flaw.ComparedNow
    ∷ []

-- what they come to in these turns
abbrev pub stale_2_outcomes : List ComesTo
stale_2_outcomes = (broke Part.Untold 17)
    ∷ []

-- examples/broken/twice.hmm
abbrev pub twice_script : Program
twice_script = record {
  version = Version.Two;
  frames = 4;
  devices = 2 ∷ [];
  skip = 0;
  actors = ((Op.Map 0 (record { first = 16; count = 1 }) Rights.ReadWrite)
      ∷ (Op.Load 0 0x10000 1)
      ∷ (Op.Store 0 0x10000 (65 ∷ []))
      ∷ (Op.Load 0 0x10000 1)
      ∷ [])
      ∷ ((Op.Store 0 0x10001 (66 ∷ []))
      ∷ [])
      ∷ [];
  schedule = ScheduleLine.Run 0 6 ∷ [];
}

-- turns after the run of that script
abbrev pub twice_1_turns : List ℕ
twice_1_turns = replicate 3 0 ++ replicate 2 1 ++ replicate 4 0 ++ replicate 2 1 ++ replicate 1 0

-- some drivers
abbrev pub twice_1_flaws : List Flaw
twice_1_flaws = Flaw.NoFlaw
    ∷ Flaw.SoleAnyway
    ∷ Flaw.ReplacedAnyway
    ∷ Flaw.UnnamedHeld
    ∷ []

-- what they come to in these turns
abbrev pub twice_1_outcomes : List ComesTo
twice_1_outcomes = (did_not 12)
    ∷ (did_not 12)
    ∷ (broke Part.Answers 11)
    ∷ (did_not 12)
    ∷ []

-- examples/broken/two.hmm
abbrev pub two_script : Program
two_script = record {
  version = Version.Two;
  frames = 4;
  devices = 2 ∷ [];
  skip = 0;
  actors = ((Op.Map 0 (record { first = 16; count = 2 }) Rights.ReadWrite)
      ∷ (Op.Store 0 0x11000 (65 ∷ []))
      ∷ (Op.Attach 0 0 0 (record { first = 16; count = 2 }))
      ∷ (Op.DeviceLoad 0 0x11000 1)
      ∷ (Op.DeviceLoad 0 0x11000 1)
      ∷ [])
      ∷ ((Op.Unmap 0 (record { first = 16; count = 2 }))
      ∷ [])
      ∷ [];
  schedule = ScheduleLine.Run 0 13 ∷ [];
}

-- turns after the run of that script
abbrev pub two_1_turns : List ℕ
two_1_turns = replicate 6 1 ++ replicate 6 0

-- some drivers
abbrev pub two_1_flaws : List Flaw
two_1_flaws = Flaw.NoFlaw
    ∷ Flaw.WalksUnlocked
    ∷ Flaw.BegunLast
    ∷ Flaw.SequenceLeft
    ∷ Flaw.FirstErased
    ∷ Flaw.ErasedAtEnd
    ∷ Flaw.SoleAnyway
    ∷ Flaw.UnnamedHeld
    ∷ []

-- what they come to in these turns
abbrev pub two_1_outcomes : List ComesTo
two_1_outcomes = (did_not 7)
    ∷ (broke Part.Answers 11)
    ∷ (did_not 6)
    ∷ (broke Part.Sequences 6)
    ∷ (broke Part.Places 6)
    ∷ (did_not 7)
    ∷ (did_not 7)
    ∷ (did_not 7)
    ∷ []

-- examples/broken/zero.hmm
abbrev pub zero_script : Program
zero_script = record {
  version = Version.Two;
  frames = 4;
  devices = 2 ∷ [];
  skip = 0;
  actors = ((Op.Map 0 (record { first = 16; count = 1 }) Rights.ReadWrite)
      ∷ (Op.Attach 0 0 0 (record { first = 16; count = 1 }))
      ∷ (Op.DeviceLoad 0 0x10000 1)
      ∷ (Op.DeviceStore 0 0x10000 (66 ∷ []))
      ∷ [])
      ∷ [];
  schedule = ScheduleLine.Run 0 3 ∷ [];
}

-- turns after the run of that script
abbrev pub zero_1_turns : List ℕ
zero_1_turns = replicate 7 0

-- some drivers
abbrev pub zero_1_flaws : List Flaw
zero_1_flaws = Flaw.NoFlaw
    ∷ Flaw.AllForWrites
    ∷ Flaw.ReadsWritten
    ∷ Flaw.SoleAnyway
    ∷ Flaw.UnnamedHeld
    ∷ []

-- what they come to in these turns
abbrev pub zero_1_outcomes : List ComesTo
zero_1_outcomes = (did_not 7)
    ∷ (broke Part.Places 6)
    ∷ (did_not 7)
    ∷ (did_not 7)
    ∷ (did_not 7)
    ∷ []

-- what these drivers come to in these races
abbrev pub ToldApart : Type 0
ToldApart = (map (outcome_by busy_script busy_2_turns) busy_2_flaws ≡ busy_2_outcomes)
    × (map (outcome_by clear_script clear_1_turns) clear_1_flaws ≡ clear_1_outcomes)
    × (map (outcome_by detach_script detach_1_turns) detach_1_flaws ≡ detach_1_outcomes)
    × (map (outcome_by excl_script excl_2_turns) excl_2_flaws ≡ excl_2_outcomes)
    × (map (outcome_by fork_script fork_1_turns) fork_1_flaws ≡ fork_1_outcomes)
    × (map (outcome_by leak_script leak_7_turns) leak_7_flaws ≡ leak_7_outcomes)
    × (map (outcome_by leave_script leave_1_turns) leave_1_flaws ≡ leave_1_outcomes)
    × (map (outcome_by locked_script locked_2_turns) locked_2_flaws ≡ locked_2_outcomes)
    × (map (outcome_by locked_script locked_6_turns) locked_6_flaws ≡ locked_6_outcomes)
    × (map (outcome_by locked_script locked_8_turns) locked_8_flaws ≡ locked_8_outcomes)
    × (map (outcome_by lost_script lost_5_turns) lost_5_flaws ≡ lost_5_outcomes)
    × (map (outcome_by lost_script lost_8_turns) lost_8_flaws ≡ lost_8_outcomes)
    × (map (outcome_by others_script others_4_turns) others_4_flaws ≡ others_4_outcomes)
    × (map (outcome_by own_script own_2_turns) own_2_flaws ≡ own_2_outcomes)
    × (map (outcome_by own_script own_4_turns) own_4_flaws ≡ own_4_outcomes)
    × (map (outcome_by protect_script protect_6_turns) protect_6_flaws ≡ protect_6_outcomes)
    × (map (outcome_by readonly_script readonly_1_turns) readonly_1_flaws ≡ readonly_1_outcomes)
    × (map (outcome_by rem_script rem_1_turns) rem_1_flaws ≡ rem_1_outcomes)
    × (map (outcome_by rem2_script rem2_2_turns) rem2_2_flaws ≡ rem2_2_outcomes)
    × (map (outcome_by shared_script shared_1_turns) shared_1_flaws ≡ shared_1_outcomes)
    × (map (outcome_by stale_script stale_1_turns) stale_1_flaws ≡ stale_1_outcomes)
    × (map (outcome_by stale_script stale_2_turns) stale_2_flaws ≡ stale_2_outcomes)
    × (map (outcome_by twice_script twice_1_turns) twice_1_flaws ≡ twice_1_outcomes)
    × (map (outcome_by two_script two_1_turns) two_1_flaws ≡ two_1_outcomes)
    × (map (outcome_by zero_script zero_1_turns) zero_1_flaws ≡ zero_1_outcomes)
