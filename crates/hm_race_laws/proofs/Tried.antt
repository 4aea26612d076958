-- A race of two actors, computed: a store and a load of one byte give two outcomes.
use Rattle.std.specs.Prelude.{◌≡◌, ℕ, true, ◌&&◌, List, [], ◌∷◌, drop, length}
use Rattle.std.proofs.Common.{refl}
use Rattle.hm_base.specs.Program.{Program}
use Rattle.hm_base.specs.declared.ops.Version.{Version}
use Rattle.hm_base.specs.declared.ops.Rights.{Rights}
use Rattle.hm_base.specs.declared.ops.Op.{Op}
use Rattle.hm_history.specs.Kernel.Run.{turns}
use Rattle.hm_history.specs.declared.Who.{Who}
use Rattle.hm_history.specs.declared.Kind.{Kind}
use Rattle.hm_history.specs.declared.Entry.{Entry}
use Rattle.hm_race_laws.specs.Outcomes.{outcome, answers_of, ended, raced}

abbrev script : Program
script = record {
  version = Version.Two;
  frames = 4;
  devices = [];
  skip = 0;
  actors = (Op.Map 0 (record { first = 16; count = 1 }) Rights.ReadWrite ∷ Op.Store 0 0x10000 (7 ∷ []) ∷ []) ∷ (Op.Load 0 0x10000 1 ∷ []) ∷ [];
  schedule = [];
}

-- the area is mapped first
abbrev set_up : List Entry
set_up = turns script [] 0 2

abbrev outcome_of : List ℕ → List (List Kind)
outcome_of actors = outcome script (answers_of (drop (length set_up) (raced script set_up actors)))

abbrev answered : ℕ → List (List Kind)
answered byte = (Kind.Stored (Who.Cpu 0) 0x10000 (7 ∷ []) ∷ []) ∷ (Kind.Loaded (Who.Cpu 0) 0x10000 (byte ∷ []) ∷ []) ∷ []

store_first : outcome_of (0 ∷ 0 ∷ 0 ∷ 0 ∷ 0 ∷ 0 ∷ 1 ∷ 1 ∷ 1 ∷ 1 ∷ []) ≡ answered 7
store_first = refl

load_first : outcome_of (1 ∷ 1 ∷ 1 ∷ 1 ∷ 0 ∷ 0 ∷ 0 ∷ 0 ∷ 0 ∷ 0 ∷ 0 ∷ 0 ∷ []) ≡ answered 0
load_first = refl

both_ended : (ended script (raced script set_up (0 ∷ 0 ∷ 0 ∷ 0 ∷ 0 ∷ 0 ∷ 1 ∷ 1 ∷ 1 ∷ 1 ∷ [])) && ended script (raced script set_up (1 ∷ 1 ∷ 1 ∷ 1 ∷ 0 ∷ 0 ∷ 0 ∷ 0 ∷ 0 ∷ 0 ∷ 0 ∷ 0 ∷ []))) ≡ true
both_ended = refl
