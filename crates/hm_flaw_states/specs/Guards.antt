-- Guards that are kept exactly, as contracts see them.
use Rattle.std.specs.Prelude.{ℕ, Bool, Option, Some, None, List, slice_index_or}
use Rattle.std.specs.Global.{Global}
use Rattle.std.specs.declared.rc.Rc.{Rc}
use Rattle.hm_history.specs.Memory.Sequences.{Sequences, Guarded}
use Rattle.hm_folds.specs.Kept.{mirrors_of}
use Rattle.hm_flaw_states.specs.Exact.{exact_in}
use Rattle.hm_flaw_states.specs.declared.exact_seqs.ExactSeqs.{ExactSeqs}
use Rattle.hm_flaw_states.specs.declared.guards.ActorGuard.{ActorGuard}

-- the numbers of a set of mirrors, in rising order
unfoldable pub mirrors_in : List Bool → List ℕ
mirrors_in xs = mirrors_of xs

-- the guard of the definitions that a kept one stands for
abbrev pub guard_of : ActorGuard → Guarded
guard_of g = record { proc = g.proc; span = g.span; met = mirrors_in g.met; told = g.told.items }

-- the same of one that there may be
abbrev pub guard_in : Option (Rc ActorGuard Global) → Option Guarded
guard_in None = None
guard_in (Some x) = Some (guard_of x.value)

-- the guard of an actor
abbrev pub guards_in : List (Option (Rc ActorGuard Global)) → ℕ → Option Guarded
guards_in xs a = guard_in (slice_index_or xs a None)

-- the sequences with these guards
abbrev pub guarded_in : ExactSeqs → List (Option (Rc ActorGuard Global)) → Sequences
guarded_in x guards = record (exact_in x.kept) { guard = guards_in guards }
