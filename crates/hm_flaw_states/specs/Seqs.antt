-- Sequences, intervals and guards that are kept exactly, as contracts see them.
use Rattle.hm_history.specs.Memory.Sequences.{Sequences}
pub use Rattle.hm_flaw_states.specs.Guards.{guard_in, guard_of, guarded_in, guards_in, mirrors_in}
use Rattle.hm_flaw_states.specs.declared.exact_seqs.ExactSeqs.{ExactSeqs}
use Rattle.hm_flaw_states.specs.declared.guards.ActorGuards.{ActorGuards}

-- the sequences with the guards
abbrev pub seqs_in : ExactSeqs → ActorGuards → Sequences
seqs_in x y = guarded_in x y.guards.items
