use Rattle.std.proofs.Common.{ap, ◌∙◌}
use Rattle.hm_race_keys.specs.Arrays.{lock_in}
use Rattle.hm_race_keys.specs.declared.map_locks.MapLocks.{MapLocks}
use Rattle.hm_flaw_states.specs.Exact.{exact_in}
use Rattle.hm_flaw_states.specs.Guards.{guards_in}
use Rattle.hm_flaw_states.specs.declared.exact_seqs.ExactSeqs.{ExactSeqs}
use Rattle.hm_flaw_states.specs.declared.guards.ActorGuards.{ActorGuards}
use Rattle.hm_flaw_states.proofs.groups.first_locks.Goals as goal

pub returns : goal.returns
returns c = record {
  locks = c.in_ok-new.ensures.ok ∙ c.new.ensures;
  maps = λ a. ap (λ (x : MapLocks). lock_in x.locks a) c.in_ok-new-2.ensures.ok ∙ c.new-3.ensures a;
  seqs = ap (λ (x : ExactSeqs). exact_in x.kept) c.in_ok-new-3.ensures.ok ∙ c.start.ensures;
  guards = λ a. ap (λ (x : ActorGuards). guards_in x.guards.items a) c.in_ok-new-5.ensures.ok ∙ c.in_ok-new-4.ensures a;
}
