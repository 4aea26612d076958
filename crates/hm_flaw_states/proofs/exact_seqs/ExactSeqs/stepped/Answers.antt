use Rattle.std.proofs.Common.{ap, sym, ◌∙◌}
use Rattle.hm_base.specs.Pages.{Pages}
use Rattle.hm_history.specs.Memory.Sequences.{sequences_next}
use Rattle.hm_history.specs.declared.Kind.{Kind}
use Rattle.hm_race_states.specs.Small.{unguarded}
use Rattle.hm_flaw_states.specs.Exact.{exact_in}
use Rattle.hm_flaw_states.proofs.exact_seqs.ExactSeqs.stepped.Goals as goal

-- no page
nothing : Pages
nothing = record { first = 0; count = 0 }

pub returns-in-Start : goal.returns-in-Start
returns-in-Start c = λ a. c.begin.ensures a 0 ∙ sym (ap (λ (k : Kind). unguarded (sequences_next (exact_in c.args.self.now.kept) a k)) c.in-Start.is)

pub returns-in-Told : goal.returns-in-Told
returns-in-Told c = λ a. c.tell.ensures a 0 nothing ∙ sym (ap (λ (k : Kind). unguarded (sequences_next (exact_in c.args.self.now.kept) a k)) c.in-Told.is)

pub returns-in-End : goal.returns-in-End
returns-in-End c = λ a. c.end.ensures a 0 nothing ∙ sym (ap (λ (k : Kind). unguarded (sequences_next (exact_in c.args.self.now.kept) a k)) c.in-End.is)

pub returns-in-Attached : goal.returns-in-Attached
returns-in-Attached c = λ a. c.attach.ensures a 0 0 ∙ sym (ap (λ (k : Kind). unguarded (sequences_next (exact_in c.args.self.now.kept) a k)) c.in-Attached.is)
