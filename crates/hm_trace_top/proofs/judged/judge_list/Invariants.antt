use Rattle.std.proofs.Common.{◌≡◌, true, length}
use Rattle.hm_script.specs.Automaton.{lines}
use Rattle.hm_trace_top.specs.Heard.{hear_all, nothing_heard}
use Rattle.hm_trace_top.specs.Lists.{is_rest, traces_in}
use Rattle.hm_trace_top.proofs.judged.judge_list.Given as goal

-- the traces so far, and those that are left, come to what all come to
abbrev pub invariant-loop-rest : goal.invariant-loop-rest
invariant-loop-rest l = record {
  same : hear_all l.judged (traces_in (lines l.rest)) ≡ hear_all nothing_heard (traces_in (lines l.fn.bytes));
  named : is_rest (lines l.rest) ≡ true;
}

abbrev pub decreases-loop-rest : goal.decreases-loop-rest
decreases-loop-rest l = length l.rest
