use Rattle.hm_judge.proofs.Heads.{ending_is}
use Rattle.hm_judge.proofs.head.head_report.Goals as goal

pub returns : goal.returns
returns c = record {
  head = c.requires;
  fault = c.in_ok-fault.ensures.fault;
  at_line = c.in_ok-fault.ensures.at_line;
  nearest = c.new.ensures;
  standing = c.new-2.ensures.items;
  ending = ending_is c.args.bytes.now c.in_ok-ending.ending c.args.line c.requires c.in_ok-ending.ensures;
}
