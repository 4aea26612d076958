use Rattle.hm_report.proofs.Ends.{ends_are_counted}
use Rattle.hm_report.proofs.laws.ends_are_counted.Goals as goal

pub returns : goal.returns
returns c = ends_are_counted
