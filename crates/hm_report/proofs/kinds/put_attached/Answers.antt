use Rattle.std.proofs.Common.{◌++◌, append_assoc, ap}
use Rattle.std.specs.Fmt.{decimal}
use Rattle.hm_report.specs.Words.{interval_words}
use Rattle.hm_report.proofs.Heads.{one_more}
use Rattle.hm_report.proofs.kinds.put_attached.Goals as goal

pub returns-clause-text : goal.returns-clause-text
returns-clause-text c =
    let words = interval_words c.args.mirror c.args.dev c.args.proc c.args.window in
    rw (c.put_number.ensures.text, c.put_interval.ensures.text, append_assoc) (ap (λ e. c.args.out.now ++ e) (one_more words (decimal c.args.seq)))
