use Rattle.hm_race_top.proofs.Reporting.{all_sent, none_faulted, whole_told}
use Rattle.hm_race_top.proofs.telling.write_telling.Goals as goal

pub returns-in-Done-clause-written : goal.returns-in-Done-clause-written
returns-in-Done-clause-written g c =
    let tells = g.K.Sink.state in
    whole_told c.args.telling.now (tells c.args.sink.now) (tells c.write_text.new.sink) c.requires c.in-Done.ensures.text

pub returns-in-Done-clause-faults : goal.returns-in-Done-clause-faults
returns-in-Done-clause-faults g c = none_faulted c.args.telling.now.ends _ _ c.requires c.in-Done.ensures.faults

pub returns-in-Done-clause-flushed : goal.returns-in-Done-clause-flushed
returns-in-Done-clause-flushed g c = all_sent c.args.telling.now.ends _ c.requires c.in-Done.ensures.sent
