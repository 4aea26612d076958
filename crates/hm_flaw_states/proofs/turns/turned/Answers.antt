use Rattle.std.proofs.Common.{sym, ap, ◌∙◌}
use Rattle.hm_flaw_parts.specs.Judged.{judged_parts}
use Rattle.hm_flaw_parts.specs.Races.Races.{FlawPoint}
use Rattle.hm_flaw_states.proofs.Kept.{count_ended, count_on, kept_beside, kept_on, turn_follows, turned_ended, turned_on}
use Rattle.hm_flaw_states.proofs.turns.turned.Goals as goal

pub gone_on-requires : goal.gone_on-requires
gone_on-requires c = turn_follows c.args.judging c.args.flaw c.args.script.now c.args.key.now c.args.actor c.args.entry c.requires.kept c.requires.room c.requires.due (sym c.in_ok-part.ensures ∙ c.in-None.is)

pub returns-in_ok-gone_on-in-None : goal.returns-in_ok-gone_on-in-None
returns-in_ok-gone_on-in-None c =
    let k = c.args.key.now in
    let b = sym c.in_ok-part.ensures ∙ c.in-None.is in
    let r = c.in_ok-gone_on-in-None.ensures in
    record {
      turned = turned_on (judged_parts c.args.judging) c.args.flaw c.args.script.now k c.in_ok-gone_on-in-None.field-0 c.args.actor c.args.entry c.requires.none c.requires.due b r.form r.trail r.broken;
      kept = kept_on c.args.judging c.args.flaw c.args.script.now k c.in_ok-gone_on-in-None.field-0 c.args.entry c.requires.kept b r.form r.standing;
      count = count_on c.args.flaw c.args.script.now k c.in_ok-gone_on-in-None.field-0 c.args.entry r.form;
    }

pub returns-in_ok-ended-in-Some : goal.returns-in_ok-ended-in-Some
returns-in_ok-ended-in-Some c =
    let k = c.args.key.now in
    let part = c.in-Some.part in
    let b = sym c.in_ok-part.ensures ∙ c.in-Some.is in
    let r = c.in_ok-ended-in-Some.ensures in
    record {
      turned = turned_ended (judged_parts c.args.judging) c.args.flaw c.args.script.now k c.in_ok-ended-in-Some.field-0 c.args.actor c.args.entry part c.requires.none c.requires.due b r.form r.trail r.broken;
      kept = kept_beside c.args.judging k c.in_ok-ended-in-Some.field-0 c.requires.kept (ap (λ (x : FlawPoint). x.flawed) r.form);
      count = count_ended c.args.flaw c.args.script.now k c.in_ok-ended-in-Some.field-0 c.args.entry part r.form;
    }
