use Rattle.std.proofs.Common.{refl}
use Rattle.std.proofs.lemmas.Result.{on_ok_weaker}
use Rattle.hm_parts.proofs.PastsOn.{begun_on, none_on, set_on, told_on}
use Rattle.hm_parts.proofs.pasts.Pasts.step.Goals as goal

pub returns-in-Begin : goal.returns-in-Begin
returns-in-Begin c = λ p r long are.
    begun_on p r c.args.self.now c.begin.new.self c.args.entry.now c.args.at c.in-Begin.mirror _ long are c.in-Begin.is c.begin.ensures.begun c.begin.ensures.told c.begin.ensures.sets

pub returns-in-Told : goal.returns-in-Told
returns-in-Told c =
    on_ok_weaker c.tell.result
    (λ told. λ p r long are. told_on p r c.args.self.now c.tell.new.self c.args.entry.now c.args.at c.in-Told.mirror _ c.in-Told.span long are c.in-Told.is told c.tell.ensures.begun c.tell.ensures.sets)
    c.tell.ensures.told

pub returns-in-Set : goal.returns-in-Set
returns-in-Set c =
    on_ok_weaker c.set.result
    (λ set. λ p r long are. set_on p r c.args.self.now c.set.new.self c.args.entry.now c.args.at c.in-Set.mirror c.in-Set.page c.in-Set.since _ _ c.goes_back-goes_back.result long are c.in-Set.is c.goes_back-goes_back.ensures set c.set.ensures.begun c.set.ensures.told)
    c.set.ensures.sets

pub returns-in_default : goal.returns-in_default
returns-in_default c = λ p r long are.
    none_on p r c.args.self.now c.args.self.now c.args.entry.now c.args.at are c.in_default.not-Begin c.in_default.not-Told c.in_default.not-Set refl
