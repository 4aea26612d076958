use Rattle.std.proofs.Common.{◌≡◌, true, List, sym, ap, subst, ◌∙◌, arith}
use Rattle.hm_base.specs.declared.area.Area.{Area}
use Rattle.hm_history.specs.Memory.Words.{page_of}
use Rattle.hm_history.proofs.Pages.{address_past}
use Rattle.hm_folds.specs.Ranges.{end_below}
use Rattle.hm_folds.proofs.AreaEnds.{beyond}
use Rattle.hm_race_states.specs.Spaces.{spaces_in}
use Rattle.hm_race_states.specs.declared.spaces.RaceSpaces.{RaceSpaces}
use Rattle.hm_flaw_states.specs.States.{plain_in}
use Rattle.hm_flaw_states.proofs.here.FlawHere.rights_at.Goals as goal

pub returns-then-addr-clause-same : goal.returns-then-addr-clause-same
returns-then-addr-clause-same c =
    let p = c.args.proc in
    let is = c.areas_of.ensures ∙ ap (λ (x : RaceSpaces). (spaces_in x).areas p) c.deref.ensures in
    sym (beyond ((plain_in c.args.self.now.state.now).areas p) (page_of c.args.addr) (subst (λ (xs : List Area). end_below xs ≡ true) is c.none_past.ensures) (address_past c.args.addr (omega (arith, c.if-addr.true))))
