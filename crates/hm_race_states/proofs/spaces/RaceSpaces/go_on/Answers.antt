use Rattle.std.proofs.Common.{subst, arith}
use Rattle.hm_spaces.specs.Spaces.{SpacesFit}
use Rattle.hm_race_states.specs.Spaces.{spaces_in}
use Rattle.hm_race_states.proofs.AreaLists.{protects}
use Rattle.hm_race_states.proofs.spaces.RaceSpaces.go_on.Goals as goal

pub change-requires-in-Protected : goal.change-requires-in-Protected
change-requires-in-Protected c =
    let s = spaces_in c.args.self.now in
    let fits = subst (SpacesFit s) c.in-Protected.is c.requires in
    protects s c.in-Protected.proc c.in-Protected.span c.in-Protected.rights (fits (omega (arith, c.facts.ensures)))
