use Rattle.std.proofs.Common.{◌≡◌, subst}
use Rattle.std.specs.Prelude.{Bool, IfOk}
use Rattle.hm_history.specs.Memory.Plain.{mirror_owner}
use Rattle.hm_folds.proofs.PlaceAccepts.{others_accept}
use Rattle.hm_flaw_states.specs.States.{all_places, plain_in}
use Rattle.hm_flaw_states.proofs.here.FlawHere.meets_places.Goals as goal

pub returns-in_default : goal.returns-in_default
returns-in_default c =
    let x = c.args.self.now.state.now in
    subst (λ (z : Bool). IfOk c.accepts_frames.result (λ (b : Bool). b ≡ z))
    (others_accept c.args.self.now.script.now (mirror_owner (plain_in x)) (all_places x) c.args.actor c.args.kind.now c.in_default.not-Loaded c.in_default.not-Stored c.in_default.not-Set c.in_default.not-Fetched c.in_default.not-Added)
    c.accepts_frames.ensures
