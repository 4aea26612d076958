use Rattle.std.proofs.Common.{refl}
use Rattle.hm_actors.proofs.records.Records.step_body.Goals as goal

pub returns-in-Select-Place : goal.returns-in-Select-Place
returns-in-Select-Place c = rw (c.push-in-Select-Place.ensures, c.in-Select-Place.is-0, c.in-Select-Place.is-1, c.frame_found.ensures) refl
