use Rattle.std.proofs.Common.{refl, arith}
use Rattle.std.specs.Prelude.{Option, None}
use Rattle.std.proofs.lemmas.List.{get_or-replicate}
use Rattle.hm_advisor.specs.declared.windows.Window.{Window}
use Rattle.hm_advisor.proofs.counts.look_at.Goals as goal

pub loop-entry-init : goal.loop-entry-init
loop-entry-init c =
    let none : Option Window = None in
    let made = c.in_ok-accesses.ensures in
    record {
      sized = made.sized;
      counted = made.none;
      few = λ x v. omega (arith, made.none x v);
      mirrors = refl;
      attached = λ m below. get_or-replicate 32 m none none below;
    }
