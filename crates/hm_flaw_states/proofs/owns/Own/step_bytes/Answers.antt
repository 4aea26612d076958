use Rattle.std.proofs.Common.{ℕ, List, ap, ◌∙◌}
use Rattle.hm_history.specs.declared.Kind.{Kind}
use Rattle.hm_flaws.specs.Drivers.{Driver, driver_contents}
use Rattle.hm_flaw_states.specs.Owns.{driver_in}
use Rattle.hm_flaw_states.proofs.owns.Own.step_bytes.Goals as goal

pub returns-in_ok-store-in-Stored : goal.returns-in_ok-store-in-Stored
returns-in_ok-store-in-Stored g c =
    let s = (g.W.Reads.state c.args.world.now).after in
    rw c.in-Stored.is (c.in_ok-store-in-Stored.ensures c.args.flaw
    ∙ ap (λ (bs : List ℕ). let x : Driver = record (driver_in c.args.self.now) { contents = driver_contents c.args.flaw s (driver_in c.args.self.now) (Kind.Stored c.in-Stored.who c.in-Stored.addr bs) } in x) c.as_slice.ensures)

pub returns-in_ok-store-in-Added : goal.returns-in_ok-store-in-Added
returns-in_ok-store-in-Added g c = rw c.in-Added.is (c.in_ok-store-in-Added.ensures c.args.flaw)
