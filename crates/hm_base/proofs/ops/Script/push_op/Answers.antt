use Rattle.std.proofs.Common.{◌≡◌, ◌<◌, true, length, subst, sym}
use Rattle.hm_base.specs.Program.{Program, op_fits, op_of_version, operation_count}
use Rattle.hm_base.proofs.Added.{with_op_is_script, pushed_is_script}
use Rattle.hm_base.proofs.ops.Script.push_op.Goals as goal

pub invariant_of-self : goal.invariant_of-self
invariant_of-self c =
    let old : Program = record {
      version = c.self.inside.version;
      frames = c.self.inside.frames;
      devices = c.self.inside.devices;
      skip = c.self.inside.skip;
      actors = c.self.inside.actors;
      schedule = c.self.inside.schedule;
    } in
    let fits = subst (λ (s : Program). op_fits (length s.devices) c.args.op ≡ true) (sym c.self.view_is) c.requires.fits in
    let few = subst (λ (s : Program). operation_count s.actors < 100000) (sym c.self.view_is) c.requires.few in
    let version = subst (λ (s : Program). op_of_version s.version c.args.op ≡ true) (sym c.self.view_is) c.requires.version in
    pushed_is_script old c.number.result c.args.op c.push_to.new.self c.push_to.result c.self.invariant (with_op_is_script old c.number.result c.args.op c.self.invariant fits few version) c.push_to.ensures.ok c.push_to.ensures.err
