use Rattle.std.proofs.Common.{◌≡◌, length, take, sym, ap, ◌∙◌, refl, arith}
use Rattle.std.proofs.Math.Seq.{take-length}
use Rattle.hm_turns.specs.Looking.{looked_after, plain_after}
use Rattle.seq_copies.specs.Copies.{IsTaken}
use Rattle.seq_copies.proofs.copies.take_into.Goals as goal

pub returns-in-Busy-clause-ok : goal.returns-in-Busy-clause-ok
returns-in-Busy-clause-ok g c = c.in-Busy.ensures.look

pub returns-in-Halted-clause-ok : goal.returns-in-Halted-clause-ok
returns-in-Halted-clause-ok g c = c.in-Halted.ensures.look

pub returns-in-Locked-clause-ok : goal.returns-in-Locked-clause-ok
returns-in-Locked-clause-ok g c =
    let seen = c.in-Locked.ensures.look in
    (seen.0, sym (seen.1.found_is ∙ ap (λ n. looked_after c.try_look.new.pass.list c.args.proc c.args.addr n) c.in-Locked.ensures.length))

pub returns-in-Unmapped-clause-ok : goal.returns-in-Unmapped-clause-ok
returns-in-Unmapped-clause-ok g c =
    let seen = c.in-Unmapped.ensures.look in
    (seen.0, sym (seen.1.found_is ∙ ap (λ n. looked_after c.try_look.new.pass.list c.args.proc c.args.addr n) c.in-Unmapped.ensures.length))

pub returns-in_ok-bytes-in-Filled-clause-ok : goal.returns-in_ok-bytes-in-Filled-clause-ok
returns-in_ok-bytes-in-Filled-clause-ok g c =
    let seen = c.in-Filled.ensures.look in
    let list = c.try_look.new.pass.list in
    let p = c.args.proc in
    let a = c.args.addr in
    let len = c.in-Filled.ensures.length in
    let same = c.in_ok-bytes-in-Filled.ensures in
    let whole : take c.in-Filled.at list ≡ list = ap (λ k. take k list) seen.1.0 ∙ take-length list in
    let taken : IsTaken _ p a (length c.args.room.now) list = record {
      proc_is = refl;
      addr_is = refl;
      length_is = ap length same ∙ len;
      at_is = seen.1.0;
      copy = record {
        inside = omega (arith, seen.1.0);
        bytes_are = same ∙ seen.1.1.bytes_are ∙ ap (λ n. plain_after list p a n) (sym (ap length same)) ∙ ap (λ h. plain_after h p a (length c.in_ok-bytes-in-Filled.bytes)) (sym whole);
      };
    } in
    ((seen.0, sym (seen.1.1.found_is ∙ ap (λ n. looked_after list p a n) len)), taken)
