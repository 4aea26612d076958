use Rattle.std.proofs.Common.{◌≡◌, true, arith}
use Rattle.std.specs.Prelude.{nat_lt}
use Rattle.std.proofs.lemmas.Bool.Decides.{nat_tests}
use Rattle.hm_folds.specs.Plain.{plain_of}
use Rattle.hm_parts.proofs.Showing.{held_here}
use Rattle.hm_parts.proofs.show_answers.held_bytes.Goals as goal

pub returns : goal.returns
returns g c =
    let lt : nat_lt c.args.addr 281474976710656 ≡ true = grind (arith, nat_tests) in
    held_here (g.W.Reads.state c.args.world.now).after.plain (plain_of c.args.plain.now) c.args.who.now c.proc_of.result c.args.addr c.args.len c.in_ok-bytes.bytes
    c.requires.plain c.proc_of.ensures c.in_ok-bytes.ensures lt
