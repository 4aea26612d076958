use Rattle.std.proofs.Common.{◌≡◌, true}
use Rattle.hm_verdicts.specs.Changes.{paged_by}
use Rattle.hm_verdicts.specs.Numbers.{values_in}
use Rattle.hm_verdicts.specs.Settled.{is_lasting}
use Rattle.hm_verdicts.proofs.Lasting.{paged_same}
use Rattle.hm_verdicts.proofs.Settled.{first_fixed, first_weaker}
use Rattle.hm_verdicts.proofs.all_calls.know.Goals as goal

pub change_from-requires : goal.change_from-requires
change_from-requires c =
    let f = paged_by (values_in c.args.devices.now) c.args.thread c.args.of.now in
    let n = c.args.lasting in
    let cs = c.args.calls.now.items in
    first_fixed f n cs (first_weaker (λ x. is_lasting x ≡ true) (λ x. f x ≡ x)
    (paged_same (values_in c.args.devices.now) c.args.thread c.args.of.now) n cs c.requires)
