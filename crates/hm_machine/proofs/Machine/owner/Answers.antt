use Rattle.std.proofs.Common.{◌≡◌, ◌∙◌, true, false, ap, sym, subst}
use Rattle.std.specs.Prelude.{is_some, Some}
use Rattle.hm_history.specs.Memory.Plain.{mirror_proc}
use Rattle.hm_world.specs.WorldValue.{now}
use Rattle.hm_machine.proofs.Touched.{no_owner, some_owner}
use Rattle.hm_machine.proofs.Machine.owner.Goals as goal

pub returns-then-has_mirror : goal.returns-then-has_mirror
returns-then-has_mirror g c =
    let m = c.args.mirror in
    let has : is_some ((now c.deref.result.now).after.plain.mirrors m) ≡ true = sym c.has_mirror.ensures ∙ c.if-has_mirror.true in
    let there = subst (λ w. is_some ((now w).after.plain.mirrors m) ≡ true) (c.deref.ensures ∙ c.self.view_is) has in
    let proc = subst (λ w. c.mirror_proc.result ≡ mirror_proc (now w).after.plain m) (c.deref-then-has_mirror.ensures ∙ c.self.view_is) c.mirror_proc.ensures in
    ap Some proc ∙ some_owner ((now c.args.self.now).after.plain.mirrors m) there

pub returns-else-has_mirror : goal.returns-else-has_mirror
returns-else-has_mirror g c =
    let m = c.args.mirror in
    let has : is_some ((now c.deref.result.now).after.plain.mirrors m) ≡ false = sym c.has_mirror.ensures ∙ c.if-has_mirror.false in
    no_owner ((now c.args.self.now).after.plain.mirrors m) (subst (λ w. is_some ((now w).after.plain.mirrors m) ≡ false) (c.deref.ensures ∙ c.self.view_is) has)
