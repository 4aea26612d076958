use Rattle.std.proofs.Common.{ap, ◌∙◌, ◌<◌, length, List, subst, sym}
use Rattle.std.specs.Prelude.{slice_set}
use Rattle.std.proofs.lemmas.Result.{on_ok_weaker}
use Rattle.hm_base.specs.declared.ops.Op.{Op}
use Rattle.hm_base.specs.Program.{add_to_list}
use Rattle.hm_base.proofs.Added.{set_list}
use Rattle.hm_base.proofs.lists.ListOf+ListOf+Op.push_to.Goals as goal

pub returns-clause-ok : goal.returns-clause-ok
returns-clause-ok c =
    let items = c.self.inside.items.items in
    on_ok_weaker c.push.result (λ e. ap (slice_set items c.args.at) e ∙ set_list c.args.at items _ c.args.op (subst (λ (xs : List (List Op)). c.args.at < length xs) (sym c.self.view_is) c.requires) c.index_mut-list.ensures.value ∙ ap (λ xs. add_to_list xs c.args.at c.args.op) c.self.view_is) c.push.ensures.ok
