use Rattle.std.proofs.Common.{◌∙◌, ap, rules}
use Rattle.hm_tables.specs.Reads.{next_page_before, page_test}
use Rattle.hm_world.specs.WorldValue.{now}
use Rattle.hm_world.proofs.Shown.{shown}
use Rattle.hm_world.proofs.PastEnd.{past_end, before_shown}
use Rattle.hm_world.proofs.World.next_page.Goals as goal

pub returns-then-from : goal.returns-then-from
returns-then-from c =
    c.next_page.ensures ∙ ap (λ k. next_page_before c.self.inside.tables (page_test c.args.test) c.args.proc k c.args.end) c.new.ensures
    ∙ before_shown _ (now c.args.self.now).after.places _ (shown _ _ c.self.view_is _ c.self.invariant).tables c.args.test c.args.proc c.args.from c.args.end

pub returns-else-from : goal.returns-else-from
returns-else-from c = past_end _ (now c.args.self.now).after.places _ c.args.test c.args.proc c.args.from c.args.end (shown _ _ c.self.view_is _ c.self.invariant).tables (search rules)
