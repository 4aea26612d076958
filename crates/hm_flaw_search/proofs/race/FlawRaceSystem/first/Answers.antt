use Rattle.std.proofs.Common.{ℕ, sym, subst}
use Rattle.hm_flaw_parts.specs.Races.Races.{entries_at, point_from}
use Rattle.hm_flaw_states.specs.declared.key.FlawKey.{FlawKey}
use Rattle.hm_flaw_search.specs.Races.{IsKeyOf}
use Rattle.hm_flaw_search.proofs.Turning.{entries_from}
use Rattle.hm_flaw_search.proofs.race.FlawRaceSystem.first.Goals as goal

pub returns-in-Ok-clause-kept : goal.returns-in-Ok-clause-kept
returns-in-Ok-clause-kept c =
    let r = c.args.self.now in
    subst (λ (k : FlawKey). IsKeyOf r k (entries_at (point_from r.script r.set_up))) (sym c.of.ensures)
    (subst (λ (n : ℕ). IsKeyOf r c.in-Ok.key n) (entries_from r.script r.set_up) c.in-Ok.ensures.kept)
