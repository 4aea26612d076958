use Rattle.std.proofs.Common.{◌+◌, sym, subst, arith}
use Rattle.std.specs.Prelude.{IfOk, IfSome}
use Rattle.hm_flaw_search.specs.Races.{FlawRaceValue, IsKeyOf}
use Rattle.hm_flaw_search.proofs.Playing.{key_after}
use Rattle.hm_flaw_search.proofs.race.FlawRace.next_key.Goals as goal

pub next_key-requires : goal.next_key-requires
next_key-requires c = record {
  kept = (subst (λ (r : FlawRaceValue). IsKeyOf r c.args.key.now c.args.entries) (sym c.self.view_is) c.requires.kept).kept;
  room = omega (arith, c.requires.kept.few, c.requires.room);
}

pub returns-clause-kept : goal.returns-clause-kept
returns-clause-kept c =
    subst (λ (r : FlawRaceValue). IfOk c.next_key.result (λ o. IfSome o (λ k. IsKeyOf r k (c.args.entries + 1)))) c.self.view_is
    (key_after _ c.next_key.result c.args.key.now c.args.entries (subst (λ (r : FlawRaceValue). IsKeyOf r c.args.key.now c.args.entries) (sym c.self.view_is) c.requires.kept)
    c.next_key.ensures.kept c.next_key.ensures.count)
