use Rattle.std.proofs.Common.{◌≡◌, ◌<◌, Some, length, slice_set, refl, subst, arith}
use Rattle.std.specs.Prelude.{slice_get}
use Rattle.std.proofs.lemmas.Grind.{common_steps}
use Rattle.std.proofs.lemmas.Option.{slice_get_read, slice_get-get_or}
use Rattle.hm_why.specs.Writers.{IsAlone}
use Rattle.hm_why.proofs.Sharing.{set_here, own_sources, own_alone, places_set}
use Rattle.hm_why.proofs.writers.Writers.own.Goals as goal

pub returns-clause-own : goal.returns-clause-own
returns-clause-own c =
    let slots = c.args.self.now.slots in
    let xs = c.args.self.now.changes.items in
    let n = c.number-index.result in
    let own = c.free_place-own.result in
    let put = c.in_ok-put_at.ensures in
    let within : n < length slots = omega (arith, c.number-index.ensures.below, c.requires.processes) in
    let at = slice_get-get_or slots n 0 within in
    let was = slice_get_read xs (length xs) _ c.index.result.now refl (c.requires.places n _ at) c.index.ensures in
    record {
      sized = record {
        mirrors = c.requires.mirrors;
        processes = grind (arith, common_steps);
        places = places_set slots n own (length xs) (length c.put_at.new.changes.items) within c.requires.places put.longer put.holds;
      };
      alone = subst (λ j. IsAlone (slice_set slots n own) j) c.number-index.ensures.same (own_alone slots n own within c.free_place-own.ensures.free);
      owners = λ m. refl;
      sources = own_sources slots xs c.put_at.new.changes.items n own _ c.in_ok-copy.copy c.index.result.now at was c.in_ok-copy.ensures c.free_place-own.ensures.free c.requires.places put;
    }

pub returns-clause-place : goal.returns-clause-place
returns-clause-place c =
    let slots = c.args.self.now.slots in
    let n = c.number-index.result in
    let own = c.free_place-own.result in
    let within : n < length slots = omega (arith, c.number-index.ensures.below, c.requires.processes) in
    subst (λ j. slice_get (slice_set slots n own) j ≡ Some own) c.number-index.ensures.same (set_here slots n own within)
