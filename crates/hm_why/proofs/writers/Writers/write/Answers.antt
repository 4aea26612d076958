use Rattle.std.proofs.Common.{ℕ, ◌<◌, ◌==◌, ◌&&◌, Some, if◌then◌else◌, length, refl, ap, ◌∙◌, arith}
use Rattle.std.specs.Prelude.{Option}
use Rattle.std.proofs.lemmas.List.{length-set}
use Rattle.std.proofs.lemmas.Option.{slice_get_read}
use Rattle.std.proofs.lemmas.Result.{on_ok_weaker}
use Rattle.hm_history.specs.Memory.Plain.{owned}
use Rattle.hm_why.specs.Sources.{is_among}
use Rattle.hm_why.proofs.Sharing.{written}
use Rattle.hm_why.proofs.writers.Writers.write.Goals as goal

pub returns-in_ok-own-in-Some : goal.returns-in_ok-own-in-Some
returns-in_ok-own-in-Some c =
    let w = c.own.new.self in
    let xs = w.changes.items in
    let p = c.in-Some.proc in
    let place = c.in_ok-own-in-Some.own in
    let own = c.in_ok-own-in-Some.ensures.own in
    let within : place < length xs = own.sized.places p place c.in_ok-own-in-Some.ensures.place in
    let was = slice_get_read xs (length xs) place c.index_mut.result.now refl within c.index_mut.ensures.value in
    on_ok_weaker c.set.result
    (λ n. record {
      sized = record {
        mirrors = own.sized.mirrors;
        processes = own.sized.processes;
        places = λ q k e. omega (arith, own.sized.places q k e, length-set xs place c.set.new.self);
      };
      owners = own.owners;
      sources = λ q b low.
          written w.slots xs c.args.proc p place c.index_mut.result.now c.set.new.self c.args.addr c.args.len c.saturating_add-end.result c.args.at
          c.in-Some.is c.saturating_add-end.ensures c.in_ok-own-in-Some.ensures.place own.alone was n q b low
          ∙ ap (λ (e : Option ℕ). if owned c.args.proc (λ p. p == q) && is_among c.args.addr c.args.len b then Some c.args.at else e) (own.sources q b);
    })
    c.set.ensures
