use Rattle.std.proofs.Common.{◌≡◌, ℕ, ◌+◌, ◌∷◌, [], ◌++◌, max, min, Option, ap, ◌∙◌, arith}
use Rattle.hm_folds.specs.MirrorTables.{tables_of}
use Rattle.hm_history.specs.Memory.Places.{TableEntry}
use Rattle.hm_protocol.specs.declared.events.Event.{Event}
use Rattle.hm_projection.proofs.Erased.{closes, goes_on, opens}
use Rattle.hm_projection.proofs.tables.Driver.add_between.Goals as goal

pub loop-at-init : goal.loop-at-init
loop-at-init c =
    let f : ℕ → Option TableEntry = tables_of c.args.self.now.tables.tables.items c.args.mirror in
    let w = c.args.window in
    let stop : c.clamp-stop.result ≡ max w.first (min c.args.end (w.first + w.count)) =
    omega (arith, c.clamp-stop.ensures, c.number-first.ensures.same, c.first.ensures.same, c.count.ensures.same) in
    let at : c.clamp-at.result ≡ max w.first (min c.args.from c.clamp-stop.result) =
    omega (arith, c.clamp-at.ensures, c.number-first.ensures.same, c.first.ensures.same) in
    record {
      past = λ l. omega (arith, at, l);
      over = opens f w c.args.from c.args.end c.clamp-stop.result c.clamp-at.result c.args.mirror c.args.told.now.items (omega (arith, stop)) at;
    }

pub returns-in_default : goal.returns-in_default
returns-in_default c =
    let f : ℕ → Option TableEntry = tables_of c.args.self.now.tables.tables.items c.args.mirror in
    let w = c.args.window in
    let stop : c.clamp-stop.result ≡ max w.first (min c.args.end (w.first + w.count)) =
    omega (arith, c.clamp-stop.ensures, c.number-first.ensures.same, c.first.ensures.same, c.count.ensures.same) in
    closes f w c.args.from c.args.end c.clamp-stop.result c.loop-at.at c.args.mirror c.args.told.now.items c.loop-at.told.items c.loop-at.invariant.over stop
    (λ v l k. c.in-Some.ensures.none v l (omega (arith, k, c.if-next-stop.false)))

pub returns-in_default-2 : goal.returns-in_default-2
returns-in_default-2 c =
    let f : ℕ → Option TableEntry = tables_of c.args.self.now.tables.tables.items c.args.mirror in
    let w = c.args.window in
    let stop : c.clamp-stop.result ≡ max w.first (min c.args.end (w.first + w.count)) =
    omega (arith, c.clamp-stop.ensures, c.number-first.ensures.same, c.first.ensures.same, c.count.ensures.same) in
    closes f w c.args.from c.args.end c.clamp-stop.result c.loop-at.at c.args.mirror c.args.told.now.items c.loop-at.told.items c.loop-at.invariant.over stop
    (λ v l k. c.in_default.ensures v l)

pub loop-at-preserved : goal.loop-at-preserved
loop-at-preserved c =
    let f : ℕ → Option TableEntry = tables_of c.args.self.now.tables.tables.items c.args.mirror in
    let w = c.args.window in
    let stop : c.clamp-stop.result ≡ max w.first (min c.args.end (w.first + w.count)) =
    omega (arith, c.clamp-stop.ensures, c.number-first.ensures.same, c.first.ensures.same, c.count.ensures.same) in
    record {
      past = λ l. omega (arith, c.loop-at.invariant.past c.loop-at-test.true, c.in-Some.ensures.above);
      over = goes_on f w c.args.from c.args.end c.clamp-stop.result c.loop-at.at c.in-Some.next c.args.mirror c.args.told.now.items c.loop-at.told.items c.tell.new.told.items
          c.loop-at.invariant.over stop c.loop-at.invariant.past c.in-Some.ensures c.if-next-stop.true
          (c.in_ok-tell.ensures ∙ ap (λ (k : ℕ). c.loop-at.told.items ++ Event.Erase k c.in-Some.next ∷ []) (c.from-mirror.ensures ∙ c.number.ensures.same));
    }

pub returns : goal.returns
returns c =
    let f : ℕ → Option TableEntry = tables_of c.args.self.now.tables.tables.items c.args.mirror in
    let w = c.args.window in
    let stop : c.clamp-stop.result ≡ max w.first (min c.args.end (w.first + w.count)) =
    omega (arith, c.clamp-stop.ensures, c.number-first.ensures.same, c.first.ensures.same, c.count.ensures.same) in
    closes f w c.args.from c.args.end c.clamp-stop.result c.loop-at.at c.args.mirror c.args.told.now.items c.loop-at.told.items c.loop-at.invariant.over stop
    (λ v l k. absurd (omega (arith, l, k, c.loop-at-test.false)))
