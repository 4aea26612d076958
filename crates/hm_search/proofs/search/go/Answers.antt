use Rattle.std.proofs.Common.{◌+◌, refl, subst, ap, arith}
use Rattle.hm_search.specs.Systems.{IsNext, point_at}
use Rattle.hm_search.specs.Known.{turns_at}
use Rattle.hm_search.specs.Values.{all_known}
use Rattle.hm_search.proofs.Steps.{stands, few_here, next_here, goes_none, leads_on, full, depth_read, goes_ok}
use Rattle.hm_search.proofs.Table.{kept_at}
use Rattle.hm_search.proofs.search.go.Goals as goal

pub next-requires-clause-stands : goal.next-requires-clause-stands
next-requires-clause-stands g c =
    let key = g.S.Key.SearchKey in
    stands (g.S.System.value c.args.system.now) g.S.System.form key.form key.number key.Valid c.args.states.now.known.items c.args.states.now.buckets c.args.turn.state
    c.requires.searching c.requires.state c.index-2.result.now c.index-2.result.now.key (ap (λ n. n.key) c.index-2.ensures)

pub overflow_add-entries : goal.overflow_add-entries
overflow_add-entries g c =
    let key = g.S.Key.SearchKey in
    let few = few_here (g.S.System.value c.args.system.now) g.S.System.form key.form key.number key.Valid c.args.states.now.known.items c.args.states.now.buckets c.args.turn.state
    c.requires.searching c.requires.state (c.entries.result + c.index.result.now.depth) c.entries.result c.index.result.now c.index.ensures c.entries.ensures refl in
    omega (arith, few)

pub next-requires-clause-kept : goal.next-requires-clause-kept
next-requires-clause-kept g c =
    kept_at (g.S.System.value c.args.system.now) (g.S.System.Kept c.args.system.now) c.args.states.now.known.items c.args.turn.state (c.entries.result + c.index.result.now.depth)
    c.index.result.now c.index-2.result.now c.requires.kept c.requires.state c.index.ensures c.index-2.ensures (ap (λ n. n + c.index.result.now.depth) c.entries.ensures)

pub next-requires-clause-room : goal.next-requires-clause-room
next-requires-clause-room g c =
    let key = g.S.Key.SearchKey in
    few_here (g.S.System.value c.args.system.now) g.S.System.form key.form key.number key.Valid c.args.states.now.known.items c.args.states.now.buckets c.args.turn.state
    c.requires.searching c.requires.state (c.entries.result + c.index.result.now.depth) c.entries.result c.index.result.now c.index.ensures c.entries.ensures refl

pub returns-in-None-clause-goes : goal.returns-in-None-clause-goes
returns-in-None-clause-goes g c =
    let key = g.S.Key.SearchKey in
    let y = g.S.System.value c.args.system.now in
    let here = point_at y (turns_at (all_known g.S.System.form c.args.states.now.known.items) c.args.turn.state) in
    let next = next_here y g.S.System.form key.form key.number key.Valid c.args.states.now.known.items c.args.states.now.buckets c.args.turn.state
    c.requires.searching c.requires.state c.index-2.result.now c.index-2.result.now.key c.in_ok-next.field-0 c.args.turn.actor (ap (λ n. n.key) c.index-2.ensures) c.in_ok-next.ensures.next in
    goes_none y g.S.System.form key.form key.number key.Valid c.args.states.now.known.items c.args.states.now.buckets c.args.turn.state c.requires.searching c.requires.state c.args.turn.actor
    (subst (λ o. IsNext g.S.System.form y here c.args.turn.actor o) c.in-None.is next)

pub returns-then-entries-ge-MOST_ENTRIES-clause-fails : goal.returns-then-entries-ge-MOST_ENTRIES-clause-fails
returns-then-entries-ge-MOST_ENTRIES-clause-fails g c =
    let key = g.S.Key.SearchKey in
    let y = g.S.System.value c.args.system.now in
    let here = point_at y (turns_at (all_known g.S.System.form c.args.states.now.known.items) c.args.turn.state) in
    let next = next_here y g.S.System.form key.form key.number key.Valid c.args.states.now.known.items c.args.states.now.buckets c.args.turn.state
    c.requires.searching c.requires.state c.index-2.result.now c.index-2.result.now.key c.in_ok-next.field-0 c.args.turn.actor (ap (λ n. n.key) c.index-2.ensures) c.in_ok-next.ensures.next in
    full y g.S.System.form key.form key.number key.Valid c.args.states.now.known.items c.args.states.now.buckets c.args.turn.state c.requires.searching c.requires.state
    c.args.turn.actor c.in-Some.key c.index.result.now.depth c.entries.result (subst (λ o. IsNext g.S.System.form y here c.args.turn.actor o) c.in-Some.is next)
    (depth_read y g.S.System.form key.form key.number key.Valid c.args.states.now.known.items c.args.states.now.buckets c.args.turn.state c.requires.searching c.requires.state c.index.result.now c.index.ensures)
    c.entries.ensures (omega (arith, c.if-entries-ge-MOST_ENTRIES.true, c.entries.ensures, c.facts.ensures.system.room))

pub add-requires-clause-leads : goal.add-requires-clause-leads
add-requires-clause-leads g c =
    let key = g.S.Key.SearchKey in
    let y = g.S.System.value c.args.system.now in
    let here = point_at y (turns_at (all_known g.S.System.form c.args.states.now.known.items) c.args.turn.state) in
    let next = next_here y g.S.System.form key.form key.number key.Valid c.args.states.now.known.items c.args.states.now.buckets c.args.turn.state
    c.requires.searching c.requires.state c.index-2.result.now c.index-2.result.now.key c.in_ok-next.field-0 c.args.turn.actor (ap (λ n. n.key) c.index-2.ensures) c.in_ok-next.ensures.next in
    leads_on y g.S.System.form key.form key.number key.Valid c.args.states.now.known.items c.args.states.now.buckets c.args.turn.state c.requires.searching c.requires.state c.facts.ensures.system
    c.args.turn.actor c.in-Some.key c.index.result.now.depth c.entries.result (subst (λ o. IsNext g.S.System.form y here c.args.turn.actor o) c.in-Some.is next)
    (depth_read y g.S.System.form key.form key.number key.Valid c.args.states.now.known.items c.args.states.now.buckets c.args.turn.state c.requires.searching c.requires.state c.index.result.now c.index.ensures)
    c.entries.ensures (omega (arith, c.if-entries-ge-MOST_ENTRIES.false, c.entries.ensures, c.facts.ensures.system.room))

pub returns-else-entries-ge-MOST_ENTRIES-clause-goes : goal.returns-else-entries-ge-MOST_ENTRIES-clause-goes
returns-else-entries-ge-MOST_ENTRIES-clause-goes g c =
    let key = g.S.Key.SearchKey in
    let y = g.S.System.value c.args.system.now in
    let here = point_at y (turns_at (all_known g.S.System.form c.args.states.now.known.items) c.args.turn.state) in
    let next = next_here y g.S.System.form key.form key.number key.Valid c.args.states.now.known.items c.args.states.now.buckets c.args.turn.state
    c.requires.searching c.requires.state c.index-2.result.now c.index-2.result.now.key c.in_ok-next.field-0 c.args.turn.actor (ap (λ n. n.key) c.index-2.ensures) c.in_ok-next.ensures.next in
    goes_ok y g.S.System.form key.form key.number key.Valid c.args.states.now.known.items c.args.states.now.buckets c.args.turn.state c.requires.searching c.requires.state
    c.add.result c.args.turn.actor c.in-Some.key c.add.new.states.known.items (c.index.result.now.depth + 1) (subst (λ o. IsNext g.S.System.form y here c.args.turn.actor o) c.in-Some.is next)
    (ap (λ n. n + 1) (depth_read y g.S.System.form key.form key.number key.Valid c.args.states.now.known.items c.args.states.now.buckets c.args.turn.state c.requires.searching c.requires.state c.index.result.now c.index.ensures))
    c.add.ensures.within
