use Rattle.std.proofs.Common.{◌≡◌, Some, false, true, length, get_or, subst, arith}
use Rattle.hm_search.specs.Values.{key_forms}
use Rattle.hm_search.specs.Buckets.{slot_in}
use Rattle.hm_search.proofs.Chains.{UpTo, StandsIn}
use Rattle.hm_search.proofs.Table.{Walks, walk_begins, walk_goes, same_form, other_form, none_listed}
use Rattle.hm_search.proofs.known.States.has.Goals.{else-number-bucket-via-then-number-bucket+else-same, else-number-bucket-via-else-number-bucket}
use Rattle.hm_search.proofs.known.States.has.Goals as goal

never : false ≡ true → ⊥
never x = cc

pub loop-next-init : goal.loop-next-init
loop-next-init g c =
    let key = g.K.SearchKey in
    let walk = walk_begins key.form key.number key.Valid g.met.K.SearchKey.buckets c.args.self.now.known.items c.args.self.now.buckets c.requires.fits c.args.key.now c.facts.ensures c.args.bucket c.last-next.result c.requires.bucket c.last-next.ensures in
    record { stands = walk.stands; left = walk.left }

pub loop-next-preserved : goal.loop-next-preserved
loop-next-preserved g c =
    let key = g.K.SearchKey in
    let known = c.args.self.now.known.items in
    let table = c.args.self.now.buckets in
    let kept : Walks key.form key.number key.Valid g.met.K.SearchKey.buckets known table c.requires.fits c.args.key.now c.facts.ensures c.args.bucket c.loop-next.next =
    record { stands = c.loop-next.invariant.stands; left = c.loop-next.invariant.left } in
    let here : Walks key.form key.number key.Valid g.met.K.SearchKey.buckets known table c.requires.fits c.args.key.now c.facts.ensures c.args.bucket (Some c.in-Some.at) =
    subst (λ z. Walks key.form key.number key.Valid g.met.K.SearchKey.buckets known table c.requires.fits c.args.key.now c.facts.ensures c.args.bucket z) c.in-Some.is kept in
    let other : get_or table.numbers c.in-Some.at 0 ≡ c.args.bucket → get_or (key_forms key.form known) c.in-Some.at (key.form c.args.key.now) ≡ key.form c.args.key.now → ⊥ =
    elim c.else-number-bucket.branch [
      | else-number-bucket-via-then-number-bucket+else-same w ↦
          λ n e. other_form key.form known c.in-Some.at w.index.result.now (key.form c.args.key.now) w.same.result here.stands.0 w.index.ensures w.same.ensures.apart w.if-same.false e
      | else-number-bucket-via-else-number-bucket w ↦ λ n e. omega (arith, w.if-number-bucket.false, c.number.ensures, n)
    ] in
    let walk = walk_goes key.form key.number key.Valid g.met.K.SearchKey.buckets known table c.requires.fits c.args.key.now c.facts.ensures c.args.bucket c.in-Some.at c.before-next.result c.requires.bucket here other c.before-next.ensures in
    record { stands = walk.stands; left = walk.left }

pub returns : goal.returns
returns g c =
    let form = g.K.SearchKey.form in
    record {
      some = λ e. absurd (never e);
      none = λ e. none_listed form c.args.self.now.known.items (form c.args.key.now) (λ i l same. subst (λ z. UpTo z i) c.in_default.is (c.loop-next.invariant.left i l same));
    }

pub returns-then-same-clause-some : goal.returns-then-same-clause-some
returns-then-same-clause-some g c e =
    let known = c.args.self.now.known.items in
    let table = c.args.self.now.buckets in
    let stands = subst (λ z. StandsIn table (length known) (slot_in table.slots c.args.bucket) z) c.in-Some.is c.loop-next.invariant.stands in
    same_form g.K.SearchKey.form known c.in-Some.at c.index.result.now (g.K.SearchKey.form c.args.key.now) stands.0 c.index.ensures (c.same.ensures.alike c.if-same.true)
