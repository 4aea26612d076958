use Rattle.std.proofs.Common.{refl, false, None, [], ◌≡◌, ◌∙◌, ap, sym, subst, arith, ◌<◌, ◌≤◌, length, set, get_or, reverse}
use Rattle.hm_protocol.specs.Known.{Call}
use Rattle.hm_verdicts.specs.Changes.{call_with, returned_in}
use Rattle.hm_verdicts.proofs.Mapping.{mapped_to, mapped_more, mapped_past, mapped_length}
use Rattle.hm_verdicts.specs.Settled.{IsFresh, IsOver}
use Rattle.hm_verdicts.proofs.AreOver.{return_same}
use Rattle.hm_verdicts.proofs.Returned.{is_given, given_stays, returns_alike}
use Rattle.hm_verdicts.proofs.Settled.{first_fixed, first_weaker, first_mapped_to}
use Rattle.hm_verdicts.proofs.all_calls.return_all.Goals as goal

pub loop-number-init : goal.loop-number-init
loop-number-init c =
    let o = c.args.over in
    let cs = c.args.calls.now.items in
    let f = returned_in c.args.at c.args.seq cs (reverse c.args.moves.now) c.args.thread c.args.mirror in
    sym (first_fixed f o.count cs (first_weaker (IsOver o) (λ x. f x ≡ x)
    (return_same c.args.at c.args.seq cs (reverse c.args.moves.now)
    c.args.thread c.args.mirror o) o.count cs c.requires.over))

pub return_one-requires-clause-there : goal.return_one-requires-clause-there
return_one-requires-clause-there c =
    let many : length c.loop-number.calls.items ≡ length c.args.calls.now.items = ap length c.loop-number.invariant
    ∙ mapped_length _ c.loop-number.number c.args.calls.now.items in
    omega (arith, c.loop-number-test.true, c.len-number-end.ensures, many, c.args.calls.now.ok)

pub return_one-requires-clause-fresh : goal.return_one-requires-clause-fresh
return_one-requires-clause-fresh c =
    let g = c.args.fresh in
    let cs = c.args.calls.now.items in
    let ys = reverse c.args.moves.now in
    let m = c.args.mirror in
    let f = returned_in c.args.at c.args.seq cs ys c.args.thread m in
    subst (IsFresh m g) (sym c.loop-number.invariant)
    (first_mapped_to (λ x. is_given m g.seq x ≡ false) f
    (λ x e. given_stays c.args.at c.args.seq cs ys c.args.thread m m g.seq x ∙ e)
    c.loop-number.number g.count cs c.requires.fresh)

pub loop-number-preserved : goal.loop-number-preserved
loop-number-preserved c =
    let i = c.args.at in
    let q = c.args.seq in
    let cs = c.args.calls.now.items in
    let ys = reverse c.args.moves.now in
    let t = c.args.thread in
    let m = c.args.mirror in
    let n = c.loop-number.number in
    let f = returned_in i q cs ys t m in
    let d : Call = call_with 0 0 (record { first = 0; count = 0 }) 0 None 0 [] in
    let below : n < length cs = omega (arith, c.loop-number-test.true, c.len-number-end.ensures, c.args.calls.now.ok) in
    c.in_ok-return_one.ensures d
    ∙ (ap (λ zs. set zs n (returned_in i q zs ys t m (get_or zs n d))) c.loop-number.invariant
    ∙ (ap (set (mapped_to f n cs) n) (returns_alike i q cs ys t m n (get_or (mapped_to f n cs) n d))
    ∙ mapped_more f n cs d (f (get_or (mapped_to f n cs) n d)) below refl))

pub returns : goal.returns
returns c =
    let f = returned_in c.args.at c.args.seq c.args.calls.now.items
    (reverse c.args.moves.now) c.args.thread c.args.mirror in
    let past : length c.args.calls.now.items ≤ c.loop-number.number =
    omega (arith, c.loop-number-test.false, c.len-number-end.ensures, c.args.calls.now.ok) in
    c.loop-number.invariant ∙ mapped_past f c.loop-number.number c.args.calls.now.items past
