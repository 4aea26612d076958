use Rattle.std.proofs.Common.{◌≡◌, ◌∙◌, List, true, sym, ap, subst, arith}
use Rattle.hm_turns.specs.Sights.{Sight}
use Rattle.hm_workers.specs.Peeking.{is_newer}
use Rattle.hm_workers.specs.Watching.{RightPeeks, peek_of}
use Rattle.hm_workers.specs.declared.peeks.Peek.{Peek}
use Rattle.hm_workers.proofs.Recorded.{current_right, peeks_more, peeks_stay}
use Rattle.hm_workers.proofs.Watched.{checked_watched}
use Rattle.hm_workers.proofs.watching.check.Goals as goal

pub returns-then-not-seen-clause-pass : goal.returns-then-not-seen-clause-pass
returns-then-not-seen-clause-pass g c = let e = c.still-seen.ensures in checked_watched c.args.pass.now c.still-seen.new.pass c.args.copy.now.proc c.still-seen.result e.pass e.more.0

pub returns-then-not-seen-clause-peeks : goal.returns-then-not-seen-clause-peeks
returns-then-not-seen-clause-peeks g c = let e = c.still-seen.ensures in
    peeks_stay c.args.asked.now c.args.pass.now c.still-seen.new.pass c.args.peeks.now (checked_watched c.args.pass.now c.still-seen.new.pass c.args.copy.now.proc c.still-seen.result e.pass e.more.0).shown c.requires.peeks

pub returns-then-not-is_newer-clause-pass : goal.returns-then-not-is_newer-clause-pass
returns-then-not-is_newer-clause-pass g c = let e = c.still-seen.ensures in checked_watched c.args.pass.now c.still-seen.new.pass c.args.copy.now.proc c.still-seen.result e.pass e.more.0

pub returns-then-not-is_newer-clause-peeks : goal.returns-then-not-is_newer-clause-peeks
returns-then-not-is_newer-clause-peeks g c = let e = c.still-seen.ensures in
    peeks_stay c.args.asked.now c.args.pass.now c.still-seen.new.pass c.args.peeks.now (checked_watched c.args.pass.now c.still-seen.new.pass c.args.copy.now.proc c.still-seen.result e.pass e.more.0).shown c.requires.peeks

pub returns-in_err-record_peek-clause-pass : goal.returns-in_err-record_peek-clause-pass
returns-in_err-record_peek-clause-pass g c = let e = c.still-seen.ensures in checked_watched c.args.pass.now c.still-seen.new.pass c.args.copy.now.proc c.still-seen.result e.pass e.more.0

pub returns-in_err-record_peek-clause-peeks : goal.returns-in_err-record_peek-clause-peeks
returns-in_err-record_peek-clause-peeks g c = let e = c.still-seen.ensures in
    subst (λ (xs : List Peek). RightPeeks c.args.asked.now c.still-seen.new.pass xs) (sym c.in_err-record_peek.ensures.err)
    (peeks_stay c.args.asked.now c.args.pass.now c.still-seen.new.pass c.args.peeks.now (checked_watched c.args.pass.now c.still-seen.new.pass c.args.copy.now.proc c.still-seen.result e.pass e.more.0).shown c.requires.peeks)

pub returns-clause-pass : goal.returns-clause-pass
returns-clause-pass g c = let e = c.still-seen.ensures in checked_watched c.args.pass.now c.still-seen.new.pass c.args.copy.now.proc c.still-seen.result e.pass e.more.0

pub returns-clause-peeks : goal.returns-clause-peeks
returns-clause-peeks g c =
    let e = c.still-seen.ensures in
    let a = c.args.asked.now in
    let s = c.args.copy.now in
    let w : Sight = c.still-seen.new.pass in
    let n = c.still-seen.result.count in
    let kept = c.requires.kept in
    let held : c.still-seen.result.holds ≡ true = let h = c.if-not-seen.false in grind arith in
    let newer : is_newer c.args.peeks.now n ≡ true = let h = c.if-not-is_newer.false in sym c.is_newer.ensures ∙ grind arith in
    let stay = peeks_stay a c.args.pass.now w c.args.peeks.now (checked_watched c.args.pass.now c.still-seen.new.pass c.args.copy.now.proc c.still-seen.result e.pass e.more.0).shown c.requires.peeks in
    let right = current_right s w n (ap (λ (z : Sight). z.loaded) e.pass) (e.current held) (e.areas held kept.areas) in
    subst (λ (xs : List Peek). RightPeeks a w xs) (sym c.in_ok-record_peek.ensures.ok)
    (peeks_more a w c.args.peeks.now (peek_of s n) stay newer (record { proc_is = kept.proc_is; addr_is = kept.addr_is; length_is = kept.length_is }) right)
