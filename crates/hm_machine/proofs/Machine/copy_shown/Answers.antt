use Rattle.std.proofs.Common.{◌≡◌, ◌∙◌, ℕ, ◌+◌, ◌<◌, ◌^◌, Bool, None, length, sym, ap, subst, arith}
use Rattle.std.specs.Prelude.{is_some}
use Rattle.hm_history.specs.Memory.Plain.{rights_of}
use Rattle.hm_history.specs.Memory.Words.{bytes_from, page_of}
use Rattle.hm_world.specs.Bytes.{byte_shown}
use Rattle.hm_world.specs.WorldValue.{now}
use Rattle.hm_machine.specs.Showing.{shown_at}
use Rattle.hm_machine.proofs.Looks.{all_pass, bytes_are, none_shown, one_fails}
use Rattle.hm_machine.proofs.Machine.copy_shown.Goals as goal

pub returns-in-None-clause-areas : goal.returns-in-None-clause-areas
returns-in-None-clause-areas g c =
    let p = c.args.proc in
    let x = c.args.addr + c.loop-at.at in
    let low : x < 2 ^ 48 = omega (arith, c.requires.ends, c.loop-at-test.true) in
    let same = c.deref.ensures ∙ c.self.view_is in
    let none : byte_shown (now c.args.self.now).after p x ≡ None = subst (λ w. byte_shown (now w).after p x ≡ None) same (sym (c.in-None.ensures.within low)) in
    let passes : ℕ → Bool = λ y. is_some (rights_of (now c.args.self.now).after.plain p (page_of y)) in
    sym (one_fails passes c.args.addr (length c.args.into.now) c.loop-at.at c.loop-at-test.true (none_shown (now c.args.self.now).after p x none))

pub returns-clause-areas : goal.returns-clause-areas
returns-clause-areas g c =
    let passes : ℕ → Bool = λ y. is_some (rights_of (now c.args.self.now).after.plain c.args.proc (page_of y)) in
    sym (all_pass passes c.args.addr (length c.args.into.now) (λ k lt. c.loop-at.invariant.areas k (omega (arith, lt, c.loop-at-test.false))))

pub returns-clause-bytes : goal.returns-clause-bytes
returns-clause-bytes g c = λ yes.
    let f = shown_at (now c.args.self.now).after c.args.proc in
    let long = c.loop-at.auto.into in
    bytes_are f c.args.addr c.loop-at.into (λ k lt. c.loop-at.invariant.bytes k (omega (arith, lt, long, c.loop-at-test.false))) ∙ ap (bytes_from f c.args.addr) long
