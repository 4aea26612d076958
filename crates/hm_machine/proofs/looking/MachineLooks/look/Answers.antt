use Rattle.std.proofs.Common.{◌≡◌, ◌∙◌, None, Some, refl, sym, ap, subst}
use Rattle.hm_history.specs.Memory.After.{after}
use Rattle.hm_history.specs.Memory.Locks.{writer}
use Rattle.hm_laws.specs.Laws.{ReadsRight}
use Rattle.hm_laws.specs.Stands.{Stands}
use Rattle.hm_world.specs.WorldValue.{WorldValue, now}
use Rattle.hm_machine.proofs.Looks.{after_now, finds_bytes, finds_no_area, finds_writer}
use Rattle.hm_machine.proofs.looking.MachineLooks.look.Goals as goal

pub returns-in-Some-clause-read : goal.returns-in-Some-clause-read
returns-in-Some-clause-read g c =
    let t = c.args.self.now in
    let p = c.args.proc in
    let st : Stands t.script t.history = subst (λ (w : WorldValue). Stands w.script w.history) (c.deref.ensures ∙ c.self.view_is) (c.history_stands.ensures c.deref.result.now.script c.facts.ensures.script c.deref.result.now.history c.facts.ensures.due) in
    let locked : writer (now t).after.locks p ≡ Some c.in-Some.by = subst (λ (w : WorldValue). writer (now w).after.locks p ≡ Some c.in-Some.by) (c.deref-2.ensures ∙ c.self.view_is) (sym c.in-Some.ensures) in
    finds_writer t.history p c.args.addr c.in-Some.by c.args.into.now (ap (λ s. writer s.locks p) (sym (after_now t st)) ∙ locked)

pub returns-then-copy_shown-clause-read : goal.returns-then-copy_shown-clause-read
returns-then-copy_shown-clause-read g c =
    let t = c.args.self.now in
    let p = c.args.proc in
    let w = c.deref.result.now in
    let st : Stands t.script t.history = subst (λ (w : WorldValue). Stands w.script w.history) (c.deref.ensures ∙ c.self.view_is) (c.history_stands.ensures w.script c.facts.ensures.script w.history c.facts.ensures.due) in
    let reads : ReadsRight (after t.history) = subst (λ (w : WorldValue). ReadsRight (after w.history)) (c.deref.ensures ∙ c.self.view_is) (c.frames_read.ensures w.script c.facts.ensures.script w.history c.facts.ensures.due) in
    let none : writer (now t).after.locks p ≡ None = subst (λ (w : WorldValue). writer (now w).after.locks p ≡ None) (c.deref-2.ensures ∙ c.self.view_is) (sym c.writer.ensures ∙ c.in_default.is) in
    let k = c.if-copy_shown.ensures in
    finds_bytes t st p c.args.addr _ c.copy_shown.new.into k.length none reads k.areas (k.bytes refl)

pub returns-else-copy_shown-clause-read : goal.returns-else-copy_shown-clause-read
returns-else-copy_shown-clause-read g c =
    let t = c.args.self.now in
    let p = c.args.proc in
    let w = c.deref.result.now in
    let st : Stands t.script t.history = subst (λ (w : WorldValue). Stands w.script w.history) (c.deref.ensures ∙ c.self.view_is) (c.history_stands.ensures w.script c.facts.ensures.script w.history c.facts.ensures.due) in
    let none : writer (now t).after.locks p ≡ None = subst (λ (w : WorldValue). writer (now w).after.locks p ≡ None) (c.deref-2.ensures ∙ c.self.view_is) (sym c.writer.ensures ∙ c.in_default.is) in
    let k = c.if-copy_shown.ensures in
    finds_no_area t st p c.args.addr _ c.copy_shown.new.into k.length none k.areas
