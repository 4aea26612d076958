use Rattle.std.proofs.Common.{◌≡◌, Option, sym, ap, subst, ◌∙◌}
use Rattle.std.specs.Prelude.{unwrap_or}
use Rattle.hm_history.specs.Kernel.Going.{going_next, op_at}
use Rattle.hm_history.specs.declared.Kind.{Kind}
use Rattle.hm_flaws.specs.Flawed.{Flawed, found, going_by, taken_for}
use Rattle.hm_flaw_states.specs.Owns.{driver_in}
use Rattle.hm_flaw_states.specs.States.{state_in}
use Rattle.hm_actors.specs.Actors.{IsSeen}
use Rattle.hm_flaw_states.proofs.Quieting.{due_quiet}
use Rattle.hm_flaw_states.proofs.Standings.{actor_kept}
use Rattle.hm_flaw_states.proofs.state.FlawState.moved.Goals as goal

pub returns-in_ok-gone_by-in-Some : goal.returns-in_ok-gone_by-in-Some
returns-in_ok-gone_by-in-Some c =
    let u = state_in c.args.self.now in
    let a = c.args.entry.now.actor in
    let g = u.going a in
    let p = c.args.script.now in
    let l = c.args.flaw in
    let s = found l p (record { state = u; driver = driver_in c.args.own.now }) in
    let here : c.in-Some.kind ≡ taken_for l g.stack c.args.entry.now.kind =
    sym (ap (λ (o : Option Kind). unwrap_or o c.args.entry.now.kind) c.in-Some.is) ∙ c.taken_for.ensures in
    c.in_ok-gone_by-in-Some.ensures ∙ ap (λ (k : Kind). going_by l (op_at p a g.index) u.after.length g.stack k (going_next p s a g k)) here

pub returns-in_ok-gone_by-in-None : goal.returns-in_ok-gone_by-in-None
returns-in_ok-gone_by-in-None c =
    let u = state_in c.args.self.now in
    let a = c.args.entry.now.actor in
    let g = u.going a in
    let p = c.args.script.now in
    let l = c.args.flaw in
    let s = found l p (record { state = u; driver = driver_in c.args.own.now }) in
    let here : c.args.entry.now.kind ≡ taken_for l g.stack c.args.entry.now.kind =
    sym (ap (λ (o : Option Kind). unwrap_or o c.args.entry.now.kind) c.in-None.is) ∙ c.taken_for.ensures in
    c.in_ok-gone_by-in-None.ensures ∙ ap (λ (k : Kind). going_by l (op_at p a g.index) u.after.length g.stack k (going_next p s a g k)) here

pub gone_by-requires : goal.gone_by-requires
gone_by-requires c =
    let u = state_in c.args.self.now in
    let e = c.args.entry.now in
    let a = e.actor in
    let g = u.going a in
    let p = c.args.script.now in
    let l = c.args.flaw in
    let t : Flawed = record { state = u; driver = driver_in c.args.own.now } in
    let here : c.in-Some.kind ≡ taken_for l g.stack e.kind =
    sym (ap (λ (o : Option Kind). unwrap_or o e.kind) c.in-Some.is) ∙ c.taken_for.ensures in
    record {
      there = actor_kept c.args.self.now l p (driver_in c.args.own.now) a e c.requires.is_due;
      room = c.requires.room;
      standing = c.requires.standing;
      quiet = λ seen sees. due_quiet l p t a e seen c.requires.is_due (subst (λ (k : Kind). IsSeen p (found l p t) a g k seen) here sees);
    }

pub gone_by-requires-in-None : goal.gone_by-requires-in-None
gone_by-requires-in-None c =
    let u = state_in c.args.self.now in
    let e = c.args.entry.now in
    let a = e.actor in
    let g = u.going a in
    let p = c.args.script.now in
    let l = c.args.flaw in
    let t : Flawed = record { state = u; driver = driver_in c.args.own.now } in
    let here : c.args.entry.now.kind ≡ taken_for l g.stack e.kind =
    sym (ap (λ (o : Option Kind). unwrap_or o e.kind) c.in-None.is) ∙ c.taken_for.ensures in
    record {
      there = actor_kept c.args.self.now l p (driver_in c.args.own.now) a e c.requires.is_due;
      room = c.requires.room;
      standing = c.requires.standing;
      quiet = λ seen sees. due_quiet l p t a e seen c.requires.is_due (subst (λ (k : Kind). IsSeen p (found l p t) a g k seen) here sees);
    }
