-- Operations that move no frame, at all their stacks.
use Rattle.std.proofs.Common.{◌≡◌, ℕ, Bool, true, Option, List, [], ◌∷◌, refl, sym, subst}
use Rattle.hm_base.specs.Pages.{Pages}
use Rattle.hm_base.specs.Program.{Program}
use Rattle.hm_base.specs.declared.ops.Op.{Op}
use Rattle.hm_history.specs.Memory.After.{After}
use Rattle.hm_history.specs.Kernel.Due.{due_ready, due_guard}
use Rattle.hm_history.specs.declared.phases.Migrating.{Migrating}
use Rattle.hm_history.specs.declared.phases.Phase.{Phase}
use Rattle.hm_history.specs.declared.phases.Body.{Body}
use Rattle.hm_history.specs.declared.phases.Next.TheVariants.{Do}
use Rattle.hm_laws.specs.Past.{Past}
use Rattle.hm_laws.specs.Sound.{Sound}
use Rattle.hm_laws.specs.Facts.{readying, HoldsAll, facts}
use Rattle.hm_laws.proofs.Due.Good.{Good}
use Rattle.hm_quiet_laws.proofs.measure.Counts.{Few}
use Rattle.hm_quiet_laws.proofs.measure.Shapes.{is_simple, on_span, no_test}
use Rattle.hm_quiet_laws.proofs.alone.Ends.{StepsTo, EachFalls}
use Rattle.hm_quiet_laws.proofs.spans.BeginsFall.{OnSimple, begin_steps, locked_steps, fork_opens}
use Rattle.hm_quiet_laws.proofs.spans.GuardsFall.{GuardSteps, zap_steps, narrow_steps, widen_steps, fork_steps, answer_steps, pages_steps, drop_steps}

ready_steps : (c : Program) (s : After) (t : Past) (a : ℕ) (o : Op) (xs : List Migrating) → is_simple o ≡ true → Few c s → HoldsAll s t a (readying o xs) → StepsTo c s a o xs Phase.Ready [] OnSimple (Do (due_ready s o))
ready_steps c s t a (Op.Fork p d) xs i f h = (fork_opens c s a xs p d f, refl)
ready_steps c s t a (Op.ToDevice m r) xs i f h = cc
ready_steps c s t a (Op.ToSystem m r) xs i f h = cc
ready_steps c s t a (Op.Map p r w) xs i f h = cc
ready_steps c s t a (Op.Unmap p r) xs i f h = cc
ready_steps c s t a (Op.Protect p r w) xs i f h = cc
ready_steps c s t a (Op.Exit p) xs i f h = cc
ready_steps c s t a (Op.Attach m d p r) xs i f h = cc
ready_steps c s t a (Op.Detach m) xs i f h = cc
ready_steps c s t a (Op.Snap m r) xs i f h = cc
ready_steps c s t a o xs i f h = cc

abbrev AtGuard : Program → After → Past → ℕ → Op → List Migrating → ℕ → Pages → Bool → Option ℕ → Body → Type 0
AtGuard c s t a o xs q r met told body = HoldsAll s t a (facts o xs (Phase.Guard q r met told body ∷ Phase.Answer ∷ [])) → Good c s t a o xs (Phase.Guard q r met told body) (Phase.Answer ∷ []) (Do (due_guard s a o q r met told body)) →
    GuardSteps c s a o xs q r met told body (due_guard s a o q r met told body)

fork_guard : (c : Program) (s : After) (t : Past) (a : ℕ) (o : Op) (xs : List Migrating) (q : ℕ) (r : Pages) (met : Bool) (told : Option ℕ) (n : ℕ) (half : Bool) → is_simple o ≡ true → Sound c s t → AtGuard c s t a o xs q r met told (Body.Fork n half)
fork_guard c s t a (Op.Fork p d) xs q r met told n half i so h g = subst (λ q. AtGuard c s t a (Op.Fork p d) xs q r met told (Body.Fork n half)) (sym h.1.1.0.0) (λ h g. fork_steps c s t a p d xs r met told n half so h g) h g
fork_guard c s t a (Op.Map p v w) xs q r met told n half i so h g = cc
fork_guard c s t a (Op.Unmap p v) xs q r met told n half i so h g = cc
fork_guard c s t a (Op.Protect p v w) xs q r met told n half i so h g = cc
fork_guard c s t a (Op.Exit p) xs q r met told n half i so h g = cc
fork_guard c s t a (Op.Attach m d p v) xs q r met told n half i so h g = cc
fork_guard c s t a (Op.Detach m) xs q r met told n half i so h g = cc
fork_guard c s t a (Op.Snap m v) xs q r met told n half i so h g = cc
fork_guard c s t a o xs q r met told n half i so h g = cc

guard_steps : (c : Program) (s : After) (t : Past) (a : ℕ) (o : Op) (xs : List Migrating) (q : ℕ) (r : Pages) (met : Bool) (told : Option ℕ) (body : Body) (below : List Phase) → is_simple o ≡ true → Sound c s t → on_span body below ≡ true → HoldsAll s t a (facts o xs (Phase.Guard q r met told body ∷ below)) → Good c s t a o xs (Phase.Guard q r met told body) below (Do (due_guard s a o q r met told body)) →
    StepsTo c s a o xs (Phase.Guard q r met told body) below OnSimple (Do (due_guard s a o q r met told body))
guard_steps c s t a o xs q r met told (Body.Zap n) (Phase.Answer ∷ []) i so e h g = zap_steps c s t a o xs q r met told n so h
guard_steps c s t a o xs q r met told (Body.Narrow n) (Phase.Answer ∷ []) i so e h g = narrow_steps c s t a o xs q r met told n so h g
guard_steps c s t a o xs q r met told (Body.Fork n half) (Phase.Answer ∷ []) i so e h g = fork_guard c s t a o xs q r met told n half i so h g
guard_steps c s t a o xs q r met told Body.Nothing (Phase.Answer ∷ []) i so e h g = widen_steps c s t a o xs q r met told so h
guard_steps c s t a o xs q r met told body below i so e h g = absurd (no_test e)

pub simple_falls : (c : Program) (o : Op) → is_simple o ≡ true → EachFalls c o OnSimple
simple_falls c o i s t a xs Phase.Begin [] so f al h e g = begin_steps c s t a o xs i so al h.1
simple_falls c o i s t a xs Phase.Begin (y ∷ ys) so f al h e g = absurd h.0
simple_falls c o i s t a xs Phase.Locked [] so f al h e g = locked_steps c s a o xs h.1.1.0 f
simple_falls c o i s t a xs Phase.Locked (y ∷ ys) so f al h e g = absurd h.0
simple_falls c o i s t a xs Phase.Ready [] so f al h e g = ready_steps c s t a o xs i f h.1.1
simple_falls c o i s t a xs Phase.Ready (y ∷ ys) so f al h e g = absurd h.0
simple_falls c o i s t a xs Phase.Answer [] so f al h e g = answer_steps c s t a o xs i h.1.1
simple_falls c o i s t a xs Phase.Answer (y ∷ ys) so f al h e g = absurd h.0
simple_falls c o i s t a xs (Phase.Pages v) [] so f al h e g = pages_steps c s a o xs v h.0
simple_falls c o i s t a xs (Phase.Pages v) (y ∷ ys) so f al h e g = absurd h.0
simple_falls c o i s t a xs (Phase.Guard q r met told body) below so f al h e g = guard_steps c s t a o xs q r met told body below i so e h g
simple_falls c o i s t a xs (Phase.Drop k) below so f al h e g = drop_steps c s a o xs k below e
simple_falls c o i s t a xs top below so f al h e g = absurd (no_test e)
