-- What a key is made of after an entry that breaks no part.
use Rattle.std.proofs.Common.{◌≡◌, ℕ, Bool, None, sym, ap, ◌∙◌}
use Rattle.hm_base.specs.Program.{Program}
use Rattle.hm_history.specs.Kernel.Going.{State, op_at}
use Rattle.hm_history.specs.Memory.After.{After}
use Rattle.hm_history.specs.declared.Entry.{Entry}
use Rattle.hm_flaws.specs.Drivers.{Driver, driver_next, tells_own}
use Rattle.hm_flaws.specs.Flawed.{flawed_next}
use Rattle.hm_flaws.specs.declared.flaws.Flaw.{Flaw}
use Rattle.hm_flaw_states.specs.Owns.{driver_in}
use Rattle.hm_flaw_states.specs.declared.owns.Own.{Own}
use Rattle.hm_flaw_parts.specs.Marks.{Marked, marked_next, marks_in}
use Rattle.hm_flaw_parts.specs.declared.marks.Marks.{Marks}
use Rattle.hm_flaw_parts.specs.Races.Races.{FlawPoint, point_entry}
use Rattle.hm_flaw_states.specs.States.{state_in}
use Rattle.hm_flaw_states.specs.declared.state.FlawState.{FlawState}
use Rattle.hm_flaw_states.specs.Turns.{own_next}

-- ---- what the driver has of its own

-- the entry tells a mirror of an invalidation for a migration of its own device
abbrev tells : Program → State → Entry → Bool
tells c u e = tells_own u.after (op_at c e.actor (u.going e.actor).index) (u.going e.actor).stack e.kind

-- the entry changes nothing of it
pub own_kept : (l : Flaw) (c : Program) (u : State) (x z : Driver) (e : Entry) → z ≡ x → ((f : Flaw) (s : After) (b : Bool) (y : Driver) (a : ℕ) → driver_next f s b y a e.kind ≡ y) → z ≡ own_next l c u x e
own_kept l c u x z e same stays = same ∙ sym (stays l u.after (tells c u e) x e.actor)

pub own_made : (l : Flaw) (c : Program) (u : State) (x y z : Driver) (e : Entry) (b : Bool) → b ≡ tells c u e → y ≡ x → z ≡ driver_next l u.after b y e.actor e.kind → z ≡ own_next l c u x e
own_made l c u x y z e b t same is =
    is ∙ (ap (λ (q : Bool). driver_next l u.after q y e.actor e.kind) t ∙ ap (λ (d : Driver). driver_next l u.after (tells c u e) d e.actor e.kind) same)

pub own_gone : (l : Flaw) (c : Program) (x y : FlawState) (d o : Driver) (e : Entry) → x ≡ y → o ≡ own_next l c (state_in x) d e → o ≡ own_next l c (state_in y) d e
own_gone l c x y d o e s is = is ∙ ap (λ (z : FlawState). own_next l c (state_in z) d e) s

-- ---- the state and the marks

pub state_gone : (l : Flaw) (c : Program) (x y : FlawState) (d o : Own) (e : Entry) (u : State) → x ≡ y → d ≡ o → u ≡ (flawed_next l c (record { state = state_in x; driver = driver_in d }) e).state
    → u ≡ (flawed_next l c (record { state = state_in y; driver = driver_in o }) e).state
state_gone l c x y d o e u s t is =
    is ∙ (ap (λ (z : FlawState). (flawed_next l c (record { state = state_in z; driver = driver_in d }) e).state) s
    ∙ ap (λ (z : Own). (flawed_next l c (record { state = state_in y; driver = driver_in z }) e).state) t)

pub marks_gone : (c : Program) (x y : FlawState) (a b : Marks) (e : Entry) (m : Marked) → x ≡ y → a ≡ b → m ≡ marked_next c (state_in x).after (marks_in a) e → m ≡ marked_next c (state_in y).after (marks_in b) e
marks_gone c x y a b e m s t is =
    is ∙ (ap (λ (z : FlawState). marked_next c (state_in z).after (marks_in a) e) s
    ∙ ap (λ (z : Marks). marked_next c (state_in y).after (marks_in z) e) t)

-- ---- the point

abbrev point_made : State → Driver → Marked → FlawPoint
point_made u d m = record { flawed = record { state = u; driver = d }; marked = m; broken = None }

pub point_gone : (l : Flaw) (c : Program) (x : FlawPoint) (e : Entry) (u : State) (d : Driver) (m : Marked) → u ≡ (flawed_next l c x.flawed e).state → d ≡ (flawed_next l c x.flawed e).driver
    → m ≡ marked_next c x.flawed.state.after x.marked e → point_made u d m ≡ point_entry l c x e None
point_gone l c x e u d m s o t =
    ap (λ (z : State). point_made z d m) s
    ∙ (ap (λ (z : Driver). point_made (flawed_next l c x.flawed e).state z m) o ∙ ap (point_made (flawed_next l c x.flawed e).state (flawed_next l c x.flawed e).driver) t)
