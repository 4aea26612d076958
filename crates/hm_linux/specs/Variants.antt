-- Which variants are on: none, or all. And what a variant may put in place of what is due.
use Rattle.std.specs.Prelude.{Bool, true, false, ◌&&◌, ◌||◌, ◌==◌, ◌≡◌, ◌⊎◌}
use Rattle.hm_base.specs.Program.{Program}
use Rattle.hm_base.specs.declared.cause.Cause.{Cause}
use Rattle.hm_history.specs.Kernel.Going.{State}
use Rattle.hm_history.specs.declared.KeptAt.{KeptAt}
use Rattle.hm_history.specs.declared.KeptWhy.{KeptWhy}
use Rattle.hm_history.specs.declared.Kind.{Kind}
use Rattle.hm_history.specs.declared.Entry.{Entry}
use Rattle.hm_history.specs.declared.Progress.{Progress}
use Rattle.hm_history.specs.declared.phases.Next.{Next}
use Rattle.hm_history.specs.declared.phases.Next.TheVariants.{Do, Wait}
use Rattle.hm_linux.specs.declared.variant.Variant.{Variant}
use Rattle.hm_linux.specs.Noted.{Varied}
use Rattle.hm_linux.specs.HeldPage.{kept_referred}
use Rattle.hm_linux.specs.Instead.{found}

-- as in the definitions
abbrev pub no_variant : Variant
no_variant = record {
  held_page = false;
  own_read_only = false;
  exclusive_busy = false;
  exclusive_pins = false;
  unmap_lets_in = false;
  first_attach = false;
  whole_snapshot = false;
}

-- all points as in Linux
abbrev pub linux : Variant
linux = record {
  held_page = true;
  own_read_only = true;
  exclusive_busy = true;
  exclusive_pins = true;
  unmap_lets_in = true;
  first_attach = true;
  whole_snapshot = true;
}

-- ---- what a variant may say in place of what is due

-- why a page may be kept besides
abbrev pub may_keep : Variant → KeptWhy → Bool
may_keep l (KeptWhy.LockedBy b) = l.held_page || l.exclusive_pins
may_keep l KeptWhy.NotHere = l.unmap_lets_in
may_keep l why = false

-- with which cause a piece may fail besides, or a call be refused
abbrev pub may_say : Variant → Cause → Bool
may_say l Cause.Unmapped = l.own_read_only || l.unmap_lets_in
may_say l Cause.Never = l.exclusive_busy
may_say l why = false

-- the entries that variants put in place of others: a page is kept, a piece fails, a call is refused, a snapshot is
-- repeated or sees no page, a walk takes its page, a guard ends
abbrev pub is_other_kind : Variant → Kind → Bool
is_other_kind l (Kind.Kept (KeptAt.Page v) why) = may_keep l why
is_other_kind l (Kind.Failed x at n why) = may_say l why
is_other_kind l (Kind.Refused why) = may_say l why
is_other_kind l (Kind.Retry m) = l.whole_snapshot
is_other_kind l (Kind.Seen m v code) = l.unmap_lets_in && (code == 0)
is_other_kind l (Kind.Runlock p) = l.own_read_only
is_other_kind l (Kind.End p r q) = l.exclusive_busy
is_other_kind l k = false

-- these, or a wait
abbrev pub is_other : Variant → Next → Bool
is_other l (Do k) = is_other_kind l k
is_other l (Wait why) = l.exclusive_busy || (l.first_attach || l.whole_snapshot)

-- the same of what a turn comes to
abbrev pub is_other_turn : Variant → Progress → Bool
is_other_turn l (Progress.Did e) = is_other_kind l e.kind
is_other_turn l (Progress.Waiting why) = l.exclusive_busy || (l.first_attach || l.whole_snapshot)
is_other_turn l Progress.Idle = false

-- what is new is what was due, or one of these
abbrev pub Stays : Variant → Next → Next → Type 0
Stays l next new = (new ≡ next) ⊎ (is_other l new ≡ true)

-- an entry keeps something for the reason that a variant has: another actor's reference
abbrev pub kept_as : Variant → Varied → Entry → Bool
kept_as l t e = elim e.kind [
  | Kind.Kept what why ↦
      (l.held_page || l.exclusive_pins) && kept_referred t.noted e.actor (t.state.going e.actor).pages what why
  | _ ↦ false
]

-- the state as actors find it, with how far each is
abbrev pub state_found : Variant → Program → Varied → State
state_found l c t = record { after = found l c t; going = t.state.going }

-- actors find the state as it is: all variants but one may be on
pub record LeaveState (l : Variant) : Type 0 where
  pub lets_in : l.unmap_lets_in ≡ false
