-- Which events open or close a migration: none of an entry of an operation that brings no page home, but its answer.
use Rattle.std.proofs.Common.{refl, ap, sym, ◌∙◌}
use Rattle.std.proofs.lemmas.Bool.{true≢false, false≢true}
use Rattle.std.specs.Prelude.{◌≡◌, ℕ, Bool, true, false, List}
use Rattle.hm_base.specs.declared.ops.Op.{Op}
use Rattle.hm_history.specs.Memory.After.{After}
use Rattle.hm_history.specs.declared.Kind.{Kind}
use Rattle.hm_history.specs.declared.phases.Migrating.{Migrating}
use Rattle.hm_history.specs.declared.phases.Phase.{Phase}
use Rattle.hm_protocol.specs.declared.events.Event.{Event}
use Rattle.hm_protocol.specs.Projection.{events_by, is_home}
use Rattle.hm_protocol.proofs.DueKinds.{is_answer}
use Rattle.hm_protocol.proofs.StillEvents.{AllBe}
use Rattle.hm_protocol.proofs.EntryEvents.{Usual, by_be, home_none}

-- no migration begins or ends with the event
abbrev pub is_quiet : Event → Bool
is_quiet (Event.Setup p r to_device d) = false
is_quiet (Event.Finalize p) = false
is_quiet x = true

-- with none of these events
abbrev pub Quiet : List Event → Type 0
Quiet xs = AllBe is_quiet xs

quiet_usual : Usual is_quiet
quiet_usual (Event.Setup p r to_device d) h = absurd (false≢true h)
quiet_usual (Event.Finalize p) h = absurd (false≢true h)
quiet_usual x h = refl

-- no other entry of an operation that brings no page home opens or closes a migration
pub by_quiet : (s u : After) (a : ℕ) (o : Op) (xs : List Migrating) (stack : List Phase) (after : Phase) (k : Kind)
    → is_home o ≡ false → is_answer k ≡ false → Quiet (events_by s u a o xs stack after k)
by_quiet s u a o xs stack after k h g = by_be is_quiet s u a o xs stack after k (record {
  usual = quiet_usual;
  home = λ e f j. home_none is_quiet s o stack f j h;
  over = λ e p. absurd (true≢false (sym e ∙ h));
  ends = λ n p e. absurd (true≢false (sym (ap is_answer e) ∙ g));
  sets = λ m v f w from g e. refl;
})
