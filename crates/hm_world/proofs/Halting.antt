-- A world that goes no further.
use Rattle.std.proofs.Common.{◌≡◌, subst, sym}
use Rattle.hm_history.specs.declared.StepError.{StepError}
use Rattle.hm_world.specs.WorldValue.{WorldValue, now, MayHalt, halted_by}
use Rattle.hm_world.specs.Stands.{Parts, Shows, Stands}

same : (t : WorldValue) (x : Parts) (error : StepError) → Stands t x → Shows t.script (now (halted_by t error)) x
unfolding now
same t x error s = s.shows

pub halts : (t u : WorldValue) → t ≡ u → (x : Parts) → Stands t x → (error : StepError) → MayHalt u.script u.history error → Stands (halted_by t error) x
halts t u e x s error m = record {
  script = s.script;
  due = s.due;
  few = s.few;
  halted = subst (λ v. MayHalt v.script v.history error) (sym e) m;
  shows = same t x error s;
}
