-- What is noted of an entry is what the stack of phases sees.
use Rattle.std.proofs.Common.{◌≡◌, ℕ, Bool, Option, Some, refl, sym, subst, length}
use Rattle.std.specs.Prelude.{IsTrue}
use Rattle.hm_base.specs.Program.{Program, op_in_range}
use Rattle.hm_base.specs.declared.Frame.{Frame}
use Rattle.hm_base.specs.declared.Place.{Place}
use Rattle.hm_base.specs.declared.ops.Op.{Op}
use Rattle.hm_history.specs.Memory.Locks.{orphan}
use Rattle.hm_history.specs.Memory.After.{After}
use Rattle.hm_history.specs.Kernel.Going.{Going, op_at, seen_overlap}
use Rattle.hm_history.specs.declared.Kind.{Kind}
use Rattle.hm_history.specs.declared.phases.Migrating.{Migrating}
use Rattle.hm_laws.proofs.Histories.Sound.{small}
use Rattle.hm_actors.specs.Actors.{IsSeen}
use Rattle.hm_world.specs.Noted.{IsPlaceSeen, IsPageSeen}
use Rattle.hm_world.specs.WorldValue.{WorldValue, now}
use Rattle.hm_world.specs.Stands.{Parts, Stands}
use Rattle.hm_base.proofs.Shared.{in_range}

range_at : (t : WorldValue) (x : Parts) → Stands t x → (a : ℕ) (o : Op) → Some o ≡ op_at t.script a ((now t).going a).index → IsTrue (op_in_range o)
range_at t x s a o e = in_range (length t.script.devices) o ((small t.script s.script).ops a ((now t).going a).index o (sym e))

pub op_ranged : (t u : WorldValue) → t ≡ u → (x : Parts) → Stands t x → (a : ℕ) (o : Op) → Some o ≡ op_at u.script a ((now u).going a).index → IsTrue (op_in_range o)
op_ranged t u e x s a o = subst (λ v. Some o ≡ op_at v.script a ((now v).going a).index → IsTrue (op_in_range o)) e (range_at t x s a o)

pub seen_is : (c : Program) (s : After) (a : ℕ) (g : Going) (k : Kind) (n : ℕ) (ov : Bool) (pl : Place) (left : Option Frame) (pg : Option Migrating) →
    n ≡ s.length → ov ≡ seen_overlap s k → IsPlaceSeen c s a g k pl → left ≡ orphan s.locks s.places k → IsPageSeen c s a g pg →
    IsSeen c s a g k (record { at = n; overlapped = ov; place = pl; orphan = left; page = pg })
seen_is c s a g k n ov pl left pg en ev ep el eg o top below fo ft = rw (en, ev, ep o top below fo ft, el, eg o top below fo ft) refl
