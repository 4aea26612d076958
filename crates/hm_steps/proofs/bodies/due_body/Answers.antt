use Rattle.std.proofs.Common.{◌≡◌, ℕ, ap}
use Rattle.hm_base.specs.declared.Frame.{Frame}
use Rattle.hm_history.specs.Memory.Words.{place_in}
use Rattle.hm_history.specs.Memory.Plain.{rights_of, is_read_write}
use Rattle.hm_history.specs.Memory.After.{After}
use Rattle.hm_history.specs.Kernel.Due.{if_so, has_no_frame}
use Rattle.hm_history.specs.declared.Kind.{Kind}
use Rattle.hm_steps.proofs.bodies.due_body.Goals as goal

-- the body of a fresh page, at equal pages
fresh_at : (s : After) (p : ℕ) (g : Frame) (u v : ℕ) → u ≡ v → if_so (has_no_frame (s.places.place p u)) (Kind.Place p u (place_in g (is_read_write (rights_of s.plain p u)))) ≡ if_so (has_no_frame (s.places.place p v)) (Kind.Place p v (place_in g (is_read_write (rights_of s.plain p v))))
fresh_at s p g u v e = ap (λ w. if_so (has_no_frame (s.places.place p w)) (Kind.Place p w (place_in g (is_read_write (rights_of s.plain p w))))) e

pub returns-in-Fresh : goal.returns-in-Fresh
returns-in-Fresh g c = rw (c.insert.ensures, c.in-Fresh.is) (fresh_at (g.W.Reads.state c.args.world.now).after c.args.proc c.in-Fresh.by _ _ c.first-first.ensures.same)
