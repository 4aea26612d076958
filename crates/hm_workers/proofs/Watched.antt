-- What a watcher's pass goes through.
use Rattle.std.proofs.Common.{◌≡◌, ℕ, ◌+◌, ◌≤◌, List, [], ◌∷◌, ◌++◌, Option, Some, refl, sym, ap, ◌∙◌, subst, arith, length-append}
use mathlib.Core.List.{IsPrefix}
use Rattle.hm_base.specs.Program.{Program}
use Rattle.hm_history.specs.declared.Entry.{Entry}
use Rattle.hm_history.specs.declared.StepError.{StepError}
use Rattle.hm_turns.proofs.Sums.{prefix_refl, prefix_trans}
use Rattle.hm_turns.specs.Looking.{Sees}
use Rattle.hm_turns.specs.Sights.{Sight, IsShown, AreMarks, Halts, joined}
use Rattle.hm_turns.specs.declared.known.Marked.{Marked}
use Rattle.hm_workers.specs.Watching.{HasWatched}
use Rattle.seq_copies.specs.Copies.{TakesTo, checked}
use Rattle.seq_copies.specs.declared.answers.Still.{Still}
use Rattle.seq_copies.specs.declared.answers.Taken.{Taken}

-- of the marks of a pass the first ones are right, and the last ones
pub marks_front : (list : List Entry) (ms ns : List Marked) → AreMarks list (ms ++ ns) → AreMarks list ms
marks_front list [] ns are = tt
marks_front list (m ∷ ms) ns are = (are.0, marks_front list ms ns are.1)

pub marks_back : (list : List Entry) (ms ns : List Marked) → AreMarks list (ms ++ ns) → AreMarks list ns
marks_back list [] ns are = are
marks_back list (m ∷ ms) ns are = marks_back list ms ns are.1

pub watched_more : (a b n : ℕ) (u v w : Sight) → a + b ≤ n → HasWatched a u v → HasWatched b v w → HasWatched n u w
watched_more a b n u v w le x y = record {
  goes = record {
    desk = y.goes.desk ∙ x.goes.desk;
    shares = y.goes.shares ∙ x.goes.shares;
    later = prefix_trans u.list v.list w.list x.goes.later y.goes.later;
  };
  own = y.own ∙ x.own;
  stops = y.stops ∙ x.stops;
  told = λ e t. y.told e (x.told e t);
  shown = λ later s. x.shown later (y.shown later s);
  few = omega (arith, le, x.few, y.few);
}

-- a look that shows a longer list
sees_watched : (v w : Sight) (list : List Entry) (told : Option StepError) → w ≡ record v { list = list; told = told } → ((e : StepError) → v.told ≡ Some e → told ≡ Some e) → IsPrefix v.list list → HasWatched 1 v w
sees_watched v w list told is stays later = subst (HasWatched 1 v) (sym is) (record {
  goes = record { desk = refl; shares = refl; later = later };
  own = refl;
  stops = refl;
  told = stays;
  shown = λ more s. record { later = prefix_trans v.list list more later s.later; counted = s.counted; marked = s.marked };
  few = omega arith;
})

pub seen_watched : (legal : Program → List Entry → Type 0) (v w : Sight) → Sees legal v w → HasWatched 1 v w
seen_watched legal v w sees = sees_watched v w w.list v.told sees.pass_is (λ e t. t) sees.shown.later

halts_watched : (legal : Program → List Entry → Type 0) (v w : Sight) → Halts legal v w → HasWatched 1 v w
halts_watched legal v w halts = sees_watched v w w.list w.told halts.pass_is halts.same halts.shown.later

busy_watched : (v w : Sight) → w ≡ record v { busy = v.busy + 1 } → HasWatched 1 v w
busy_watched v w is = subst (HasWatched 1 v) (sym is) (record {
  goes = record { desk = refl; shares = refl; later = prefix_refl v.list };
  own = refl;
  stops = refl;
  told = λ e t. t;
  shown = λ later s. record { later = s.later; counted = s.counted; marked = s.marked };
  few = omega arith;
})

-- a try for a copy
pub takes_watched : (legal : Program → List Entry → Type 0) (p at n : ℕ) (v w : Sight) (taken : Taken) → TakesTo legal p at n v taken w → HasWatched 1 v w
takes_watched legal p at n v w (Taken.Taken s) t = seen_watched legal v w t.0.0
takes_watched legal p at n v w Taken.Busy t = busy_watched v w t.1
takes_watched legal p at n v w Taken.Halted t = halts_watched legal v w t
takes_watched legal p at n v w (Taken.Locked by) t = seen_watched legal v w t.0
takes_watched legal p at n v w Taken.Unmapped t = seen_watched legal v w t.0

-- a check of a copy
pub checked_watched : (v w : Sight) (p : ℕ) (t : Still) → w ≡ checked v p t → v.loaded ≤ t.count → HasWatched 1 v w
checked_watched v w p t is more = subst (HasWatched 1 v) (sym is) (record {
  goes = record { desk = refl; shares = refl; later = prefix_refl v.list };
  own = refl;
  stops = refl;
  told = λ e x. x;
  shown = λ later s. record { later = s.later; counted = omega (arith, more, s.counted); marked = marks_front later v.marks _ s.marked };
  few = let one = length-append v.marks (record { proc = p; at = t.mark; upto = t.count } ∷ []) in omega (arith, one);
})

-- what was shown to a pass that was taken in
pub joined_shown : (v w u : Sight) → u ≡ joined v w → IsPrefix w.list u.list → (later : List Entry) → IsShown u later → IsShown w later
joined_shown v w u is begins later s =
    let counted = s.counted in
    let loaded = ap (λ (z : Sight). z.loaded) is in
    let marks = ap (λ (z : Sight). z.marks) is in
    record {
      later = prefix_trans w.list u.list later begins s.later;
      counted = grind (arith, counted, loaded);
      marked = marks_back later v.marks w.marks (subst (AreMarks later) marks s.marked);
    }
