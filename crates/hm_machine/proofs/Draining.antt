-- A machine that drains: it has gone on from s to t, and u comes of the next step.
use Rattle.std.proofs.Common.{◌≡◌, ℕ, ◌+◌, ◌-◌, ◌<◌, ◌≤◌, Bool, true, false, List, [], ◌∷◌, length, drop, refl, sym, ap, ◌∙◌, subst}
use Rattle.std.specs.Prelude.{Result, Ok, Err, not, ◌&&◌, ◌||◌, fold, ⊤}
use Rattle.hm_base.specs.Program.{Program}
use mathlib.Core.List.{IsPrefix}
use Rattle.hm_turns.proofs.Sums.{prefix_refl, prefix_trans}
use Rattle.hm_history.specs.Kernel.Due.{due}
use Rattle.hm_history.specs.Kernel.Run.{enough, has_room, is_entry, turn, turns_on, actors_of, round, drained}
use Rattle.hm_history.specs.declared.Entry.{Entry}
use Rattle.hm_history.specs.declared.StepError.{StepError}
use Rattle.hm_world.specs.WorldValue.{WorldValue}
use Rattle.hm_history.specs.Kernel.Overrun.{overruns_turn, some_overruns}
use Rattle.hm_machine.specs.Turning.{Adds, CameTo, with_history}
use Rattle.hm_machine.proofs.Fullness.{quiet_turn}
use Rattle.hm_machine.proofs.Lines.{line_at}
use Rattle.hm_machine.proofs.Short.{short_here, short_of}
use Rattle.hm_machine.proofs.Rounds.{enough_left, has_none, none_left, added_none, on_next, still_round, drained_still, drained_next, actor_at, no_actor}
use Rattle.hm_machine.proofs.Turns.{or_true, or_false}
use Rattle.std.proofs.Math.Bool.{and-false}
use Rattle.hm_history.proofs.RunLemmas.{turns_stop}
use Rattle.hm_history.proofs.Growing.{grows_added, grows_on, grows_all, grows_drained}

-- what is left comes to this history
pub record Left (s t : WorldValue) (rest : List Entry → List Entry) (h : List Entry) : Type 0 where
  pub same : t ≡ with_history s t.history
  pub left : rest t.history ≡ h
  pub later : IsPrefix s.history t.history

-- nothing is left where the rest changes nothing
pub ended : (s t : WorldValue) (rest : List Entry → List Entry) (h : List Entry) → Left s t rest h → rest t.history ≡ t.history → t ≡ with_history s h
ended s t rest h before still = before.same ∙ ap (with_history s) (sym still ∙ before.left)

-- a step on, and less is left
pub goes : (s t u : WorldValue) (g h : List Entry) (rest less : List Entry → List Entry) → Left s t rest h → u ≡ with_history t g → rest t.history ≡ less g → IsPrefix t.history g → Left s u less h
goes s t u g h rest less before now step later =
    let here : u.history ≡ g = ap (λ x. x.history) now in record {
      same = now ∙ ap (λ x. with_history x g) before.same ∙ ap (with_history s) (sym here);
      left = ap less here ∙ sym step ∙ before.left;
      later = subst (IsPrefix s.history) (sym here) (prefix_trans s.history t.history g before.later later);
    }

pub same_script : (s t : WorldValue) (rest : List Entry → List Entry) (h : List Entry) → Left s t rest h → t.script ≡ s.script
same_script s t rest h before = ap (λ x. x.script) before.same

-- a turn where there is room
pub turn_rests : (s t u : WorldValue) (a n : ℕ) (h : List Entry) → Left s t (λ g. turns_on s.script g a n) h → Adds t a (Ok false) u → u ≡ with_history s h
turn_rests s t u a n h before adds =
    let quiet = adds.2 refl in
    let here = subst (λ c. is_entry (due c t.history a) ≡ false) (same_script s t (λ g. turns_on s.script g a n) h before) quiet in
    adds.0 ∙ ap (with_history t) (quiet_turn t.script t.history a quiet) ∙ ended s t (λ g. turns_on s.script g a n) h before (turns_stop s.script t.history a n here)

pub turn_goes : (s t u : WorldValue) (a i : ℕ) (more : Bool) (h : List Entry) → Left s t (λ g. turns_on s.script g a (enough - i)) h → i < 2000000 → has_room t.history ≡ true → Adds t a (Ok more) u → Left s u (λ g. turns_on s.script g a (enough - (i + 1))) h
turn_goes s t u a i more h before few room adds =
    let c = s.script in
    let k = enough - (i + 1) in
    let rest : List Entry → List Entry = λ g. turns_on c g a (enough - i) in
    let same = same_script s t rest h before in
    let step : turns_on c t.history a (enough - i) ≡ turns_on c (turn t.script t.history a) a k = ap (turns_on c t.history a) (enough_left i few) ∙ on_next c t.history a k room ∙ ap (λ d. turns_on c (turn d t.history a) a k) (sym same) in
    goes s t u (turn t.script t.history a) h rest (λ g. turns_on c g a k) before adds.0 step (grows_added t.history (due t.script t.history a))

-- memory ran out in a turn where there was room
pub turn_fails : (s t u : WorldValue) (a n : ℕ) (e : StepError) (h : List Entry) → Left s t (λ g. turns_on s.script g a n) h → has_room t.history ≡ true → Adds t a (Err e) u → CameTo s h false (Err e) u
turn_fails s t u a n (StepError.Full m) h before room adds = let never : true ≡ false = sym room ∙ has_none t.history adds.1 in cc
turn_fails s t u a n StepError.NoMemory h before room adds =
    short_of s t u t.history h before.same before.later (short_here t u adds) (subst (IsPrefix t.history) before.left (grows_on s.script t.history a n))

pub turns_end : (s t : WorldValue) (a i : ℕ) (h : List Entry) → Left s t (λ g. turns_on s.script g a (enough - i)) h → 2000000 ≤ i → t ≡ with_history s h
turns_end s t a i h before many = ended s t (λ g. turns_on s.script g a (enough - i)) h before (ap (turns_on s.script t.history a) (none_left i many))

-- the turns of the actors from position i on
abbrev pub from_actor : Program → ℕ → List Entry → List Entry
from_actor c i h = fold (λ g a. turns_on c g a enough) h (drop i (actors_of c))

round_step : (s t : WorldValue) (a i : ℕ) (h : List Entry) → Left s t (from_actor s.script i) h → i < length s.script.actors → a ≡ i → from_actor s.script i t.history ≡ from_actor s.script (i + 1) (turns_on t.script t.history a enough)
round_step s t a i h before few is =
    let c = s.script in
    let more = drop (i + 1) (actors_of c) in
    let same = same_script s t (from_actor c i) h before in
    let split : drop i (actors_of c) ≡ i ∷ more = line_at (actors_of c) i i (actor_at c i few) in
    ap (fold (λ g b. turns_on c g b enough) t.history) split ∙ ap (λ d. fold (λ g b. turns_on c g b enough) (turns_on d t.history i enough) more) (sym same) ∙ ap (λ b. from_actor c (i + 1) (turns_on t.script t.history b enough)) (sym is)

pub round_goes : (s t u : WorldValue) (a i : ℕ) (x : ⊤) (h : List Entry) → Left s t (from_actor s.script i) h → i < length s.script.actors → a ≡ i → CameTo t (turns_on t.script t.history a enough) false (Ok x) u → Left s u (from_actor s.script (i + 1)) h
round_goes s t u a i x h before few is came =
    goes s t u (turns_on t.script t.history a enough) h (from_actor s.script i) (from_actor s.script (i + 1)) before came.0 (round_step s t a i h before few is) (grows_on t.script t.history a enough)

pub round_fails : (s t u : WorldValue) (a i : ℕ) (e : StepError) (h : List Entry) → Left s t (from_actor s.script i) h → i < length s.script.actors → a ≡ i → CameTo t (turns_on t.script t.history a enough) false (Err e) u → CameTo s h false (Err e) u
round_fails s t u a i (StepError.Full m) h before few is came = cc
round_fails s t u a i StepError.NoMemory h before few is came =
    let g = turns_on t.script t.history a enough in
    let whole : from_actor s.script (i + 1) g ≡ h = sym (round_step s t a i h before few is) ∙ before.left in
    short_of s t u g h before.same before.later came (subst (IsPrefix g) whole (grows_all s.script (drop (i + 1) (actors_of s.script)) g))

pub round_ends : (s t : WorldValue) (i : ℕ) (h : List Entry) → Left s t (from_actor s.script i) h → length s.script.actors ≤ i → t ≡ with_history s h
round_ends s t i h before many = ended s t (from_actor s.script i) h before (ap (fold (λ g a. turns_on s.script g a enough) t.history) (no_actor s.script i many))

rounds_step : (s t : WorldValue) (i : ℕ) (h : List Entry) → Left s t (λ g. drained s.script g (enough - i)) h → i < 2000000 → drained s.script t.history (enough - i) ≡ drained s.script (round t.script t.history) (enough - (i + 1))
rounds_step s t i h before few =
    let c = s.script in
    let k = enough - (i + 1) in
    let rest : List Entry → List Entry = λ g. drained c g (enough - i) in
    let same = same_script s t rest h before in
    ap (drained c t.history) (enough_left i few) ∙ drained_next c t.history k ∙ ap (λ d. drained c (round d t.history) k) (sym same)

pub rounds_go : (s t u : WorldValue) (i : ℕ) (x : ⊤) (h : List Entry) → Left s t (λ g. drained s.script g (enough - i)) h → i < 2000000 → CameTo t (round t.script t.history) false (Ok x) u → Left s u (λ g. drained s.script g (enough - (i + 1))) h
rounds_go s t u i x h before few came =
    let rest : List Entry → List Entry = λ g. drained s.script g (enough - i) in
    let less : List Entry → List Entry = λ g. drained s.script g (enough - (i + 1)) in
    goes s t u (round t.script t.history) h rest less before came.0 (rounds_step s t i h before few) (grows_all t.script (actors_of t.script) t.history)

pub rounds_fail : (s t u : WorldValue) (i : ℕ) (e : StepError) (h : List Entry) → Left s t (λ g. drained s.script g (enough - i)) h → i < 2000000 → CameTo t (round t.script t.history) false (Err e) u → CameTo s h false (Err e) u
rounds_fail s t u i (StepError.Full m) h before few came = cc
rounds_fail s t u i StepError.NoMemory h before few came =
    let g = round t.script t.history in
    let whole : drained s.script g (enough - (i + 1)) ≡ h = sym (rounds_step s t i h before few) ∙ before.left in
    short_of s t u g h before.same before.later came (subst (IsPrefix g) whole (grows_drained s.script g (enough - (i + 1))))

-- a round that adds nothing is the last
pub rounds_rest : (s t u : WorldValue) (n : ℕ) (x : ⊤) (h : List Entry) → Left s t (λ g. drained s.script g n) h → CameTo t (round t.script t.history) false (Ok x) u → length u.history ≡ length t.history → u ≡ with_history s h
rounds_rest s t u n x h before came as_long =
    let rest : List Entry → List Entry = λ g. drained s.script g n in
    let still = still_round t.script t.history (sym (ap (λ y. length y.history) came.0) ∙ as_long) in
    let here = subst (λ c. round c t.history ≡ t.history) (same_script s t rest h before) still in
    came.0 ∙ ap (with_history t) still ∙ ended s t rest h before (drained_still s.script t.history n here)

pub rounds_end : (s t : WorldValue) (i : ℕ) (h : List Entry) → Left s t (λ g. drained s.script g (enough - i)) h → 2000000 ≤ i → t ≡ with_history s h
rounds_end s t i h before many = ended s t (λ g. drained s.script g (enough - i)) h before (ap (drained s.script t.history) (none_left i many))

-- whether some actor from position i on has an entry due, for which there is no room
abbrev pub beyond_from : WorldValue → ℕ → Bool
beyond_from s i = some_overruns s.script s.history (drop i (actors_of s.script))

beyond_split : (s : WorldValue) (a i : ℕ) → i < length s.script.actors → a ≡ i → beyond_from s i ≡ (overruns_turn s.script s.history a || beyond_from s (i + 1))
beyond_split s a i few is =
    let split : drop i (actors_of s.script) ≡ i ∷ drop (i + 1) (actors_of s.script) = line_at (actors_of s.script) i i (actor_at s.script i few) in
    ap (some_overruns s.script s.history) split ∙ ap (λ b. overruns_turn s.script s.history b || beyond_from s (i + 1)) (sym is)

pub beyond_goes : (s t u : WorldValue) (a i : ℕ) (more b : Bool) → t ≡ s → beyond_from s i ≡ b → i < length s.script.actors → a ≡ i → has_room s.history ≡ false → Adds t a (Ok more) u → (u ≡ s) × (beyond_from s (i + 1) ≡ b)
beyond_goes s t u a i more b same before few is full adds =
    let here = subst (λ x. Adds x a (Ok more) u) same adds in (
      here.0 ∙ ap (with_history s) (added_none s.history (due s.script s.history a) full),
      sym (or_false (overruns_turn s.script s.history a) (beyond_from s (i + 1)) here.1) ∙ sym (beyond_split s a i few is) ∙ before,
    )

pub beyond_fails : (s t u : WorldValue) (a i : ℕ) (e : StepError) (b : Bool) → t ≡ s → beyond_from s i ≡ b → i < length s.script.actors → a ≡ i → Adds t a (Err e) u → CameTo s s.history b (Err e) u
beyond_fails s t u a i e b same before few is adds = by e (subst (λ x. Adds x a (Err e) u) same adds)
  where
    by : (e : StepError) → Adds s a (Err e) u → CameTo s s.history b (Err e) u
    by (StepError.Full n) here = (here.0, here.1, here.3, sym before ∙ beyond_split s a i few is ∙ or_true (overruns_turn s.script s.history a) (beyond_from s (i + 1)) here.2)
    by StepError.NoMemory here = short_here s u here

pub beyond_ends : (s t : WorldValue) (i : ℕ) (b : Bool) → t ≡ s → beyond_from s i ≡ b → length s.script.actors ≤ i → (t ≡ s) × (b ≡ false)
beyond_ends s t i b same before many = (same, sym before ∙ ap (some_overruns s.script s.history) (no_actor s.script i many))

-- nothing is beyond a history with room
within : (c : Program) (h : List Entry) (as_ : List ℕ) → has_room h ≡ true → some_overruns c h as_ ≡ false
within c h [] room = refl
within c h (a ∷ as_) room =
    let here : overruns_turn c h a ≡ false = ap (λ b. is_entry (due c h a) && not b) room ∙ and-false (is_entry (due c h a)) in
    or_false (overruns_turn c h a) (some_overruns c h as_) here ∙ within c h as_ room

pub drained_within : (s t : WorldValue) (h : List Entry) → t ≡ with_history s h → has_room t.history ≡ true → some_overruns s.script h (actors_of s.script) ≡ false
drained_within s t h same room = within s.script h (actors_of s.script) (subst (λ x. has_room x.history ≡ true) same room)

-- a drain that has come to a full history, and finds whether a turn goes beyond it
pub drain_ends : (s t u : WorldValue) (h : List Entry) (b : Bool) (r : Result ⊤ StepError) → t ≡ with_history s h → IsPrefix s.history h → CameTo t t.history (some_overruns t.script t.history (actors_of t.script)) r u
    → some_overruns s.script h (actors_of s.script) ≡ b → CameTo s h b r u
drain_ends s t u h b r same later came beyond = by r (subst (λ x. CameTo x x.history (some_overruns x.script x.history (actors_of x.script)) r u) same came)
  where
    by : (r : Result ⊤ StepError) → CameTo (with_history s h) h (some_overruns s.script h (actors_of s.script)) r u → CameTo s h b r u
    by (Ok x) here = (here.0, sym beyond ∙ here.1)
    by (Err (StepError.Full n)) here = (here.0, here.1, here.2, sym beyond ∙ here.3)
    by (Err StepError.NoMemory) here = short_of s (with_history s h) u h h refl later here (prefix_refl h)
