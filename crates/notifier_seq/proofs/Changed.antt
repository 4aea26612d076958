-- One interval changes, and the tree with it.
use Rattle.std.proofs.Common.{◌≡◌, ℕ, ◌+◌, ◌-◌, is_some, ◌<◌, ◌≤◌, Bool, true, false, cond, Option, Some, None, List, [], ◌∷◌, zero, suc, length, map, refl, sym, ap, ◌∙◌, arith, length-set}
use Rattle.std.specs.Prelude.{slice_set, slice_index_or, count_by}
use Rattle.std.proofs.lemmas.List.{map-set}
use Rattle.std.proofs.lemmas.List.Sums.{count_by-le-length, sum_by-set, get_or-le-sum_by}
use Rattle.std.proofs.Math.Seq.{map-set_same}
use Rattle.std.proofs.Math.ListN.{get_or-map}
use Rattle.hm_base.specs.Pages.{Pages}
use Rattle.notifier_seq.specs.declared.interval.Settling.TheVariants.{Insert, Remove}
use Rattle.notifier_seq.specs.declared.interval.Interval.{Interval}
use Rattle.notifier_seq.specs.declared.interval.Stage.{Stage}
use Rattle.notifier_seq.specs.declared.interval.Stage.TheVariants.{InTree, InsertDeferred, RemoveDeferred, Out}
use Rattle.notifier_seq.specs.Sequences.{in_tree_state, deferred_state, settled_stage, settled, with_seq, with_stage}
use Rattle.notifier_seq.specs.Kept.{tree_window, is_coming, stage_of, due_in, due, IsKept}

-- as many as still come into the tree
abbrev pub coming : Option Interval → ℕ
coming v = cond (is_coming v) 1 0

-- the interval takes its place in the tree or leaves it
pub kept_moved : (xs : List (Option Interval)) (windows : List (Option Pages)) (spare more : ℕ) (noted next room left : Bool) (m : ℕ) (v : Option Interval) → IsKept xs windows spare noted room → m < 32
    → coming v + cond left 1 0 + spare ≤ more + coming (slice_index_or xs m None) + cond room 1 0 → (next ≡ false → map settled (slice_set xs m v) ≡ slice_set xs m v) → IsKept (slice_set xs m v) (slice_set windows m (tree_window v)) more next left
kept_moved xs windows spare more noted next room left m v h l r q =
    let counted = sum_by-set coming xs m v None (omega (arith, h.len)) in
    record {
      len = rw length-set h.len;
      tree = rw (h.tree, map-set) refl;
      enough = omega (arith, counted, h.enough);
      quiet = q;
    }

-- the interval stays where it is, in the tree or not
pub kept_same : (xs : List (Option Interval)) (windows : List (Option Pages)) (spare : ℕ) (noted next room left : Bool) (m : ℕ) (v : Option Interval) → IsKept xs windows spare noted room → m < 32 → tree_window v ≡ tree_window (slice_index_or xs m None)
    → coming v + cond left 1 0 ≤ coming (slice_index_or xs m None) + cond room 1 0 → (next ≡ false → map settled (slice_set xs m v) ≡ slice_set xs m v) → IsKept (slice_set xs m v) windows spare next left
kept_same xs windows spare noted next room left m v h l t r q =
    let counted = sum_by-set coming xs m v None (omega (arith, h.len)) in
    record {
      len = rw length-set h.len;
      tree = h.tree ∙ sym (map-set_same tree_window xs m v None t);
      enough = omega (arith, counted, h.enough);
      quiet = q;
    }

pub quiet_set : (xs : List (Option Interval)) (m : ℕ) (v : Option Interval) → map settled xs ≡ xs → settled v ≡ v → map settled (slice_set xs m v) ≡ slice_set xs m v
quiet_set xs m v q e = rw (map-set, q, e) refl

pub quiet_at : (xs : List (Option Interval)) (m : ℕ) → map settled xs ≡ xs → settled (slice_index_or xs m None) ≡ slice_index_or xs m None
quiet_at xs m q = sym (get_or-map settled xs m None) ∙ ap (λ ys. slice_index_or ys m None) q

-- room is made: where nothing is deferred nothing is to come, and else 32 at most
quiet_one : (t : Stage) → settled_stage t ≡ t → deferred_state t ≡ false
quiet_one InTree e = refl
quiet_one InsertDeferred e = cc
quiet_one RemoveDeferred e = refl
quiet_one Out e = refl

none_coming : (xs : List (Option Interval)) → map settled xs ≡ xs → count_by is_coming xs ≡ 0
none_coming [] e = refl
none_coming (None ∷ xs) e = let rest : map settled xs ≡ xs = cc in none_coming xs rest
none_coming (Some x ∷ xs) e =
    let rest : map settled xs ≡ xs = cc in
    let first : settled (Some x) ≡ Some x = cc in
    let stage : settled_stage x.stage ≡ x.stage = cc in
    rw (quiet_one x.stage stage) (none_coming xs rest)

pub kept_reserved : (xs : List (Option Interval)) (windows : List (Option Pages)) (spare more : ℕ) (noted room : Bool) → IsKept xs windows spare noted room → cond noted 33 1 ≤ more → IsKept xs windows more noted true
kept_reserved xs windows spare more true room h l = record { len = h.len; tree = h.tree; enough = omega (arith, count_by-le-length is_coming xs, h.len); quiet = h.quiet }
kept_reserved xs windows spare more false room h l = record { len = h.len; tree = h.tree; enough = omega (arith, none_coming xs (h.quiet refl)); quiet = h.quiet }

pub kept_settled : (xs : List (Option Interval)) (windows : List (Option Pages)) (spare : ℕ) (noted room : Bool) → IsKept xs windows spare noted room → map settled xs ≡ xs → IsKept xs windows spare false room
kept_settled xs windows spare noted room h q = record { len = h.len; tree = h.tree; enough = h.enough; quiet = λ _. q }

-- a sequence is set
seq_window : (q : ℕ) (v : Option Interval) → tree_window (with_seq q v) ≡ tree_window v
seq_window q None = refl
seq_window q (Some x) = refl

seq_coming : (q : ℕ) (v : Option Interval) → coming (with_seq q v) ≡ coming v
seq_coming q None = refl
seq_coming q (Some x) = refl

seq_settled : (q : ℕ) (v : Option Interval) → settled (with_seq q v) ≡ with_seq q (settled v)
seq_settled q None = refl
seq_settled q (Some x) = refl

pub kept_told : (xs : List (Option Interval)) (windows : List (Option Pages)) (spare : ℕ) (noted room : Bool) (m q : ℕ) → IsKept xs windows spare noted room → m < 32 → IsKept (slice_set xs m (with_seq q (slice_index_or xs m None))) windows spare noted room
kept_told xs windows spare noted room m q h l =
    let v = slice_index_or xs m None in
    kept_same xs windows spare noted noted room room m (with_seq q v) h l (seq_window q v) (omega (arith, seq_coming q v)) (λ e. quiet_set xs m (with_seq q v) (h.quiet e) (seq_settled q v ∙ ap (with_seq q) (quiet_at xs m (h.quiet e))))

-- an interval comes where there was none
pub kept_deferred : (xs : List (Option Interval)) (windows : List (Option Pages)) (spare : ℕ) (noted room : Bool) (m : ℕ) (w : Pages) (q : ℕ) → IsKept xs windows spare noted room → room ≡ true → m < 32 → slice_index_or xs m None ≡ None
    → IsKept (slice_set xs m (Some (record { window = w; seq = q; stage = InsertDeferred }))) windows spare true false
kept_deferred xs windows spare noted room m w q h r l e =
    kept_same xs windows spare noted true room false m (Some (record { window = w; seq = q; stage = InsertDeferred })) h l (sym (ap tree_window e)) (rw r (omega arith)) (λ f. let z : true ≡ false = f in absurd (let b : ⊥ = cc in b))

pub kept_inserted : (xs : List (Option Interval)) (windows : List (Option Pages)) (spare : ℕ) (noted room : Bool) (m : ℕ) (w : Pages) (q : ℕ) → IsKept xs windows spare noted room → room ≡ true → m < 32 → slice_index_or xs m None ≡ None
    → IsKept (slice_set xs m (Some (record { window = w; seq = q; stage = InTree }))) (slice_set windows m (Some w)) (spare - 1) noted false
kept_inserted xs windows spare noted room m w q h r l e =
    let v : Option Interval = Some (record { window = w; seq = q; stage = InTree }) in
    let enough = rw r at h.enough in
    kept_moved xs windows spare (spare - 1) noted noted room false m v h l (rw r (omega (arith, enough))) (λ f. quiet_set xs m v (h.quiet f) refl)

-- an interval goes
standing_window : (t : Stage) (v : Option Interval) → in_tree_state t ≡ true → stage_of v ≡ InTree → tree_window (with_stage t v) ≡ tree_window v
standing_window t None i e = refl
standing_window t (Some x) i e = rw (i, e) refl

leaving_coming : (v : Option Interval) → coming (with_stage RemoveDeferred v) ≡ 0
leaving_coming None = refl
leaving_coming (Some x) = refl

pub kept_leaving : (xs : List (Option Interval)) (windows : List (Option Pages)) (spare : ℕ) (noted room : Bool) (m : ℕ) → IsKept xs windows spare noted room → m < 32 → stage_of (slice_index_or xs m None) ≡ InTree
    → IsKept (slice_set xs m (with_stage RemoveDeferred (slice_index_or xs m None))) windows spare true room
kept_leaving xs windows spare noted room m h l e =
    let v = slice_index_or xs m None in
    kept_same xs windows spare noted true room room m (with_stage RemoveDeferred v) h l (standing_window RemoveDeferred v refl e) (omega (arith, leaving_coming v)) (λ f. let z : true ≡ false = f in absurd (let b : ⊥ = cc in b))

out_window : (v : Option Interval) → tree_window (with_stage Out v) ≡ None
out_window None = refl
out_window (Some x) = refl

out_coming : (v : Option Interval) → coming (with_stage Out v) ≡ 0
out_coming None = refl
out_coming (Some x) = refl

out_settled : (v : Option Interval) → settled (with_stage Out v) ≡ with_stage Out v
out_settled None = refl
out_settled (Some x) = refl

pub kept_removed : (xs : List (Option Interval)) (windows : List (Option Pages)) (spare : ℕ) (noted room : Bool) (m : ℕ) → IsKept xs windows spare noted room → m < 32
    → IsKept (slice_set xs m (with_stage Out (slice_index_or xs m None))) (slice_set windows m None) spare noted room
kept_removed xs windows spare noted room m h l =
    let v = slice_index_or xs m None in
    let moved = kept_moved xs windows spare spare noted noted room room m (with_stage Out v) h l (omega (arith, out_coming v)) (λ f. quiet_set xs m (with_stage Out v) (h.quiet f) (out_settled v)) in
    rw out_window at moved

pub kept_cancelled : (xs : List (Option Interval)) (windows : List (Option Pages)) (spare : ℕ) (noted room : Bool) (m : ℕ) → IsKept xs windows spare noted room → m < 32 → tree_window (slice_index_or xs m None) ≡ None
    → IsKept (slice_set xs m (with_stage Out (slice_index_or xs m None))) windows spare noted room
kept_cancelled xs windows spare noted room m h l e =
    let v = slice_index_or xs m None in
    kept_same xs windows spare noted noted room room m (with_stage Out v) h l (out_window v ∙ sym e) (omega (arith, out_coming v)) (λ f. quiet_set xs m (with_stage Out v) (h.quiet f) (out_settled v))

state_twice : (t : Stage) → settled_stage (settled_stage t) ≡ settled_stage t
state_twice InTree = refl
state_twice InsertDeferred = refl
state_twice RemoveDeferred = refl
state_twice Out = refl

value_twice : (v : Option Interval) → settled (settled v) ≡ settled v
value_twice None = refl
value_twice (Some x) = ap (λ (t : Stage). Some (record x { stage = t })) (state_twice x.stage)

-- one that is to come has room
pub room_for : (xs : List (Option Interval)) (windows : List (Option Pages)) (spare : ℕ) (noted room : Bool) (m : ℕ) → IsKept xs windows spare noted room → m < 32 → coming (slice_index_or xs m None) ≡ 1 → 1 ≤ spare
room_for xs windows spare noted room m h l e = omega (arith, get_or-le-sum_by coming xs m None (omega (arith, h.len)), h.enough)

-- what is due of one interval
pub record IsInsert (v : Option Interval) (w : Pages) : Type 0 where
  pub out : tree_window v ≡ None
  pub is_one : coming v ≡ 1
  pub comes : tree_window (settled v) ≡ Some w
  pub is_none : coming (settled v) ≡ 0

insert_in : (t : Stage) (x : Interval) (w : Pages) → x.stage ≡ t → due_in t x.window ≡ Insert w → IsInsert (Some x) w
insert_in InTree x w e d = cc
insert_in InsertDeferred x w e d = let same : x.window ≡ w = cc in record { out = rw e refl; is_one = rw e refl; comes = rw (e, same) refl; is_none = rw e refl }
insert_in RemoveDeferred x w e d = cc
insert_in Out x w e d = cc

pub is_insert : (v : Option Interval) (w : Pages) → due v ≡ Insert w → IsInsert v w
is_insert None w d = cc
is_insert (Some x) w d = insert_in x.stage x w refl d

pub settled_insert : (xs : List (Option Interval)) (windows : List (Option Pages)) (spare : ℕ) (noted room : Bool) (m : ℕ) (w : Pages) → IsKept xs windows spare noted room → m < 32 → due (slice_index_or xs m None) ≡ Insert w
    → IsKept (slice_set xs m (settled (slice_index_or xs m None))) (slice_set windows m (Some w)) (spare - 1) noted room
settled_insert xs windows spare noted room m w h l d =
    let v = slice_index_or xs m None in
    let i = is_insert v w d in
    let some = room_for xs windows spare noted room m h l i.is_one in
    let moved = kept_moved xs windows spare (spare - 1) noted noted room room m (settled v) h l (omega (arith, i.is_none, i.is_one, some)) (λ f. quiet_set xs m (settled v) (h.quiet f) (value_twice v)) in
    rw i.comes at moved

pub record IsRemove (v : Option Interval) : Type 0 where
  pub in_tree : is_some (tree_window v) ≡ true
  pub goes : tree_window (settled v) ≡ None
  pub is_none : coming (settled v) ≡ 0

remove_in : (t : Stage) (x : Interval) → x.stage ≡ t → due_in t x.window ≡ Remove → IsRemove (Some x)
remove_in InTree x e d = cc
remove_in InsertDeferred x e d = cc
remove_in RemoveDeferred x e d = record { in_tree = rw e refl; goes = rw e refl; is_none = rw e refl }
remove_in Out x e d = cc

pub is_remove : (v : Option Interval) → due v ≡ Remove → IsRemove v
is_remove None d = cc
is_remove (Some x) d = remove_in x.stage x refl d

pub settled_remove : (xs : List (Option Interval)) (windows : List (Option Pages)) (spare : ℕ) (noted room : Bool) (m : ℕ) → IsKept xs windows spare noted room → m < 32 → due (slice_index_or xs m None) ≡ Remove
    → IsKept (slice_set xs m (settled (slice_index_or xs m None))) (slice_set windows m None) spare noted room
settled_remove xs windows spare noted room m h l d =
    let v = slice_index_or xs m None in
    let i = is_remove v d in
    let moved = kept_moved xs windows spare spare noted noted room room m (settled v) h l (omega (arith, i.is_none)) (λ f. quiet_set xs m (settled v) (h.quiet f) (value_twice v)) in
    rw i.goes at moved

-- a read in range is the same for each default
pub any_default : (xs : List (Option Interval)) (i : ℕ) (d e : Option Interval) → i < length xs → slice_index_or xs i d ≡ slice_index_or xs i e
any_default [] i d e l = absurd (omega arith)
any_default (x ∷ xs) zero d e l = refl
any_default (x ∷ xs) (suc i) d e l = any_default xs i d e (omega arith)

pub read_at : (xs : List (Option Interval)) (i j : ℕ) (d : Option Interval) → length xs ≡ 32 → j ≡ i → i < 32 → slice_index_or xs j d ≡ slice_index_or xs i None
read_at xs i j d n e l = ap (λ k. slice_index_or xs k d) e ∙ any_default xs i d None (omega arith)

pub settled_twice : (xs : List (Option Interval)) → map settled (map settled xs) ≡ map settled xs
settled_twice [] = refl
settled_twice (x ∷ xs) = rw (value_twice x) (ap (λ (ys : List (Option Interval)). settled x ∷ ys) (settled_twice xs))
