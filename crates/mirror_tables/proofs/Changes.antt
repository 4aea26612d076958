-- The table after a change of its blocks.
use Rattle.std.proofs.Common.{◌≡◌, ◌≢◌, ℕ, zero, suc, ◌+◌, ◌-◌, ◌/◌, ◌<◌, ◌≤◌, true, false, not, ◌&&◌, ltb, leb, Result, Ok, Err, MatchResult, Option, None, List, [], ◌∷◌, length, set, get_or, refl, sym, ap, subst, ◌∙◌, arith, ◌⊎◌, inl, inr}
use Rattle.std.specs.Ordering.{nat_cmp}
use Rattle.std.specs.FinMap.Entries as sorted
use Rattle.std.proofs.lemmas.Bool.{cases_eq, cases_lt}
use Rattle.std.proofs.lemmas.Bool.Decides.{nat_tests}
use Rattle.std.proofs.lemmas.List.{length-set, get_or-set_same, get_or-set_other}
use Rattle.hm_base.specs.Pages.{Pages, covers}
use Rattle.mirror_tables.specs.Blocks.{Block, empty_block, IsBlock}
use Rattle.mirror_tables.specs.Entries.{Table, entry_at, with_entry, without_span, changed, block_of, room_at}
use Rattle.mirror_tables.specs.Directory.{all_entries, rooms_of, table_of, in_block, AllKeys, IsBlockOf, block_at, IsDirectory, IsRoomier, IsErased}
use Rattle.mirror_tables.specs.declared.entry.MirrorEntry.{MirrorEntry}
use Rattle.mirror_tables.proofs.Joined.{From, from_points, is_in_block, number_of, find_all, put_all, where_all, where_same, all_where, all_put, all_same, room_in}

pub from_start : (w : Pages) (bs : List Block) → IsDirectory w bs → From w 0 bs
from_start w bs h = from_points w 0 bs (λ k l. subst (λ i. IsBlockOf w i (block_at bs k).entries) (same k) (h k l))
  where
    same : (k : ℕ) → k ≡ 0 + k
    same k = omega arith

-- a block that is read
same_at : (bs : List Block) (k : ℕ) (d e : Block) → k < length bs → get_or bs k d ≡ get_or bs k e
same_at [] k d e l = absurd (omega arith)
same_at (b ∷ bs) zero d e l = refl
same_at (b ∷ bs) (suc k) d e l = same_at bs k d e (omega arith)

pub block_is : (bs : List Block) (k : ℕ) (b : Block) → k < length bs → b ≡ get_or bs k b → b ≡ block_at bs k
block_is bs k b l e = e ∙ same_at bs k b empty_block l

past_end : (bs : List Block) (k : ℕ) → length bs ≤ k → block_at bs k ≡ empty_block
past_end [] zero l = refl
past_end [] (suc k) l = refl
past_end (b ∷ bs) zero l = absurd (omega arith)
past_end (b ∷ bs) (suc k) l = past_end bs k (omega arith)

find_here : (w : Pages) (bs : List Block) (p k : ℕ) → IsDirectory w bs → k ≡ block_of w p → sorted.find nat_cmp p (block_at bs k).entries ≡ sorted.find nat_cmp p (all_entries bs)
find_here w bs p k h e = sym (find_all w 0 p k bs (from_start w bs h) (omega arith))

pub found : (w : Pages) (bs : List Block) (t : Table) (p k : ℕ) (b : Block) (r : Option MirrorEntry) → table_of w bs ≡ t → IsDirectory w bs → k ≡ block_of w p → b ≡ block_at bs k → r ≡ sorted.find nat_cmp p b.entries → r ≡ entry_at t p
found w bs t p k b r v h e q f = f ∙ (ap (λ (x : Block). sorted.find nat_cmp p x.entries) q ∙ (find_here w bs p k h e ∙ ap (λ (x : Table). entry_at x p) v))

pub not_found : (w : Pages) (bs : List Block) (t : Table) (p k : ℕ) → table_of w bs ≡ t → IsDirectory w bs → k ≡ block_of w p → length bs ≤ k → None ≡ entry_at t p
not_found w bs t p k v h e l = ap (λ (x : Block). sorted.find nat_cmp p x.entries) (sym (past_end bs k l)) ∙ (find_here w bs p k h e ∙ ap (λ (x : Table). entry_at x p) v)

-- a block that is written
here : (bs : List Block) (at : ℕ) (b : Block) → at < length bs → block_at (set bs at b) at ≡ b
here bs at b l = get_or-set_same bs at b empty_block l

else_at : (bs : List Block) (at k : ℕ) (b : Block) → k ≢ at → block_at (set bs at b) k ≡ block_at bs k
else_at bs at k b d = get_or-set_other bs at k b empty_block d

pub set_directory : (w : Pages) (bs : List Block) (at p : ℕ) (e : MirrorEntry) (b : Block) → IsDirectory w bs → at < length bs → covers w p ≡ true → at ≡ block_of w p → b.entries ≡ sorted.put nat_cmp p e (block_at bs at).entries → IsBlock b.entries → IsDirectory w (set bs at b)
set_directory w bs at p e b h l c q f r k m = by (cases_eq k at)
  where
    new : IsBlockOf w at b.entries
    new = record { rising = r; here = subst (AllKeys (in_block w at)) (sym f) (all_put (in_block w at) p e (block_at bs at).entries ((h at l).here) (is_in_block w at p c (sym q))) }

    by : (k ≡ at) ⊎ (k ≢ at) → IsBlockOf w k (block_at (set bs at b) k).entries
    by (inl z) = subst (λ i. IsBlockOf w i (block_at (set bs at b) i).entries) (sym z) (subst (λ (x : Block). IsBlockOf w at x.entries) (sym (here bs at b l)) new)
    by (inr d) = subst (λ (x : Block). IsBlockOf w k x.entries) (sym (else_at bs at k b d)) (h k (omega (arith, length-set bs at b)))

pub set_table : (w : Pages) (bs : List Block) (t : Table) (at p : ℕ) (e : MirrorEntry) (b : Block) → table_of w bs ≡ t → IsDirectory w bs → at < length bs → at ≡ block_of w p → b.entries ≡ sorted.put nat_cmp p e (block_at bs at).entries →
    table_of w (set bs at b) ≡ changed t (with_entry t p e) (rooms_of (set bs at b))
set_table w bs t at p e b v h l q f = subst (λ (x : Table). table_of w (set bs at b) ≡ changed x (with_entry x p e) (rooms_of (set bs at b))) v
    (ap (λ es. changed (table_of w bs) es (rooms_of (set bs at b))) (put_all w 0 p at e b bs (from_start w bs h) (omega arith) l f))

pub set_rooms : (w : Pages) (bs : List Block) (t : Table) (at : ℕ) (b : Block) → table_of w bs ≡ t → at < length bs → (block_at bs at).room ≤ b.room + 1 → (v : ℕ) → room_at t v ≤ room_at (table_of w (set bs at b)) v + 1
set_rooms w bs t at b e l m v = subst (λ (x : Table). room_at x v ≤ room_at (table_of w (set bs at b)) v + 1) e (by (block_of w v) (cases_eq (block_of w v) at))
  where
    by : (k : ℕ) → (k ≡ at) ⊎ (k ≢ at) → get_or (rooms_of bs) k 0 ≤ get_or (rooms_of (set bs at b)) k 0 + 1
    by k (inl z) = let x : block_at (set bs at b) k ≡ b = ap (block_at (set bs at b)) z ∙ here bs at b l in
        let y : (block_at bs k).room ≡ (block_at bs at).room = ap (λ i. (block_at bs i).room) z in
        rw (room_in bs k, room_in (set bs at b) k, x, y) m
    by k (inr d) = rw (room_in bs k, room_in (set bs at b) k, else_at bs at k b d) (plus (block_at bs k).room)
      where
        plus : (n : ℕ) → n ≤ n + 1
        plus n = omega arith

pub roomy : (bs : List Block) (k : ℕ) → 1 ≤ get_or (rooms_of bs) k 0 → k < length bs
roomy [] zero l = absurd (omega arith)
roomy [] (suc k) l = absurd (omega arith)
roomy (b ∷ bs) zero l = omega arith
roomy (b ∷ bs) (suc k) l = let r = roomy bs k l in omega (arith, r)

pub roomy_at : (w : Pages) (bs : List Block) (t : Table) (p k : ℕ) → table_of w bs ≡ t → k ≡ block_of w p → 1 ≤ room_at t p → k < length bs
roomy_at w bs t p k v e l = roomy bs k (subst (λ i. 1 ≤ get_or (rooms_of bs) i 0) (sym e) (subst (λ (x : Table). 1 ≤ room_at x p) (sym v) l))

-- blocks with more room
roomier_table : (w : Pages) (at : ℕ) (bs cs : List Block) (t : Table) → table_of w bs ≡ t → IsRoomier at bs cs → table_of w cs ≡ changed t t.entries (rooms_of cs)
roomier_table w at bs cs t v r = subst (λ (x : Table). table_of w cs ≡ changed x x.entries (rooms_of cs)) v (ap (λ es. changed (table_of w bs) es (rooms_of cs)) (all_same bs cs r.entries))

roomier_rooms : (w : Pages) (at : ℕ) (bs cs : List Block) (t : Table) → table_of w bs ≡ t → IsRoomier at bs cs → (v : ℕ) → room_at t v ≤ room_at (table_of w cs) v
roomier_rooms w at bs cs t e r v = subst (λ (x : Table). room_at x v ≤ room_at (table_of w cs) v) e (by (block_of w v))
  where
    by : (k : ℕ) → get_or (rooms_of bs) k 0 ≤ get_or (rooms_of cs) k 0
    by k = rw (room_in bs k, room_in cs k) (r.rooms k)

-- what a call that makes room does
pub reserved_table : {T E : Type 0} (r : Result T E) (w : Pages) (at : ℕ) (bs cs : List Block) (t : Table) → table_of w bs ≡ t → MatchResult r (λ _. IsRoomier at bs cs) (λ _. cs ≡ bs) → table_of w cs ≡ changed t t.entries (rooms_of cs)
reserved_table (Ok x) w at bs cs t v r = roomier_table w at bs cs t v r
reserved_table (Err x) w at bs cs t v e = subst (λ ds. table_of w ds ≡ changed t t.entries (rooms_of ds)) (sym e) (subst (λ (x : Table). table_of w bs ≡ changed x x.entries (rooms_of bs)) v refl)

pub reserved_rooms : {T E : Type 0} (r : Result T E) (w : Pages) (at : ℕ) (bs cs : List Block) (t : Table) → table_of w bs ≡ t → MatchResult r (λ _. IsRoomier at bs cs) (λ _. cs ≡ bs) → (v : ℕ) → room_at t v ≤ room_at (table_of w cs) v
reserved_rooms (Ok x) w at bs cs t e r v = roomier_rooms w at bs cs t e r v
reserved_rooms (Err x) w at bs cs t e q v = rw (sym e, q) (self (room_at (table_of w bs) v))
  where
    self : (n : ℕ) → n ≤ n
    self n = omega arith

-- entries are taken away from some blocks
erased_here : (w s : Pages) (from upto : ℕ) (bs cs : List Block) → IsDirectory w bs → IsErased s from upto bs cs → from ≡ block_of w s.first → upto ≡ block_of w (s.first + s.count - 1) + 1 → 1 ≤ s.count →
    (k : ℕ) → k < length bs → (block_at cs k).entries ≡ sorted.where_key nat_cmp (λ v. not (covers s v)) (block_at bs k).entries
erased_here w s from upto bs cs h r e f n k l = by (cases_lt k from) (cases_lt k upto)
  where
    out : (v : ℕ) → (leb s.first v && ltb v (s.first + s.count)) ≡ false → not (covers s v) ≡ true
    out v z = ap not z

    before : (v : ℕ) → v < s.first → (leb s.first v && ltb v (s.first + s.count)) ≡ false
    before v l = grind (arith, nat_tests)

    behind : (v : ℕ) → s.first + s.count ≤ v → (leb s.first v && ltb v (s.first + s.count)) ≡ false
    behind v l = grind (arith, nat_tests)

    low : k < from → (v : ℕ) → in_block w k v ≡ true → not (covers s v) ≡ true
    low l v z = out v (before v (apart v (number_of (covers w v) (block_of w v) k z)))
      where
        apart : (v : ℕ) → (v - w.first) / 256 ≡ k → v < s.first
        apart v q = omega arith

    high : upto ≤ k → (v : ℕ) → in_block w k v ≡ true → not (covers s v) ≡ true
    high l v z = out v (behind v (apart v (number_of (covers w v) (block_of w v) k z)))
      where
        apart : (v : ℕ) → (v - w.first) / 256 ≡ k → s.first + s.count ≤ v
        apart v q = omega arith

    kept : block_at cs k ≡ block_at bs k → ((v : ℕ) → in_block w k v ≡ true → not (covers s v) ≡ true) → (block_at cs k).entries ≡ sorted.where_key nat_cmp (λ v. not (covers s v)) (block_at bs k).entries
    kept z t = ap (λ (x : Block). x.entries) z ∙ sym (where_same (in_block w k) (λ v. not (covers s v)) (block_at bs k).entries ((h k l).here) t)

    by : (k < from) ⊎ (from ≤ k) → (k < upto) ⊎ (upto ≤ k) → (block_at cs k).entries ≡ sorted.where_key nat_cmp (λ v. not (covers s v)) (block_at bs k).entries
    by (inl a) b = kept (r.below k a) (low a)
    by (inr a) (inr b) = kept (r.above k b) (high b)
    by (inr a) (inl b) = (r.within k a b l).entries

pub erased_table : (w s : Pages) (from upto : ℕ) (bs cs : List Block) (t : Table) → table_of w bs ≡ t → IsDirectory w bs → IsErased s from upto bs cs → from ≡ block_of w s.first → upto ≡ block_of w (s.first + s.count - 1) + 1 → 1 ≤ s.count →
    table_of w cs ≡ changed t (without_span t s) (rooms_of cs)
erased_table w s from upto bs cs t v h r e f n = subst (λ (x : Table). table_of w cs ≡ changed x (without_span x s) (rooms_of cs)) v
    (ap (λ es. changed (table_of w bs) es (rooms_of cs)) (where_all (λ v. not (covers s v)) bs cs r.len (erased_here w s from upto bs cs h r e f n)))

pub erased_directory : (w s : Pages) (from upto : ℕ) (bs cs : List Block) → IsDirectory w bs → IsErased s from upto bs cs → IsDirectory w cs
erased_directory w s from upto bs cs h r k l = by (cases_lt k from) (cases_lt k upto)
  where
    old : IsBlockOf w k (block_at bs k).entries
    old = h k (omega (arith, r.len))

    by : (k < from) ⊎ (from ≤ k) → (k < upto) ⊎ (upto ≤ k) → IsBlockOf w k (block_at cs k).entries
    by (inl a) b = subst (λ (x : Block). IsBlockOf w k x.entries) (sym (r.below k a)) old
    by (inr a) (inr b) = subst (λ (x : Block). IsBlockOf w k x.entries) (sym (r.above k b)) old
    by (inr a) (inl b) = let x = r.within k a b (omega (arith, r.len)) in
        record { rising = x.rising; here = subst (AllKeys (in_block w k)) (sym x.entries) (all_where (in_block w k) (λ v. not (covers s v)) (block_at bs k).entries old.here) }

pub erased_rooms : (w s : Pages) (from upto : ℕ) (bs cs : List Block) (t : Table) → table_of w bs ≡ t → IsErased s from upto bs cs → (v : ℕ) → room_at t v ≤ room_at (table_of w cs) v
erased_rooms w s from upto bs cs t e r v = subst (λ (x : Table). room_at x v ≤ room_at (table_of w cs) v) e (by (block_of w v) (cases_lt (block_of w v) from) (cases_lt (block_of w v) upto) (cases_lt (block_of w v) (length bs)))
  where
    self : (n : ℕ) → n ≤ n
    self n = omega arith

    by : (k : ℕ) → (k < from) ⊎ (from ≤ k) → (k < upto) ⊎ (upto ≤ k) → (k < length bs) ⊎ (length bs ≤ k) → get_or (rooms_of bs) k 0 ≤ get_or (rooms_of cs) k 0
    by k (inl a) b c = rw (room_in bs k, room_in cs k, r.below k a) (self (block_at bs k).room)
    by k (inr a) (inr b) c = rw (room_in bs k, room_in cs k, r.above k b) (self (block_at bs k).room)
    by k (inr a) (inl b) (inl c) = rw (room_in bs k, room_in cs k) (r.within k a b c).room
    by k (inr a) (inl b) (inr c) = rw (room_in bs k, past_end bs k c) (omega arith)
