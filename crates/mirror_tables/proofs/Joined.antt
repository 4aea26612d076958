-- The entries of blocks, one block after the other.
use Rattle.std.proofs.Common.{◌≡◌, ◌≢◌, ℕ, zero, suc, ◌+◌, ◌-◌, ◌/◌, ◌<◌, Bool, true, false, ◌&&◌, eqb, ltb, cond, Some, None, List, [], ◌∷◌, ◌++◌, length, map, set, get_or, refl, sym, ap, subst, ◌∙◌, arith}
use Rattle.std.specs.Prelude.{⊤}
use Rattle.std.specs.Ordering.{nat_cmp, eq_by_cmp}
use Rattle.std.specs.declared.cmp.Ordering.TheVariants.{Less, Equal, Greater}
use Rattle.std.specs.FinMap.Entries as sorted
use Rattle.std.proofs.lemmas.Bool.Decides.{nat_tests}
use Rattle.std.proofs.lemmas.List.Elements.{filter-append}
use Rattle.hm_base.specs.Pages.{Pages, covers}
use Rattle.mirror_tables.specs.Blocks.{Block}
use Rattle.mirror_tables.specs.Entries.{block_of}
use Rattle.mirror_tables.specs.Directory.{all_entries, in_block, AllKeys, IsBlockOf, block_at}
use Rattle.mirror_tables.specs.declared.entry.MirrorEntry.{MirrorEntry}
use Rattle.mirror_tables.proofs.Places.{less, other}

-- what a test of a block says
pub number_of : (a : Bool) (x k : ℕ) → (a && eqb x k) ≡ true → x ≡ k
number_of true x k e = grind (arith, nat_tests)
number_of false x k e = absurd (let b : ⊥ = cc in b)

pub covered : (a b : Bool) → (a && b) ≡ true → a ≡ true
covered true b e = refl
covered false b e = e

in_here : (a : Bool) (x k : ℕ) → a ≡ true → x ≡ k → (a && eqb x k) ≡ true
in_here true x k e f = grind (arith, nat_tests)
in_here false x k e f = absurd (let b : ⊥ = cc in b)

pub is_in_block : (w : Pages) (k p : ℕ) → covers w p ≡ true → block_of w p ≡ k → in_block w k p ≡ true
is_in_block w k p c e = in_here (covers w p) (block_of w p) k c e

-- the blocks from one number on
abbrev pub From : Pages → ℕ → List Block → Type 0
From w n [] = ⊤
From w n (b ∷ bs) = IsBlockOf w n b.entries × From w (suc n) bs

pub from_points : (w : Pages) (n : ℕ) (bs : List Block) → ((k : ℕ) → k < length bs → IsBlockOf w (n + k) (block_at bs k).entries) → From w n bs
from_points w n [] h = tt
from_points w n (b ∷ bs) h =
    let first : n + 0 ≡ n = omega arith in
    (subst (λ i. IsBlockOf w i b.entries) first (h 0 (omega arith)), from_points w (suc n) bs (λ k l. subst (λ i. IsBlockOf w i (block_at bs k).entries) (next k) (h (suc k) (omega arith))))
  where
    next : (k : ℕ) → n + suc k ≡ suc n + k
    next k = omega arith

-- a look-up
past : (q k : ℕ) (v : MirrorEntry) (es : List (ℕ × MirrorEntry)) → q ≢ k → sorted.find nat_cmp q ((k, v) ∷ es) ≡ sorted.find nat_cmp q es
past q k v es d = grind (arith, nat_tests)

find_none : (w : Pages) (k p : ℕ) (es : List (ℕ × MirrorEntry)) → AllKeys (in_block w k) es → block_of w p ≢ k → sorted.find nat_cmp p es ≡ None
find_none w k p [] h d = refl
find_none w k p (x ∷ es) h d = past p x.0 x.1 es (λ e. d (ap (block_of w) e ∙ number_of (covers w x.0) (block_of w x.0) k h.0)) ∙ find_none w k p es h.1 d

find_left : (p : ℕ) (xs ys : List (ℕ × MirrorEntry)) → sorted.find nat_cmp p ys ≡ None → sorted.find nat_cmp p (xs ++ ys) ≡ sorted.find nat_cmp p xs
find_left p [] ys h = h
find_left p (x ∷ xs) ys h = ap (cond (eq_by_cmp nat_cmp p x.0) (Some x.1)) (find_left p xs ys h)

find_right : (p : ℕ) (xs ys : List (ℕ × MirrorEntry)) → sorted.find nat_cmp p xs ≡ None → sorted.find nat_cmp p (xs ++ ys) ≡ sorted.find nat_cmp p ys
find_right p [] ys h = refl
find_right p (x ∷ xs) ys h = by (eq_by_cmp nat_cmp p x.0) h (find_right p xs ys)
  where
    by : (t : Bool) → cond t (Some x.1) (sorted.find nat_cmp p xs) ≡ None → (sorted.find nat_cmp p xs ≡ None → sorted.find nat_cmp p (xs ++ ys) ≡ sorted.find nat_cmp p ys) → cond t (Some x.1) (sorted.find nat_cmp p (xs ++ ys)) ≡ sorted.find nat_cmp p ys
    by true e r = absurd (let b : ⊥ = cc in b)
    by false e r = r e

none_from : (w : Pages) (n p : ℕ) (bs : List Block) → From w n bs → block_of w p < n → sorted.find nat_cmp p (all_entries bs) ≡ None
none_from w n p [] h l = refl
none_from w n p (b ∷ bs) h l = find_right p b.entries (all_entries bs) (find_none w n p b.entries h.0.here (λ e. absurd (omega arith))) ∙ none_from w (suc n) p bs h.1 (omega arith)

pub find_all : (w : Pages) (n p j : ℕ) (bs : List Block) → From w n bs → block_of w p ≡ n + j → sorted.find nat_cmp p (all_entries bs) ≡ sorted.find nat_cmp p (block_at bs j).entries
find_all w n p zero [] h e = refl
find_all w n p (suc j) [] h e = refl
find_all w n p zero (b ∷ bs) h e = find_left p b.entries (all_entries bs) (none_from w (suc n) p bs h.1 (omega arith))
find_all w n p (suc j) (b ∷ bs) h e = find_right p b.entries (all_entries bs) (find_none w n p b.entries h.0.here (λ z. absurd (omega arith))) ∙ find_all w (suc n) p j bs h.1 (omega arith)

-- an entry is put in
abbrev Above : ℕ → List (ℕ × MirrorEntry) → Type 0
Above p [] = ⊤
Above p (e ∷ es) = (p < e.0) × Above p es

abbrev Below : ℕ → List (ℕ × MirrorEntry) → Type 0
Below p [] = ⊤
Below p (e ∷ es) = (e.0 < p) × Below p es

above_of : (w : Pages) (k p : ℕ) (es : List (ℕ × MirrorEntry)) → AllKeys (in_block w k) es → block_of w p < k → Above p es
above_of w k p [] h l = tt
above_of w k p (x ∷ es) h l = (apart w.first x.0 p (number_of (covers w x.0) (block_of w x.0) k h.0) l, above_of w k p es h.1 l)
  where
    apart : (f x p : ℕ) → (x - f) / 256 ≡ k → (p - f) / 256 < k → p < x
    apart f x p e l = omega arith

below_of : (w : Pages) (k p : ℕ) (es : List (ℕ × MirrorEntry)) → AllKeys (in_block w k) es → k < block_of w p → Below p es
below_of w k p [] h l = tt
below_of w k p (x ∷ es) h l = (apart w.first x.0 p (number_of (covers w x.0) (block_of w x.0) k h.0) l, below_of w k p es h.1 l)
  where
    apart : (f x p : ℕ) → (x - f) / 256 ≡ k → k < (p - f) / 256 → x < p
    apart f x p e l = omega arith

above_append : (p : ℕ) (xs ys : List (ℕ × MirrorEntry)) → Above p xs → Above p ys → Above p (xs ++ ys)
above_append p [] ys h g = g
above_append p (x ∷ xs) ys h g = (h.0, above_append p xs ys h.1 g)

above_from : (w : Pages) (n p : ℕ) (bs : List Block) → From w n bs → block_of w p < n → Above p (all_entries bs)
above_from w n p [] h l = tt
above_from w n p (b ∷ bs) h l = above_append p b.entries (all_entries bs) (above_of w n p b.entries h.0.here l) (above_from w (suc n) p bs h.1 (omega arith))

not_less : (a b : ℕ) → b < a → ltb a b ≡ false
not_less a b l = grind (arith, nat_tests)

put_left : (p : ℕ) (e : MirrorEntry) (xs ys : List (ℕ × MirrorEntry)) → Above p ys → sorted.put nat_cmp p e (xs ++ ys) ≡ sorted.put nat_cmp p e xs ++ ys
put_left p e [] [] h = refl
put_left p e [] (y ∷ ys) h = rw (less p y.0 h.0) refl
put_left p e (x ∷ xs) ys h = by (nat_cmp p x.0) (put_left p e xs ys h)
  where
    by : (r : _) → sorted.put nat_cmp p e (xs ++ ys) ≡ sorted.put nat_cmp p e xs ++ ys → sorted.by_order r ((p, e) ∷ x ∷ (xs ++ ys)) ((x.0, e) ∷ (xs ++ ys)) (x ∷ sorted.put nat_cmp p e (xs ++ ys)) ≡ sorted.by_order r ((p, e) ∷ x ∷ xs) ((x.0, e) ∷ xs) (x ∷ sorted.put nat_cmp p e xs) ++ ys
    by Less i = refl
    by Equal i = refl
    by Greater i = ap (λ l. x ∷ l) i

put_right : (p : ℕ) (e : MirrorEntry) (xs ys : List (ℕ × MirrorEntry)) → Below p xs → sorted.put nat_cmp p e (xs ++ ys) ≡ xs ++ sorted.put nat_cmp p e ys
put_right p e [] ys h = refl
put_right p e (x ∷ xs) ys h = rw (not_less p x.0 h.0, other p x.0 h.0) (ap (λ l. x ∷ l) (put_right p e xs ys h.1))

pub put_all : (w : Pages) (n p j : ℕ) (e : MirrorEntry) (b : Block) (bs : List Block) → From w n bs → block_of w p ≡ n + j → j < length bs → b.entries ≡ sorted.put nat_cmp p e (block_at bs j).entries →
    all_entries (set bs j b) ≡ sorted.put nat_cmp p e (all_entries bs)
put_all w n p j e b [] h q l c = absurd (omega arith)
put_all w n p zero e b (x ∷ bs) h q l c = ap (λ es. es ++ all_entries bs) c ∙ sym (put_left p e x.entries (all_entries bs) (above_from w (suc n) p bs h.1 (omega arith)))
put_all w n p (suc j) e b (x ∷ bs) h q l c = ap (λ es. x.entries ++ es) (put_all w (suc n) p j e b bs h.1 (omega arith) (omega arith) c)
    ∙ sym (put_right p e x.entries (all_entries bs) (below_of w n p x.entries h.0.here (omega arith)))

-- entries are taken away
pub where_all : (test : ℕ → Bool) (bs cs : List Block) → length cs ≡ length bs → ((k : ℕ) → k < length bs → (block_at cs k).entries ≡ sorted.where_key nat_cmp test (block_at bs k).entries) →
    all_entries cs ≡ sorted.where_key nat_cmp test (all_entries bs)
where_all test [] [] e h = refl
where_all test [] (c ∷ cs) e h = absurd (omega arith)
where_all test (b ∷ bs) [] e h = absurd (omega arith)
where_all test (b ∷ bs) (c ∷ cs) e h = ap (λ es. es ++ all_entries cs) (h 0 (omega arith))
    ∙ (ap (λ es. sorted.where_key nat_cmp test b.entries ++ es) (where_all test bs cs (omega arith) (λ k l. h (suc k) (omega arith)))
    ∙ sym (filter-append (λ (x : ℕ × MirrorEntry). test x.0) b.entries (all_entries bs)))

pub where_same : (here test : ℕ → Bool) (es : List (ℕ × MirrorEntry)) → AllKeys here es → ((v : ℕ) → here v ≡ true → test v ≡ true) → sorted.where_key nat_cmp test es ≡ es
where_same here test [] h t = refl
where_same here test (x ∷ es) h t = rw (t x.0 h.0) (ap (λ l. x ∷ l) (where_same here test es h.1 t))

-- the keys of a block that is changed
pub all_where : (here test : ℕ → Bool) (es : List (ℕ × MirrorEntry)) → AllKeys here es → AllKeys here (sorted.where_key nat_cmp test es)
all_where here test [] h = tt
all_where here test (x ∷ es) h = by (test x.0) (all_where here test es h.1)
  where
    by : (t : Bool) → AllKeys here (sorted.where_key nat_cmp test es) → AllKeys here (cond t (x ∷ sorted.where_key nat_cmp test es) (sorted.where_key nat_cmp test es))
    by true r = (h.0, r)
    by false r = r

pub all_put : (here : ℕ → Bool) (p : ℕ) (e : MirrorEntry) (es : List (ℕ × MirrorEntry)) → AllKeys here es → here p ≡ true → AllKeys here (sorted.put nat_cmp p e es)
all_put here p e [] h t = (t, tt)
all_put here p e (x ∷ es) h t = by (nat_cmp p x.0) (all_put here p e es h.1 t)
  where
    by : (r : _) → AllKeys here (sorted.put nat_cmp p e es) → AllKeys here (sorted.by_order r ((p, e) ∷ x ∷ es) ((x.0, e) ∷ es) (x ∷ sorted.put nat_cmp p e es))
    by Less i = (t, h)
    by Equal i = h
    by Greater i = (h.0, i)

-- blocks with the same entries
pub all_same : (bs cs : List Block) → ((k : ℕ) → (block_at cs k).entries ≡ (block_at bs k).entries) → all_entries cs ≡ all_entries bs
all_same [] [] h = refl
all_same [] (c ∷ cs) h = ap (λ es. es ++ all_entries cs) (h 0) ∙ all_same [] cs (λ k. h (suc k) ∙ none k)
  where
    none : (k : ℕ) → (block_at [] (suc k)).entries ≡ (block_at [] k).entries
    none zero = refl
    none (suc k) = refl
all_same (b ∷ bs) [] h = ap (λ es. es ++ all_entries []) (h 0) ∙ by (all_same bs [] (λ k. none k ∙ h (suc k)))
  where
    none : (k : ℕ) → (block_at [] k).entries ≡ (block_at [] (suc k)).entries
    none zero = refl
    none (suc k) = refl

    by : all_entries [] ≡ all_entries bs → b.entries ++ all_entries [] ≡ b.entries ++ all_entries bs
    by r = ap (λ es. b.entries ++ es) r
all_same (b ∷ bs) (c ∷ cs) h = ap (λ es. es ++ all_entries cs) (h 0) ∙ ap (λ es. b.entries ++ es) (all_same bs cs (λ k. h (suc k)))

-- the room of a block
pub room_in : (bs : List Block) (k : ℕ) → get_or (map (λ (b : Block). b.room) bs) k 0 ≡ (block_at bs k).room
room_in [] zero = refl
room_in [] (suc k) = refl
room_in (b ∷ bs) zero = refl
room_in (b ∷ bs) (suc k) = room_in bs k
