-- Tables that are made change no word.
use Rattle.std.proofs.Common.{true, false, ◌≡◌, ◌≢◌, ℕ, ◌+◌, ◌*◌, ◌/◌, ◌%◌, ◌^◌, ◌<◌, ◌≤◌, List, [], ◌∷◌, ◌++◌, length, eqb, cond, max, get_or, set, sym, ap, subst, ◌∙◌, arith, ◌⊎◌, inl, inr}
use Rattle.std.proofs.lemmas.Bool.{cases_eq}
use Rattle.std.proofs.lemmas.Bool.Decides.{nat_tests}
use Rattle.std.proofs.Common.{Result, Ok, Err, MatchResult, OnOk, OnErr}
use Rattle.radix_tables.specs.Maps.{is_marked}
use Rattle.std.proofs.lemmas.List.{get_or-set_same, get_or-set_other, length-set}
use Rattle.radix_tables.specs.Walks.{table_in, entry_in, IsWhole, AreTables, HasTable, IsLonger, IsFirst, IsChild}
use Rattle.radix_tables.specs.Rows.{Words, IsRoomMade}
use Rattle.radix_tables.specs.Levels.{IsLevels, IsSame, IsMade, AreBits, is_used, from_second, from_third, from_fourth, from_fifth, from_sixth, room_of, word_of}
use Rattle.radix_tables.specs.declared.levels.Levels.{Levels}
use Rattle.radix_tables.proofs.Tables.{Same, same_with, same_up, child_walk, child_whole, child_above, child_levels, first_above, first_same, deep_same, deep_tables, above_room, above_none, above_some, table_first, table_inside, one_number}
use Rattle.radix_tables.proofs.RowWords.{within}
use Rattle.radix_tables.proofs.TableBits.{bits_longer, bits_child}

pub same_over : (l m n : Levels) → IsSame l m → IsSame m n → IsSame l n
same_over l m n p q = record { levels = q.levels; words = λ v. q.words v ∙ p.words v; room = λ v. q.room v ∙ p.room v }

-- a page with room has a table
pub room_has : (l : Levels) (page : ℕ) → IsLevels l → room_of l page ≢ 0 → HasTable l.words.items (from_second l) (page / 64)
room_has l page h d = (λ z. d (above_none l.words.room (from_second l) page h.room z), h.words.first (omega (arith, h.long, within l.words.room _ d)))

-- levels with the same words below other tables
built : (l m : Levels) → IsLevels l → m.words ≡ l.words → AreBits is_used l.words.items m.used.items → AreBits is_marked l.words.items m.marks.items →
    AreTables (length l.words.items) (from_second m) → Same (from_second m) (from_second l) → IsSame l m
built l m h w j k t s = record {
  levels = record {
    words = subst (λ (z : Words). IsWhole z.items) (sym w) h.words;
    room = subst (λ (z : Words). IsWhole z.room) (sym w) h.room;
    long = subst (λ (z : Words). length z.room ≡ length z.items) (sym w) h.long;
    tables = subst (λ (z : Words). AreTables (length z.items) (from_second m)) (sym w) t;
    used = subst (λ (z : Words). AreBits is_used z.items m.used.items) (sym w) j;
    marks = subst (λ (z : Words). AreBits is_marked z.items m.marks.items) (sym w) k;
  };
  words = same_with l.words.items m.words.items (from_second l) (from_second m) (λ i. ap (λ (z : Words). get_or z.items i 0) w) s;
  room = same_with l.words.room m.words.room (from_second l) (from_second m) (λ i. ap (λ (z : Words). get_or z.room i 0) w) s;
}

-- there is more room for bits
pub bits_same : (l m : Levels) → IsLevels l → m.words ≡ l.words → from_second m ≡ from_second l → AreBits is_used l.words.items m.used.items → AreBits is_marked l.words.items m.marks.items → IsSame l m
bits_same l m h w e j k = built l m h w j k (subst (AreTables (length l.words.items)) (sym e) h.tables) (λ n. ap (λ (zs : List (List ℕ)). table_in zs n) e)

-- a table comes in at a level
pub child_same : (l m : Levels) (lower : List (List ℕ)) (xs ys below now : List ℕ) (a : List (List ℕ)) (at : ℕ) → IsLevels l → from_second l ≡ lower ++ (below ∷ xs ∷ a) → from_second m ≡ lower ++ (now ∷ ys ∷ a) →
    m.words ≡ l.words → m.used.items ≡ l.used.items → m.marks.items ≡ l.marks.items → IsWhole below → (64 ≤ at) × (at < length xs) → IsChild xs ys below now at → IsSame l m
child_same l m lower xs ys below now a at h e f w j k b p c = built l m h w (rw j h.used) (rw k h.marks) tables same
  where
    tables : AreTables (length l.words.items) (from_second m)
    tables = subst (AreTables (length l.words.items)) (sym f) (deep_tables lower (below ∷ xs ∷ a) (now ∷ ys ∷ a) (length l.words.items) (λ n t. child_levels xs ys below now a n at t p.0 p.1 c) (subst (AreTables (length l.words.items)) e h.tables))

    same : Same (from_second m) (from_second l)
    same = subst (λ (zs : List (List ℕ)). Same zs (from_second l)) (sym f) (subst (Same (lower ++ (now ∷ ys ∷ a))) (sym e)
        (deep_same lower (below ∷ xs ∷ a) (now ∷ ys ∷ a) (same_up below now (xs ∷ a) (ys ∷ a) (child_walk xs ys below now a at b c))))

-- the first table of a level comes in
pub first_levels : (l m : Levels) (lower : List (List ℕ)) (xs ys : List ℕ) (a : List (List ℕ)) → IsLevels l → from_second l ≡ lower ++ (xs ∷ a) → from_second m ≡ lower ++ (ys ∷ a) →
    m.words ≡ l.words → m.used.items ≡ l.used.items → m.marks.items ≡ l.marks.items → IsLonger xs ys → IsWhole ys → length xs ≤ length ys → length ys ≤ max (length xs) 128 → IsSame l m
first_levels l m lower xs ys a h e f w j k g v r q = built l m h w (rw j h.used) (rw k h.marks) tables same
  where
    tables : AreTables (length l.words.items) (from_second m)
    tables = subst (AreTables (length l.words.items)) (sym f) (deep_tables lower (xs ∷ a) (ys ∷ a) (length l.words.items) (λ n t. first_above xs ys a n g v r q t) (subst (AreTables (length l.words.items)) e h.tables))

    same : Same (from_second m) (from_second l)
    same = subst (λ (zs : List (List ℕ)). Same zs (from_second l)) (sym f) (subst (Same (lower ++ (ys ∷ a))) (sym e) (deep_same lower (xs ∷ a) (ys ∷ a) (same_up xs ys a a (first_same xs ys a g))))

pub first_has : (ys : List ℕ) (a : List (List ℕ)) (n : ℕ) → n ≡ 0 → 128 ≤ length ys → HasTable ys a n
first_has ys a n e l = (λ z. absurd (omega (arith, table_first a n e, z)), l)

-- the first table of words comes in
first_made : (l m : Levels) → IsLevels l → from_second m ≡ from_second l → m.used.items ≡ l.used.items → m.marks.items ≡ l.marks.items →
    IsFirst l.words.items m.words.items × IsFirst l.words.room m.words.room × (length m.words.room ≡ length m.words.items) →
    length m.words.items ≤ 64 * length l.used.items → length m.words.items ≤ 64 * length l.marks.items → IsSame l m
first_made l m h e j k g u v = record {
  levels = record {
    words = g.0.whole;
    room = g.1.whole;
    long = g.2;
    tables = subst (AreTables (length m.words.items)) (sym e) (above_room (from_second l) (length l.words.items) (length m.words.items) h.tables g.0.more g.0.few);
    used = rw j (bits_longer is_used h.used g.0.longer u);
    marks = rw k (bits_longer is_marked h.marks g.0.longer v);
  };
  words = λ n. ap (λ (zs : List (List ℕ)). entry_in m.words.items zs n) e ∙ first_same l.words.items m.words.items (from_second l) g.0.longer n;
  room = λ n. ap (λ (zs : List (List ℕ)). entry_in m.words.room zs n) e ∙ first_same l.words.room m.words.room (from_second l) g.1.longer n;
}

-- a table of words comes in
pub child_made : (l m : Levels) (at : ℕ) (a : List (List ℕ)) → IsLevels l → from_second l ≡ l.second.items ∷ a → from_second m ≡ m.second.items ∷ a → m.used.items ≡ l.used.items → m.marks.items ≡ l.marks.items →
    (64 ≤ at) × (at < length l.second.items) →
    IsChild l.second.items m.second.items l.words.items m.words.items at × IsChild l.second.items m.second.items l.words.room m.words.room at → length m.words.room ≡ length m.words.items →
    length m.words.items ≤ 64 * length l.used.items → length m.words.items ≤ 64 * length l.marks.items → IsSame l m
child_made l m at a h e f j k p c n u v = record {
  levels = record {
    words = child_whole l.second.items m.second.items l.words.items m.words.items at h.words c.0;
    room = child_whole l.second.items m.second.items l.words.room m.words.room at h.room c.1;
    long = n;
    tables = subst (AreTables (length m.words.items)) (sym f) (child_above l.second.items m.second.items l.words.items m.words.items a at (subst (AreTables (length l.words.items)) e h.tables) p.0 p.1 c.0);
    used = rw j (bits_child is_used l.second.items m.second.items at h.used c.0 u);
    marks = rw k (bits_child is_marked l.second.items m.second.items at h.marks c.0 v);
  };
  words = λ n. ap (λ (zs : List (List ℕ)). entry_in m.words.items zs n) f ∙ (child_walk l.second.items m.second.items l.words.items m.words.items a at h.words c.0 n ∙ ap (λ (zs : List (List ℕ)). entry_in l.words.items zs n) (sym e));
  room = λ n. ap (λ (zs : List (List ℕ)). entry_in m.words.room zs n) f ∙ (child_walk l.second.items m.second.items l.words.room m.words.room a at h.room c.1 n ∙ ap (λ (zs : List (List ℕ)). entry_in l.words.room zs n) (sym e));
}

-- after other tables that were made
pub made_then : {T E : Type 0} (l m n : Levels) (page : ℕ) (r : Result T E) → IsSame l m → MatchResult r (λ _. IsMade m n page) (λ _. IsSame m n) → MatchResult r (λ _. IsMade l n page) (λ _. IsSame l n)
made_then l m n page (Ok x) p q = record { levels = q.levels; words = λ v. q.words v ∙ p.words v; made = q.made; kept = λ b d. q.kept b (λ z. d (sym (p.room b) ∙ z)) }
made_then l m n page (Err e) p q = same_over l m n p q

room_whole : (xs ys : List ℕ) (at : ℕ) → IsWhole xs → IsRoomMade xs ys at → 64 ≤ at → IsWhole ys
room_whole xs ys at w r a = record {
  whole = ap (λ k. k % 64) r.long ∙ w.whole;
  first = λ p. omega (arith, r.long, w.first (omega (arith, r.long, p)));
  empty = λ i b. r.others i (apart i b) ∙ w.empty i b;
}
  where
    apart : (i : ℕ) → i < 64 → i / 64 ≢ at / 64
    apart i b e = absurd (omega arith)

-- a row comes in
pub row_made : {T E : Type 0} (l m : Levels) (page at : ℕ) (r : Result T E) → IsLevels l → HasTable l.words.items (from_second l) (page / 64) → at ≡ table_in (from_second l) (page / 64) * 64 + page % 64 →
    from_second m ≡ from_second l → m.used.items ≡ l.used.items → m.marks.items ≡ l.marks.items → m.words.items ≡ l.words.items →
    MatchResult r (λ _. IsRoomMade l.words.room m.words.room at) (λ _. m.words.room ≡ l.words.room) → MatchResult r (λ _. IsMade l m page) (λ _. IsSame l m)
row_made {T} {E} l m page at r h t q e j k w s = by r s
  where
    past : (t r at : ℕ) → t ≢ 0 → at ≡ t * 64 + r → 64 ≤ at
    past t r at d e = omega arith

    levels : IsWhole m.words.room → length m.words.room ≡ length l.words.room → IsLevels m
    levels whole long = record {
      words = subst IsWhole (sym w) h.words;
      room = whole;
      long = long ∙ (h.long ∙ ap length (sym w));
      tables = subst (λ (zs : List ℕ). AreTables (length zs) (from_second m)) (sym w) (subst (AreTables (length l.words.items)) (sym e) h.tables);
      used = subst (λ (zs : List ℕ). AreBits is_used zs m.used.items) (sym w) (rw j h.used);
      marks = subst (λ (zs : List ℕ). AreBits is_marked zs m.marks.items) (sym w) (rw k h.marks);
    }

    words : (v : ℕ) → word_of m v ≡ word_of l v
    words v = ap (λ (zs : List ℕ). entry_in zs (from_second m) v) w ∙ ap (λ (zs : List (List ℕ)). entry_in l.words.items zs v) e

    there : (v : ℕ) → room_of m v ≡ entry_in m.words.room (from_second l) v
    there v = ap (λ (zs : List (List ℕ)). entry_in m.words.room zs v) e

    by : (r : Result T E) → MatchResult r (λ _. IsRoomMade l.words.room m.words.room at) (λ _. m.words.room ≡ l.words.room) → MatchResult r (λ _. IsMade l m page) (λ _. IsSame l m)
    by (Ok x) s = record {
      levels = levels (room_whole l.words.room m.words.room at h.room s (past _ _ at t.0 q)) s.long;
      words = words;
      made = λ z. s.some (ap (λ i. get_or m.words.room i 0) q ∙ (sym (there page) ∙ z));
      kept = λ v d z. s.kept _ d (sym (there v) ∙ z);
    }
    by (Err x) s = record {
      levels = levels (subst IsWhole (sym s) h.room) (ap length s);
      words = words;
      room = λ v. there v ∙ ap (λ (zs : List ℕ). entry_in zs (from_second l) v) s;
    }

pub row_there : (l m : Levels) (page at : ℕ) → IsLevels l → HasTable l.words.items (from_second l) (page / 64) → at ≡ table_in (from_second l) (page / 64) * 64 + page % 64 →
    from_second m ≡ from_second l → m.used.items ≡ l.used.items → m.marks.items ≡ l.marks.items → m.words.items ≡ l.words.items → IsRoomMade l.words.room m.words.room at → IsMade l m page
row_there l m page at h t q e j k w s = row_made {T = ℕ} {E = ℕ} l m page at (Ok 0) h t q e j k w s

-- no table came in
pub unchanged : (l m n : Levels) → IsSame l m → n.words ≡ m.words → from_second n ≡ from_second m → n.used.items ≡ m.used.items → n.marks.items ≡ m.marks.items → IsSame l n
unchanged l m n p w e j k = same_over l m n p (bits_same m n p.levels w e (rw j p.levels.used) (rw k p.levels.marks))

pub two_same : (lower : List (List ℕ)) {xs ys below now : List ℕ} (a : List (List ℕ)) → (ys ≡ xs) × (now ≡ below) → lower ++ (now ∷ ys ∷ a) ≡ lower ++ (below ∷ xs ∷ a)
two_same lower {xs} {ys} {below} {now} a p = ap (λ (zs : List ℕ). lower ++ (zs ∷ ys ∷ a)) p.1 ∙ ap (λ (zs : List ℕ). lower ++ (below ∷ zs ∷ a)) p.0

-- the first table of words came in, or none did
pub first_result : {T E : Type 0} (l m : Levels) (r : Result T E) → IsLevels l → from_second m ≡ from_second l → m.used.items ≡ l.used.items → m.marks.items ≡ l.marks.items →
    OnOk r (IsFirst l.words.items m.words.items × IsFirst l.words.room m.words.room × (length m.words.room ≡ length m.words.items)) → OnErr r (m.words ≡ l.words) →
    length m.words.items ≤ 64 * length l.used.items → length m.words.items ≤ 64 * length l.marks.items → IsSame l m
first_result l m (Ok x) h e j k g same u v = first_made l m h e j k g u v
first_result l m (Err x) h e j k g same u v = bits_same l m h same e (rw j h.used) (rw k h.marks)

pub first_ok : {T E : Type 0} (xs ys : Words) (a : List (List ℕ)) (block : ℕ) (r : Result T E) → block ≡ 0 →
    OnOk r (IsFirst xs.items ys.items × IsFirst xs.room ys.room × (length ys.room ≡ length ys.items)) → OnOk r (HasTable ys.items a block)
first_ok xs ys a block (Ok x) e g = first_has ys.items a block e g.0.some
first_ok xs ys a block (Err x) e g = tt

-- a word is set
pub word_place : (l : Levels) (page : ℕ) → IsLevels l → room_of l page ≢ 0 → table_in (from_second l) (page / 64) * 64 + 64 ≤ length l.words.items
word_place l page h d = table_inside l.words.items (from_second l) (page / 64) h.tables (room_has l page h d)

whole_set : (xs : List ℕ) (at word : ℕ) → IsWhole xs → 64 ≤ at → IsWhole (set xs at word)
whole_set xs at word w a = record {
  whole = ap (λ k. k % 64) (length-set xs at word) ∙ w.whole;
  first = λ p. omega (arith, length-set xs at word, w.first (omega (arith, length-set xs at word, p)));
  empty = λ i b. get_or-set_other xs at i word 0 (apart i b) ∙ w.empty i b;
}
  where
    apart : (i : ℕ) → i < 64 → i ≢ at
    apart i b e = absurd (omega arith)

pub word_set : (l m : Levels) (at page word : ℕ) → IsLevels l → room_of l page ≢ 0 → at ≡ table_in (from_second l) (page / 64) * 64 + page % 64 →
    from_second m ≡ from_second l → m.words.items ≡ set l.words.items at word → m.words.room ≡ l.words.room → AreBits is_used m.words.items m.used.items → AreBits is_marked m.words.items m.marks.items → IsLevels m
word_set l m at page word h some place e t o j k = record {
  room = subst IsWhole (sym o) h.room;
  long = ap length o ∙ (h.long ∙ sym (ap length t ∙ length-set l.words.items at word));
  words = subst IsWhole (sym t) (whole_set l.words.items at word h.words (past (table_in (from_second l) (page / 64)) (page % 64) at (room_has l page h some).0 place));
  tables = subst (λ n. AreTables n (from_second m)) (sym (ap length t ∙ length-set l.words.items at word)) (subst (AreTables (length l.words.items)) (sym e) h.tables);
  used = j;
  marks = k;
}
  where
    past : (t r at : ℕ) → t ≢ 0 → at ≡ t * 64 + r → 64 ≤ at
    past t r at d e = omega arith

pub words_set : (l : Levels) (at page word : ℕ) → IsLevels l → room_of l page ≢ 0 → at ≡ table_in (from_second l) (page / 64) * 64 + page % 64 →
    (v : ℕ) → entry_in (set l.words.items at word) (from_second l) v ≡ cond (eqb v page) word (word_of l v)
words_set l at page word h some place v = by (cases_eq v page)
  where
    here : ℕ → ℕ
    here n = table_in (from_second l) (n / 64) * 64 + n % 64

    same : (x y : ℕ) → x ≡ y → eqb x y ≡ true
    same x y e = grind (arith, nat_tests)

    other : (x y : ℕ) → x ≢ y → eqb x y ≡ false
    other x y d = grind (arith, nat_tests)

    inside : at < length l.words.items
    inside = omega (arith, place, word_place l page h some)

    apart : v ≢ page → here v ≢ at
    apart d z = d (number (split (table_in (from_second l) (v / 64)) (table_in (from_second l) (page / 64)) v page (z ∙ place)))
      where
        split : (a b p q : ℕ) → a * 64 + p % 64 ≡ b * 64 + q % 64 → (a ≡ b) × (p % 64 ≡ q % 64)
        split a b p q e = (omega arith, omega arith)

        number : (table_in (from_second l) (v / 64) ≡ table_in (from_second l) (page / 64)) × (v % 64 ≡ page % 64) → v ≡ page
        number s = let u = one_number (from_second l) (length l.words.items) (v / 64) (page / 64) h.tables s.0 (λ z. (room_has l page h some).0 (sym s.0 ∙ z)) in joined v page u s.1
          where
            joined : (v page : ℕ) → v / 64 ≡ page / 64 → v % 64 ≡ page % 64 → v ≡ page
            joined v page a b = omega arith

    by : (v ≡ page) ⊎ (v ≢ page) → entry_in (set l.words.items at word) (from_second l) v ≡ cond (eqb v page) word (word_of l v)
    by (inl z) = ap (λ i. get_or (set l.words.items at word) i 0) (ap here z ∙ sym place) ∙ (get_or-set_same l.words.items at word 0 inside ∙ sym (ap (λ b. cond b word (word_of l v)) (same v page z)))
    by (inr d) = get_or-set_other l.words.items at (here v) word 0 (apart d) ∙ sym (ap (λ b. cond b word (word_of l v)) (other v page d))

-- only pages have words
pub word_below : (l : Levels) → IsLevels l → (v : ℕ) → word_of l v ≢ 0 → v < 2 ^ 36
word_below l h v d =
    let a : table_in (from_second l) (v / 64) ≢ 0 = λ z. d (above_none l.words.items (from_second l) v h.words z) in
    let b = above_some l.second.items (from_third l) (v / 64) h.tables.0.tables a in
    let c = above_some l.third.items (from_fourth l) (v / 64 / 64) h.tables.1.0.tables b in
    let e = above_some l.fourth.items (from_fifth l) (v / 64 / 64 / 64) h.tables.1.1.0.tables c in
    let f = above_some l.fifth.items (from_sixth l) (v / 64 / 64 / 64 / 64) h.tables.1.1.1.0.tables e in
    let g = above_some l.sixth.items [] (v / 64 / 64 / 64 / 64 / 64) h.tables.1.1.1.1.0.tables f in
    small v (root_number (v / 64 / 64 / 64 / 64 / 64 / 64) g)
  where
    root_number : (n : ℕ) → table_in [] n ≢ 0 → n ≡ 0
    root_number n e = by (cases_eq n 0)
      where
        by : (n ≡ 0) ⊎ (n ≢ 0) → n ≡ 0
        by (inl p) = p
        by (inr p) = absurd (e (grind (arith, nat_tests)))

    small : (v : ℕ) → v / 64 / 64 / 64 / 64 / 64 / 64 ≡ 0 → v < 2 ^ 36
    small v e = omega arith
