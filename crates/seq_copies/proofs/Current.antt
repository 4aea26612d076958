-- A copy stays current as far as no entry touches its process.
use Rattle.std.proofs.Common.{◌≡◌, ◌≢◌, ℕ, ◌+◌, ◌-◌, ◌≤◌, Bool, true, false, if◌then◌else◌, Option, Some, None, List, [], ◌∷◌, ◌++◌, length, take, refl, sym, ap, ◌∙◌, arith}
use Rattle.std.specs.Prelude.{is_some}
use Rattle.std.specs.List.{list_all}
use Rattle.std.proofs.lemmas.List.{take-append-le}
use Rattle.hm_base.specs.Areas.{rights_at}
use Rattle.hm_base.specs.declared.area.Area.{Area}
use Rattle.hm_history.specs.Memory.After.{after}
use Rattle.hm_history.specs.Memory.Locks.{writer}
use Rattle.hm_history.specs.Memory.Plain.{Plain, plain_next, touched}
use Rattle.hm_history.specs.Memory.Words.{bytes_from, numbers, page_of}
use Rattle.hm_history.specs.declared.Entry.{Entry}
use Rattle.hm_history.specs.declared.Kind.{Kind}
use Rattle.hm_turns.specs.Looking.{all_have_areas, looked_after, plain_after}
use Rattle.hm_turns.specs.Sights.{Sight, AreMarks, IsMark, IsShown}
use Rattle.hm_turns.specs.declared.known.Marked.{Marked}
use Rattle.hm_turns.specs.declared.looks.Looked.{Looked}
use Rattle.seq_copies.specs.Copies.{HaveAreas, IsCurrent, StillHaveAreas, checked}
use Rattle.seq_copies.specs.declared.answers.Snapshot.{Snapshot}
use Rattle.seq_copies.specs.declared.answers.Still.{Still}
use Rattle.seq_copies.proofs.Quiet.{quiet_entries, same_areas, untouched}

-- the last mark is right
pub last_mark : (list : List Entry) (ms : List Marked) (m : Marked) → AreMarks list (ms ++ m ∷ []) → IsMark list m
last_mark list [] m are = are.0
last_mark list (x ∷ ms) m are = last_mark list ms m are.1

-- a part of the plain state after the copy's entries, and after the count, where no entry in between touched the process
module _ (s : Snapshot) (v : Sight) (t : Still) (inside : s.at ≤ length v.list) (counted : length v.list ≤ t.count) (held : t.mark ≤ s.at) where
  same_front : (later : List Entry) → IsShown (checked v s.proc t) later → take s.at later ≡ take s.at v.list
  same_front later shown = let more = shown.later in ap (take s.at) (sym more.1) ∙ take-append-le s.at v.list more.0 inside

  same_part : {X : Type 0} (part : Plain → X) → ((a : Plain) (k : Kind) → touched a k ≢ Some s.proc → part (plain_next a k) ≡ part a) → (later : List Entry) → IsShown (checked v s.proc t) later → part (after (take t.count later)).plain ≡ part (after (take s.at later)).plain
  same_part part same later shown =
      let mark = last_mark later v.marks (record { proc = s.proc; at = t.mark; upto = t.count }) shown.marked in
      let sum : t.count ≡ s.at + (t.count - s.at) = omega (arith, inside, counted) in
      ap (λ k. part (after (take k later)).plain) sum
      ∙ quiet_entries part s.proc same later s.at (t.count - s.at) (omega (arith, sum, mark.counted)) (λ k above below. mark.quiet k (omega (arith, held, above)) (omega (arith, below, sum)))

  -- so a copy has the bytes after the count
  pub stays_current : s.bytes ≡ plain_after (take s.at v.list) s.proc s.addr (length s.bytes) → IsCurrent s (checked v s.proc t) t.count
  stays_current bytes later shown =
      bytes
      ∙ ap (λ (xs : List Entry). plain_after xs s.proc s.addr (length s.bytes)) (sym (same_front later shown))
      ∙ ap (λ f. bytes_from f s.addr (length s.bytes)) (sym (same_part (λ a. a.bytes s.proc) (λ a k. untouched a k s.proc) later shown))

  -- and they have areas then, if they had
  pub keep_areas : HaveAreas s s.at v.list → StillHaveAreas s (checked v s.proc t) t.count
  keep_areas had later shown =
      ap (λ as_. areas_in as_) (same_part (λ a. a.areas s.proc) (λ a k. same_areas a k s.proc) later shown)
      ∙ ap (λ (xs : List Entry). all_have_areas (after xs).plain s.proc s.addr (length s.bytes)) (same_front later shown)
      ∙ had
    where
      areas_in : List Area → Bool
      areas_in as_ = list_all (λ x. is_some (rights_at as_ (page_of x))) (numbers s.addr (length s.bytes))

-- a look that found the bytes found areas
pub filled_has_areas : (h : List Entry) (p at n : ℕ) → looked_after h p at n ≡ Looked.Filled → all_have_areas (after h).plain p at n ≡ true
filled_has_areas h p at n e = by (writer (after h).locks p) (all_have_areas (after h).plain p at n) refl e
  where
    by : (w : Option ℕ) (b : Bool) → all_have_areas (after h).plain p at n ≡ b → ◌≡◌ {A = Looked} (elim w [ Some a ↦ Looked.Locked a | None ↦ if b then Looked.Filled else Looked.Unmapped ]) Looked.Filled → all_have_areas (after h).plain p at n ≡ true
    by None true is e = is
    by None false is e = cc
    by (Some a) b is e = cc
