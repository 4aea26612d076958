-- What the last entry touches can be read off the state after it, since an entry changes no mirror that it names.
use Rattle.std.proofs.Common.{◌≡◌, ℕ, zero, suc, ◌+◌, ◌-◌, true, false, List, [], ◌∷◌, ◌++◌, length, take, Option, Some, None, slice_get, refl, sym, ap, ◌∙◌, arith}
use Rattle.std.specs.Prelude.{is_some, option_map}
use Rattle.std.proofs.lemmas.List.Sums.{fold-append}
use Rattle.std.proofs.lemmas.Option.{slice_get_within}
use Rattle.hm_history.specs.Memory.After.{after, after_entry, after_nothing}
use Rattle.hm_history.specs.Memory.Plain.{MirrorState, Plain, plain_next, touched}
use Rattle.hm_history.specs.declared.Entry.{Entry}
use Rattle.hm_history.specs.declared.Kind.{Kind}
use Rattle.hm_history.specs.declared.Who.{Who}
use Rattle.hm_laws.proofs.Histories.Sound.{after_is}
use Rattle.hm_turns.specs.Touching.{touched_after, last_touched}
use Rattle.hm_world.specs.WorldValue.{WorldValue, now}

same_touch : (s : Plain) (k : Kind) → touched (plain_next s k) k ≡ touched s k
same_touch s (Kind.Loaded a b d) = refl
same_touch s (Kind.Stored (Who.Cpu p) b d) = refl
same_touch s (Kind.Stored (Who.Mirror m) b d) = refl
same_touch s (Kind.Failed a b d e) = refl
same_touch s (Kind.Mapped a b d) = refl
same_touch s (Kind.Unmapped a b) = refl
same_touch s (Kind.Protected a b d) = refl
same_touch s (Kind.Forked a b) = refl
same_touch s (Kind.Exited a) = refl
same_touch s (Kind.Attached a b d e f) = refl
same_touch s (Kind.Detaching a b) = refl
same_touch s (Kind.Detached a) = refl
same_touch s (Kind.Refused a) = refl
same_touch s (Kind.Migrated a) = refl
same_touch s (Kind.Seen a b d) = refl
same_touch s (Kind.Evicted a) = refl
same_touch s (Kind.Removed a) = refl
same_touch s (Kind.Rlock a) = refl
same_touch s (Kind.Runlock a) = refl
same_touch s (Kind.Wlock a) = refl
same_touch s (Kind.Named a b) = refl
same_touch s (Kind.Take a) = refl
same_touch s (Kind.Drop a) = refl
same_touch s (Kind.Place a b d) = refl
same_touch s (Kind.Start a b d) = refl
same_touch s (Kind.Told a b d) = refl
same_touch s (Kind.End a b d) = refl
same_touch s (Kind.Begin a b) = refl
same_touch s (Kind.Retry a) = refl
same_touch s (Kind.Set a b d e f) = refl
same_touch s (Kind.Fresh a b) = refl
same_touch s (Kind.Copied a b d) = refl
same_touch s (Kind.Committed a b) = refl
same_touch s (Kind.Kept a b) = refl
same_touch s (Kind.Done a) = refl
same_touch s (Kind.Withdrawn a) = refl
same_touch s (Kind.Excluded a b) = refl
same_touch s (Kind.Fetched a b d) = refl
same_touch s (Kind.Added a b d e) = refl

-- the process of a mirror, where there is one
pub some_owner : (x : Option MirrorState) → is_some x ≡ true → Some (elim x [ None ↦ 0 | Some y ↦ y.proc ]) ≡ option_map (λ (y : MirrorState). y.proc) x
some_owner None e = cc
some_owner (Some y) e = refl

pub no_owner : (x : Option MirrorState) → is_some x ≡ false → None ≡ option_map (λ (y : MirrorState). y.proc) x
no_owner None e = refl
no_owner (Some y) e = cc

split_at : (h : List Entry) (n : ℕ) (e : Entry) → length h ≡ n + 1 → slice_get h n ≡ Some e → h ≡ take n h ++ e ∷ []
split_at [] n e len at = cc
split_at (x ∷ []) zero e len at = let same : x ≡ e = cc in ap (λ z. z ∷ []) same
split_at (x ∷ (y ∷ ys)) zero e len at = absurd (omega arith)
split_at (x ∷ xs) (suc n) e len at = ap (λ l. x ∷ l) (split_at xs n e (omega arith) at)

touches : (h : List Entry) (e : Entry) → slice_get h (length h - 1) ≡ Some e → touched (after h).plain e.kind ≡ last_touched h
unfolding touched_after
touches h e at =
    let n = length h - 1 in
    let inside = slice_get_within h n e at in
    let split = split_at h n e (omega arith) at in
    let step : (after h).plain ≡ plain_next (after (take n h)).plain e.kind = ap (λ l. (after l).plain) split ∙ ap (λ s. s.plain) (fold-append after_entry after_nothing (take n h) (e ∷ [])) in
    ap (λ s. touched s e.kind) step ∙ same_touch (after (take n h)).plain e.kind ∙ sym (ap (touched_after (take n h)) at)

pub last_touches : (t : WorldValue) (e : Entry) → slice_get t.history (length t.history - 1) ≡ Some e → touched (now t).after.plain e.kind ≡ last_touched t.history
unfolding now
last_touches t e at = ap (λ s. touched s.plain e.kind) (after_is t.script t.history) ∙ touches t.history e at
