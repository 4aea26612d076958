-- The areas and the places of processes after an entry.
use Rattle.std.proofs.Common.{◌≡◌, ℕ, ◌⊎◌, inl, inr, Bool, true, false, ◌==◌, ◌&&◌, if◌then◌else◌, is_some, Some, None, [], refl, ap, ◌∙◌, arith}
use Rattle.std.specs.List.{list_any}
use Rattle.std.proofs.lemmas.Bool.Decides.{nat_tests}
use Rattle.hm_base.specs.Pages.{covers}
use Rattle.hm_base.specs.Areas.{without, with_rights, with_area, rights_at}
use Rattle.hm_base.specs.Program.{Program}
use Rattle.hm_base.specs.declared.Place.{Place}
use Rattle.hm_base.specs.declared.ops.Rights.{Rights}
use Rattle.hm_history.specs.Memory.Words.{with_at, writable, is_empty_place}
use Rattle.hm_history.specs.Memory.Plain.{is_read_write}
use Rattle.hm_history.specs.Memory.Places.{is_page, with_place}
use Rattle.hm_history.specs.Memory.After.{After}
use Rattle.hm_history.specs.declared.Kind.{Kind}
use Rattle.hm_laws.specs.Past.{Past, past_next}
use Rattle.hm_laws.specs.Sound.{PlaceRules, AreaRules, Sound}
use Rattle.hm_laws.specs.Allowed.{next, MayPlace, Reader, Writer, Parent, Mover, Allowed}
use Rattle.hm_laws.proofs.Kept.AreaCuts.{rights_without, rights_with, rights_added, rights_none, no_meet}
use Rattle.hm_laws.proofs.Kept.Pools.{areas_at}
use Rattle.hm_history.proofs.Placed.{listed_more}

pub writable_stays : (x : Place) → writable x ≡ true → is_empty_place x ≡ false
writable_stays x h = grind arith

-- what is there after a place was set
pub placed_cases : (place : ℕ → ℕ → Place) (p v : ℕ) (x : Place) (q u : ℕ) → ((q ≡ p) × (u ≡ v) × (with_place place p v x q u ≡ x)) ⊎ (with_place place p v x q u ≡ place q u)
placed_cases place p v x q u = grind (arith, nat_tests)

-- nothing comes to a process that is not there, but to a child from its parent
pub stays_empty : (s : After) (t : Past) (a p v : ℕ) (x : Place) → MayPlace s t a p v x → s.plain.there p ≡ false → is_empty_place (s.places.place p v) ≡ true → (s.plain.been p ≡ true) ⊎ (t.namer p ≡ None) → ⊥
stays_empty s t a p v x (Reader h n e r) th em hm = grind arith
stays_empty s t a p v x (Writer h) th em hm = grind arith
stays_empty s t a p v x (Parent h e) th em (inl b) = grind arith
stays_empty s t a p v x (Parent h e) th em (inr b) = grind arith
stays_empty s t a p v x (Mover w n e r) th em hm = grind arith

not_there : (there been : ℕ → Bool) (p : ℕ) → (there p ≡ true → been p ≡ true) → been p ≡ false → there p ≡ false
not_there there been p h e = by (there p) h
  where
    by : (b : Bool) → (b ≡ true → been p ≡ true) → b ≡ false
    by true k = absurd (grind (arith, k refl))
    by false k = refl

pub areas_kept : (c : Program) (s : After) (t : Past) (a : ℕ) → Sound c s t → (k : Kind) → Allowed c s t a k →
    AreaRules (next s a k).plain.there (next s a k).plain.been (next s a k).plain.areas (past_next t s.length a k).namer (next s a k).places.place
areas_kept c s t a so (Kind.Mapped p r w) ok = record {
  in_area = λ q v h n. grind (arith, nat_tests, so.areas.in_area q v, rights_added (s.plain.areas p) r w v (no_meet s.plain p r w ok.2), areas_at s.plain.areas p q v (with_area (record { span = r; rights = w }) (s.plain.areas p)));
  may_write = λ q v h. ((so.areas.may_write q v h).0, grind (arith, nat_tests, so.areas.may_write q v h, rights_added (s.plain.areas p) r w v (no_meet s.plain p r w ok.2), rights_none (s.plain.areas p) r v (no_meet s.plain p r w ok.2), areas_at s.plain.areas p q v (with_area (record { span = r; rights = w }) (s.plain.areas p))));
  absent = so.areas.absent;
  unborn = so.areas.unborn;
}
areas_kept c s t a so (Kind.Unmapped p r) ok = record {
  in_area = λ q v h n. grind (arith, nat_tests, so.areas.in_area q v, rights_without r (s.plain.areas p) v, areas_at s.plain.areas p q v (without r (s.plain.areas p)), ok.2 v);
  may_write = λ q v h. ((so.areas.may_write q v h).0, grind (arith, nat_tests, so.areas.may_write q v h, rights_without r (s.plain.areas p) v, areas_at s.plain.areas p q v (without r (s.plain.areas p)), ok.2 v, writable_stays (s.places.place q v) h));
  absent = so.areas.absent;
  unborn = so.areas.unborn;
}
areas_kept c s t a so (Kind.Protected p r w) ok = record {
  in_area = λ q v h n. grind (arith, nat_tests, so.areas.in_area q v, rights_with r w (s.plain.areas p) v, areas_at s.plain.areas p q v (with_rights r w (s.plain.areas p)));
  may_write = λ q v h. ((so.areas.may_write q v h).0, by w q v h ok.2 (rights_with r w (s.plain.areas p) v) (areas_at s.plain.areas p q v (with_rights r w (s.plain.areas p))));
  absent = so.areas.absent;
  unborn = so.areas.unborn;
}
  where
    by : (w : Rights) (q v : ℕ) → writable (s.places.place q v) ≡ true → (w ≡ Rights.Read → (v : ℕ) → covers r v ≡ true → writable (s.places.place p v) ≡ false) →
        rights_at (with_rights r w (s.plain.areas p)) v ≡ (if covers r v && is_some (rights_at (s.plain.areas p) v) then Some w else rights_at (s.plain.areas p) v) →
        rights_at (with_at s.plain.areas p (with_rights r w (s.plain.areas p)) q) v ≡ (if q == p then rights_at (with_rights r w (s.plain.areas p)) v else rights_at (s.plain.areas q) v) →
        is_read_write (rights_at (with_at s.plain.areas p (with_rights r w (s.plain.areas p)) q) v) ≡ true
    by Rights.Read q v h is e d = grind (arith, nat_tests, so.areas.may_write q v h, is refl v)
    by Rights.ReadWrite q v h is e d = grind (arith, nat_tests, so.areas.may_write q v h)
areas_kept c s t a so (Kind.Named p d) ok = record {
  in_area = so.areas.in_area;
  may_write = so.areas.may_write;
  absent = so.areas.absent;
  unborn = λ q v n b. grind (arith, nat_tests, so.areas.unborn q v);
}
areas_kept c s t a so (Kind.Forked p d) ok = record {
  in_area = λ q v h n. grind (arith, nat_tests, so.areas.in_area q v, so.areas.in_area p v ok.0.1, (ok.3 v).emptiness, areas_at s.plain.areas d q v (s.plain.areas p));
  may_write = λ q v h. (grind (arith, nat_tests, so.areas.may_write q v h), grind (arith, nat_tests, so.areas.may_write q v h, (ok.3 v).child_right, areas_at s.plain.areas d q v (s.plain.areas p)));
  absent = λ q v h b. grind (arith, nat_tests, so.areas.absent q v);
  unborn = λ q v n b. grind (arith, nat_tests, so.areas.unborn q v);
}
areas_kept c s t a so (Kind.Exited p) ok = record {
  in_area = λ q v h n. grind (arith, nat_tests, so.areas.in_area q v, areas_at s.plain.areas p q v []);
  may_write = λ q v h. (grind (arith, nat_tests, so.areas.may_write q v h, writable_stays (s.places.place q v) h, ok.1 v), grind (arith, nat_tests, so.areas.may_write q v h, writable_stays (s.places.place q v) h, ok.1 v, areas_at s.plain.areas p q v []));
  absent = λ q v h b. grind (arith, nat_tests, so.areas.absent q v, ok.1 v);
  unborn = so.areas.unborn;
}
areas_kept c s t a so (Kind.Place p v x) ok = record {
  in_area = λ q u h n. grind (arith, nat_tests, so.areas.in_area q u, ok.process.in_area);
  may_write = λ q u h. (grind (arith, nat_tests, so.areas.may_write q u, ok.process.may_write), grind (arith, nat_tests, so.areas.may_write q u, ok.process.may_write));
  absent = λ q u h b. absent q u h b (placed_cases s.places.place p v x q u);
  unborn = λ q u n b. unborn q u n b (placed_cases s.places.place p v x q u);
}
  where
    absent : (q u : ℕ) → s.plain.there q ≡ false → s.plain.been q ≡ true → ((q ≡ p) × (u ≡ v) × (with_place s.places.place p v x q u ≡ x)) ⊎ (with_place s.places.place p v x q u ≡ s.places.place q u) → is_empty_place (with_place s.places.place p v x q u) ≡ true
    absent q u h b (inl e) = absurd (stays_empty s t a p v x ok.who (rw e.0 at h) (so.areas.absent p v (rw e.0 at h) (rw e.0 at b)) (inl (rw e.0 at b)))
    absent q u h b (inr e) = ap is_empty_place e ∙ so.areas.absent q u h b

    unborn : (q u : ℕ) → t.namer q ≡ None → s.plain.been q ≡ false → ((q ≡ p) × (u ≡ v) × (with_place s.places.place p v x q u ≡ x)) ⊎ (with_place s.places.place p v x q u ≡ s.places.place q u) → is_empty_place (with_place s.places.place p v x q u) ≡ true
    unborn q u n b (inl e) = absurd (stays_empty s t a p v x ok.who (not_there s.plain.there s.plain.been p (so.processes.there_been p) (rw e.0 at b)) (so.areas.unborn p v (rw e.0 at n) (rw e.0 at b)) (inr (rw e.0 at n)))
    unborn q u n b (inr e) = ap is_empty_place e ∙ so.areas.unborn q u n b
areas_kept c s t a so k ok = so.areas

pub places_kept : (c : Program) (s : After) (t : Past) (a : ℕ) → Sound c s t → (k : Kind) → Allowed c s t a k → PlaceRules (next s a k).places.place (next s a k).places.placed
places_kept c s t a so (Kind.Place p v x) ok = record {
  listed = λ q u n. listed_more p v q u s.places.placed (by q u (is_page p v (q, u)) refl n);
  ranged = λ q u n. grind (arith, nat_tests, so.places.ranged q u, ok.ranged);
}
  where
    by : (q u : ℕ) (b : Bool) → is_page p v (q, u) ≡ b → is_empty_place (if b then x else s.places.place q u) ≡ false → (is_page p v (q, u) ≡ true) ⊎ (list_any (is_page q u) s.places.placed ≡ true)
    by q u true e k = inl e
    by q u false e k = inr (so.places.listed q u k)
places_kept c s t a so k ok = so.places
