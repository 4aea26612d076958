-- Words ask for a task if and only if they are words of it.
use Rattle.std.proofs.Common.{◌≡◌, ℕ, Bool, true, false, List, [], ◌∷◌, Option, Some, None, Result, Ok, Err, refl, sym, ap, ◌∙◌, subst, inl, inr}
use Rattle.std.specs.Prelude.{if◌then◌else◌, codes}
use Rattle.std.specs.Str.{bytes_eq}
use Rattle.std.proofs.lemmas.Slice.Eq.{bytes_eq-Decides}
use Rattle.hm_flaws.specs.declared.flaws.Flaw.{Flaw}
use Rattle.hm_flaw_parts.specs.declared.judged.Judging.{Judging}
use Rattle.hm_script.specs.Numerals.{number}
use Rattle.hm_script.specs.declared.reason.Reason.{Reason}
use Rattle.hm_flaw_top.specs.Text.Names.{flaw_named, name_of}
use Rattle.hm_flaw_top.specs.Text.Tasks.{AreOptions, AreWords, IsTask, WordsAreTasks, after_answers, after_number, bad, ended, first_counted, first_number, last_counted, last_number, later, options_of, plain_task, task_by, task_in, which_by, which_of, which_word, words_of}
use Rattle.hm_flaw_top.specs.declared.text.task.BadWord.{BadWord}
use Rattle.hm_flaw_top.specs.declared.text.task.Task.{Task}
use Rattle.hm_flaw_top.specs.declared.text.task.Which.{Which}
use Rattle.hm_flaw_top.specs.declared.text.task.WordFault.{WordFault}
use Rattle.hm_flaw_top.proofs.Named.{named-again, named_own}

-- the task of these drivers that judges answers alone
abbrev harm_task : Which → Task
harm_task x = record (plain_task x) { judging = Judging.AnswersAlone }

-- ---- what is asked for is in the words

-- words after the first that say this of these drivers
abbrev Says : Which → List (List ℕ) → Task → Type 0
Says x ws u = (u.which ≡ x) × AreOptions ws u.judging u.most

ended_is : (at : ℕ) (t u : Task) (ws : List (List ℕ)) → ended at t ws ≡ Ok u → (ws ≡ []) × (t ≡ u)
ended_is at t u [] e = let same : t ≡ u = cc in (refl, same)
ended_is at t u (w ∷ ws) e = absurd cc

last_says : (x : Which) (a m : List ℕ) (ws : List (List ℕ)) (u : Task) → a ≡ codes "--answers" → m ≡ codes "--most" → last_number (harm_task x) ws ≡ Ok u → Says x (a ∷ m ∷ ws) u
last_says x a m [] u p q e = absurd cc
last_says x a m (w ∷ ws) u p q e = by (number w) refl e
  where
    by : (r : Result ℕ Reason) → number w ≡ r → last_counted (harm_task x) ws r ≡ Ok u → Says x (a ∷ m ∷ w ∷ ws) u
    by (Err why) is e = absurd cc
    by (Ok n) is e =
        let h = ended_is 5 (record (harm_task x) { most = n }) u ws e in
        subst (λ (z : List (List ℕ)). Says x (a ∷ m ∷ w ∷ z) u) (sym h.0) (subst (Says x (a ∷ m ∷ w ∷ [])) h.1 (refl, inl (p, q, is)))

answers_say : (x : Which) (a : List ℕ) (ws : List (List ℕ)) (u : Task) → a ≡ codes "--answers" → after_answers (harm_task x) ws ≡ Ok u → Says x (a ∷ ws) u
answers_say x a [] u p e = let same : harm_task x ≡ u = cc in subst (Says x (a ∷ [])) same (refl, (p, refl))
answers_say x a (m ∷ ws) u p e = by (bytes_eq m (codes "--most")) refl e
  where
    by : (r : Bool) → bytes_eq m (codes "--most") ≡ r → (if r then last_number (harm_task x) ws else bad 3 WordFault.NoOption) ≡ Ok u → Says x (a ∷ m ∷ ws) u
    by true is e = last_says x a m ws u p ((bytes_eq-Decides m (codes "--most")).0 is) e
    by false is e = absurd cc

number_says : (x : Which) (m v : List ℕ) (n : ℕ) (ws : List (List ℕ)) (u : Task) → m ≡ codes "--most" → number v ≡ Ok n → after_number (record (plain_task x) { most = n }) ws ≡ Ok u → Says x (m ∷ v ∷ ws) u
number_says x m v n [] u p q e =
    let same : record (plain_task x) { most = n } ≡ u = cc in
    subst (Says x (m ∷ v ∷ [])) same (refl, (p, q))
number_says x m v n (a ∷ ws) u p q e = by (bytes_eq a (codes "--answers")) refl e
  where
    by : (r : Bool) → bytes_eq a (codes "--answers") ≡ r → (if r then ended 5 (record (harm_task x) { most = n }) ws else bad 4 WordFault.NoOption) ≡ Ok u → Says x (m ∷ v ∷ a ∷ ws) u
    by true is e =
        let h = ended_is 5 (record (harm_task x) { most = n }) u ws e in
        subst (λ (z : List (List ℕ)). Says x (m ∷ v ∷ a ∷ z) u) (sym h.0) (subst (Says x (m ∷ v ∷ a ∷ [])) h.1 (refl, inr (p, q, (bytes_eq-Decides a (codes "--answers")).0 is)))
    by false is e = absurd cc

most_says : (x : Which) (m : List ℕ) (ws : List (List ℕ)) (u : Task) → m ≡ codes "--most" → first_number (plain_task x) ws ≡ Ok u → Says x (m ∷ ws) u
most_says x m [] u p e = absurd cc
most_says x m (v ∷ ws) u p e = by (number v) refl e
  where
    by : (r : Result ℕ Reason) → number v ≡ r → first_counted (plain_task x) ws r ≡ Ok u → Says x (m ∷ v ∷ ws) u
    by (Err why) is e = absurd cc
    by (Ok n) is e = number_says x m v n ws u p is e

options_say : (x : Which) (ws : List (List ℕ)) (u : Task) → options_of (plain_task x) ws ≡ Ok u → Says x ws u
options_say x [] u e = let same : plain_task x ≡ u = cc in subst (Says x []) same (refl, refl)
options_say x (w ∷ ws) u e = by (bytes_eq w (codes "--answers")) refl e
  where
    most : (r : Bool) → bytes_eq w (codes "--most") ≡ r → (if r then first_number (plain_task x) ws else bad 2 WordFault.NoOption) ≡ Ok u → Says x (w ∷ ws) u
    most true is e = most_says x w ws u ((bytes_eq-Decides w (codes "--most")).0 is) e
    most false is e = absurd cc

    by : (r : Bool) → bytes_eq w (codes "--answers") ≡ r → (if r then after_answers (harm_task x) ws else (if bytes_eq w (codes "--most") then first_number (plain_task x) ws else bad 2 WordFault.NoOption)) ≡ Ok u → Says x (w ∷ ws) u
    by true is e = answers_say x w ws u ((bytes_eq-Decides w (codes "--answers")).0 is) e
    by false is e = most (bytes_eq w (codes "--most")) refl e

which_says : (w : List ℕ) (x : Which) → which_of w ≡ Some x → w ≡ which_word x
which_says w x e = by (flaw_named w) refl e
  where
    all : (r : Bool) → bytes_eq w (codes "--all") ≡ r → (if r then Some Which.All else None) ≡ Some x → w ≡ which_word x
    all true is e = let same : Which.All ≡ x = cc in subst (λ (y : Which). w ≡ which_word y) same ((bytes_eq-Decides w (codes "--all")).0 is)
    all false is e = absurd cc

    by : (o : Option Flaw) → flaw_named w ≡ o → which_by w o ≡ Some x → w ≡ which_word x
    by (Some l) is e = let same : Which.One l ≡ x = cc in subst (λ (y : Which). w ≡ which_word y) same (sym (named_own w l is))
    by None is e = all (bytes_eq w (codes "--all")) refl e

later_is : (r : Result Task BadWord) (u : Task) → later r ≡ Ok u → r ≡ Ok u
later_is (Ok t) u e = e
later_is (Err b) u e = absurd cc

-- words after one that names these drivers
words_say : (x : Which) (w : List ℕ) (ws : List (List ℕ)) (u : Task) → w ≡ which_word x → words_of x ws ≡ Ok u → IsTask (w ∷ ws) u
words_say (Which.One l) w [] u is e =
    let h : Says (Which.One l) [] u = options_say (Which.One l) [] u e in
    subst (λ (y : Which). (w ≡ which_word y) × AreWords y [] u.judging u.most) (sym h.0) (is, h.1)
words_say (Which.One l) w (v ∷ ws) u is e = by (bytes_eq v (codes "--holds")) refl e
  where
    by : (r : Bool) → bytes_eq v (codes "--holds") ≡ r → (if r then later (options_of (plain_task (Which.Holds l)) ws) else options_of (plain_task (Which.One l)) (v ∷ ws)) ≡ Ok u → IsTask (w ∷ v ∷ ws) u
    by true same e =
        let h : Says (Which.Holds l) ws u = options_say (Which.Holds l) ws u (later_is (options_of (plain_task (Which.Holds l)) ws) u e) in
        subst (λ (y : Which). (w ≡ which_word y) × AreWords y (v ∷ ws) u.judging u.most) (sym h.0) (is, ((bytes_eq-Decides v (codes "--holds")).0 same, h.1))
    by false same e =
        let h : Says (Which.One l) (v ∷ ws) u = options_say (Which.One l) (v ∷ ws) u e in
        subst (λ (y : Which). (w ≡ which_word y) × AreWords y (v ∷ ws) u.judging u.most) (sym h.0) (is, h.1)
words_say (Which.Holds l) w ws u is e = absurd cc
words_say Which.All w ws u is e =
    let h : Says Which.All ws u = options_say Which.All ws u e in
    subst (λ (y : Which). (w ≡ which_word y) × AreWords y ws u.judging u.most) (sym h.0) (is, h.1)

task_says : (ws : List (List ℕ)) (t : Task) → task_in ws ≡ Ok t → IsTask ws t
task_says [] t e = absurd cc
task_says (w ∷ ws) t e = by (which_of w) refl e
  where
    by : (o : Option Which) → which_of w ≡ o → task_by o ws ≡ Ok t → IsTask (w ∷ ws) t
    by None is e = absurd cc
    by (Some x) is e = words_say x w ws t (which_says w x is) e

-- ---- what words of a task ask for

abbrev done : Which → Judging → ℕ → Result Task BadWord
done x j n = Ok (record { which = x; judging = j; most = n })

options_again : (x : Which) (ws : List (List ℕ)) (j : Judging) (n : ℕ) → AreOptions ws j n → options_of (plain_task x) ws ≡ done x j n
options_again x [] Judging.AllParts n h = ap (done x Judging.AllParts) (sym h)
options_again x [] Judging.AnswersAlone n h = absurd h
options_again x (a ∷ []) Judging.AllParts n h = absurd h
options_again x (a ∷ []) Judging.AnswersAlone n h =
    subst (λ (z : List ℕ). options_of (plain_task x) (z ∷ []) ≡ done x Judging.AnswersAlone n) (sym h.0) (ap (done x Judging.AnswersAlone) (sym h.1))
options_again x (m ∷ v ∷ []) Judging.AllParts n h =
    subst (λ (z : List ℕ). options_of (plain_task x) (z ∷ v ∷ []) ≡ done x Judging.AllParts n) (sym h.0) (ap (first_counted (plain_task x) []) h.1)
options_again x (m ∷ v ∷ []) Judging.AnswersAlone n h = absurd h
options_again x (a ∷ b ∷ d ∷ []) Judging.AllParts n h = absurd h
options_again x (a ∷ b ∷ d ∷ []) Judging.AnswersAlone n h =
    elim h [
      | inl p ↦
          subst (λ (z : List ℕ). options_of (plain_task x) (z ∷ b ∷ d ∷ []) ≡ done x Judging.AnswersAlone n) (sym p.0)
          (subst (λ (z : List ℕ). options_of (plain_task x) (codes "--answers" ∷ z ∷ d ∷ []) ≡ done x Judging.AnswersAlone n) (sym p.1)
          (ap (last_counted (harm_task x) []) p.2))
      | inr p ↦
          subst (λ (z : List ℕ). options_of (plain_task x) (z ∷ b ∷ d ∷ []) ≡ done x Judging.AnswersAlone n) (sym p.0)
          (subst (λ (z : List ℕ). options_of (plain_task x) (codes "--most" ∷ b ∷ z ∷ []) ≡ done x Judging.AnswersAlone n) (sym p.2)
          (ap (first_counted (plain_task x) (codes "--answers" ∷ [])) p.1))
    ]
options_again x (a ∷ b ∷ d ∷ f ∷ ws) Judging.AllParts n h = absurd h
options_again x (a ∷ b ∷ d ∷ f ∷ ws) Judging.AnswersAlone n h = absurd h

all_is_no_rule : flaw_named (codes "--all") ≡ None
unfolding flaw_named
all_is_no_rule = refl

-- no option is `--holds`
first_is : (v : List ℕ) (vs : List (List ℕ)) (j : Judging) (n : ℕ) → AreOptions (v ∷ vs) j n → bytes_eq v (codes "--holds") ≡ false
first_is a [] Judging.AllParts n h = absurd h
first_is a [] Judging.AnswersAlone n h = subst (λ (z : List ℕ). bytes_eq z (codes "--holds") ≡ false) (sym h.0) refl
first_is m (v ∷ []) Judging.AllParts n h = subst (λ (z : List ℕ). bytes_eq z (codes "--holds") ≡ false) (sym h.0) refl
first_is m (v ∷ []) Judging.AnswersAlone n h = absurd h
first_is a (b ∷ d ∷ []) Judging.AllParts n h = absurd h
first_is a (b ∷ d ∷ []) Judging.AnswersAlone n h =
    elim h [
      | inl p ↦ subst (λ (z : List ℕ). bytes_eq z (codes "--holds") ≡ false) (sym p.0) refl
      | inr p ↦ subst (λ (z : List ℕ). bytes_eq z (codes "--holds") ≡ false) (sym p.0) refl
    ]
first_is a (b ∷ d ∷ f ∷ ws) Judging.AllParts n h = absurd h
first_is a (b ∷ d ∷ f ∷ ws) Judging.AnswersAlone n h = absurd h

one_again : (l : Flaw) (ws : List (List ℕ)) (j : Judging) (n : ℕ) → AreOptions ws j n → words_of (Which.One l) ws ≡ done (Which.One l) j n
one_again l [] j n h = options_again (Which.One l) [] j n h
one_again l (v ∷ ws) j n h =
    ap (λ (r : Bool). if r then later (options_of (plain_task (Which.Holds l)) ws) else options_of (plain_task (Which.One l)) (v ∷ ws)) (first_is v ws j n h)
    ∙ options_again (Which.One l) (v ∷ ws) j n h

held_again : (l : Flaw) (w : List ℕ) (ws : List (List ℕ)) (j : Judging) (n : ℕ) → w ≡ codes "--holds" → AreOptions ws j n → words_of (Which.One l) (w ∷ ws) ≡ done (Which.Holds l) j n
held_again l w ws j n is h =
    subst (λ (z : List ℕ). words_of (Which.One l) (z ∷ ws) ≡ done (Which.Holds l) j n) (sym is)
    (ap later (options_again (Which.Holds l) ws j n h))

named : (l : Flaw) → which_of (name_of l) ≡ Some (Which.One l)
named l = ap (which_by (name_of l)) (named-again l)

words_again : (x : Which) (ws : List (List ℕ)) (j : Judging) (n : ℕ) → AreWords x ws j n → task_by (which_of (which_word x)) ws ≡ done x j n
words_again (Which.One l) ws j n h = ap (λ (o : Option Which). task_by o ws) (named l) ∙ one_again l ws j n h
words_again (Which.Holds l) [] j n h = absurd h
words_again (Which.Holds l) (w ∷ ws) j n h = ap (λ (o : Option Which). task_by o (w ∷ ws)) (named l) ∙ held_again l w ws j n h.0 h.1
words_again Which.All ws j n h = ap (λ (o : Option Which). task_by o ws) (ap (which_by (codes "--all")) all_is_no_rule) ∙ options_again Which.All ws j n h

task_again : (ws : List (List ℕ)) (t : Task) → IsTask ws t → task_in ws ≡ Ok t
task_again [] t h = absurd h
task_again (w ∷ ws) t h = ap (λ (v : List ℕ). task_by (which_of v) ws) h.0 ∙ words_again t.which ws t.judging t.most h.1

pub words_are_tasks : WordsAreTasks
words_are_tasks ws t = (task_says ws t, task_again ws t)
