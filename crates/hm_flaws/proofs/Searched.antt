-- A search with nothing left to look at, in which no entry breaks a part of legality: the driver breaks none.
use Rattle.std.proofs.Common.{◌≡◌, None, List, [], ◌∷◌, ◌++◌, sym, subst, append_assoc, append-nil}
use Rattle.hm_base.specs.Program.{Program}
use Rattle.hm_history.specs.Kernel.Going.{state_of}
use Rattle.hm_history.specs.declared.Entry.{Entry}
use Rattle.hm_flaws.specs.declared.flaws.Flaw.{Flaw}
use Rattle.hm_flaws.specs.Flawed.{flawed_from, flawed_next, flawed_after}
use Rattle.hm_flaws.specs.Parts.{Part}
use Rattle.hm_flaws.specs.Judged.{UnbrokenBy, Unbroken, broken_by, BreaksNone}
use Rattle.hm_flaws.specs.Closed.{Matched, IsLikeness, IsSafe, AllSafe}
use Rattle.hm_flaws.proofs.Judging.{unbroken_more, after_more}

-- the entries are like those that stand for a key that is done
record Met {K : Type 0} (parts : List Part) (l : Flaw) (c : Program) (h : List Entry) (key : List Entry → K) (Alike : List Entry → List Entry → Type 0) (ks : List K) (x : List Entry) : Type 0 where
  pub key_of : K
  pub safe : IsSafe parts l c h key ks key_of
  pub alike : Alike x safe.entries

meets : {K : Type 0} (parts : List Part) (l : Flaw) (c : Program) (h : List Entry) (key : List Entry → K) (R : List Entry → List Entry → Type 0) (ks : List K) → IsLikeness parts l c h key R → AllSafe parts l c h key ks → (es x : List Entry) → Unbroken parts l c h x → Met parts l c h key R ks x → UnbrokenBy parts l c (h ++ x) (flawed_after l c h x) es → Met parts l c h key R ks (x ++ es)
meets parts l c h key R ks like all [] x u m d = subst (Met parts l c h key R ks) (sym (append-nil x)) m
meets parts l c h key R ks like all (e ∷ es) x u m d = subst (Met parts l c h key R ks) (append_assoc x (e ∷ []) es) (meets parts l c h key R ks like all es (x ++ e ∷ []) (unbroken_more parts l c h (flawed_from (state_of c h)) x e u (d.0, d.1)) (on (like.goes_on x m.safe.entries e m.alike d.0)) rest)
  where
    rest : UnbrokenBy parts l c (h ++ (x ++ e ∷ [])) (flawed_after l c h (x ++ e ∷ [])) es
    rest = subst (λ z. UnbrokenBy parts l c (h ++ (x ++ e ∷ [])) z es) (sym (after_more l c h x e)) (subst (λ z. UnbrokenBy parts l c z (flawed_next l c (flawed_after l c h x) e) es) (append_assoc h x (e ∷ [])) d.2)

    on : Matched parts l c h R x m.safe.entries e → Met parts l c h key R ks (x ++ e ∷ [])
    on g = record { key_of = key y; safe = z; alike = like.joined _ y _ g.next (like.by_key y z.entries uy z.unbroken (sym z.has_key)) }
      where
        y : List Entry
        y = m.safe.entries ++ g.entry ∷ []

        uy : Unbroken parts l c h y
        uy = unbroken_more parts l c h (flawed_from (state_of c h)) m.safe.entries g.entry m.safe.unbroken (g.is_due, m.safe.passes g.entry g.is_due)

        z : IsSafe parts l c h key ks (key y)
        z = all.each (key y) (m.safe.onward g.entry g.is_due)

pub safe_breaks_none : {K : Type 0} (parts : List Part) (l : Flaw) (c : Program) (h : List Entry) (key : List Entry → K) (R : List Entry → List Entry → Type 0) (ks : List K) → IsLikeness parts l c h key R → AllSafe parts l c h key ks → BreaksNone parts l c h
safe_breaks_none {K = K} parts l c h key R ks like all es u e d = by (meets parts l c h key R ks like all es [] tt first (subst (λ z. UnbrokenBy parts l c z (flawed_from (state_of c h)) es) (sym (append-nil h)) u))
  where
    first : Met parts l c h key R ks []
    first = let z = all.each (key []) all.from in record { key_of = key []; safe = z; alike = like.by_key [] z.entries tt z.unbroken (sym z.has_key) }

    by : Met parts l c h key R ks es → broken_by parts l c h es e ≡ None
    by m = on (like.goes_on es m.safe.entries e m.alike d)
      where
        on : Matched parts l c h R es m.safe.entries e → broken_by parts l c h es e ≡ None
        on g = g.passes (m.safe.passes g.entry g.is_due)
