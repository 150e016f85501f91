-- A piece without fault: its lines are seen and its centre sees all its corners, in both drawings. Nothing is said
-- against the pieces of a list exactly when each of them is one.
use Rattle.std.specs.Prelude.{◌≡◌, refl, ◌↔◌, List, [], ◌∷◌, ℕ, suc}
use Rattle.std.proofs.Common.{sym, ap, subst, inl, inr, arith}
use Rattle.pair.specs.declared.Which.{Which}
use Rattle.pair.specs.declared.Which.TheVariants.{First, Second}
use Rattle.rules.specs.Lists.{In}
use Rattle.checker.specs.Checks.{says, says_at, Entry, Sight, LinesSeen, CentreSeesAll, FirstFailed, of_pieces}
use Rattle.checker.specs.declared.flat.Verdict.{Verdict}

pub record Faultless (first second : Sight) (e : Entry) : Type 0 where
  pub first_lines : LinesSeen first e.corners
  pub second_lines : LinesSeen second e.corners
  pub first_centre : CentreSeesAll first e
  pub second_centre : CentreSeesAll second e

-- what is said of a fault is no acceptance
a_fault : (k place : ℕ) (which : Which) → says 0 ≡ says_at (suc k) place which → ⊥
a_fault k place which e = omega (arith, ap (λ (v : Verdict). v.number) e)

module _ (first second : Sight) where
  abbrev pub AllFaultless : List Entry → Type 0
  AllFaultless l = (e : Entry) → In e l → Faultless first second e

  faultless : (place : ℕ) (l : List Entry) → FirstFailed (of_pieces first second place l) (says 0) → AllFaultless l
  faultless place [] h e i = absurd i
  faultless place (f ∷ l) (inl h) e i = absurd (a_fault 22 place First h.1)
  faultless place (f ∷ l) (inr (a, inl h)) e i = absurd (a_fault 22 place Second h.1)
  faultless place (f ∷ l) (inr (a, inr (b, inl h))) e i = absurd (a_fault 23 place First h.1)
  faultless place (f ∷ l) (inr (a, inr (b, inr (c, inl h)))) e i = absurd (a_fault 23 place Second h.1)
  faultless place (f ∷ l) (inr (a, inr (b, inr (c, inr (d, h))))) e (inl q) =
      subst (Faultless first second) (sym q)
      (record { first_lines = a; second_lines = b; first_centre = c; second_centre = d })
  faultless place (f ∷ l) (inr (a, inr (b, inr (c, inr (d, h))))) e (inr i) = faultless (suc place) l h e i

  unsaid : (place : ℕ) (l : List Entry) → AllFaultless l → FirstFailed (of_pieces first second place l) (says 0)
  unsaid place [] h = refl
  unsaid place (f ∷ l) h =
      let g = h f (inl refl) in
      let rest = unsaid (suc place) l (λ e i. h e (inr i)) in
      inr (g.first_lines, inr (g.second_lines, inr (g.first_centre, inr (g.second_centre, rest))))

  pub all_faultless : (place : ℕ) (l : List Entry) →
      FirstFailed (of_pieces first second place l) (says 0) ↔ AllFaultless l
  all_faultless place l = (faultless place l, unsaid place l)
