-- `find_map` over an iterator: what holds of the iterator's state as long as the calls give none.
use Rattle.std.proofs.Common.{◌≡◌, sym, subst, List, [], ◌∷◌, ℕ, suc, ◌+◌, ◌<◌, slice_get}
use Rattle.std.specs.Prelude.{Option, Some, None, MatchOption, IfSome, IsTrue}
use Rattle.std.specs.List.{FoldsTo}
use Rattle.std.specs.Fn.{Takes}
use Rattle.std.specs.Iterator.{Yields, CallableAtEachTurn, FindsMapped}
use Rattle.std.specs.Iterator.Runs.{YieldsRun, SomeRun, AllItemsGive, IsFirstToGive}
use denote.Param.Members.{Mut, Called}

module _ {S A F B : Type 0} (steps : S → Option A → S → Type 0) (g : Mut F (A × Unit {0}) (Option B)) (f : F)
    (P : S → Type 0) (Now : A → Option B → Type 0)
    (means : (x : A) (r : Option B) (q : F) → Called g f (x, tt) r q → (q ≡ f) × Now x r)
    (move : (s : S) (x : A) (t : S) → P s → steps s (Some x) t → Now x None → P t) where
  -- a call that gives none leaves the closure as it was
  along : (s t : S) (xs : List A) (q : F) → P s → Yields steps s xs t →
      FoldsTo (λ p x q. Called g p (x, tt) None q) f xs q → P t × (q ≡ f)
  along s t [] q p y h = (subst P y p, sym h)
  along s t (x ∷ xs) q p y h =
      let m = means x None h.0 h.1 in
      along y.0 t xs q (move s x y.0 p y.1 m.1) y.2
      (subst (λ j. FoldsTo (λ p x q. Called g p (x, tt) None q) j xs q) m.0 h.2)

  pub callable : (s : S) → P s → ((t : S) (x : A) (u : S) → P t → steps t (Some x) u → Takes g f (x, tt)) →
      CallableAtEachTurn steps (λ p x q. Called g p (x, tt) None q) (λ p x. Takes g p (x, tt)) s f
  callable s p takes = record {
    at = λ xs t q x u y h k. let a = along s t xs q p y h in
        subst (λ j. Takes g j (x, tt)) (sym a.1) (takes t x u a.0 k);
  }

  all_along : (s t : S) (xs : List A) → P s → Yields steps s xs t →
      ((k : ℕ) → IfSome (slice_get xs k) (λ x. Called g f (x, tt) None f)) → P t
  all_along s t [] p y h = subst P y p
  all_along s t (x ∷ xs) p y h =
      all_along y.0 t xs (move s x y.0 p y.1 (means x None f (h 0)).1) y.2 (λ k. h (suc k))

  module _ (G : Option B → Type 0)
      (hit : (t : S) (x : A) (u : S) (y : B) → P t → steps t (Some x) u → Now x (Some y) → G (Some y))
      (end : (t u : S) → P t → steps t None u → G None) where
    pub finds : (s u : S) (r : Option B) → P s → FindsMapped steps g s f r u →
        SomeRun steps s (λ p. MatchOption r (IsTrue p.whole × AllItemsGive p g f None)
        (λ y. (i : ℕ) × (i < p.len) × (p.len ≡ i + 1) × IsFirstToGive p g f (Some y) None i)) →
        G r
    unfolding YieldsRun
    finds s u (Some y) p ran runs = go ran.1 ran.3.2 ran.5
      where
        a : P ran.3.0 × (ran.2 ≡ f)
        a = along s ran.3.0 ran.0 ran.2 p ran.3.1 ran.4

        go : (o : Option A) → steps ran.3.0 o u →
            MatchOption o (Some y ≡ None) (λ x. (h : F) × Called g ran.2 (x, tt) (Some y) h) → G (Some y)
        go None st e = absurd cc
        go (Some x) st e =
            hit ran.3.0 x u y a.0 st
            (means x (Some y) e.0 (subst (λ j. Called g j (x, tt) (Some y) e.0) a.1 e.1)).1
    finds s u None p ran runs =
        let run = runs.0 in
        let d = run.gave.0 in
        let last = d.2 runs.2.0 in
        let none = runs.2.1 (λ a r q c. (means a.0 r q c).0) in
        end d.0 last.0
        (all_along s d.0 run.items p (subst (λ z. Yields steps z run.items d.0) runs.1 d.1)
        (λ k. subst (λ o. IfSome o (λ x. Called g f (x, tt) None f)) (run.gave.1 k) (none k)))
        last.1
