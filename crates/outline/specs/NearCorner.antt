-- Close to a corner W of a simple closed outline, where side s ends and side t begins, only these two sides count: far
-- enough out, that is, close enough to W, no other side meets the segment between two near points.
use Rattle.std.specs.Prelude.{◌≡◌, Bool, ◌⊎◌, ℕ, zero, suc, ◌<◌, ◌≤◌, ℤ, pos, ◌+ℤ◌, ◌≤ℤ◌}
use Rattle.std.proofs.Common.{sym, ◌∙◌, ap, subst, inl, inr, arith, le_refl, not-suc-le-zero}
use Rattle.std.proofs.Math.Decide.{ℕ_discrete}
use Rattle.whole.specs.Order.{Positive, positive_pos, positive_nonneg, positive_add, ≤ℤ_trans}
use Rattle.outline.specs.Drawing.{Point, Shared}
use Rattle.outline.specs.Placed.{On}
use Rattle.outline.specs.Odd.{◌⊕◌}
use Rattle.outline.specs.Parity.{odd, out, large}
use Rattle.outline.specs.Topmost.{last}
use Rattle.outline.specs.EveryPoint.{Simple}
use Rattle.outline.specs.Near.{near, Off, off_side}
use Rattle.outline.specs.Compare.{first_part, second_part}
use Rattle.outline.specs.Directions.{Away}
use Rattle.outline.specs.SideChanges.{Changes, apart_changes}
use Rattle.outline.specs.AllChanges.{two_changes}

-- what is asked of the outline there
pub record Corner (c : ℕ → Point) (n s t : ℕ) : Type 0 where
  pub closed : c n ≡ c 0
  pub simple : Simple c n
  pub s_below : s < n
  pub t_below : t < n
  pub two : ¬ (s ≡ t)
  pub joined : c (suc s) ≡ c t
  pub off_others : (m : ℕ) → m < n → ¬ (m ≡ s) → ¬ (m ≡ t) → ¬ On (c t) (c m) (c (suc m))
  pub turns : Away (c t) (c (suc t)) (c s)

-- the parity close to W in the direction of z
abbrev pub close : (ℕ → Point) → ℕ → Point → ℤ → Point → Bool
close c n W K z = odd (large K c) (near W K z) n

module _ (c : ℕ → Point) (n s t : ℕ) (here : Corner c n s t) where
  abbrev W : Point
  W = c t

  abbrev p : Point
  p = c s

  -- ---- from N on, no other side meets the segment between two near points
  abbrev Meets : Point → Point → ℕ → ℤ → Type 0
  Meets y z m K = Shared (near W K y) (near W K z) (out K (c m)) (out K (c (suc m)))

  pub record Far (y z : Point) (k : ℕ) : Type 0 where
    pub N : ℤ
    pub N+ : Positive N
    pub far : (m : ℕ) → m < k → ¬ (m ≡ s) → ¬ (m ≡ t) → (K : ℤ) → N ≤ℤ K →
        ¬ Shared (near (c t) K y) (near (c t) K z) (out K (c m)) (out K (c (suc m)))

  one_more : (y z : Point) (k : ℕ) → Far y z k → (M : ℤ) → Positive M →
      (¬ (k ≡ s) → ¬ (k ≡ t) → (K : ℤ) → M ≤ℤ K → ¬ Meets y z k K) → Far y z (suc k)
  one_more y z k f M M+ g = record {
    N = f.N +ℤ M;
    N+ = positive_add f.N+ (positive_nonneg M+);
    far = λ m h not_s not_t K big. at m (last m k h) not_s not_t K big;
  }
    where
      at : (m : ℕ) → (m < k) ⊎ (m ≡ k) → ¬ (m ≡ s) → ¬ (m ≡ t) → (K : ℤ) → (f.N +ℤ M) ≤ℤ K → ¬ Meets y z m K
      at m (inl h) not_s not_t K big = f.far m h not_s not_t K (≤ℤ_trans (first_part f.N M M+) big)
      at m (inr e) not_s not_t K big =
          subst (λ l. ¬ Meets y z l K) (sym e)
          (g (λ h. not_s (e ∙ h)) (λ h. not_t (e ∙ h)) K (≤ℤ_trans (second_part f.N M f.N+) big))

  far_up_to : (y z : Point) (k : ℕ) → k ≤ n → Far y z k
  far_up_to y z zero h = record { N = pos 1; N+ = positive_pos 0; far = λ m i. absurd (not-suc-le-zero i) }
  far_up_to y z (suc k) h = go (far_up_to y z k (omega arith)) (ℕ_discrete k s) (ℕ_discrete k t)
    where
      go : Far y z k → Dec (k ≡ s) → Dec (k ≡ t) → Far y z (suc k)
      go f (yes e) u = one_more y z k f (pos 1) (positive_pos 0) (λ not_s. absurd (not_s e))
      go f (no e) (yes u) = one_more y z k f (pos 1) (positive_pos 0) (λ not_s not_t. absurd (not_t u))
      go f (no e) (no u) = add (off_side y z W (c k) (c (suc k)) (here.simple.ends k h) (here.off_others k h e u))
        where
          add : Off y z W (c k) (c (suc k)) → Far y z (suc k)
          add g = one_more y z k f g.M g.M+ (λ not_s not_t. g.far)

  pub far_all : (y z : Point) → Far y z n
  far_all y z = far_up_to y z n (le_refl n)

  -- so the two sides at W settle how the parity changes between two directions
  pub settled : (y z : Point) (f : Far y z n) (K : ℤ) → f.N ≤ℤ K → (e g : Bool) →
      Changes (near (c t) K y) (near (c t) K z) (out K (c s)) (out K (c t)) e →
      Changes (near (c t) K y) (near (c t) K z) (out K (c t)) (out K (c (suc t))) g →
      close c n (c t) K y ⊕ close c n (c t) K z ≡ e ⊕ g
  settled y z f K h e g at_s at_t =
      two_changes (large K c) n (ap (out K) here.closed) (near W K y) (near W K z) s t e g here.s_below
      here.t_below here.two
      (subst (λ w. Changes (near W K y) (near W K z) (out K p) (out K w) e) (sym here.joined) at_s) at_t
      (λ m i j l. apart_changes (near W K y) (near W K z) (out K (c m)) (out K (c (suc m))) (f.far m i j l K h))
