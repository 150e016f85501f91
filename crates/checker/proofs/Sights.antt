-- What is said of bytes by the cells of two drawings is said by their sight.
use mathlib.Core.Path.{refl}
use mathlib.Core.Logic.{inl, inr, ◌↔◌}
use mathlib.Core.List.{List, [], ◌∷◌}
use Prim.Native.Nat.{ℕ, suc, ◌<◌}
use native.Mathlib.Omega.{arith}
use lib.IntN.{ℤ}
use Rattle.outline.specs.Drawing.{corners}
use Rattle.outline.specs.Seeing.{sees_mutual}
use Rattle.drawing.specs.Sight.{Seen}
use Rattle.rules.specs.Lists.{In}
use Rattle.checker.specs.Checks.{Entry, Allowed, Sight, sight_in, LinesSeen, CentreSeesAll}
use Rattle.checker.specs.Checks.{FirstFailed, of_pieces, OfBytes}
use Rattle.checker.specs.Parts.{in_cells}
use Rattle.checker.specs.declared.flat.Verdict.{Verdict}

-- ---- two readings of sight that agree on n corners
pub record Agree (n : ℕ) (s t : Sight) : Type 0 where
  pub strictly : (x y : ℕ) → x < n → y < n → s.strictly x y ↔ t.strictly x y
  pub as_centre : (x y : ℕ) → x < n → y < n → s.as_centre x y ↔ t.as_centre x y

-- the cells of a drawing and its sight do; strict sight is mutual
pub cells_agree : {d : List ℤ} {before after : List ℕ} → Seen d before after →
    Agree (corners d) (in_cells after) (sight_in d)
cells_agree h = record {
  strictly = λ x y p q.
      let c = h.told x y p q in
      ((λ e. let s = c.one.0 e in (s, sees_mutual s)), (λ s. c.one.1 s.0));
  as_centre = λ x y p q.
      let c = h.told x y p q in
      let small = c.small in
      ((λ e. c.two.0 (omega (arith, e, small))), (λ s. let e = c.two.1 s in omega (arith, e)));
}

module _ {n : ℕ} {s t : Sight} (g : Agree n s t) (e : Entry) (a : Allowed n e) where
  lines_same : LinesSeen s e.corners ↔ LinesSeen t e.corners
  lines_same = (
    (λ h x y i j lt near. (g.strictly x y (a.below x i) (a.below y j)).0 (h x y i j lt near)),
    (λ h x y i j lt near. (g.strictly x y (a.below x i) (a.below y j)).1 (h x y i j lt near)),
  )

  centre_same : CentreSeesAll s e ↔ CentreSeesAll t e
  centre_same = (
    (λ h y i. (g.as_centre e.centre y (a.below e.centre a.own) (a.below y i)).0 (h y i)),
    (λ h y i. (g.as_centre e.centre y (a.below e.centre a.own) (a.below y i)).1 (h y i)),
  )

-- ---- so of pieces and of bytes the same is said
module _ {n : ℕ} {s s' t t' : Sight} (f : Agree n s s') (g : Agree n t t') where
  pieces_same : (place : ℕ) (l : List Entry) → ((e : Entry) → In e l → Allowed n e) → (v : Verdict) →
      FirstFailed (of_pieces s t place l) v → FirstFailed (of_pieces s' t' place l) v
  pieces_same place [] each v h = h
  pieces_same place (e ∷ l) each v h =
      go h (each e (inl refl)) (λ k. pieces_same (suc place) l (λ e i. each e (inr i)) v k)
    where
      go : FirstFailed (of_pieces s t place (e ∷ l)) v → Allowed n e →
          (FirstFailed (of_pieces s t (suc place) l) v → FirstFailed (of_pieces s' t' (suc place) l) v) →
          FirstFailed (of_pieces s' t' place (e ∷ l)) v
      go (inl h) a on = inl ((λ k. h.0 ((lines_same f e a).1 k)), h.1)
      go (inr (p, inl h)) a on = inr ((lines_same f e a).0 p, inl ((λ k. h.0 ((lines_same g e a).1 k)), h.1))
      go (inr (p, inr (q, inl h))) a on =
          inr ((lines_same f e a).0 p, inr ((lines_same g e a).0 q, inl ((λ k. h.0 ((centre_same f e a).1 k)), h.1)))
      go (inr (p, inr (q, inr (c, inl h)))) a on =
          inr (
            (lines_same f e a).0 p,
            inr (
              (lines_same g e a).0 q,
              inr (
                (centre_same f e a).0 c,
                inl ((λ k. h.0 ((centre_same g e a).1 k)), h.1),
              ),
            ),
          )
      go (inr (p, inr (q, inr (c, inr (d, h))))) a on =
          inr (
            (lines_same f e a).0 p,
            inr (
              (lines_same g e a).0 q,
              inr (
                (centre_same f e a).0 c,
                inr ((centre_same g e a).0 d, on h),
              ),
            ),
          )

  pub bytes_same : (bytes : List ℕ) (v : Verdict) → OfBytes s t n bytes v → OfBytes s' t' n bytes v
  bytes_same bytes v (inl h) = inl h
  bytes_same bytes v (inr (l, k, inl h)) = inr (l, k, inl h)
  bytes_same bytes v (inr (l, k, inr (p, h))) = inr (l, k, inr (p, pieces_same 0 l k.each v h))
