-- The theorems of `Across`: its definitions and first laws are in specs/.
use Rattle.std.specs.Prelude.{◌≡◌, List, ℕ, zero, suc, ◌<◌, ℤ}
use Rattle.std.proofs.Common.{subst, inl, inr, arith}
use Rattle.std.proofs.Math.Logic.{by_cases}
use Rattle.std.proofs.Math.Decide.{ℕ_discrete, dec_lt}
use Rattle.outline.specs.Drawing.{Shared, Sound, corner, corners, after, Beside, Sees}
use Rattle.outline.specs.InOrOn.{CentreSees}
use Rattle.outline.specs.Segments.{exchanged, turned_second}
use Rattle.outline.specs.Round.{next_inner, next_last}
use Rattle.outline.specs.Seeing.{sees_mutual}
use Rattle.outline.specs.Placed.{On, touch_meets}
use Rattle.outline.proofs.CentreParts.{sees_parts}
use Rattle.outline.proofs.CentreMiddle.{sees_clear}
use Rattle.outline.specs.Way.{GrazedBy, Free, free_of}
use Rattle.outline.proofs.TwoKinds.{free_kinds}
use Rattle.outline.specs.Third.{long}
use Rattle.outline.proofs.Third.{first_shorter, second_shorter}
use Rattle.outline.specs.Squeezed.{part_shared, first_shared}
use Rattle.outline.proofs.Interleaved.{interleaved_meet}
use Rattle.outline.specs.Across.{Beyond}

module _ (d : List ℤ) (sound : Sound d) (x y : ℕ) (xy : x < y) (hy : y < corners d) (strict : Sees d x y) where
  abbrev Meet : ℕ → ℕ → Type 0
  Meet i j = Shared (corner d i) (corner d j) (corner d x) (corner d y)

  -- i between x and y, j beyond them: they are no neighbours
  no_neighbours : (i j : ℕ) → x < i → i < y → j < corners d → Beyond x y j → ¬ Beside d i j
  no_neighbours i j xi iy hj out (inl e) = at out
    where
      at : Beyond x y j → ⊥
      at (inl h) = omega (arith, e, h, xi)
      at (inr h) = omega (arith, e, h, iy)
  no_neighbours i j xi iy hj out (inr (inl e)) = at out
    where
      next_i : after d i ≡ suc i
      next_i = next_inner (corners d) i (omega (arith, iy, hy))

      at : Beyond x y j → ⊥
      at (inl h) = omega (arith, e, next_i, h, xi)
      at (inr h) = omega (arith, e, next_i, h, iy)
  no_neighbours i j xi iy hj out (inr (inr e)) =
      by_cases (dec_lt (suc j) (corners d)) (λ h. at out (next_inner (corners d) j h))
      (λ h. omega (arith, e, next_last (corners d) j (omega (arith, h, hj)), xi))
    where
      at : Beyond x y j → after d j ≡ suc j → ⊥
      at (inl h) f = omega (arith, e, f, h, xi)
      at (inr h) f = omega (arith, e, f, h, iy)

  -- two corners that see each other strictly
  strict_across : (i j : ℕ) → x < i → i < y → j < corners d → Beyond x y j → Sees d i j → ¬ ¬ Meet i j
  strict_across i j xi iy hj (inr yj) s never =
      interleaved_meet d sound.simple x i y j xi iy yj hj strict s (λ t. never (turned_second t))
  strict_across i j xi iy hj (inl jx) s never =
      interleaved_meet d sound.simple j x i y jx xi iy hy
      (sees_mutual s) strict (λ t. never (exchanged t))

  abbrev Across : ℕ → ℕ → Type 0
  Across i j = x < i → i < y → j < corners d → Beyond x y j → CentreSees d i j → ¬ ¬ Meet i j

  by_parts : (i j : ℕ) → ((k l : ℕ) → long d k l < long d i j → Across k l) → Across i j
  by_parts i j shorter_meet xi iy hj out s never =
      strict_across i j xi iy hj out
      ((free_kinds d sound i j hi hj (no_neighbours i j xi iy hj out) free).0 s) never
    where
      hi : i < corners d
      hi = omega (arith, iy, hy)

      ij : ¬ (i ≡ j)
      ij e = no_neighbours i j xi iy hj out (inl e)

      -- a corner on the way parts the line
      third : (k : ℕ) → GrazedBy d i j k → ⊥
      third k g = at (ℕ_discrete k x) (ℕ_discrete k y) (dec_lt k x) (dec_lt y k)
        where
          parts : CentreSees d i k × CentreSees d k j
          parts = sees_parts d i j k g.on s

          to_k : Beyond x y k → ⊥
          to_k b =
              shorter_meet i k (first_shorter d sound.simple i j k hi hj g) xi iy g.below b parts.0
              (λ t. never (first_shared (corner d i) (corner d k) (corner d j) (corner d x) (corner d y) g.on t))

          at : Dec (k ≡ x) → Dec (k ≡ y) → Dec (k < x) → Dec (y < k) → ⊥
          at (yes e) q r t =
              never (touch_meets (corner d i) (corner d j) (corner d x) (corner d y)
              (inl (inl (subst (λ l. On (corner d l) (corner d i) (corner d j)) e g.on))))
          at (no p) (yes e) r t =
              never (touch_meets (corner d i) (corner d j) (corner d x) (corner d y)
              (inl (inr (subst (λ l. On (corner d l) (corner d i) (corner d j)) e g.on))))
          at (no p) (no q) (yes r) t = to_k (inl r)
          at (no p) (no q) (no r) (yes t) = to_k (inr t)
          at (no p) (no q) (no r) (no t) =
              shorter_meet k j (second_shorter d sound.simple i j k hi hj g) (omega (arith, p, r))
              (omega (arith, q, t)) hj out parts.1
              (λ m. never (part_shared (corner d i) (corner d k) (corner d j) (corner d x) (corner d y) g.on m))

      free : Free d i j
      free k hk = free_of d i j k hk (sees_clear d sound.simple i j hi hj ij s k hk) (third k)

  across : (most i j : ℕ) → long d i j < most → Across i j
  across zero i j h = absurd (omega arith)
  across (suc most) i j h = by_parts i j (λ k l less. across most k l (omega arith))

  -- ---- the statement
  pub centre_across : (i j : ℕ) → x < i → i < y → j < corners d → Beyond x y j → CentreSees d i j →
      ¬ ¬ Shared (corner d i) (corner d j) (corner d x) (corner d y)
  centre_across i j = across (suc (long d i j)) i j (omega arith)
