-- The theorems of `Trace`: its definitions and first laws are in specs/.
use Rattle.std.specs.Prelude.{◌≡◌, refl, ◌||◌, ◌⊎◌, ◌↔◌, List, [], ◌∷◌, ℕ, zero, suc, ◌+◌, ◌≤◌, ◌<◌, T, eqb}
use Rattle.std.proofs.Common.{sym, ap, subst, ◌∙◌, inl, inr, ⊎_elim, arith, eqb→eq}
use Rattle.std.proofs.Math.Decide.{dec_lt, ℕ_discrete}
use Rattle.std.proofs.Math.Facts.{and_yes, or_yes}
use Rattle.rules.specs.Lists.{rise_le}
use Rattle.rules.specs.Cheapest.{cheapest_unique}
use Rattle.rules.specs.Cutting.{Pairs, Tree, leaf, link, First}
use Rattle.rules.specs.Trees.{Node, Line}
use Rattle.rules.specs.Table.{Road, road_rise, Way, Piece, Closes, Table, walk, grow, grown}
use Rattle.rules.proofs.Table.{lines}
use Rattle.rules.specs.Uses.{is_line, uses}
use Rattle.rules.specs.Valid.{same_set}
use Rattle.rules.proofs.Answer.{table_first}
use Rattle.rules.specs.Traced.{LineOfRoad, Whole, Traced, on_within}
use Rattle.rules.specs.Trace.{on_uses}

module _ {cut : ℕ → ℕ → Type 0} {ok : List ℕ → Type 0} {w : ℕ → ℕ → ℕ} {may : ℕ → ℕ → Type 0} {val : ℕ → ℕ → ℕ}
    {choice : ℕ → ℕ → List ℕ} {m : ℕ}
    (big : 2 ≤ m) (table : Table cut ok w may val choice (suc m)) where
  -- the bound on the depth of a tree does not matter
  grow_fuel : (f f' a b : ℕ) → a < b → b < suc m → b ≤ a + f → b ≤ a + f' → Way cut may a b →
      grow choice f a b ≡ grow choice f' a b
  grow_fuel f f' a b lt hn h h' way = cheapest_unique (lines table f a b lt hn h) (lines table f' a b lt hn h') way

  -- the piece on a line that has one
  pub choice_piece : (i j : ℕ) → suc i < j → j < suc m → may i j → Closes cut (suc m) i j →
      Piece cut may ok i j (choice i j)
  choice_piece i j ij jm h c = ((table.range i j ij jm c).attained h).0

  -- its lines are narrower
  pub line_narrow : (i j c d : ℕ) → suc i < j → j < suc m → may i j → Closes cut (suc m) i j →
      LineOfRoad i (choice i j) c d →
      (i ≤ c) × (c < d) × (d ≤ j) × (d + i < j + c) × Way cut may c d
  line_narrow i j c d ij jm h cl o =
      let p = choice_piece i j ij jm h cl in
      go (choice i j) p o
    where
      go : (s : List ℕ) → Piece cut may ok i j s → LineOfRoad i s c d →
          (i ≤ c) × (c < d) × (d ≤ j) × (d + i < j + c) × Way cut may c d
      go [] p o = absurd o
      go (b ∷ s) p (inl e) =
          let q = on_within (Way cut may) i j (b ∷ s) p.1 c d (inl e) in
          (q.0, q.1, q.2, omega (arith, e.0, e.1, p.0.0), q.3)
      go (b ∷ s) p (inr o) =
          let q = on_within (Way cut may) b j s p.1.2 c d o in
          (omega (arith, q.0, p.1.0), q.1, q.2, omega (arith, q.0, q.2, p.1.0), q.3)

  grow_side : (f a : ℕ) → suc a < suc m → grow choice f a (suc a) ≡ leaf
  grow_side zero a h = refl
  grow_side (suc f) a h = ap (walk (grow choice f) a) (table.side_choice a h)

  module _ (M : Pairs) (traced : Traced cut may choice m (λ i j. Unit {0}) M) where
    piece : (i j : ℕ) → T (M i j) → Piece cut may ok i j (choice i j)
    piece i j h = let q = traced.ways i j h in choice_piece i j q.0 q.1 q.2 q.3

    -- ---- what the tree uses was traced
    module _ (f c d : ℕ) (under : (a b : ℕ) → T (M a b) → T (uses a (grow choice f a b) c d) → T (M c d)) where
      along : (a j : ℕ) (s : List ℕ) → j < suc m → Road (Way cut may) a j s →
          ((p q : ℕ) → LineOfRoad a s p q → suc p < q → T (M p q)) →
          T (uses a (walk (grow choice f) a s) c d) → T (M c d)
      along a j [] jm r all h = absurd h
      along a j (b ∷ s) jm r all h =
          ⊎_elim first
          (λ k. ⊎_elim second (along b j s jm r.2 (λ p q o. all p q (inr o)))
          (or_yes (uses a (grow choice f a b) c d) (uses b (walk (grow choice f) b s) c d) k))
          (or_yes (is_line a b (grow choice f a b) c d)
          (uses a (grow choice f a b) c d || uses b (walk (grow choice f) b s) c d) h)
        where
          le : b ≤ j
          le = rise_le b j s (road_rise (Way cut may) b j s r.2)

          -- nothing stands on a side
          wide : Node (grow choice f a b) → suc a < b
          wide k = go (dec_lt (suc a) b)
            where
              go : Dec (suc a < b) → suc a < b
              go (yes p) = p
              go (no p) =
                  let e : b ≡ suc a = omega (arith, r.0) in
                  absurd (subst Node (ap (grow choice f a) e ∙ grow_side f a (omega (arith, le, r.0))) k)

          node : (t : Tree) → T (is_line a b t c d) → Node t × (c ≡ a) × (d ≡ b)
          node leaf k = absurd k
          node (link x u v) k = let p = and_yes (eqb c a) (eqb d b) k in (tt, eqb→eq c a p.0, eqb→eq d b p.1)

          used : (t : Tree) → T (uses a t c d) → Node t
          used leaf k = absurd k
          used (link x u v) k = tt

          first : T (is_line a b (grow choice f a b) c d) → T (M c d)
          first k =
              let q = node (grow choice f a b) k in
              let z = wide q.0 in
              all c d (inl (q.1, q.2)) (omega (arith, q.1, q.2))

          second : T (uses a (grow choice f a b) c d) → T (M c d)
          second k = under a b (all a b (inl (refl, refl)) (wide (used (grow choice f a b) k))) k

    uses_traced : (f a b c d : ℕ) → T (M a b) → T (uses a (grow choice f a b) c d) → T (M c d)
    uses_traced zero a b c d h k = absurd k
    uses_traced (suc f) a b c d h k =
        let q = traced.ways a b h in
        along f c d (λ x y. uses_traced f x y c d) a b (choice a b) q.1 (piece a b h).1
        (λ x y o. traced.down a b x y tt h o) k

    -- ---- what was traced is used
    abbrev U : Pairs
    U = uses 0 (grown choice 0 m)

    -- the tree on the line c d stands in the whole tree
    abbrev Sub : ℕ → ℕ → Type 0
    Sub c d = (p q : ℕ) → T (uses c (grown choice c d) p q) → T (U p q)

    cut_way : (c d : ℕ) → ¬ Whole m c d → T (M c d) → Way cut may c d
    cut_way c d ne h =
        let q = traced.ways c d h in
        ⊎_elim (λ k. inr (k, q.2)) (λ k. absurd (ne (k.0, omega (arith, k.1)))) q.3

    stands : (f c d : ℕ) → ¬ Whole m c d → T (M c d) → d ≤ c + f → Node (grow choice f c d)
    stands f c d ne h hf =
        let q = traced.ways c d h in
        let l = ((lines table f c d (omega (arith, q.0)) q.1 hf).attained (cut_way c d ne h)).0 in
        go (grow choice f c d) q.0 l
      where
        go : (t : Tree) → suc c < d → Line cut ok c d t → Node t
        go leaf p l = absurd (omega arith)
        go (link b u r) p l = tt

    abbrev Within : ℕ → ℕ → Type 0
    Within c d = Sub c d × (Whole m c d ⊎ T (U c d))

    abbrev Parent : ℕ → ℕ → Type 0
    Parent c d = (i : ℕ) × (j : ℕ) × T (M i j) × LineOfRoad i (choice i j) c d × (d + i < j + c)

    sub_whole : (c d : ℕ) → Whole m c d → Within c d
    sub_whole c d e = (rw (e.0, e.1) (λ p q z. z), inl e)

    whole? : (c d : ℕ) → Dec (Whole m c d)
    whole? c d = go (ℕ_discrete c 0) (ℕ_discrete d m)
      where
        go : Dec (c ≡ 0) → Dec (d ≡ m) → Dec (Whole m c d)
        go (yes p) (yes q) = yes (p, q)
        go (no p) z = no (λ k. p k.0)
        go (yes p) (no q) = no (λ k. q k.1)

    sub_line : (c d : ℕ) → T (M c d) → (z : Parent c d) → Within z.0 z.1 → ¬ Whole m c d → Within c d
    sub_line c d h z S ne =
        let i = z.0 in
        let j = z.1 in
        let q = traced.ways i j z.2 in
        let l = line_narrow i j c d q.0 q.1 q.2 q.3 z.3 in
        let o = on_uses (grow choice j) i (choice i j) c d z.3 in
        let e : grown choice c d ≡ grow choice j c d =
        grow_fuel (suc d) j c d l.1 (omega (arith, l.2, q.1)) (omega arith) (omega (arith, l.2))
        (cut_way c d ne h) in (
          λ x y k. S.0 x y (o.1 x y (subst (λ (t : Tree). T (uses c t x y)) e k)),
          inr (S.0 c d (o.0 (stands j c d ne h (omega (arith, l.2))))),
        )

    sub : (k c d : ℕ) → m + c ≤ d + k → T (M c d) → Within c d
    sub zero c d hk h = go (traced.up c d h)
      where
        go : Whole m c d ⊎ Parent c d → Within c d
        go (inl e) = sub_whole c d e
        go (inr z) = absurd (omega (arith, z.4, (traced.ways z.0 z.1 z.2).1))
    sub (suc k) c d hk h = go (traced.up c d h) (whole? c d) (sub k)
      where
        go : Whole m c d ⊎ Parent c d → Dec (Whole m c d) → ((i j : ℕ) → m + i ≤ j + k → T (M i j) → Within i j) →
            Within c d
        go (inl e) w f = sub_whole c d e
        go (inr z) (yes e) f = sub_whole c d e
        go (inr z) (no ne) f = sub_line c d h z (f z.0 z.1 (omega (arith, z.4)) z.2) ne

    -- ---- so the set without the whole range is the answer
    pub traced_uses : (c d : ℕ) → ¬ Whole m c d → T (M c d) ↔ T (U c d)
    traced_uses c d ne = (
      λ h. ⊎_elim (λ e. absurd (ne e)) (λ u. u) (sub (m + c) c d (omega arith) h).1,
      λ u. uses_traced (suc m) 0 m c d traced.whole u,
    )

    pub traced_first : (C : Pairs) → ((c d : ℕ) → T (C c d) ↔ (T (M c d) × ¬ Whole m c d)) → First cut ok w (suc m) C
    traced_first C same = subst (First cut ok w (suc m)) (sym (same_set C U both)) (table_first big table may_top).0
      where
        may_top : may 0 m
        may_top = (traced.ways 0 m traced.whole).2

        proper : (c d : ℕ) → T (U c d) → ¬ Whole m c d
        proper c d u e =
            let B = (table_first big table may_top).0 in
            (B.valid.uncrossed.inner c d u).no_side (inr (e.0, omega (arith, e.1)))

        both : (c d : ℕ) → T (C c d) ↔ T (U c d)
        both c d = (
          λ k. let q = (same c d).0 k in (traced_uses c d q.1).0 q.0,
          λ u. (same c d).1 ((traced_uses c d (proper c d u)).1 u, proper c d u),
        )
