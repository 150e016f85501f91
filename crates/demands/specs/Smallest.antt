-- The first smallest cutting of two drawings, as antt computes it: all cuttings that the tests of sight allow are
-- listed, and the first of the fewest is picked. It is 01's, and where nothing is listed no cutting is valid. There is
-- a test for each kind of sight: the strict one for cuts, and for centres one that tells of sound drawings only.
use Rattle.std.specs.Prelude.{◌≡◌, refl, Bool, true, false, List, [], ◌∷◌, ℕ, suc, ◌-◌, ◌≤◌, ◌<◌, T, ltb, ℤ}
use Rattle.std.proofs.Common.{sym, subst, inl, inr, arith}
use Rattle.std.proofs.Math.Logic.Iff
use Rattle.limits.specs.Limits.{fewest_corners}
use Rattle.outline.specs.Drawing.{corners}
use Rattle.outline.specs.Tells.{Tells, as_well, itself, then_tells}
use Rattle.outline.specs.Seeing.{sees_mutual}
use Rattle.outline.specs.Mirror.{sees_test, sees_tells}
use Rattle.outline.proofs.CentreMirror.{centre_test, centre_tells}
use Rattle.pair.specs.Passing.{SoundPair, equally_many}
use Rattle.rules.specs.Lists.{In}
use Rattle.rules.specs.Cutting.{Pairs, Uncrossed, Region, Tree, leaf, link, tree, pieces, told, one}
use Rattle.rules.specs.Centre.{Lowest, Layout}
use Rattle.rules.specs.Plan.{Plan, stars, ValidBy, FirstBy, Cuttable}
use Rattle.rules.specs.Trees.{Node, range_node}
use Rattle.rules.proofs.Trees.{total}
use Rattle.rules.proofs.Regions.{pieces_regions}
use Rattle.rules.specs.Uses.{uses}
use Rattle.rules.specs.Valid.{same_set}
use Rattle.rules.proofs.Valid.{uses_tree}
use Rattle.rules.specs.Agree.{Agree, stars_agree}
use Rattle.rules.proofs.Agree.{valid_same, first_same, layout_same}
use Rattle.rules.specs.Lays.{Says, has_centre, has_centre_lem, lays}
use Rattle.rules.proofs.Lays.{lays_layout}
use Rattle.rules.proofs.Listing.{listing, listing_all}
use Rattle.rules.proofs.Pick.{lightest, pick}
use Rattle.rules.proofs.Computed.{none_listed, listed_cutting, pick_first}
use Rattle.desk.specs.Answer.{InBoth, Cut, plan, ValidCutting}

-- ---- where something is listed, a range is picked
pick_node : (w : ℕ → ℕ → ℕ) (i j : ℕ) (t : Tree) (l : List Tree) → ((u : Tree) → In u (t ∷ l) → Node u) →
    Node (pick w i j (t ∷ l))
pick_node w i j t l f = go (total w i j t) t l (f t (inl refl)) (λ u h. f u (inr h))
  where
    go : (k : ℕ) (t : Tree) (l : List Tree) → Node t → ((u : Tree) → In u l → Node u) → Node (lightest w i j k t l)
    go k t [] h f = h
    go k t (u ∷ l) h f =
        step (ltb (total w i j u) k) (go (total w i j u) u l (f u (inl refl)) (λ v g. f v (inr g)))
        (go k t l h (λ v g. f v (inr g)))
      where
        step : (b : Bool) → Node (lightest w i j (total w i j u) u l) → Node (lightest w i j k t l) →
            Node (elim b [ true ↦ lightest w i j (total w i j u) u l | false ↦ lightest w i j k t l ])
        step true p q = p
        step false p q = q

abbrev pub node_test : Tree → Bool
node_test leaf = false
node_test (link b u r) = true

node_tells : (t : Tree) → Tells (node_test t) (Node t)
node_tells leaf = itself false
node_tells (link b u r) = itself true

-- ---- the cuttings of two drawings
module _ (first second : List ℤ) where
  -- a and b see each other in both by the strict rule; that is mutual, so one direction is enough
  abbrev cut_test : ℕ → ℕ → Bool
  cut_test a b = elim (sees_test first a b) as (λ z. Bool) [ true ↦ sees_test second a b | false ↦ false ]

  cut_tells : (a b : ℕ) → Tells (cut_test a b) (Cut first second a b)
  cut_tells a b =
      as_well (then_tells (sees_tells first a b) (sees_tells second a b))
      (λ h. (h, (sees_mutual h.0, sees_mutual h.1))) (λ h. h.0)

  -- a centre x sees y in both
  abbrev pub both_test : ℕ → ℕ → Bool
  both_test x y = elim (centre_test first x y) as (λ z. Bool) [ true ↦ centre_test second x y | false ↦ false ]

  abbrev piece_test : List ℕ → Bool
  piece_test = has_centre both_test

  abbrev last_corner : ℕ
  last_corner = corners first - 1

  abbrev pub listed : List Tree
  listed = listing cut_test piece_test 0 last_corner

  abbrev pub smallest : Tree
  smallest = pick one 0 last_corner listed

  -- ---- the plan that the tests make
  abbrev tested : Plan
  tested = record {
    cut = Says cut_test;
    piece = λ S. T (piece_test S);
    weight = one;
    centre = Lowest (Says both_test);
  }

  -- the first of the smallest by a plan, told as its tree is
  abbrev pub Picked : Plan → Type 0
  Picked p = FirstBy p (corners first) (uses 0 smallest) × (pieces (corners first) (uses 0 smallest) ≡ told 0 smallest)

  module _ (sound : SoundPair first second) where
    enough : fewest_corners ≤ corners first
    enough = sound.alike.enough

    both_tells : (x y : ℕ) → x < corners first → y < corners first → Tells (both_test x y) (InBoth first second x y)
    both_tells x y h g =
        then_tells (centre_tells first sound.first_sound.simple x y h g)
        (centre_tells second sound.second_sound.simple x y (there h) (there g))
      where
        there : {x : ℕ} → x < corners first → x < corners second
        there h = omega (arith, equally_many sound.alike)

    -- it agrees with 01's
    agree : Agree (corners first) tested (plan first second)
    agree =
        let A : Agree (corners first) (stars (Says cut_test) (Says both_test)) (plan first second) =
        stars_agree (λ a b i. ((cut_tells a b).sure, (cut_tells a b).told))
        (λ x y h g. ((both_tells x y h g).sure, (both_tells x y h g).told)) in
        record {
          cuts = A.cuts;
          lists = λ S r s t. Iff.trans (has_centre_lem both_test S) (A.lists S r s t);
          weighs = A.weighs;
          centres = A.centres;
        }

    count_is : suc last_corner ≡ corners first
    count_is = omega (arith, enough)

    -- what is picked is the first of the smallest by the tests
    tested_first : Node smallest → Picked tested
    tested_first k =
        subst (λ n. FirstBy tested n (uses 0 smallest) × (pieces n (uses 0 smallest) ≡ told 0 smallest)) count_is
        (pick_first cut_test piece_test last_corner one (omega arith) smallest refl k)

    -- so it is the first of the smallest
    pub smallest_first : Node smallest → Picked (plan first second)
    smallest_first k = let p = tested_first k in (first_same agree (uses 0 smallest) p.0, p.1)

    -- what is listed is a valid cutting, told as the tree is
    pub listed_told : (t : Tree) → In t listed →
        ValidCutting first second (uses 0 t) × (pieces (corners first) (uses 0 t) ≡ told 0 t)
    listed_told t i =
        let v = subst (λ n. ValidBy tested n (uses 0 t) × (pieces n (uses 0 t) ≡ told 0 t)) count_is
        (listed_cutting cut_test piece_test last_corner (omega arith) t i) in
        ((valid_same agree (uses 0 t)).0 v.0, v.1)

    -- so any cutting whose tree is listed is valid
    pub listed_valid : (C : Pairs) → Uncrossed (corners first) C → In (tree (corners first) C) listed →
        ValidCutting first second C
    listed_valid C un i =
        let t = tree (corners first) C in
        let same = same_set (uses 0 t) C (λ a b. let e = uses_tree (corners first) C enough un a b in (e.1, e.0)) in
        subst (ValidCutting first second) same (listed_told t i).0

    -- where there is a valid cutting, one is picked
    picked : (C : Pairs) → ValidCutting first second C → (l : List Tree) → listed ≡ l → Node (pick one 0 last_corner l)
    picked C va [] e =
        absurd (none_listed cut_test piece_test last_corner (omega arith) e C
        (subst (λ n. ValidBy tested n C) (sym count_is) ((valid_same agree C).1 va)))
    picked C va (t ∷ l) e = pick_node one 0 last_corner t l (λ u i. nodes u (subst (In u) (sym e) i))
      where
        nodes : (u : Tree) → In u listed → Node u
        nodes u i =
            range_node tested.cut tested.piece 0 last_corner u
            ((listing_all cut_test piece_test 0 last_corner (omega arith)).only u i)

    pub smallest_node : Cuttable (plan first second) (corners first) → Node smallest
    smallest_node c = picked c.0 c.1 listed refl

    pub smallest_tells : Tells (node_test smallest) (Cuttable (plan first second) (corners first))
    smallest_tells = as_well (node_tells smallest) (λ k. (uses 0 smallest, (smallest_first k).0.valid)) smallest_node

    pub smallest_layout : Node smallest →
        Layout (plan first second).centre (pieces (corners first) (uses 0 smallest))
        (lays both_test (told 0 smallest))
    smallest_layout k = layout_same agree (uses 0 smallest) _ enough p.0.valid (rw p.1 laid)
      where
        p : Picked tested
        p = tested_first k

        region : (Q : List ℕ) → In Q (told 0 smallest) → Region (corners first) (uses 0 smallest) Q
        region Q i =
            (pieces_regions (corners first) (uses 0 smallest) enough p.0.valid.uncrossed Q).0
            (subst (In Q) (sym p.1) i)

        laid : Layout tested.centre (told 0 smallest) (lays both_test (told 0 smallest))
        laid =
            lays_layout both_test (told 0 smallest) (λ Q i. (region Q i).rising)
            (λ Q i. (has_centre_lem both_test Q).0 (p.0.valid.allowed Q (region Q i)))
