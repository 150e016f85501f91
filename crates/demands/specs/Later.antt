-- Cuttings beside the one that is given. The row Z, H of 01: "Cuts 0-2, 0-3 and 2-5 are valid alone too, and come
-- later." One computed test of the three. And where fewest and first differ: of seven corners, a cutting of more
-- pieces that is told before the one that is given.
use Rattle.std.specs.Prelude.{◌≡◌, refl, Bool, true, false, not, ◌&&◌, ◌||◌, ℕ, suc, T, eqb, ltb, ℤ, length}
use Rattle.std.proofs.Common.{sym, ◌∙◌, ap, subst, subst₂, inl, inr, ⊎_elim, arith, eqb→eq}
use mathlib.Core.List.{List, [], ◌∷◌, flat_map}
use Rattle.std.specs.Float.Ieee.Fits.{and_l, and_r}
use Rattle.outline.specs.Tells.{Tells, as_well, itself, never, and_tells, or_tells, not_tells, eq_tells, lower_tells}
use Rattle.outline.specs.Outlines.{Z, H}
use Rattle.outline.specs.Mirror.{sound_test, sound_tells}
use Rattle.outline.specs.Drawing.{corners}
use Rattle.pair.specs.Passing.{SoundPair}
use Rattle.rules.specs.Lists.{In}
use Rattle.rules.specs.Cutting.{Pairs, Inner, Uncrossed, Tree, leaf, link, tree, told, pieces, flat, run, Less, one}
use Rattle.rules.specs.Trees.{Node}
use Rattle.rules.proofs.Valid.{first_unique}
use Rattle.rules.specs.Uses.{uses}
use Rattle.desk.specs.Answer.{plan, ValidCutting, FirstCutting}
use Rattle.demands.specs.Checks.{every, every_passes}
use Rattle.demands.specs.Smallest.{listed, smallest, smallest_first, listed_told, listed_valid}
use Rattle.demands.specs.Outlines.{fewest_first, fewest_second}

-- ---- one cut alone
unfoldable pub alone : ℕ → ℕ → Pairs
alone a b x y = eqb x a && eqb y b

alone_is : (a b x y : ℕ) → T (alone a b x y) → (x ≡ a) × (y ≡ b)
unfolding alone
alone_is a b x y = (and_tells (eq_tells x a) (eq_tells y b)).sure

alone_uncrossed : (n a b : ℕ) → Inner n a b → Uncrossed n (alone a b)
alone_uncrossed n a b i = record {
  inner = λ x y h. let p = alone_is a b x y h in rw (p.0, p.1) i;
  apart = λ x y z w h k.
      let p = alone_is a b x y h in
      let q = alone_is a b z w k in
      ⊎_elim (λ c. omega (arith, c.0)) (λ c. omega (arith, c.0));
}

-- ---- tests: a pair that is no side, a run before another, a tree in a list
abbrev inner_test : ℕ → ℕ → ℕ → Bool
inner_test n a b = ltb a b && (ltb b n && not (eqb b (suc a) || (eqb a 0 && eqb (suc b) n)))

inner_tells : (n a b : ℕ) → Tells (inner_test n a b) (Inner n a b)
inner_tells n a b =
    as_well (and_tells (lower_tells a b) (and_tells (lower_tells b n)
    (not_tells (or_tells (eq_tells _ _) (and_tells (eq_tells _ _) (eq_tells _ _))))))
    (λ h. record { rises = h.0; small = h.1.0; no_side = h.1.1 }) (λ i. (i.rises, (i.small, i.no_side)))

abbrev less_test : List ℕ → List ℕ → Bool
less_test [] t = false
less_test (a ∷ s) [] = false
less_test (a ∷ s) (b ∷ t) = ltb a b || (eqb a b && less_test s t)

less_tells : (s t : List ℕ) → Tells (less_test s t) (Less s t)
less_tells [] t = never (λ h. h)
less_tells (a ∷ s) [] = never (λ h. h)
less_tells (a ∷ s) (b ∷ t) = or_tells (lower_tells a b) (and_tells (eq_tells a b) (less_tells s t))

abbrev same_tree : Tree → Tree → Bool
same_tree leaf leaf = true
same_tree leaf (link c v s) = false
same_tree (link b u r) leaf = false
same_tree (link b u r) (link c v s) = eqb b c && (same_tree u v && same_tree r s)

tree_same : (t t' : Tree) → T (same_tree t t') → t ≡ t'
tree_same leaf leaf h = refl
tree_same leaf (link c v s) h = absurd h
tree_same (link b u r) leaf h = absurd h
tree_same (link b u r) (link c v s) h =
    let k = and_r (eqb b c) (same_tree u v && same_tree r s) h in
    let p = eqb→eq b c (and_l (eqb b c) (same_tree u v && same_tree r s) h) in
    let q = tree_same u v (and_l (same_tree u v) (same_tree r s) k) in
    let w = tree_same r s (and_r (same_tree u v) (same_tree r s) k) in
    cc

abbrev in_test : Tree → List Tree → Bool
in_test t [] = false
in_test t (u ∷ l) = same_tree t u || in_test t l

in_sure : (t : Tree) (l : List Tree) → T (in_test t l) → In t l
in_sure t [] h = h
in_sure t (u ∷ l) h = go (same_tree t u) (tree_same t u) h (in_sure t l)
  where
    go : (b : Bool) → (T b → t ≡ u) → T (b || in_test t l) → (T (in_test t l) → In t l) → In t (u ∷ l)
    go true e h f = inl (e tt)
    go false e h f = inr (f h)

-- the run of the cutting that is given is the computed one's
given_run : (first second : List ℤ) → SoundPair first second → Node (smallest first second) → (C : Pairs) →
    FirstCutting first second C → run (corners first) C ≡ flat (told 0 (smallest first second))
given_run first second sound k C f =
    let p = smallest_first first second sound k in
    let q = plan first second in
    ap flat (first_unique q.cut q.piece one (corners first) C (uses 0 (smallest first second)) f p.0 ∙ p.1)

-- two drawings that are sound, by their tests
abbrev sound_pair_test : List ℤ → List ℤ → Bool
sound_pair_test first second = eqb (length second) (length first) && (sound_test first && sound_test second)

sound_seen : (first second : List ℤ) → T (sound_pair_test first second) → SoundPair first second
sound_seen first second h =
    let p = (and_tells (eq_tells _ _) (and_tells (sound_tells first) (sound_tells second))).sure h in
    let s = p.1.0.shaped in
    record {
      alike = record { even = s.even; same = p.0; enough = s.enough; few = s.few };
      first_sound = p.1.0;
      second_sound = p.1.1;
    }

-- ---- the three cuts
-- alone it is a valid cutting of Z and H, of two pieces, and its run comes after the run of the cutting that is given
pub record Later (a b : ℕ) : Type 0 where
  pub valid : ValidCutting Z H (alone a b)
  pub two_pieces : length (pieces 6 (alone a b)) ≡ 2
  pub later : (C : Pairs) → FirstCutting Z H C → Less (run 6 C) (run 6 (alone a b))

abbrev pub later_cuts : List (ℕ × ℕ)
later_cuts = (0, 2) ∷ (0, 3) ∷ (2, 5) ∷ []

abbrev later_test : ℕ × ℕ → Bool
later_test c =
    let C = alone c.0 c.1 in
    inner_test 6 c.0 c.1
    && (in_test (tree 6 C) (listed Z H)
    && (eqb (length (pieces 6 C)) 2 && less_test (flat (told 0 (smallest Z H))) (run 6 C)))

z_h_sound : SoundPair Z H
z_h_sound = sound_seen Z H tt

z_h_node : Node (smallest Z H)
unfolding flat_map
z_h_node = tt

later_sure : (c : ℕ × ℕ) → T (later_test c) → Later c.0 c.1
later_sure c h =
    let a = c.0 in
    let b = c.1 in
    let runs = less_tells (flat (told 0 (smallest Z H))) (run 6 (alone a b)) in
    let trees = itself (in_test (tree 6 (alone a b)) (listed Z H)) in
    let counts = eq_tells (length (pieces 6 (alone a b))) 2 in
    let p = (and_tells (inner_tells 6 a b) (and_tells trees (and_tells counts runs))).sure h in
    record {
      valid =
          listed_valid Z H z_h_sound (alone a b) (alone_uncrossed 6 a b p.0) (in_sure _ (listed Z H) p.1.0);
      two_pieces = p.1.1.0;
      later =
          λ C f. subst (λ r. Less r (run 6 (alone a b))) (sym (given_run Z H z_h_sound z_h_node C f)) p.1.1.1;
    }

pass : T (every later_test later_cuts)
unfolding flat_map pieces alone
pass = tt

pub later_cuts_are : (c : ℕ × ℕ) → In c later_cuts → Later c.0 c.1
later_cuts_are c i = later_sure c (every_passes later_test later_cuts pass c i)

-- ---- fewest before first: two outlines of the table, of seven corners. The first cutting listed is the first of
-- all; it has three pieces
abbrev foremost : List Tree → Tree
foremost [] = leaf
foremost (t ∷ l) = t

foremost_in : (l : List Tree) → Node (foremost l) → In (foremost l) l
foremost_in [] k = absurd k
foremost_in (t ∷ l) k = inl refl

abbrev first_told : Tree
first_told = foremost (listed fewest_first fewest_second)

abbrev given_told : Tree
given_told = smallest fewest_first fewest_second

fewest_sound : SoundPair fewest_first fewest_second
fewest_sound = sound_seen fewest_first fewest_second tt

foremost_node : Node first_told
unfolding flat_map
foremost_node = tt

given_node : Node given_told
unfolding flat_map
given_node = tt

three_pieces : length (told 0 first_told) ≡ 3
unfolding flat_map
three_pieces = refl

told_before : Less (flat (told 0 first_told)) (flat (told 0 given_told))
unfolding flat_map
told_before = (less_tells (flat (told 0 first_told)) (flat (told 0 given_told))).sure tt

pub earlier_cutting : (C : Pairs) × ValidCutting fewest_first fewest_second C × (length (pieces 7 C) ≡ 3)
    × ((D : Pairs) → FirstCutting fewest_first fewest_second D → Less (run 7 C) (run 7 D))
earlier_cutting = (uses 0 first_told, v.0, ap length v.1 ∙ three_pieces, before)
  where
    v : ValidCutting fewest_first fewest_second (uses 0 first_told)
        × (pieces 7 (uses 0 first_told) ≡ told 0 first_told)
    v =
        listed_told fewest_first fewest_second fewest_sound first_told
        (foremost_in (listed fewest_first fewest_second) foremost_node)

    before : (D : Pairs) → FirstCutting fewest_first fewest_second D → Less (run 7 (uses 0 first_told)) (run 7 D)
    before D f =
        subst₂ Less (sym (ap flat v.1))
        (sym (given_run fewest_first fewest_second fewest_sound given_node D f)) told_before
