-- The theorems of `Count`: its definitions and first laws are in specs/.
use Rattle.std.specs.Prelude.{◌≡◌, List, ◌∷◌, map, ℕ, suc, ◌+◌, ◌*◌, ◌≤◌, ◌<◌, length, T}
use Rattle.std.proofs.Common.{sym, ap, ap₂, ◌∙◌, subst, inl, arith}
use Rattle.std.proofs.lemmas.List.{length-map}
use Rattle.rules.specs.Lists.{In, Distinct}
use Rattle.rules.specs.Cutting.{Pairs, Uncrossed}
use Rattle.rules.specs.Cutting.{Tree, corners, below, told, tree, pieces}
use Rattle.rules.specs.Centre.{size}
use Rattle.rules.specs.Trees.{Node, rise_is_last}
use Rattle.rules.specs.TreeOf.{TreeOf, of_rise, of_unique}
use Rattle.rules.specs.Lines.{Stands, node_told, stands_told, Piece, told_stands}
use Rattle.rules.specs.Walk.{Wide}
use Rattle.rules.proofs.AnyPairs.{any_run, any_size, any_few, any_room}
use Rattle.rules.proofs.Regions.{tree_node, pair_line, line_pair, pieces_regions, pieces_distinct}
use Rattle.rules.specs.Count.{OneMore, distinct_map, ends, fan, fan_three, fan_uncrossed, flat_threes, in_map, map_in}

pub one_more : (n : ℕ) (C : Pairs) → 3 ≤ n → Uncrossed n C → OneMore n C
unfolding pieces
one_more n C le un = record {
  cuts = map ends (below 0 t);
  once = distinct_map ends (below 0 t) (subst Distinct first (pieces_distinct n C le un)).1 alone;
  every = λ a b. (λ i. held a b (map_in ends (a, b) (below 0 t) i), listed a b);
  count = ap length first ∙ ap suc (sym (length-map (below 0 t) ends));
}
  where
    t : Tree
    t = tree n C

    first : told 0 t ≡ (0 ∷ corners t) ∷ below 0 t
    first = node_told 0 t (tree_node n C un le)

    line : (x y : ℕ) (v : Tree) → Stands 0 t x y v → T (C x y) × Node v × TreeOf C x y v
    line = line_pair n C un le

    closes : (x y : ℕ) (v : Tree) → Stands 0 t x y v → ends (x ∷ corners v) ≡ (x, y)
    closes x y v s = ap (λ z. (x, z)) (rise_is_last x y (corners v) (of_rise C x y y v (line x y v s).2))

    closed : (S : List ℕ) (p : Piece 0 t S) → ends S ≡ (p.x, p.y)
    closed S p = ap ends p.is ∙ closes p.x p.y p.v p.stands

    alone : (S S' : List ℕ) → In S (below 0 t) → In S' (below 0 t) → ends S ≡ ends S' → S ≡ S'
    alone S S' i k e =
        let p = told_stands 0 t S i in
        let q = told_stands 0 t S' k in
        let f = sym (closed S p) ∙ e ∙ closed S' q in
        let e₀ : p.x ≡ q.x = ap (λ r. r.0) f in
        let e₁ : p.y ≡ q.y = ap (λ r. r.1) f in
        let h = (line p.x p.y p.v p.stands).2 in
        let h' : TreeOf C p.x p.y q.v = rw (e₀, e₁) (line q.x q.y q.v q.stands).2 in
        let g = of_unique C p.x p.y p.y p.v q.v h h' in
        p.is ∙ ap₂ (λ x v. x ∷ corners v) e₀ g ∙ sym q.is

    held : (a b : ℕ) → (S : List ℕ) × In S (below 0 t) × ◌≡◌ {A = ℕ × ℕ} (a, b) (ends S) → T (C a b)
    held a b h =
        let p = told_stands 0 t h.0 h.1 in
        let e = h.2 ∙ closed h.0 p in
        subst (λ r. T (C r.0 r.1)) (sym e) (line p.x p.y p.v p.stands).0

    listed : (a b : ℕ) → T (C a b) → In (a, b) (map ends (below 0 t))
    listed a b c =
        let f = pair_line n C un le a b c in
        rw (closes a b f.0 f.1) at
        (in_map ends (a ∷ corners f.0) (below 0 t) (stands_told 0 t a b f.0 f.1))

module _ (n : ℕ) (C : Pairs) (le : 3 ≤ n) (un : Uncrossed n C) where
  no_neighbours : Wide C
  no_neighbours =
      record { apart = λ a b c. let i = un.inner a b c in not_next a b i.rises (λ e. i.no_side (inl e)) }
    where
      not_next : (a b : ℕ) → a < b → ¬ (b ≡ suc a) → suc a < b
      not_next a b lt ne = omega arith

  pub pieces_size : size (pieces n C) + 2 ≡ 4 * length (pieces n C) + n
  pieces_size = any_size no_neighbours n le

  pub pieces_few : length (pieces n C) + 2 ≤ n
  pieces_few = any_few no_neighbours n le

  pub room_enough : size (pieces n C) + 10 ≤ 5 * n
  room_enough = omega (arith, any_room no_neighbours n le)

  -- a cutting into triangles takes all of it
  pub triangles_take : ((S : List ℕ) → In S (pieces n C) → length S ≡ 3) → size (pieces n C) + 10 ≡ 5 * n
  triangles_take f = omega (arith, pieces_size, any_run no_neighbours n le, flat_threes (pieces n C) f)

-- 5n-10 is taken: no smaller room is enough for every cutting of n corners
pub room_taken : (n : ℕ) → 3 ≤ n → size (pieces n (fan n)) + 10 ≡ 5 * n
room_taken n le =
    triangles_take n (fan n) le (fan_uncrossed n)
    (λ S i. fan_three n S ((pieces_regions n (fan n) le (fan_uncrossed n) S).0 i))
