-- The wedges of an answer: each is one of some piece, with the centre that the answer has for it, and its two other
-- corners are joined, by a side or by a cut.
use Rattle.std.specs.Prelude.{◌≡◌, refl, Bool, true, false, cond, ◌||◌, ◌⊎◌, List, [], ◌∷◌, ℕ, ◌+◌, ◌≤◌, ◌<◌, eqb, length, get_or, drop}
use Rattle.std.proofs.Common.{sym, ap, ◌∙◌, subst, true≢false, inl, inr, arith, drop_at, eq-eqb}
use Rattle.rules.specs.Lists.{In, in_left, in_right, in_split, Rising}
use Rattle.rules.specs.Cutting.{Pairs, Joined, Inside, Outside, Region}
use Rattle.rules.specs.Centre.{Layout}
use Rattle.marks.specs.Wedges.{Wedge, wedge, with_wedge, following, fan, piece_wedges, wedges}

-- ---- a wedge of an answer is one of some piece, with the centre that the answer has for it
pub record InPiece (centre : ℕ → List ℕ → Type 0) (l : List (List ℕ)) (ws : List Wedge) (W : Wedge) : Type 0 where
  pub S : List ℕ
  pub c : ℕ
  pub told : In S l
  pub is_centre : centre c S
  pub among : In W (piece_wedges c S)
  -- with all the piece's wedges
  pub with_all : (U : Wedge) → In U (piece_wedges c S) → In U ws

module _ (centre : ℕ → List ℕ → Type 0) where
  pub of_piece : (l : List (List ℕ)) (bytes : List ℕ) → Layout centre l bytes → (W : Wedge) → In W (wedges l bytes) →
      InPiece centre l (wedges l bytes) W
  of_piece [] bytes h W i = absurd i
  of_piece (S ∷ l) bytes h W i =
      go (of_piece l h.1 h.4 W)
      (in_split W (piece_wedges (get_or bytes 1 0) S) (wedges l (drop (2 + length S) bytes)) i)
    where
      c_is : get_or bytes 1 0 ≡ h.0
      c_is = ap (λ (b : List ℕ). get_or b 1 0) h.3

      rest_is : drop (2 + length S) bytes ≡ h.1
      rest_is = ap (drop (2 + length S)) h.3 ∙ drop_at (length S ∷ h.0 ∷ S) h.1 (2 + length S) (omega arith)

      -- the wedges of this piece, and of those after it
      here : (U : Wedge) → In U (piece_wedges h.0 S) → In U (wedges (S ∷ l) bytes)
      here U k =
          in_left U (piece_wedges (get_or bytes 1 0) S) (wedges l (drop (2 + length S) bytes))
          (subst (λ x. In U (piece_wedges x S)) (sym c_is) k)

      there : (U : Wedge) → In U (wedges l h.1) → In U (wedges (S ∷ l) bytes)
      there U k =
          in_right U (piece_wedges (get_or bytes 1 0) S) (wedges l (drop (2 + length S) bytes))
          (subst (λ b. In U (wedges l b)) (sym rest_is) k)

      later : InPiece centre l (wedges l h.1) W → InPiece centre (S ∷ l) (wedges (S ∷ l) bytes) W
      later p = record {
        S = p.S;
        c = p.c;
        told = inr p.told;
        is_centre = p.is_centre;
        among = p.among;
        with_all = λ U k. there U (p.with_all U k);
      }

      go : (In W (wedges l h.1) → InPiece centre l (wedges l h.1) W) →
          In W (piece_wedges (get_or bytes 1 0) S) ⊎ In W (wedges l (drop (2 + length S) bytes)) →
          InPiece centre (S ∷ l) (wedges (S ∷ l) bytes) W
      go f (inl k) = record {
        S = S;
        c = h.0;
        told = inl refl;
        is_centre = h.2;
        among = subst (λ x. In W (piece_wedges x S)) c_is k;
        with_all = here;
      }
      go f (inr k) = later (f (subst (λ b. In W (wedges l b)) rest_is k))

-- ---- the corners of a wedge follow each other round the piece
-- b comes next after a; a comes last
abbrev pub Heads : List ℕ → ℕ → Type 0
Heads [] b = ⊥
Heads (y ∷ s) b = b ≡ y

abbrev pub Next : List ℕ → ℕ → ℕ → Type 0
Next [] a b = ⊥
Next (x ∷ s) a b = ((a ≡ x) × Heads s b) ⊎ Next s a b

abbrev pub Ends : List ℕ → ℕ → Type 0
Ends [] a = ⊥
Ends (x ∷ []) a = a ≡ x
Ends (x ∷ y ∷ s) a = Ends (y ∷ s) a

-- two others than c that follow each other, from some place of a piece on whose first corner is f
pub record Follows (c f : ℕ) (s : List ℕ) (W : Wedge) : Type 0 where
  pub centre_is : W.centre ≡ c
  pub from_other : ¬ (W.from ≡ c)
  pub to_other : ¬ (W.to ≡ c)
  pub follow : Next s W.from W.to ⊎ (Ends s W.from × (W.to ≡ f))

named : (c a b : ℕ) (l : List Wedge) (W : Wedge) → In W (with_wedge c a b l) →
    ((W ≡ wedge c a b) × (¬ (a ≡ c)) × (¬ (b ≡ c))) ⊎ In W l
named c a b l W i = go (eqb a c || eqb b c) refl i
  where
    either : (s t : Bool) → s ≡ true → s || t ≡ true
    either s t e = ap (λ u. u || t) e

    or : (s t : Bool) → t ≡ true → s || t ≡ true
    or true t e = refl
    or false t e = e

    go : (t : Bool) → eqb a c || eqb b c ≡ t → In W (cond t l (wedge c a b ∷ l)) →
        ((W ≡ wedge c a b) × (¬ (a ≡ c)) × (¬ (b ≡ c))) ⊎ In W l
    go true e k = inr k
    go false e (inr k) = inr k
    go false e (inl q) = inl (
      q,
      (λ h. true≢false (sym (either (eqb a c) (eqb b c) (eq-eqb a c h)) ∙ e)),
      (λ h. true≢false (sym (or (eqb a c) (eqb b c) (eq-eqb b c h)) ∙ e)),
    )

pub fan_follows : (c f : ℕ) (s : List ℕ) (W : Wedge) → In W (fan c f s) → Follows c f s W
fan_follows c f [] W i = absurd i
fan_follows c f (a ∷ s) W i = go (fan_follows c f s W) (named c a (following f s) (fan c f s) W i)
  where
    last : (s : List ℕ) → Ends s W.from → Ends (a ∷ s) W.from
    last [] e = absurd e
    last (y ∷ s) e = e

    later : Next s W.from W.to ⊎ (Ends s W.from × (W.to ≡ f)) →
        Next (a ∷ s) W.from W.to ⊎ (Ends (a ∷ s) W.from × (W.to ≡ f))
    later (inl n) = inl (inr n)
    later (inr e) = inr (last s e.0, e.1)

    here : (s : List ℕ) → W ≡ wedge c a (following f s) →
        Next (a ∷ s) W.from W.to ⊎ (Ends (a ∷ s) W.from × (W.to ≡ f))
    here [] e = inr (ap (λ (U : Wedge). U.from) e, ap (λ (U : Wedge). U.to) e)
    here (b ∷ s) e = inl (inl (ap (λ (U : Wedge). U.from) e, ap (λ (U : Wedge). U.to) e))

    go : (In W (fan c f s) → Follows c f s W) →
        ((W ≡ wedge c a (following f s)) × (¬ (a ≡ c)) × (¬ (following f s ≡ c))) ⊎ In W (fan c f s) →
        Follows c f (a ∷ s) W
    go g (inl h) = record {
      centre_is = ap (λ (U : Wedge). U.centre) h.0;
      from_other = λ q. h.1 (sym (ap (λ (U : Wedge). U.from) h.0) ∙ q);
      to_other = λ q. h.2 (sym (ap (λ (U : Wedge). U.to) h.0) ∙ q);
      follow = here s h.0;
    }
    go g (inr k) =
        let r = g k in
        record {
          centre_is = r.centre_is;
          from_other = r.from_other;
          to_other = r.to_other;
          follow = later
              r.follow;
        }

-- ---- two corners that follow each other in a rising list: none lies between them
pub record Neighbours (S : List ℕ) (a b : ℕ) : Type 0 where
  pub in_a : In a S
  pub in_b : In b S
  pub rises : a < b
  pub none : Inside S a b

pub next_neighbours : (S : List ℕ) → Rising S → (a b : ℕ) → Next S a b → Neighbours S a b
next_neighbours [] r a b n = absurd n
next_neighbours (x ∷ []) r a b (inl n) = absurd n.1
next_neighbours (x ∷ []) r a b (inr n) = absurd n
next_neighbours (x ∷ y ∷ s) r a b (inl n) =
    record {
      in_a = inl n.0;
      in_b = inr (inl n.1);
      rises = omega (arith, r.0 y (inl refl), n.0, n.1);
      none = none;
    }
  where
    none : Inside (x ∷ y ∷ s) a b
    none z (inl e) l m = omega (arith, e, l, n.0)
    none z (inr (inl e)) l m = omega (arith, e, m, n.1)
    none z (inr (inr i)) l m = omega (arith, r.1.0 z i, m, n.1)
next_neighbours (x ∷ y ∷ s) r a b (inr n) = go (next_neighbours (y ∷ s) r.1 a b n)
  where
    go : Neighbours (y ∷ s) a b → Neighbours (x ∷ y ∷ s) a b
    go h = record { in_a = inr h.in_a; in_b = inr h.in_b; rises = h.rises; none = none }
      where
        none : Inside (x ∷ y ∷ s) a b
        none z (inl e) l m = omega (arith, e, l, r.0 a h.in_a)
        none z (inr i) l m = h.none z i l m

-- and the last with the first: none lies outside them
pub ends_in : (S : List ℕ) (a : ℕ) → Ends S a → In a S
ends_in [] a e = absurd e
ends_in (x ∷ []) a e = inl e
ends_in (x ∷ y ∷ s) a e = inr (ends_in (y ∷ s) a e)

ends_most : (S : List ℕ) → Rising S → (a : ℕ) → Ends S a → (z : ℕ) → In z S → z ≤ a
ends_most [] r a e z i = absurd e
ends_most (x ∷ []) r a e z (inl q) = omega (arith, e, q)
ends_most (x ∷ []) r a e z (inr i) = absurd i
ends_most (x ∷ y ∷ s) r a e z (inl q) = omega (arith, q, r.0 a (ends_in (y ∷ s) a e))
ends_most (x ∷ y ∷ s) r a e z (inr i) = ends_most (y ∷ s) r.1 a e z i

pub ends_outside : (f : ℕ) (s : List ℕ) → Rising (f ∷ s) → (a : ℕ) → Ends (f ∷ s) a → Outside (f ∷ s) f a
ends_outside f s r a e z (inl q) = (omega (arith, q), ends_most (f ∷ s) r a e z (inl q))
ends_outside f s r a e z (inr i) = (omega (arith, r.0 z i), ends_most (f ∷ s) r a e z (inr i))

pub ends_apart : (f : ℕ) (s : List ℕ) → Rising (f ∷ s) → 3 ≤ length (f ∷ s) → (a : ℕ) → Ends (f ∷ s) a → f < a
ends_apart f [] r three a e = absurd (omega arith)
ends_apart f (y ∷ s) r three a e = r.0 a (ends_in (y ∷ s) a e)

-- ---- so they are joined, by a side or by a cut of the cutting; in one order or the other
module _ (n : ℕ) (C : Pairs) where
  abbrev pub Either : ℕ → ℕ → Type 0
  Either a b = ((a < b) × Joined n C a b) ⊎ ((b < a) × Joined n C b a)

  pub joined : (f : ℕ) (s : List ℕ) → Region n C (f ∷ s) → (a b : ℕ) → Next (f ∷ s) a b ⊎ (Ends (f ∷ s) a × (b ≡ f)) →
      Either a b
  joined f s R a b (inl h) =
      let k = next_neighbours (f ∷ s) R.rising a b h in
      inl (k.rises, (R.lines a b k.in_a k.in_b k.rises).0 (inl k.none))
  joined f s R a b (inr h) =
      let lt = ends_apart f s R.rising R.three a h.0 in
      let j = (R.lines f a (inl refl) (ends_in (f ∷ s) a h.0) lt).0 (inr (ends_outside f s R.rising a h.0)) in
      subst (Either a) (sym h.1) (inr (lt, j))

  next_in_lem : (S : List ℕ) (a b : ℕ) → Next S a b → In a S × In b S
  next_in_lem [] a b h = absurd h
  next_in_lem (x ∷ []) a b (inl h) = absurd h.1
  next_in_lem (x ∷ y ∷ s) a b (inl h) = (inl h.0, inr (inl h.1))
  next_in_lem (x ∷ s) a b (inr h) = let k = next_in_lem s a b h in (inr k.0, inr k.1)

  pub both_in : (f : ℕ) (s : List ℕ) (a b : ℕ) → Next (f ∷ s) a b ⊎ (Ends (f ∷ s) a × (b ≡ f)) →
      In a (f ∷ s) × In b (f ∷ s)
  both_in f s a b (inl h) = next_in_lem (f ∷ s) a b h
  both_in f s a b (inr h) = (ends_in (f ∷ s) a h.0, inl h.1)
