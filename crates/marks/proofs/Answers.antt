-- The pieces of an answer, one after another: the wedges of those that have been passed hold no mark.
use Rattle.std.proofs.Common.{◌≡◌, refl, sym, ap, ap₂, ◌∙◌, subst, inl, inr, List, [], ◌∷◌, ◌++◌, ℕ, zero, suc, ◌+◌, ◌≤◌, ◌<◌, arith, ℤ, length, get_or, take, drop, slice_get}
use Rattle.std.proofs.Math.ListN.{length-append}
use Rattle.std.proofs.Math.Seq.{drop_at, take_at}
use Rattle.std.specs.Prelude.{Option, Some, None}
use Rattle.outline.specs.Drawing.{Point, corners}
use Rattle.rules.specs.Lists.{In}
use Rattle.marks.specs.Wedges.{Wedge, fan, piece_wedges, wedges}
use Rattle.marks.specs.Lands.{Lands}
use Rattle.marks.specs.Parts.{Piece, piece_fan, Spells, Read, Told, taken, Takes, Finds}
use Rattle.marks.specs.declared.Place.{Place}

-- ---- bytes that begin with a piece
in_at : (S : List ℕ) (j : ℕ) → j < length S → In (get_or S j 0) S
in_at [] j h = absurd (omega arith)
in_at (x ∷ S) zero h = inl refl
in_at (x ∷ S) (suc j) h = inr (in_at S j (omega arith))

record Begins (n : ℕ) (l : List (List ℕ)) (D : List ℕ) : Type 0 where
  S : List ℕ
  more : List (List ℕ)
  c : ℕ
  rest : List ℕ
  is : l ≡ S ∷ more
  bytes : D ≡ length S ∷ c ∷ (S ++ rest)
  c_below : c < n
  below : (z : ℕ) → In z S → z < n
  some : 0 < length S
  then : Spells n more rest

begins : (n : ℕ) (l : List (List ℕ)) (D : List ℕ) → 0 < length D → Spells n l D → Begins n l D
begins n [] D h s = absurd (omega (arith, h, ap length s))
begins n (S ∷ l) D h s = record {
  S = S;
  more = l;
  c = s.0;
  rest = s.1;
  is = refl;
  bytes = s.2;
  c_below = s.3;
  below = s.4;
  some = s.5;
  then = s.6;
}

fan_is : (c : ℕ) (S : List ℕ) → 0 < length S → fan c (get_or S 0 0) S ≡ piece_wedges c S
fan_is c [] h = absurd (omega arith)
fan_is c (f ∷ s) h = refl

module _ {n : ℕ} {l : List (List ℕ)} {D : List ℕ} (b : Begins n l D) where
  abbrev whole : List ℕ
  whole = length b.S ∷ b.c ∷ b.S

  count_is : get_or D 0 0 ≡ length b.S
  count_is = ap (λ (x : List ℕ). get_or x 0 0) b.bytes

  fits : taken D ≤ length D
  fits = omega (arith, count_is, ap length b.bytes, length-append b.S b.rest)

  piece_is : take (taken D) D ≡ whole
  piece_is =
      ap (λ (k : ℕ). take (2 + k) D) count_is
      ∙ ap (take (2 + length b.S)) b.bytes
      ∙ take_at whole b.rest (2 + length b.S) (omega arith)

  rest_is : drop (taken D) D ≡ b.rest
  rest_is =
      ap (λ (k : ℕ). drop (2 + k) D) count_is
      ∙ ap (drop (2 + length b.S)) b.bytes
      ∙ drop_at whole b.rest (2 + length b.S) (omega arith)

  wedges_are : wedges l D ≡ piece_fan (take (taken D) D) ++ wedges b.more (drop (taken D) D)
  wedges_are =
      ap (λ x. wedges x D) b.is
      ∙ ap₂ ◌++◌
      (ap (λ (x : List ℕ). piece_wedges (get_or x 1 0) b.S) b.bytes
      ∙ sym (fan_is b.c b.S b.some)
      ∙ sym (ap piece_fan piece_is))
      (ap (λ (k : ℕ). wedges b.more (drop (2 + k) D)) (sym count_is))

  is_piece : Piece n (take (taken D) D)
  is_piece = subst (Piece n) (sym piece_is) (record { enough = omega (arith, b.some); below = go })
    where
      go : (i : ℕ) → 1 ≤ i → i < length (length b.S ∷ b.c ∷ b.S) → get_or (length b.S ∷ b.c ∷ b.S) i 0 < n
      go zero h k = absurd (omega arith)
      go (suc zero) h k = b.c_below
      go (suc (suc j)) h k = b.below (get_or b.S j 0) (in_at b.S j (omega arith))

-- ---- the bytes of a piece, as they are taken
pub told_fits : {L : List ℕ} → Told L → 0 < length L → taken L ≤ length L
told_fits {L} t h = fits (begins t.n t.read.pieces L h t.read.spells)

pub told_rest : {L : List ℕ} → Told L → 0 < length L → Told (drop (taken L) L)
told_rest {L} t h =
    let b = begins t.n t.read.pieces L h t.read.spells in
    record { n = t.n; read = record { pieces = b.more; spells = subst (Spells t.n b.more) (sym (rest_is b)) b.then } }

pub first_is : (L : List ℕ) (k : ℕ) → Some k ≡ slice_get L 0 → (0 < length L) × (k ≡ get_or L 0 0)
first_is [] k e = cc
first_is (x ∷ L) k e = (omega arith, cc)

module _ (first second : List ℤ) (m : Point) where
  -- ---- two runs of wedges
  lands_before : (A B : List Wedge) (P : Place) → Lands first second m A (Some P) →
      Lands first second m (A ++ B) (Some P)
  lands_before [] B P h = cc
  lands_before (W ∷ A) B P (inl h) = inl h
  lands_before (W ∷ A) B P (inr h) = inr (h.0, lands_before A B P h.1)

  lands_after : (A B : List Wedge) (r : Option Place) → Lands first second m A None → Lands first second m B r →
      Lands first second m (A ++ B) r
  lands_after [] B r h k = k
  lands_after (W ∷ A) B r (inl h) k = absurd h.1
  lands_after (W ∷ A) B r (inr h) k = inr (h.0, lands_after A B r h.1 k)

  -- ---- the pieces of L before D are passed: however the bytes are read, those of D decide
  abbrev n : ℕ
  n = corners first

  pub record PassedTo (L D : List ℕ) : Type 0 where
    pub read : Read n D
    pub rest : (l : List (List ℕ)) → Spells n l L →
        (k : List (List ℕ)) × Spells n k D
        × ((r : Option Place) → Lands first second m (wedges k D) r → Lands first second m (wedges l L) r)

  pub passed_no_piece : {L : List ℕ} → Read n L → PassedTo L L
  passed_no_piece h = record { read = h; rest = λ l s. (l, s, λ r k. k) }

  module _ {L D : List ℕ} (more : 0 < length D) (p : PassedTo L D) where
    abbrev part : List ℕ
    part = take (taken D) D

    here : Begins n p.read.pieces D
    here = begins n p.read.pieces D more p.read.spells

    part_piece : Piece n part
    part_piece = is_piece here

    piece_hit : (P : Place) → Lands first second m (piece_fan part) (Some P) → Finds first second m L (Some P)
    piece_hit P f = record { finds = go }
      where
        go : (l : List (List ℕ)) → Spells n l L → Lands first second m (wedges l L) (Some P)
        go l s =
            let q = p.rest l s in
            let b = begins n q.0 D more q.1 in
            q.2 (Some P) (subst (λ x. Lands first second m x (Some P)) (sym (wedges_are b))
            (lands_before (piece_fan part) (wedges b.more (drop (taken D) D)) P f))

    piece_missed : Lands first second m (piece_fan part) None → PassedTo L (drop (taken D) D)
    piece_missed f = record {
      read = record { pieces = here.more; spells = subst (Spells n here.more) (sym (rest_is here)) here.then };
      rest = go;
    }
      where
        go : (l : List (List ℕ)) → Spells n l L →
            (j : List (List ℕ)) × Spells n j (drop (taken D) D)
            × ((r : Option Place) → Lands first second m (wedges j (drop (taken D) D)) r → Lands first second m
            (wedges l L) r)
        go l s =
            let q = p.rest l s in
            let b = begins n q.0 D more q.1 in (
              b.more,
              subst (Spells n b.more) (sym (rest_is b)) b.then,
              λ r g. q.2 r (subst (λ x. Lands first second m x r) (sym (wedges_are b))
                  (lands_after (piece_fan part) (wedges b.more (drop (taken D) D)) r f g)),
            )

  -- as `next` takes it
  module _ (L D part M : List ℕ) (k : Takes D (Some part) M) (p : PassedTo L D) where
    pub taken_piece : Piece n part
    taken_piece = subst (Piece n) (sym k.1) (part_piece k.0 p)

    pub taken_hit : (P : Place) → Lands first second m (piece_fan part) (Some P) → Finds first second m L (Some P)
    taken_hit P h = piece_hit k.0 p P (subst (λ (x : List ℕ). Lands first second m (piece_fan x) (Some P)) k.1 h)

    pub taken_missed : Lands first second m (piece_fan part) None → PassedTo L M
    taken_missed h =
        subst (PassedTo L) (sym k.2)
        (piece_missed k.0 p (subst (λ (x : List ℕ). Lands first second m (piece_fan x) None) k.1 h))

  pub pieces_passed : {L D : List ℕ} → D ≡ [] → PassedTo L D → Finds first second m L None
  pieces_passed {L} {D} e p = record { finds = λ l s. let q = p.rest l s in q.2 None (none q.0 q.1) }
    where
      none : (k : List (List ℕ)) → Spells (corners first) k D → Lands first second m (wedges k D) None
      none [] s = refl
      none (S ∷ k) s = absurd (omega (arith, ap length s.2, ap length e))
