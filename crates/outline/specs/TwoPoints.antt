-- Two segments that have two different points in common: all four ends are on one line, and an end of one segment lies
-- on the other. Laws over plain points.
use Rattle.std.specs.Prelude.{◌≡◌, refl, ◌⊎◌, List, [], ◌∷◌, ℤ, ◌+ℤ◌, ◌-ℤ◌, ◌*ℤ◌, ◌≤ℤ◌, ◌<ℤ◌}
use Rattle.std.proofs.Common.{sym, ◌∙◌, inl, inr}
use Rattle.std.proofs.Math.IntN.{pos}
use Rattle.whole.specs.Ring.{v, con, ◌:+◌, ◌:-◌, ◌:*◌, neg, ring1, ring2, by_ring}
use Rattle.whole.specs.Order.{Nonneg, Positive, nonneg_mul, positive_mul, positive_nonneg, zero_cancel, squares_zero}
use Rattle.whole.specs.Order.{le_sub, sub_le, ≤ℤ_total}
use Rattle.outline.specs.Drawing.{Point, turn_of, Shared}
use Rattle.outline.specs.InOrOn.{Spot, spot, OnSegment}
use Rattle.outline.specs.OnSegment.{on_turned, on_of}
use Rattle.outline.specs.Segments.{Dot}
use Rattle.outline.specs.Quick.{Touch, quick_complete}
use Rattle.outline.specs.Ends.{only_sound}
use Rattle.outline.specs.Unbroken.{not_all}

-- two points are different
abbrev pub Differ : Spot → Spot → Type 0
Differ z w = ¬ ((z.x *ℤ w.r ≡ w.x *ℤ z.r) × (z.y *ℤ w.r ≡ w.y *ℤ z.r))

-- ---- from one to the other: a direction, along which both lines go
module _ (z w : Spot) where
  abbrev dx : ℤ
  dx = z.r *ℤ w.x -ℤ w.r *ℤ z.x

  abbrev dy : ℤ
  dy = z.r *ℤ w.y -ℤ w.r *ℤ z.y

  -- the vector (x, y) goes along it
  abbrev Along : ℤ → ℤ → Type 0
  Along x y = x *ℤ dy -ℤ y *ℤ dx ≡ pos 0

  far : Differ z w → Positive (dx *ℤ dx +ℤ dy *ℤ dy)
  far f = go (≤ℤ_total (dx *ℤ dx +ℤ dy *ℤ dy) (pos 0))
    where
      same : (a b c d : ℤ) → a *ℤ b -ℤ c *ℤ d ≡ pos 0 → d *ℤ c ≡ b *ℤ a
      same a b c d e =
          ring1 (a ∷ b ∷ c ∷ d ∷ []) (v 3 :* v 2) (v 1 :* v 0) (neg (con (pos 1)))
          (v 0 :* v 1 :- v 2 :* v 3) (con (pos 0)) e refl

      go : ((dx *ℤ dx +ℤ dy *ℤ dy) ≤ℤ pos 0) ⊎ (pos 0 <ℤ (dx *ℤ dx +ℤ dy *ℤ dy)) → Positive (dx *ℤ dx +ℤ dy *ℤ dy)
      go (inr h) = h
      go (inl h) =
          let e = squares_zero dx dy h in absurd
          (f (same z.r w.x w.r z.x e.0, same z.r w.y w.r z.y e.1))

-- a point of ab: a, b, z are 0 to 5, and p, q, r are 6 to 8
abbrev env : Spot → Point → Point → ℤ → ℤ → List ℤ
env z a b p q = a.x ∷ a.y ∷ b.x ∷ b.y ∷ z.x ∷ z.y ∷ p ∷ q ∷ z.r ∷ []

module _ (z : Spot) (a b : Point) (o : OnSegment z a b) where
  -- it does not turn from ab
  straight : (b.x -ℤ a.x) *ℤ (z.y -ℤ z.r *ℤ a.y) -ℤ (b.y -ℤ a.y) *ℤ (z.x -ℤ z.r *ℤ a.x) ≡ pos 0
  straight =
      zero_cancel o.q_above
      (ring2 (env z a b o.p o.q)
      (v 7 :* ((v 2 :- v 0) :* (v 5 :- v 8 :* v 1) :- (v 3 :- v 1) :* (v 4 :- v 8 :* v 0))) (con (pos 0))
      (v 3 :- v 1) (v 8 :* (v 7 :* v 0 :+ v 6 :* (v 2 :- v 0))) (v 7 :* v 4)
      (neg (v 2 :- v 0)) (v 8 :* (v 7 :* v 1 :+ v 6 :* (v 3 :- v 1))) (v 7 :* v 5) o.on_x o.on_y refl)

  -- where ab goes along (x, y), the way from a to the point does
  from_a : (x y : ℤ) → (b.x -ℤ a.x) *ℤ y -ℤ (b.y -ℤ a.y) *ℤ x ≡ pos 0 →
      (z.x -ℤ z.r *ℤ a.x) *ℤ y -ℤ (z.y -ℤ z.r *ℤ a.y) *ℤ x ≡ pos 0
  from_a x y e =
      let ρ = a.x ∷ a.y ∷ b.x ∷ b.y ∷ z.x ∷ z.y ∷ o.p ∷ o.q ∷ z.r ∷ x ∷ y ∷ [] in
      zero_cancel o.q_above
      (ring2 ρ (v 7 :* ((v 4 :- v 8 :* v 0) :* v 10 :- (v 5 :- v 8 :* v 1) :* v 9))
      (v 8 :* v 6 :* ((v 2 :- v 0) :* v 10 :- (v 3 :- v 1) :* v 9))
      (neg (v 10)) (v 8 :* (v 7 :* v 0 :+ v 6 :* (v 2 :- v 0))) (v 7 :* v 4)
      (v 9) (v 8 :* (v 7 :* v 1 :+ v 6 :* (v 3 :- v 1))) (v 7 :* v 5) o.on_x o.on_y refl
      ∙ ring1 ρ (v 8 :* v 6 :* ((v 2 :- v 0) :* v 10 :- (v 3 :- v 1) :* v 9)) (con (pos 0))
      (v 8 :* v 6) ((v 2 :- v 0) :* v 10 :- (v 3 :- v 1) :* v 9) (con (pos 0)) e refl)

module _ (z w : Spot) where
  -- a segment that has both goes along
  along : (a b : Point) → OnSegment z a b → OnSegment w a b → Along z w (b.x -ℤ a.x) (b.y -ℤ a.y)
  along a b o o' =
      ring2 (a.x ∷ a.y ∷ b.x ∷ b.y ∷ z.x ∷ z.y ∷ z.r ∷ w.x ∷ w.y ∷ w.r ∷ [])
      ((v 2 :- v 0) :* (v 6 :* v 8 :- v 9 :* v 5) :- (v 3 :- v 1) :* (v 6 :* v 7 :- v 9 :* v 4)) (con (pos 0))
      (v 6) ((v 2 :- v 0) :* (v 8 :- v 9 :* v 1) :- (v 3 :- v 1) :* (v 7 :- v 9 :* v 0)) (con (pos 0))
      (neg (v 9)) ((v 2 :- v 0) :* (v 5 :- v 6 :* v 1) :- (v 3 :- v 1) :* (v 4 :- v 6 :* v 0)) (con (pos 0))
      (straight w a b o') (straight z a b o) refl

  -- and so does the way from one segment's start to another's
  between : (a b c d : Point) → OnSegment z a b → OnSegment w a b → OnSegment z c d → OnSegment w c d →
      Along z w (c.x -ℤ a.x) (c.y -ℤ a.y)
  between a b c d o o' k k' =
      zero_cancel z.r_above
      (ring2 (a.x ∷ a.y ∷ c.x ∷ c.y ∷ z.x ∷ z.y ∷ z.r ∷ dx z w ∷ dy z w ∷ [])
      (v 6 :* ((v 2 :- v 0) :* v 8 :- (v 3 :- v 1) :* v 7)) (con (pos 0))
      (con (pos 1)) ((v 4 :- v 6 :* v 0) :* v 8 :- (v 5 :- v 6 :* v 1) :* v 7) (con (pos 0))
      (neg (con (pos 1))) ((v 4 :- v 6 :* v 2) :* v 8 :- (v 5 :- v 6 :* v 3) :* v 7) (con (pos 0))
      (from_a z a b o (dx z w) (dy z w) (along a b o o')) (from_a z c d k (dx z w) (dy z w) (along c d k k')) refl)

  -- two vectors that go along do not turn from each other
  no_turn : Differ z w → (a b c : Point) → Along z w (b.x -ℤ a.x) (b.y -ℤ a.y) →
      Along z w (c.x -ℤ a.x) (c.y -ℤ a.y) → turn_of a b c ≡ pos 0
  no_turn f a b c e g =
      zero_cancel (far z w f)
      (ring2 (a.x ∷ a.y ∷ b.x ∷ b.y ∷ c.x ∷ c.y ∷ dx z w ∷ dy z w ∷ [])
      ((v 6 :* v 6 :+ v 7 :* v 7) :* ((v 2 :- v 0) :* (v 5 :- v 1) :- (v 3 :- v 1) :* (v 4 :- v 0))) (con (pos 0))
      ((v 4 :- v 0) :* v 6 :+ (v 5 :- v 1) :* v 7) ((v 2 :- v 0) :* v 7 :- (v 3 :- v 1) :* v 6) (con (pos 0))
      (neg ((v 2 :- v 0) :* v 6 :+ (v 3 :- v 1) :* v 7)) ((v 4 :- v 0) :* v 7 :- (v 5 :- v 1) :* v 6) (con (pos 0)) e
      g refl)

  -- one after the other
  further : (a b c : Point) → Along z w (b.x -ℤ a.x) (b.y -ℤ a.y) → Along z w (c.x -ℤ b.x) (c.y -ℤ b.y) →
      Along z w (c.x -ℤ a.x) (c.y -ℤ a.y)
  further a b c e g =
      ring2 (a.x ∷ a.y ∷ b.x ∷ b.y ∷ c.x ∷ c.y ∷ dx z w ∷ dy z w ∷ [])
      ((v 4 :- v 0) :* v 7 :- (v 5 :- v 1) :* v 6) (con (pos 0))
      (con (pos 1)) ((v 2 :- v 0) :* v 7 :- (v 3 :- v 1) :* v 6) (con (pos 0))
      (con (pos 1)) ((v 4 :- v 2) :* v 7 :- (v 5 :- v 3) :* v 6) (con (pos 0)) e g refl

-- ---- a point of two segments is shared
one_coordinate : (r q p l k a b c d x : ℤ) → Positive r → r *ℤ (q *ℤ a +ℤ p *ℤ (b -ℤ a)) ≡ q *ℤ x →
    r *ℤ (l *ℤ c +ℤ k *ℤ (d -ℤ c)) ≡ l *ℤ x →
    q *ℤ l *ℤ a +ℤ p *ℤ l *ℤ (b -ℤ a) ≡ q *ℤ l *ℤ c +ℤ k *ℤ q *ℤ (d -ℤ c)
one_coordinate r q p l k a b c d x r+ e f =
    let ρ = r ∷ q ∷ p ∷ l ∷ k ∷ a ∷ b ∷ c ∷ d ∷ x ∷ [] in
    let X = v 1 :* v 3 :* v 5 :+ v 2 :* v 3 :* (v 6 :- v 5) in
    let Y = v 1 :* v 3 :* v 7 :+ v 4 :* v 1 :* (v 8 :- v 7) in
    ring1 ρ X Y (con (pos 1)) (X :- Y) (con (pos 0))
    (zero_cancel r+ (ring2 ρ (v 0 :* (X :- Y)) (con (pos 0))
    (v 3) (v 0 :* (v 1 :* v 5 :+ v 2 :* (v 6 :- v 5))) (v 1 :* v 9)
    (neg (v 1)) (v 0 :* (v 3 :* v 7 :+ v 4 :* (v 8 :- v 7))) (v 3 :* v 9) e f refl)) refl

shared : (z : Spot) (a b c d : Point) → OnSegment z a b → OnSegment z c d → Shared a b c d
shared z a b c d o k =
    let ρ = o.p ∷ o.q ∷ k.p ∷ k.q ∷ [] in
    record {
      p = o.p *ℤ k.q;
      q = k.p *ℤ o.q;
      r = o.q *ℤ k.q;
      r_above = positive_mul o.q_above k.q_above;
      p_from = nonneg_mul o.p_from (positive_nonneg k.q_above);
      p_to = sub_le (by_ring ρ Nonneg ((v 1 :- v 0) :* v 3) (v 1 :* v 3 :- v 0 :* v 3) refl
          (nonneg_mul (le_sub o.p_to) (positive_nonneg k.q_above)));
      q_from = nonneg_mul k.p_from (positive_nonneg o.q_above);
      q_to = sub_le (by_ring ρ Nonneg ((v 3 :- v 2) :* v 1) (v 1 :* v 3 :- v 2 :* v 1) refl
          (nonneg_mul (le_sub k.p_to) (positive_nonneg o.q_above)));
      same_x =
          one_coordinate z.r o.q o.p k.q k.p a.x b.x c.x d.x z.x z.r_above o.on_x
          k.on_x;
      same_y =
          one_coordinate z.r o.q o.p k.q k.p a.y b.y c.y d.y z.y z.r_above o.on_y
          k.on_y;
    }

-- where it is shared only at a, it is a
at_start : (r q p l a b x : ℤ) → Positive q → Positive l → q *ℤ l *ℤ a +ℤ p *ℤ l *ℤ (b -ℤ a) ≡ q *ℤ l *ℤ a →
    r *ℤ (q *ℤ a +ℤ p *ℤ (b -ℤ a)) ≡ q *ℤ x → x ≡ r *ℤ a
at_start r q p l a b x q+ l+ e f =
    let ρ = r ∷ q ∷ p ∷ l ∷ a ∷ b ∷ x ∷ [] in
    let g : p *ℤ (b -ℤ a) ≡ pos 0 =
    zero_cancel l+ (ring1 ρ (v 3 :* (v 2 :* (v 5 :- v 4))) (con (pos 0)) (con (pos 1))
    (v 1 :* v 3 :* v 4 :+ v 2 :* v 3 :* (v 5 :- v 4)) (v 1 :* v 3 :* v 4) e refl) in
    ring1 ρ (v 6) (v 0 :* v 4) (con (pos 1)) (v 6 :- v 0 :* v 4) (con (pos 0))
    (zero_cancel q+ (ring2 ρ (v 1 :* (v 6 :- v 0 :* v 4)) (con (pos 0))
    (neg (con (pos 1))) (v 0 :* (v 1 :* v 4 :+ v 2 :* (v 5 :- v 4))) (v 1 :* v 6)
    (v 0) (v 2 :* (v 5 :- v 4)) (con (pos 0)) f g refl)) refl

-- ---- two segments from a that have two points in common: an end of one lies on the other
module _ (z w : Spot) (f : Differ z w) where
  pub same_end : (a b d : Point) → OnSegment z a b → OnSegment w a b → OnSegment z a d → OnSegment w a d →
      OnSegment (spot b) a d ⊎ OnSegment (spot d) a b
  unfolding shared
  same_end a b d o o' k k' = go (≤ℤ_total (Dot a b d) (pos 0))
    where
      t : turn_of a b d ≡ pos 0
      t = no_turn z w f a b d (along z w a b o o') (along z w a d k k')

      back : turn_of d a b ≡ pos 0
      back =
          ring1 (a.x ∷ a.y ∷ b.x ∷ b.y ∷ d.x ∷ d.y ∷ [])
          ((v 0 :- v 4) :* (v 3 :- v 5) :- (v 1 :- v 5) :* (v 2 :- v 4)) (con (pos 0)) (con (pos 1))
          ((v 2 :- v 0) :* (v 5 :- v 1) :- (v 3 :- v 1) :* (v 4 :- v 0)) (con (pos 0)) t refl

      both : (r s x y a : ℤ) → x ≡ r *ℤ a → y ≡ s *ℤ a → x *ℤ s ≡ y *ℤ r
      both r s x y a e g =
          ring2 (r ∷ s ∷ x ∷ y ∷ a ∷ []) (v 2 :* v 1) (v 3 :* v 0) (v 1) (v 2) (v 0 :* v 4) (neg (v 0)) (v 3)
          (v 1 :* v 4) e g refl

      go : (Dot a b d ≤ℤ pos 0) ⊎ (pos 0 <ℤ Dot a b d) → OnSegment (spot b) a d ⊎ OnSegment (spot d) a b
      go (inl h) =
          let only = only_sound {e = a} {a = b} {c = d} (λ e. h) in
          let i = only (shared z a b a d o k) in
          let j = only (shared w a b a d o' k') in
          let zx = at_start z.r o.q o.p k.q a.x b.x z.x o.q_above k.q_above i.on_x
          o.on_x in
          let zy = at_start z.r o.q o.p k.q a.y b.y z.y o.q_above k.q_above i.on_y
          o.on_y in
          let wx = at_start w.r o'.q o'.p k'.q a.x b.x w.x o'.q_above k'.q_above j.on_x
          o'.on_x in
          let wy = at_start w.r o'.q o'.p k'.q a.y b.y w.y o'.q_above k'.q_above j.on_y
          o'.on_y in
          absurd (f (both z.r w.r z.x w.x a.x zx wx, both z.r w.r z.y w.y a.y zy wy))
      go (inr h) = next (≤ℤ_total (Dot b d a) (pos 0))
        where
          next : (Dot b d a ≤ℤ pos 0) ⊎ (pos 0 <ℤ Dot b d a) → OnSegment (spot b) a d ⊎ OnSegment (spot d) a b
          next (inl l) = inl (on_turned (on_of back l))
          next (inr l) = inr (on_of t (not_all a b d t h l))

  -- two segments that have two points in common: an end of one lies on the other
  pub some_end : (a b c d : Point) → OnSegment z a b → OnSegment w a b → OnSegment z c d → OnSegment w c d →
      (OnSegment (spot c) a b ⊎ OnSegment (spot d) a b) ⊎ (OnSegment (spot a) c d ⊎ OnSegment (spot b) c d)
  some_end a b c d o o' k k' = go ((quick_complete (shared z a b c d o k)).flat (tc ∙ sym td))
    where
      ab : Along z w (b.x -ℤ a.x) (b.y -ℤ a.y)
      ab = along z w a b o o'

      cd : Along z w (d.x -ℤ c.x) (d.y -ℤ c.y)
      cd = along z w c d k k'

      ac : Along z w (c.x -ℤ a.x) (c.y -ℤ a.y)
      ac = between z w a b c d o o' k k'

      ca : Along z w (a.x -ℤ c.x) (a.y -ℤ c.y)
      ca = between z w c d a b k k' o o'

      tc : turn_of a b c ≡ pos 0
      tc = no_turn z w f a b c ab ac

      td : turn_of a b d ≡ pos 0
      td = no_turn z w f a b d ab (further z w a c d ac cd)

      ta : turn_of c d a ≡ pos 0
      ta = no_turn z w f c d a cd ca

      tb : turn_of c d b ≡ pos 0
      tb = no_turn z w f c d b cd (further z w c a b ca ab)

      go : Touch a b c d →
          (OnSegment (spot c) a b ⊎ OnSegment (spot d) a b) ⊎ (OnSegment (spot a) c d ⊎ OnSegment (spot b) c d)
      go (inl (inl h)) = inl (inl (on_of tc h))
      go (inl (inr h)) = inl (inr (on_of td h))
      go (inr (inl h)) = inr (inl (on_of ta h))
      go (inr (inr h)) = inr (inr (on_of tb h))
