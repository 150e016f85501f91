-- Listings: lists that have just the members they should, each once, in order; and how larger ones are made of
-- smaller. The first use: all rising lists of numbers with a given end, in order.
-- (The theorems that follow are in proofs/, under the same name.)
use Rattle.std.specs.Prelude.{◌≡◌, Bool, true, false, ◌⊎◌, ℕ, zero, suc, ◌≤◌, ◌<◌, T}
use Rattle.std.proofs.Math.Path.{refl}
use Rattle.std.proofs.Common.{sym, ap, subst, arith}
use Rattle.std.proofs.Math.Logic.{inl, inr, ⊎_elim}
use mathlib.Core.List.{List, [], ◌∷◌, ◌++◌, flat_map}
use Rattle.std.proofs.Math.Decide.{dec_lt}
use Rattle.rules.specs.Lists.{In, in_left, in_right, in_split, in_both, Distinct, Rise, rise_le}
use Rattle.rules.specs.Cutting.{Less}

-- ---- sorted by R: each member stands before the later ones
module _ {A : Type 0} (R : A → A → Type 0) where
  abbrev pub Sorted : List A → Type 0
  Sorted [] = Unit {0}
  Sorted (x ∷ l) = ((y : A) → In y l → R x y) × Sorted l

  sorted_append : (l m : List A) → Sorted l → Sorted m → ((x y : A) → In x l → In y m → R x y) → Sorted (l ++ m)
  sorted_append [] m p q f = q
  sorted_append (x ∷ l) m p q f =
      (in_both (R x) l m p.0 (λ y i. f x y (inl refl) i), sorted_append l m p.1 q (λ u v i k. f u v (inr i) k))

  pub sorted_distinct : ((x : A) → R x x → ⊥) → (l : List A) → Sorted l → Distinct l
  sorted_distinct irr [] s = tt
  sorted_distinct irr (x ∷ l) s = ((λ i. irr x (s.0 x i)), sorted_distinct irr l s.1)

sorted_as : {A : Type 0} (R S : A → A → Type 0) (l : List A) → Sorted R l →
    ((x y : A) → In x l → In y l → R x y → S x y) → Sorted S l
sorted_as R S [] s h = tt
sorted_as R S (x ∷ l) s h =
    ((λ y i. h x y (inl refl) (inr i) (s.0 y i)), sorted_as R S l s.1 (λ y z i k. h y z (inr i) (inr k)))

-- ---- l lists what has P, in the order R
pub record Listed {A : Type 0} (P : A → Type 0) (R : A → A → Type 0) (l : List A) : Type 0 where
  pub only : (x : A) → In x l → P x
  pub every : (x : A) → P x → In x l
  pub sorted : Sorted R l

module _ {A : Type 0} (P : A → Type 0) (R : A → A → Type 0) where
  listed_none : ((x : A) → P x → ⊥) → Listed P R []
  listed_none f = record { only = λ x i. absurd i; every = λ x p. absurd (f x p); sorted = tt }

  pub listed_one : (a : A) → P a → ((x : A) → P x → x ≡ a) → Listed P R (a ∷ [])
  listed_one a h f = record { only = only'; every = λ x p. inl (f x p); sorted = ((λ y i. absurd i), tt) }
    where
      only' : (x : A) → In x (a ∷ []) → P x
      only' x (inl e) = subst P (sym e) h
      only' x (inr k) = elim k [ ]

  -- all or nothing
  pub listed_if : (b : Bool) (l : List A) → (T b → Listed P R l) → ((x : A) → P x → T b) →
      Listed P R (elim b [ true ↦ l | false ↦ [] ])
  listed_if true l L f = L tt
  listed_if false l L f = listed_none f

  -- the same members, said otherwise
  pub listed_as : (Q : A → Type 0) (S : A → A → Type 0) (l : List A) → Listed Q S l → ((x : A) → Q x → P x) →
      ((x : A) → P x → Q x) →
      ((x y : A) → Q x → Q y → S x y → R x y) → Listed P R l
  listed_as Q S l L f g h = record {
    only = λ x i. f x (L.only x i);
    every = λ x p. L.every x (g x p);
    sorted = sorted_as S R l L.sorted (λ x y i k. h x y (L.only x i) (L.only y k));
  }

  -- one listing after the other
  pub listed_append : (Q S : A → Type 0) (l m : List A) → Listed Q R l → Listed S R m → ((x : A) → Q x → P x) →
      ((x : A) → S x → P x) →
      ((x : A) → P x → Q x ⊎ S x) → ((x y : A) → Q x → S y → R x y) → Listed P R (l ++ m)
  listed_append Q S l m L M f g split cross = record {
    only = in_both P l m (λ x i. f x (L.only x i)) (λ x i. g x (M.only x i));
    every = λ x p. ⊎_elim (λ q. in_left x l m (L.every x q)) (λ s. in_right x l m (M.every x s)) (split x p);
    sorted = sorted_append R l m L.sorted M.sorted (λ x y i k. cross x y (L.only x i) (M.only y k));
  }

module _ {A B : Type 0} where
  in_flat_map : (f : A → List B) (l : List A) (y : B) → In y (flat_map f l) → (x : A) × In x l × In y (f x)
  unfolding flat_map
  in_flat_map f [] y i = absurd i
  in_flat_map f (x ∷ l) y i =
      ⊎_elim (λ k. (x, inl refl, k)) (λ k. let p = in_flat_map f l y k in (p.0, inr p.1, p.2))
      (in_split y (f x) (flat_map f l) i)

  flat_map_in : (f : A → List B) (l : List A) (x : A) (y : B) → In x l → In y (f x) → In y (flat_map f l)
  unfolding flat_map
  flat_map_in f [] x y i k = absurd i
  flat_map_in f (z ∷ l) x y (inl e) k = in_left y (f z) (flat_map f l) (subst (λ v. In y (f v)) e k)
  flat_map_in f (z ∷ l) x y (inr i) k = in_right y (f z) (flat_map f l) (flat_map_in f l x y i k)

  sorted_flat_map : (R : A → A → Type 0) (S : B → B → Type 0) (f : A → List B) (l : List A) → Sorted R l →
      ((x : A) → In x l → Sorted S (f x)) →
      ((x x' : A) → In x l → In x' l → R x x' → (y y' : B) → In y (f x) → In y' (f x') → S y y') →
      Sorted S (flat_map f l)
  unfolding flat_map
  sorted_flat_map R S f [] s each cross = tt
  sorted_flat_map R S f (x ∷ l) s each cross =
      sorted_append S (f x) (flat_map f l) (each x (inl refl))
      (sorted_flat_map R S f l s.1 (λ z i. each z (inr i)) (λ z z' i k. cross z z' (inr i) (inr k)))
      (λ y y' i k. let p = in_flat_map f l y' k in
      cross x p.0 (inl refl) (inr p.1) (s.0 p.0 p.1) y y' i p.2)

  -- a listing for each member of a listing, one after the other; `of y x` says that y is listed under x
  pub listed_flat_map : (P : A → Type 0) (R : A → A → Type 0) (Q : B → Type 0) (S : B → B → Type 0)
      (of : B → A → Type 0) →
      (f : A → List B) (l : List A) → Listed P R l → ((x : A) → P x → Listed (λ y. Q y × of y x) S (f x)) →
      ((y : B) → Q y → (x : A) × P x × of y x) →
      ((x x' : A) → R x x' → (y y' : B) → Q y → of y x → Q y' → of y' x' → S y y') → Listed Q S (flat_map f l)
  listed_flat_map P R Q S of f l L each under cross = record {
    only = λ y i. let p = in_flat_map f l y i in ((each p.0 (L.only p.0 p.1)).only y p.2).0;
    every = λ y q. let p = under y q in
        flat_map_in f l p.0 y (L.every p.0 p.1) ((each p.0 p.1).every y (q, p.2));
    sorted = sorted_flat_map R S f l L.sorted (λ x i. (each x (L.only x i)).sorted)
        (λ x x' i i' r y y' k k'. apart x x' r y y' ((each x (L.only x i)).only y k)
        ((each x' (L.only x' i')).only y' k'));
  }
    where
      apart : (x x' : A) → R x x' → (y y' : B) → Q y × of y x → Q y' × of y' x' → S y y'
      apart x x' r y y' p p' = cross x x' r y y' p.0 p.1 p'.0 p'.1

  -- what f makes of each member
  pub listed_map : (P : A → Type 0) (R : A → A → Type 0) (Q : B → Type 0) (S : B → B → Type 0) (f : A → B)
      (l : List A) → Listed P R l →
      ((x : A) → P x → Q (f x)) → ((y : B) → Q y → (x : A) × P x × (y ≡ f x)) →
      ((x x' : A) → R x x' → S (f x) (f x')) →
      Listed Q S (flat_map (λ x. f x ∷ []) l)
  listed_map P R Q S f l L into from keeps =
      listed_flat_map P R Q S (λ y x. y ≡ f x) (λ x. f x ∷ []) l L
      (λ x p. listed_one (λ y. Q y × (y ≡ f x)) S (f x) (into x p, refl) (λ y h. h.1)) from
      (λ x x' r y y' q e q' e'. rw (e, e') (keeps x x' r))

-- ---- all rising lists from c or later to c + k, in order
abbrev pub rises : ℕ → ℕ → List (List ℕ)
rises zero c = (c ∷ []) ∷ []
rises (suc k) c = let r = rises k (suc c) in flat_map (λ s. (c ∷ s) ∷ []) r ++ r

abbrev pub From : ℕ → ℕ → List ℕ → Type 0
From c j [] = ⊥
From c j (b ∷ s) = (c ≤ b) × Rise b j s

-- those that begin with c
abbrev pub At : ℕ → ℕ → List ℕ → Type 0
At c j [] = ⊥
At c j (b ∷ s) = (b ≡ c) × From (suc c) j s

pub at_from : (c j : ℕ) (s : List ℕ) → At c j s → From c j s
at_from c j [] h = absurd h
at_from c j (b ∷ []) h = absurd h.1
at_from c j (b ∷ d ∷ s) h = (omega arith, (omega (arith, h.1.0), h.1.1))

pub later_from : (c j : ℕ) (s : List ℕ) → From (suc c) j s → From c j s
later_from c j [] h = absurd h
later_from c j (b ∷ s) h = (omega (arith, h.0), h.1)

pub at_later : (c j : ℕ) (s t : List ℕ) → At c j s → From (suc c) j t → Less s t
at_later c j [] t h k = absurd h
at_later c j (b ∷ s) [] h k = absurd k
at_later c j (b ∷ s) (d ∷ t) h k = inl (omega (arith, h.0, k.0))

pub from_split : (c j : ℕ) → c < j → (s : List ℕ) → From c j s → At c j s ⊎ From (suc c) j s
from_split c j lt [] h = absurd h
from_split c j lt (b ∷ s) h = go (dec_lt c b) s h.1
  where
    go : Dec (c < b) → (s : List ℕ) → Rise b j s → At c j (b ∷ s) ⊎ From (suc c) j (b ∷ s)
    go (yes l) s r = inr (l, r)
    go (no l) [] r = absurd (omega (arith, h.0))
    go (no l) (d ∷ s) r = inl (omega (arith, h.0), (omega (arith, h.0, r.0), r.1))

pub from_only : (c : ℕ) (s : List ℕ) → From c c s → s ≡ c ∷ []
from_only c [] h = absurd h
from_only c (b ∷ []) h = ap (◌∷ []) h.1
from_only c (b ∷ d ∷ s) h = absurd (omega (arith, h.0, h.1.0, rise_le d c s h.1.1))

rises_2_1 : rises 2 1 ≡ (1 ∷ 2 ∷ 3 ∷ []) ∷ (1 ∷ 3 ∷ []) ∷ (2 ∷ 3 ∷ []) ∷ (3 ∷ []) ∷ []
unfolding flat_map
rises_2_1 = refl
