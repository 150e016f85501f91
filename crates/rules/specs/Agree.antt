-- Two plans that agree on n corners have the same valid cuttings, the same first one and the same result, byte for
-- byte. (Sight is a proposition about a drawing in one place, a cell or a test in another; other drawings may have the
-- same sight.)
-- (The theorems that follow are in proofs/, under the same name.)
use Rattle.std.specs.Prelude.{◌≡◌, refl, ◌↔◌, List, [], ◌∷◌, ℕ, ◌+◌, ◌≤◌, ◌<◌, length}
use Rattle.std.proofs.Common.{sym, ap₂, inl, inr}
use Rattle.std.proofs.Math.Logic.Iff
use Rattle.rules.specs.Lists.{In, Rising}
use Rattle.rules.specs.Cutting.{Inner, last, closing, weight}
use Rattle.rules.specs.Centre.{Centre, HasCentre, Lowest, Layout}
use Rattle.rules.specs.Plan.{Plan, stars}

-- all corners of S are below n
abbrev pub Below : ℕ → List ℕ → Type 0
Below n S = (x : ℕ) → In x S → x < n

pub record Agree (n : ℕ) (p q : Plan) : Type 0 where
  pub cuts : (a b : ℕ) → Inner n a b → p.cut a b ↔ q.cut a b
  pub lists : (S : List ℕ) → Rising S → Below n S → 3 ≤ length S → p.piece S ↔ q.piece S
  pub weighs : (a b : ℕ) → p.weight a b ≡ q.weight a b
  pub centres : (S : List ℕ) → Below n S → (x : ℕ) → p.centre x S ↔ q.centre x S

pub agree_back : {n : ℕ} {p q : Plan} → Agree n p q → Agree n q p
agree_back a = record {
  cuts = λ x y i. Iff.symm (a.cuts x y i);
  lists = λ S r s t. Iff.symm (a.lists S r s t);
  weighs = λ x y. sym (a.weighs x y);
  centres = λ S s x. Iff.symm (a.centres S s x);
}

-- ---- bytes and weights, piece by piece
pub layout_map : {c d : ℕ → List ℕ → Type 0} (l : List (List ℕ)) → ((S : List ℕ) → In S l → (x : ℕ) → c x S → d x S) →
    (bytes : List ℕ) → Layout c l bytes → Layout d l bytes
layout_map [] f bytes h = h
layout_map (S ∷ l) f bytes h =
    (h.0, h.1, f S (inl refl) h.0 h.2, h.3, layout_map l (λ Q i. f Q (inr i)) h.1 h.4)

pub weight_same : (w w' : ℕ → ℕ → ℕ) → ((a b : ℕ) → w a b ≡ w' a b) → (l : List (List ℕ)) → weight w l ≡ weight w' l
weight_same w w' e [] = refl
weight_same w w' e (S ∷ l) = ap₂ ◌+◌ (one S) (weight_same w w' e l)
  where
    one : (S : List ℕ) → closing w S ≡ closing w' S
    one [] = e 0 0
    one (a ∷ s) = e a (last a s)

-- ---- 01's plan over two readings of sight that agree below n
module _ {n : ℕ} {sees sees' : ℕ → ℕ → Type 0} (to : (x y : ℕ) → x < n → y < n → sees x y → sees' x y) where
  centre_map : (x : ℕ) (S : List ℕ) → Below n S → Centre sees x S → Centre sees' x S
  centre_map x S small c = (c.0, λ y i. to x y (small x c.0) (small y i) (c.1 y i))

  pub has_centre_map : (S : List ℕ) → Below n S → HasCentre sees S → HasCentre sees' S
  has_centre_map S small h = (h.0, centre_map h.0 S small h.1)

module _ {n : ℕ} {sees sees' : ℕ → ℕ → Type 0} (to : (x y : ℕ) → x < n → y < n → sees x y → sees' x y)
    (from : (x y : ℕ) → x < n → y < n → sees' x y → sees x y) where
  lowest_map : (S : List ℕ) → Below n S → (x : ℕ) → Lowest sees x S → Lowest sees' x S
  lowest_map S small x l = record {
    centre = centre_map to x S small l.centre;
    lowest = λ y c. l.lowest y (centre_map from y S small c);
  }

pub stars_agree : {n : ℕ} {cut cut' sees sees' : ℕ → ℕ → Type 0} → ((a b : ℕ) → Inner n a b → cut a b ↔ cut' a b) →
    ((x y : ℕ) → x < n → y < n → sees x y ↔ sees' x y) → Agree n (stars cut sees) (stars cut' sees')
stars_agree {n} {cut} {cut'} {sees} {sees'} cuts same = record {
  cuts = cuts;
  lists = λ S r small t. (has_centre_map to S small, has_centre_map from S small);
  weighs = λ a b. refl;
  centres = λ S small x. (lowest_map to from S small x, lowest_map from to S small x);
}
  where
    to : (x y : ℕ) → x < n → y < n → sees x y → sees' x y
    to x y h g = (same x y h g).0

    from : (x y : ℕ) → x < n → y < n → sees' x y → sees x y
    from x y h g = (same x y h g).1
