-- The pieces of a list, as entries: when two are the same, what their corners are, that bytes in 01's layout are those
-- of a list of entries, and that a region with a centre of its own is an allowed piece.
use Rattle.std.specs.Prelude.{◌≡◌, refl, List, [], ◌∷◌, ◌++◌, ℕ, ◌≤◌, ◌<◌, length}
use Rattle.std.proofs.Common.{sym, ap, subst, inl, inr, arith}
use Rattle.rules.specs.Lists.{In, Rising, rise_last}
use Rattle.rules.specs.Cutting.{Pairs, Region}
use Rattle.rules.specs.Centre.{Layout}
use Rattle.rules.specs.Walk.{rise_length}
use Rattle.rules.specs.Regions.{last_of}
use Rattle.rules.specs.Count.{in_map, map_in}
use Rattle.checker.specs.Checks.{Entry, laid, Allowed, corner_lists}

-- ---- centre and corners make an entry
pub entry_is : (e f : Entry) → e.centre ≡ f.centre → e.corners ≡ f.corners → e ≡ f
entry_is e f c s = λ i. record { centre = c i; corners = s i }

-- ---- the corners of the entries of a list
pub entry_in : (e : Entry) (l : List Entry) → In e l → In e.corners (corner_lists l)
entry_in = in_map (λ (e : Entry). e.corners)

pub in_entry : (S : List ℕ) (l : List Entry) → In S (corner_lists l) → (e : Entry) × In e l × (S ≡ e.corners)
in_entry = map_in (λ (e : Entry). e.corners)

-- ---- bytes in 01's layout are those of a list of entries
module _ (centre : ℕ → List ℕ → Type 0) where
  pub record Entries (told : List (List ℕ)) (bytes : List ℕ) : Type 0 where
    pub list : List Entry
    pub used : bytes ≡ laid list
    pub pieces_are : corner_lists list ≡ told
    pub centred : (e : Entry) → In e list → centre e.centre e.corners

  one_more : (c : ℕ) (S : List ℕ) (told : List (List ℕ)) (rest : List ℕ) → centre c S → Entries told rest →
      Entries (S ∷ told) (length S ∷ c ∷ (S ++ rest))
  one_more c S told rest h t = record {
    list = record { centre = c; corners = S } ∷ t.list;
    used = ap (λ x. length S ∷ c ∷ (S ++ x)) t.used;
    pieces_are = ap (λ x. S ∷ x) t.pieces_are;
    centred = centred;
  }
    where
      centred : (e : Entry) → In e (record { centre = c; corners = S } ∷ t.list) → centre e.centre e.corners
      centred e (inl q) = subst (λ (e : Entry). centre e.centre e.corners) (sym q) h
      centred e (inr i) = t.centred e i

  pub entries : (told : List (List ℕ)) (bytes : List ℕ) → Layout centre told bytes → Entries told bytes
  entries [] bytes h = record { list = []; used = h; pieces_are = refl; centred = λ e i. absurd i }
  entries (S ∷ told) bytes h =
      subst (Entries (S ∷ told)) (sym h.3)
      (one_more h.0 S told h.1 h.2 (entries told h.1 h.4))

-- ---- a region, with a centre of its own, is an allowed piece
-- a rising list of numbers below n has no more than n
few : (n : ℕ) (S : List ℕ) → Rising S → ((x : ℕ) → In x S → x < n) → length S ≤ n
few n [] r b = omega arith
few n (a ∷ s) r b =
    let p = last_of a s r in
    omega (arith, rise_length a p.0 s p.1, b p.0 (rise_last a p.0 s p.1))

pub region_allowed : (n : ℕ) (C : Pairs) (e : Entry) → Region n C e.corners → In e.centre e.corners →
    Allowed n e
region_allowed n C e R i = record {
  enough = R.three;
  few = few n e.corners R.rising R.small;
  rising = R.rising;
  below = R.small;
  own = i;
}
