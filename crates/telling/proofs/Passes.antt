-- The pieces in a buffer one after another, each getting what stands in its centre's place. `o` says what stood there,
-- `c` what is to stand there: any choice, so that another one than the lowest centre needs no new law.
use mathlib.Core.Path.{◌≡◌, refl, sym, ap, ap₂, subst, ◌∙◌}
use mathlib.Core.Logic.{inl, inr}
use mathlib.Core.List.{List, [], ◌∷◌, ◌++◌}
use Prim.Native.Nat.{ℕ, ◌+◌, ◌-◌, ◌<◌, ◌≤◌}
use native.Mathlib.Omega.{arith}
use lib.ListN.{length, get_or, set, take, drop, length-append}
use lib.Seq.{take-append_seam, drop-append_seam}
use Rattle.telling.proofs.Writes.{rest_is}
use Rattle.rules.specs.Lists.{In}
use Rattle.rules.specs.Lays.{lay, lay_all}

-- ---- the first piece, and those after it
pub record Front (o : List ℕ → ℕ) (l : List (List ℕ)) (told : List ℕ) : Type 0 where
  pub S : List ℕ
  pub t : List (List ℕ)
  pub all : l ≡ S ∷ t
  pub is : told ≡ lay_all o (S ∷ t)

-- told is split behind its first piece
pub record Split (told p q : List ℕ) (to : ℕ) : Type 0 where
  pub size : to ≡ get_or told 0 0
  pub both : told ≡ p ++ q
  pub long : length p ≡ 2 + to

pub split : {told p q : List ℕ} {to : ℕ} → to ≡ get_or told 0 0 → told ≡ p ++ q → length p ≡ 2 + to →
    Split told p q to
split e g n = record { size = e; both = g; long = n }

pub none : (o c : List ℕ → ℕ) {told : List ℕ} (l : List (List ℕ)) → told ≡ lay_all o l → length told ≡ 0 →
    told ≡ lay_all c l
none o c [] e h = e
none o c (S ∷ t) e h = absurd (omega (arith, h, ap length e))

module _ {o : List ℕ → ℕ} {told : List ℕ} where
  pub front : (l : List (List ℕ)) → told ≡ lay_all o l → ¬ (length told ≡ 0) → Front o l told
  front [] e h = absurd (h (ap length e))
  front (S ∷ t) e h = record { S = S; t = t; all = refl; is = e }

  module _ {l : List (List ℕ)} (f : Front o l told) where
    pub front_in : In f.S l
    front_in = subst (In f.S) (sym f.all) (inl refl)

    pub front_later : (Q : List ℕ) → In Q f.t → In Q l
    front_later Q i = subst (In Q) (sym f.all) (inr i)

    front_size : {to : ℕ} → to ≡ get_or told 0 0 → 2 + to ≡ 2 + length f.S
    front_size e = omega (arith, e, ap (λ q. get_or q 0 0) f.is)

    pub front_fits : {to : ℕ} → to ≡ get_or told 0 0 → 2 + to ≤ length told
    front_fits e = omega (arith, front_size e, ap length f.is, length-append f.S (lay_all o f.t))

    -- the piece and the rest, split
    module _ {p q : List ℕ} {to : ℕ} (s : Split told p q to) where
      head : length p ≡ length (lay o f.S)
      head = omega (arith, s.long, front_size s.size)

      split_piece : p ≡ lay o f.S
      split_piece =
          sym (take-append_seam p q) ∙ ap₂ take head (sym s.both ∙ f.is) ∙ take-append_seam (lay o f.S) (lay_all o f.t)

      pub split_rest : q ≡ lay_all o f.t
      split_rest =
          sym (drop-append_seam p q) ∙ ap₂ drop head (sym s.both ∙ f.is) ∙ drop-append_seam (lay o f.S) (lay_all o f.t)

      pub split_less : length q < length told
      split_less = omega (arith, ap length s.both, length-append p q, s.long)

      pub split_corners : take (length p - 2) (drop 2 p) ≡ f.S
      split_corners = rest_is 2 p ∙ ap (drop 2) split_piece

      -- with its centre, and the others with theirs
      pub split_done : (c : List ℕ → ℕ) {x : ℕ} {r : List ℕ} → x ≡ c (take (length p - 2) (drop 2 p)) →
          r ≡ lay_all c f.t → set p 1 x ++ r ≡ lay_all c l
      split_done c {x} {r} k h =
          ap₂ (λ a (y : ℕ). set a 1 y ++ r) split_piece (k ∙ ap c split_corners)
          ∙ ap (λ z. lay c f.S ++ z) h
          ∙ ap (lay_all c) (sym f.all)
