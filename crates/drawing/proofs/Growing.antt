-- A table that grows: the pairs that it is marked for become more.
use mathlib.Core.Path.{◌≡◌, refl, ◌∙◌}
use mathlib.Core.Logic.{◌⊎◌, inl, inr}
use mathlib.Core.List.{List}
use Prim.Native.Nat.{ℕ, ◌<◌}
use lib.IntN.{ℤ}
use Rattle.outline.specs.Drawing.{corners, Sound}
use Rattle.outline.specs.InOrOn.{CentreSees}
use Rattle.drawing.specs.Table.{cell, Code, Marked, Grows}
use Rattle.drawing.specs.Codes.{nought_unseen, code_unseen}

-- by two steps
pub grows_on : {d : List ℤ} {A B C : ℕ → ℕ → Type 0} {c t u : List ℕ} →
    Grows d A B c t → Grows d B C t u → Grows d A C c u
grows_on f g = record { grown = λ o m. g.grown o (f.grown o m); size = g.size ∙ f.size }

module _ {d : List ℤ} {A B : ℕ → ℕ → Type 0} {c : List ℕ} where
  -- as it stands: the pairs of B are pairs of A
  pub grows_in : ((p q : ℕ) → p < corners d → q < corners d → B p q → A p q) → Grows d A B c c
  grows_in f = record {
    grown = λ o m. record {
      codes = m.codes;
      done = λ p q hp hq b. m.done p q hp hq (f p q hp hq b);
      both_ways = m.both_ways;
      kept = m.kept;
      size = m.size;
    };
    size = refl;
  }

  -- or at least those of them in which a centre sees from one to the other: the cells of the others are right as they
  -- are
  pub grows_as : Sound d → ((p q : ℕ) → p < corners d → q < corners d → B p q → CentreSees d p q → A p q) →
      Grows d A B c c
  grows_as sound f = record {
    grown = λ o m. record {
      codes = m.codes;
      done = λ p q hp hq b. go o m p q hp hq b (m.codes p q hp hq);
      both_ways = m.both_ways;
      kept = m.kept;
      size = m.size;
    };
    size = refl;
  }
    where
      go : (o : List ℕ) → Marked d A o c → (p q : ℕ) → p < corners d → q < corners d → B p q →
          (cell c p q ≡ 0) ⊎ Code d p q (cell c p q) → Code d p q (cell c p q)
      go o m p q hp hq b (inr k) = k
      go o m p q hp hq b (inl z) =
          code_unseen sound hp hq (λ s. nought_unseen (m.done p q hp hq (f p q hp hq b s)) z s) z
