-- Lists of which no two members have the same image under a function.
use Rattle.std.specs.Prelude.{◌≡◌, List, [], ◌∷◌, map}
use Rattle.std.proofs.Common.{sym, ◌∙◌, inl, inr}
use Rattle.rules.specs.Lists.{In, Distinct}
use Rattle.rules.specs.Count.{in_map}

module _ {A B : Type 0} (f : A → B) where
  pub images_distinct : (l : List A) → Distinct (map f l) → Distinct l
  images_distinct [] d = tt
  images_distinct (x ∷ l) d = (λ i. d.0 (in_map f x l i), images_distinct l d.1)

  -- members with the same image are the same
  pub image_same : (l : List A) → Distinct (map f l) → (x y : A) → In x l → In y l → f x ≡ f y → x ≡ y
  image_same [] d x y i k e = absurd i
  image_same (z ∷ l) d x y (inl i) (inl k) e = i ∙ sym k
  image_same (z ∷ l) d x y (inl i) (inr k) e = absurd (d.0 (rw (← i, e) (in_map f y l k)))
  image_same (z ∷ l) d x y (inr i) (inl k) e = absurd (d.0 (rw (← k, ← e) (in_map f x l i)))
  image_same (z ∷ l) d x y (inr i) (inr k) e = image_same l d.1 x y i k e
