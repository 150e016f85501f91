-- Rows of a table of examples, each with a computed test: two drawings, the room, and what comes back; or a drawing
-- and two of its corners, which see each other or do not, by the rule for cuts or by that for centres. Where the test
-- passes the row holds. `Holds` has to be believed.
use Rattle.std.specs.Prelude.{◌≡◌, refl, Bool, true, false, not, ◌&&◌, List, [], ◌∷◌, ℕ, ◌≤◌, T, eqb, ltb, ℤ, length, replicate}
use Rattle.std.proofs.Common.{ap, ap₂, ◌∙◌, subst, arith}
use Rattle.std.proofs.lemmas.List.{length-replicate}
use Rattle.outline.specs.Drawing.{corners, Sees}
use Rattle.outline.specs.InOrOn.{CentreSees}
use Rattle.outline.specs.Tells.{Tells, as_well, surely, never, passed, failed, if_yes, if_no}
use Rattle.outline.specs.Tells.{itself, and_tells, then_tells, eq_tells, lower_tells}
use Rattle.outline.specs.Mirror.{simple_test, simple_tells, sees_test, sees_tells}
use Rattle.outline.proofs.CentreMirror.{centre_test, centre_tells}
use Rattle.rules.specs.Result.{Result}
use Rattle.desk.specs.Answer.{Answers}
use Rattle.desk.specs.Unique.{answer_unique}
use Rattle.demands.specs.Program.{Expected, cutting, refusal, writing, Gives}
use Rattle.demands.specs.Mirror.{expected, mirror}
use Rattle.demands.specs.Room.{gives_more, gives_less}

-- ---- two drawings, the room, and what comes back
pub record Case : Type 0 where
  pub first : List ℤ
  pub second : List ℤ
  pub room : ℕ
  pub answer : Expected

abbrev pub given : List ℤ → List ℤ → ℕ → ℕ → List ℕ → Case
given first second room count laid =
    record { first = first; second = second; room = room; answer = cutting count laid }

abbrev pub refused : List ℤ → List ℤ → ℕ → ℕ → Case
refused first second room number = record { first = first; second = second; room = room; answer = refusal number }

-- the rooms that a case speaks of: that one and more; where it is refused for room, that one and less
abbrev pub Rooms : Case → ℕ → Type 0
Rooms c m = elim (eqb c.answer.number 2) as (λ b. Type 0) [ true ↦ m ≤ c.room | false ↦ c.room ≤ m ]

-- with every buffer of such a room
abbrev pub Comes : Case → Type 0
Comes c = (before : List ℕ) → Rooms c (length before) → Gives c.first c.second before c.answer

-- ---- its test
abbrev pub bytes_test : List ℕ → List ℕ → Bool
bytes_test [] [] = true
bytes_test [] (b ∷ t) = false
bytes_test (a ∷ s) [] = false
bytes_test (a ∷ s) (b ∷ t) = elim (eqb a b) as (λ x. Bool) [ true ↦ bytes_test s t | false ↦ false ]

pub bytes_tells : (s t : List ℕ) → Tells (bytes_test s t) (s ≡ t)
bytes_tells [] [] = surely refl
bytes_tells [] (b ∷ t) = never (λ e. omega (arith, ap length e))
bytes_tells (a ∷ s) [] = never (λ e. omega (arith, ap length e))
bytes_tells (a ∷ s) (b ∷ t) =
    as_well (then_tells (eq_tells a b) (bytes_tells s t)) (λ h. ap₂ ◌∷◌ h.0 h.1) (λ e. (cc, cc))

abbrev same_test : Expected → Expected → Bool
same_test e f = eqb e.number f.number && (eqb e.count f.count && bytes_test e.laid f.laid)

same_sure : (e f : Expected) → T (same_test e f) → e ≡ f
same_sure e f h =
    let p = (and_tells (eq_tells _ _) (and_tells (eq_tells _ _) (bytes_tells e.laid f.laid))).sure h in
    λ i. record { number = p.0 i; count = p.1.0 i; laid = p.1.1 i }

abbrev pub case_test : Case → Bool
case_test c = same_test (expected c.first c.second c.room) c.answer

-- with one buffer it is computed, so it comes with the others
pub case_comes : (c : Case) → T (case_test c) → Comes c
case_comes c h before m = go (eqb c.answer.number 2) refl m
  where
    blank : List ℕ
    blank = replicate c.room 0

    long : length blank ≡ c.room
    long = length-replicate c.room 0

    there : Gives c.first c.second blank c.answer
    there =
        subst (Gives c.first c.second blank)
        (ap (expected c.first c.second) long ∙ same_sure _ c.answer h) (mirror c.first c.second blank)

    go : (b : Bool) → eqb c.answer.number 2 ≡ b →
        elim b as (λ b. Type 0) [ true ↦ length before ≤ c.room | false ↦ c.room ≤ length before ] →
        Gives c.first c.second before c.answer
    go true e m =
        gives_less c.first c.second blank before c.answer (if_yes (eq_tells _ 2) e)
        (omega (arith, m, long)) there
    go false e m =
        gives_more c.first c.second blank before c.answer (if_no (eq_tells _ 2) e)
        (omega (arith, m, long)) there

-- and no other result does
pub case_only : (c : Case) → Comes c → (before : List ℕ) → Rooms c (length before) → (r : Result) →
    Answers c.first c.second before r → r ≡ writing c.answer before
case_only c h before m r a = answer_unique c.first c.second before r _ a (h before m)

-- ---- a row is such a case, or a sight: of either kind
pub data Row : Type 0 where
  case : Case → Row
  sees : List ℤ → ℕ → ℕ → Row
  misses : List ℤ → ℕ → ℕ → Row
  centre_sees : List ℤ → ℕ → ℕ → Row
  centre_misses : List ℤ → ℕ → ℕ → Row

abbrev pub Holds : Row → Type 0
Holds (case c) = Comes c
Holds (sees d i j) = Sees d i j
Holds (misses d i j) = ¬ Sees d i j
Holds (centre_sees d i j) = CentreSees d i j
Holds (centre_misses d i j) = ¬ CentreSees d i j

-- the test of a centre's sight tells of two corners of a simple drawing
abbrev asked_well : List ℤ → ℕ → ℕ → Bool
asked_well d i j = simple_test d && (ltb i (corners d) && ltb j (corners d))

abbrev pub row_test : Row → Bool
row_test (case c) = case_test c
row_test (sees d i j) = sees_test d i j
row_test (misses d i j) = not (sees_test d i j)
row_test (centre_sees d i j) = asked_well d i j && centre_test d i j
row_test (centre_misses d i j) = asked_well d i j && not (centre_test d i j)

module _ (d : List ℤ) (i j : ℕ) where
  centre_told : (b : Bool) → T (asked_well d i j && b) → Tells (centre_test d i j) (CentreSees d i j) × T b
  centre_told b h =
      let corners_of = and_tells (lower_tells i (corners d)) (lower_tells j (corners d)) in
      let p = (and_tells (and_tells (simple_tells d) corners_of) (itself b)).sure h in
      (centre_tells d p.0.0 i j p.0.1.0 p.0.1.1, p.1)

pub row_holds : (r : Row) → T (row_test r) → Holds r
row_holds (case c) h = case_comes c h
row_holds (sees d i j) h = passed (sees_tells d i j) h
row_holds (misses d i j) h = failed (sees_tells d i j) h
row_holds (centre_sees d i j) h = let p = centre_told d i j (centre_test d i j) h in passed p.0 p.1
row_holds (centre_misses d i j) h = let p = centre_told d i j (not (centre_test d i j)) h in failed p.0 p.1
