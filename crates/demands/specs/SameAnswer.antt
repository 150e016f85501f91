-- Two pairs of drawings have the same answer where each line of 01's table asks the same of both and where the same
-- corners see each other in both, by the rule for cuts and by the rule for centres: their plans agree. "The cutting
-- rules learn of a drawing only whether i sees j" (01, "Sight") is here a theorem about the answer.
use Rattle.std.specs.Prelude.{◌≡◌, ◌↔◌, List, ◌++◌, ℕ, ◌<◌, ℤ, length}
use Rattle.std.proofs.Common.{sym, subst, arith}
use Rattle.std.proofs.Math.Logic.Iff
use Rattle.limits.specs.Limits.{Roomy}
use Rattle.outline.specs.Drawing.{corners, InRange, Simple}
use Rattle.pair.specs.Pair.{Alike, Anticlockwise, of_drawing}
use Rattle.rules.specs.Refusals.{Line, SameAsked, end, same, same_failed}
use Rattle.rules.specs.Plan.{Cuttable}
use Rattle.rules.specs.Result.{Result, Given}
use Rattle.rules.specs.Agree.{Agree, stars_agree}
use Rattle.rules.proofs.Agree.{cuttable_same, given_same}
use Rattle.desk.specs.Answer.{Cut, InBoth, plan, asked, Answers}
use Rattle.demands.specs.Lines.{given_alike}

-- ---- lines that ask the same of two pairs
-- the first line asks for lengths alone
pub alike_by_length : {first second first' second' : List ℤ} → length first' ≡ length first →
    length second' ≡ length second →
    Alike first second ↔ Alike first' second'
alike_by_length e g = (λ a. omega arith, λ a. omega arith)

-- the lines on one drawing ask the same of two
pub record SameJudged (d d' : List ℤ) : Type 0 where
  pub in_range : InRange d ↔ InRange d'
  pub simple : Simple d ↔ Simple d'
  pub anticlockwise : Anticlockwise d ↔ Anticlockwise d'

pub same_judged : (d : List ℤ) → SameJudged d d
same_judged d = record { in_range = Iff.rfl; simple = Iff.rfl; anticlockwise = Iff.rfl }

judged_back : {d d' : List ℤ} → SameJudged d d' → SameJudged d' d
judged_back j = record {
  in_range = Iff.symm j.in_range;
  simple = Iff.symm j.simple;
  anticlockwise = Iff.symm j.anticlockwise;
}

-- in the table, before lines that ask the same
pub judged : (a b c : ℕ) {d d' : List ℤ} {k l : List Line} → SameJudged d d' → SameAsked k l →
    SameAsked (of_drawing a b c d ++ k) (of_drawing a b c d' ++ l)
judged a b c j rest = same j.in_range (λ _. same j.simple (λ _. same j.anticlockwise (λ _. rest)))

module _ (first second first' second' : List ℤ) where
  abbrev LastLines : Type 0
  LastLines = Cuttable (plan first second) (corners first) ↔ Cuttable (plan first' second') (corners first')

  -- what the lines ask of the one pair and of the other, where the first line holds
  pub record SameLines : Type 0 where
    pub many : corners first' ≡ corners first
    pub judged_first : SameJudged first first'
    pub judged_second : SameJudged second second'
    pub cuttable : LastLines

  pub same_lines : (room : ℕ) → Alike first second ↔ Alike first' second' → (Alike first second → SameLines) →
      SameAsked (asked first second room) (asked first' second' room)
  same_lines room alike lines =
      same alike (λ a.
      let l = lines a in
      let e = l.many in
      let fits : Roomy (corners first) room ↔ Roomy (corners first') room = (omega arith, omega arith) in
      same fits
      (λ _. judged 3 4 5 l.judged_first (judged 6 7 8 l.judged_second (same l.cuttable (λ _. end)))))

-- ---- two pairs of drawings with the same sight of either kind: their plans agree
pub record SameSight (first second first' second' : List ℤ) : Type 0 where
  pub many : corners first' ≡ corners first
  pub cuts : (a b : ℕ) → a < corners first → b < corners first → Cut first second a b ↔ Cut first' second' a b
  pub seen : (x y : ℕ) → x < corners first → y < corners first → InBoth first second x y ↔ InBoth first' second' x y

sight_back : (first second first' second' : List ℤ) → SameSight first second first' second' →
    SameSight first' second' first second
sight_back first second first' second' sight = record {
  many = sym sight.many;
  cuts =
      subst (λ n. (a b : ℕ) → a < n → b < n → Cut first' second' a b ↔ Cut first second a b) (sym sight.many)
      (λ a b h g. Iff.symm (sight.cuts a b h g));
  seen =
      subst (λ n. (x y : ℕ) → x < n → y < n → InBoth first' second' x y ↔ InBoth first second x y) (sym sight.many)
      (λ x y h g. Iff.symm (sight.seen x y h g));
}

module _ (first second first' second' : List ℤ) (sight : SameSight first second first' second') where
  agree : Agree (corners first) (plan first second) (plan first' second')
  agree =
      stars_agree (λ a b i. sight.cuts a b (omega (arith, i.rises, i.small)) i.small) sight.seen

  pub same_cuttable : Cuttable (plan first second) (corners first) ↔ Cuttable (plan first' second') (corners first')
  same_cuttable =
      subst (λ n. Cuttable (plan first second) (corners first) ↔ Cuttable (plan first' second') n) (sym sight.many)
      (cuttable_same agree)

  pub given_too : (before : List ℕ) (r : Result) → Alike first second →
      Given (plan first second) (corners first) before r → Given (plan first' second') (corners first') before r
  given_too before r a g =
      subst (λ n. Given (plan first' second') n before r) (sym sight.many) (given_same agree a.enough before r g)

-- ---- the same answer: what the two pairs must have in common where the first line holds
pub record SameShapes (first second first' second' : List ℤ) : Type 0 where
  pub judged_first : SameJudged first first'
  pub judged_second : SameJudged second second'
  pub sight : SameSight first second first' second'

shapes_back : (first second first' second' : List ℤ) → SameShapes first second first' second' →
    SameShapes first' second' first second
shapes_back first second first' second' s = record {
  judged_first = judged_back s.judged_first;
  judged_second = judged_back s.judged_second;
  sight = sight_back first second first' second' s.sight;
}

one_way : (first second first' second' : List ℤ) → Alike first second ↔ Alike first' second' →
    (Alike first second → SameShapes first second first' second') → (before : List ℕ) (r : Result) →
    Answers first second before r → Answers first' second' before r
one_way first second first' second' alike shapes before r h = record {
  numbered =
      same_failed (same_lines first second first' second' (length before) alike lines) r.number h.numbered;
  refused = h.refused;
  given = λ z.
      let a = given_alike first second (length before) r.number z h.numbered in
      given_too first second first' second' (shapes a).sight before r a (h.given z);
}
  where
    lines : Alike first second → SameLines first second first' second'
    lines a =
        let s = shapes a in
        record {
          many = s.sight.many;
          judged_first = s.judged_first;
          judged_second = s.judged_second;
          cuttable = same_cuttable first second first' second' s.sight;
        }

pub same_answer : (first second first' second' : List ℤ) → Alike first second ↔ Alike first' second' →
    (Alike first second → SameShapes first second first' second') → (before : List ℕ) (r : Result) →
    Answers first second before r ↔ Answers first' second' before r
same_answer first second first' second' alike shapes before r = (
  one_way first second first' second' alike shapes before r,
  one_way first' second' first second (Iff.symm alike)
      (λ a. shapes_back first second first' second' (shapes (alike.1 a))) before r,
)
