-- The lines of a piece one after another, by its corners; the ranges under them are written one behind another.
--
--     corners:  i . . c d . . j      the lines before c are told, and `ahead` are the corners from d on
use mathlib.Core.Path.{◌≡◌, sym, ap, ap₂, subst, ◌∙◌}
use mathlib.Core.Logic.{◌⊎◌, inl, inr, by_cases}
use mathlib.Core.List.{List, [], ◌∷◌, ◌++◌, append_assoc}
use Prim.Native.Nat.{ℕ, ◌+◌, ◌-◌, ◌<◌, ◌≤◌}
use native.Mathlib.Omega.{arith}
use native.Mathlib.Decide.{dec_lt}
use borrow.Rule.Slice.PartMut.{put_mid}
use lib.ListN.{length, get_or, take, drop, length-append, length-drop}
use Rattle.limits.specs.Limits.{row}
use Rattle.rules.specs.Cutting.{corners, below}
use Rattle.rules.specs.Cells.{marked}
use Rattle.rules.specs.Walk.{Wide, After, walk, Step, step_from, step_next, step_on, narrower}
use Rattle.rules.specs.Walk.{corners_more, corners_end, corners_rise}
use Rattle.rules.specs.Lists.{Rise}
use lib.Seq.{take-append_seam, drop-append_seam, drop-drop}
use Rattle.rules.specs.Lays.{lay_all, blank}
use Rattle.telling.specs.Parts.{Wrote, Corners, first_of, last_of}
use Rattle.telling.specs.Parts.{corners_after, piece_bytes, lines_bytes, range_bytes}
use Rattle.telling.proofs.Tellings.{pairs_wide, lines_more, lines_end, range_more}
use Rattle.telling.proofs.Writes.{Left, left_none, left_room, left_run, left_end, rest_is, rest_back}

-- ---- a piece that was written and split off: its corners, and what is written behind it
rise_last : (a j : ℕ) (s : List ℕ) → Rise a j s → get_or (a ∷ s) (length s) 0 ≡ j
rise_last a j [] h = h
rise_last a j (b ∷ s) h = rise_last b j s h.1

corners_last : (pairs : List ℕ) (i j : ℕ) → i + 1 < j → last_of (i ∷ corners_after pairs i j) ≡ j
corners_last pairs i j l =
    let S = corners_after pairs i j in
    let e : length (i ∷ S) - 1 ≡ length S = omega arith in
    ap (λ (k : ℕ). get_or (i ∷ S) k 0) e ∙ rise_last i j S (corners_rise (pairs_wide pairs) i j l)

piece_corners : {pairs S : List ℕ} {i j : ℕ} → i + 1 < j → j < row → S ≡ i ∷ corners_after pairs i j →
    Corners pairs S × (first_of S ≡ i) × (last_of S ≡ j)
piece_corners {pairs} {S} {i} {j} l m e =
    let f : first_of S ≡ i = ap first_of e in
    let g : last_of S ≡ j = ap last_of e ∙ corners_last pairs i j l in (
      record {
        apart = omega (arith, f, g);
        small = omega (arith, g);
        are = e ∙ ap₂ (λ (x y : ℕ). x ∷ corners_after pairs x y) (sym f) (sym g);
      },
      f,
      g,
    )

pub record Split (pairs o p q : List ℕ) (i j r : ℕ) : Type 0 where
  pub apart : i + 1 < j
  pub small : j < row
  pub long : length p ≡ r
  pub wrote : Wrote o (p ++ q) r (piece_bytes pairs i j)

pub split : {pairs o both p q : List ℕ} {i j r : ℕ} → i + 1 < j → j < row → Wrote o both r (piece_bytes pairs i j) →
    both ≡ p ++ q → length p ≡ r → Split pairs o p q i j r
split l m w e n = record { apart = l; small = m; long = n; wrote = record { past = w.past; now = sym e ∙ w.now } }

module _ {pairs o p q : List ℕ} {i j r : ℕ} (s : Split pairs o p q i j r) where
  split_front : p ≡ piece_bytes pairs i j
  split_front =
      sym (take-append_seam p q) ∙ ap₂ take (s.long ∙ s.wrote.past) s.wrote.now
      ∙ take-append_seam (piece_bytes pairs i j) (drop (length (piece_bytes pairs i j)) o)

  split_back : q ≡ drop (length (piece_bytes pairs i j)) o
  split_back =
      sym (drop-append_seam p q) ∙ ap₂ drop (s.long ∙ s.wrote.past) s.wrote.now
      ∙ drop-append_seam (piece_bytes pairs i j) (drop (length (piece_bytes pairs i j)) o)

  pub split_corners : (let S = take (length p - 2) (drop 2 p) in Corners pairs S × (first_of S ≡ i) × (last_of S ≡ j))
  split_corners = piece_corners s.apart s.small (rest_is 2 p ∙ ap (drop 2) split_front)

  lines_are : lines_bytes pairs (first_of (take (length p - 2) (drop 2 p))) (last_of (take (length p - 2) (drop 2 p)))
      ≡ lines_bytes pairs i j
  lines_are = ap₂ (lines_bytes pairs) split_corners.1 split_corners.2

  both_bytes : range_bytes pairs i j ≡ piece_bytes pairs i j ++ lines_bytes pairs i j
  both_bytes = range_more (pairs_wide pairs) i j s.apart

  pub split_room : length (range_bytes pairs i j) ≤ length o →
      (let S = take (length p - 2) (drop 2 p) in length (lines_bytes pairs (first_of S) (last_of S)) ≤ length q)
  split_room h =
      let two = simp length-append at (ap length both_bytes) in
      omega (arith, h, two, ap length lines_are, ap length split_back, length-drop (length (piece_bytes pairs i j)) o)

  pub split_wrote : {q' : List ℕ} {k : ℕ} →
      (let S = take (length p - 2) (drop 2 p) in Wrote q q' k (lines_bytes pairs (first_of S) (last_of S))) →
      Wrote o (p ++ q') (r + k) (range_bytes pairs i j)
  split_wrote {q'} {k} v =
      let a = piece_bytes pairs i j in
      let b = lines_bytes pairs i j in
      let n = length-append a b in
      record {
        past = omega (arith, s.wrote.past, v.past, ap length lines_are, ap length both_bytes, n);
        now =
            ap₂ ◌++◌ split_front v.now
            ∙ ap₂ (λ t u. a ++ (t ++ drop (length t) u)) lines_are split_back
            ∙ ap (λ u. a ++ (b ++ u)) (drop-drop (length b) (length a) o ∙ ap (λ (x : ℕ). drop x o) (sym n))
            ∙ sym (append_assoc a b (drop (length (a ++ b)) o))
            ∙ ap (λ t. t ++ drop (length t) o) (sym both_bytes);
      }

pub record Walked (pairs before : List ℕ) (i j : ℕ) (from ahead now : List ℕ) (past : ℕ) : Type 0 where
  pub c : ℕ
  pub top : ℕ
  pub step : Step i j c top
  pub left : Left (lines_bytes pairs i j) (lay_all blank (below c (walk (marked pairs) c top j))) before now past
  pub ahead_is : ahead ≡ corners (walk (marked pairs) c top j)
  pub from_is : from ≡ c ∷ ahead

pub walked_none : {pairs S out ahead : List ℕ} (h : Corners pairs S) →
    length (lines_bytes pairs (first_of S) (last_of S)) ≤ length out → ahead ≡ drop 1 S →
    Walked pairs out (first_of S) (last_of S) S ahead out 0
walked_none {S} h room e = record {
  c = first_of S;
  top = last_of S;
  step = step_from h.apart;
  left = left_none room;
  ahead_is = e ∙ ap (drop 1) h.are;
  from_is = h.are ∙ ap (λ q. first_of S ∷ q) (sym (e ∙ ap (drop 1) h.are));
}

module _ {pairs before : List ℕ} {i j : ℕ} {from ahead now : List ℕ} {past : ℕ}
    (v : Walked pairs before i j from ahead now past) where
  wide : Wide (marked pairs)
  wide = pairs_wide pairs

  module _ {a b : ℕ} {from' ahead' : List ℕ} (e : from ≡ a ∷ from') (f : ahead ≡ b ∷ ahead') where
    at : v.c ≡ a
    at = ap (λ q. get_or q 0 0) (sym v.from_is ∙ e)

    on : v.c < j
    on = by_cases (dec_lt v.c j) (λ l. l) (λ n.
        let none = corners_end (marked pairs) v.c v.top j (omega arith) in
        absurd (omega (arith, ap length (sym f ∙ v.ahead_is ∙ none))))

    -- the next corner is the one that is read
    next : After (marked pairs) v.c v.top b
    next =
        let n = step_next wide v.step on in
        subst (After (marked pairs) v.c v.top)
        (sym (ap (λ q. get_or q 0 0) (sym f ∙ v.ahead_is ∙ corners_more wide v.step n on))) n

    -- the line to it is narrower than the range of the piece, and there is room for what stands under it
    pub walked_width : (a < b) × (b ≤ j) × (b + i < j + a)
    walked_width =
        let n = narrower wide v.step next on in (
          omega (arith, at, next.after),
          omega (arith, next.below, v.step.high),
          omega (arith, at, n),
        )

    more : lay_all blank (below v.c (walk (marked pairs) v.c v.top j))
        ≡ range_bytes pairs a b ++ lay_all blank (below b (walk (marked pairs) b (j + 1) j))
    more =
        lines_more wide v.step next on
        ∙ ap (λ (q : ℕ). range_bytes pairs q b ++ lay_all blank (below b (walk (marked pairs) b (j + 1) j))) at

    room : past + length (range_bytes pairs a b) ≤ length now
    room = omega (arith, left_room v.left, simp length-append at (ap length more))

    pub walked_room : {at : ℕ} → at ≤ past →
        length (range_bytes pairs a b) ≤ length (take (length now - at) (drop at now))
    walked_room {at} l = omega (arith, room, ap length (rest_is at now), length-drop at now)

    more_told : {now' : List ℕ} {r : ℕ} → Wrote (drop past now) now' r (range_bytes pairs a b) →
        Walked pairs before i j from' ahead' (take past now ++ now') (past + r)
    more_told w =
        let s = corners_more wide v.step next on in
        let k = ap (drop 1) (sym f ∙ v.ahead_is ∙ s) in
        record {
          c = b;
          top = j + 1;
          step = step_on wide v.step next on;
          left = left_run v.left more w;
          ahead_is = k;
          from_is = ap (drop 1) (sym e ∙ v.from_is) ∙ f;
        }

    -- what is written begins where the ranges before it end
    told_next : {now' : List ℕ} {r : ℕ} →
        Wrote (take (length now - past) (drop past now)) now' r (range_bytes pairs a b) →
        Walked pairs before i j from' ahead' (put_mid past (length now - past) now now') (past + r)
    told_next {now'} {r} w =
        let back = rest_back past now now' (omega (arith, room)) in
        let u = subst (λ q. Wrote q now' r (range_bytes pairs a b)) (rest_is past now) w in
        subst (λ q. Walked pairs before i j from' ahead' q (past + r)) (sym back) (more_told u)

    pub walked_next : {at : ℕ} {now' : List ℕ} {r : ℕ} → at ≡ past →
        Wrote (take (length now - at) (drop at now)) now' r (range_bytes pairs a b) →
        Walked pairs before i j from' ahead' (put_mid at (length now - at) now now') (past + r)
    walked_next {now' = now'} {r} z =
        subst (λ (q : ℕ). Wrote (take (length now - q) (drop q now)) now' r (range_bytes pairs a b) →
        Walked pairs before i j from' ahead' (put_mid q (length now - q) now now') (past + r)) (sym z) told_next

  pub walked_end : (from ≡ []) ⊎ (ahead ≡ []) → Wrote before now past (lines_bytes pairs i j)
  walked_end (inl e) = absurd (omega (arith, ap length (sym e ∙ v.from_is)))
  walked_end (inr e) =
      left_end v.left (lines_end (marked pairs) v.c v.top j (by_cases (dec_lt v.c j) (λ l.
      let more = corners_more wide v.step (step_next wide v.step l) l in
      absurd (omega (arith, ap length (sym e ∙ v.ahead_is ∙ more)))) (λ n. omega arith)))
