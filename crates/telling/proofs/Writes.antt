-- Writes to the rest of a slice, from a place on.
use mathlib.Core.Path.{◌≡◌, refl, sym, ap, ap₂, ◌∙◌}
use mathlib.Core.List.{List, [], ◌∷◌, ◌++◌, append_assoc}
use Prim.Native.Nat.{ℕ, suc, ◌+◌, ◌-◌, ◌<◌, ◌≤◌}
use native.Mathlib.Omega.{arith}
use borrow.Rule.Slice.PartMut.{put_mid, post_of, Post-is}
use lib.ListN.{length, get_or, set, take, drop, length-append, length-drop, drop_of_length-le}
use lib.Seq.{take-append_seam, drop-append_seam, set-append_seam, drop-cons, drop-drop}
use Rattle.telling.specs.Parts.{Wrote}
use Rattle.std.proofs.Common.{append-nil}
use Rattle.std.proofs.lemmas.List.{take_all}

-- ---- the rest of a slice, and the slice when the rest is back
pub rest_is : (a : ℕ) (o : List ℕ) → take (length o - a) (drop a o) ≡ drop a o
rest_is a o = take_all (length o - a) (drop a o) (omega (arith, length-drop a o))

pub rest_back : (a : ℕ) (o l : List ℕ) → a ≤ length o → put_mid a (length o - a) o l ≡ take a o ++ l
rest_back a o l h =
    let e : post_of a (length o - a) o ≡ [] = Post-is a (length o) o h ∙ drop_of_length-le o (omega arith) in
    ap (λ q. take a o ++ (l ++ q)) e ∙ ap (λ q. take a o ++ q) (append-nil l)

-- ---- of all that is to be written, rest is left, to be written from the place past on
pub record Left (all rest before now : List ℕ) (past : ℕ) : Type 0 where
  pub done : List ℕ
  pub all_is : all ≡ done ++ rest
  pub past_is : past ≡ length done
  pub is : now ≡ done ++ drop (length done) before
  pub room : length all ≤ length before

pub left_none : {all out : List ℕ} → length all ≤ length out → Left all all out out 0
left_none h = record { done = []; all_is = refl; past_is = refl; is = refl; room = h }

module _ {all rest before now : List ℕ} {past : ℕ} (s : Left all rest before now past) where
  pub left_length : length now ≡ length before
  left_length =
      let d = length-append s.done rest in
      let n = length-append s.done (drop (length s.done) before) in
      omega (arith, s.room, ap length s.all_is, d, ap length s.is, n, length-drop (length s.done) before)

  pub left_room : past + length rest ≤ length now
  left_room = omega (arith, left_length, s.room, s.past_is, ap length s.all_is, length-append s.done rest)

  -- m is written, and what then is left
  pub left_run : {m t now' : List ℕ} {r : ℕ} → rest ≡ m ++ t → Wrote (drop past now) now' r m →
      Left all t before (take past now ++ now') (past + r)
  left_run {m} {t} {now'} {r} e w =
      let rest = drop (length s.done) before in
      let kept : take past now ≡ s.done = ap₂ take s.past_is s.is ∙ take-append_seam s.done rest in
      let left : drop past now ≡ rest = ap₂ drop s.past_is s.is ∙ drop-append_seam s.done rest in
      record {
        done = s.done ++ m;
        all_is = s.all_is ∙ ap (λ q. s.done ++ q) e ∙ sym (append_assoc s.done m t);
        past_is = omega (arith, s.past_is, w.past, length-append s.done m);
        is =
            ap₂ ◌++◌ kept w.now
            ∙ ap (λ q. s.done ++ (m ++ drop (length m) q)) left
            ∙ ap (λ q. s.done ++ (m ++ q)) (drop-drop (length m) (length s.done) before
            ∙ ap (λ (k : ℕ). drop k before) (sym (length-append s.done m)))
            ∙ sym (append_assoc s.done m (drop (length (s.done ++ m)) before));
        room = s.room;
      }

  -- one number is written
  pub left_one : {x : ℕ} {t : List ℕ} → rest ≡ x ∷ t → Left all t before (set now past x) (past + 1)
  left_one {x} {t} e =
      let d = s.done in
      let n = length-append d (x ∷ []) in
      let h : length d < length before =
      omega (arith, s.room, ap length s.all_is, length-append d rest, ap length e)
      in
      let z : suc (length d) ≡ length (d ++ (x ∷ [])) = omega (arith, n) in
      record {
        done = d ++ (x ∷ []);
        all_is = s.all_is ∙ ap (λ q. d ++ q) e ∙ sym (append_assoc d (x ∷ []) t);
        past_is = omega (arith, s.past_is, n);
        is =
            ap₂ (λ q (k : ℕ). set q k x) (s.is ∙ ap (λ q. d ++ q) (drop-cons before (length d) 0 h)) s.past_is
            ∙ set-append_seam d (get_or before (length d) 0) (drop (suc (length d)) before) x
            ∙ ap (λ (k : ℕ). d ++ (x ∷ drop k before)) z
            ∙ sym (append_assoc d (x ∷ []) (drop (length (d ++ (x ∷ []))) before));
        room = s.room;
      }

  pub left_end : rest ≡ [] → Wrote before now past all
  left_end e =
      let all : all ≡ s.done = s.all_is ∙ ap (λ q. s.done ++ q) e ∙ append-nil s.done in
      record { past = s.past_is ∙ sym (ap length all); now = s.is ∙ ap (λ q. q ++ drop (length q) before) (sym all) }

-- ---- what is written from one place on and then from where that ended, and nothing
pub wrote_none : {l o : List ℕ} → l ≡ [] → Wrote o o 0 l
wrote_none {o} e = record { past = sym (ap length e); now = ap (λ q. q ++ drop (length q) o) (sym e) }

-- ---- a piece: its corners after the first, then three numbers before them
pub wrote_piece : (o : List ℕ) {o' : List ℕ} {r k i : ℕ} {l : List ℕ} → 3 ≤ length o → k ≡ suc (length l) →
    Wrote (take (length o - 3) (drop 3 o)) o' r l →
    Wrote o (set (set (set (put_mid 3 (length o - 3) o o') 0 k) 1 0) 2 i) (r + 3) (suc (length l) ∷ 0 ∷ i ∷ l)
wrote_piece [] h e w = absurd (omega arith)
wrote_piece (a ∷ []) h e w = absurd (omega arith)
wrote_piece (a ∷ b ∷ []) h e w = absurd (omega arith)
wrote_piece (a ∷ b ∷ c ∷ t) {o'} {r} {k} {i} {l} h e w =
    let o = a ∷ b ∷ c ∷ t in
    record {
      past = omega (arith, w.past);
      now =
          ap (λ q. set (set (set q 0 k) 1 0) 2 i) (rest_back 3 o o' h)
          ∙ ap₂ (λ (n : ℕ) q. n ∷ 0 ∷ i ∷ q) e (w.now ∙ ap (λ q. l ++ drop (length l) q) (rest_is 3 o));
    }
