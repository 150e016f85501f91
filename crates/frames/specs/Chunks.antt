-- A part of an input and what comes after it: what `feed` reports is what the whole input tells from there, however it
-- is cut.
use Rattle.frames.specs.Reader.{TakeGives, FeedGives}
use Rattle.std.specs.Prelude.{Result, Ok, Err}
use Rattle.frames.specs.declared.Fault.{Fault}
use Rattle.frames.specs.Reader.{failed}
use Rattle.std.specs.Prelude.{◌≡◌, ℕ, suc, ◌+◌, cond, List, [], ◌∷◌, ◌++◌, length, take, drop, ℤ}
use Rattle.std.proofs.Math.Path.{refl}
use Rattle.std.proofs.Common.{sym, ◌∙◌, ap, add-zero, arith, drop-drop}
use Rattle.frames.specs.Frames.{pair, fault}
use Rattle.frames.specs.Reader.{fresh, fed_by, feeds, events_by, from, steps, ends_in_fault}
use Rattle.frames.specs.Promise.{says, Feeding}
use Rattle.frames.specs.declared.Reader.{Reader}
use Rattle.frames.specs.declared.Fed.{Fed}
use Rattle.frames.specs.declared.Fed.TheVariants as fed
use Rattle.frames.specs.declared.turn.Step.TheVariants as step

-- the bytes after the first that is dropped
tail_of : (chunk : List ℕ) (i c : ℕ) (cs : List ℕ) → c ∷ cs ≡ drop i chunk → cs ≡ drop (i + 1) chunk
tail_of chunk i c cs e = ap (drop 1) e ∙ drop-drop 1 i chunk

module _ (chunk more : List ℕ) where
  one_step : (cs : List ℕ) (i : ℕ) → cs ≡ drop (i + 1) chunk →
      ((r : Reader) (f g : List ℤ) → from r f g (cs ++ more) ≡ says (feeds r f g (i + 1) cs) chunk more) →
      (s : TakeGives) →
      events_by s (λ r f g. from r f g (cs ++ more)) ≡ says (fed_by s i (λ r f g. feeds r f g (i + 1) cs)) chunk more
  one_step cs i e again (Ok (step.On r), f, g) = again r f g
  one_step cs i e again (Ok (step.Pair n m), f, g) = rw (← e)
  one_step cs i e again (Err _, f, g) = refl

  reports : (xs : List ℕ) (r : Reader) (f g : List ℤ) (i : ℕ) → xs ≡ drop i chunk →
      from r f g (xs ++ more) ≡ says (feeds r f g i xs) chunk more
  unfolding from feeds
  reports [] r f g i e = refl
  reports (c ∷ cs) r f g i e =
      let after = tail_of chunk i c cs e in
      one_step cs i after (λ r' f' g'. reports cs r' f' g' (i + 1) after) (steps r f g c)

-- two parts one after the other are read as one: where the first is read to its end, its reader goes on with the
-- second
abbrev pub then_feeds : FeedGives → ℕ → List ℕ → FeedGives
then_feeds (Ok (fed.More r), f, g) i ys = feeds r f g i ys
then_feeds (Ok (fed.Pair n m next), f, g) i ys = (Ok (fed.Pair n m next), f, g)
then_feeds (Err _, f, g) i ys = (failed, f, g)

pub feeds_append : (xs ys : List ℕ) (r : Reader) (f g : List ℤ) (i : ℕ) →
    feeds r f g i (xs ++ ys) ≡ then_feeds (feeds r f g i xs) (i + length xs) ys
unfolding feeds
feeds_append [] ys r f g i = rw (add-zero i)
feeds_append (c ∷ cs) ys r f g i = go (λ r' f' g'. feeds_append cs ys r' f' g' (i + 1)) (steps r f g c)
  where
    place : i + 1 + length cs ≡ i + suc (length cs)
    place = omega arith

    go : ((r' : Reader) (f' g' : List ℤ) →
        feeds r' f' g' (i + 1) (cs ++ ys) ≡ then_feeds (feeds r' f' g' (i + 1) cs) (i + 1 + length cs) ys) →
        (s : TakeGives) →
        fed_by s i (λ r' f' g'. feeds r' f' g' (i + 1) (cs ++ ys))
        ≡ then_feeds (fed_by s i (λ r' f' g'. feeds r' f' g' (i + 1) cs)) (i + suc (length cs)) ys
    go again (Ok (step.On r'), f', g') = rw (← place) (again r' f' g')
    go again (Ok (step.Pair n m), f', g') = refl
    go again (Err _, f', g') = refl

-- ---- from the exact result to what it means
pub feeding : {r : Reader} {chunk : List ℕ} {i : ℕ} {f g : List ℤ} {x : Result Fed Fault} {f' g' : List ℤ} →
    ◌≡◌ {A = FeedGives} (x, f', g') (feeds r f g i (drop i chunk)) → Feeding r chunk i f g x f' g'
feeding {r} {chunk} {i} {f} {g} q =
    record {
      exact = q;
      means = λ more.
          reports chunk more (drop i chunk) r f g i refl
          ∙ sym (ap (λ (t : FeedGives). says t chunk more) q);
    }

-- ---- what a caller of `feed` learns in each case of its result
module _ {r : Reader} {chunk : List ℕ} {i : ℕ} {f g : List ℤ} {x : Result Fed Fault} {f' g' : List ℤ}
    (p : Feeding r chunk i f g x f' g') where
  pub feed_more : {r' : Reader} → x ≡ Ok (fed.More r') → (more : List ℕ) →
      from r f g (drop i chunk ++ more) ≡ from r' f' g' more
  feed_more e more = p.means more ∙ rw e

  pub feed_pair : {n m next : ℕ} → x ≡ Ok (fed.Pair n m next) → (more : List ℕ) →
      from r f g (drop i chunk ++ more) ≡ pair (take n f') (take m g') ∷ from fresh f' g' (drop next chunk ++ more)
  feed_pair e more = p.means more ∙ rw e

  pub feed_fault : x ≡ failed → (more : List ℕ) → from r f g (drop i chunk ++ more) ≡ fault ∷ []
  feed_fault e more = p.means more ∙ rw e

-- the end of an input
pub from_end : (r : Reader) (f g : List ℤ) → from r f g [] ≡ cond (ends_in_fault r) (fault ∷ []) []
unfolding from
from_end r f g = refl
