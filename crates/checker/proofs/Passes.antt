-- Three passes over the pieces of a list: their lines are marked, the marks are looked at, and the first piece at
-- fault is looked for. Of each pass: what holds where some pieces are still to come, and a law for each way in which
-- it goes on or ends.
use Rattle.std.specs.Prelude.{◌≡◌, Bool, true, false, ◌&&◌, List, [], ◌∷◌, ℕ, suc, ◌+◌, Err}
use Rattle.std.proofs.Common.{refl, sym, ap, ◌∙◌, subst, inl, inr, add-one}
use Rattle.checker.specs.Checks.{says, verdict, Entry, corner_lists, Sight, FirstFailed, of_pieces}
use Rattle.std.specs.Bool.{MatchBool}
use Rattle.std.specs.Fn.{Called}
use Rattle.std.specs.Iterator.{ChecksAll}
use denote.Param.Members.{Mut}
use Rattle.checker.specs.declared.pieces.Piece.{Piece}
use Rattle.checker.specs.declared.pieces.Pieces.{Pieces}
use Rattle.checker.specs.Parts.{Readable, as_entry, Reads, spelt, NoPiece, MarksPiece, Marks, MarksAll, fits, all_fit, FitsAll}
use Rattle.checker.specs.Parts.{in_cells, FirstFault}
use Rattle.checker.specs.declared.Fault.{Fault}
use Rattle.checker.specs.declared.flat.Verdict.{Verdict}
use Rattle.checker.proofs.Reading.{Walk, Next, walk_none, walk_next, walk_more, walk_end, over_all}
use Rattle.checker.proofs.AtFault.{passed, stopped}

-- ---- the lines are marked: from the tables c t on, what the rest brings is what all bring from o p on
abbrev pub Marked : List ℕ → List ℕ → List ℕ → List ℕ → List Entry → List Entry → Type 0
Marked o p c t l rest =
    (c' t' : List ℕ) (r : Bool) → Marks (corner_lists rest) c t c' t' r → Marks (corner_lists l) o p c' t' r

module _ {bytes o p c t left : List ℕ} (w : Walk bytes (Marked o p c t) left) where
  module _ (e : Entry) (after : List ℕ) {c' t' : List ℕ} {r : Bool} (q : left ≡ spelt e after)
      (h : MarksPiece e.corners c t c' t' r) where
    n : Next w e after
    n = walk_next w q

    pub marked_fails : r ≡ false → MarksAll bytes o p c' t' false
    marked_fails f = (
      w.entries,
      w.whole,
      subst (Marked o p c t w.entries) n.is w.holds c' t' false (inl (h.taken f, refl)),
    )

    pub marked_more : r ≡ true → Walk bytes (Marked o p c' t') after
    marked_more f =
        walk_more w n (Marked o p c' t')
        (λ l g c'' t'' s m. g c'' t'' s (inr (h.free f, rw (← h.closes f, ← h.steps f) m)))

  pub marked_end : NoPiece left → MarksAll bytes o p c t true
  marked_end none = (w.entries, w.whole, walk_end w none c t true (refl, refl, refl))

-- ---- the marks are looked at
abbrev pub Fitting : List ℕ → List ℕ → List Entry → List Entry → Type 0
Fitting c t l rest = all_fit c t (corner_lists l) ≡ all_fit c t (corner_lists rest)

module _ {bytes left : List ℕ} (c t : List ℕ) (w : Walk bytes (Fitting c t) left) where
  module _ (e : Entry) (after : List ℕ) (q : left ≡ spelt e after) {r : Bool} (h : r ≡ fits c t e.corners) where
    at_hand : Next w e after
    at_hand = walk_next w q

    pub fitting_fails : r ≡ false → FitsAll bytes c t false
    fitting_fails f = (
      w.entries,
      w.whole,
      sym
          (subst (Fitting c t w.entries) at_hand.is w.holds
          ∙ ap (λ b. b && all_fit c t (corner_lists at_hand.more)) (sym h ∙ f)),
    )

    pub fitting_more : r ≡ true → Walk bytes (Fitting c t) after
    fitting_more f =
        walk_more w at_hand (Fitting c t)
        (λ l g. g ∙ ap (λ b. b && all_fit c t (corner_lists at_hand.more)) (sym h ∙ f))

  pub fitting_end : NoPiece left → FitsAll bytes c t true
  fitting_end none = (w.entries, w.whole, sym (walk_end w none))

-- all of them, as `all` asks
module _ {F : Type 0} {g : Mut F (Piece × Unit {0}) Bool} (c t : List ℕ) where
  pub fitting_all : {f : F} (s u : Pieces) {r : Bool} → Readable s.rest.now →
      ChecksAll (λ (s : Pieces) r (t : Pieces). Reads s.rest.now r t.rest.now) g s f r u →
      ((x : Piece) (q : Bool) (h : F) → Called g f (x, tt) q h → (q ≡ fits c t x.corners.now) × (h ≡ f)) →
      FitsAll s.rest.now c t r
  fitting_all {f} s u {r} readable ran k = go r told
    where
      told : MatchBool r (Walk s.rest.now (Fitting c t) u.rest.now × NoPiece u.rest.now)
          ((left after : List ℕ) × (x : Piece) × Walk s.rest.now (Fitting c t) left
          × (left ≡ spelt (as_entry x) after) × (false ≡ fits c t x.corners.now))
      told =
          over_all (Walk s.rest.now (Fitting c t)) (λ x. true ≡ fits c t x.corners.now)
          (λ x. false ≡ fits c t x.corners.now)
          (λ left after x w q e. fitting_more c t w (as_entry x) after q e refl) f
          (λ x h z. let a = k x true h z in (a.1, a.0)) (λ x h z. (k x false h z).0) r s u
          (walk_none _ readable (λ l. refl)) ran

      go : (r : Bool) →
          MatchBool r (Walk s.rest.now (Fitting c t) u.rest.now × NoPiece u.rest.now)
          ((left after : List ℕ) × (x : Piece) × Walk s.rest.now (Fitting c t) left
          × (left ≡ spelt (as_entry x) after) × (false ≡ fits c t x.corners.now)) →
          FitsAll s.rest.now c t r
      go true (w, none) = fitting_end c t w none
      go false (left, after, x, w, q, e) = fitting_fails c t w (as_entry x) after q e refl

-- ---- the first piece at fault: none before the place `from`
abbrev pub NoFault : Sight → Sight → ℕ → List Entry → List Entry → Type 0
NoFault first second from l rest =
    (v : Verdict) → FirstFailed (of_pieces first second from rest) v → FirstFailed (of_pieces first second 0 l) v

module _ (first second : List ℕ) {bytes left : List ℕ} {from : ℕ}
    (w : Walk bytes (NoFault (in_cells first) (in_cells second) from) left) where
  module _ (e : Entry) (after : List ℕ) (q : left ≡ spelt e after) {place : ℕ} (z : place ≡ from) where
    abbrev Said : ℕ → Verdict → Type 0
    Said k v = FirstFailed (of_pieces (in_cells first) (in_cells second) k (e ∷ [])) v

    found : Next w e after
    found = walk_next w q

    pub fault_found : (f : Fault) →
        FirstFailed (of_pieces (in_cells first) (in_cells second) place (e ∷ [])) (verdict (Err f)) →
        FirstFault first second bytes (verdict (Err f))
    fault_found f h = (
      w.entries,
      w.whole,
      subst (NoFault (in_cells first) (in_cells second) from w.entries) found.is w.holds (verdict (Err f))
          (stopped (in_cells first) (in_cells second) from e found.more f
          (subst (λ (k : ℕ). Said k (verdict (Err f))) z h)),
    )

    pub fault_more : FirstFailed (of_pieces (in_cells first) (in_cells second) place (e ∷ [])) (says 0) →
        {next : ℕ} → next ≡ from + 1 → Walk bytes (NoFault (in_cells first) (in_cells second) next) after
    fault_more h y =
        subst (λ (m : ℕ). Walk bytes (NoFault (in_cells first) (in_cells second) m) after) (sym (y ∙ add-one from))
        (walk_more w found (NoFault (in_cells first) (in_cells second) (suc from))
        (λ l g v m. g v (passed (in_cells first) (in_cells second) from e found.more
        (subst (λ (k : ℕ). Said k (says 0)) z h) v m)))

  pub fault_none : NoPiece left → FirstFault first second bytes (says 0)
  fault_none none = (w.entries, w.whole, walk_end w none (says 0) refl)
