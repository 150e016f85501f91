-- The pieces of a list one after another, as `Pieces` gives them: of the bytes `left` that are still to be read, the
-- first piece e, and the bytes `after` it.
use Rattle.std.specs.Prelude.{◌≡◌, Bool, true, false, List, [], ◌∷◌, ℕ, Option, Some, None, MatchOption}
use Rattle.std.proofs.Common.{refl, sym, ap, ◌∙◌, subst, inl, inr}
use Rattle.std.specs.Bool.{MatchBool}
use Rattle.std.specs.Fn.{Called}
use Rattle.std.specs.Iterator.{ChecksAll, Yields}
use Rattle.std.specs.List.{FoldsTo}
use denote.Param.Members.{Mut}
use Rattle.rules.specs.Lists.{In}
use Rattle.checker.specs.Checks.{Entry, laid}
use Rattle.checker.specs.Unique.{first_one}
use Rattle.checker.specs.Parts.{Corners, Readable, spelt, NoPiece, as_entry, Reads}
use Rattle.checker.specs.declared.pieces.Piece.{Piece}
use Rattle.checker.specs.declared.pieces.Pieces.{Pieces}

-- ---- the pieces `rest` are still to come, and P holds of all and of these
pub record Walk (bytes : List ℕ) (P : List Entry → List Entry → Type 0) (left : List ℕ) : Type 0 where
  pub entries : List Entry
  pub rest : List Entry
  pub whole : bytes ≡ laid entries
  pub are : left ≡ laid rest
  pub each : (e : Entry) → In e rest → Corners e.corners
  pub holds : P entries rest

pub walk_none : {bytes : List ℕ} (P : List Entry → List Entry → Type 0) → Readable bytes → ((l : List Entry) → P l l) →
    Walk bytes P bytes
walk_none P r h = record {
  entries = r.entries;
  rest = r.entries;
  whole = r.are;
  are = r.are;
  each = r.each;
  holds = h r.entries;
}

-- what is read is the next piece
pub record Next {bytes : List ℕ} {P : List Entry → List Entry → Type 0} {left : List ℕ} (w : Walk bytes P left)
    (e : Entry) (after : List ℕ) : Type 0 where
  pub more : List Entry
  pub is : w.rest ≡ e ∷ more
  pub are : after ≡ laid more
  pub corners : Corners e.corners

module _ {bytes : List ℕ} {P : List Entry → List Entry → Type 0} {left : List ℕ} (w : Walk bytes P left) where
  pub walk_next : {e : Entry} {after : List ℕ} → left ≡ spelt e after → Next w e after
  walk_next {e} {after} q = go w.rest refl
    where
      go : (rest : List Entry) → w.rest ≡ rest → Next w e after
      go [] r = absurd (cc (sym q ∙ w.are ∙ ap laid r))
      go (f ∷ more) r =
          let p = first_one e f after (laid more) (sym q ∙ w.are ∙ ap laid r) in
          record {
            more = more;
            is = r ∙ ap (λ x. x ∷ more) (sym p.0);
            are = p.1;
            corners = subst (λ (x : Entry). Corners x.corners) (sym p.0) (w.each f (subst (In f) (sym r) (inl refl)));
          }

  pub walk_more : {e : Entry} {after : List ℕ} (n : Next w e after) (Q : List Entry → List Entry → Type 0) →
      ((l : List Entry) → P l (e ∷ n.more) → Q l n.more) → Walk bytes Q after
  walk_more n Q f = record {
    entries = w.entries;
    rest = n.more;
    whole = w.whole;
    are = n.are;
    each = λ e i. w.each e (subst (In e) (sym n.is) (inr i));
    holds = f w.entries (subst (P w.entries) n.is w.holds);
  }

  -- where none is read none is left
  pub walk_end : NoPiece left → P w.entries []
  walk_end none = go w.rest refl
    where
      go : (rest : List Entry) → w.rest ≡ rest → P w.entries []
      go [] q = subst (P w.entries) q w.holds
      go (e ∷ more) q = absurd (none e (laid more) (w.are ∙ ap laid q))

-- ---- a test of each piece, as `all` makes it: I holds of the bytes that are left as long as it goes on
module _ {F : Type 0} {g : Mut F (Piece × Unit {0}) Bool} (I : List ℕ → Type 0) (Yes No : Piece → Type 0)
    (more : (left after : List ℕ) (x : Piece) → I left → left ≡ spelt (as_entry x) after → Yes x → I after) (f : F)
    (yes : (x : Piece) (q : F) → Called g f (x, tt) true q → (q ≡ f) × Yes x)
    (no : (x : Piece) (q : F) → Called g f (x, tt) false q → No x) where
  abbrev Passes : F → Piece → F → Type 0
  Passes p x q = Called g p (x, tt) true q

  passed : (xs : List Piece) (s t : Pieces) (j : F) → I s.rest.now →
      Yields (λ (s : Pieces) r (t : Pieces). Reads s.rest.now r t.rest.now) s xs t →
      FoldsTo Passes f xs j →
      I t.rest.now × (j ≡ f)
  passed [] s t j i y z = (subst (λ (v : Pieces). I v.rest.now) y i, sym z)
  passed (x ∷ xs) s t j i y z =
      let a = yes x z.0 z.1 in
      passed xs y.0 t j (more s.rest.now y.0.rest.now x i y.1 a.1) y.2 (subst (λ p. FoldsTo Passes p xs j) a.0 z.2)

  -- where it ends, no piece is left; where it stops, a piece fails
  pub over_all : (r : Bool) (s u : Pieces) → I s.rest.now →
      ChecksAll (λ (s : Pieces) r (t : Pieces). Reads s.rest.now r t.rest.now) g s f r u →
      MatchBool r (I u.rest.now × NoPiece u.rest.now)
      ((left after : List ℕ) × (x : Piece) × I left × (left ≡ spelt (as_entry x) after) × No x)
  over_all r s u i (xs, o, j, y, z, w) = go o y.2 w (passed xs s y.0 j i y.1 z)
    where
      go : (o : Option Piece) → Reads y.0.rest.now o u.rest.now →
          MatchOption o (r ≡ true) (λ x. (r ≡ false) × ((h : F) × Called g j (x, tt) false h)) →
          I y.0.rest.now × (j ≡ f) →
          MatchBool r (I u.rest.now × NoPiece u.rest.now)
          ((left after : List ℕ) × (x : Piece) × I left × (left ≡ spelt (as_entry x) after) × No x)
      go None a b k = rw b (rw a.1 (k.0, a.0))
      go (Some x) a b k =
          rw b.0
          (y.0.rest.now, u.rest.now, x, k.0, a, no x b.1.0 (subst (λ p. Called g p (x, tt) false b.1.0) k.1 b.1.1))
