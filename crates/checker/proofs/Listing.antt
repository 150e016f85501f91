-- Number 21: bytes are a list of pieces where each piece that is read is an allowed one, up to the end.
use Rattle.std.specs.Prelude.{◌≡◌, ◌↔◌, Bool, true, false, not, List, [], ◌∷◌, ℕ, eqb, length}
use Rattle.std.proofs.Common.{refl, sym, ap, ◌∙◌, subst, inl, inr, arith, eqb-true, eq-eqb, true≢false}
use Rattle.outline.specs.Tells.{Tells, if_no, as_well, eq_tells}
use Rattle.std.specs.Bool.{MatchBool}
use Rattle.std.specs.Fn.{Called}
use Rattle.std.specs.Iterator.{ChecksAll}
use denote.Param.Members.{Mut}
use Rattle.checker.specs.declared.pieces.Piece.{Piece}
use Rattle.checker.specs.declared.pieces.Pieces.{Pieces}
use Rattle.rules.specs.Lists.{In}
use Rattle.checker.specs.Checks.{Entry, laid, Allowed, IsList}
use Rattle.checker.specs.Unique.{first_one}
use Rattle.checker.specs.Parts.{spelt, NoPiece, as_entry, Reads}
use Rattle.checker.proofs.Reading.{over_all}

-- bytes that are pieces, perhaps none
abbrev Entries : ℕ → List ℕ → Type 0
Entries n bytes = (l : List Entry) × (bytes ≡ laid l) × ((e : Entry) → In e l → Allowed n e)

-- those before `left` are pieces: the bytes that are left decide
pub record Listing (n : ℕ) (bytes left : List ℕ) : Type 0 where
  on : Entries n bytes → Entries n left
  back : Entries n left → Entries n bytes

pub listing_none : (n : ℕ) (bytes : List ℕ) → Listing n bytes bytes
listing_none n bytes = record { on = λ h. h; back = λ h. h }

-- the piece that is read is the first of those that are left
record First (n : ℕ) (e : Entry) (after : List ℕ) : Type 0 where
  allowed : Allowed n e
  others : Entries n after

first_of : (n : ℕ) (e : Entry) (left after : List ℕ) → left ≡ spelt e after → Entries n left → First n e after
first_of n e left after q h = go h.0 h.1 h.2
  where
    go : (l : List Entry) → left ≡ laid l → ((e : Entry) → In e l → Allowed n e) → First n e after
    go [] r f = absurd (cc (sym q ∙ r))
    go (g ∷ more) r f =
        let p = first_one e g after (laid more) (sym q ∙ r) in
        record {
          allowed = subst (Allowed n) (sym p.0) (f g (inl refl));
          others = (more, p.1, λ g i. f g (inr i));
        }

module _ {n : ℕ} {bytes left : List ℕ} (h : Listing n bytes left) (e : Entry) (after : List ℕ)
    (q : left ≡ spelt e after) where
  pub listing_fails : ¬ Allowed n e → ¬ IsList n bytes
  listing_fails none l = none (first_of n e left after q (h.on (l.0, l.1.are, l.1.each))).allowed

  pub listing_more : Allowed n e → Listing n bytes after
  listing_more a = record {
    on = λ l. (first_of n e left after q (h.on l)).others;
    back = λ l. h.back (e ∷ l.0, q ∙ ap (spelt e) l.1, each l.0 l.2);
  }
    where
      each : (l : List Entry) → ((f : Entry) → In f l → Allowed n f) → (f : Entry) → In f (e ∷ l) → Allowed n f
      each l k f (inl r) = subst (Allowed n) (sym r) a
      each l k f (inr i) = k f i

-- ---- where no piece is read
pub listing_end : {n : ℕ} {bytes left : List ℕ} → Listing n bytes left → NoPiece left →
    ((¬ (bytes ≡ [])) × (left ≡ [])) ↔ IsList n bytes
listing_end {n} {bytes} {left} h none = (sure, told)
  where
    sure : (¬ (bytes ≡ [])) × (left ≡ []) → IsList n bytes
    sure p =
        let l = h.back ([], p.1, λ e i. absurd i) in
        (l.0, record { some = λ e. p.0 (l.1 ∙ ap laid e); are = l.1; each = l.2 })

    empty : (l : List Entry) → left ≡ laid l → left ≡ []
    empty [] q = q
    empty (e ∷ l) q = absurd (none e (laid l) q)

    filled : (l : List Entry) → ¬ (l ≡ []) → bytes ≡ laid l → ¬ (bytes ≡ [])
    filled [] k q r = k refl
    filled (e ∷ l) k q r = cc (sym q ∙ r)

    told : IsList n bytes → (¬ (bytes ≡ [])) × (left ≡ [])
    told l =
        let r = h.on (l.0, l.1.are, l.1.each) in
        (filled l.0 l.1.some l.1.are, empty r.0 r.1)

-- as the program asks for it, where there are some bytes
pub listing_tells : {n : ℕ} {bytes left : List ℕ} {b : Bool} → Listing n bytes left → NoPiece left →
    ¬ (length bytes ≡ 0) → b ≡ eqb (length left) 0 → Tells b (IsList n bytes)
listing_tells {n} {bytes} {left} h none some q =
    subst (λ x. Tells x (IsList n bytes)) (sym q)
    (as_well (eq_tells (length left) 0)
    (λ e. (listing_end h none).0 ((λ f. some (ap length f)), empty left e))
    (λ l. ap length ((listing_end h none).1 l).1))
  where
    empty : (s : List ℕ) → length s ≡ 0 → s ≡ []
    empty [] e = refl
    empty (a ∷ s) e = absurd (omega arith)

pub no_listing : {n : ℕ} {bytes : List ℕ} → length bytes ≡ 0 → ¬ IsList n bytes
no_listing {n} {bytes} e l = go l.0 l.1.some l.1.are
  where
    go : (l : List Entry) → ¬ (l ≡ []) → bytes ≡ laid l → ⊥
    go [] k q = k refl
    go (f ∷ l) k q = omega (arith, ap length q)

-- ---- all of them, as `all` asks: where it ends, what is left decides
module _ {F : Type 0} {g : Mut F (Piece × Unit {0}) Bool} (n : ℕ) where
  pub listing_all : {f : F} (s u : Pieces) {r : Bool} →
      ChecksAll (λ (s : Pieces) r (t : Pieces). Reads s.rest.now r t.rest.now) g s f r u →
      ((x : Piece) (q : Bool) (h : F) → Called g f (x, tt) q h → Tells q (Allowed n (as_entry x)) × (h ≡ f)) →
      MatchBool r (Listing n s.rest.now u.rest.now × NoPiece u.rest.now) (¬ IsList n s.rest.now)
  listing_all {f} s u {r} ran k =
      go r
      (over_all (Listing n s.rest.now) (λ x. Allowed n (as_entry x)) (λ x. ¬ Allowed n (as_entry x))
      (λ left after x h q a. listing_more h (as_entry x) after q a) f
      (λ x h z. let a = k x true h z in (a.1, a.0.sure tt)) (λ x h z. if_no (k x false h z).0 refl) r s u
      (listing_none n s.rest.now) ran)
    where
      go : (r : Bool) →
          MatchBool r (Listing n s.rest.now u.rest.now × NoPiece u.rest.now)
          ((left after : List ℕ) × (x : Piece) × Listing n s.rest.now left × (left ≡ spelt (as_entry x) after)
          × (¬ Allowed n (as_entry x))) →
          MatchBool r (Listing n s.rest.now u.rest.now × NoPiece u.rest.now) (¬ IsList n s.rest.now)
      go true h = h
      go false (left, after, x, h, q, f) = listing_fails h (as_entry x) after q f

-- ---- whether there are bytes
pub some_bytes : (bytes : List ℕ) {e v : Bool} → e ≡ eqb (length bytes) 0 → v ≡ not e → v ≡ true →
    ¬ (length bytes ≡ 0)
some_bytes bytes r p q z = true≢false (sym q ∙ p ∙ ap not (r ∙ eq-eqb (length bytes) 0 z))

pub no_bytes : (bytes : List ℕ) {e v : Bool} → e ≡ eqb (length bytes) 0 → v ≡ not e → v ≡ false → length bytes ≡ 0
no_bytes bytes {e} r p q = eqb-true (length bytes) 0 (sym r ∙ go e (sym p ∙ q))
  where
    go : (e : Bool) → not e ≡ false → e ≡ true
    go true h = refl
    go false h = absurd (true≢false h)
