-- Whole numbers (the kit's ℤ), and words of digits: what the proofs about coordinates need and the kit does not have.

-- associativity and distributivity of the product, the product of a negation, induction by steps of one
pub mod Laws
-- expressions with variables, and their normal form as a sum of terms: all that the solver computes
pub mod Expr
-- an expression has the value of its normal form
pub mod Normal
-- the solver: an identity in one line, `ring ρ left right refl`; `ring1`, `ring2` from known equations; `by_ring`
-- inside a statement
pub mod Ring
-- an order is the sign of a difference; signs of sums and products; total, transitive, antisymmetric; cancelling a
-- positive factor
pub mod Order
-- a machine value is the number meant and fits its width; what a comparison of two of them tells
pub mod Bounds
-- the binary digits of a word: `&`, `|`, `>>`, the lowest 1
pub mod Bits
-- masks, whose digits tell of a statement about the numbers below n: made, and read
pub mod Masks
