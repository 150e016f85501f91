-- The definition of `Frames`, computed: 01's own example, the ends of a number's range, and inputs in and out of form.
use Rattle.std.specs.Prelude.{◌≡◌, ℕ, zero, suc, Bool, true, false, not, ◌&&◌, T, List, [], ◌∷◌, ◌++◌, replicate, ℤ, pos, negsuc, refl}
use Prim.Native.Char.{code}
use Prim.Native.String.{String}
use Rattle.frames.specs.Frames.{Event, pair, fault, events, answer_line, refusal_line, fault_line}

abbrev pub characters : String → List ℕ
characters String.[] = []
characters (String.◌∷◌ c s) = code c ∷ characters s

-- ---- 01: "Both outlines the square S below, whole input"
square : List ℤ
square = pos 0 ∷ pos 0 ∷ pos 4 ∷ pos 0 ∷ pos 4 ∷ pos 4 ∷ pos 0 ∷ pos 4 ∷ []

two_squares :
    events
    (characters
    "1004000000000000000004000000000004000004000000000004\n2004000000000000000004000000000004000004000000000004\n")
    ≡ pair square square ∷ []
unfolding square
two_squares = refl

-- "Whole output: A0, one piece, 4 corners, centre 0, corners 0 to 3"
their_answer : answer_line 1 (4 ∷ 0 ∷ 0 ∷ 1 ∷ 2 ∷ 3 ∷ []) ≡ characters "A001040000010203\n"
their_answer = refl

a_refusal : refusal_line 9 ≡ characters "E009\n"
a_refusal = refl

a_fault : fault_line ≡ characters "EF\n"
a_fault = refl

-- ---- the least and the largest number of three bytes, and those beside 0
furthest : events (characters "10017FFFFF800000\n2001FFFFFF000001\n")
    ≡ pair (pos 8388607 ∷ negsuc 8388607 ∷ []) (negsuc 0 ∷ pos 1 ∷ []) ∷ []
furthest = refl

-- ---- inputs with the number of their pairs, and whether a fault follows
pub record Row : Type 0 where
  pub input : List ℕ
  pub pairs : ℕ
  pub faulty : Bool

abbrev has : List Event → ℕ → Bool → Bool
has [] zero f = not f
has [] (suc n) f = false
has (pair a b ∷ es) zero f = false
has (pair a b ∷ es) (suc n) f = has es n f
has (fault ∷ []) zero f = f
has (fault ∷ []) (suc n) f = false
has (fault ∷ e ∷ es) n f = false

abbrev all_right : List Row → Bool
all_right [] = true
all_right (r ∷ rows) = has (events r.input) r.pairs r.faulty && all_right rows

abbrev good : String → ℕ → Row
good s n = record { input = characters s; pairs = n; faulty = false }

abbrev bad : String → ℕ → Row
bad s n = record { input = characters s; pairs = n; faulty = true }

-- a frame of so many digits 0 after its first four
abbrev zeros : String → ℕ → List ℕ
zeros s n = characters s ++ replicate n 48 ++ 10 ∷ []

rows : List Row
rows =
    good "" 0
    ∷ good "1000\n2000\n" 1
    ∷ good "1000\n2000\n1000\n2000\n" 2
    ∷ good "100100000000000A\n2000\n" 1
    ∷ good "1001000000000000\n2002000000000000000000000000\n" 1
    ∷ record { input = zeros "1040" 768 ++ zeros "2040" 768; pairs = 1; faulty = false }
    ∷ bad "\n" 0
    ∷ bad "2000\n1000\n" 0
    ∷ bad "1000\n1000\n2000\n" 0
    ∷ bad "1000\n" 0
    ∷ bad "1000\n2000" 0
    ∷ bad "1000\n2000\n1" 1
    ∷ bad "1000\n2000\n\n" 1
    ∷ bad "1000\n2000\n1000\n" 1
    ∷ bad "1000\n2000\n2000\n1000\n2000\n" 1
    ∷ bad "1000\r\n2000\r\n" 0
    ∷ bad " 1000\n2000\n" 0
    ∷ bad "10 00\n2000\n" 0
    ∷ bad "1000\n2000\n\t\n" 1
    ∷ bad "10000\n2000\n" 0
    ∷ bad "1\n2000\n" 0
    ∷ bad "10\n2000\n" 0
    ∷ bad "1001\n2000\n" 0
    ∷ bad "1000000000000000\n2000\n" 0
    ∷ bad "3000\n2000\n" 0
    ∷ bad "1000\n1100\n" 0
    ∷ bad "100100000000000a\n2000\n" 0
    ∷ bad "100100000000000G\n2000\n" 0
    ∷ record { input = zeros "1041" 780 ++ zeros "2000" 0; pairs = 0; faulty = true }
    ∷ record { input = zeros "1000" 0 ++ zeros "2041" 780; pairs = 0; faulty = true }
    ∷ []

rows_right : T (all_right rows)
unfolding rows
rows_right = tt
