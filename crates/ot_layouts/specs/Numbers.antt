-- Numbers as bytes: "All numbers in font tables are big-endian." Assumes nothing.
use Rattle.std.specs.Prelude.{ℕ, ◌+◌, ◌-◌, ◌*◌, ◌/◌, ◌%◌, cond, List, [], ◌∷◌, ◌++◌, get_or, ℤ, pos, negsuc, ltb}

-- the sixteen bits at i and i + 1
unfoldable pub u16_at : List ℕ → ℕ → ℕ
u16_at b i = 256 * get_or b i 0 + get_or b (i + 1) 0

-- the two bytes of v
unfoldable pub be16 : ℕ → List ℕ
be16 v = v / 256 ∷ v % 256 ∷ []

-- numbers in a row, two bytes each
unfoldable pub words : List ℕ → List ℕ
words [] = []
words (v ∷ vs) = be16 v ++ words vs

-- sixteen bits as a signed number: 65,535 is -1
unfoldable pub signed16 : ℕ → ℤ
signed16 v = cond (ltb v 32768) (pos v) (negsuc (65535 - v))

-- all of this file's definitions, for checks that compute
unfoldable pub computes : Unit {0}
unfolding u16_at be16 words signed16
computes = tt
