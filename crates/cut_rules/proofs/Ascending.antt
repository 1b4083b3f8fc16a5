-- Lists of places that ascend: one place more, a wider bound, and the places by their index. Assumes nothing.
use Prim.Native.Nat.{ℕ, zero, suc, ◌+◌, ◌<◌, ◌≤◌}
use mathlib.Core.Path.{◌≡◌, refl}
use mathlib.Core.Bool.{true}
use mathlib.Core.List.{List, [], ◌∷◌, ◌++◌}
use native.Mathlib.Omega.{arith}
use native.Mathlib.Nat.{not-suc-le-zero}
use lib.ListN.{length, get_or}
use lib.Dec.{leb, ltb}
use borrow.Author.Tests.{ltb-true, leb-true, lt-ltb, le-leb}
use Rattle.folds.proofs.Joined.{and_three, three_hold}
use Rattle.cut_rules.specs.Places.{Places, places_ascend}

pub ascending_wide : (a n m : ℕ) (cs : List ℕ) → n ≤ m → places_ascend a n cs ≡ true → places_ascend a m cs ≡ true
unfolding places_ascend
ascending_wide a n m [] l h = refl
ascending_wide a n m (c ∷ cs) l h =
    let (x, y, z) = and_three (leb a c) (ltb c n) (places_ascend (c + 1) n cs) h in
    three_hold (leb a c) (ltb c m) (places_ascend (c + 1) m cs) x (lt-ltb c m (omega (arith, ltb-true c n y))) (ascending_wide (c + 1) n m cs l z)

-- one place more
pub ascending-more : (a n : ℕ) (cs : List ℕ) → a ≤ n → places_ascend a n cs ≡ true → places_ascend a (suc n) (cs ++ (n ∷ [])) ≡ true
unfolding places_ascend
ascending-more a n [] l h = three_hold (leb a n) (ltb n (suc n)) true (le-leb a n l) (lt-ltb n (suc n) (omega arith)) refl
ascending-more a n (c ∷ cs) l h =
    let (x, y, z) = and_three (leb a c) (ltb c n) (places_ascend (c + 1) n cs) h in
    let m : c < n = ltb-true c n y in
    three_hold (leb a c) (ltb c (suc n)) (places_ascend (c + 1) (suc n) (cs ++ (n ∷ []))) x (lt-ltb c (suc n) (omega arith)) (ascending-more (c + 1) n cs (omega arith) z)

-- the first place is not below a
first_low : (a n : ℕ) (cs : List ℕ) → places_ascend a n cs ≡ true → 0 < length cs → a ≤ get_or cs 0 0
unfolding places_ascend
first_low a n [] h l = absurd (not-suc-le-zero l)
first_low a n (c ∷ cs) h l = leb-true a c (and_three (leb a c) (ltb c n) (places_ascend (c + 1) n cs) h).0

-- one place in front of others
places_cons : (c n : ℕ) (cs : List ℕ) → c < n → (0 < length cs → c < get_or cs 0 0) → Places n cs → Places n (c ∷ cs)
places_cons c n cs l m p = record { below = below; rising = rising }
  where
    below : (j : ℕ) → j < length (c ∷ cs) → get_or (c ∷ cs) j 0 < n
    below zero h = l
    below (suc j) h = p.below j (omega arith)

    rising : (j : ℕ) → j + 1 < length (c ∷ cs) → get_or (c ∷ cs) j 0 < get_or (c ∷ cs) (j + 1) 0
    rising zero h = m (omega arith)
    rising (suc j) h = let z : suc j + 1 ≡ suc (j + 1) = omega arith in rw z (p.rising j (omega arith))

pub ascending-places : (a n : ℕ) (cs : List ℕ) → places_ascend a n cs ≡ true → Places n cs
unfolding places_ascend
ascending-places a n [] h = record { below = λ j l. absurd (not-suc-le-zero l); rising = λ j l. absurd (not-suc-le-zero l) }
ascending-places a n (c ∷ cs) h =
    let (x, y, z) = and_three (leb a c) (ltb c n) (places_ascend (c + 1) n cs) h in
    places_cons c n cs (ltb-true c n y) (λ l. omega (arith, first_low (c + 1) n cs z l)) (ascending-places (c + 1) n cs z)
