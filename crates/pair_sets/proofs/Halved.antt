-- The search of a sorted pair set by halving finds the first record with a glyph; a record that is found stands in its set. Assumes nothing.
use Rattle.std.specs.Prelude.{Some, None}
use Prim.Native.Nat.{ℕ, ◌+◌, ◌*◌, ◌≤◌, ◌<◌}
use mathlib.Core.Path.{◌≡◌, refl}
use mathlib.Core.Bool.{Bool, true, false, cond, ◌&&◌}
use mathlib.Core.List.{List}
use mathlib.Core.Logic.{⊎_elim}
use native.Mathlib.Omega.{arith}
use lib.ListN.{length}
use lib.Dec.{leb, eqb}
use borrow.Author.Tests.{eq-eqb, ne_eqb, le-leb, leb-true}
use Rattle.folds.specs.Folds.{first_at}
use Rattle.folds.proofs.First.{first_none, first_at_lem, first_below}
use Rattle.folds.proofs.Halving.{Parts, ends_below, apart}
use Rattle.ot_layouts.specs.Numbers.{u16_at}
use Rattle.ot_layouts.specs.PairPos.{set_readable, set_sorted, values_at, first_record}
use Rattle.pair_sets.proofs.Widths.{record_within}
use Rattle.pair_sets.specs.Rising.{second_at}
use Rattle.pair_sets.proofs.Ascending.{Sorted, sorted}

-- record r is of glyph g
abbrev is_glyph : List ℕ → ℕ → ℕ → ℕ → Bool
is_glyph b size g r = eqb (u16_at b (2 + (2 + size) * r)) g

-- in a sorted set, record m stands whole
pub glyph_within : (b : List ℕ) (size m : ℕ) → set_sorted b size ≡ true → m < u16_at b 0 → 2 + (2 + size) * m + (2 + size) ≤ length b
glyph_within b size m h l =
    let s = sorted b size h in
    omega (arith, record_within (2 + size) m (u16_at b 0) l, s.long)

module _ (b : List ℕ) (size g : ℕ) {n k : ℕ} (h : set_sorted b size ≡ true) (e : n ≡ u16_at b 0) (p : Parts (second_at b size) n g k) where
  sorts : Sorted b size n
  sorts = rw e (sorted b size h)

  readable : first_record b size g ≡ first_at (is_glyph b size g) n
  unfolding first_record set_readable
  readable =
      let long = sorts.long in
      rw (← e, le-leb 2 (length b) (omega arith), le-leb (2 + (2 + size) * n) (length b) (omega arith))

  pub hit : k < n → second_at b size k ≡ g → Some k ≡ first_record b size g
  hit l q =
      rw (
        readable,
        first_at_lem (is_glyph b size g) k n l
            (λ j m. ne_eqb (second_at b size j) g (λ z. omega (arith, ends_below sorts.rising p j m)))
            (eq-eqb (second_at b size k) g q),
      )

  pub miss : (k < n → g < second_at b size k) → None ≡ first_record b size g
  miss f =
      rw (
        readable,
        first_none (is_glyph b size g) n
            (λ j m. ne_eqb (second_at b size j) g (λ z. ⊎_elim (λ h. omega arith) (λ h. omega arith) (apart sorts.rising p f j m))),
      )

-- a record that is found stands in the set whole, its values behind its glyph
pub values_within : (b : List ℕ) (size g r : ℕ) → first_record b size g ≡ Some r → values_at size r + size ≤ length b
unfolding first_record set_readable
values_within b size g r = go (leb 2 (length b)) (leb (2 + (2 + size) * u16_at b 0) (length b)) refl
  where
    go : (x y : Bool) → leb (2 + (2 + size) * u16_at b 0) (length b) ≡ y → cond (x && y) (first_at (is_glyph b size g) (u16_at b 0)) None ≡ Some r → values_at size r + size ≤ length b
    go false y h e = let z : ◌≡◌ {A = ℕ} 0 1 = cc in absurd (omega arith)
    go true false h e = let z : ◌≡◌ {A = ℕ} 0 1 = cc in absurd (omega arith)
    go true true h e =
        omega (arith, record_within (2 + size) r (u16_at b 0) (first_below (is_glyph b size g) (u16_at b 0) r e), leb-true (2 + (2 + size) * u16_at b 0) (length b) h)
