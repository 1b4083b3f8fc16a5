-- The device fields of a format stand behind its plain ones: their positions are a range. Assumes nothing.
use Prim.Native.Nat.{ℕ, ◌+◌, ◌<◌, ◌≤◌}
use mathlib.Core.Path.{◌≡◌, refl, sym, ap, ◌∙◌}
use mathlib.Core.Bool.{Bool, true, false, cond, ◌&&◌, ◌||◌}
use mathlib.Core.List.{List, [], ◌∷◌}
use mathlib.Core.Logic.{⊎_elim}
use native.Mathlib.Omega.{arith}
use lib.Dec.{leb, ltb, eqb}
use borrow.Author.Tests.{le-leb, lt-leb, lt-ltb, le-ltb, eq-eqb, ne_eqb}
use Rattle.folds.specs.Folds.{flat}
use Rattle.folds.specs.Lists.{among}
use Rattle.folds.proofs.Tests.{either, by_index, and_second}
use Rattle.folds.proofs.Folds.{flat-more}
use Rattle.folds.proofs.Among.{among-append, among_one}
use Rattle.ot_layouts.specs.declared.Field.{Field}
use Rattle.ot_layouts.specs.Values.{field_at, bit, position, field_count, devices}
use Rattle.ot_layouts.proofs.Values.{field_rule, bit_below, position_more, position_le, position_all}

or_none : (b : Bool) → b || false ≡ b
or_none true = refl
or_none false = refl

-- k lies from a to below p
abbrev between : ℕ → ℕ → ℕ → Bool
between k a p = leb a k && ltb k p

nowhere : (k a p : ℕ) → p ≤ a → between k a p ≡ false
nowhere k a p h = ⊎_elim (λ l. rw (lt-leb a k l)) (λ l. and_second (leb a k) (ltb k p) (le-ltb k p (omega arith))) (either k a)

-- one more place
one_more : (k a p : ℕ) → a ≤ p → between k a p || eqb k p ≡ between k a (p + 1)
one_more k a p h =
    ⊎_elim
    (λ l. rw (ne_eqb k p (omega arith), lt-ltb k p l, lt-ltb k (p + 1) (omega arith)) (or_none (leb a k && true)))
    (λ l. ⊎_elim
    (λ m. rw (ne_eqb k p (omega arith), le-ltb k p l, le-ltb k (p + 1) (omega arith)) (or_none (leb a k && false)))
    (λ m. rw (eq-eqb k p (omega arith), le-leb a k (omega arith), le-ltb k p l, lt-ltb k (p + 1) (omega arith)))
    (either p k))
    (either k p)

module _ (vf k : ℕ) where
  -- what row j adds to the device positions
  piece : ℕ → List ℕ
  piece j = cond (eqb (bit vf j) 1 && (field_at j).device) (position vf j ∷ []) []

  device_row : (j : ℕ) → j < 8 → (field_at j).device ≡ leb 4 j
  device_row j h = ap (λ (f : Field). f.device) (field_rule j h)

  plain_piece : (j : ℕ) → j < 4 → piece j ≡ []
  unfolding piece
  plain_piece j h = rw (and_second (eqb (bit vf j) 1) (field_at j).device (device_row j (omega arith) ∙ lt-leb 4 j h))

  absent_piece : (j : ℕ) → bit vf j ≡ 0 → piece j ≡ []
  unfolding piece
  absent_piece j e = rw (ne_eqb (bit vf j) 1 (omega arith))

  device_piece : (j : ℕ) → 4 ≤ j → j < 8 → bit vf j ≡ 1 → piece j ≡ position vf j ∷ []
  unfolding piece
  device_piece j l h e = rw (eq-eqb (bit vf j) 1 e, device_row j h, le-leb 4 j l)

  -- the device positions before row j
  abbrev Before : ℕ → Type 0
  Before j = j ≤ 8 → among k (flat piece j) ≡ between k (position vf 4) (position vf j)

  before_none : Before 0
  unfolding flat among
  before_none h = sym (nowhere k (position vf 4) (position vf 0) (position_le vf 0 4 (omega arith)))

  before_more : (j : ℕ) → Before j → Before (j + 1)
  unfolding among
  before_more j low h =
      ap (among k) (flat-more piece j) ∙ among-append k (flat piece j) (piece j)
      ∙ ap (λ (b : Bool). b || among k (piece j)) (low (omega arith))
      ∙ ⊎_elim plain (λ l. ⊎_elim absent (device l) (either (bit vf j) 1)) (either j 4)
    where
      a : ℕ
      a = position vf 4

      p : ℕ
      p = position vf j

      goal : Type 0
      goal = between k a p || among k (piece j) ≡ between k a (position vf (j + 1))

      -- nothing is added
      stays : piece j ≡ [] → between k a p ≡ between k a (position vf (j + 1)) → goal
      stays e q = rw e (or_none (between k a p) ∙ q)

      plain : j < 4 → goal
      plain l =
          stays (plain_piece j l)
          (nowhere k a p (position_le vf j 4 (omega arith)) ∙ sym (nowhere k a (position vf (j + 1)) (position_le vf (j + 1) 4 (omega arith))))

      absent : bit vf j < 1 → goal
      absent l =
          let e : p ≡ position vf (j + 1) = omega (arith, position_more vf j) in
          stays (absent_piece j (omega arith)) (ap (between k a) e)

      device : 4 ≤ j → 1 ≤ bit vf j → goal
      device l m =
          let one : bit vf j ≡ 1 = omega (arith, bit_below vf j) in
          let e : p + 1 ≡ position vf (j + 1) = omega (arith, position_more vf j) in
          rw (device_piece j l (omega arith) one, among_one k p) (one_more k a p (position_le vf 4 j l) ∙ ap (between k a) e)

  pub devices_between : among k (devices vf) ≡ between k (position vf 4) (field_count vf)
  unfolding devices piece
  devices_between = by_index Before before_none before_more 8 (omega arith) ∙ ap (between k (position vf 4)) (position_all vf)
