-- The rule of the fixed table of eight rows, proved once over the whole table, and what follows for a format's fields. Assumes nothing.
use Prim.Native.Nat.{ℕ, ◌+◌, ◌/◌, ◌%◌, ◌^◌, ◌<◌, ◌≤◌}
use mathlib.Core.Path.{◌≡◌, refl, sym, ap, ap₂, ◌∙◌}
use mathlib.Core.Bool.{Bool, true, false, ◌&&◌}
use native.Mathlib.Omega.{arith}
use lib.Dec.{leb, eqb}
use lib.ListN.{get_or}
use borrow.Author.Tests.{eqb-true}
use Rattle.folds.proofs.Tests.{and_both}
use Rattle.folds.proofs.Folds.{sum_more, sum_le}
use Rattle.folds.proofs.Sums.{sum_bound}
use Rattle.folds.proofs.Table.{rule_at}
use Rattle.ot_layouts.specs.declared.Field.{Field}
use Rattle.ot_layouts.specs.Values.{field, fields, field_at, bit, field_count, position}

-- two tests have one value
same : Bool → Bool → Bool
same true b = b
same false true = false
same false false = true

same_true : (a b : Bool) → same a b ≡ true → a ≡ b
unfolding same
same_true true true t = refl
same_true true false t = sym t
same_true false true t = t
same_true false false t = refl

-- row j: the mask of bit j, a device from bit 4 on, and the name j
abbrev pub ruled : ℕ → Field
ruled j = field (2 ^ j) (leb 4 j) j

is_ruled : ℕ → Field → Bool
is_ruled j f = eqb f.mask (2 ^ j) && same f.device (leb 4 j) && eqb f.name j

is_ruled_lem : (j : ℕ) (f : Field) → is_ruled j f ≡ true → f ≡ ruled j
unfolding is_ruled
is_ruled_lem j f t =
    let (u, n) = and_both (eqb f.mask (2 ^ j) && same f.device (leb 4 j)) (eqb f.name j) t in
    let (m, d) = and_both (eqb f.mask (2 ^ j)) (same f.device (leb 4 j)) u in
    let em : f.mask ≡ 2 ^ j = eqb-true f.mask (2 ^ j) m in
    let ed : f.device ≡ leb 4 j = same_true f.device (leb 4 j) d in
    let en : f.name ≡ j = eqb-true f.name j n in
    ap₂ (λ (x : ℕ) (y : Bool). field x y f.name) em ed ∙ ap (field (2 ^ j) (leb 4 j)) en

-- whatever stands past the table's end
pub row_rule : (d : Field) (j : ℕ) → j < 8 → get_or fields j d ≡ ruled j
unfolding fields is_ruled same
row_rule d j h = is_ruled_lem j (get_or fields j d) (rule_at is_ruled d fields refl j h)

pub field_rule : (j : ℕ) → j < 8 → field_at j ≡ ruled j
field_rule j h = row_rule (field 1 false 8) j h

-- ---- fields of a format

pub bit_digit : (vf j : ℕ) → j < 8 → bit vf j ≡ vf / 2 ^ j % 2
unfolding bit
bit_digit vf j h = ap (λ (f : Field). vf / f.mask % 2) (field_rule j h)

pub bit_below : (vf j : ℕ) → bit vf j < 2
unfolding bit
bit_below vf j = omega arith

pub position_more : (vf j : ℕ) → position vf (j + 1) ≡ position vf j + bit vf j
unfolding position
position_more vf j = sum_more (bit vf) j

-- the positions ascend, and the last is the count
pub position_le : (vf i j : ℕ) → i ≤ j → position vf i ≤ position vf j
unfolding position
position_le vf i j h = sum_le (bit vf) i j h

pub position_all : (vf : ℕ) → position vf 8 ≡ field_count vf
unfolding position field_count
position_all vf = refl

pub field_count_le : (vf : ℕ) → field_count vf ≤ 8
unfolding field_count
field_count_le vf = omega (arith, sum_bound (bit vf) 1 8 (λ k l. omega (arith, bit_below vf k)))
