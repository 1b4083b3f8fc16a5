-- The table of a range has the old table's pairs whose item lies in the range. Assumes nothing.
use Rattle.std.specs.Prelude.{Option, Some, None}
use Prim.Native.Nat.{ℕ, ◌+◌, ◌-◌, ◌*◌, ◌<◌, ◌≤◌}
use mathlib.Core.Path.{◌≡◌, refl, sym, ap, ap₂, ◌∙◌}
use mathlib.Core.Bool.{Bool, true, false, cond, ◌&&◌}
use mathlib.Core.List.{List}
use native.Mathlib.Omega.{arith}
use native.Mathlib.Nat.{add-mul, mul_assoc, mul_comm, mul-add, mul-le-mul_right, mul-le-mul_left}
use lib.ListN.{get_or}
use lib.Dec.{eqb, ltb, leb}
use lib.IntN.{pos}
use borrow.Author.Tests.{lt-ltb, ltb-true, leb-true}
use Rattle.folds.specs.Folds.{upto}
use Rattle.folds.specs.Lists.{given, and_then}
use Rattle.folds.proofs.Tests.{by_test, and_both}
use Rattle.folds.proofs.Folds.{upto-same}
use Rattle.ot_layouts.specs.Numbers.{signed16, u16_at}
use Rattle.ot_layouts.specs.Values.{bit, field_at, position, field_count}
use Rattle.ot_layouts.specs.Coverage.{Entry, Ascends}
use Rattle.ot_layouts.specs.ClassDef.{class_of}
use Rattle.ot_layouts.specs.PairPos.{record_size, value1, value2, Shape, item_at, columns, first_record, values_at}
use Rattle.ot_layouts.proofs.Shapes.{format_two, format_one}
use Rattle.ot_layouts.proofs.Slots.{field_fits}
use Rattle.ot_layouts.proofs.Octets.{u16_same}
use Rattle.store_rules.specs.Store.{Store, bytes_of, child_at, linked_bytes}
use Rattle.pair_rules.specs.Table.{shape, entries_of}
use Rattle.pair_rules.specs.Pairs.{number_of, device_number, pair_at, Spot, pair_of, no_pair}
use Rattle.store_rules.proofs.Lookups.{linked_some}
use Rattle.pair_rules.proofs.PairByItem.{row_spot, set_spot, item_spot, lies, entry_of, spot_by_item, entry_ranged, reduce}
use Rattle.pair_after.proofs.View.{View, view_value1, view_value2, view_shape, view_columns, view_record, view_test, view_entries}

-- ---- rows, shifted

row_shift : (r k i c lo : ℕ) → r * ((i + lo) * k + c) ≡ r * (i * k + c) + r * k * lo
row_shift r k i c lo =
    let a : (i + lo) * k ≡ i * k + lo * k = add-mul i lo k in
    let b : r * k * lo ≡ r * (lo * k) = mul_assoc r k lo ∙ ap (λ (n : ℕ). r * n) (mul_comm k lo) in
    let z : (i + lo) * k + c ≡ i * k + c + lo * k = omega arith in
    ap (λ (n : ℕ). r * n) z ∙ mul-add r (i * k + c) (lo * k) ∙ omega arith

row_fits : (r k i c lo hi : ℕ) → i + lo < hi → c < k → r * (i * k + c) + r + r * k * lo ≤ r * k * hi
row_fits r k i c lo hi h l =
    let n : i * k + c + 1 + lo * k ≤ hi * k = omega (arith, mul-le-mul_right {m = i + lo + 1} {n = hi} k (omega arith), add-mul (i + lo) 1 k, add-mul i lo k) in
    let b : r * k * lo ≡ r * (lo * k) = mul_assoc r k lo ∙ ap (λ (n : ℕ). r * n) (mul_comm k lo) in
    let d : r * k * hi ≡ r * (hi * k) = mul_assoc r k hi ∙ ap (λ (n : ℕ). r * n) (mul_comm k hi) in
    omega (arith, mul-le-mul_left {m = i * k + c + 1 + lo * k} {n = hi * k} r n, mul-add r (i * k + c + 1) (lo * k), mul-add r (i * k + c) 1)

-- ---- what the readings share

-- of another object that is as it was
number_kept_lem : (s s' : Store) (o q vf j : ℕ) → bytes_of s' o ≡ bytes_of s o → ((p : ℕ) → child_at s' o p ≡ child_at s o p) → number_of s' o q vf j ≡ number_of s o q vf j
unfolding number_of
number_kept_lem s s' o q vf j b l =
    ap₂ (λ (x : Option ℕ) (y : List ℕ). cond (eqb (bit vf j) 0) (pos 0) (cond (field_at j).device (device_number x) (signed16 (u16_at y (q + 2 * position vf j))))) (l (q + 2 * position vf j)) b

record_is : (b : List ℕ) → record_size b ≡ 2 * (field_count (value1 b) + field_count (value2 b))
unfolding record_size
record_is b = refl

-- what t leads to is as it was
abbrev pub Kin : Store → ℕ → Store → Type 0
Kin s t s' = (q c : ℕ) → child_at s t q ≡ Some c → (bytes_of s' c ≡ bytes_of s c) × ((p : ℕ) → child_at s' c p ≡ child_at s c p)

module _ {s : Store} {t : ℕ} {s' : Store} {u lo hi : ℕ} (v : View s t s' u lo hi) where
  abbrev sh : Shape
  sh = shape s t

  -- the old table's bytes
  abbrev old : List ℕ
  old = bytes_of s t

  -- and its own
  abbrev new : List ℕ
  new = bytes_of s' u

  -- the pair at a spot whose sixteen numbers are those at another
  pair_at_lem : (o' q' o q : ℕ) → ((j : ℕ) → j < 8 → number_of s' o' q' (value1 old) j ≡ number_of s o q (value1 old) j)
      → ((j : ℕ) → j < 8 → number_of s' o' (q' + 2 * field_count (value1 old)) (value2 old) j ≡ number_of s o (q + 2 * field_count (value1 old)) (value2 old) j)
      → pair_at s' u (Some (record { object = o'; at = q' })) ≡ pair_at s t (Some (record { object = o; at = q }))
  unfolding pair_at
  pair_at_lem o' q' o q firsts seconds =
      let f : upto (number_of s' o' q' (value1 new)) 8 ≡ upto (number_of s o q (value1 old)) 8
      = ap (λ (vf : ℕ). upto (number_of s' o' q' vf) 8) (view_value1 v) ∙ upto-same (number_of s' o' q' (value1 old)) (number_of s o q (value1 old)) 8 firsts in
      let g : upto (number_of s' o' (q' + 2 * field_count (value1 new)) (value2 new)) 8 ≡ upto (number_of s o (q + 2 * field_count (value1 old)) (value2 old)) 8
      = ap₂ (λ (x y : ℕ). upto (number_of s' o' (q' + 2 * field_count x) y) 8) (view_value1 v) (view_value2 v)
      ∙ upto-same (number_of s' o' (q' + 2 * field_count (value1 old)) (value2 old)) (number_of s o (q + 2 * field_count (value1 old)) (value2 old)) 8 seconds in
      λ d. record { found = true; first = f d; second = g d }

  -- ---- format 2: the row of an item

  module _ (two : eqb (shape s t).format 1 ≡ false) where
    -- the class of the second glyph
    abbrev column : ℕ → ℕ
    column b = class_of (linked_bytes s t 10) b

    number_row : (q vf j : ℕ) → j < 8 → sh.header ≤ q → q + 2 * field_count vf + sh.item * lo ≤ item_at sh hi
        → number_of s' u q vf j ≡ number_of s t (q + sh.item * lo) vf j
    unfolding number_of
    number_row q vf j h a b = go (eqb (bit vf j) 0) refl
      where
        go : (z : Bool) → eqb (bit vf j) 0 ≡ z
            → cond z (pos 0) (cond (field_at j).device (device_number (child_at s' u (q + 2 * position vf j))) (signed16 (u16_at new (q + 2 * position vf j))))
            ≡ cond z (pos 0) (cond (field_at j).device (device_number (child_at s t (q + sh.item * lo + 2 * position vf j))) (signed16 (u16_at old (q + sh.item * lo + 2 * position vf j))))
        go true e = refl
        go false e =
            let p = q + 2 * position vf j in
            let f : position vf j + 1 ≤ field_count vf = field_fits vf j h e in
            let w : p + sh.item * lo ≡ q + sh.item * lo + 2 * position vf j = omega arith in
            let w1 : p + 1 + sh.item * lo ≡ q + sh.item * lo + 2 * position vf j + 1 = omega arith in
            ap₂ (λ (x : Option ℕ) (y : ℕ). cond (field_at j).device (device_number x) (signed16 y))
            (v.links p (omega arith) (omega arith) ∙ ap (child_at s t) w)
            (u16_same new old p (q + sh.item * lo + 2 * position vf j)
            (v.rows two p (omega arith) (omega arith) ∙ ap (λ (n : ℕ). get_or old n 0) w)
            (v.rows two (p + 1) (omega arith) (omega arith) ∙ ap (λ (n : ℕ). get_or old n 0) w1))

    class2_view : (b : ℕ) → class_of (linked_bytes s' u 10) b ≡ column b
    class2_view b = let (c, e, f, g) = v.class2 two in ap (λ (x : List ℕ). class_of x b) (linked_some s' u 10 c e ∙ g ∙ sym (linked_some s t 10 c f))

    -- where the values stand in the row of item i
    abbrev row_at : ℕ → ℕ → ℕ
    row_at b i = (shape s t).header + record_size old * (i * columns old + column b)

    spot_new : (b i : ℕ) → i + lo < hi → row_spot s' u b i ≡ given (ltb (column b) (columns old)) (record { object = u; at = row_at b i })
    unfolding row_spot
    spot_new b i h =
        let count' : (shape s' u).count ≡ hi - lo = ap (λ (sh : Shape). sh.count) (view_shape v) in
        let header' : (shape s' u).header ≡ (shape s t).header = ap (λ (sh : Shape). sh.header) (view_shape v) in
        let x : ltb i (shape s' u).count ≡ true = lt-ltb i (shape s' u).count (omega arith) in
        λ d. given (x d && ltb (class2_view b d) (view_columns v two d)) (record { object = u; at = header' d + view_record v d * (i * view_columns v two d + class2_view b d) })

    spot_old : (b i : ℕ) → i + lo < hi → row_spot s t b (i + lo) ≡ given (ltb (column b) (columns old)) (record { object = t; at = row_at b i + sh.item * lo })
    unfolding row_spot
    spot_old b i h =
        let hh = v.high in
        let y : ltb (i + lo) sh.count ≡ true = lt-ltb (i + lo) sh.count (omega arith) in
        let f = format_two old two in
        let g : sh.item * lo ≡ record_size old * columns old * lo = ap (λ (n : ℕ). n * lo) f.item_is in
        let z : sh.header + record_size old * ((i + lo) * columns old + column b) ≡ row_at b i + sh.item * lo
        = omega (arith, row_shift (record_size old) (columns old) i (column b) lo) in
        λ d. given (y d && ltb (column b) (columns old)) (record { object = t; at = z d })

    pair_given : (b i : ℕ) → i + lo < hi → (x : Bool) → (x ≡ true → column b < columns old)
        → pair_at s' u (given x (record { object = u; at = row_at b i })) ≡ pair_at s t (given x (record { object = t; at = row_at b i + sh.item * lo }))
    unfolding pair_at
    pair_given b i h false c = refl
    pair_given b i h true c =
        let f = format_two old two in
        let g : sh.item * lo ≡ record_size old * columns old * lo = ap (λ (n : ℕ). n * lo) f.item_is in
        let g' : sh.item * hi ≡ record_size old * columns old * hi = ap (λ (n : ℕ). n * hi) f.item_is in
        let r = record_is old in
        let fits : row_at b i + record_size old + sh.item * lo ≤ item_at sh hi = omega (arith, row_fits (record_size old) (columns old) i (column b) lo hi h (c refl)) in
        let z : row_at b i + 2 * field_count (value1 old) + sh.item * lo ≡ row_at b i + sh.item * lo + 2 * field_count (value1 old) = omega arith in
        pair_at_lem u (row_at b i) t (row_at b i + sh.item * lo)
        (λ j l. number_row (row_at b i) (value1 old) j l (omega arith) (omega arith))
        (λ j l. number_row (row_at b i + 2 * field_count (value1 old)) (value2 old) j l (omega arith) (omega arith) ∙ ap (λ (n : ℕ). number_of s t n (value2 old) j) z)

    row_pair : (b i : ℕ) → i + lo < hi → pair_at s' u (row_spot s' u b i) ≡ pair_at s t (row_spot s t b (i + lo))
    row_pair b i h =
        ap (pair_at s' u) (spot_new b i h)
        ∙ pair_given b i h (ltb (column b) (columns old)) (λ e. ltb-true (column b) (columns old) e)
        ∙ sym (ap (pair_at s t) (spot_old b i h))

  -- ---- format 1: the pair set of an item

  module _ (one : eqb (shape s t).format 1 ≡ true) (kin : Kin s t s') where
    -- the reading from a set on
    abbrev in_set : Store → ℕ → ℕ → ℕ → Option Spot
    in_set r size b c = and_then (first_record (bytes_of r c) size b) λ k. Some (record { object = c; at = values_at size k })

    set-pair_at : (b : ℕ) (o : Option ℕ) → ((c : ℕ) → o ≡ Some c → (bytes_of s' c ≡ bytes_of s c) × ((p : ℕ) → child_at s' c p ≡ child_at s c p))
        → pair_at s' u (and_then o (in_set s' (record_size new) b)) ≡ pair_at s t (and_then o (in_set s (record_size old) b))
    unfolding and_then pair_at
    set-pair_at b None k = refl
    set-pair_at b (Some c) k =
        let (x, y) = k c refl in
        ap₂ (λ (z : List ℕ) (n : ℕ). pair_at s' u (and_then (first_record z n b) λ k. Some (record { object = c; at = values_at n k }))) x (view_record v)
        ∙ go x y (first_record (bytes_of s c) (record_size old) b)
      where
        go : bytes_of s' c ≡ bytes_of s c → ((p : ℕ) → child_at s' c p ≡ child_at s c p) → (o : Option ℕ)
            → pair_at s' u (and_then o λ k. Some (record { object = c; at = values_at (record_size old) k })) ≡ pair_at s t (and_then o λ k. Some (record { object = c; at = values_at (record_size old) k }))
        go x y None = refl
        go x y (Some k) =
            let q = values_at (record_size old) k in
            pair_at_lem c q c q (λ j l. number_kept_lem s s' c q (value1 old) j x y) (λ j l. number_kept_lem s s' c (q + 2 * field_count (value1 old)) (value2 old) j x y)

    set_pair : (b i : ℕ) → i + lo < hi → pair_at s' u (set_spot s' u b i) ≡ pair_at s t (set_spot s t b (i + lo))
    unfolding set_spot and_then
    set_pair b i h =
        let hh = v.high in
        let i2 = (format_one old one).item_is in
        let m : sh.item * (i + lo) ≡ 2 * (i + lo) = ap (λ (n : ℕ). n * (i + lo)) i2 in
        let m1 : sh.item * i ≡ 2 * i = ap (λ (n : ℕ). n * i) i2 in
        let m2 : sh.item * lo ≡ 2 * lo = ap (λ (n : ℕ). n * lo) i2 in
        let m3 : sh.item * hi ≡ 2 * hi = ap (λ (n : ℕ). n * hi) i2 in
        let count' : (shape s' u).count ≡ hi - lo = ap (λ (sh : Shape). sh.count) (view_shape v) in
        let place' : item_at (shape s' u) i ≡ item_at sh i = ap (λ (sh : Shape). item_at sh i) (view_shape v) in
        let header' : (shape s' u).header ≡ (shape s t).header = ap (λ (sh : Shape). sh.header) (view_shape v) in
        let x : ltb i (shape s' u).count ≡ true = lt-ltb i (shape s' u).count (omega arith) in
        let y : ltb (i + lo) sh.count ≡ true = lt-ltb (i + lo) sh.count (omega arith) in
        let e : item_at sh i + sh.item * lo ≡ item_at sh (i + lo) = omega arith in
        let w : child_at s' u (item_at (shape s' u) i) ≡ child_at s t (item_at sh (i + lo)) = ap (child_at s' u) place' ∙ v.links (item_at sh i) (omega arith) (omega arith) ∙ ap (child_at s t) e in
        ap (λ (z : Bool). pair_at s' u (and_then (given z (item_at (shape s' u) i)) λ q. and_then (child_at s' u q) (in_set s' (record_size new) b))) x
        ∙ ap (λ (o : Option ℕ). pair_at s' u (and_then o (in_set s' (record_size new) b))) w
        ∙ set-pair_at b (child_at s t (item_at sh (i + lo))) (λ c r. kin (item_at sh (i + lo)) c r)
        ∙ sym (ap (λ (z : Bool). pair_at s t (and_then (given z (item_at sh (i + lo))) λ q. and_then (child_at s t q) (in_set s (record_size old) b))) y)

-- ---- in either format

item_pair : {s : Store} {t : ℕ} {s' : Store} {u lo hi : ℕ} → View s t s' u lo hi → Ascends 0 (entries_of s t) → Kin s t s' → (b i : ℕ) → i + lo < hi → pair_at s' u (item_spot s' u b i) ≡ pair_at s t (item_spot s t b (i + lo))
item_pair {s} {t} {s'} {u} {lo} {hi} v up kin b i h =
    by_test (eqb (shape s t).format 1)
    (λ e. ap (λ (c : Bool). pair_at s' u (cond c (set_spot s' u b i) (row_spot s' u b i))) (view_test v up ∙ e) ∙ set_pair v e kin b i h ∙ sym (ap (λ (c : Bool). pair_at s t (cond c (set_spot s t b (i + lo)) (row_spot s t b (i + lo)))) e))
    (λ e. ap (λ (c : Bool). pair_at s' u (cond c (set_spot s' u b i) (row_spot s' u b i))) (view_test v up ∙ e) ∙ row_pair v e b i h ∙ sym (ap (λ (c : Bool). pair_at s t (cond c (set_spot s t b (i + lo)) (row_spot s t b (i + lo)))) e))

-- a table of a range has the pairs whose item lies in it
pub pair_view : {s : Store} {t : ℕ} {s' : Store} {u lo hi : ℕ} → View s t s' u lo hi → Ascends 0 (entries_of s t) → Kin s t s' → (a b : ℕ)
    → pair_of s' u a b ≡ cond (lies lo hi (entry_of (entries_of s t) a)) (pair_of s t a b) no_pair
unfolding pair_of and_then pair_at
pair_view {s} {t} {s'} {u} {lo} {hi} v up kin a b =
    ap (pair_at s' u) (spot_by_item s' u a b ∙ ap (λ (o : Option ℕ). and_then o (item_spot s' u b)) (ap (λ (x : List Entry). entry_of x a) (view_entries v up) ∙ entry_ranged (entries_of s t) 0 lo hi a up))
    ∙ go (entry_of (entries_of s t) a)
    ∙ sym (ap (λ (x : Option Spot). cond (lies lo hi (entry_of (entries_of s t) a)) (pair_at s t x) no_pair) (spot_by_item s t a b))
  where
    go : (o : Option ℕ) → pair_at s' u (and_then (and_then o (reduce lo hi)) (item_spot s' u b)) ≡ cond (lies lo hi o) (pair_at s t (and_then o (item_spot s t b))) no_pair
    go None = refl
    go (Some i) = test (leb lo i && ltb i hi) refl
      where
        test : (x : Bool) → (leb lo i && ltb i hi) ≡ x → pair_at s' u (and_then (given x (i - lo)) (item_spot s' u b)) ≡ cond x (pair_at s t (item_spot s t b i)) no_pair
        test true e =
            let (p, q) = and_both (leb lo i) (ltb i hi) e in
            let r : lo ≤ i = leb-true lo i p in
            let w : i < hi = ltb-true i hi q in
            let z : i - lo + lo ≡ i = omega arith in
            item_pair v up kin b (i - lo) (omega arith) ∙ ap (λ (n : ℕ). pair_at s t (item_spot s t b n)) z
        test false e = refl
