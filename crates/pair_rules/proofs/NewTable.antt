-- The bytes of a new table, read back. Assumes nothing.
use Prim.Native.Nat.{ℕ, ◌+◌, ◌-◌, ◌*◌, ◌<◌, ◌≤◌}
use mathlib.Core.Path.{◌≡◌, refl, ap, ap₂, ◌∙◌}
use mathlib.Core.Bool.{true, false, cond}
use mathlib.Core.List.{List, ◌++◌}
use mathlib.Core.Logic.{◌⊎◌, inl, inr, ⊎_elim}
use native.Mathlib.Omega.{arith}
use native.Mathlib.Nat.{mul-sub}
use lib.ListN.{length, length-append, get_or, get_or-append, replicate, length-replicate}
use lib.Dec.{eqb}
use Rattle.folds.specs.Lists.{part, Bytes}
use Rattle.folds.proofs.Tests.{by_test}
use Rattle.folds.proofs.Parts.{length_part, part_at}
use Rattle.folds.proofs.Offsets.{past_at}
use Rattle.ot_layouts.specs.Numbers.{be16, u16_at}
use Rattle.ot_layouts.specs.PairPos.{Shape, item_at, shape_of}
use Rattle.ot_layouts.proofs.Head.{two_bytes}
use Rattle.ot_layouts.proofs.Shapes.{header_long, Format2, items_rise, formats, format_two}
use Rattle.ot_layouts.proofs.Octets.{bytes_be16, bytes_three}
use Rattle.folds.proofs.Bytes.{bytes_part, bytes_append, bytes_zeros}
use Rattle.pair_rules.specs.Written.{new_table}

module _ (b : List ℕ) (big : 8 ≤ length b) where
  -- up to the value formats
  abbrev front : List ℕ
  front = part b 0 2 ++ be16 0 ++ part b 4 8

  front_length : length front ≡ 8
  unfolding be16
  front_length =
      omega (arith, length-append (part b 0 2 ++ be16 0) (part b 4 8), length-append (part b 0 2) (be16 0), length_part b 0 2 (omega arith) (omega arith), length_part b 4 8 (omega arith) (omega arith))

  front_same : (i : ℕ) → (i < 2) ⊎ ((4 ≤ i) × (i < 8)) → get_or front i 0 ≡ get_or b i 0
  unfolding be16
  front_same i (inl h) =
      let l2 : length (part b 0 2) ≡ 2 = length_part b 0 2 (omega arith) (omega arith) in
      get_or-append (part b 0 2 ++ be16 0) (part b 4 8) 0 i (omega (arith, length-append (part b 0 2) (be16 0)))
      ∙ get_or-append (part b 0 2) (be16 0) 0 i (omega arith) ∙ part_at b 0 2 i (omega arith) ∙ ap (λ (k : ℕ). get_or b k 0) (omega arith)
  front_same i (inr (g, h)) =
      let l4 : length (part b 0 2 ++ be16 0) ≡ 4 = omega (arith, length-append (part b 0 2) (be16 0), length_part b 0 2 (omega arith) (omega arith)) in
      past_at (part b 0 2 ++ be16 0) (part b 4 8) 4 i l4 g ∙ part_at b 4 8 (i - 4) (omega arith) ∙ ap (λ (k : ℕ). get_or b k 0) (omega arith)

  -- behind them, in format 1
  abbrev back1 : ℕ → List ℕ
  back1 n = be16 n ++ replicate (2 * n) 0

  -- and in format 2
  abbrev back2 : Shape → ℕ → ℕ → List ℕ
  back2 sh lo hi = be16 0 ++ be16 0 ++ be16 (hi - lo) ++ part b 14 16 ++ part b (item_at sh lo) (item_at sh hi)

  module _ (sh : Shape) (lo hi : ℕ) where
    front_kept : (i : ℕ) → (i < 2) ⊎ ((4 ≤ i) × (i < 8)) → get_or (new_table sh b lo hi) i 0 ≡ get_or b i 0
    unfolding new_table
    front_kept i d =
        get_or-append front (cond (eqb sh.format 1) (back1 (hi - lo)) (back2 sh lo hi)) 0 i (omega (arith, front_length, ⊎_elim {C = i < 8} (λ a. omega arith) (λ a. a.1) d))
        ∙ front_same i d

    module _ (one : eqb sh.format 1 ≡ true) where
      new_is1 : new_table sh b lo hi ≡ front ++ back1 (hi - lo)
      unfolding new_table
      new_is1 = rw one

      new1_long : length (new_table sh b lo hi) ≡ 10 + 2 * (hi - lo)
      unfolding be16
      new1_long = ap length new_is1 ∙ omega (arith, length-append front (back1 (hi - lo)), front_length, length-replicate {A = ℕ} (2 * (hi - lo)) 0)

      new1_count : u16_at (new_table sh b lo hi) 8 ≡ hi - lo
      unfolding be16 u16_at
      new1_count =
          ap (λ (x : List ℕ). u16_at x 8) new_is1
          ∙ ap₂ (λ (m n : ℕ). 256 * m + n) (past_at front (back1 (hi - lo)) 8 8 front_length (omega arith)) (past_at front (back1 (hi - lo)) 8 9 front_length (omega arith))
          ∙ two_bytes (hi - lo)

    module _ (two : eqb sh.format 1 ≡ false) (more : 16 ≤ length b) (low : item_at sh lo ≤ item_at sh hi) (high : item_at sh hi ≤ length b) where
      new_is2 : new_table sh b lo hi ≡ front ++ back2 sh lo hi
      unfolding new_table
      new_is2 = rw two

      wide_length : length (part b 14 16) ≡ 2
      wide_length = length_part b 14 16 (omega arith) more

      new2_long : length (new_table sh b lo hi) ≡ 16 + (item_at sh hi - item_at sh lo)
      unfolding be16
      new2_long =
          ap length new_is2
          ∙ omega (
            arith,
            length-append front (back2 sh lo hi),
            front_length,
            length-append (be16 0 ++ be16 0 ++ be16 (hi - lo) ++ part b 14 16) (part b (item_at sh lo) (item_at sh hi)),
            length-append (be16 0 ++ be16 0 ++ be16 (hi - lo)) (part b 14 16),
            wide_length,
            length_part b (item_at sh lo) (item_at sh hi) low high,
          )

      back_at : (i : ℕ) → 8 ≤ i → get_or (new_table sh b lo hi) i 0 ≡ get_or (back2 sh lo hi) (i - 8) 0
      back_at i h = ap (λ (x : List ℕ). get_or x i 0) new_is2 ∙ past_at front (back2 sh lo hi) 8 i front_length h

      new2_count : u16_at (new_table sh b lo hi) 12 ≡ hi - lo
      unfolding be16 u16_at
      new2_count = ap₂ (λ (m n : ℕ). 256 * m + n) (back_at 12 (omega arith)) (back_at 13 (omega arith)) ∙ two_bytes (hi - lo)

      new2_wide : (i : ℕ) → 14 ≤ i → i < 16 → get_or (new_table sh b lo hi) i 0 ≡ get_or b i 0
      unfolding be16
      new2_wide i g h =
          back_at i (omega arith)
          ∙ get_or-append (be16 0 ++ be16 0 ++ be16 (hi - lo) ++ part b 14 16) (part b (item_at sh lo) (item_at sh hi)) 0 (i - 8) (omega (arith, length-append (be16 0 ++ be16 0 ++ be16 (hi - lo)) (part b 14 16), wide_length))
          ∙ past_at (be16 0 ++ be16 0 ++ be16 (hi - lo)) (part b 14 16) 6 (i - 8) refl (omega arith)
          ∙ part_at b 14 16 (i - 8 - 6) (omega arith) ∙ ap (λ (k : ℕ). get_or b k 0) (omega arith)

      new2_rows : (i : ℕ) → 16 ≤ i → i - 16 < item_at sh hi - item_at sh lo → get_or (new_table sh b lo hi) i 0 ≡ get_or b (item_at sh lo + (i - 16)) 0
      unfolding be16
      new2_rows i g h =
          back_at i (omega arith)
          ∙ past_at (be16 0 ++ be16 0 ++ be16 (hi - lo) ++ part b 14 16) (part b (item_at sh lo) (item_at sh hi)) 8 (i - 8) (omega (arith, length-append (be16 0 ++ be16 0 ++ be16 (hi - lo)) (part b 14 16), wide_length)) (omega arith)
          ∙ part_at b (item_at sh lo) (item_at sh hi) (i - 8 - 8) (omega arith) ∙ ap (λ (k : ℕ). get_or b k 0) (omega arith)

-- ---- by the shape of the bytes

module _ (b : List ℕ) (whole : length b ≡ item_at (shape_of b) (shape_of b).count) (lo hi : ℕ) (low : lo ≤ hi) (high : hi ≤ (shape_of b).count) where
  abbrev sh : Shape
  sh = shape_of b

  eight : 8 ≤ length b
  eight = omega (arith, whole, header_long b)

  sixteen : Format2 b sh → 16 ≤ length b
  sixteen f = omega (arith, whole)

  first_in : item_at sh lo ≤ item_at sh hi
  first_in = items_rise sh lo hi low

  last_in : item_at sh hi ≤ length b
  last_in = omega (arith, items_rise sh hi sh.count high, whole)

  pub new_long : length (new_table sh b lo hi) ≡ sh.header + sh.item * (hi - lo)
  new_long =
      ⊎_elim (λ f. new1_long b eight sh lo hi f.one ∙ rw (f.header_is, f.item_is))
      (λ f. new2_long b eight sh lo hi f.two (sixteen f) first_in last_in ∙ omega (arith, mul-sub sh.item hi lo))
      (formats b)

  pub new_count_lem : u16_at (new_table sh b lo hi) sh.count_at ≡ hi - lo
  new_count_lem =
      ⊎_elim (λ f. ap (u16_at (new_table sh b lo hi)) f.count_is ∙ new1_count b eight sh lo hi f.one)
      (λ f. ap (u16_at (new_table sh b lo hi)) f.count_is ∙ new2_count b eight sh lo hi f.two (sixteen f) first_in last_in)
      (formats b)

  -- "Format, value formats .. are copied"
  pub new_same : (i : ℕ) → (i < 2) ⊎ ((4 ≤ i) × (i < 8)) → get_or (new_table sh b lo hi) i 0 ≡ get_or b i 0
  new_same i d = front_kept b eight sh lo hi i d

  module _ (two : eqb sh.format 1 ≡ false) where
    f2 : Format2 b sh
    f2 = format_two b two

    -- ".. and class2Count are copied"
    pub new_wide : (i : ℕ) → 14 ≤ i → i < 16 → get_or (new_table sh b lo hi) i 0 ≡ get_or b i 0
    new_wide i h k = new2_wide b eight sh lo hi two (sixteen f2) first_in last_in i h k

    -- "format 2 rows are copied whole"
    pub new_rows_lem : (i : ℕ) → sh.header ≤ i → i + sh.item * lo < item_at sh hi → get_or (new_table sh b lo hi) i 0 ≡ get_or b (i + sh.item * lo) 0
    new_rows_lem i h k =
        let e = f2.header_is in
        new2_rows b eight sh lo hi two (sixteen f2) first_in last_in i (omega arith) (omega arith) ∙ ap (λ (n : ℕ). get_or b n 0) (omega arith)

-- ---- they are bytes

pub bytes_new_table : (sh : Shape) (b : List ℕ) (lo hi : ℕ) → Bytes b → hi - lo < 65536 → Bytes (new_table sh b lo hi)
unfolding new_table
bytes_new_table sh b lo hi o h =
    let p : (lo hi : ℕ) → Bytes (part b lo hi) = λ lo hi. bytes_part b lo hi o in
    bytes_append (part b 0 2 ++ be16 0 ++ part b 4 8) (cond (eqb sh.format 1) (be16 (hi - lo) ++ replicate (2 * (hi - lo)) 0) (be16 0 ++ be16 0 ++ be16 (hi - lo) ++ part b 14 16 ++ part b (item_at sh lo) (item_at sh hi)))
    (bytes_append (part b 0 2 ++ be16 0) (part b 4 8) (bytes_append (part b 0 2) (be16 0) (p 0 2) (bytes_be16 0 (omega arith))) (p 4 8))
    (by_test (eqb sh.format 1)
    (λ e. rw e (bytes_append (be16 (hi - lo)) (replicate (2 * (hi - lo)) 0) (bytes_be16 (hi - lo) h) (bytes_zeros (2 * (hi - lo)))))
    (λ e. rw e (bytes_append (be16 0 ++ be16 0 ++ be16 (hi - lo) ++ part b 14 16) (part b (item_at sh lo) (item_at sh hi))
    (bytes_three 0 0 (hi - lo) (part b 14 16) (omega arith) (omega arith) h (p 14 16))
    (p (item_at sh lo) (item_at sh hi)))))
