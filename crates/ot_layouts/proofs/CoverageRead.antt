-- What it says of a Coverage that it is readable: by its bytes, and by its header. Assumes nothing.
use Rattle.std.specs.Prelude.{Some, None}
use Prim.Native.Nat.{ℕ, zero, suc, ◌+◌, ◌*◌, ◌≤◌, ◌<◌}
use mathlib.Core.Path.{◌≡◌, refl, sym, ap, subst, ◌∙◌}
use mathlib.Core.Bool.{Bool, true, false, cond, ◌&&◌, ◌||◌}
use mathlib.Core.List.{List}
use mathlib.Core.Logic.{◌⊎◌, inl, inr, ⊎_elim}
use native.Mathlib.Nat.{le_of_suc-le-suc, eq-or-lt_of_le}
use native.Mathlib.Numerals.{add-one}
use native.Mathlib.Omega.{arith}
use lib.ListN.{length}
use lib.Dec.{eqb, leb}
use borrow.Author.Tests.{leb-true, eqb-true, le-leb, lt-leb, eq-eqb, ne_eqb}
use Rattle.folds.specs.Folds.{all, before, sum, flat, upto, run}
use Rattle.folds.proofs.Tests.{and_both, and_intro, and_first, and_second, by_test}
use Rattle.folds.proofs.Folds.{all_at_lem, all_intro, all_fails, length-flat, length-upto}
use Rattle.folds.proofs.FromTheFront.{sum_same}
use Rattle.folds.proofs.Halving.{Rising}
use Rattle.ot_layouts.specs.Numbers.{u16_at}
use Rattle.ot_layouts.specs.Coverage.{glyph_at, start_at, beside_at, end_at, size_at, list_fits, ranges_fit, indexed, cover_readable, kind_of, reading, coverage_of, cover_glyphs}
use Rattle.ot_layouts.specs.declared.Kind.{Kind}
use Rattle.ot_layouts.specs.declared.Header.{Header}
use Rattle.ot_layouts.proofs.RangesRead.{RangesRead, ranges_read, not_long}

-- ---- a list

pub record ListRead (b : List ℕ) (n : ℕ) : Type 0 where
  pub long : length b ≡ 4 + 2 * n
  pub rising : Rising (glyph_at b) (glyph_at b) n

module _ (b : List ℕ) (n : ℕ) where
  -- glyph k is above the one before it
  abbrev above : ℕ → Bool
  above k = leb (before (λ j. glyph_at b j + 1) k) (glyph_at b k)

  pub list_read : list_fits b n ≡ true → ListRead b n
  unfolding list_fits
  list_read h =
      let (l, a) = and_both (eqb (length b) (4 + 2 * n)) (all above n) h in
      record {
        long = eqb-true (length b) (4 + 2 * n) l;
        rising = record { above = λ k m. leb-true _ _ (all_at_lem above n a k m); ordered = λ k m. omega arith };
      }

  pub list_fits_lem : ListRead b n → list_fits b n ≡ true
  unfolding list_fits
  list_fits_lem r = and_intro _ _ (eq-eqb (length b) (4 + 2 * n) r.long) (all_intro above n (λ k l. le-leb _ _ (r.rising.above k l)))

  pub list_not_long : (length b ≡ 4 + 2 * n → ⊥) → list_fits b n ≡ false
  unfolding list_fits
  list_not_long h = and_first _ (all above n) (ne_eqb (length b) (4 + 2 * n) h)

  pub list_not-above : (k : ℕ) → k < n → glyph_at b k < before (λ j. glyph_at b j + 1) k → list_fits b n ≡ false
  unfolding list_fits
  list_not-above k l h = and_second (eqb (length b) (4 + 2 * n)) _ (all_fails above k n l (lt-leb _ _ h))

-- ---- start indices

-- each range is numbered by the glyphs before it
abbrev pub Indexed : List ℕ → ℕ → Type 0
Indexed b n = (k : ℕ) → k < n → beside_at b k ≡ sum (size_at b) k

module _ (b : List ℕ) (n : ℕ) where
  -- range k is
  abbrev counts : ℕ → Bool
  counts k = eqb (beside_at b k) (sum (size_at b) k)

  pub index_read : indexed b n ≡ true → Indexed b n
  unfolding indexed
  index_read h k l = eqb-true (beside_at b k) (sum (size_at b) k) (all_at_lem counts n h k l)

  pub index_fits : Indexed b n → indexed b n ≡ true
  unfolding indexed
  index_fits i = all_intro counts n (λ k l. eq-eqb (beside_at b k) (sum (size_at b) k) (i k l))

  pub not-counts : (k : ℕ) → k < n → (beside_at b k ≡ sum (size_at b) k → ⊥) → indexed b n ≡ false
  unfolding indexed
  not-counts k l h = all_fails counts k n l (ne_eqb (beside_at b k) (sum (size_at b) k) h)

pub index_more : (b : List ℕ) (n : ℕ) → Indexed b n → beside_at b n ≡ sum (size_at b) n → Indexed b (n + 1)
index_more b n i e k l = ⊎_elim (λ q. rw q e) (i k) (eq-or-lt_of_le (le_of_suc-le-suc (rw add-one at l)))

-- ---- its glyphs

-- the glyphs of range k
abbrev pub range_at : List ℕ → ℕ → List ℕ
range_at b k = run (start_at b k) (size_at b k)

module _ (b : List ℕ) where
  pub list_glyphs : u16_at b 0 ≡ 1 → cover_glyphs b ≡ upto (glyph_at b) (u16_at b 2)
  unfolding cover_glyphs
  list_glyphs f = rw (eq-eqb (u16_at b 0) 1 f)

  pub ranges_glyphs : u16_at b 0 ≡ 2 → cover_glyphs b ≡ flat (range_at b) (u16_at b 2)
  unfolding cover_glyphs
  ranges_glyphs f = rw (ne_eqb (u16_at b 0) 1 (omega arith))

  pub length_ranges : (n : ℕ) → length (flat (range_at b) n) ≡ sum (size_at b) n
  length_ranges n = length-flat (range_at b) n ∙ sum_same (λ k. length (range_at b k)) (size_at b) n (λ k l. length-upto (λ j. start_at b k + j) (size_at b k))

  -- rising ranges have no more glyphs than there are numbers up to their end
  pub sizes_under : (n : ℕ) → Rising (start_at b) (end_at b) n → sum (size_at b) n ≤ before (λ j. end_at b j + 1) n
  unfolding sum before
  sizes_under zero r = omega arith
  sizes_under (suc n) r =
      let i = sizes_under n (record { above = λ k l. r.above k (omega arith); ordered = λ k l. r.ordered k (omega arith) }) in
      omega (arith, r.above n (omega arith), r.ordered n (omega arith))

-- ---- a readable one

-- format 1, with n glyphs
pub record Listed (b : List ℕ) (n : ℕ) : Type 0 where
  pub format : u16_at b 0 ≡ 1
  pub count : n ≡ u16_at b 2
  pub read : ListRead b n
  pub glyphs : cover_glyphs b ≡ upto (glyph_at b) n

-- format 2, with n ranges
pub record Ranged (b : List ℕ) (n : ℕ) : Type 0 where
  pub format : u16_at b 0 ≡ 2
  pub count : n ≡ u16_at b 2
  pub read : RangesRead b n
  pub index : Indexed b n
  pub glyphs : cover_glyphs b ≡ flat (range_at b) n

module _ (b : List ℕ) (h : cover_readable b ≡ true) where
  listed : eqb (u16_at b 0) 1 ≡ true → Listed b (u16_at b 2)
  unfolding cover_readable
  listed one =
      let e = eqb-true (u16_at b 0) 1 one in
      record {
        format = e;
        count = refl;
        read = list_read b (u16_at b 2) (go (list_fits b (u16_at b 2)) (rw (one, ne_eqb (u16_at b 0) 2 (λ q. omega arith)) at h));
        glyphs = list_glyphs b e;
      }
    where
      go : (x : Bool) → x || false ≡ true → x ≡ true
      go true k = refl
      go false k = k

  ranged : eqb (u16_at b 0) 1 ≡ false → Ranged b (u16_at b 2)
  unfolding cover_readable
  ranged other =
      let k : (eqb (u16_at b 0) 2 && ranges_fit b (u16_at b 2) && indexed b (u16_at b 2)) ≡ true = rw other at h in
      let (f, i) = and_both (eqb (u16_at b 0) 2 && ranges_fit b (u16_at b 2)) (indexed b (u16_at b 2)) k in
      let (two, r) = and_both (eqb (u16_at b 0) 2) (ranges_fit b (u16_at b 2)) f in
      let e = eqb-true (u16_at b 0) 2 two in
      record { format = e; count = refl; read = ranges_read b (u16_at b 2) r; index = index_read b (u16_at b 2) i; glyphs = ranges_glyphs b e }

  pub either_format : Listed b (u16_at b 2) ⊎ Ranged b (u16_at b 2)
  either_format = by_test (eqb (u16_at b 0) 1) (λ e. inl (listed e)) (λ e. inr (ranged e))

-- ---- by its header

module _ (b : List ℕ) (h : Header) (r : coverage_of b ≡ Some h) where
  -- the test that was made, and the header
  pub header_read : (cover_readable b ≡ true) × (h ≡ record { kind = kind_of (u16_at b 0); count = u16_at b 2 })
  unfolding coverage_of
  header_read = go (cover_readable b) refl r
    where
      go : (t : Bool) → cover_readable b ≡ t → reading t (u16_at b 0) (u16_at b 2) ≡ Some h → (cover_readable b ≡ true) × (h ≡ record { kind = kind_of (u16_at b 0); count = u16_at b 2 })
      go true e q = (e, cc)
      go false e q = let z : ◌≡◌ {A = ℕ} 0 1 = cc in absurd (omega arith)

  pub header_count : h.count ≡ u16_at b 2
  header_count = ap (λ (x : Header). x.count) header_read.1

  pub header_list : h.kind ≡ Kind.List → Listed b h.count
  header_list e = subst (Listed b) (sym header_count) (by_test (eqb (u16_at b 0) 1) (listed b header_read.0) (λ o. absurd (other o)))
    where
      other : eqb (u16_at b 0) 1 ≡ false → ⊥
      other o =
          let k : h.kind ≡ Kind.Ranges = ap (λ (x : Header). x.kind) header_read.1 ∙ rw o in
          let z : ◌≡◌ {A = ℕ} 0 1 = cc in
          omega arith

  pub header_ranges : h.kind ≡ Kind.Ranges → Ranged b h.count
  header_ranges e = subst (Ranged b) (sym header_count) (by_test (eqb (u16_at b 0) 1) (λ o. absurd (other o)) (ranged b header_read.0))
    where
      other : eqb (u16_at b 0) 1 ≡ true → ⊥
      other o =
          let k : h.kind ≡ Kind.List = ap (λ (x : Header). x.kind) header_read.1 ∙ rw o in
          let z : ◌≡◌ {A = ℕ} 0 1 = cc in
          omega arith

-- ---- by the tests that a reader makes

module _ (b : List ℕ) where
  pub too_short_lem : length b < 4 → None ≡ coverage_of b
  unfolding coverage_of cover_readable
  too_short_lem h = rw (list_not_long b (u16_at b 2) (λ e. omega arith), not_long b (u16_at b 2) (λ e. omega arith)) (go (eqb (u16_at b 0) 1) (eqb (u16_at b 0) 2))
    where
      go : (x y : Bool) → None ≡ reading (x && false || y && false && indexed b (u16_at b 2)) (u16_at b 0) (u16_at b 2)
      go true true = refl
      go true false = refl
      go false true = refl
      go false false = refl

module _ (b : List ℕ) (f n : ℕ) (pf : f ≡ u16_at b 0) (pn : n ≡ u16_at b 2) where
  pub by_list : (t : Bool) → f ≡ 1 → t ≡ list_fits b n → cond t (Some (record { kind = Kind.List; count = n })) None ≡ coverage_of b
  unfolding coverage_of cover_readable
  by_list t e q = rw (← pf, ← pn, e, ← q) (go t)
    where
      go : (x : Bool) → cond x (Some (record { kind = Kind.List; count = n })) None ≡ reading (x || false) 1 n
      go true = refl
      go false = refl

  pub by_ranges : (t u : Bool) → f ≡ 2 → t ≡ ranges_fit b n → u ≡ indexed b n → cond (t && u) (Some (record { kind = Kind.Ranges; count = n })) None ≡ coverage_of b
  unfolding coverage_of cover_readable
  by_ranges t u e q r = rw (← pf, ← pn, e, q, r)

  pub by_none : (f ≡ 1 → ⊥) → (f ≡ 2 → ⊥) → None ≡ coverage_of b
  unfolding coverage_of cover_readable
  by_none one two = rw (← pf, ne_eqb f 1 one, ne_eqb f 2 two)
