-- How long the parts of a table of a range are: coverage and class definition 1 as written, and class definition 2 as it was. Assumes nothing.
use Rattle.std.specs.Prelude.{Option, Some, unwrap_or}
use Prim.Native.Nat.{ℕ, ◌+◌, ◌-◌, ◌*◌, ◌≤◌, min}
use mathlib.Core.Path.{◌≡◌, sym, ap, ◌∙◌}
use mathlib.Core.Bool.{true, false}
use mathlib.Core.List.{List, ◌++◌, map}
use native.Mathlib.Omega.{arith}
use lib.ListN.{length, get_or}
use lib.Dec.{eqb}
use Rattle.folds.specs.Folds.{upto}
use Rattle.folds.proofs.Folds.{length-upto, upto-same}
use Rattle.folds.proofs.FromTheFront.{upto_get_d}
use Rattle.folds.proofs.Moved.{map-upto}
use Rattle.folds.proofs.TwoParts.{upto_split}
use Rattle.ot_layouts.specs.Coverage.{Entry, coverage_bytes}
use Rattle.ot_layouts.specs.ClassDef.{class_def_bytes}
use Rattle.ot_layouts.proofs.CoverageLength.{cover_length, cover_within}
use Rattle.ot_layouts.proofs.RunStarts.{entry}
use Rattle.store_rules.specs.Store.{Store, bytes_of, child_at, size_of, linked_at, linked_bytes}
use Rattle.store_rules.proofs.Sound.{Fits, size_bytes}
use Rattle.store_rules.proofs.Lookups.{child_used_lem, linked_some}
use Rattle.glyph_rules.specs.Entries.{within, reduced}
use Rattle.glyph_rules.proofs.Entries.{within_upto}
use Rattle.pair_rules.specs.Table.{shape, entries_of, glyphs_of}
use Rattle.pair_rules.specs.Written.{split_store}
use Rattle.pair_rules.proofs.Checks.{cover_read}
use Rattle.pair_rules.proofs.Entries.{entries1}
use Rattle.pair_after.proofs.Ready.{Ready}
use Rattle.pair_after.proofs.View.{View}
use Rattle.pair_after.proofs.SoundThen.{fits_then_lem}

-- the length of a linked object
linked_size : (s : Store) → Fits s → (u q c : ℕ) → child_at s u q ≡ Some c → size_of s (linked_at s u q) ≡ length (bytes_of s c)
linked_size s f u q c e = ap (λ (o : Option ℕ). size_of s (unwrap_or o 0)) e ∙ sym (size_bytes s f c (child_used_lem s u f q c e))

module _ (s : Store) (t : ℕ) (cs : List ℕ) (g : Ready s t cs) {u lo hi : ℕ} (v : View s t (split_store s t cs) u lo hi) where
  abbrev s' : Store
  s' = split_store s t cs

  -- the covered glyphs with their items
  abbrev es : List Entry
  es = within lo hi (entries_of s t)

  pub cover_size_lem : size_of s' (linked_at s' u 2) ≡ length (coverage_bytes (map (λ e. e.glyph) (within lo hi (entries_of s t))))
  cover_size_lem = let (c, n, e, f) = v.cover in linked_size s' (fits_then_lem s t cs g) u 2 c e ∙ ap length f

  pub class1_size : eqb (shape s t).format 1 ≡ false → size_of s' (linked_at s' u 8) ≡ length (class_def_bytes (reduced lo (within lo hi (entries_of s t))))
  class1_size two = let (c, n, e, f) = v.class1 two in linked_size s' (fits_then_lem s t cs g) u 8 c e ∙ ap length f

  pub class2_size : eqb (shape s t).format 1 ≡ false → size_of s' (linked_at s' u 10) ≡ size_of s (linked_at s t 10)
  class2_size two =
      let (c, x, y, z) = v.class2 two in
      linked_size s' (fits_then_lem s t cs g) u 10 c x ∙ ap length z ∙ sym (linked_size s g.fit t 10 c y)

  -- ---- format 1

  module _ (one : eqb (shape s t).format 1 ≡ true) where
    abbrev gs : List ℕ
    gs = glyphs_of s t

    -- how many glyphs the range has
    abbrev m : ℕ
    m = min (length (glyphs_of s t)) hi - lo

    range_glyphs : map (λ e. e.glyph) es ≡ upto (λ k. get_or gs (lo + k) 0) m
    range_glyphs =
        ap (λ (x : List Entry). map (λ (e : Entry). e.glyph) (within lo hi x)) (entries1 s t one)
        ∙ ap (map (λ (e : Entry). e.glyph)) (within_upto (λ k. get_or gs k 0) lo hi (length gs))
        ∙ map-upto (λ (e : Entry). e.glyph) (λ k. entry (get_or gs (lo + k) 0) (lo + k)) m

    -- no more glyphs than items
    pub cover_most : size_of s' (linked_at s' u 2) ≤ 4 + 2 * (hi - lo)
    cover_most =
        omega (
          arith,
          cover_size_lem,
          (cover_length (map (λ (e : Entry). e.glyph) es)).1,
          ap length range_glyphs,
          length-upto (λ k. get_or gs (lo + k) 0) m,
        )

    -- they stand among the old table's, so the coverage is no longer than it was
    pub cover_less : size_of s' (linked_at s' u 2) ≤ size_of s (linked_at s t 2)
    cover_less =
        let n = length gs in
        let a = min n lo in
        let r = n - (a + m) in
        let h : ℕ → ℕ = λ k. get_or gs k 0 in
        let parted : n ≡ a + m + r = omega arith in
        let middle : upto (λ k. h (a + k)) m ≡ map (λ (e : Entry). e.glyph) es
        = upto-same (λ k. h (a + k)) (λ k. h (lo + k)) m (λ k l. ap h (omega arith)) ∙ sym range_glyphs in
        let whole : gs ≡ upto h a ++ map (λ (e : Entry). e.glyph) es ++ upto (λ k. h (a + m + k)) r
        = sym (upto_get_d gs 0) ∙ ap (upto h) parted ∙ upto_split h (a + m) r
        ∙ ap (λ (x : List ℕ). x ++ upto (λ k. h (a + m + k)) r) (upto_split h a m ∙ ap (λ (x : List ℕ). upto h a ++ x) middle) in
        let (d, z) = g.parts.cover in
        omega (
          arith,
          cover_size_lem,
          linked_size s g.fit t 2 d z,
          ap length (linked_some s t 2 d z),
          cover_within (linked_bytes s t 2) (upto h a) (map (λ (e : Entry). e.glyph) es) (upto (λ k. h (a + m + k)) r) (cover_read s t g.reads.parts) whole,
        )
