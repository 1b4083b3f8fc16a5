-- A table of a range of the old table's items, as it stands in another store, and what it shares with the old table. Assumes nothing.
use Rattle.std.specs.Prelude.{Some}
use Prim.Native.Nat.{ℕ, ◌+◌, ◌-◌, ◌*◌, ◌<◌, ◌≤◌, min}
use mathlib.Core.Path.{◌≡◌, refl, sym, ap, ap₂, ◌∙◌}
use mathlib.Core.Bool.{Bool, true, false, cond}
use mathlib.Core.List.{List, [], ◌∷◌, map}
use mathlib.Core.Logic.{◌⊎◌, inl, inr}
use native.Mathlib.Omega.{arith}
use lib.ListN.{length, get_or}
use lib.Dec.{eqb}
use Rattle.folds.specs.Folds.{upto}
use Rattle.folds.proofs.Tests.{by_test}
use Rattle.folds.proofs.Folds.{length-upto, upto-same}
use Rattle.folds.proofs.FromTheFront.{upto-at}
use Rattle.folds.proofs.Moved.{map-upto}
use Rattle.ot_layouts.specs.Numbers.{u16_at}
use Rattle.ot_layouts.specs.Coverage.{coverage_bytes, Entry, cover_glyphs, Ascends}
use Rattle.ot_layouts.specs.ClassDef.{class_def_bytes, class_of, class_in}
use Rattle.ot_layouts.specs.PairPos.{own_in, shared_in, item_at, format_of, value1, value2, columns, record_size, shape_of, shape1, shape2, Shape}
use Rattle.ot_layouts.proofs.Runs.{ascends_sift}
use Rattle.ot_layouts.proofs.CoverageRoundTrip.{cover_back}
use Rattle.ot_layouts.proofs.ClassDefRoundTrip.{class_back}
use Rattle.ot_layouts.proofs.RunStarts.{entry}
use Rattle.ot_layouts.proofs.Shapes.{record_same, recount, slots_same}
use Rattle.ot_layouts.proofs.Octets.{u16_same}
use Rattle.ot_layouts.proofs.Entries.{ascends_plain, agrees_map, agrees_self}
use Rattle.store_rules.specs.Store.{Store, bytes_of, child_at, linked_bytes}
use Rattle.glyph_rules.specs.Entries.{within, reduced}
use Rattle.pair_rules.specs.Table.{shape, entries_of, glyphs_of}
use Rattle.store_rules.proofs.Lookups.{linked_some}
use Rattle.glyph_rules.proofs.Entries.{in_range, ascends_reduced, reduced_glyphs, within_upto}
use Rattle.pair_rules.proofs.Entries.{entries2, entries1}

-- object u of s' is the table of items lo up to hi of table t of s
pub record View (s : Store) (t : ℕ) (s' : Store) (u lo hi : ℕ) : Type 0 where
  -- a range of items
  pub low : lo ≤ hi
  pub high : hi ≤ (shape s t).count
  -- as long as header and count say
  pub long : length (bytes_of s' u) ≡ (shape s t).header + (shape s t).item * (hi - lo)
  pub counted : u16_at (bytes_of s' u) (shape s t).count_at ≡ hi - lo
  -- format and value formats are the old ones, and class2Count
  pub same : (i : ℕ) → (i < 2) ⊎ ((4 ≤ i) × (i < 8)) → get_or (bytes_of s' u) i 0 ≡ get_or (bytes_of s t) i 0
  pub wide : eqb (shape s t).format 1 ≡ false → (i : ℕ) → 14 ≤ i → i < 16 → get_or (bytes_of s' u) i 0 ≡ get_or (bytes_of s t) i 0
  -- the rows of the range, and the links of its items
  pub rows : eqb (shape s t).format 1 ≡ false → (i : ℕ) → (shape s t).header ≤ i → i + (shape s t).item * lo < item_at (shape s t) hi → get_or (bytes_of s' u) i 0 ≡ get_or (bytes_of s t) (i + (shape s t).item * lo) 0
  pub links : (q : ℕ) → (shape s t).header ≤ q → q + (shape s t).item * lo < item_at (shape s t) hi → child_at s' u q ≡ child_at s t (q + (shape s t).item * lo)
  -- a new coverage and class definition 1, and the old class definition 2
  pub cover : (c : ℕ) × (s.object_count ≤ c) × (child_at s' u 2 ≡ Some c) × (bytes_of s' c ≡ coverage_bytes (map (λ e. e.glyph) (within lo hi (entries_of s t))))
  pub class1 : eqb (shape s t).format 1 ≡ false → (c : ℕ) × (s.object_count ≤ c) × (child_at s' u 8 ≡ Some c) × (bytes_of s' c ≡ class_def_bytes (reduced lo (within lo hi (entries_of s t))))
  pub class2 : eqb (shape s t).format 1 ≡ false → (c : ℕ) × (child_at s' u 10 ≡ Some c) × (child_at s t 10 ≡ Some c) × (bytes_of s' c ≡ bytes_of s c)

-- ---- its shape is the old one with another count

module _ {s : Store} {t : ℕ} {s' : Store} {u lo hi : ℕ} (v : View s t s' u lo hi) where
  pub view_format : format_of (bytes_of s' u) ≡ format_of (bytes_of s t)
  view_format = u16_same (bytes_of s' u) (bytes_of s t) 0 0 (v.same 0 (inl (omega arith))) (v.same 1 (inl (omega arith)))

  pub view_value1 : value1 (bytes_of s' u) ≡ value1 (bytes_of s t)
  view_value1 = u16_same (bytes_of s' u) (bytes_of s t) 4 4 (v.same 4 (inr (omega arith, omega arith))) (v.same 5 (inr (omega arith, omega arith)))

  pub view_value2 : value2 (bytes_of s' u) ≡ value2 (bytes_of s t)
  view_value2 = u16_same (bytes_of s' u) (bytes_of s t) 6 6 (v.same 6 (inr (omega arith, omega arith))) (v.same 7 (inr (omega arith, omega arith)))

  pub view_columns : eqb (shape s t).format 1 ≡ false → columns (bytes_of s' u) ≡ columns (bytes_of s t)
  view_columns two = u16_same (bytes_of s' u) (bytes_of s t) 14 14 (v.wide two 14 (omega arith) (omega arith)) (v.wide two 15 (omega arith) (omega arith))

  pub view_record : record_size (bytes_of s' u) ≡ record_size (bytes_of s t)
  view_record = record_same (bytes_of s' u) (bytes_of s t) view_value1 view_value2

  pub view_shape : shape s' u ≡ recount (shape s t) (hi - lo)
  unfolding shape_of shape1 shape2
  view_shape = go (eqb (format_of (bytes_of s t)) 1) refl v.counted view_columns
    where
      go : (b : Bool) → eqb (format_of (bytes_of s t)) 1 ≡ b → u16_at (bytes_of s' u) (cond b (shape1 (bytes_of s t)) (shape2 (bytes_of s t))).count_at ≡ hi - lo
          → (eqb (cond b (shape1 (bytes_of s t)) (shape2 (bytes_of s t))).format 1 ≡ false → columns (bytes_of s' u) ≡ columns (bytes_of s t))
          → shape_of (bytes_of s' u) ≡ recount (cond b (shape1 (bytes_of s t)) (shape2 (bytes_of s t))) (hi - lo)
      go true e c w = rw (view_format, e) (λ i. record { format = 1; header = 10; own = own_in 1; shared = shared_in 1; count_at = 8; count = c i; item = 2; unit = 2; slots = 0 ∷ [] })
      go false e c w =
          rw (view_format, e)
          (λ i. record {
            format = 2;
            header = 16;
            own = own_in 2;
            shared = shared_in 2;
            count_at = 12;
            count = c i;
            item = view_record i * w refl i;
            unit = view_record i;
            slots = slots_same (bytes_of s' u) (bytes_of s t) view_value1 view_value2 i;
          })

-- ---- its entries are the old ones of the range, reduced

module _ {s : Store} {t : ℕ} {s' : Store} {u lo hi : ℕ} (v : View s t s' u lo hi) (up : Ascends 0 (entries_of s t)) where
  -- its entries
  abbrev pub renumbered : List Entry
  renumbered = reduced lo (within lo hi (entries_of s t))

  pub within_up : Ascends 0 (within lo hi (entries_of s t))
  unfolding within
  within_up = ascends_sift (in_range lo hi) (entries_of s t) 0 up

  pub renumbered_up : Ascends 0 renumbered
  renumbered_up = ascends_reduced lo (within lo hi (entries_of s t)) 0 within_up

  pub view_glyphs : glyphs_of s' u ≡ map (λ e. e.glyph) (within lo hi (entries_of s t))
  view_glyphs =
      let (c, n, e, f) = v.cover in
      ap cover_glyphs (linked_some s' u 2 c e ∙ f)
      ∙ cover_back (map (λ e. e.glyph) (within lo hi (entries_of s t))) (ascends_plain (within lo hi (entries_of s t)) 0 within_up)

  pub view_class : eqb (shape s t).format 1 ≡ false → (g : ℕ) → class_of (linked_bytes s' u 8) g ≡ class_in renumbered g
  view_class two g = let (c, n, e, f) = v.class1 two in ap (λ (b : List ℕ). class_of b g) (linked_some s' u 8 c e ∙ f) ∙ class_back renumbered 0 g renumbered_up

  pub view_test : eqb (shape s' u).format 1 ≡ eqb (shape s t).format 1
  view_test = ap (λ (sh : Shape). eqb sh.format 1) (view_shape v)

  pub view_entries : entries_of s' u ≡ renumbered
  view_entries = by_test (eqb (shape s t).format 1) one two
    where
      two : eqb (shape s t).format 1 ≡ false → entries_of s' u ≡ renumbered
      two e = entries2 s' u (view_test ∙ e) ∙ ap₂ (λ (f : ℕ → ℕ) (gs : List ℕ). map (λ g. entry g (f g)) gs) (λ i g. view_class e g i) (view_glyphs ∙ sym (reduced_glyphs lo (within lo hi (entries_of s t))))
          ∙ agrees_map (class_in renumbered) renumbered (agrees_self renumbered 0 renumbered_up)

      one : eqb (shape s t).format 1 ≡ true → entries_of s' u ≡ renumbered
      one e =
          let gs = glyphs_of s t in
          let m = min (length gs) hi - lo in
          let w : within lo hi (entries_of s t) ≡ upto (λ k. entry (get_or gs (lo + k) 0) (lo + k)) m = ap (within lo hi) (entries1 s t e) ∙ within_upto (λ k. get_or gs k 0) lo hi (length gs) in
          let G : glyphs_of s' u ≡ upto (λ k. get_or gs (lo + k) 0) m = view_glyphs ∙ ap (map (λ (e : Entry). e.glyph)) w ∙ map-upto (λ (e : Entry). e.glyph) (λ k. entry (get_or gs (lo + k) 0) (lo + k)) m in
          entries1 s' u (view_test ∙ e)
          ∙ ap (λ (x : List ℕ). upto (λ k. entry (get_or x k 0) k) (length x)) G
          ∙ ap (λ (n : ℕ). upto (λ k. entry (get_or (upto (λ k. get_or gs (lo + k) 0) m) k 0) k) n) (length-upto (λ k. get_or gs (lo + k) 0) m)
          ∙ upto-same (λ k. entry (get_or (upto (λ k. get_or gs (lo + k) 0) m) k 0) k) (λ k. entry (get_or gs (lo + k) 0) (lo + k - lo)) m
          (λ k l. let z : k ≡ lo + k - lo = omega arith in ap₂ entry (upto-at (λ k. get_or gs (lo + k) 0) m k 0 l) z)
          ∙ sym (map-upto (λ (e : Entry). entry e.glyph (e.class - lo)) (λ k. entry (get_or gs (lo + k) 0) (lo + k)) m)
          ∙ ap (reduced lo) (sym w)
