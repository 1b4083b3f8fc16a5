-- The pair reading goes by the item of the first glyph. Assumes nothing.
use Rattle.std.specs.Prelude.{Option, Some, None}
use Prim.Native.Nat.{ℕ, zero, suc, ◌+◌, ◌-◌, ◌*◌, ◌<◌, ◌≤◌}
use mathlib.Core.Path.{◌≡◌, refl, sym, ap, ◌∙◌}
use mathlib.Core.Bool.{Bool, true, false, cond, ◌&&◌}
use mathlib.Core.List.{List, [], ◌∷◌, map}
use mathlib.Core.Logic.{⊎_elim}
use native.Mathlib.Omega.{arith}
use native.Mathlib.Decide.{ℕ_discrete}
use lib.ListN.{get_or, length}
use lib.Dec.{eqb, leb, ltb}
use borrow.Author.Tests.{eq-eqb, ne_eqb, le-ltb, le-leb, lt-ltb}
use Rattle.folds.specs.Folds.{upto, flat}
use Rattle.folds.specs.Lists.{find, here, given, and_then, sift}
use Rattle.folds.proofs.Tests.{by_test, true_false, and_intro, either}
use Rattle.folds.proofs.Folds.{upto-cons, upto-same}
use Rattle.folds.proofs.FromTheFront.{upto_get_d}
use Rattle.ot_layouts.specs.Coverage.{Entry, cover_place, Ascends}
use Rattle.ot_layouts.specs.ClassDef.{class_of}
use Rattle.ot_layouts.specs.PairPos.{item_at, first_record, record_size, values_at, columns}
use Rattle.ot_layouts.proofs.RunStarts.{entry}
use Rattle.glyph_rules.specs.Entries.{within, reduced}
use Rattle.glyph_rules.proofs.Entries.{in_range}
use Rattle.store_rules.specs.Store.{Store, child_at, bytes_of, linked_bytes}
use Rattle.store_rules.proofs.Lookups.{mapped}
use Rattle.pair_rules.specs.Table.{shape, entries_of, glyphs_of}
use Rattle.pair_rules.specs.Pairs.{Spot, spot_of, spot1, spot2, pair_of, no_pair, pair_at}
use Rattle.pair_rules.proofs.Entries.{entries1, entries2}

-- ---- the item of a glyph

-- of the first entry with the glyph
unfoldable pub entry_of : List Entry → ℕ → Option ℕ
entry_of [] a = None
entry_of (e ∷ es) a = cond (eqb e.glyph a) (Some e.class) (entry_of es a)

entry_places : (h : ℕ → ℕ) (c n a : ℕ) → entry_of (upto (λ k. entry (h k) (c + k)) n) a ≡ mapped (λ i. c + i) (find (upto h n) a)
unfolding entry_of find flat
entry_places h c zero a = refl
entry_places h c (suc n) a =
    ap (λ (x : List Entry). entry_of x a) (upto-cons (λ k. entry (h k) (c + k)) n)
    ∙ ap (λ (o : Option ℕ). cond (eqb (h 0) a) (Some (c + 0)) o)
    (ap (λ (x : List Entry). entry_of x a) (upto-same (λ k. entry (h (suc k)) (c + suc k)) (λ k. entry (h (suc k)) (suc c + k)) n (λ k l. let z : c + suc k ≡ suc c + k = omega arith in ap (entry (h (suc k))) z))
    ∙ entry_places (λ k. h (suc k)) (suc c) n a)
    ∙ go (eqb (h 0) a) (find (upto (λ k. h (suc k)) n) a)
    ∙ sym (ap (λ (x : List ℕ). mapped (λ i. c + i) (find x a)) (upto-cons h n))
  where
    go : (b : Bool) (o : Option ℕ) → cond b (Some (c + 0)) (mapped (λ i. suc c + i) o) ≡ mapped (λ i. c + i) (here b o)
    go true o = refl
    go false None = refl
    go false (Some i) = let z : suc c + i ≡ c + suc i = omega arith in ap Some z

entry_map : (f : ℕ → ℕ) (gs : List ℕ) (a : ℕ) → entry_of (map (λ g. entry g (f g)) gs) a ≡ mapped (λ i. f a) (find gs a)
unfolding entry_of find
entry_map f [] a = refl
entry_map f (g ∷ gs) a = go (ℕ_discrete g a) (entry_map f gs a)
  where
    deep : (o : Option ℕ) → mapped (λ i. f a) o ≡ mapped (λ i. f a) (here false o)
    deep None = refl
    deep (Some i) = refl

    go : Dec (g ≡ a) → entry_of (map (λ g. entry g (f g)) gs) a ≡ mapped (λ i. f a) (find gs a)
        → cond (eqb g a) (Some (f g)) (entry_of (map (λ g. entry g (f g)) gs) a) ≡ mapped (λ i. f a) (here (eqb g a) (find gs a))
    go (yes e) i = rw (eq-eqb g a e, e)
    go (no e) i = rw (ne_eqb g a e) (i ∙ deep (find gs a))

entry_below : (es : List Entry) (lo a : ℕ) → Ascends lo es → a < lo → entry_of es a ≡ None
unfolding entry_of
entry_below [] lo a up h = refl
entry_below (e ∷ es) lo a up h = let b : lo ≤ e.glyph = up.0 in rw (ne_eqb e.glyph a (λ z. omega arith)) (entry_below es (e.glyph + 1) a up.1 (omega arith))

-- where the item lies in the range, less its first
abbrev pub reduce : ℕ → ℕ → ℕ → Option ℕ
reduce lo hi i = given (leb lo i && ltb i hi) (i - lo)

pub entry_ranged : (es : List Entry) (from lo hi a : ℕ) → Ascends from es → entry_of (reduced lo (within lo hi es)) a ≡ and_then (entry_of es a) (reduce lo hi)
unfolding entry_of within sift and_then
entry_ranged [] from lo hi a up = refl
entry_ranged (e ∷ es) from lo hi a up = go (ℕ_discrete e.glyph a) (in_range lo hi e) refl (entry_ranged es (e.glyph + 1) lo hi a up.1)
  where
    go : Dec (e.glyph ≡ a) → (b : Bool) → in_range lo hi e ≡ b → entry_of (reduced lo (sift (in_range lo hi) es)) a ≡ and_then (entry_of es a) (reduce lo hi)
        → entry_of (reduced lo (cond b (e ∷ sift (in_range lo hi) es) (sift (in_range lo hi) es))) a ≡ and_then (cond (eqb e.glyph a) (Some e.class) (entry_of es a)) (reduce lo hi)
    go (yes z) true h i = rw (eq-eqb e.glyph a z, h)
    go (yes z) false h i = rw (eq-eqb e.glyph a z, h) (i ∙ ap (λ (o : Option ℕ). and_then o (reduce lo hi)) (entry_below es (e.glyph + 1) a up.1 (omega arith)))
    go (no z) true h i = rw (ne_eqb e.glyph a z) i
    go (no z) false h i = rw (ne_eqb e.glyph a z) i

-- ---- a spot by its item

-- the pair's values in the set of item i
unfoldable pub set_spot : Store → ℕ → ℕ → ℕ → Option Spot
set_spot s t b i =
    and_then (given (ltb i (shape s t).count) (item_at (shape s t) i)) λ q.
    and_then (child_at s t q) λ c.
    and_then (first_record (bytes_of s c) (record_size (bytes_of s t)) b) λ r.
    Some (record { object = c; at = values_at (record_size (bytes_of s t)) r })

-- and in the row of item i
unfoldable pub row_spot : Store → ℕ → ℕ → ℕ → Option Spot
row_spot s t b i =
    given (ltb i (shape s t).count && ltb (class_of (linked_bytes s t 10) b) (columns (bytes_of s t)))
    (record { object = t; at = (shape s t).header + record_size (bytes_of s t) * (i * columns (bytes_of s t) + class_of (linked_bytes s t 10) b) })

-- in either format
abbrev pub item_spot : Store → ℕ → ℕ → ℕ → Option Spot
item_spot s t b i = cond (eqb (shape s t).format 1) (set_spot s t b i) (row_spot s t b i)

then_mapped : {A : Type 0} (f : ℕ → ℕ) (o : Option ℕ) (h : ℕ → Option A) → and_then (mapped f o) h ≡ and_then o (λ k. h (f k))
unfolding and_then
then_mapped f None h = refl
then_mapped f (Some k) h = refl

pub spot_by_item : (s : Store) (t a b : ℕ) → spot_of s t a b ≡ and_then (entry_of (entries_of s t) a) (item_spot s t b)
unfolding spot_of spot1 spot2 cover_place set_spot row_spot
spot_by_item s t a b =
    by_test (eqb (shape s t).format 1)
    (λ e. ap (λ (c : Bool). cond c (spot1 s t a b) (spot2 s t a b)) e
    ∙ sym (ap (λ (o : Option ℕ). and_then o (set_spot s t b)) (ap (λ (x : List Entry). entry_of x a) (entries1 s t e) ∙ places))
    ∙ sym (ap (λ (c : Bool). and_then (entry_of (entries_of s t) a) (λ i. cond c (set_spot s t b i) (row_spot s t b i))) e))
    (λ e. ap (λ (c : Bool). cond c (spot1 s t a b) (spot2 s t a b)) e
    ∙ sym (ap (λ (o : Option ℕ). and_then o (row_spot s t b)) (ap (λ (x : List Entry). entry_of x a) (entries2 s t e) ∙ entry_map (class_of (linked_bytes s t 8)) (glyphs_of s t) a)
    ∙ then_mapped (λ k. class_of (linked_bytes s t 8) a) (find (glyphs_of s t) a) (row_spot s t b))
    ∙ sym (ap (λ (c : Bool). and_then (entry_of (entries_of s t) a) (λ i. cond c (set_spot s t b i) (row_spot s t b i))) e))
  where
    same : (o : Option ℕ) → mapped (λ i. 0 + i) o ≡ o
    same None = refl
    same (Some i) = let z : 0 + i ≡ i = omega arith in ap Some z

    places : entry_of (upto (λ k. entry (get_or (glyphs_of s t) k 0) k) (length (glyphs_of s t))) a ≡ find (glyphs_of s t) a
    places =
        ap (λ (x : List Entry). entry_of x a) (upto-same (λ k. entry (get_or (glyphs_of s t) k 0) k) (λ k. entry (get_or (glyphs_of s t) k 0) (0 + k)) (length (glyphs_of s t)) (λ k l. let z : k ≡ 0 + k = omega arith in ap (entry (get_or (glyphs_of s t) k 0)) z))
        ∙ entry_places (λ k. get_or (glyphs_of s t) k 0) 0 (length (glyphs_of s t)) a
        ∙ same (find (upto (λ k. get_or (glyphs_of s t) k 0) (length (glyphs_of s t))) a)
        ∙ ap (λ (x : List ℕ). find x a) (upto_get_d (glyphs_of s t) 0)

-- ---- items that are looked for

-- the item lies in the range
abbrev pub lies : ℕ → ℕ → Option ℕ → Bool
lies lo hi None = false
lies lo hi (Some i) = leb lo i && ltb i hi

pub pair_found : (s : Store) (t a b : ℕ) → (pair_of s t a b).found ≡ false → pair_of s t a b ≡ no_pair
unfolding pair_of pair_at
pair_found s t a b h = go (spot_of s t a b) h
  where
    go : (o : Option Spot) → (pair_at s t o).found ≡ false → pair_at s t o ≡ no_pair
    go None h = refl
    go (Some p) h = true_false h

-- past the last item there is no pair
spot_past : (s : Store) (t b i : ℕ) → (shape s t).count ≤ i → item_spot s t b i ≡ None
unfolding set_spot row_spot and_then
spot_past s t b i h =
    let z : ltb i (shape s t).count ≡ false = le-ltb i (shape s t).count h in
    by_test (eqb (shape s t).format 1)
    (λ e. ap (λ (c : Bool). cond c (set_spot s t b i) (row_spot s t b i)) e ∙ rw z)
    (λ e. ap (λ (c : Bool). cond c (set_spot s t b i) (row_spot s t b i)) e ∙ rw z)

pub pair_item : (s : Store) (t a b : ℕ) → lies 0 (shape s t).count (entry_of (entries_of s t) a) ≡ false → pair_of s t a b ≡ no_pair
unfolding pair_of and_then pair_at
pair_item s t a b h = ap (pair_at s t) (spot_by_item s t a b) ∙ go (entry_of (entries_of s t) a) h
  where
    go : (o : Option ℕ) → lies 0 (shape s t).count o ≡ false → pair_at s t (and_then o (item_spot s t b)) ≡ no_pair
    go None k = refl
    go (Some i) k = ap (pair_at s t) (spot_past s t b i (⊎_elim (λ lt. true_false (sym (and_intro (leb 0 i) (ltb i (shape s t).count) (le-leb 0 i (omega arith)) (lt-ltb i (shape s t).count lt)) ∙ k)) (λ ge. ge) (either i (shape s t).count)))
