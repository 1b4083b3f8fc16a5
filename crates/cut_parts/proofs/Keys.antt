-- Entries as numbers, by item and by glyph: the pairs of a range of items, put in order by glyph, are the range's entries. Assumes nothing.
use Prim.Native.Nat.{ℕ, ◌+◌, ◌*◌, ◌/◌, ◌%◌, ◌<◌, ◌≤◌}
use mathlib.Core.Path.{◌≡◌, refl, sym, ap, ap₂, ◌∙◌}
use mathlib.Core.Bool.{Bool, true, false, ◌&&◌}
use mathlib.Core.List.{List, [], ◌∷◌, map}
use native.Mathlib.Omega.{arith}
use lib.ListN.{length, get_or, get_or-map}
use lib.Dec.{leb, ltb}
use borrow.Author.Tests.{lt-leb, le-leb, lt-ltb, le-ltb}
use Rattle.folds.specs.Folds.{flat}
use Rattle.folds.specs.Lists.{sift, part}
use Rattle.folds.specs.Ascending.{ascending}
use Rattle.folds.proofs.Tests.{and_first, and_second, and_intro}
use Rattle.folds.proofs.Folds.{upto-cons}
use Rattle.folds.proofs.Moved.{length-map}
use Rattle.folds.proofs.Each.{Each, each_sift, each_then}
use Rattle.folds.proofs.Ascending.{Rises, Alike, ascending-only, ascending_alike, ascending-rises, length-ascending, rises_at, sift-ascending}
use Rattle.ot_layouts.specs.Coverage.{Entry, Ascends}
use Rattle.glyph_rules.specs.Entries.{within}
use Rattle.glyph_rules.proofs.Entries.{in_range, within_ascends}
use Rattle.glyph_sort.specs.Pairs.{keyed_at, pairs, keys_of, beside_of}
use Rattle.glyph_sort.specs.ByClass.{class_pairs, ByClass}
use Rattle.cut_parts.specs.Tables.{Halved}
use Rattle.cut_parts.specs.Order.{glyph_order, item_order}
use Rattle.cut_parts.proofs.Sifting.{sift-part, sift_agrees, sift-map, sift-many, part-map}

-- an entry as a number: by item
abbrev item_key : Entry → ℕ
item_key e = 65536 * e.class + e.glyph

-- and by glyph
abbrev glyph_key : Entry → ℕ
glyph_key e = 65536 * e.glyph + e.class

-- from the one to the other
abbrev turned : ℕ → ℕ
turned z = 65536 * (z % 65536) + z / 65536

-- glyphs and items of sixteen bits
abbrev pub Small : List Entry → Type 0
Small es = Each (λ e. (e.glyph < 65536) × (e.class < 65536)) es

pairs_maps : {A : Type 0} (f g : A → ℕ) (xs : List A) → pairs (map f xs) (map g xs) ≡ map (λ x. 65536 * f x + g x) xs
unfolding pairs keyed_at flat
pairs_maps f g [] = refl
pairs_maps f g (x ∷ xs) =
    upto-cons (keyed_at (map f (x ∷ xs)) (map g (x ∷ xs))) (length (map f xs)) ∙ ap (λ (l : List ℕ). (65536 * f x + g x) ∷ l) (pairs_maps f g xs)

pub small_within : (lo hi : ℕ) (es : List Entry) → Small es → Small (within lo hi es)
unfolding within
small_within lo hi es s = each_sift (λ e. (e.glyph < 65536) × (e.class < 65536)) (λ e. (e.glyph < 65536) × (e.class < 65536)) (in_range lo hi) (λ e h t. h) es s

-- ---- in order by glyph

rises_keys : (es : List Entry) (lo m : ℕ) → m ≤ 65536 * lo → Ascends lo es → Small es → Rises m (map glyph_key es)
rises_keys [] lo m h a s = tt
rises_keys (e ∷ es) lo m h a s =
    let l : lo ≤ e.glyph = a.0 in
    let c : e.class < 65536 = s.0.1 in
    (omega arith, rises_keys es (e.glyph + 1) (glyph_key e) (omega arith) a.1 s.1)

-- the entries' numbers by item, in order and turned, are those by glyph
alike_keys : (es : List Entry) → Small es → Alike (map glyph_key es) (map turned (ascending (map item_key es)))
alike_keys es s p =
    sift-many glyph_key p es
    ∙ ap length (sift_agrees (λ e. p (glyph_key e)) (λ e. p (turned (item_key e))) es (each_then (λ e. (e.glyph < 65536) × (e.class < 65536)) (λ e. p (glyph_key e) ≡ p (turned (item_key e))) (λ e h. ap p (same e h.0)) es s))
    ∙ sym (sift-many item_key (λ z. p (turned z)) es)
    ∙ sym (ascending_alike (map item_key es) (λ z. p (turned z)))
    ∙ sym (sift-many turned p (ascending (map item_key es)))
  where
    same : (e : Entry) → e.glyph < 65536 → glyph_key e ≡ turned (item_key e)
    same e h = omega arith

in_glyph_order : (es : List Entry) → Ascends 0 es → Small es → ascending (map turned (ascending (map item_key es))) ≡ map glyph_key es
in_glyph_order es a s = sym (ascending-only (map glyph_key es) (map turned (ascending (map item_key es))) (rises_keys es 0 0 (omega arith) a s) (alike_keys es s))

glyphs_back : (es : List Entry) → Small es → keys_of (map glyph_key es) ≡ map (λ e. e.glyph) es
unfolding keys_of
glyphs_back [] s = refl
glyphs_back (e ∷ es) s = let c : e.class < 65536 = s.0.1 in let q : glyph_key e / 65536 ≡ e.glyph = omega arith in ap₂ (λ (x : ℕ) (y : List ℕ). x ∷ y) q (glyphs_back es s.1)

items_back : (es : List Entry) → Small es → beside_of (map glyph_key es) ≡ map (λ e. e.class) es
unfolding beside_of
items_back [] s = refl
items_back (e ∷ es) s = let c : e.class < 65536 = s.0.1 in let q : glyph_key e % 65536 ≡ e.class = omega arith in ap₂ (λ (x : ℕ) (y : List ℕ). x ∷ y) q (items_back es s.1)

-- ---- a range of items

module _ (gs ks : List ℕ) (es : List Entry) (o : ByClass es gs ks) (up : Ascends 0 es) (small : Small es) where
  -- all in order by item
  abbrev zs : List ℕ
  zs = ascending (map item_key es)

  glyphs_are : gs ≡ map (λ z. z % 65536) zs
  unfolding beside_of class_pairs
  glyphs_are = o.glyphs ∙ ap (λ (x : List ℕ). beside_of (ascending x)) (pairs_maps (λ e. e.class) (λ e. e.glyph) es)

  items_are : ks ≡ map (λ z. z / 65536) zs
  unfolding keys_of class_pairs
  items_are = o.classes ∙ ap (λ (x : List ℕ). keys_of (ascending x)) (pairs_maps (λ e. e.class) (λ e. e.glyph) es)

  items_long : length ks ≡ length zs
  items_long = ap length items_are ∙ length-map (λ z. z / 65536) zs

  pub items_many : length ks ≡ length es
  items_many = items_long ∙ length-ascending (map item_key es) ∙ length-map item_key es

  pub glyphs_many : length gs ≡ length es
  glyphs_many = ap length glyphs_are ∙ length-map (λ z. z % 65536) zs ∙ length-ascending (map item_key es) ∙ length-map item_key es

  item_at_lem : (i : ℕ) → get_or ks i 0 ≡ get_or zs i 0 / 65536
  item_at_lem i = ap (λ (x : List ℕ). get_or x i 0) items_are ∙ get_or-map (λ z. z / 65536) zs i 0

  pub items_ascend : (i j : ℕ) → i ≤ j → j < length ks → get_or ks i 0 ≤ get_or ks j 0
  items_ascend i j h l =
      let r : get_or zs i 0 ≤ get_or zs j 0 = rises_at zs 0 i j (ascending-rises (map item_key es)) h (omega (arith, items_long)) in
      omega (arith, item_at_lem i, item_at_lem j)

  -- the item of a number lies in the range
  abbrev in_key : ℕ → ℕ → ℕ → Bool
  in_key lo hi z = leb lo (z / 65536) && ltb (z / 65536) hi

  module _ (lo hi a b : ℕ) (v : Halved ks lo a) (w : Halved ks hi b) (l : a ≤ b) where
    key_at_lem : (i : ℕ) (t : Bool) → leb lo (get_or ks i 0) && ltb (get_or ks i 0) hi ≡ t → in_key lo hi (get_or zs i 0) ≡ t
    key_at_lem i t h = ap (λ (k : ℕ). leb lo k && ltb k hi) (sym (item_at_lem i)) ∙ h

    range_part : sift (in_key lo hi) zs ≡ part zs a b
    range_part =
        let n = items_long in
        let q = w.inside in
        sift-part (in_key lo hi) zs 0 a b l (omega arith)
        (λ i m. key_at_lem i false (and_first _ _ (lt-leb lo (get_or ks i 0) (v.low i m))))
        (λ i m k. key_at_lem i true (and_intro _ _ (le-leb lo (get_or ks i 0) (v.high i m (omega arith))) (lt-ltb (get_or ks i 0) hi (w.low i k))))
        (λ i m k. key_at_lem i false (and_second (leb lo (get_or ks i 0)) _ (le-ltb (get_or ks i 0) hi (w.high i m (omega arith)))))

    range_keys : sift (in_key lo hi) (map item_key es) ≡ map item_key (within lo hi es)
    unfolding within
    range_keys =
        sift-map item_key (in_key lo hi) es
        ∙ ap (map item_key)
        (sift_agrees (λ e. in_key lo hi (item_key e)) (in_range lo hi) es
        (each_then (λ e. (e.glyph < 65536) × (e.class < 65536)) (λ e. in_key lo hi (item_key e) ≡ in_range lo hi e) (λ e h. ap (λ (k : ℕ). leb lo k && ltb k hi) (same e h.0)) es small))
      where
        same : (e : Entry) → e.glyph < 65536 → item_key e / 65536 ≡ e.class
        same e h = omega arith

    part_keys : part zs a b ≡ ascending (map item_key (within lo hi es))
    part_keys = sym range_part ∙ sift-ascending (in_key lo hi) (map item_key es) ∙ ap ascending range_keys

    part-pairs : pairs (part gs a b) (part ks a b) ≡ map turned (part zs a b)
    part-pairs =
        ap₂ (λ (x y : List ℕ). pairs (part x a b) (part y a b)) glyphs_are items_are
        ∙ ap₂ (λ (x y : List ℕ). pairs x y) (part-map (λ z. z % 65536) zs a b) (part-map (λ z. z / 65536) zs a b)
        ∙ pairs_maps (λ z. z % 65536) (λ z. z / 65536) (part zs a b)

    ordered : ascending (pairs (part gs a b) (part ks a b)) ≡ map glyph_key (within lo hi es)
    ordered =
        ap ascending (part-pairs ∙ ap (map turned) part_keys) ∙ in_glyph_order (within lo hi es) (within_ascends lo hi es 0 up) (small_within lo hi es small)

    pub range_glyphs : glyph_order gs ks a b ≡ map (λ e. e.glyph) (within lo hi es)
    range_glyphs = ap keys_of ordered ∙ glyphs_back (within lo hi es) (small_within lo hi es small)

    pub range_items : item_order gs ks a b ≡ map (λ e. e.class) (within lo hi es)
    range_items = ap beside_of ordered ∙ items_back (within lo hi es) (small_within lo hi es small)
