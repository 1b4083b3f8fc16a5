-- The glyphs of a class stand together in the order by class, from the place of the first glyph whose class is no lower. Assumes nothing.
use Prim.Native.Nat.{ℕ, zero, suc, ◌+◌, ◌-◌, ◌*◌, ◌/◌, ◌%◌, ◌<◌, ◌≤◌}
use mathlib.Core.Path.{◌≡◌, refl, sym, ap, ap₂, ◌∙◌}
use mathlib.Core.Bool.{Bool, true, false, cond, ◌&&◌}
use mathlib.Core.List.{List, [], ◌∷◌, ◌++◌, map}
use mathlib.Core.Logic.{⊎_elim}
use native.Mathlib.Omega.{arith}
use lib.Dec.{leb, ltb, eqb}
use lib.ListN.{length, take, drop, get_or, length-map, length-append, get_or-map, get_or-append}
use lib.Seq.{get_or-append-add}
use borrow.Author.Tests.{le-leb, lt-leb, lt-ltb, le-ltb, eq-eqb, ne_eqb, leb-true, ltb-true}
use Rattle.folds.specs.Folds.{flat}
use Rattle.folds.specs.Lists.{sift, part}
use Rattle.folds.specs.Ascending.{ascending}
use Rattle.folds.proofs.Tests.{either, and_both, and_intro, by_test}
use Rattle.folds.proofs.Folds.{upto-cons}
use Rattle.folds.proofs.Each.{Each, each_at}
use Rattle.folds.proofs.Moved.{sift-both}
use Rattle.folds.proofs.Ascending.{Rises, ascending-rises, ascending_alike, ascending_again, length-ascending}
use Rattle.ot_layouts.specs.Coverage.{Entry, Ascends, Under}
use Rattle.ot_layouts.proofs.Runs.{ascends_sift, under_sift}
use Rattle.glyph_rules.specs.Entries.{within}
use Rattle.glyph_sort.specs.Pairs.{keyed_at, pairs, keys_of, beside_of}
use Rattle.glyph_sort.specs.ByClass.{class_pairs, ByClass}
use Rattle.glyph_sort.proofs.Between.{parted, key_part}
use Rattle.glyph_class_parts.specs.ClassParts.{start_of, ClassEnd}

-- ---- lists

module _ {A B : Type 0} (f : A → B) where
  map-take : (n : ℕ) (xs : List A) → take n (map f xs) ≡ map f (take n xs)
  map-take zero xs = refl
  map-take (suc n) [] = refl
  map-take (suc n) (x ∷ xs) = ap {B = List B} (λ (l : List B). f x ∷ l) (map-take n xs)

  map-drop : (n : ℕ) (xs : List A) → drop n (map f xs) ≡ map f (drop n xs)
  map-drop zero xs = refl
  map-drop (suc n) [] = refl
  map-drop (suc n) (x ∷ xs) = map-drop n xs

  map-part : (xs : List A) (lo hi : ℕ) → part (map f xs) lo hi ≡ map f (part xs lo hi)
  map-part xs lo hi = ap (take (hi - lo)) (map-drop lo xs) ∙ map-take (hi - lo) (drop lo xs)

  sift-map : (p : B → Bool) (xs : List A) → sift p (map f xs) ≡ map f (sift (λ x. p (f x)) xs)
  unfolding sift
  sift-map p [] = refl
  sift-map p (x ∷ xs) = go (p (f x)) (sift-map p xs)
    where
      go : (b : Bool) → sift p (map f xs) ≡ map f (sift (λ x. p (f x)) xs) → cond b (f x ∷ sift p (map f xs)) (sift p (map f xs)) ≡ map f (cond b (x ∷ sift (λ x. p (f x)) xs) (sift (λ x. p (f x)) xs))
      go true h = ap {B = List B} (λ (l : List B). f x ∷ l) h
      go false h = h

module _ {A : Type 0} where
  each_passes : (p : A → Bool) (xs : List A) → Each (λ x. p x ≡ true) (sift p xs)
  unfolding sift
  each_passes p [] = tt
  each_passes p (x ∷ xs) = by_test (p x) (λ e. rw e (e, each_passes p xs)) (λ e. rw e (each_passes p xs))

  sift_fewer : (p q : A → Bool) → ((x : A) → p x ≡ true → q x ≡ true) → (xs : List A) → length (sift p xs) ≤ length (sift q xs)
  unfolding sift
  sift_fewer p q h [] = omega arith
  sift_fewer p q h (x ∷ xs) =
      let n = sift_fewer p q h xs in
      by_test (p x)
      (λ e. rw (e, h x e) (omega arith))
      (λ e. rw e (by_test (q x) (λ f. rw f (omega arith)) (λ f. rw f (omega arith))))

-- ---- entries as pairs

-- class and glyph as one number
abbrev pair_of : Entry → ℕ
pair_of e = 65536 * e.class + e.glyph

pairs_map : (es : List Entry) → pairs (map (λ e. e.class) es) (map (λ e. e.glyph) es) ≡ map pair_of es
unfolding pairs keyed_at flat
pairs_map [] = refl
pairs_map (e ∷ es) =
    upto-cons (keyed_at (map (λ e. e.class) (e ∷ es)) (map (λ e. e.glyph) (e ∷ es))) (length (map (λ e. e.class) es))
    ∙ ap {B = List ℕ} (λ (l : List ℕ). pair_of e ∷ l) (pairs_map es)

-- a pair is below class c exactly if its class is
pair_below : (k g c : ℕ) → g < 65536 → ltb (65536 * k + g) (65536 * c) ≡ leb 0 k && ltb k c
pair_below k g c h = ⊎_elim (λ l. rw (le-leb 0 k (omega arith), lt-ltb (65536 * k + g) (65536 * c) (omega arith), lt-ltb k c l)) (λ l. rw (le-leb 0 k (omega arith), le-ltb (65536 * k + g) (65536 * c) (omega arith), le-ltb k c l)) (either k c)

pair_class : (k g c : ℕ) → g < 65536 → eqb ((65536 * k + g) / 65536) c ≡ leb c k && ltb k (c + 1)
pair_class k g c h =
    ⊎_elim
    (λ l. rw (lt-leb c k l) (ne_eqb ((65536 * k + g) / 65536) c (omega arith)))
    (λ l. ⊎_elim
    (λ m. rw (le-leb c k l, lt-ltb k (c + 1) m) (eq-eqb ((65536 * k + g) / 65536) c (omega arith)))
    (λ m. rw (le-leb c k l, le-ltb k (c + 1) m) (ne_eqb ((65536 * k + g) / 65536) c (omega arith)))
    (either k (c + 1)))
    (either k c)

module _ (c : ℕ) where
  sift-below : (es : List Entry) → Under 65536 es → sift (λ e. ltb (pair_of e) (65536 * c)) es ≡ within 0 c es
  unfolding sift within
  sift-below [] u = refl
  sift-below (e ∷ es) u = ap₂ (λ (b : Bool) (l : List Entry). cond b (e ∷ l) l) (pair_below e.class e.glyph c u.0) (sift-below es u.1)

  sift-class : (es : List Entry) → Under 65536 es → sift (λ e. eqb (pair_of e / 65536) c) es ≡ within c (c + 1) es
  unfolding sift within
  sift-class [] u = refl
  sift-class (e ∷ es) u = ap₂ (λ (b : Bool) (l : List Entry). cond b (e ∷ l) l) (pair_class e.class e.glyph c u.0) (sift-class es u.1)

  -- the pairs of one class ascend by glyph
  class_rises : (es : List Entry) (lo m : ℕ) → Ascends lo es → Each (λ e. leb c e.class && ltb e.class (c + 1) ≡ true) es → m ≤ 65536 * c + lo → Rises m (map pair_of es)
  class_rises [] lo m a h l = tt
  class_rises (e ∷ es) lo m a h l =
      let b : lo ≤ e.glyph = a.0 in
      let (p, q) = and_both (leb c e.class) (ltb e.class (c + 1)) h.0 in
      let k : e.class ≡ c = omega (arith, leb-true c e.class p, ltb-true e.class (c + 1) q) in
      (omega arith, class_rises es (e.glyph + 1) (pair_of e) a.1 h.1 (omega arith))

glyphs_back : (es : List Entry) → Under 65536 es → map (λ z. z % 65536) (map pair_of es) ≡ map (λ e. e.glyph) es
glyphs_back [] u = refl
glyphs_back (e ∷ es) u =
    let b : e.glyph < 65536 = u.0 in
    let m : pair_of e % 65536 ≡ e.glyph = omega arith in
    ap₂ (λ (x : ℕ) (l : List ℕ). x ∷ l) m (glyphs_back es u.1)

-- ---- in the order by class

module _ (es : List Entry) (up : Ascends 0 es) (under : Under 65536 es) where
  starts_at_lem : (c : ℕ) → length (sift (λ z. ltb z (65536 * c)) (map pair_of es)) ≡ start_of es c
  starts_at_lem c = ap length (sift-map pair_of (λ z. ltb z (65536 * c)) es ∙ ap (map pair_of) (sift-below c es under)) ∙ length-map (within 0 c es) pair_of

  in_class_order : class_pairs es ≡ ascending (map pair_of es)
  unfolding class_pairs
  in_class_order = ap ascending (pairs_map es)

  length_pairs : length (class_pairs es) ≡ length es
  length_pairs = ap length in_class_order ∙ length-ascending (map pair_of es) ∙ length-map es pair_of

  class_pairs_lem : (c : ℕ) → part (class_pairs es) (start_of es c) (start_of es (c + 1)) ≡ map pair_of (within c (c + 1) es)
  unfolding within
  class_pairs_lem c =
      let next : 65536 * c + 65536 ≡ 65536 * (c + 1) = omega arith in
      rw in_class_order
      (ap₂ (λ (m n : ℕ). part (ascending (map pair_of es)) m n) (sym (starts_at_lem c)) (sym (starts_at_lem (c + 1)) ∙ ap (λ (n : ℕ). length (sift (λ z. ltb z n) (map pair_of es))) (sym next))
      ∙ key_part c (map pair_of es)
      ∙ ap ascending (sift-map pair_of (λ z. eqb (z / 65536) c) es ∙ ap (map pair_of) (sift-class c es under))
      ∙ ascending_again (map pair_of (within c (c + 1) es)) (class_rises c (within c (c + 1) es) 0 0 (ascends_sift (λ e. leb c e.class && ltb e.class (c + 1)) es 0 up) (each_passes (λ e. leb c e.class && ltb e.class (c + 1)) es) (omega arith)))

  -- the pairs below class c, and those from it on
  module _ (c : ℕ) where
    low : List ℕ
    low = sift (λ z. ltb z (65536 * c)) (ascending (map pair_of es))

    high : List ℕ
    high = sift (leb (65536 * c)) (ascending (map pair_of es))

    low_high : class_pairs es ≡ low ++ high
    unfolding low high
    low_high = in_class_order ∙ parted (65536 * c) (ascending (map pair_of es)) 0 (ascending-rises (map pair_of es))

    low_length : length low ≡ start_of es c
    unfolding low
    low_length = ascending_alike (map pair_of es) (λ z. ltb z (65536 * c)) ∙ starts_at_lem c

    pairs_before : (k : ℕ) → k < start_of es c → get_or (class_pairs es) k 0 < 65536 * c
    unfolding low high
    pairs_before k l =
        let h : k < length low = omega (arith, low_length) in
        rw (low_high, get_or-append low high 0 k h)
        (ltb-true (get_or low k 0) (65536 * c) (each_at (λ z. ltb z (65536 * c) ≡ true) low (each_passes (λ z. ltb z (65536 * c)) (ascending (map pair_of es))) k h 0))

    pairs_from : (k : ℕ) → start_of es c ≤ k → k < length es → 65536 * c ≤ get_or (class_pairs es) k 0
    unfolding low high
    pairs_from k l m =
        let e : length low + (k - length low) ≡ k = omega (arith, low_length) in
        let h : k - length low < length high = omega (arith, low_length, length-append low high, ap length low_high, length_pairs) in
        rw (low_high, ← e, get_or-append-add low high (k - length low) 0)
        (leb-true (65536 * c) (get_or high (k - length low) 0) (each_at (λ z. leb (65536 * c) z ≡ true) high (each_passes (leb (65536 * c)) (ascending (map pair_of es))) (k - length low) h 0))

  -- starts do not go down, and are no more than there are entries
  pub starts_rise : (i j : ℕ) → i ≤ j → start_of es i ≤ start_of es j
  unfolding within
  starts_rise i j l =
      sift_fewer (λ e. leb 0 e.class && ltb e.class i) (λ e. leb 0 e.class && ltb e.class j)
      (λ e h. let (p, q) = and_both (leb 0 e.class) (ltb e.class i) h in and_intro (leb 0 e.class) (ltb e.class j) p (lt-ltb e.class j (omega (arith, ltb-true e.class i q)))) es

  pub starts_most : (i : ℕ) → start_of es i ≤ length es
  unfolding within
  starts_most i = omega (arith, sift-both (λ (e : Entry). leb 0 e.class && ltb e.class i) es)

  pub starts_none : start_of es 0 ≡ 0
  starts_none = ⊎_elim (λ (l : 0 < start_of es 0). absurd (omega (arith, pairs_before 0 0 l))) (λ (l : start_of es 0 ≤ 0). omega arith) (either 0 (start_of es 0))

  module _ {gs cs : List ℕ} (o : ByClass es gs cs) where
    pub length-glyphs : length gs ≡ length es
    unfolding beside_of
    length-glyphs = ap length o.glyphs ∙ length-map (class_pairs es) (λ z. z % 65536) ∙ length_pairs

    pub length-classes : length cs ≡ length es
    unfolding keys_of
    length-classes = ap length o.classes ∙ length-map (class_pairs es) (λ z. z / 65536) ∙ length_pairs

    class_of_lem : (k : ℕ) → get_or cs k 0 ≡ get_or (class_pairs es) k 0 / 65536
    unfolding keys_of
    class_of_lem k = ap (λ (l : List ℕ). get_or l k 0) o.classes ∙ get_or-map (λ z. z / 65536) (class_pairs es) k 0

    -- the class's glyphs
    pub class_part : (i : ℕ) → part gs (start_of es i) (start_of es (i + 1)) ≡ map (λ e. e.glyph) (within i (i + 1) es)
    unfolding beside_of within
    class_part i =
        ap (λ (l : List ℕ). part l (start_of es i) (start_of es (i + 1))) o.glyphs
        ∙ map-part (λ z. z % 65536) (class_pairs es) (start_of es i) (start_of es (i + 1))
        ∙ ap (map (λ z. z % 65536)) (class_pairs_lem i)
        ∙ glyphs_back (within i (i + 1) es) (under_sift (λ e. leb i e.class && ltb e.class (i + 1)) es 65536 under)

    -- where the class's entries end, the next class's start
    pub class_ends : (i : ℕ) {r : ℕ} → ClassEnd cs (start_of es i) i r → r ≡ start_of es (i + 1)
    class_ends i {r} d =
        ⊎_elim
        (λ (l : r < start_of es (i + 1)).
        let used : r < length cs = omega (arith, starts_most (i + 1), length-classes) in
        absurd (d.other used (omega (arith, class_of_lem r, pairs_before (i + 1) r l, pairs_from i r d.after (omega (arith, length-classes))))))
        (λ (l : start_of es (i + 1) ≤ r).
        ⊎_elim
        (λ (m : start_of es (i + 1) < r).
        let z = start_of es (i + 1) in
        absurd (omega (arith, d.same z (starts_rise i (i + 1) (omega arith)) m, class_of_lem z, pairs_from (i + 1) z (omega arith) (omega (arith, d.inside, length-classes)))))
        (λ (m : r ≤ start_of es (i + 1)). omega arith)
        (either (start_of es (i + 1)) r))
        (either r (start_of es (i + 1)))
