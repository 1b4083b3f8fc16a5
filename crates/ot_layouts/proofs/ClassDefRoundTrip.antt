-- ClassDef: what is written for entries in ascending order is readable, and gives each glyph its class. Assumes nothing.
use Rattle.std.specs.Prelude.{Option, Some, None}
use Prim.Native.Nat.{ℕ, zero, suc, ◌+◌, ◌-◌, ◌*◌, ◌<◌, ◌≤◌}
use mathlib.Core.Path.{◌≡◌, refl, sym, ap, ap₂, ◌∙◌}
use mathlib.Core.Bool.{Bool, true, false, cond, not, ◌&&◌}
use mathlib.Core.List.{List, [], ◌∷◌, ◌++◌, append-nil}
use mathlib.Core.Logic.{◌⊎◌, inl, inr}
use native.Mathlib.Omega.{arith}
use lib.ListN.{length, get_or}
use lib.Dec.{eqb, leb, ltb}
use borrow.Author.Tests.{eq-eqb, lt-ltb, le-leb, le-ltb, lt-leb}
use Rattle.folds.specs.Folds.{or_else, first_at, flat}
use Rattle.folds.proofs.Tests.{by_test, either}
use Rattle.folds.proofs.Find.{later}
use Rattle.folds.proofs.FromTheFront.{first_cons, first_same, length_even, even_at}
use Rattle.ot_layouts.specs.Numbers.{u16_at, be16}
use Rattle.ot_layouts.specs.Coverage.{Entry, Run, runs, start_at, end_at, beside_at, Ascends, Under}
use Rattle.ot_layouts.specs.ClassDef.{first_glyph, span, named, class_in, class_readable, class_of, beside_or, in_ranges, class_def_bytes}
use Rattle.ot_layouts.proofs.Numbers.{length-be16}
use Rattle.ot_layouts.proofs.Head.{two_bytes, u16_at_past}
use Rattle.ot_layouts.proofs.Runs.{ascends_sift, under_sift, Rise, runs_rise}
use Rattle.ot_layouts.proofs.RangeBytes.{no_run, ranged, ranged_format, ranged_count, ranged_start, ranged_end, ranged_beside, ranged_fits}
use Rattle.ot_layouts.proofs.Classes.{in_run, class_run, class_runs, class_named, class_before_lem, class_beyond, span_under}

-- ---- in ranges

-- what f gives at the index that is found
abbrev found_or : (ℕ → ℕ) → Option ℕ → ℕ
found_or f (Some k) = f k
found_or f None = 0

found_same : (p : ℕ → Bool) (n : ℕ) (f g : ℕ → ℕ) → ((k : ℕ) → k < n → f k ≡ g k) → found_or f (first_at p n) ≡ found_or g (first_at p n)
unfolding first_at
found_same p zero f g h = refl
found_same p (suc n) f g h = go (first_at p n) (p n) (found_same p n f g (λ k l. h k (omega arith)))
  where
    go : (o : Option ℕ) (b : Bool) → found_or f o ≡ found_or g o → found_or f (or_else o (cond b (Some n) None)) ≡ found_or g (or_else o (cond b (Some n) None))
    go (Some k) b e = e
    go None true e = h n (omega arith)
    go None false e = refl

-- the class of the first run that has g
class_found : (rs : List Run) (g : ℕ) → found_or (λ k. (get_or rs k no_run).class) (first_at (λ k. in_run (get_or rs k no_run) g) (length rs)) ≡ class_run rs g
unfolding first_at
class_found [] g = refl
class_found (r ∷ rs) g =
    ap (found_or (λ k. (get_or (r ∷ rs) k no_run).class)) (first_cons (λ k. in_run (get_or (r ∷ rs) k no_run) g) (length rs))
    ∙ go (in_run r g) (first_at (λ k. in_run (get_or rs k no_run) g) (length rs)) (class_found rs g)
  where
    go : (b : Bool) (o : Option ℕ) → found_or (λ k. (get_or rs k no_run).class) o ≡ class_run rs g → found_or (λ k. (get_or (r ∷ rs) k no_run).class) (cond b (Some 0) (later 1 o)) ≡ cond b r.class (class_run rs g)
    go true o e = refl
    go false (Some k) e = let z : 1 + k ≡ suc k = omega arith in ap (λ (i : ℕ). (get_or (r ∷ rs) i no_run).class) z ∙ e
    go false None e = e

beside_found : (b : List ℕ) (o : Option ℕ) → beside_or b o ≡ found_or (beside_at b) o
beside_found b (Some k) = refl
beside_found b None = refl

module _ (rs : List Run) where
  ranges_class : (g : ℕ) → class_of (ranged rs) g ≡ class_run rs g
  unfolding class_of
  ranges_class g =
      let b = ranged rs in
      let p : ℕ → Bool = λ k. in_run (get_or rs k no_run) g in
      rw (ranged_format rs, ranged_count rs)
      (ap (beside_or b) (first_same (λ k. leb (start_at b k) g && leb g (end_at b k)) p (length rs) (λ k h. ap₂ (λ (x y : ℕ). leb x g && leb g y) (ranged_start rs k h) (ranged_end rs k h)))
      ∙ beside_found b (first_at p (length rs))
      ∙ found_same p (length rs) (beside_at b) (λ k. (get_or rs k no_run).class) (ranged_beside rs)
      ∙ class_found rs g)

  ranges_readable : Rise 0 rs → class_readable (ranged rs) ≡ true
  unfolding class_readable
  ranges_readable a = rw (ranged_format rs, ranged_count rs, ranged_fits rs a)

-- ---- as a list

module _ (es : List Entry) where
  -- the class of glyph j from the first on
  abbrev class_bytes : ℕ → List ℕ
  class_bytes j = be16 (class_in es (first_glyph es + j))

  abbrev in_list : List ℕ
  in_list = be16 1 ++ be16 (first_glyph es) ++ be16 (span es) ++ flat class_bytes (span es)

  list_format : u16_at in_list 0 ≡ 1
  unfolding be16 u16_at
  list_format = refl

  list_first : u16_at in_list 2 ≡ first_glyph es
  unfolding be16 u16_at
  list_first = two_bytes (first_glyph es)

  list_span : u16_at in_list 4 ≡ span es
  unfolding be16 u16_at
  list_span = two_bytes (span es)

  even : (j : ℕ) → length (class_bytes j) ≡ 2
  even j = length-be16 (class_in es (first_glyph es + j))

  list_length : length in_list ≡ 6 + 2 * span es
  unfolding be16
  list_length = omega (arith, length_even class_bytes 2 even (span es))

  class_at : (j : ℕ) → j < span es → u16_at (flat class_bytes (span es)) (2 * j) ≡ class_in es (first_glyph es + j)
  unfolding u16_at be16
  class_at j h =
      let z : 2 * j ≡ 2 * j + 0 = omega arith in
      let e : flat class_bytes (span es) ≡ flat class_bytes (span es) ++ [] = sym (append-nil (flat class_bytes (span es))) in
      ap₂ (λ (a b : ℕ). 256 * a + b)
      (ap₂ (λ (x : List ℕ) (i : ℕ). get_or x i 0) e z ∙ even_at class_bytes 2 even [] 0 (span es) j 0 h (omega arith))
      (ap (λ (x : List ℕ). get_or x (2 * j + 1) 0) e ∙ even_at class_bytes 2 even [] 0 (span es) j 1 h (omega arith))
      ∙ two_bytes (class_in es (first_glyph es + j))

  list_at : (j : ℕ) → j < span es → u16_at in_list (6 + 2 * j) ≡ class_in es (first_glyph es + j)
  unfolding be16
  list_at j h = u16_at_past (be16 1 ++ be16 (first_glyph es) ++ be16 (span es)) (flat class_bytes (span es)) 6 (2 * j) refl ∙ class_at j h

  module _ (lo : ℕ) (a : Ascends lo es) where
    list_readable : Under 65536 es → class_readable in_list ≡ true
    unfolding class_readable
    list_readable u =
        rw (list_format, list_first, list_span, eq-eqb (length in_list) (6 + 2 * span es) list_length, le-leb (first_glyph es + span es) 65536 (span_under es 65536 lo a u))

    list_class_lem : (g : ℕ) → class_of in_list g ≡ class_in es g
    unfolding class_of
    list_class_lem g = rw (list_format, list_first, list_span) (go (either g (first_glyph es)) (either g (first_glyph es + span es)))
      where
        go : (g < first_glyph es) ⊎ (first_glyph es ≤ g) → (g < first_glyph es + span es) ⊎ (first_glyph es + span es ≤ g)
            → cond (leb (first_glyph es) g && ltb g (first_glyph es + span es)) (u16_at in_list (6 + 2 * (g - first_glyph es))) 0 ≡ class_in es g
        go (inl h) d = rw (lt-leb (first_glyph es) g h) (sym (class_before_lem es lo g a h))
        go (inr h) (inl k) =
            let e : first_glyph es + (g - first_glyph es) ≡ g = omega arith in
            rw (le-leb (first_glyph es) g h, lt-ltb g (first_glyph es + span es) k) (list_at (g - first_glyph es) (omega arith) ∙ ap (class_in es) e)
        go (inr h) (inr k) = rw (le-leb (first_glyph es) g h, le-ltb g (first_glyph es + span es) k) (sym (class_beyond es lo g a k))

-- ---- the round trip

pub class_back : (es : List Entry) (lo g : ℕ) → Ascends lo es → class_of (class_def_bytes es) g ≡ class_in es g
unfolding class_def_bytes named
class_back es lo g a =
    let b : Ascends lo (named es) = ascends_sift (λ e. not (eqb e.class 0)) es lo a in
    by_test (in_ranges (named es))
    (λ e. rw e (ranges_class (runs (named es)) g ∙ class_runs (named es) lo g b ∙ class_named es lo g a))
    (λ e. rw e (list_class_lem (named es) lo b g ∙ class_named es lo g a))

pub class_readable_lem : (es : List Entry) → Ascends 0 es → Under 65536 es → class_readable (class_def_bytes es) ≡ true
unfolding class_def_bytes named
class_readable_lem es a u =
    let b : Ascends 0 (named es) = ascends_sift (λ e. not (eqb e.class 0)) es 0 a in
    let v : Under 65536 (named es) = under_sift (λ e. not (eqb e.class 0)) es 65536 u in
    by_test (in_ranges (named es))
    (λ e. rw e (ranges_readable (runs (named es)) (runs_rise (named es) 0 b)))
    (λ e. rw e (list_readable (named es) 0 b v))
