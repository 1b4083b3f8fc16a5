-- What is written for a Coverage and for a ClassDef are bytes: each number fits its two. Assumes nothing.
use Rattle.std.specs.Prelude.{Option, Some, None}
use Prim.Native.Nat.{ℕ, ◌+◌, ◌-◌, ◌*◌, ◌<◌, ◌≤◌}
use mathlib.Core.Path.{◌≡◌}
use mathlib.Core.Bool.{Bool, true, false, cond, not, ◌&&◌}
use mathlib.Core.List.{List, [], ◌∷◌}
use mathlib.Core.Logic.{⊎_elim}
use native.Mathlib.Omega.{arith}
use lib.ListN.{length}
use lib.Dec.{eqb, ltb, leb}
use borrow.Author.Tests.{eqb-false}
use Rattle.folds.specs.Folds.{flat, first_at}
use Rattle.folds.proofs.Tests.{either, by_test, or_none}
use Rattle.folds.proofs.Each.{Each, each_sift}
use Rattle.ot_layouts.specs.Numbers.{words, be16, u16_at}
use Rattle.ot_layouts.specs.Coverage.{Run, Entry, runs, cover_ranges, plain, coverage_bytes, start_at, end_at, Under, Ascends}
use Rattle.ot_layouts.specs.ClassDef.{class_ranges, class_in, first_glyph, named, class_def_bytes, in_ranges, span, class_of, beside_or}
use Rattle.ot_layouts.proofs.Runs.{by_extend, Rise, runs_rise, ascends_sift, under_sift}
use Rattle.ot_layouts.proofs.RunCount.{few, many}
use Rattle.ot_layouts.proofs.CoverageLength.{as_ranges_lem, as_list_lem}
use Rattle.ot_layouts.proofs.Classes.{span_under}
use Rattle.folds.specs.Lists.{Bytes}
use Rattle.ot_layouts.proofs.Octets.{bytes_three, bytes_be16, bytes_two}
use Rattle.folds.proofs.Bytes.{bytes_none, bytes_append, bytes_flat}

-- ---- runs in sixteen bits

abbrev Bits : List Run → Type 0
Bits [] = Unit {0}
Bits (r ∷ rs) = (r.start < 65536) × (r.end < 65536) × (r.class < 65536) × Bits rs

-- each class fits
abbrev pub Classes : List Entry → Type 0
Classes es = Each (λ e. e.class < 65536) es

runs_bits : (es : List Entry) → Under 65536 es → Classes es → Bits (runs es)
unfolding runs
runs_bits [] u c = tt
runs_bits (e ∷ es) u c =
    let i : Bits (runs es) = runs_bits es u.1 c.1 in
    by_extend Bits e (runs es) (u.0, u.0, c.0, i) (λ r ts q x y. let j : Bits (r ∷ ts) = rw q at i in (u.0, j.1, j.2, j.3))

bytes_class_ranges : (rs : List Run) → Bits rs → Bytes (class_ranges rs)
unfolding class_ranges
bytes_class_ranges [] b = bytes_none
bytes_class_ranges (r ∷ rs) b = bytes_three r.start r.end r.class (class_ranges rs) b.0 b.1 b.2 (bytes_class_ranges rs b.3)

-- i glyphs before the first run, which starts at lo or after
bytes_cover_ranges : (i lo : ℕ) (rs : List Run) → i ≤ lo → Rise lo rs → Bits rs → Bytes (cover_ranges i rs)
unfolding cover_ranges
bytes_cover_ranges i lo [] h a b = bytes_none
bytes_cover_ranges i lo (r ∷ rs) h a b =
    let p : lo ≤ r.start = a.0 in
    let q : r.start ≤ r.end = a.1 in
    let m : r.start < 65536 = b.0 in
    bytes_three r.start r.end i (cover_ranges (i + (r.end + 1 - r.start)) rs) b.0 b.1 (omega arith)
    (bytes_cover_ranges (i + (r.end + 1 - r.start)) (r.end + 1) rs (omega arith) a.2 b.3)

bytes_words : (gs : List ℕ) → Under 65536 (plain gs) → Bytes (words gs)
unfolding words
bytes_words [] u = bytes_none
bytes_words (g ∷ gs) u = bytes_append (be16 g) (words gs) (bytes_be16 g u.0) (bytes_words gs u.1)

-- ---- coverage

plain_classes : (gs : List ℕ) → Classes (plain gs)
plain_classes [] = tt
plain_classes (g ∷ gs) = (omega arith, plain_classes gs)

pub bytes_coverage : (gs : List ℕ) → Ascends 0 (plain gs) → Under 65536 (plain gs) → Bytes (coverage_bytes gs)
bytes_coverage gs a u =
    let rs = runs (plain gs) in
    let n = few gs 65536 a u in
    ⊎_elim
    (λ h. rw (as_ranges_lem gs h) (bytes_two 2 (length rs) (cover_ranges 0 rs) (omega arith) (omega arith) (bytes_cover_ranges 0 0 rs (omega arith) (runs_rise (plain gs) 0 a) (runs_bits (plain gs) u (plain_classes gs)))))
    (λ h. rw (as_list_lem gs h) (bytes_two 1 (length gs) (words gs) (omega arith) (omega arith) (bytes_words gs u)))
    (either (3 * many (plain gs)) (length gs))

-- ---- class definitions

class_in_bits : (es : List Entry) → Classes es → (g : ℕ) → class_in es g < 65536
unfolding class_in
class_in_bits [] c g = omega arith
class_in_bits (e ∷ es) c g = go (eqb e.glyph g) (class_in_bits es c.1 g)
  where
    go : (b : Bool) → class_in es g < 65536 → cond b e.class (class_in es g) < 65536
    go true i = c.0
    go false i = i

first_bits : (es : List Entry) → Under 65536 es → first_glyph es < 65536
unfolding first_glyph
first_bits [] u = omega arith
first_bits (e ∷ es) u = u.0

pub bytes_class_def : (es : List Entry) → Ascends 0 es → Under 65536 es → Classes es → many (named es) < 65536 → Bytes (class_def_bytes es)
unfolding class_def_bytes named
bytes_class_def es a u c counted =
    let is_named : Entry → Bool = λ e. not (eqb e.class 0) in
    let ns = named es in
    let an : Ascends 0 ns = ascends_sift is_named es 0 a in
    let un : Under 65536 ns = under_sift is_named es 65536 u in
    let cn : Classes ns = each_sift (λ e. e.class < 65536) (λ e. e.class < 65536) is_named (λ e h t. h) es c in
    by_test (in_ranges ns)
    (λ e. rw e (bytes_two 2 (length (runs ns)) (class_ranges (runs ns)) (omega arith) counted (bytes_class_ranges (runs ns) (runs_bits ns un cn))))
    (λ e.
    let w : span ns ≡ 65536 → ⊥ = eqb-false (span ns) 65536 (or_none (ltb (4 + 6 * length (runs ns)) (6 + 2 * span ns)) (eqb (span ns) 65536) e).1 in
    let sp = span_under ns 65536 0 an un in
    rw e (bytes_three 1 (first_glyph ns) (span ns) (flat (λ j. be16 (class_in ns (first_glyph ns + j))) (span ns)) (omega arith) (first_bits ns un) (omega arith)
    (bytes_flat (λ j. be16 (class_in ns (first_glyph ns + j))) (span ns) (λ j. bytes_be16 (class_in ns (first_glyph ns + j)) (class_in_bits ns cn (first_glyph ns + j))))))

pub class_of_bits : (b : List ℕ) → ((i : ℕ) → u16_at b i < 65536) → (g : ℕ) → class_of b g < 65536
unfolding class_of
class_of_bits b h g = go (eqb (u16_at b 0) 1) (leb (u16_at b 2) g && ltb g (u16_at b 2 + u16_at b 4)) (first_at (λ k. leb (start_at b k) g && leb g (end_at b k)) (u16_at b 2))
  where
    go : (x y : Bool) (o : Option ℕ) → cond x (cond y (u16_at b (6 + 2 * (g - u16_at b 2))) 0) (beside_or b o) < 65536
    go true true o = h (6 + 2 * (g - u16_at b 2))
    go true false o = omega arith
    go false y (Some k) = h (8 + 6 * k)
    go false y None = omega arith
