-- What stands beside a table: by the two formats, and how long it can be. Assumes nothing.
use Prim.Native.Nat.{ℕ, ◌+◌, ◌-◌, ◌*◌, ◌≤◌}
use mathlib.Core.Path.{◌≡◌, refl, ap}
use mathlib.Core.Bool.{Bool, true, false}
use mathlib.Core.List.{List, [], ◌∷◌, map}
use native.Mathlib.Omega.{arith}
use lib.ListN.{length}
use lib.Dec.{eqb}
use Rattle.folds.specs.Lists.{join, sift}
use Rattle.folds.proofs.Tests.{by_test}
use Rattle.folds.proofs.Moved.{length-map}
use Rattle.ot_layouts.specs.Coverage.{Entry, coverage_bytes}
use Rattle.ot_layouts.specs.ClassDef.{named, class_def_bytes}
use Rattle.ot_layouts.specs.PairPos.{own_in, shape_of}
use Rattle.ot_layouts.proofs.Shapes.{own_of}
use Rattle.ot_layouts.proofs.RunCount.{many_le}
use Rattle.ot_layouts.proofs.CoverageLength.{cover_length}
use Rattle.ot_layouts.proofs.ClassDefLength.{ranges_most}
use Rattle.glyph_rules.specs.Entries.{within, reduced}
use Rattle.pair_rules.specs.Written.{part_of, new_parts}
use Rattle.ot_class_def_writer.specs.Entries.{reduced_entries}
use Rattle.cut_parts.specs.Tables.{paired}
use Rattle.folds.proofs.Joining.{join_one, join_two}
use Rattle.pair_new_objects.specs.Objects.{parts_of}

pub parts_same : (b : List ℕ) (es : List Entry) (lo hi : ℕ) → new_parts (shape_of b) es lo hi ≡ parts_of (shape_of b).format (within lo hi es) lo
unfolding new_parts parts_of
parts_same b es lo hi = ap (map (part_of (within lo hi es) lo)) (own_of b)

pub parts_many : (f : ℕ) (es : List Entry) (lo : ℕ) → length (parts_of f es lo) ≡ length (own_in f)
unfolding parts_of
parts_many f es lo = length-map (part_of es lo) (own_in f)

pub paired_reduced : (gs ks : List ℕ) (first : ℕ) → reduced_entries gs ks first ≡ reduced first (paired gs ks)
unfolding paired reduced_entries
paired_reduced [] ks first = refl
paired_reduced (g ∷ gs) [] first = refl
paired_reduced (g ∷ gs) (k ∷ ks) first = ap (λ (x : List Entry). record { glyph = g; class = k - first } ∷ x) (paired_reduced gs ks first)

-- ---- by the two formats

module _ (f : ℕ) (es : List Entry) (lo : ℕ) where
  pub parts_one : eqb f 1 ≡ true → parts_of f es lo ≡ coverage_bytes (map (λ e. e.glyph) es) ∷ []
  unfolding parts_of part_of
  parts_one e = rw e

  pub parts_two : eqb f 1 ≡ false → parts_of f es lo ≡ coverage_bytes (map (λ e. e.glyph) es) ∷ class_def_bytes (reduced lo es) ∷ []
  unfolding parts_of part_of
  parts_two e = rw e

-- ---- how long

sift_shorter : {A : Type 0} (p : A → Bool) (xs : List A) → length (sift p xs) ≤ length xs
unfolding sift
sift_shorter p [] = omega arith
sift_shorter p (x ∷ xs) = by_test (p x) (λ e. rw e (omega (arith, sift_shorter p xs))) (λ e. rw e (omega (arith, sift_shorter p xs)))

named_shorter : (es : List Entry) → length (named es) ≤ length es
unfolding named
named_shorter es = sift_shorter _ es

-- a class definition is never longer than its ranges
pub class_def_short : (es : List Entry) → length (class_def_bytes es) ≤ 4 + 6 * length es
class_def_short es = omega (arith, ranges_most es, many_le (named es), named_shorter es)

pub parts_short : (f : ℕ) (es : List Entry) (lo : ℕ) → length (join (parts_of f es lo)) ≤ 8 + 8 * length es
parts_short f es lo =
    let gs = map (λ (e : Entry). e.glyph) es in
    let n : length gs ≡ length es = length-map (λ (e : Entry). e.glyph) es in
    let m : length (reduced lo es) ≡ length es = length-map _ es in
    let c = (cover_length gs).1 in
    let d = class_def_short (reduced lo es) in
    by_test (eqb f 1)
    (λ e. omega (arith, ap (λ (x : List (List ℕ)). length (join x)) (parts_one f es lo e), join_one (coverage_bytes gs)))
    (λ e. omega (arith, ap (λ (x : List (List ℕ)). length (join x)) (parts_two f es lo e), join_two (coverage_bytes gs) (class_def_bytes (reduced lo es))))
