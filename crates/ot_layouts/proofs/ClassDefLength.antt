-- How long a written ClassDef is: as the shorter of its formats, but for one that format 1 cannot count. Assumes nothing.
use Prim.Native.Nat.{ℕ, ◌+◌, ◌*◌, ◌≤◌}
use mathlib.Core.Path.{◌≡◌}
use mathlib.Core.Bool.{Bool, true, false}
use mathlib.Core.List.{List, [], ◌∷◌, ◌++◌}
use mathlib.Core.Logic.{⊎_elim}
use native.Mathlib.Omega.{arith}
use lib.ListN.{length, length-append}
use lib.Dec.{eqb, ltb}
use borrow.Author.Tests.{ltb-true, ltb-false, eqb-true}
use Rattle.folds.specs.Folds.{flat}
use Rattle.folds.specs.Lists.{sift}
use Rattle.folds.proofs.Tests.{by_test, or_none}
use Rattle.folds.proofs.Joined.{or_either}
use Rattle.folds.proofs.FromTheFront.{length_even}
use Rattle.ot_layouts.specs.Numbers.{be16}
use Rattle.ot_layouts.specs.Coverage.{Entry, runs, Ascends}
use Rattle.ot_layouts.specs.ClassDef.{class_in, first_glyph, last_glyph, span, named, in_ranges, class_def_bytes}
use Rattle.ot_layouts.proofs.Numbers.{length-be16}
use Rattle.ot_layouts.proofs.RunCount.{many}
use Rattle.ot_layouts.proofs.RangeBytes.{ranged_length}

-- ---- from the first glyph to the last, of some of the entries

last_first : (e f : Entry) (es : List Entry) → e.glyph ≤ f.glyph → last_glyph (e ∷ es) ≤ last_glyph (f ∷ es)
unfolding last_glyph
last_first e f [] l = l
last_first e f (g ∷ es) l = omega arith

last_sift : (p : Entry → Bool) (e : Entry) (es : List Entry) (lo : ℕ) → Ascends lo (e ∷ es) → last_glyph (e ∷ sift p es) ≤ last_glyph (e ∷ es)
unfolding last_glyph sift
last_sift p e [] lo a = omega arith
last_sift p e (f ∷ es) lo a =
    let l : e.glyph + 1 ≤ f.glyph = a.1.0 in
    let i = last_sift p f es (e.glyph + 1) a.1 in
    by_test (p f) (λ y. rw y i) (λ n. rw n (omega (arith, last_first e f (sift p es) (omega arith), i)))

span_rest : (e : Entry) (es : List Entry) (lo : ℕ) → Ascends lo (e ∷ es) → span es ≤ span (e ∷ es)
unfolding span last_glyph
span_rest e [] lo a = omega arith
span_rest e (f ∷ es) lo a = let l : e.glyph + 1 ≤ f.glyph = a.1.0 in omega arith

pub span_sift : (p : Entry → Bool) (es : List Entry) (lo : ℕ) → Ascends lo es → span (sift p es) ≤ span es
unfolding span sift
span_sift p [] lo a = omega arith
span_sift p (e ∷ es) lo a =
    by_test (p e)
    (λ y. rw y (omega (arith, last_sift p e es lo a)))
    (λ n. rw n (omega (arith, span_sift p es (e.glyph + 1) a.1, span_rest e es lo a)))

-- ---- how long

module _ (es : List Entry) where
  abbrev ns : List Entry
  ns = named es

  in_ranges_lem : in_ranges (named es) ≡ true → length (class_def_bytes es) ≡ 4 + 6 * many (named es)
  unfolding class_def_bytes
  in_ranges_lem e = rw e (ranged_length (runs ns))

  as_list_lem : in_ranges (named es) ≡ false → length (class_def_bytes es) ≡ 6 + 2 * span (named es)
  unfolding class_def_bytes
  as_list_lem e =
      rw e
      (omega (
        arith,
        length-append (be16 1 ++ be16 (first_glyph ns) ++ be16 (span ns)) (flat (λ j. be16 (class_in ns (first_glyph ns + j))) (span ns)),
        length-append (be16 1 ++ be16 (first_glyph ns)) (be16 (span ns)),
        length-append (be16 1) (be16 (first_glyph ns)),
        length-be16 1,
        length-be16 (first_glyph ns),
        length-be16 (span ns),
        length_even (λ j. be16 (class_in ns (first_glyph ns + j))) 2 (λ j. length-be16 (class_in ns (first_glyph ns + j))) (span ns),
      ))

  -- never longer than its ranges
  pub ranges_most : length (class_def_bytes es) ≤ 4 + 6 * many (named es)
  ranges_most =
      by_test (in_ranges ns)
      (λ e. omega (arith, in_ranges_lem e))
      (λ e. omega (arith, as_list_lem e, ltb-false (4 + 6 * many ns) (6 + 2 * span ns) (or_none (ltb (4 + 6 * many ns) (6 + 2 * span ns)) (eqb (span ns) 65536) e).0))

  -- nor than its list, if that can be counted
  pub list_most : (span (named es) ≡ 65536 → ⊥) → length (class_def_bytes es) ≤ 6 + 2 * span (named es)
  list_most small =
      by_test (in_ranges ns)
      (λ e. ⊎_elim
      (λ l. omega (arith, in_ranges_lem e, ltb-true (4 + 6 * many ns) (6 + 2 * span ns) l))
      (λ z. absurd (small (eqb-true (span ns) 65536 z)))
      (or_either (ltb (4 + 6 * many ns) (6 + 2 * span ns)) (eqb (span ns) 65536) e))
      (λ e. omega (arith, as_list_lem e))
