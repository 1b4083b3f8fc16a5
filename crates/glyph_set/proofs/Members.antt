-- The glyphs of the set: of an empty set, of a set that has the glyphs of some entries, from the first to the last, and after one more is put in: how
-- many, how many runs, the first and the last. Assumes nothing.
use Prim.Native.Nat.{ℕ, ◌+◌, ◌<◌, ◌≤◌, min, max}
use mathlib.Core.Path.{◌≡◌, refl, sym, ap, ◌∙◌}
use mathlib.Core.Bool.{false, cond}
use mathlib.Core.List.{List, map}
use mathlib.Core.Logic.{⊎_elim}
use native.Mathlib.Omega.{arith}
use lib.Dec.{eqb}
use lib.ListN.{length, length-map}
use Rattle.folds.proofs.Picked.{picked, Adds, picked_same, map-picked, sift-upto, length_adds, unpicked, first_picked, last_picked}
use Rattle.folds.proofs.Tests.{either, true_false}
use Rattle.ot_layouts.specs.Coverage.{Entry, plain, Ascends, Under}
use Rattle.ot_layouts.specs.ClassDef.{first_glyph, last_glyph, class_in}
use Rattle.ot_layouts.proofs.RunStarts.{entry, alone, runs_adds}
use Rattle.ot_layouts.proofs.ByGlyph.{has, taken_all, first_taken, last_taken, first_adds, last_adds}
use Rattle.glyph_set.specs.GlyphSet.{member, mark, members, run_count, behind, joined}
use Rattle.glyph_set.specs.Words.{Spans}
use Rattle.glyph_set.proofs.Marks.{mark_here, mark_other}

pub members_picked : (s : List ℕ) → members s ≡ picked (member s) (λ g. g) 65536
unfolding members
members_picked s = sift-upto (member s) (λ g. g) 65536

pub members_alone : (s : List ℕ) → plain (members s) ≡ alone (member s) 65536
members_alone s = ap plain (members_picked s) ∙ map-picked (λ g. entry g 0) (member s) (λ g. g) 65536

-- the set has the glyphs of some entries in ascending order
pub members_of : (s : List ℕ) (es : List Entry) → Ascends 0 es → Under 65536 es → ((g : ℕ) → g < 65536 → member s g ≡ has es g) → members s ≡ map (λ e. e.glyph) es
members_of s es a u h =
    members_picked s
    ∙ picked_same (member s) (has es) (λ g. g) (λ g. g) 65536 h (λ g l t. refl)
    ∙ sym (map-picked (λ (e : Entry). e.glyph) (has es) (λ g. entry g (class_in es g)) 65536)
    ∙ ap (map (λ (e : Entry). e.glyph)) (taken_all es 65536 a u)

-- they lie from the first to the last
pub members_span : (s : List ℕ) → Spans s (first_glyph (plain (members s))) (last_glyph (plain (members s)))
members_span s g l h =
    rw (members_alone s)
    (let (m, f) = first_picked (member s) (λ x. entry x 0) 65536 some in
    let (n, b) = last_picked (member s) (λ x. entry x 0) 65536 some in
    let e = first_taken (member s) (λ x. 0) 65536 m f in
    let d = last_taken (member s) (λ x. 0) 65536 n b in
    (⊎_elim (λ k. true_false (sym h ∙ f.none g k)) (λ k. omega arith) (either g m), ⊎_elim (λ k. true_false (sym h ∙ b.none g k l)) (λ k. omega arith) (either n g)))
  where
    some : 0 < length (alone (member s) 65536)
    some =
        ⊎_elim (λ k. k)
        (λ k. let e : length (alone (member s) 65536) ≡ 0 = omega arith in true_false (sym h ∙ unpicked (member s) (λ x. entry x 0) 65536 e g l))
        (either 0 (length (alone (member s) 65536)))

-- ---- one more

module _ (s : List ℕ) (g : ℕ) (long : 8192 ≤ length s) (l : g < 65536) (new : member s g ≡ false) where
  pub mark_adds : Adds (member s) g (member (mark s g))
  mark_adds = record { new = new; there = mark_here s g (omega arith); same = mark_other s g (omega arith) }

  pub length-members : length (members (mark s g)) ≡ length (members s) + 1
  length-members =
      ap length (members_picked (mark s g))
      ∙ length_adds (member s) (member (mark s g)) (λ x. x) (λ x. x) g 65536 mark_adds l
      ∙ ap (λ (xs : List ℕ). length xs + 1) (sym (members_picked s))

  pub runs_members : run_count (mark s g) + joined s g ≡ run_count s + 1
  unfolding run_count joined behind
  runs_members =
      rw (members_alone (mark s g), members_alone s)
      (runs_adds (member s) (member (mark s g)) g mark_adds 65536 l)

  pub first_members : first_glyph (plain (members (mark s g))) ≡ cond (eqb (length (members s)) 0) g (min (first_glyph (plain (members s))) g)
  first_members =
      rw (← length-map (members s) (λ x. entry x 0), members_alone (mark s g), members_alone s)
      (first_adds (member s) (member (mark s g)) g mark_adds (λ x. 0) 65536 l)

  pub last_members : last_glyph (plain (members (mark s g))) ≡ cond (eqb (length (members s)) 0) g (max (last_glyph (plain (members s))) g)
  last_members =
      rw (← length-map (members s) (λ x. entry x 0), members_alone (mark s g), members_alone s)
      (last_adds (member s) (member (mark s g)) g mark_adds (λ x. 0) 65536 l)
