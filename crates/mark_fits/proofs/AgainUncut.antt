-- Edition 2 cuts no table again that cuts within its limit have made. Assumes nothing.
use Prim.Native.Nat.{ℕ, ◌+◌, ◌<◌, ◌≤◌}
use mathlib.Core.Path.{◌≡◌, refl, ap, ap₂, ◌∙◌}
use mathlib.Core.Bool.{true}
use mathlib.Core.List.{List}
use native.Mathlib.Omega.{arith}
use lib.ListN.{get_or}
use Rattle.store_rules.specs.Store.{Store}
use Rattle.cut_rules.proofs.CutPlaces.{lo_at}
use Rattle.cut_rules.proofs.TablesUncut.{Restricts, ranges_uncut}
use Rattle.call_rules.specs.Settings.{second_edition}
use Rattle.mark_rules.specs.Rules.{mark_rule}
use Rattle.mark_rules.specs.Table.{classes_of, marks_of_class, rule_of, cut_places}
use Rattle.mark_rules.specs.Written.{split_store}
use Rattle.mark_rules.proofs.Measured.{class_marks, beside_marks}
use Rattle.promise_marks.proofs.Ready.{Ready}
use Rattle.promise_marks.proofs.View.{view_bases}
use Rattle.promise_marks.proofs.SameReach.{class_same}
use Rattle.mark_fits.specs.Guaranteed.{within_by2, AgainUncut}
use Rattle.mark_fits.proofs.Resulting.{TableOf, resulting_table, marks_same, base_same}

module _ (s : Store) (t : ℕ) (cs : List ℕ) (g : Ready s t cs) {u : ℕ} (w : TableOf s t cs u) where
  abbrev s' : Store
  s' = split_store s t cs

  abbrev lo : ℕ
  lo = lo_at cs w.j

  abbrev hi : ℕ
  hi = get_or cs w.j (classes_of s t)

  class_marks_lem : (i : ℕ) → lo + i < hi → marks_of_class s' u i ≡ marks_of_class s t (lo + i)
  class_marks_lem i l =
      let z : lo + (i + 1) ≡ lo + i + 1 = omega arith in
      marks_same s t cs g w.view i (i + 1) (omega arith) ∙ ap (class_marks s t (lo + i)) z

  -- the table's own rule is the old table's for its range alone
  restricts : Restricts (rule_of second_edition s t) lo hi (rule_of second_edition s' u)
  unfolding rule_of mark_rule
  restricts =
      record {
        edition = refl;
        count = w.view.classes;
        start = ap (λ (n : ℕ). 16 + n) (base_same s t cs g w.view);
        cost = λ i l.
            omega (arith, view_bases w.view g.reads, class_marks_lem i l, class_same s t cs g w.view w.reads w.slots i l);
        beside = beside;
      }
    where
      beside : (i : ℕ) → lo + i < hi → (rule_of second_edition s' u).beside 0 i ≤ (rule_of second_edition s t).beside lo (lo + i)
      beside i l =
          let z : lo + (i + 1) ≡ lo + i + 1 = omega arith in
          let y : lo + 0 ≡ lo = omega arith in
          omega (
            arith,
            beside_marks second_edition s' u 0 i,
            beside_marks second_edition s t lo (lo + i),
            marks_same s t cs g w.view 0 (i + 1) (omega arith),
            ap₂ (class_marks s t) y z,
          )

pub again_uncut : (s : Store) (t : ℕ) (cs : List ℕ) → Ready s t cs → within_by2 s t cs ≡ true → AgainUncut s t cs
unfolding cut_places within_by2 rule_of mark_rule
again_uncut s t cs g within u h =
    let w = resulting_table s t cs g u h in
    ranges_uncut (rule_of second_edition s t) (rule_of second_edition (split_store s t cs) u) cs within w.j w.some (restricts s t cs g w)
