-- A resulting table of two or more items, with all that these reach and with what edition 2 estimates beside it, fits. Assumes nothing.
use Prim.Native.Nat.{ℕ, ◌+◌, ◌-◌, ◌*◌, ◌≤◌}
use mathlib.Core.Path.{◌≡◌, sym, ap, ap₂, subst, ◌∙◌}
use mathlib.Core.Bool.{true}
use mathlib.Core.List.{List}
use native.Mathlib.Omega.{arith}
use lib.ListN.{get_or}
use Rattle.ot_layouts.specs.PairPos.{Shape}
use Rattle.store_rules.specs.Store.{Store, size_of}
use Rattle.store_rules.proofs.Sound.{size_bytes}
use Rattle.cut_rules.specs.Measure.{table_fits}
use Rattle.cut_rules.proofs.CutPlaces.{lo_at}
use Rattle.cut_rules.proofs.TablesUncut.{range_fits}
use Rattle.cut_rules.proofs.Totals.{table_total}
use Rattle.call_rules.specs.Settings.{second_edition}
use Rattle.pair_rules.specs.Table.{shape, rule_of}
use Rattle.pair_rules.specs.Written.{split_store}
use Rattle.pair_rules.proofs.TableCuts.{rule_count}
use Rattle.pair_rules.proofs.Measured.{items_reach, items_take, rule_start, totals}
use Rattle.pair_after.proofs.Ready.{Ready}
use Rattle.pair_after.proofs.View.{view_shape}
use Rattle.pair_after.proofs.ViewReach.{reach_same}
use Rattle.pair_after.proofs.Resulting.{TableOf}
use Rattle.pair_after.proofs.SoundThen.{fits_then_lem}
use Rattle.pair_fits.specs.Together.{reached_by_items}
use Rattle.pair_fits.specs.Guaranteed.{within_by2}

module _ (s : Store) (t : ℕ) (cs : List ℕ) (g : Ready s t cs) {u : ℕ} (w : TableOf s t cs u) where
  abbrev s' : Store
  s' = split_store s t cs

  -- its range
  abbrev pub lo : ℕ
  lo = lo_at cs w.j

  abbrev pub hi : ℕ
  hi = get_or cs w.j (shape s t).count

  pub count_then : (shape s' u).count ≡ hi - lo
  count_then = ap (λ (sh : Shape). sh.count) (view_shape w.view)

  size_then : size_of s' u ≡ (shape s t).header + (shape s t).item * (hi - lo)
  size_then = sym (size_bytes s' (fits_then_lem s t cs g) u w.used) ∙ w.view.long

  reached_then : reached_by_items s' u ≡ items_reach s t lo hi
  unfolding reached_by_items
  reached_then =
      let low = w.view.low in
      let z : lo + 0 ≡ lo = omega arith in
      let y : lo + (hi - lo) ≡ hi = omega arith in
      ap (items_reach s' u 0) count_then ∙ reach_same s t cs g w.view 0 (hi - lo) (omega arith) ∙ ap₂ (items_reach s t) z y

  module _ (within : within_by2 s t cs ≡ true) where
    range_within : table_fits (rule_of second_edition s t) lo hi ≡ true
    unfolding within_by2
    range_within =
        subst (λ (n : ℕ). table_fits (rule_of second_edition s t) lo (get_or cs w.j n) ≡ true) (rule_count second_edition s t)
        (range_fits (rule_of second_edition s t) cs within w.j w.some)

    pub whole_fits : 2 ≤ (shape s' u).count → size_of s' u + reached_by_items s' u + (rule_of second_edition s t).beside lo (hi - 1) ≤ 65535
    whole_fits two =
        omega (
          arith,
          count_then,
          size_then,
          reached_then,
          rule_start second_edition s t,
          table_total (rule_of second_edition s t) (items_take s t) (totals s t g.fit second_edition) lo hi (omega (arith, count_then)) range_within,
        )
