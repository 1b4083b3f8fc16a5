-- Edition 2's cuts are within its limit, and in format 1 no list that is has fewer cuts. Assumes nothing.
use Prim.Native.Nat.{ℕ}
use mathlib.Core.Path.{◌≡◌, sym, subst}
use mathlib.Core.Bool.{true}
use lib.Dec.{eqb}
use Rattle.store_rules.specs.Store.{Store}
use Rattle.store_rules.proofs.Sound.{Fits}
use Rattle.cut_rules.specs.Places.{places_ascend}
use Rattle.cut_rules.proofs.FewestCuts.{fewest}
use Rattle.cut_rules.proofs.WithinLimit.{cuts_within}
use Rattle.call_rules.specs.Settings.{second_edition}
use Rattle.pair_rules.specs.Table.{shape, rule_of, cut_places}
use Rattle.pair_rules.proofs.TableCuts.{rule_count, rule_edition}
use Rattle.pair_rules.proofs.Measured.{sets_later}
use Rattle.pair_fits.specs.Guaranteed.{within_by2, FewestCuts}

module _ (s : Store) (t : ℕ) where
  pub own_within : within_by2 s t (cut_places second_edition s t) ≡ true
  unfolding within_by2 cut_places
  own_within = cuts_within (rule_of second_edition s t) (rule_edition second_edition s t)

  pub fewest_cuts : Fits s → eqb (shape s t).format 1 ≡ true → FewestCuts s t
  unfolding within_by2 cut_places
  fewest_cuts f one cs rises within =
      fewest (rule_of second_edition s t) (rule_edition second_edition s t) (sets_later s t f one) cs
      (subst (λ (n : ℕ). places_ascend 0 n cs ≡ true) (sym (rule_count second_edition s t)) rises) within
