-- Edition 2's cuts are within its limit, and no list that is has fewer cuts. Assumes nothing.
use Prim.Native.Nat.{ℕ}
use mathlib.Core.Path.{◌≡◌, refl}
use mathlib.Core.Bool.{true}
use Rattle.store_rules.specs.Store.{Store}
use Rattle.store_rules.proofs.Sound.{Fits}
use Rattle.cut_rules.proofs.FewestCuts.{fewest}
use Rattle.cut_rules.proofs.WithinLimit.{cuts_within}
use Rattle.call_rules.specs.Settings.{second_edition}
use Rattle.mark_rules.specs.Rules.{mark_rule}
use Rattle.mark_rules.specs.Table.{rule_of, cut_places}
use Rattle.mark_rules.proofs.Measured.{classes_later}
use Rattle.mark_fits.specs.Guaranteed.{within_by2, FewestCuts}

module _ (s : Store) (t : ℕ) where
  pub own_within : within_by2 s t (cut_places second_edition s t) ≡ true
  unfolding within_by2 cut_places rule_of mark_rule
  own_within = cuts_within (rule_of second_edition s t) refl

  pub fewest_cuts : Fits s → FewestCuts s t
  unfolding within_by2 cut_places rule_of mark_rule
  fewest_cuts f cs rises within = fewest (rule_of second_edition s t) refl (classes_later s t f second_edition) cs rises within
