-- The cuts of a table ascend, each below the number of its items. Assumes nothing.
use Prim.Native.Nat.{ℕ}
use mathlib.Core.Path.{◌≡◌, subst}
use lib.Dec.{eqb}
use Rattle.folds.proofs.Tests.{by_test}
use Rattle.store_rules.specs.Store.{Store}
use Rattle.cut_rules.specs.Cuts.{cuts_of}
use Rattle.cut_rules.proofs.CutPlaces.{places}
use Rattle.cut_rules.specs.Places.{Places}
use Rattle.call_rules.specs.declared.Settings.{Settings}
use Rattle.pair_rules.specs.Rules.{rule1, rule2}
use Rattle.pair_rules.specs.Table.{rule_of, shape, cut_places}

module _ (how : Settings) (s : Store) (t : ℕ) where
  -- the rule has the table's items
  pub rule_count : (rule_of how s t).count ≡ (shape s t).count
  unfolding rule_of rule1 rule2
  rule_count = by_test (eqb (shape s t).format 1) (λ e. rw e) (λ e. rw e)

  -- and the call's edition
  pub rule_edition : (rule_of how s t).edition ≡ how.edition
  unfolding rule_of rule1 rule2
  rule_edition = by_test (eqb (shape s t).format 1) (λ e. rw e) (λ e. rw e)

  pub table_cuts : Places (shape s t).count (cut_places how s t)
  unfolding cut_places cuts_of
  table_cuts = subst (λ (n : ℕ). Places n (cut_places how s t)) rule_count (places (rule_of how s t) (rule_of how s t).count)
