-- Every definition that a call on a pair table rests on at once, for checks that compute. Assumes nothing.
use Rattle.folds.specs.Folds as Folds
use Rattle.folds.specs.Lists as Lists
use Rattle.ot_layouts.specs.Numbers as Numbers
use Rattle.ot_layouts.specs.Values as Values
use Rattle.ot_layouts.specs.Coverage as Coverage
use Rattle.ot_layouts.specs.ClassDef as ClassDef
use Rattle.ot_layouts.specs.PairPos as PairPos
use Rattle.glyph_rules.specs.Entries as Entries
use Rattle.glyph_rules.specs.Estimates as Estimates
use Rattle.store_rules.specs.Store as Store
use Rattle.store_rules.specs.Reach as Reach
use Rattle.store_rules.specs.Appended as Appended
use Rattle.store_rules.specs.Header as Header
use Rattle.cut_rules.specs.Cuts as Cuts
use Rattle.call_rules.specs.Answers as Answers
use Rattle.call_rules.specs.Settings as Settings
use Rattle.call_rules.specs.Scratch as Scratch
use Rattle.call_rules.specs.Needs as Needs
use Rattle.call_rules.specs.Outcomes as Outcomes
use Rattle.pair_rules.specs.Rules as Rules
use Rattle.pair_rules.specs.Table as Table
use Rattle.pair_rules.specs.Written as Written
use Rattle.pair_rules.specs.Pairs as Pairs
use Rattle.pair_rules.specs.Calls as Calls

unfoldable pub computes : Unit {0}
unfolding Folds.computes Lists.computes Numbers.computes Values.computes Coverage.computes ClassDef.computes PairPos.computes Entries.computes Estimates.computes Store.computes Reach.computes Appended.computes Header.computes Cuts.computes Answers.computes Settings.computes Scratch.computes Needs.computes Outcomes.computes Rules.computes Table.computes Written.computes Pairs.computes Calls.computes
computes = tt
