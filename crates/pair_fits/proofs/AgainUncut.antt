-- Edition 2 cuts no table again that cuts within its limit have made. Assumes nothing.
use Prim.Native.Nat.{ℕ}
use mathlib.Core.Path.{◌≡◌, sym, subst}
use mathlib.Core.Bool.{true}
use mathlib.Core.List.{List}
use lib.ListN.{get_or}
use Rattle.store_rules.specs.Store.{Store}
use Rattle.cut_rules.proofs.CutPlaces.{lo_at}
use Rattle.cut_rules.proofs.TablesUncut.{Restricts, ranges_uncut}
use Rattle.call_rules.specs.Settings.{second_edition}
use Rattle.pair_rules.specs.Table.{rule_of, cut_places}
use Rattle.pair_rules.specs.Written.{split_store}
use Rattle.pair_rules.proofs.TableCuts.{rule_count}
use Rattle.pair_after.proofs.Ready.{Ready}
use Rattle.pair_after.proofs.Resulting.{resulting_table}
use Rattle.pair_fits.specs.Guaranteed.{within_by2, AgainUncut}
use Rattle.pair_fits.proofs.PartRule.{restricts}

pub again_uncut : (s : Store) (t : ℕ) (cs : List ℕ) → Ready s t cs → within_by2 s t cs ≡ true → AgainUncut s t cs
unfolding cut_places within_by2
again_uncut s t cs g within u h =
    let w = resulting_table s t cs g u h in
    let old = rule_of second_edition s t in
    let new = rule_of second_edition (split_store s t cs) u in
    ranges_uncut old new cs within w.j w.some
    (subst (λ (n : ℕ). Restricts old (lo_at cs w.j) (get_or cs w.j n) new) (sym (rule_count second_edition s t)) (restricts s t cs g w.view))
