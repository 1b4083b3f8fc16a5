-- `lookup_checks::fitting::rows_lead_to` meets its contract: by what each row leads to. Assumes nothing.
use Prim.Native.Nat.{ℕ, ◌+◌, ◌-◌, ◌*◌}
use mathlib.Core.Path.{◌≡◌, refl}
use borrow.Author.Rules.{rules}
use borrow.Author.Tests.{tests}
use lib.ListN.{get_or}
use Rattle.std.proofs.lemmas.Iterator.{cases_from_any, YieldsList-from_range}
use Rattle.store_rules.specs.Store.{per_link, row_child}
use Rattle.lookup_checks.proofs.Leading.{led_to}
use Rattle.lookup_checks.proofs.fitting.rows_lead_to.Goals as goal

pub returns : goal.returns
returns c =
    let a = c.args in
    let lead : ℕ → ℕ = λ row. get_or a.links.now (per_link * row + row_child) 0 in
    led_to lead a.table a.rows.first (a.rows.after - a.rows.first) c.any.result
    (cases_from_any _ _ _ (λ row. lead row ≡ a.table) (λ row. lead row ≡ a.table → ⊥) c.any.ensures.ran
    (YieldsList-from_range a.rows.first a.rows.after (a.rows.after - a.rows.first) refl refl)
    (λ x q k. search (rules, tests)) (λ x q k. search (rules, tests)))
