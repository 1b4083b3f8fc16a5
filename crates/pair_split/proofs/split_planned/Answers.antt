-- `pair_split::split_planned` meets its contract: nothing to cut, no room, or the split. Assumes nothing.
use Rattle.std.proofs.lemmas.Result.{err_from_is_err_and}
use Rattle.std.specs.Prelude.{is_ok}
use mathlib.Core.Path.{◌≡◌, sym, ap}
use mathlib.Core.List.{List}
use Prim.Native.Nat.{ℕ}
use lib.ListN.{length}
use Rattle.folds.specs.Lists.{part}
use Rattle.folds.proofs.Fronts.{front_long}
use Rattle.store_rules.specs.Store.{Store, lent}
use Rattle.call_rules.specs.Answers.{number}
use Rattle.call_lists.proofs.Split.{nothing, refused, carried}
use Rattle.pair_rules.specs.Written.{needed, split_store, new_tables}
use Rattle.pair_rules.specs.Calls.{last_cases}
use Rattle.pair_carrying.proofs.Counting.{tables_many}
use Rattle.pair_split.proofs.Fronts.{fronts_lent}
use Rattle.pair_split.proofs.SplitAt.{by_room, refusal_is}
use Rattle.pair_split.proofs.split_planned.Goals as goal

pub returns-then-count-eq0 : goal.returns-then-count-eq0
unfolding last_cases
returns-then-count-eq0 c =
    let a = c.args in
    let s : Store = lent a.«data».now a.objects.now a.links.now a.counts.now in
    let places : List ℕ = part a.cuts.now 0 a.plan.cuts in
    let counted : a.plan.cuts ≡ length places = sym (front_long a.cuts.now a.plan.cuts c.requires.cut_room) in
    nothing s a.new_tables.now (needed s a.table) (split_store s a.table) (new_tables s a.table) places counted c.if-count-eq0.true

pub split_at-requires : goal.split_at-requires
split_at-requires c = fronts_lent c.requires c.if-count-eq0.false

pub returns-in_err-split_at : goal.returns-in_err-split_at
unfolding last_cases
returns-in_err-split_at c w =
    let a = c.args in
    let s : Store = lent a.«data».now a.objects.now a.links.now a.counts.now in
    let places : List ℕ = part a.cuts.now 0 a.plan.cuts in
    let counted : a.plan.cuts ≡ length places = sym (front_long a.cuts.now a.plan.cuts c.requires.cut_room) in
    let d = c.split_at.ensures in
    let p = err_from_is_err_and c.from_residual.result c.from_residual.ensures.1 in
    rw (p.1, p.2)
    (refused s a.new_tables.now (needed s a.table) (split_store s a.table) (new_tables s a.table) places counted c.if-count-eq0.false (by_room d)
    (ap is_ok c.in_err-split_at.was) (ap number (refusal_is d c.in_err-split_at.was)) w)

pub returns : goal.returns
unfolding last_cases
returns c =
    let a = c.args in
    let s : Store = lent a.«data».now a.objects.now a.links.now a.counts.now in
    let places : List ℕ = part a.cuts.now 0 a.plan.cuts in
    let counted : a.plan.cuts ≡ length places = sym (front_long a.cuts.now a.plan.cuts c.requires.cut_room) in
    carried s a.new_tables.now (needed s a.table) (split_store s a.table) (new_tables s a.table) places counted c.if-count-eq0.false
    (by_room c.split_at.ensures) (ap is_ok c.in_ok-split_at.was) (tables_many s a.table places)
