-- `mark_split::split_planned` meets its contract: nothing to cut, no room, or the split. Assumes nothing.
use Prim.Native.Nat.{ℕ}
use mathlib.Core.Path.{◌≡◌, refl, sym}
use mathlib.Core.List.{List}
use lib.ListN.{length}
use borrow.Author.Tests.{not-true, not-false}
use Rattle.folds.specs.Lists.{part}
use Rattle.folds.proofs.Fronts.{front_long}
use Rattle.store_rules.specs.Store.{Store, lent}
use Rattle.call_lists.proofs.Split.{nothing, refused, carried}
use Rattle.mark_rules.specs.Written.{needed, split_store, new_tables}
use Rattle.mark_rules.specs.Calls.{last_cases}
use Rattle.mark_split.proofs.Fronts.{fronts_lent}
use Rattle.mark_split.proofs.SplitAt.{tables_many}
use mathlib.Core.Path.{ap}
use mathlib.Core.Bool.{not}
use Rattle.mark_split.proofs.split_planned.Goals as goal

pub returns-then-count-eq0 : goal.returns-then-count-eq0
unfolding last_cases
returns-then-count-eq0 c =
    let store : Store = let a = c.args in lent a.«data».now a.objects.now a.links.now a.counts.now in
    let places : List ℕ = part c.args.cuts.now 0 c.args.plan.cuts in
    let counted : c.args.plan.cuts ≡ length (places) = sym (front_long c.args.cuts.now c.args.plan.cuts c.requires.cut_room) in
    let a = c.args in
    let s = store in
    nothing s a.new_tables.now (needed s a.table) (split_store s a.table) (new_tables s a.table) (places) (counted) c.if-count-eq0.true

pub split_at-split-requires : goal.split_at-split-requires
split_at-split-requires c = fronts_lent c.requires c.if-count-eq0.false

pub returns-then-not-split : goal.returns-then-not-split
unfolding last_cases
returns-then-not-split c =
    let store : Store = let a = c.args in lent a.«data».now a.objects.now a.links.now a.counts.now in
    let places : List ℕ = part c.args.cuts.now 0 c.args.plan.cuts in
    let counted : c.args.plan.cuts ≡ length (places) = sym (front_long c.args.cuts.now c.args.plan.cuts c.requires.cut_room) in
    let a = c.args in
    let s = store in
    refused s a.new_tables.now (needed s a.table) (split_store s a.table) (new_tables s a.table) (places) (counted) c.if-count-eq0.false
    c.split_at-split.ensures (not-true _ (ap not c.if-not-split.true)) refl

pub returns : goal.returns
unfolding last_cases
returns c =
    let store : Store = let a = c.args in lent a.«data».now a.objects.now a.links.now a.counts.now in
    let places : List ℕ = part c.args.cuts.now 0 c.args.plan.cuts in
    let counted : c.args.plan.cuts ≡ length (places) = sym (front_long c.args.cuts.now c.args.plan.cuts c.requires.cut_room) in
    let a = c.args in
    let s = store in
    carried s a.new_tables.now (needed s a.table) (split_store s a.table) (new_tables s a.table) (places) (counted) c.if-count-eq0.false
    c.split_at-split.ensures (not-false _ (ap not c.if-not-split.false)) (tables_many s a.table (places))
