-- `pair_sets::marked::sorted_in_order` meets its contract: the marks decide as the rows do. Assumes nothing.
use Prim.Native.Nat.{ℕ, ◌<◌}
use mathlib.Core.Path.{sym, ap, subst, ◌∙◌}
use lib.ListN.{replicate}
use Rattle.store_rules.specs.Store.{lent, child_of}
use Rattle.pair_sets.specs.Marked.{RowLeads}
use Rattle.pair_sets.proofs.Marks.{marks_decide}
use Rattle.pair_sets.proofs.marked.sorted_in_order.Goals as goal

pub mark_sets-requires : goal.mark_sets-requires
mark_sets-requires c = record { by_index = (λ k l. subst (λ (n : ℕ). RowLeads c.args.links.now n k) (sym c.marks-1.given) (c.requires.by_index.0 k l), c.requires.by_index.1); marks_value = (c.fill.ensures.after (λ y e. e)) ∙ ap (λ (n : ℕ). replicate n 0) (sym c.marks-1.given) }

pub marked_sorted-requires : goal.marked_sorted-requires
marked_sorted-requires c = (λ i l. c.requires.by_index_2.0 i (subst (λ (n : ℕ). i < n) (c.marks-2-1.given ∙ c.marks-1.given) l), c.requires.by_index_2.1)

pub returns : goal.returns
returns c k =
    let a = c.args in
    let long = c.marks-2-1.given ∙ c.marks-1.given in
    c.marked_sorted.ensures a.links.now k
    ∙ marks_decide (lent a.«data».now a.objects.now a.links.now k) a.size c.requires.by_index.1 c.mark_sets.ensures
    (λ j l. subst (λ (n : ℕ). child_of (lent a.«data».now a.objects.now a.links.now k) j < n) (sym long) (c.requires.by_index.0 j l).child)
