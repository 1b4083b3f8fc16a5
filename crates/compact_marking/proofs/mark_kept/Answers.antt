-- `compact_marking::mark_kept` meets its contract: the first k roots have been walked from. Assumes nothing.
use Prim.Native.Nat.{ℕ, ◌+◌}
use mathlib.Core.Path.{◌≡◌, refl, ap, ◌∙◌}
use mathlib.Core.List.{[], ◌∷◌, ◌++◌}
use native.Mathlib.Numerals.{add-one}
use lib.ListN.{get_or, take}
use lib.Seq.{take-suc, take_all}
use borrow.Author.Rules.{rules}
use Rattle.store_rules.specs.Store.{lent}
use Rattle.store_rules.proofs.Sound.{sound_fits}
use Rattle.compact_marking.proofs.Rooting.{none_rooted}
use Rattle.compact_marking.proofs.mark_kept.Goals as goal

pub prepare-requires : goal.prepare-requires
prepare-requires c = record { bytes = c.requires.by_index.0; objects = c.args.objects.now; is_sound = c.requires.by_index.1; room = c.requires.counts_in_bounds }

pub loop-root-init : goal.loop-root-init
loop-root-init c =
    let o = c.args.objects.now in
    let l = c.args.links.now in (
      search rules,
      (λ b sounds. none_rooted (lent b o l c.args.counts) _ (sound_fits (lent b o l c.args.counts) sounds) (c.prepare.ensures b o sounds)),
      refl,
    )

pub mark_root-requires : goal.mark_root-requires
mark_root-requires c = record { by_index = c.requires.by_index; root_bound = (c.requires.by_index_2 c.loop-root.root-index c.loop-root-test.true, (take c.loop-root.root-index c.args.roots.now, c.loop-root.invariant.1)) }

pub loop-root-preserved : goal.loop-root-preserved
loop-root-preserved c =
    let rs = c.args.roots.now in
    let k = c.loop-root.root-index in
    let more : take (k + 1) rs ≡ take k rs ++ (get_or rs k 0 ∷ []) = ap (λ (n : ℕ). take n rs) (add-one k) ∙ take-suc rs k 0 c.loop-root-test.true in (
      search rules,
      rw more (c.mark_root.ensures (take k rs) c.loop-root.invariant.1),
      c.walk-in-loop-root-1.given ∙ c.loop-root.invariant.2,
    )

pub shape_of-walk : goal.shape_of-walk
shape_of-walk c = c.loop-root.invariant.2 ∙ c.walk-1.given

pub returns : goal.returns
returns c = rw (take_all c.loop-root.root-index c.args.roots.now c.loop-root-test.false) at c.loop-root.invariant.1
