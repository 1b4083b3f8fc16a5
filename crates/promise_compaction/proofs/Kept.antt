-- What is kept is what can be reached, each under its new number with its bytes and its links. Assumes nothing.
use Prim.Native.Nat.{ℕ}
use mathlib.Core.Path.{◌≡◌, ap, ◌∙◌}
use mathlib.Core.Bool.{true}
use mathlib.Core.List.{List}
use native.Mathlib.Omega.{arith}
use Rattle.store_rules.specs.Store.{Store}
use Rattle.store_rules.proofs.Sound.{Fits}
use Rattle.store_rules.proofs.Lookups.{mapped}
use Rattle.compact_rules.specs.Kept.{kept, renumber}
use Rattle.compact_rules.specs.Compacted.{compacted, kept_links}
use Rattle.compact_rules.specs.Calls.{roots_used}
use Rattle.compact_rules.proofs.Numbers.{number_less, number_from}
use Rattle.compact_rules.proofs.Kept.{keeps, kept_used, kept_wanted, wanted_kept}
use Rattle.compact_rules.proofs.Objects.{objects_left_lem, kept_many, number_used, bytes_kept}
use Rattle.compact_rules.proofs.Links.{links_left_lem, child_kept}
use Rattle.compact_rules.proofs.Orders.{orders_left}
use Rattle.promise_compaction.specs.Kept.{ObjectKept, AllKept}

module _ (s : Store) (f : Fits s) (roots : List ℕ) (used : roots_used s.object_count roots ≡ true) where
  object_kept : (i : ℕ) → kept s roots i ≡ true → ObjectKept s roots (compacted s (kept s roots)) i
  object_kept i h =
      let k = keeps s f roots used in
      record {
        used = omega (arith, number_used s f (kept s roots) k i h, kept_many s (kept s roots), objects_left_lem s (kept s roots));
        bytes = bytes_kept s f (kept s roots) k i h;
        child = λ q c e. child_kept s f (kept s roots) k i h q ∙ ap (mapped (renumber (kept s roots))) e;
        no_child = λ q e. child_kept s f (kept s roots) k i h q ∙ ap (mapped (renumber (kept s roots))) e;
        orders = orders_left s f (kept s roots) i h;
      }

  pub all-kept : AllKept s roots (compacted s (kept s roots))
  unfolding kept_links
  all-kept =
      record {
        wanted = λ i h. kept_wanted s f roots used i (kept_used s f roots used i h) h;
        all_wanted = wanted_kept s f roots used;
        in_use = kept_used s f roots used;
        in_order = λ i j h l. number_less (kept s roots) i j h l;
        object = object_kept;
        no_other = λ m l. let (i, a, h, e) = number_from (kept s roots) s.object_count m (omega (arith, objects_left_lem s (kept s roots))) in (i, h, e);
        links = links_left_lem s (kept s roots);
      }
