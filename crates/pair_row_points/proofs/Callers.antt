-- What a caller shows before it asks for the cut places of a table of format 2: the order of the glyphs. Assumes nothing.
use Prim.Native.Nat.{ℕ}
use mathlib.Core.Path.{◌≡◌, ap₂, ◌∙◌}
use mathlib.Core.List.{List, map}
use Rattle.folds.specs.Lists.{Bytes}
use Rattle.folds.specs.Ascending.{ascending}
use Rattle.store_rules.specs.Store.{Store}
use Rattle.pair_rules.specs.Table.{entries_of}
use Rattle.pair_rules.specs.Reads.{Reads}
use Rattle.pair_rules.proofs.Checks.{entries_ascend, entries_under}
use Rattle.glyph_sort.specs.Pairs.{pairs, keys_of, beside_of}
use Rattle.glyph_sort.specs.ByClass.{class_pairs}
use Rattle.glyph_class_parts.specs.ClassParts.{OrderedByClass}

-- classes and glyphs put in order by `sort_pairs`
pub sorted : {s : Store} {t : ℕ} → Reads s t → Bytes s.bytes → {ks bs ks' bs' : List ℕ} → ks ≡ map (λ e. e.class) (entries_of s t)
    → bs ≡ map (λ e. e.glyph) (entries_of s t)
    → ks' ≡ keys_of (ascending (pairs ks bs)) → bs' ≡ beside_of (ascending (pairs ks bs)) → OrderedByClass (entries_of s t) bs' ks'
unfolding class_pairs
sorted {s} {t} r bytes k b p q =
    record {
      up = entries_ascend s t r;
      under = entries_under s t r bytes;
      by_class = record {
        glyphs = q ∙ ap₂ (λ (x y : List ℕ). beside_of (ascending (pairs x y))) k b;
        classes = p ∙ ap₂ (λ (x y : List ℕ). keys_of (ascending (pairs x y))) k b;
      };
    }
