-- Each table with its own parts is what writing its range afresh would give, also where new tables were entered. Assumes nothing.
use Rattle.std.specs.Prelude.{Option, unwrap_or}
use Prim.Native.Nat.{ℕ, ◌+◌, ◌≤◌}
use mathlib.Core.Path.{◌≡◌, sym, ap, subst, ◌∙◌}
use mathlib.Core.Bool.{true}
use mathlib.Core.List.{List}
use Rattle.folds.specs.Lists.{among}
use Rattle.ot_layouts.specs.Coverage.{cover_glyphs}
use Rattle.ot_layouts.specs.ClassDef.{class_of}
use Rattle.ot_layouts.specs.PairPos.{cover_at, class1_at, class2_at, item_at}
use Rattle.store_rules.specs.Store.{Store, bytes_of, child_at, linked_at, linked_bytes}
use Rattle.store_rules.specs.Appended.{new_number}
use Rattle.store_rules.proofs.Lookups.{linked_used}
use Rattle.pair_rules.specs.Table.{cut_places, shape}
use Rattle.pair_rules.specs.Written.{split_store, per_table}
use Rattle.pair_rules.proofs.SameReading.{refusal_same}
use Rattle.lookup_rules.specs.Written.{lookup_store}
use Rattle.promise_pairs.specs.Demands.{Afresh, AllAfresh}
use Rattle.promise_pairs.proofs.GoesAhead.{store_written}
use Rattle.promise_pairs.proofs.WrittenAfresh.{written_afresh}
use Rattle.promise_lookups.specs.Demands.{EnteredAfresh}
use Rattle.promise_lookups.proofs.Answered.{store_entered_lem}
use Rattle.lookup_after.proofs.Entering.{Entering}
use Rattle.promise_lookups.proofs.GoesAhead.{entering, splits}
use Rattle.lookup_after.proofs.NewLookups.{fit', split_bytes}
use Rattle.promise_lookups.proofs.Kept.{table_child, around_table, OneOfTables, kept_table_lem, new_table_lem}

module _ (s : Store) (l t : ℕ) (cs : List ℕ) (e : Entering s l t cs) where
  abbrev s' : Store
  s' = split_store s t cs

  abbrev s'' : Store
  s'' = lookup_store s l t cs

  -- one of the tables is what it is after the split
  module _ (u : ℕ) (one : OneOfTables s l t cs e u) where
    child_then : (q : ℕ) → child_at s'' u q ≡ child_at s' u q
    child_then q = table_child s l t cs e u q one.0 one.1

    linked_then : (q : ℕ) → linked_at s'' u q ≡ linked_at s' u q
    linked_then q = ap (λ (o : Option ℕ). unwrap_or o 0) (child_then q)

    bytes_then : (q : ℕ) → linked_bytes s'' u q ≡ linked_bytes s' u q
    bytes_then q = ap (bytes_of s'') (linked_then q) ∙ split_bytes s l t cs e (linked_at s' u q) (linked_used s' u (fit' s l t cs e) one.0 q)

    afresh_then : (lo hi : ℕ) → Afresh s t s' u lo hi → Afresh s t s'' u lo hi
    afresh_then lo hi a =
        record {
          readable = refusal_same (around_table s l t cs e u one.0 one.1) ∙ a.readable;
          covers = ap cover_glyphs (bytes_then cover_at) ∙ a.covers;
          cover_bytes = bytes_then cover_at ∙ a.cover_bytes;
          cover_new = subst (λ (c : ℕ). s.object_count ≤ c) (sym (linked_then cover_at)) a.cover_new;
          class_new = λ two. subst (λ (c : ℕ). s.object_count ≤ c) (sym (linked_then class1_at)) (a.class_new two);
          classes = λ two g h.
              ap (λ (b : List ℕ). class_of b g + lo) (bytes_then class1_at)
              ∙ a.classes two g (subst (λ (b : List ℕ). among g (cover_glyphs b) ≡ true) (bytes_then cover_at) h);
          class_bytes = λ two. bytes_then class1_at ∙ a.class_bytes two;
          shared = λ two. child_then class2_at ∙ a.shared two;
          items = λ i q x y. child_then (item_at (shape s t) i + q) ∙ a.items i q x y;
        }

  all_then : AllAfresh s t s' cs → AllAfresh s t s'' cs
  all_then a =
      let kept = kept_table_lem s l t cs e in
      record {
        kept = afresh_then t kept 0 _ a.kept;
        kept_bytes = split_bytes s l t cs e t kept.0 ∙ a.kept_bytes;
        fresh = λ j h. afresh_then (new_number s (per_table (shape s t)) j) (new_table_lem s l t cs e j h) _ _ (a.fresh j h);
        fresh_bytes = λ j h. split_bytes s l t cs e (new_number s (per_table (shape s t)) j) (new_table_lem s l t cs e j h).0 ∙ a.fresh_bytes j h;
      }

-- "Each table with its own parts is what writing its range afresh would give."
pub entered_afresh : EnteredAfresh
entered_afresh how s l t w list octets p =
    let cs = cut_places how s t in
    let split = splits how s l t w list p in
    rw (store_entered_lem how s l t w list p)
    (all_then s l t cs (entering how s l t w list p) (rw (store_written how s t w list split) at (written_afresh how s t w list octets split)))
