-- What a split takes: the counts that it leaves, and that what is lent keeps its length. Assumes nothing.
use Prim.Native.Nat.{ℕ, ◌+◌}
use mathlib.Core.Path.{◌≡◌, refl, ◌∙◌}
use mathlib.Core.List.{List}
use native.Mathlib.Omega.{arith}
use lib.ListN.{length}
use Rattle.folds.specs.Lists.{join}
use Rattle.folds.proofs.Put.{length-put}
use Rattle.ot_layouts.specs.PairPos.{item_at}
use Rattle.store_rules.specs.Store.{Store}
use Rattle.store_rules.specs.Appended.{row_numbers, appended, with_bytes, with_tail}
use Rattle.store_rules.proofs.Appended as behind
use Rattle.store_rules.proofs.Changed.{short_rows}
use Rattle.store_rules.proofs.LinkRows.{rows_numbers}
use Rattle.cut_rules.specs.Ranges.{from}
use Rattle.pair_rules.specs.Table.{shape}
use Rattle.pair_rules.specs.Written.{split_store, store_after, kept_table, new_links, new_of, need_links}
use Rattle.pair_after.proofs.Ready.{Ready}
use Rattle.pair_after.proofs.NewBytes.{counted, shortened, counted_length, row_inside, room}
use Rattle.pair_after.proofs.LinksCounted.{many_links}

module _ (s : Store) (t : ℕ) (cs : List ℕ) (g : Ready s t cs) where
  abbrev s' : Store
  s' = split_store s t cs

  -- ---- counts

  pub bytes_then : s'.byte_count ≡ s.byte_count + length (join (new_of s t cs))
  unfolding split_store store_after kept_table with_bytes with_tail appended
  bytes_then = refl

  pub links_then : s'.link_count ≡ s.link_count + need_links (shape s t) (length cs)
  unfolding split_store store_after appended
  links_then = many_links s t cs g

  -- ---- lengths

  pub bytes_length : length s'.bytes ≡ length s.bytes
  unfolding split_store store_after kept_table with_tail
  bytes_length = behind.bytes_length (shortened s t cs g) (new_of s t cs) (new_links s t (shape s t) cs) (room s t cs g) ∙ counted_length s t cs g

  pub rows_length : length s'.objects ≡ length s.objects
  unfolding split_store store_after kept_table with_bytes
  rows_length =
      behind.rows_long (shortened s t cs g) (new_of s t cs) (new_links s t (shape s t) cs) (room s t cs g)
      ∙ short_rows (counted s t cs g) t (item_at (shape s t) (from cs 0)) (row_inside s t cs g)

  pub links_length : length s'.links ≡ length s.links
  unfolding split_store store_after kept_table with_bytes with_tail appended
  links_length =
      let ls = new_links s t (shape s t) cs in
      length-put s.links 0 (row_numbers ls) (omega (arith, many_links s t cs g, rows_numbers ls, g.links_room))
