-- The store that a compaction leaves, of which the objects for which `keep` holds are kept, and what it reports. Assumes nothing.
use Rattle.std.specs.Prelude.{ℕ, ◌*◌, Bool, cond, not, ◌&&◌, List, [], ◌∷◌, map, replicate, eqb}
use Rattle.folds.specs.Folds.{sum, flat}
use Rattle.folds.specs.Lists.{put, sift}
use Rattle.store_rules.specs.Store.{Store, Link, per_link, joining, head_of, size_of, bytes_of, links_of}
use Rattle.store_rules.specs.Appended.{appended}
use Rattle.compact_rules.specs.Kept.{renumber, head_then}

-- the kept objects' bytes, "in the old order"
unfoldable pub kept_objects : Store → (ℕ → Bool) → List (List ℕ)
kept_objects s keep = flat (λ i. cond (keep i) (bytes_of s i ∷ []) []) s.object_count

-- "drop order-only links that lose an end"; a kind 0 link of a kept object leads to a kept one
abbrev pub keeps_ends : (ℕ → Bool) → Link → Bool
keeps_ends keep l = keep l.parent && keep l.child

-- "renumber objects and links"
abbrev pub renumbered : (ℕ → ℕ) → Link → Link
renumbered new l = joining (new l.parent) (new l.child) l

-- the links that stay, in the order of their rows
unfoldable pub kept_links : Store → (ℕ → Bool) → List Link
kept_links s keep = map (renumbered (renumber keep)) (sift (keeps_ends keep) (links_of s))

-- zero at the first n places, then as it came
unfoldable pub wiped : List ℕ → ℕ → List ℕ
wiped xs n = put xs 0 (replicate n 0)

-- the store with nothing in use, and zero where something was
unfoldable pub emptied : Store → Store
emptied s =
    record {
      bytes = wiped s.bytes s.byte_count;
      objects = wiped s.objects (2 * s.object_count);
      links = wiped s.links (per_link * s.link_count);
      byte_count = 0;
      object_count = 0;
      link_count = 0;
    }

-- what is kept is packed into the emptied store: "what lies between the new and the old counts is zero"
unfoldable pub compacted : Store → (ℕ → Bool) → Store
compacted s keep = appended (emptied s) (kept_objects s keep) (kept_links s keep)

-- a kept object's "place changed (the head)"
abbrev pub displaced : Store → (ℕ → Bool) → ℕ → Bool
displaced s keep i = keep i && not (eqb (head_then s keep i) (head_of s i))

-- "bytes moved: the summed lengths of kept objects whose place changed"
unfoldable pub bytes_moved : Store → (ℕ → Bool) → ℕ
bytes_moved s keep = sum (λ i. cond (displaced s keep i) (size_of s i) 0) s.object_count

-- "The root list is rewritten in the new numbers"
abbrev pub roots_then : (ℕ → Bool) → List ℕ → List ℕ
roots_then keep roots = map (renumber keep) roots

-- all of this file's definitions, for checks that compute
unfoldable pub computes : Unit {0}
unfolding kept_objects kept_links wiped emptied compacted bytes_moved
computes = tt
