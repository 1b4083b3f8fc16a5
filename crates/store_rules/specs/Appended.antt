-- A store with objects and links added: "New objects are packed from the old data count on." Assumes nothing.
use Rattle.std.specs.Prelude.{ℕ, ◌+◌, ◌*◌, List, [], ◌∷◌, ◌++◌, length, set}
use Rattle.folds.specs.Lists.{put, join}
use Rattle.store_rules.specs.Store.{Store, Link}

-- their rows, "packed from the old data count on"
unfoldable pub rows_from : ℕ → List (List ℕ) → List ℕ
rows_from at [] = []
rows_from at (x ∷ xs) = at ∷ (at + length x) ∷ rows_from (at + length x) xs

-- a new link, which is an offset: order-only links "are not given to new" objects
abbrev pub link : ℕ → ℕ → ℕ → Link
link p q c = record { parent = p; position = q; width = 2; child = c; kind = 0 }

-- the numbers of a link's row
abbrev pub numbers_of : Link → List ℕ
numbers_of l = l.parent ∷ l.position ∷ l.width ∷ l.child ∷ l.kind ∷ []

-- links as the numbers of their rows
unfoldable pub row_numbers : List Link → List ℕ
row_numbers [] = []
row_numbers (l ∷ ls) = numbers_of l ++ row_numbers ls

-- ---- the store with them

-- new objects stand behind those in use, and these are the links; what lies past the new counts stays
unfoldable pub appended : Store → List (List ℕ) → List Link → Store
appended s new ls =
    record {
      bytes = put s.bytes s.byte_count (join new);
      objects = put s.objects (2 * s.object_count) (rows_from s.byte_count new);
      links = put s.links 0 (row_numbers ls);
      byte_count = s.byte_count + length (join new);
      object_count = s.object_count + length new;
      link_count = length ls;
    }

-- other bytes from place a on
unfoldable pub with_bytes : Store → ℕ → List ℕ → Store
with_bytes s a xs =
    record {
      bytes = put s.bytes a xs;
      objects = s.objects;
      links = s.links;
      byte_count = s.byte_count;
      object_count = s.object_count;
      link_count = s.link_count;
    }

-- object i ends at e
unfoldable pub with_tail : Store → ℕ → ℕ → Store
with_tail s i e =
    record {
      bytes = s.bytes;
      objects = set s.objects (2 * i + 1) e;
      links = s.links;
      byte_count = s.byte_count;
      object_count = s.object_count;
      link_count = s.link_count;
    }

-- new table j, where each comes with its own parts as so many objects
abbrev pub new_number : Store → ℕ → ℕ → ℕ
new_number s per j = s.object_count + per * j

-- all of this file's definitions, for checks that compute
unfoldable pub computes : Unit {0}
unfolding rows_from row_numbers appended with_bytes with_tail
computes = tt
