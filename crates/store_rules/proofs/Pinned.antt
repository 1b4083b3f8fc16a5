-- The store held against small stores, as one check; each line pins what its comment says. Assumes nothing.
use Rattle.std.specs.Prelude.{Some, None}
use Prim.Native.Nat.{ℕ, ◌+◌, ◌*◌, ◌/◌}
use mathlib.Core.Path.{◌≡◌, refl}
use mathlib.Core.Bool.{Bool, true, not, cond, ◌&&◌}
use mathlib.Core.List.{List, [], ◌∷◌, ◌++◌}
use lib.ListN.{length, replicate}
use lib.Dec.{eqb}
use Rattle.folds.specs.Folds as Folds
use Rattle.folds.specs.Lists as Lists
use Rattle.folds.specs.Lists.{among, is_empty, is_some}
use Rattle.folds.proofs.Compared as compared
use Rattle.folds.proofs.Compared.{same, every}
use Rattle.store_rules.specs.Store as Store
use Rattle.store_rules.specs.Store.{lent, per_link, head_of, tail_of, parent_of, child_of, sound, byte_room, object_room, link_room, bytes_of, handed_out, child_at, linked_at, linked_bytes, offset_of, of_span, all_at, orders_of}
use Rattle.store_rules.specs.Reach as Reach
use Rattle.store_rules.specs.Reach.{on_cycle, reach_of, item_size}
use Rattle.store_rules.specs.Appended as Appended
use Rattle.store_rules.specs.Appended.{link, numbers_of, row_numbers, appended, with_bytes, with_tail, new_number}
use Rattle.store_rules.specs.SlotLinks as SlotLinks
use Rattle.store_rules.specs.SlotLinks.{links_from, slot_links}
use Rattle.store_rules.specs.Header as Header
use Rattle.store_rules.specs.Header.{own_child, header_links, kept}

-- ---- stores

-- the row of one link
abbrev pub link_row : ℕ → ℕ → ℕ → List ℕ
link_row p q c = numbers_of (link p q c)

-- object rows for objects of these sizes, packed from a byte on
unfoldable pub packed : ℕ → List ℕ → List ℕ
packed at [] = []
packed at (n ∷ ns) = at ∷ (at + n) ∷ packed (at + n) ns

-- a store of objects of these sizes
unfoldable pub store_of : List ℕ → List ℕ → List ℕ → Store.Store
store_of bytes sizes links =
    record {
      bytes = bytes;
      objects = packed 0 sizes;
      links = links;
      byte_count = length bytes;
      object_count = length sizes;
      link_count = length links / per_link;
    }

-- with these bytes, objects and links to spare, none of them zero
unfoldable pub roomy : ℕ → ℕ → ℕ → Store.Store → Store.Store
roomy bytes objects links s =
    record {
      bytes = s.bytes ++ replicate bytes 77;
      objects = s.objects ++ replicate (2 * objects) 77;
      links = s.links ++ replicate (per_link * links) 77;
      byte_count = s.byte_count;
      object_count = s.object_count;
      link_count = s.link_count;
    }

-- a store of these object rows and links, in 20 bytes of which 18 are in use
unfoldable pub rowed : List ℕ → List ℕ → Store.Store
rowed rows links =
    record { bytes = Folds.run 0 20; objects = rows; links = links; byte_count = 18; object_count = length rows / 2; link_count = length links / per_link }

-- objects of 8, 4, 0 and 6 bytes with these links
unfoldable pub linked : List ℕ → Store.Store
linked links = rowed (packed 0 (8 ∷ 4 ∷ 0 ∷ 6 ∷ [])) links

-- 0 leads to 1 twice, by way of its items at 2 and 4, and 1 leads on to 3
unfoldable pub twice : Store.Store
twice = linked (link_row 0 2 1 ++ link_row 0 4 1 ++ link_row 1 0 3)

-- its items, of two bytes each
abbrev items : ℕ → ℕ → Store.Link → Bool
items lo hi = of_span 0 (2 + 2 * lo) (2 + 2 * hi)

-- one object, with a row for a second one and half of a third
unfoldable pub spare : Store.Store
spare = lent (Folds.run 0 20) (0 ∷ 8 ∷ 9 ∷ 11 ∷ 72 ∷ []) (link_row 0 2 0 ++ (73 ∷ [])) (18 ∷ 1 ∷ 0 ∷ [])

-- three object rows, two of them in use, and n of these links
unfoldable pub pair : ℕ → List ℕ → Store.Store
pair n links = lent (Folds.run 0 20) (packed 0 (8 ∷ 4 ∷ 6 ∷ [])) links (18 ∷ 2 ∷ n ∷ [])

-- with a new object of two bytes, and one link
unfoldable pub more : Store.Store
more = appended spare ((9 ∷ 9 ∷ []) ∷ []) (link 0 4 1 ∷ [])

-- ---- what they pin

-- `sound`: objects in order, turned round, past the data in use; links past the parent, to no object, of no object, of width 3, twice at a place, out of order
unfoldable pub soundness : List Bool
soundness =
    sound (linked []) ∷ sound twice ∷ sound (rowed (0 ∷ 16 ∷ 16 ∷ 18 ∷ []) [])
    ∷ not (sound (rowed (0 ∷ 16 ∷ 15 ∷ 18 ∷ []) [])) ∷ not (sound (rowed (16 ∷ 0 ∷ 16 ∷ 18 ∷ []) [])) ∷ not (sound (rowed (0 ∷ 16 ∷ 16 ∷ 19 ∷ []) []))
    ∷ sound (linked (link_row 0 6 1)) ∷ not (sound (linked (link_row 0 7 1))) ∷ not (sound (linked (link_row 0 2 4))) ∷ not (sound (linked (link_row 4 2 1)))
    ∷ not (sound (linked (0 ∷ 2 ∷ 3 ∷ 1 ∷ 0 ∷ []))) ∷ not (sound (linked (link_row 0 2 1 ++ link_row 0 2 3))) ∷ not (sound (linked (link_row 1 0 3 ++ link_row 0 2 1)))
    ∷ not (sound (linked (0 ∷ 2 ∷ 1 ∷ 1 ∷ 0 ∷ [])))
    -- a parent whose row is not in use, and a link that is lent but for its kind
    ∷ sound (pair 3 (link_row 0 2 1 ++ link_row 0 4 1 ++ link_row 1 0 0)) ∷ not (sound (pair 3 (link_row 0 2 1 ++ link_row 0 4 1 ++ link_row 2 0 0)))
    ∷ not (sound (pair 2 (link_row 0 2 1 ++ (0 ∷ 4 ∷ 2 ∷ 1 ∷ []))))
    ∷ sound (linked (link_row 0 2 1 ++ link_row 0 3 3)) ∷ not (sound (linked (link_row 0 4 1 ++ link_row 0 2 3)))
    ∷ []

-- the row of an order-only link
abbrev pub order_row : ℕ → ℕ → List ℕ
order_row p c = p ∷ 0 ∷ 0 ∷ c ∷ 1 ∷ []

-- `sound`, of order-only links: behind the parent's offsets and by child, each once; also of an object without bytes, and to itself; but no other kind, and no
-- position or width, nor an offset without them
unfoldable pub orders : List Bool
orders =
    sound (linked (link_row 0 2 1 ++ order_row 0 1)) ∷ not (sound (linked (order_row 0 1 ++ link_row 0 2 1)))
    ∷ sound (linked (order_row 0 1 ++ order_row 0 3)) ∷ not (sound (linked (order_row 0 3 ++ order_row 0 1))) ∷ not (sound (linked (order_row 0 1 ++ order_row 0 1)))
    ∷ sound (linked (order_row 0 3 ++ link_row 1 0 3)) ∷ sound (linked (order_row 2 1)) ∷ sound (linked (order_row 1 1))
    ∷ sound (linked (link_row 0 0 1 ++ order_row 0 1)) ∷ not (sound (linked (link_row 0 2 1 ++ link_row 0 2 3)))
    ∷ not (sound (linked (0 ∷ 0 ∷ 0 ∷ 1 ∷ 2 ∷ []))) ∷ not (sound (linked (0 ∷ 2 ∷ 0 ∷ 1 ∷ 1 ∷ []))) ∷ not (sound (linked (0 ∷ 0 ∷ 2 ∷ 1 ∷ 1 ∷ [])))
    ∷ not (sound (linked (0 ∷ 0 ∷ 0 ∷ 1 ∷ 0 ∷ []))) ∷ not (sound (linked (order_row 0 4))) ∷ not (sound (linked (order_row 4 0)))
    -- "not followed by sizes, loop checks or pair readings", and looked at by no check of slots
    ∷ eqb (reach_of (linked (link_row 0 2 1 ++ order_row 0 3 ++ order_row 1 3)) (offset_of 0)) 4
    ∷ not (on_cycle (linked (link_row 0 2 1 ++ order_row 1 0)) 0) ∷ not (on_cycle (linked (order_row 0 0)) 0)
    ∷ not (is_some (child_at (linked (order_row 0 1)) 0 0)) ∷ eqb (linked_at (linked (link_row 0 0 3 ++ order_row 0 1)) 0 0) 3
    ∷ all_at (linked (link_row 0 2 1 ++ order_row 0 3)) 0 (λ q. eqb q 2) ∷ eqb (links_from (linked (link_row 0 2 1 ++ order_row 0 3)) 0) 1
    -- `orders_of`: in order, of this object alone; `kept`: an order-only link stays as it is
    ∷ same (orders_of (linked (link_row 0 2 2 ++ order_row 0 1 ++ order_row 0 3 ++ order_row 1 0)) 0) (1 ∷ 3 ∷ []) ∷ is_empty (orders_of twice 0)
    ∷ same (row_numbers (kept (0 ∷ []) 5 20 (record { parent = 5; position = 0; width = 0; child = 3; kind = 1 }) ∷ [])) (order_row 5 3)
    ∷ []

-- rows for so many objects and links, and bytes, all beyond what is lent or beyond the maxima
unfoldable pub counted : ℕ → ℕ → ℕ → Store.Store
counted b o l = record { bytes = replicate 3 0; objects = replicate 5 0; links = replicate 11 0; byte_count = b; object_count = o; link_count = l }

-- `byte_room`, `object_room`, `link_room`: what is lent, in whole rows; and the counts have to fit
unfoldable pub rooms : List Bool
rooms =
    eqb (byte_room 3) 3 ∷ eqb (byte_room 16777217) 16777216 ∷ eqb (object_room 5) 2 ∷ eqb (object_room 131074) 65536 ∷ eqb (link_room 11) 2 ∷ eqb (link_room 1310725) 262144
    ∷ sound (counted 3 2 0) ∷ not (sound (counted 4 0 0)) ∷ not (sound (counted 0 3 0)) ∷ not (sound (counted 0 0 3))
    ∷ []

-- a store of nothing but counts
unfoldable pub counts : Store.Store
counts = lent [] [] [] (5 ∷ 6 ∷ 7 ∷ [])

-- `lent`: the counts in their order; `bytes_of`, `handed_out`: from head to tail, nothing where the store is not sound or the object is not in use
-- `child_at`, `linked_at`, `all_at`: by parent and position
unfoldable pub lookups : List Bool
lookups =
    same (counts.byte_count ∷ counts.object_count ∷ counts.link_count ∷ []) (5 ∷ 6 ∷ 7 ∷ []) ∷ is_empty (handed_out spare 1)
    ∷ same (bytes_of twice 1) (8 ∷ 9 ∷ 10 ∷ 11 ∷ []) ∷ same (handed_out twice 1) (8 ∷ 9 ∷ 10 ∷ 11 ∷ []) ∷ is_empty (handed_out twice 4) ∷ is_empty (handed_out (linked (link_row 4 2 1)) 1)
    ∷ same (handed_out twice 3) (Folds.run 12 6) ∷ same (linked_bytes twice 1 0) (Folds.run 12 6)
    -- what is not there reads as 0
    ∷ same ((lent [] [] [] []).byte_count ∷ (lent [] [] [] []).object_count ∷ (lent [] [] [] []).link_count ∷ []) (0 ∷ 0 ∷ 0 ∷ [])
    ∷ same (head_of twice 9 ∷ tail_of twice 9 ∷ parent_of twice 9 ∷ child_of twice 9 ∷ linked_at twice 3 0 ∷ []) (0 ∷ 0 ∷ 0 ∷ 0 ∷ 0 ∷ [])
    ∷ eqb (linked_at twice 1 0) 3 ∷ not (is_some (child_at twice 1 2)) ∷ not (is_some (child_at twice 0 0))
    ∷ all_at twice 0 (λ q. among q (2 ∷ 4 ∷ [])) ∷ not (all_at twice 0 (λ q. eqb q 2)) ∷ all_at twice 3 (λ q. eqb q 9)
    ∷ []

-- its items at 2 and 4 lead to 1 and to 3
unfoldable pub apart : Store.Store
apart = linked (link_row 0 2 1 ++ link_row 0 4 3)

-- `reach_of`: each once, and on from child to child; `item_size`: what has been seen since item a is left out; `on_cycle`: by a way of any length
unfoldable pub reaches : List Bool
reaches =
    eqb (reach_of twice (offset_of 0)) 10 ∷ eqb (reach_of twice (offset_of 1)) 6 ∷ eqb (reach_of twice (offset_of 3)) 0
    ∷ eqb (item_size twice items 0 0) 10 ∷ eqb (item_size twice items 0 1) 0 ∷ eqb (item_size twice items 1 1) 10
    ∷ eqb (reach_of apart (offset_of 0)) 10 ∷ eqb (item_size apart items 0 0) 4 ∷ eqb (item_size apart items 0 1) 6
    -- `of_span`: of this parent alone
    ∷ eqb (item_size (linked (link_row 0 2 2 ++ link_row 3 2 1)) items 0 0) 0
    ∷ on_cycle (linked (link_row 0 2 1 ++ link_row 3 0 3)) 3
    ∷ not (on_cycle twice 0) ∷ on_cycle (linked (link_row 0 2 1 ++ link_row 1 0 3 ++ link_row 3 0 0)) 0 ∷ on_cycle (linked (link_row 0 2 0)) 0
    ∷ not (on_cycle (linked (link_row 0 2 1 ++ link_row 1 0 1)) 0)
    ∷ []

-- links and counts as in `twice`
unfoldable pub as_twice : Store.Store → Bool
as_twice s = same s.links twice.links && same (s.byte_count ∷ s.object_count ∷ s.link_count ∷ []) (18 ∷ 4 ∷ 3 ∷ [])

-- `appended`: bytes, rows and links where those in use end, what lies past them as it was; `with_bytes`, `with_tail`, `new_number`
unfoldable pub added : List Bool
added =
    same more.bytes (Folds.run 0 18 ++ (9 ∷ 9 ∷ [])) ∷ same more.objects (packed 0 (8 ∷ []) ++ (18 ∷ 20 ∷ 72 ∷ [])) ∷ same more.links (link_row 0 4 1 ++ (73 ∷ []))
    ∷ same (more.byte_count ∷ more.object_count ∷ more.link_count ∷ []) (20 ∷ 2 ∷ 1 ∷ [])
    ∷ same (bytes_of (with_bytes twice 9 (7 ∷ [])) 1) (8 ∷ 7 ∷ 10 ∷ 11 ∷ []) ∷ same (bytes_of (with_tail twice 1 10) 1) (8 ∷ 9 ∷ [])
    ∷ same (appended spare ((9 ∷ 9 ∷ []) ∷ (8 ∷ []) ∷ []) []).objects (0 ∷ 8 ∷ 18 ∷ 20 ∷ 20 ∷ 21 ∷ [])
    ∷ as_twice (with_bytes twice 9 (7 ∷ [])) ∷ same (with_bytes twice 9 (7 ∷ [])).objects twice.objects
    ∷ as_twice (with_tail twice 1 10) ∷ same (with_tail twice 1 10).bytes twice.bytes
    ∷ eqb (new_number twice 3 2) 10
    ∷ []

-- `links_from`: the links of one object; `slot_links`: one at each slot that has a child, `slot_link` by `slot_link`
unfoldable pub slotted : List Bool
slotted =
    eqb (links_from twice 0) 2 ∷ eqb (links_from twice 1) 1 ∷ eqb (links_from twice 3) 0
    ∷ same (row_numbers (slot_links 5 4 3 (λ k. cond (eqb k 1) None (Some (7 + k))) 3)) (link_row 5 4 7 ++ link_row 5 10 9) ∷ is_empty (row_numbers (slot_links 5 4 3 Some 0))
    ∷ []

-- `own_child`, `header_links`, `kept`: own parts at 2 and 8 are new objects in their order, others lead where they led, and so do other parents' links
unfoldable pub headers : List Bool
headers =
    same (own_child (2 ∷ 8 ∷ []) 20 2 9 ∷ own_child (2 ∷ 8 ∷ []) 20 8 9 ∷ own_child (2 ∷ 8 ∷ []) 20 10 9 ∷ own_child (2 ∷ 8 ∷ []) 20 1 9 ∷ []) (20 ∷ 21 ∷ 9 ∷ 9 ∷ [])
    ∷ same (row_numbers (header_links (2 ∷ 8 ∷ []) (2 ∷ 8 ∷ 10 ∷ []) 20 (λ q. q + 100))) (link_row 20 2 21 ++ link_row 20 8 22 ++ link_row 20 10 110)
    ∷ same (row_numbers (kept (2 ∷ 8 ∷ []) 5 20 (record { parent = 5; position = 8; width = 7; child = 3; kind = 0 }) ∷ [])) (5 ∷ 8 ∷ 7 ∷ 21 ∷ 0 ∷ [])
    ∷ same (row_numbers (kept (2 ∷ 8 ∷ []) 5 20 (record { parent = 5; position = 10; width = 7; child = 3; kind = 0 }) ∷ [])) (5 ∷ 10 ∷ 7 ∷ 3 ∷ 0 ∷ [])
    ∷ same (row_numbers (kept (2 ∷ 8 ∷ []) 5 20 (record { parent = 6; position = 8; width = 7; child = 3; kind = 0 }) ∷ [])) (6 ∷ 8 ∷ 7 ∷ 3 ∷ 0 ∷ [])
    ∷ []

pub pinned : every (soundness ++ orders ++ rooms ++ lookups ++ reaches ++ added ++ headers ++ slotted) ≡ true
unfolding Folds.computes Lists.computes compared.computes Store.computes Reach.computes Appended.computes Header.computes packed rowed linked twice spare pair more soundness orders counted rooms counts lookups apart reaches as_twice added headers SlotLinks.computes slotted
pinned = refl
