-- "The object store": what the caller lends, when it is sound, an object's bytes, and the child at a parent's position. Assumes nothing.
use Rattle.std.specs.Prelude.{ℕ, zero, suc, ◌+◌, ◌-◌, ◌*◌, ◌/◌, min, Bool, true, cond, not, ◌&&◌, ◌||◌, List, [], ◌∷◌, map, length, get_or, leb, ltb, eqb, Option, Some, None, unwrap_or}
use Rattle.folds.specs.Folds.{all, before, upto}
use Rattle.folds.specs.Lists.{part, sift}

-- "Lent by the caller: data bytes; object rows (head, tail); link rows (parent, position, width, child); the count in use of each."; "Link rows gain a fifth
-- number, kind"
pub record Store : Type 0 where
  pub bytes : List ℕ
  pub objects : List ℕ
  pub links : List ℕ
  pub byte_count : ℕ
  pub object_count : ℕ
  pub link_count : ℕ

-- a store from what a call is lent, for contracts; the counts are three numbers
abbrev pub lent : List ℕ → List ℕ → List ℕ → List ℕ → Store
lent b o l c = record { bytes = b; objects = o; links = l; byte_count = get_or c 0 0; object_count = get_or c 1 0; link_count = get_or c 2 0 }

-- numbers in a link row
abbrev pub per_link : ℕ
per_link = 5

-- "link rows (parent, position, width, child)", and "a fifth number, kind": which number of a row is which
abbrev pub row_parent : ℕ
row_parent = 0

abbrev pub row_position : ℕ
row_position = 1

abbrev pub row_width : ℕ
row_width = 2

abbrev pub row_child : ℕ
row_child = 3

abbrev pub row_kind : ℕ
row_kind = 4

-- "Room is the smaller of lent length and maximum": "16,777,216 data bytes, 65,536 objects, 262,144 links"
unfoldable pub byte_room : ℕ → ℕ
byte_room n = min n 16777216

-- in objects, of two numbers each
unfoldable pub object_room : ℕ → ℕ
object_room n = min (n / 2) 65536

-- in link rows
unfoldable pub link_room : ℕ → ℕ
link_room n = min (n / per_link) 262144

-- object i: its head
abbrev pub head_of : Store → ℕ → ℕ
head_of s i = get_or s.objects (2 * i) 0

-- its tail
abbrev pub tail_of : Store → ℕ → ℕ
tail_of s i = get_or s.objects (2 * i + 1) 0

-- its length
abbrev pub size_of : Store → ℕ → ℕ
size_of s i = tail_of s i - head_of s i

-- "Object bytes from head to tail"
unfoldable pub bytes_of : Store → ℕ → List ℕ
bytes_of s i = part s.bytes (head_of s i) (tail_of s i)

-- number j of link row k
abbrev pub link_number : Store → ℕ → ℕ → ℕ
link_number s k j = get_or s.links (per_link * k + j) 0

-- its parent
abbrev pub parent_of : Store → ℕ → ℕ
parent_of s k = link_number s k row_parent

-- its position in the parent
abbrev pub position_of : Store → ℕ → ℕ
position_of s k = link_number s k row_position

-- its width
abbrev pub width_of : Store → ℕ → ℕ
width_of s k = link_number s k row_width

-- its child
abbrev pub child_of : Store → ℕ → ℕ
child_of s k = link_number s k row_child

-- its kind
abbrev pub kind_of : Store → ℕ → ℕ
kind_of s k = link_number s k row_kind

-- ---- links

-- the numbers of a link row
pub record Link : Type 0 where
  pub parent : ℕ
  pub position : ℕ
  pub width : ℕ
  pub child : ℕ
  pub kind : ℕ

-- the same link, of parent p at position q
abbrev pub placed_at : ℕ → ℕ → Link → Link
placed_at p q l = record { parent = p; position = q; width = l.width; child = l.child; kind = l.kind }

-- the same link, to child c
abbrev pub leading_to : ℕ → Link → Link
leading_to c l = record { parent = l.parent; position = l.position; width = l.width; child = c; kind = l.kind }

-- the same link, from parent p to child c
abbrev pub joining : ℕ → ℕ → Link → Link
joining p c l = record { parent = p; position = l.position; width = l.width; child = c; kind = l.kind }

-- row k as a link
abbrev pub link_at : Store → ℕ → Link
link_at s k = record { parent = parent_of s k; position = position_of s k; width = width_of s k; child = child_of s k; kind = kind_of s k }

-- the links in use, in the order of their rows
unfoldable pub links_of : Store → List Link
links_of s = upto (link_at s) s.link_count

-- "kind: 0 as now": the link is an offset, which is followed; any other is order-only, and says "place me after"
abbrev pub is_offset : Link → Bool
is_offset l = eqb l.kind 0

-- an offset of object p
abbrev pub offset_of : ℕ → Link → Bool
offset_of p l = is_offset l && eqb l.parent p

-- an order-only link of object p
abbrev pub order_of : ℕ → Link → Bool
order_of p l = not (is_offset l) && eqb l.parent p

-- ---- sound

-- "head ≤ tail ≤ data in use, each head at or after the tail before it"
unfoldable pub object_fits : Store → ℕ → Bool
object_fits s i = leb (before (tail_of s) i) (head_of s i) && leb (head_of s i) (tail_of s i) && leb (tail_of s i) s.byte_count

-- "Rows strictly ascend by (parent, kind, position, child)"
unfoldable pub row_before : Link → Link → Bool
row_before l m =
    ltb l.parent m.parent
    || eqb l.parent m.parent
    && (ltb l.kind m.kind || eqb l.kind m.kind && (ltb l.position m.position || eqb l.position m.position && ltb l.child m.child))

-- two offsets of one parent at one position
unfoldable pub one_position : Link → Link → Bool
one_position l m = offset_of m.parent l && is_offset m && eqb l.position m.position

-- the row comes behind the one before, "and no parent has two kind 0 links at one position": such rows would follow each other. What this says of any two rows
-- is in proofs/RowsSentence
unfoldable pub ascends : Store → ℕ → Bool
ascends s zero = true
ascends s (suc k) = row_before (link_at s k) (link_at s (suc k)) && not (one_position (link_at s k) (link_at s (suc k)))

-- of a link whose parent has so many bytes: "width 2, position + 2 within the parent"; "1 order-only with position 0 and width 0"
unfoldable pub shaped : ℕ → Link → Bool
shaped size l =
    cond (is_offset l) (eqb l.width 2 && leb (l.position + 2) size) (eqb l.kind 1 && eqb l.position 0 && eqb l.width 0)

-- "links name objects in use", and each is of its kind's shape and in order
unfoldable pub link_fits : Store → ℕ → Bool
link_fits s k =
    ltb (parent_of s k) s.object_count && ltb (child_of s k) s.object_count && shaped (size_of s (parent_of s k)) (link_at s k) && ascends s k

-- "Sound means: counts fit the lent lengths and the maxima", and what `object_fits` and `link_fits` say of each row
unfoldable pub sound : Store → Bool
sound s =
    leb s.byte_count (byte_room (length s.bytes)) && leb s.object_count (object_room (length s.objects))
    && leb s.link_count (link_room (length s.links))
    && all (object_fits s) s.object_count && all (link_fits s) s.link_count

-- "handed out as a part of the caller's data buffer, an empty part where 1 or 2 applies"
unfoldable pub handed_out : Store → ℕ → List ℕ
handed_out s i = cond (sound s && ltb i s.object_count) (bytes_of s i) []

-- ---- offsets

-- the child of the first offset of p at position q
unfoldable pub lookup : List Link → ℕ → ℕ → Option ℕ
lookup [] p q = None
lookup (l ∷ ls) p q = cond (offset_of p l && eqb l.position q) (Some l.child) (lookup ls p q)

-- the child that the offset of p at position q leads to
unfoldable pub child_at : Store → ℕ → ℕ → Option ℕ
child_at s p q = lookup (links_of s) p q

-- the object that is linked at q, as number and as bytes; only asked where check 4 has seen the link
abbrev pub linked_at : Store → ℕ → ℕ → ℕ
linked_at s t q = unwrap_or (child_at s t q) 0

-- its bytes
abbrev pub linked_bytes : Store → ℕ → ℕ → List ℕ
linked_bytes s t q = bytes_of s (linked_at s t q)

-- an offset of object p that stands from position lo up to hi, hi left out
abbrev pub of_span : ℕ → ℕ → ℕ → Link → Bool
of_span p lo hi l = offset_of p l && leb lo l.position && ltb l.position hi

-- each offset of object p stands at one of these slots
unfoldable pub all_at : Store → ℕ → (ℕ → Bool) → Bool
all_at s p slot = all (λ k. cond (offset_of p (link_at s k)) (slot (position_of s k)) true) s.link_count

-- ---- order-only links

-- the children of the order-only links of object p among these, in order
unfoldable pub orders_in : List Link → ℕ → List ℕ
orders_in ls p = map (λ l. l.child) (sift (order_of p) ls)

-- what object p is to be placed after
abbrev pub orders_of : Store → ℕ → List ℕ
orders_of s p = orders_in (links_of s) p

-- all of this file's definitions, for checks that compute
unfoldable pub computes : Unit {0}
unfolding byte_room object_room link_room bytes_of object_fits row_before one_position ascends shaped link_fits sound handed_out links_of lookup child_at all_at orders_in
computes = tt
