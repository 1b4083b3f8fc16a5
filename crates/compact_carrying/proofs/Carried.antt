-- A compaction, step by step, is the compaction: the marks in the walk stand for what is kept. Assumes nothing.
use Prim.Native.Nat.{ℕ, ◌+◌, ◌*◌, ◌≤◌, ◌<◌}
use mathlib.Core.Path.{◌≡◌, ap, ap₂, ◌∙◌}
use mathlib.Core.Bool.{Bool, true, cond, not, ◌&&◌}
use mathlib.Core.List.{List, [], ◌∷◌, map}
use native.Mathlib.Omega.{arith}
use lib.ListN.{length, get_or, replicate}
use lib.Dec.{eqb, ltb}
use Rattle.folds.specs.Lists.{put, join, sift}
use Rattle.folds.proofs.FromTheFront.{sum_same, flat-same}
use Rattle.folds.proofs.Moved.{map_same, sift-same}
use Rattle.folds.proofs.Each.{each_at, each_then, each_sift}
use Rattle.folds.proofs.Tally.{tally_same}
use Rattle.store_rules.specs.Store.{Store, Link, lent, per_link, joining, bytes_of, head_of, size_of, links_of}
use Rattle.store_rules.specs.Appended.{appended, rows_from, row_numbers}
use Rattle.store_rules.proofs.Sound.{Fits, sound_fits}
use Rattle.store_rules.proofs.LinksFit.{Fitting, links_fit_lem}
use Rattle.compact_rules.specs.Kept.{kept, renumber, head_then}
use Rattle.compact_rules.specs.Marks.{has_mark}
use Rattle.compact_rules.specs.Compacted.{kept_objects, keeps_ends, renumbered, kept_links, wiped, emptied, compacted, bytes_moved, roots_then}
use Rattle.compact_rules.specs.Calls.{compact_outcome, compact_done, walk_left}
use Rattle.compact_rules.proofs.Kept.{roots_each}
use Rattle.compact_carrying.specs.declared.objects.Packed.{Packed}
use Rattle.compact_carrying.specs.Packing.{Numbers, number_in, ObjectsLeft, LinksLeft, Carrying}
use Rattle.compact_carrying.proofs.Numbering.{number_by}

-- ---- what is kept is decided by the objects in use alone

module _ (s : Store) (p q : ℕ → Bool) (same : (i : ℕ) → i < s.object_count → p i ≡ q i) where
  number_same : (i : ℕ) → i < s.object_count → renumber p i ≡ renumber q i
  number_same i h = number_by p q i (λ j l. same j (omega arith))

  objects_by : kept_objects s p ≡ kept_objects s q
  unfolding kept_objects
  objects_by = flat-same (λ i. cond (p i) (bytes_of s i ∷ []) []) (λ i. cond (q i) (bytes_of s i ∷ []) []) s.object_count (λ i l. ap (λ (b : Bool). cond b (bytes_of s i ∷ []) []) (same i l))

  links_by : Fits s → kept_links s p ≡ kept_links s q
  unfolding kept_links
  links_by f =
      ap (map (renumbered (renumber p))) (sift-same (keeps_ends p) (keeps_ends q) (links_of s) (each_then (Fitting s) (λ l. keeps_ends p l ≡ keeps_ends q l) ends (links_of s) (links_fit_lem s f)))
      ∙ map_same (renumbered (renumber p)) (renumbered (renumber q)) (sift (keeps_ends q) (links_of s))
      (each_sift (Fitting s) (λ l. renumbered (renumber p) l ≡ renumbered (renumber q) l) (keeps_ends q) numbers (links_of s) (links_fit_lem s f))
    where
      ends : (l : Link) → Fitting s l → keeps_ends p l ≡ keeps_ends q l
      ends l g = ap₂ (λ (x y : Bool). x && y) (same l.parent g.parent_used) (same l.child g.child_used)

      numbers : (l : Link) → Fitting s l → keeps_ends q l ≡ true → renumbered (renumber p) l ≡ renumbered (renumber q) l
      numbers l g e =
          let a = number_same l.parent g.parent_used in
          let b = number_same l.child g.child_used in
          λ i. joining (a i) (b i) l

  head_by : (i : ℕ) → i ≤ s.object_count → head_then s p i ≡ head_then s q i
  unfolding head_then
  head_by i h = tally_same (size_of s) p q i (λ j l. same j (omega arith))

  moved_bytes_by : bytes_moved s p ≡ bytes_moved s q
  unfolding bytes_moved
  moved_bytes_by =
      sum_same _ _ s.object_count
      (λ i l. ap₂ (λ (b : Bool) (h : ℕ). cond (b && not (eqb h (head_of s i))) (size_of s i) 0) (same i l) (head_by i (omega arith)))

-- ---- the buffers at exit

module _ (d o l c roots w : List ℕ) (may : Carrying (lent d o l c) roots w) where
  abbrev s : Store
  s = lent d o l c

  abbrev keep : ℕ → Bool
  keep = kept s roots

  module _ {w₁ : List ℕ} (numbers : Numbers w w₁ (get_or c 1 0)) where
    -- the marks stand for what is kept
    marks_keep : (i : ℕ) → i < get_or c 1 0 → has_mark w₁ i ≡ keep i
    marks_keep i h = ap (λ (v : ℕ). ltb 0 v) (numbers.marks i h) ∙ may.marks i h

    -- what each step is asked
    pub roots_low : (i : ℕ) → i < length roots → get_or roots i 0 < get_or c 1 0
    roots_low i h = each_at (λ r. r < get_or c 1 0) roots (roots_each (get_or c 1 0) roots may.used) i h 0

    objects_are : kept_objects (lent d o [] c) (has_mark w₁) ≡ kept_objects s keep
    unfolding kept_objects bytes_of
    objects_are = objects_by s (has_mark w₁) keep marks_keep

    links_are : kept_links (lent [] [] l c) (has_mark w₁) ≡ kept_links s keep
    unfolding kept_links links_of
    links_are = links_by s (has_mark w₁) keep marks_keep (sound_fits s may.sounds)

    moved_are : bytes_moved (lent d o [] c) (has_mark w₁) ≡ bytes_moved s keep
    unfolding bytes_moved head_then
    moved_are = moved_bytes_by s (has_mark w₁) keep marks_keep

    roots_are : map (number_in w₁ (get_or c 1 0)) roots ≡ roots_then keep roots
    roots_are =
        map_same (number_in w₁ (get_or c 1 0)) (renumber keep) roots
        (each_then (λ r. r < get_or c 1 0) (λ r. number_in w₁ (get_or c 1 0) r ≡ renumber keep r)
        (λ r h. numbers.numbered.number r h ∙ number_same s (has_mark w₁) keep marks_keep r h)
        roots (roots_each (get_or c 1 0) roots may.used))

    pub carried : {d' o' l' roots' walk' : List ℕ} {r : Packed} {m : ℕ}
        → ObjectsLeft (lent d o [] c) (has_mark w₁) d' o' r → LinksLeft (lent [] [] l c) (has_mark w₁) l' m
        → roots' ≡ map (number_in w₁ (get_or c 1 0)) roots → walk' ≡ replicate (length w₁) 0
        → compact_outcome 0 r.moved (lent d' o' l' (r.bytes ∷ r.objects ∷ m ∷ [])) roots' walk' ≡ compact_done s keep roots w
    unfolding compact_done compacted emptied appended
    carried {d'} {o'} {l'} {roots'} {walk'} {r} {m} x y e g =
        let none = objects_are in
        let bytes : d' ≡ put (wiped d (get_or c 0 0)) 0 (join (kept_objects s keep)) = x.bytes ∙ ap (λ (n : List (List ℕ)). put (wiped d (get_or c 0 0)) 0 (join n)) objects_are in
        let rows : o' ≡ put (wiped o (2 * get_or c 1 0)) 0 (rows_from 0 (kept_objects s keep))
        = x.rows ∙ ap (λ (n : List (List ℕ)). put (wiped o (2 * get_or c 1 0)) 0 (rows_from 0 n)) objects_are in
        let links : l' ≡ put (wiped l (per_link * get_or c 2 0)) 0 (row_numbers (kept_links s keep))
        = y.rows ∙ ap (λ (n : List Link). put (wiped l (per_link * get_or c 2 0)) 0 (row_numbers n)) links_are in
        let byte_count : r.bytes ≡ 0 + length (join (kept_objects s keep)) = omega (arith, x.end, ap (λ (n : List (List ℕ)). length (join n)) objects_are) in
        let object_count : r.objects ≡ 0 + length (kept_objects s keep) = omega (arith, x.many, ap (λ (n : List (List ℕ)). length n) objects_are) in
        let link_count : m ≡ length (kept_links s keep) = y.many ∙ ap length links_are in
        let moved : r.moved ≡ bytes_moved s keep = x.moved ∙ moved_are in
        let list : roots' ≡ roots_then keep roots = e ∙ roots_are in
        let walk : walk' ≡ walk_left w = g ∙ ap (λ (n : ℕ). replicate n 0) numbers.long in
        λ i. record {
          answer = 0;
          moved = moved i;
          store = record { bytes = bytes i; objects = rows i; links = links i; byte_count = byte_count i; object_count = object_count i; link_count = link_count i };
          roots = list i;
          walk = walk i;
        }
