-- The loop that writes the links that stay: those of the rows before k are written, and all rows from k on are still as they came. Assumes nothing.
use Prim.Native.Nat.{ℕ, suc, ◌+◌, ◌*◌, ◌≤◌, ◌<◌}
use mathlib.Core.Path.{◌≡◌, refl, sym, ap, ap₂, ◌∙◌}
use mathlib.Core.Bool.{Bool, true, false, ◌&&◌}
use mathlib.Core.List.{List, [], ◌∷◌, ◌++◌, map, map-append, append-nil}
use native.Mathlib.Omega.{arith}
use native.Mathlib.Numerals.{add-one}
use lib.ListN.{length, get_or, length-append}
use Rattle.folds.specs.Folds.{flat, upto}
use Rattle.folds.specs.Lists.{put, sift}
use Rattle.folds.proofs.Put.{put-nil, put-above, put-put, length-put}
use Rattle.folds.proofs.Picked.{sift-append}
use Rattle.store_rules.specs.Store.{Store, Link, lent, sound, per_link, row_parent, row_position, row_width, row_child, row_kind, joining, link_at, links_of, link_number, parent_of, child_of}
use Rattle.store_rules.specs.Appended.{numbers_of, row_numbers}
use Rattle.store_rules.proofs.Sound.{sound_fits}
use Rattle.store_rules.proofs.LinkRows.{rows_numbers}
use Rattle.store_link_rows.specs.Rows.{link_in, changed_row}
use Rattle.store_link_rows.proofs.Links.{numbers_append}
use Rattle.compact_rules.specs.Kept.{renumber}
use Rattle.compact_rules.specs.Marks.{has_mark}
use Rattle.compact_rules.specs.Compacted.{keeps_ends, renumbered, kept_links}
use Rattle.compact_carrying.specs.Packing.{Numbered, PackedLinks, number_in}

-- what is looked at of the store: its rows are within the list, and name objects in use
pub record Linked (s : Store) : Type 0 where
  pub rows_in : per_link * s.link_count ≤ length s.links
  pub rows_most : s.link_count ≤ 262144
  pub objects_most : s.object_count ≤ 65536
  pub parent : (k : ℕ) → k < s.link_count → parent_of s k < s.object_count
  pub child : (k : ℕ) → k < s.link_count → child_of s k < s.object_count

pub linked : (b o l c : List ℕ) → sound (lent b o l c) ≡ true → Linked (lent [] [] l c)
linked b o l c h =
    let f = sound_fits (lent b o l c) h in
    record {
      rows_in = f.links_in;
      rows_most = f.links_most;
      objects_most = f.objects_most;
      parent = λ k i. (f.link k i).parent_used;
      child = λ k i. (f.link k i).child_used;
    }

-- the links that stay of the rows before k
abbrev pub kept_to : Store → (ℕ → Bool) → ℕ → List Link
kept_to s keep k = map (renumbered (renumber keep)) (sift (keeps_ends keep) (upto (link_at s) k))

pub record Sifting (s : Store) (keep : ℕ → Bool) (l : List ℕ) (j k : ℕ) : Type 0 where
  pub some : k ≤ s.link_count
  pub rows : l ≡ put s.links 0 (row_numbers (kept_to s keep k))
  pub many : j ≡ length (kept_to s keep k)
  pub low : j ≤ k

module _ (s : Store) (keep : ℕ → Bool) (fits : Linked s) where
  pub sifting_start : Sifting s keep s.links 0 0
  unfolding flat sift row_numbers
  sifting_start = record { some = omega arith; rows = put-nil s.links 0; many = refl; low = omega arith }

  module _ {l : List ℕ} {j k : ℕ} (inv : Sifting s keep l j k) where
    numbers_long : length (row_numbers (kept_to s keep k)) ≡ per_link * j
    numbers_long = rows_numbers (kept_to s keep k) ∙ ap (λ (n : ℕ). per_link * n) (sym inv.many)

    pub links_long : length l ≡ length s.links
    links_long =
        ap length inv.rows
        ∙ length-put s.links 0 (row_numbers (kept_to s keep k)) (omega (arith, numbers_long, inv.low, inv.some, fits.rows_in))

    -- row k is still as it came
    pub number_still : (r : ℕ) → get_or l (per_link * k + r) 0 ≡ link_number s k r
    number_still r =
        ap (λ (x : List ℕ). get_or x (per_link * k + r) 0) inv.rows
        ∙ put-above s.links 0 (row_numbers (kept_to s keep k)) (omega arith) (per_link * k + r) (omega (arith, numbers_long, inv.low))

  module _ {l : List ℕ} {j k : ℕ} (inv : Sifting s keep l j k) (h : k < s.link_count) where
    kept_more : keeps_ends keep (link_at s k) ≡ true → kept_to s keep (suc k) ≡ kept_to s keep k ++ (renumbered (renumber keep) (link_at s k) ∷ [])
    unfolding flat sift
    kept_more e =
        let more : sift (keeps_ends keep) (upto (link_at s) k ++ (link_at s k ∷ [])) ≡ sift (keeps_ends keep) (upto (link_at s) k) ++ (link_at s k ∷ [])
        = sift-append (keeps_ends keep) (upto (link_at s) k) (link_at s k ∷ []) ∙ rw e in
        ap (map (renumbered (renumber keep))) more ∙ map-append (renumbered (renumber keep)) (sift (keeps_ends keep) (upto (link_at s) k)) (link_at s k ∷ [])

    none_more : keeps_ends keep (link_at s k) ≡ false → kept_to s keep (suc k) ≡ kept_to s keep k
    unfolding flat sift
    none_more e =
        let same : sift (keeps_ends keep) (upto (link_at s) k ++ (link_at s k ∷ [])) ≡ sift (keeps_ends keep) (upto (link_at s) k)
        = sift-append (keeps_ends keep) (upto (link_at s) k) (link_at s k ∷ []) ∙ rw e (append-nil (sift (keeps_ends keep) (upto (link_at s) k))) in
        ap (map (renumbered (renumber keep))) same

    pub sifting_kept : keeps_ends keep (link_at s k) ≡ true → {l' : List ℕ} (p c : ℕ) → p ≡ renumber keep (parent_of s k) → c ≡ renumber keep (child_of s k)
        → l' ≡ put l (per_link * j) (changed_row (joining p c) l k) → Sifting s keep l' (j + 1) (k + 1)
    unfolding changed_row row_numbers
    sifting_kept e {l'} p c a b w =
        let more = kept_more e in
        let row : joining p c (link_in l k) ≡ renumbered (renumber keep) (link_at s k)
        = (λ i. record { parent = a i; position = number_still inv row_position i; width = number_still inv row_width i; child = b i; kind = number_still inv row_kind i }) in
        rw (add-one k)
        (record {
          some = h;
          rows =
              w
              ∙ ap₂ (λ (x : List ℕ) (y : Link). put x (per_link * j) (numbers_of y)) inv.rows row
              ∙ put-put s.links 0 (row_numbers (kept_to s keep k)) (per_link * j) (numbers_of (renumbered (renumber keep) (link_at s k))) (omega arith) (omega (arith, numbers_long inv))
              ∙ ap (put s.links 0) (sym (ap row_numbers more ∙ numbers_append (kept_to s keep k) (renumbered (renumber keep) (link_at s k) ∷ [])));
          many = omega (arith, ap length more, length-append (kept_to s keep k) (renumbered (renumber keep) (link_at s k) ∷ []), inv.many);
          low = omega (arith, inv.low);
        })

    pub sifting_dropped : keeps_ends keep (link_at s k) ≡ false → Sifting s keep l j (k + 1)
    sifting_dropped e =
        let same = none_more e in
        rw (add-one k)
        (record {
          some = h;
          rows = inv.rows ∙ ap (λ (x : List Link). put s.links 0 (row_numbers x)) (sym same);
          many = inv.many ∙ ap length (sym same);
          low = omega (arith, inv.low);
        })

  pub sifting_stop : {l : List ℕ} {j k : ℕ} → Sifting s keep l j k → s.link_count ≤ k → PackedLinks s keep l j
  unfolding kept_links links_of
  sifting_stop {l} {j} {k} inv g =
      let e : k ≡ s.link_count = omega (arith, inv.some) in
      record {
        rows = inv.rows ∙ ap (λ (n : ℕ). put s.links 0 (row_numbers (kept_to s keep n))) e;
        many = inv.many ∙ ap (λ (n : ℕ). length (kept_to s keep n)) e;
      }

-- ---- a turn, over the marks in the walk

module _ (s : Store) (w : List ℕ) (fits : Linked s) (numbered : Numbered w s.object_count)
    {l : List ℕ} {j k : ℕ} (inv : Sifting s (has_mark w) l j k) (h : k < s.link_count) where
  -- the ends as they are read
  abbrev parent : ℕ
  parent = get_or l (per_link * k + row_parent) 0

  abbrev child : ℕ
  child = get_or l (per_link * k + row_child) 0

  pub parent_used_lem : parent < s.object_count
  parent_used_lem = omega (arith, number_still s (has_mark w) fits inv row_parent, fits.parent k h)

  pub child_used_lem : child < s.object_count
  child_used_lem = omega (arith, number_still s (has_mark w) fits inv row_child, fits.child k h)

  pub row_inside : per_link * (k + 1) ≤ length l
  row_inside = omega (arith, links_long s (has_mark w) fits inv, fits.rows_in)

  ends : has_mark w parent && has_mark w child ≡ keeps_ends (has_mark w) (link_at s k)
  ends = λ i. has_mark w (number_still s (has_mark w) fits inv row_parent i) && has_mark w (number_still s (has_mark w) fits inv row_child i)

  number : (r : ℕ) → link_number s k r < s.object_count → number_in w s.object_count (get_or l (per_link * k + r) 0) ≡ renumber (has_mark w) (link_number s k r)
  number r u = ap (number_in w s.object_count) (number_still s (has_mark w) fits inv r) ∙ numbered.number (link_number s k r) u

  pub turn_kept : {b : Bool} {l' : List ℕ} → b ≡ has_mark w parent && has_mark w child → b ≡ true
      → l' ≡ put l (per_link * j) (changed_row (joining (number_in w s.object_count parent) (number_in w s.object_count child)) l k)
      → Sifting s (has_mark w) l' (j + 1) (k + 1)
  turn_kept p q e =
      sifting_kept s (has_mark w) fits inv h (sym ends ∙ sym p ∙ q) (number_in w s.object_count parent) (number_in w s.object_count child)
      (number row_parent (fits.parent k h)) (number row_child (fits.child k h)) e

  pub turn_dropped : {b : Bool} → b ≡ has_mark w parent && has_mark w child → b ≡ false → Sifting s (has_mark w) l j (k + 1)
  turn_dropped p q = sifting_dropped s (has_mark w) fits inv h (sym ends ∙ sym p ∙ q)
