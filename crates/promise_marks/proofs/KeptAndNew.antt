-- The kept table and each new one are the tables of their ranges. Assumes nothing.
use Rattle.std.specs.Prelude.{Some}
use Prim.Native.Nat.{ℕ, zero, suc, ◌+◌, ◌-◌, ◌*◌, ◌<◌, ◌≤◌}
use mathlib.Core.Path.{◌≡◌, sym, ap, ap₂, subst, ◌∙◌}
use mathlib.Core.List.{List, [], ◌∷◌}
use native.Mathlib.Omega.{arith}
use lib.ListN.{length, get_or}
use Rattle.folds.specs.Lists.{put}
use Rattle.folds.proofs.Parts.{get_d_default}
use Rattle.folds.proofs.Put.{put-below, length-put}
use Rattle.folds.proofs.Offsets.{put-at}
use Rattle.folds.proofs.FromTheFront.{upto-at}
use Rattle.ot_layouts.specs.Numbers.{u16_at, be16, words}
use Rattle.ot_layouts.specs.MarkBasePos.{format_of, class_count, table_size, class_count_at, cover_at, base_cover_at, mark_array_at, base_array_at}
use Rattle.ot_layouts.proofs.Head.{two_bytes}
use Rattle.ot_layouts.proofs.Words.{words_at}
use Rattle.ot_layouts.proofs.Octets.{u16_same}
use Rattle.store_rules.specs.Store.{Store, bytes_of, child_at, linked_at}
use Rattle.store_rules.specs.Appended.{new_number}
use Rattle.store_rules.specs.Header.{own_child}
use Rattle.store_rules.proofs.Lookups.{child_used_lem, child_other, linked_is}
use Rattle.cut_rules.specs.Ranges.{from, to}
use Rattle.cut_rules.proofs.CutPlaces.{range_high, lo_at}
use Rattle.mark_rules.specs.Table.{classes_of, bases_in, marks_of}
use Rattle.mark_rules.specs.Written.{new_table, new_parts, per_table, new_tables, split_store}
use Rattle.promise_marks.proofs.Ready.{Ready, first_cut}
use Rattle.promise_marks.proofs.NewBytes.{others_bytes, kept_bytes_lem, table_object, kept_object}
use Rattle.promise_marks.proofs.NewLinks.{kept_child, new_head, new_mark, new_base, kept_mark, kept_base, head_cover, head_base, head_marks, head_bases}
use Rattle.promise_marks.proofs.View.{View}

module _ (s : Store) (t : ℕ) (cs : List ℕ) (g : Ready s t cs) where
  abbrev s' : Store
  s' = split_store s t cs

  -- what t leads to is in use, is not t, and is as it was
  child_kept : (q c : ℕ) → child_at s t q ≡ Some c → bytes_of s' c ≡ bytes_of s c
  child_kept q c e = others_bytes s t cs g c (child_used_lem s t g.fit q c e) (child_other s t g.fit g.acyclic q c e)

  -- ---- a new table

  module _ (j : ℕ) (l : j < length cs) where
    abbrev lo : ℕ
    lo = from cs j

    abbrev hi : ℕ
    hi = to (classes_of s t) cs j

    abbrev u : ℕ
    u = new_number s per_table j

    pub bytes_new : bytes_of s' u ≡ new_table lo hi
    bytes_new =
        let z : u ≡ u + 0 = omega arith in
        ap (bytes_of s') z ∙ table_object s t cs g j 0 l (omega arith)

    pub view_new : View s t s' u lo hi
    unfolding new_table words be16 new_parts
    view_new =
        let r = range_high (classes_of s t) cs g.cuts j l in
        let ws : List ℕ = 1 ∷ 0 ∷ 0 ∷ (hi - lo) ∷ 0 ∷ 0 ∷ [] in
        let (c, e) = g.parts.base_cover in
        record {
          low = omega arith;
          high = r.1;
          known = ap format_of bytes_new ∙ words_at ws 0 (omega arith);
          exactly = ap length bytes_new;
          classes = ap class_count bytes_new ∙ words_at ws 3 (omega arith);
          cover = (u + 1, omega arith, new_head s t cs g j l cover_at (u + 1) (head_cover s t u lo hi), table_object s t cs g j 1 l (omega arith));
          marks = (
            u + 2,
            omega arith,
            new_head s t cs g j l mark_array_at (u + 2) (head_marks s t u lo hi),
            table_object s t cs g j 2 l (omega arith),
            new_mark s t cs g j l,
          );
          bases = (
            u + 3,
            omega arith,
            new_head s t cs g j l base_array_at (u + 3) (head_bases s t u lo hi),
            table_object s t cs g j 3 l (omega arith),
            new_base s t cs g j l,
          );
          base_cover = (
            c,
            new_head s t cs g j l base_cover_at (linked_at s t base_cover_at) (head_base s t u lo hi) ∙ ap Some (linked_is s t base_cover_at c e),
            e,
            child_kept base_cover_at c e,
          );
        }

  -- ---- the kept table

  abbrev p0 : ℕ
  p0 = from cs 0

  -- its coverage is the first of its new parts
  abbrev v : ℕ
  v = new_number s per_table (length cs)

  -- the old table holds its class count
  holds_count : class_count_at + 2 < length (bytes_of s t)
  holds_count = omega (arith, g.reads.exactly)

  long_kept : length (bytes_of s' t) ≡ table_size
  unfolding be16
  long_kept = ap length (kept_bytes_lem s t cs g) ∙ length-put (bytes_of s t) class_count_at (be16 p0) (omega (arith, holds_count)) ∙ g.reads.exactly

  format_kept : format_of (bytes_of s' t) ≡ format_of (bytes_of s t)
  unfolding be16
  format_kept =
      let b = put (bytes_of s t) class_count_at (be16 p0) in
      ap format_of (kept_bytes_lem s t cs g)
      ∙ u16_same b (bytes_of s t) 0 0
      (put-below (bytes_of s t) class_count_at (be16 p0) (omega (arith, holds_count)) 0 (omega arith))
      (put-below (bytes_of s t) class_count_at (be16 p0) (omega (arith, holds_count)) 1 (omega arith))

  pub count_kept : classes_of s' t ≡ p0 - 0
  unfolding be16 u16_at
  count_kept =
      let six : class_count_at ≤ length (bytes_of s t) = omega (arith, holds_count) in
      let byte = put-at (bytes_of s t) class_count_at (be16 p0) six in
      ap class_count (kept_bytes_lem s t cs g)
      ∙ ap₂ (λ (x y : ℕ). 256 * x + y) (byte 0 (omega arith)) (byte 1 (omega arith))
      ∙ two_bytes p0
      ∙ omega arith

  part-kept : (r : ℕ) → r < 3 → bytes_of s' (v + r) ≡ get_or (new_parts (marks_of s t) (bases_in s t) 0 p0) r []
  part-kept r h = kept_object s t cs g r h

  pub view_kept : View s t s' t 0 p0
  unfolding new_parts own_child
  view_kept =
      let c = first_cut s t cs g in
      let z : v + 0 ≡ v = omega arith in
      let one : v + 1 + 1 ≡ v + 2 = omega arith in
      let (c2, e2) = g.parts.cover in
      let (c4, e4) = g.parts.base_cover in
      let (c8, e8) = g.parts.marks in
      let (c10, e10) = g.parts.bases in
      record {
        low = omega arith;
        high = omega arith;
        known = format_kept ∙ g.reads.known;
        exactly = long_kept;
        classes = count_kept;
        cover = (v, omega arith, kept_child s t cs g cover_at ∙ rw e2, ap (bytes_of s') (sym z) ∙ part-kept 0 (omega arith));
        marks = (v + 1, omega arith, kept_child s t cs g mark_array_at ∙ rw e8, part-kept 1 (omega arith), kept_mark s t cs g);
        bases = (v + 2, omega arith, kept_child s t cs g base_array_at ∙ rw e10 (ap Some one), part-kept 2 (omega arith), kept_base s t cs g);
        base_cover = (c4, kept_child s t cs g base_cover_at ∙ rw e4, e4, child_kept base_cover_at c4 e4);
      }

  -- ---- all of them

  -- the kept table, then the new ones
  abbrev pub tables : List ℕ
  tables = t ∷ new_tables s t cs

  -- table k is that of range k
  pub each_view : (k : ℕ) → k < length cs + 1 → View s t s' (get_or tables k 0) (lo_at cs k) (get_or cs k (classes_of s t))
  unfolding new_tables
  each_view zero l = subst (λ (m : ℕ). View s t s' t 0 m) (get_d_default cs 0 0 (classes_of s t) g.some_cut) view_kept
  each_view (suc j) l =
      let z : j + 1 ≡ suc j = omega arith in
      subst (λ (m : ℕ). View s t s' m (from cs j) (get_or cs (suc j) (classes_of s t))) (sym (upto-at (new_number s per_table) (length cs) j 0 (omega arith)))
      (subst (λ (m : ℕ). View s t s' (new_number s per_table j) (from cs j) (get_or cs m (classes_of s t))) z (view_new j (omega arith)))
