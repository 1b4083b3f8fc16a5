-- An attachment reading looks at the table, at what it leads to, and at where that leads: where these are the same under other numbers in another
-- store, so is the reading, with anchors under these numbers. Assumes nothing.
use Rattle.std.specs.Prelude.{Option, Some, None, unwrap_or}
use Prim.Native.Nat.{ℕ, ◌+◌, ◌*◌}
use mathlib.Core.Path.{◌≡◌, refl, sym, ap, ap₂, ◌∙◌}
use mathlib.Core.Bool.{Bool, not, ◌&&◌}
use mathlib.Core.List.{List, [], ◌∷◌}
use native.Mathlib.Numerals.{add-one}
use lib.ListN.{length}
use lib.Dec.{leb, ltb, eqb}
use Rattle.folds.specs.Lists.{given, and_then, is_some}
use Rattle.folds.proofs.Tests.{by_test}
use Rattle.ot_layouts.specs.Coverage.{cover_readable, cover_glyphs, cover_place}
use Rattle.ot_layouts.specs.MarkBasePos.{cover_at, base_cover_at, mark_array_at, base_array_at, format_of, table_size, class_count, mark_count, mark_class, mark_slot, marks_readable, base_count, base_slot, bases_readable}
use Rattle.store_rules.specs.Store.{Store, sound, bytes_of, child_at, linked_at, linked_bytes}
use Rattle.store_rules.proofs.Lookups.{mapped, linked_is}
use Rattle.store_rules.proofs.Renumbered.{SameUnder, child_under, linked_under}
use Rattle.call_rules.specs.declared.Answer.TheVariants.{Done, Unsound, NoTable, BadTable, BadParts, FewGlyphs}
use Rattle.call_rules.specs.Answers.{Case, case, first_case}
use Rattle.mark_rules.specs.Table.{classes_of, glyphs_of, marks_in, bases_in, mark_bytes, base_bytes, mark_array, base_array, parts_readable, mark_anchor, base_anchor}
use Rattle.mark_rules.specs.Attachments.{Anchors, anchors, mark_place, base_place, attach_of}
use Rattle.mark_rules.specs.Calls.{read_cases, reported, settle_mark, mark_call}
use Rattle.mark_rules.specs.Renumbered.{anchor_then, outcome_then}
use Rattle.mark_rules.proofs.Checks.{Parts, parts_read, no_case_reads}

-- ---- refusals

-- 1 to 5, over what they ask
abbrev cases_by : Bool → Bool → List ℕ → Bool → Bool → List Case
cases_by sounds past b parts few =
    case Unsound (not sounds)
    ∷ case NoTable past
    ∷ case BadTable (ltb (length b) 2)
    ∷ case Done (not (eqb (format_of b) 1))
    ∷ case BadTable (not (eqb (length b) table_size))
    ∷ case BadParts (not parts)
    ∷ case FewGlyphs few
    ∷ []

-- a part is there and reads
part_by : (new : ℕ → ℕ) (o : Option ℕ) (b b' : ℕ → List ℕ) (reads : List ℕ → Bool) → ((c : ℕ) → o ≡ Some c → b' (new c) ≡ b c)
    → (is_some (mapped new o) && reads (b' (unwrap_or (mapped new o) 0))) ≡ (is_some o && reads (b (unwrap_or o 0)))
part_by new None b b' reads e = refl
part_by new (Some c) b b' reads e = ap reads (e c refl)

-- ---- an attachment under new numbers

-- with both anchors under their new numbers
abbrev attach_then : (ℕ → ℕ) → Option Anchors → Option Anchors
attach_then new None = None
attach_then new (Some a) = Some (anchors (new a.mark) (new a.base))

-- where a mark is, and where a base is, over coverage and array
abbrev place_by : List ℕ → ℕ → ℕ → Option ℕ
place_by cov count g = and_then (cover_place cov g) λ i. given (ltb i count) i

-- an attachment, over all that is looked at
abbrev attach_by : Option ℕ → Option ℕ → List ℕ → ℕ → (ℕ → Option ℕ) → (ℕ → Option ℕ) → Option Anchors
attach_by mark base array classes mark_at base_at =
    and_then mark λ i.
    and_then base λ j.
    and_then (mark_at (mark_slot i)) λ a.
    and_then (base_at (base_slot (j * classes + mark_class array i))) λ c.
    Some (anchors a c)

attach_by_lem : (new : ℕ → ℕ) (mark base : Option ℕ) (array : List ℕ) (classes : ℕ) (mark_at base_at : ℕ → Option ℕ)
    → attach_by mark base array classes (λ q. mapped new (mark_at q)) (λ q. mapped new (base_at q)) ≡ attach_then new (attach_by mark base array classes mark_at base_at)
unfolding and_then
attach_by_lem new None base array classes mark_at base_at = refl
attach_by_lem new (Some i) None array classes mark_at base_at = refl
attach_by_lem new (Some i) (Some j) array classes mark_at base_at = go (mark_at (mark_slot i)) (base_at (base_slot (j * classes + mark_class array i)))
  where
    go : (x y : Option ℕ)
        → and_then (mapped new x) (λ a. and_then (mapped new y) λ c. Some (anchors a c)) ≡ attach_then new (and_then x λ a. and_then y λ c. Some (anchors a c))
    go None y = refl
    go (Some a) None = refl
    go (Some a) (Some c) = refl

reported_then : (new : ℕ → ℕ) (n : ℕ) (o : Option Anchors) → reported n (attach_then new o) ≡ outcome_then new (reported n o)
unfolding reported outcome_then anchor_then
reported_then new n None = refl
reported_then new n (Some a) =
    λ i. record { answer = n; found = 1; anchors = anchor_then new (sym (add-one a.mark) i) ∷ anchor_then new (sym (add-one a.base) i) ∷ [] }

module _ {new : ℕ → ℕ} {s s' : Store} {u : ℕ} (same : SameUnder new s s' u) where
  part_same : (q : ℕ) (reads : List ℕ → Bool)
      → (is_some (child_at s' (new u) q) && reads (linked_bytes s' (new u) q)) ≡ (is_some (child_at s u q) && reads (linked_bytes s u q))
  part_same q reads =
      ap (λ (o : Option ℕ). is_some o && reads (bytes_of s' (unwrap_or o 0))) (same.links q)
      ∙ part_by new (child_at s u q) (bytes_of s) (bytes_of s') reads (same.child_bytes q)

  -- 4, of a table with so many classes
  abbrev parts_with : ℕ → Bool
  parts_with n =
      (is_some (child_at s' (new u) cover_at) && cover_readable (linked_bytes s' (new u) cover_at))
      && (is_some (child_at s' (new u) base_cover_at) && cover_readable (linked_bytes s' (new u) base_cover_at))
      && (is_some (child_at s' (new u) mark_array_at) && marks_readable n (mark_bytes s' (new u)))
      && (is_some (child_at s' (new u) base_array_at) && bases_readable n (base_bytes s' (new u)))

  parts_same : parts_readable s' (new u) ≡ parts_readable s u
  unfolding parts_readable
  parts_same =
      let n = classes_of s u in
      let a = part_same cover_at cover_readable in
      let b = part_same base_cover_at cover_readable in
      let c = part_same mark_array_at (marks_readable n) in
      let e = part_same base_array_at (bases_readable n) in
      ap (λ (x : List ℕ). parts_with (class_count x)) same.bytes ∙ (λ d. a d && b d && c d && e d)

  -- 5
  abbrev few : Store → ℕ → Bool
  few r t = ltb (length (glyphs_of r t)) (marks_in r t)

  few_same : Parts s u → few s' (new u) ≡ few s u
  few_same p =
      let (c, e) = p.cover in
      let (m, g) = p.marks in
      ap₂ (λ (x y : List ℕ). ltb (length (cover_glyphs x)) (mark_count y)) (linked_under same cover_at c e) (linked_under same mark_array_at m g)

  pub checks_same : first_case (read_cases s' (new u)) ≡ first_case (read_cases s u)
  unfolding read_cases first_case
  checks_same =
      (λ d. first_case (cases_by (same.sounds d) (same.used d) (same.bytes d) (parts_same d) (few s' (new u))))
      ∙ by_test (parts_readable s u)
      (λ e. ap (λ (x : Bool). first_case (cases_by (sound s) (leb s.object_count u) (bytes_of s u) (parts_readable s u) x)) (few_same (parts_read s u e)))
      (λ e. rw e)

  -- ---- the two anchors

  anchor_then_lem : (q c r : ℕ) → child_at s u q ≡ Some c → child_at s' (linked_at s' (new u) q) r ≡ mapped new (child_at s (linked_at s u q) r)
  anchor_then_lem q c r e =
      ap (λ (o : ℕ). child_at s' o r) (linked_is s' (new u) q (new c) (child_under same q c e))
      ∙ same.child_links q c e r
      ∙ ap (λ (o : ℕ). mapped new (child_at s o r)) (sym (linked_is s u q c e))

  attach_then_lem : (m b : ℕ) → Parts s u → attach_of s' (new u) m b ≡ attach_then new (attach_of s u m b)
  unfolding attach_of mark_place base_place mark_anchor base_anchor
  attach_then_lem m b p =
      let (c, ec) = p.cover in
      let (d, ed) = p.base_cover in
      let (x, ex) = p.marks in
      let (y, ey) = p.bases in
      let cov = linked_under same cover_at c ec in
      let bcov = linked_under same base_cover_at d ed in
      let ma = linked_under same mark_array_at x ex in
      let ba = linked_under same base_array_at y ey in
      (λ i.
      attach_by (place_by (cov i) (mark_count (ma i)) m) (place_by (bcov i) (base_count (ba i)) b) (ma i) (class_count (same.bytes i))
      (λ q. anchor_then_lem mark_array_at x q ex i) (λ q. anchor_then_lem base_array_at y q ey i))
      ∙ attach_by_lem new (place_by (linked_bytes s u cover_at) (marks_in s u) m) (place_by (linked_bytes s u base_cover_at) (bases_in s u) b) (mark_bytes s u) (classes_of s u)
      (child_at s (mark_array s u)) (child_at s (base_array s u))

  -- the same answer, and the same attachment, with anchors under their new numbers
  pub reading_then : (m b : ℕ) → mark_call s' (new u) m b ≡ outcome_then new (mark_call s u m b)
  unfolding mark_call settle_mark
  reading_then m b = ap (λ (o : Option ℕ). settle_mark o (attach_of s' (new u) m b)) checks_same ∙ go (first_case (read_cases s u)) refl
    where
      go : (o : Option ℕ) → first_case (read_cases s u) ≡ o → settle_mark o (attach_of s' (new u) m b) ≡ outcome_then new (settle_mark o (attach_of s u m b))
      go (Some n) e = reported_then new n None
      go None e = ap (reported 0) (attach_then_lem m b (parts_read s u (no_case_reads s u e).parts)) ∙ reported_then new 0 (attach_of s u m b)
