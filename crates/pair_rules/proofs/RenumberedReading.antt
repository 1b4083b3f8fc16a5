-- A pair reading looks at the table, at what it leads to, and at where that leads: where these are the same under other numbers in another store,
-- so is the reading, with devices under these numbers. Assumes nothing.
use Rattle.std.specs.Prelude.{Option, Some, None, unwrap_or}
use Prim.Native.Nat.{ℕ, ◌+◌, ◌*◌}
use mathlib.Core.Path.{◌≡◌, refl, sym, ap, ap₂, ◌∙◌}
use mathlib.Core.Bool.{Bool, true, false, cond, not, ◌&&◌, ◌||◌}
use mathlib.Core.List.{List, [], ◌∷◌, ◌++◌, map}
use native.Mathlib.Numerals.{add-one}
use lib.ListN.{length}
use lib.Seq.{take_at, drop_at}
use lib.IntN.{ℤ, pos}
use lib.Dec.{leb, ltb, eqb}
use Rattle.folds.specs.Folds.{all, or_else, upto, flat}
use Rattle.folds.specs.Lists.{given, and_then, is_some}
use Rattle.folds.proofs.Tests.{by_test}
use Rattle.folds.proofs.Folds.{upto-same, length-upto}
use Rattle.folds.proofs.FromTheFront.{upto-at}
use Rattle.folds.proofs.Failing.{all_same}
use Rattle.folds.proofs.Each.{Each}
use Rattle.ot_layouts.specs.Numbers.{u16_at, signed16}
use Rattle.ot_layouts.specs.Values.{fields, bit, field_at, field_count, position}
use Rattle.ot_layouts.specs.Coverage.{cover_readable, cover_glyphs, cover_place}
use Rattle.ot_layouts.specs.ClassDef.{class_readable, class_of}
use Rattle.ot_layouts.specs.PairPos.{shape_of, format_of, value1, value2, columns, record_size, item_at, values_at, first_record, exact, set_sorted}
use Rattle.store_rules.specs.Store.{Store, sound, bytes_of, child_at, linked_bytes}
use Rattle.store_rules.proofs.Lookups.{mapped}
use Rattle.store_rules.proofs.Renumbered.{SameUnder, linked_under}
use Rattle.call_rules.specs.declared.Answer.TheVariants.{Done, Unsound, NoTable, BadTable, BadParts, FewGlyphs, UnsortedSets}
use Rattle.call_rules.specs.Answers.{Case, case, first_case}
use Rattle.call_rules.proofs.Cases.{first_either}
use Rattle.pair_rules.specs.Table.{shape, parts_readable, glyphs_of, sorted_in, sets_sorted}
use Rattle.pair_rules.specs.Pairs.{Spot, Pair, no_pair, spot1, spot2, spot_of, device_number, number_of, pair_at, pair_of}
use Rattle.pair_rules.specs.Reads.{Reads}
use Rattle.pair_rules.specs.Calls.{PairOutcome, read_cases, pair_cases, reported, settle_pair, pair_call, read_in_order}
use Rattle.pair_rules.specs.Renumbered.{device_then, field_then, eight_then, outcome_then}
use Rattle.pair_rules.proofs.Checks.{Parts, parts_read}
use Rattle.pair_rules.proofs.SortedSets.{no_case_pairs}

-- ---- refusals

-- 1 to 5, over what they ask
abbrev cases_by : Bool → Bool → List ℕ → Bool → ℕ → List Case
cases_by sounds past b parts glyphs =
    case Unsound (not sounds)
    ∷ case NoTable past
    ∷ case BadTable (ltb (length b) 2)
    ∷ case Done (not (eqb (format_of b) 1 || eqb (format_of b) 2))
    ∷ case BadTable (not (exact b))
    ∷ case BadParts (not parts)
    ∷ case FewGlyphs (eqb (format_of b) 1 && ltb glyphs (shape_of b).count)
    ∷ []

-- 4, over what it asks: the links at 2, 8 and 10, and the bytes of objects
abbrev parts_by : Bool → Option ℕ → Option ℕ → Option ℕ → (ℕ → List ℕ) → Bool
parts_by one o2 o8 o10 b =
    is_some o2 && cover_readable (b (unwrap_or o2 0))
    && cond one true (is_some o8 && class_readable (b (unwrap_or o8 0)) && is_some o10 && class_readable (b (unwrap_or o10 0)))

-- where bytes are the same of what is linked, 4 is
parts_by_lem : (new : ℕ → ℕ) (one : Bool) (o2 o8 o10 : Option ℕ) (b b' : ℕ → List ℕ)
    → ((c : ℕ) → o2 ≡ Some c → b' (new c) ≡ b c) → ((c : ℕ) → o8 ≡ Some c → b' (new c) ≡ b c) → ((c : ℕ) → o10 ≡ Some c → b' (new c) ≡ b c)
    → parts_by one (mapped new o2) (mapped new o8) (mapped new o10) b' ≡ parts_by one o2 o8 o10 b
parts_by_lem new one None o8 o10 b b' e2 e8 e10 = refl
parts_by_lem new true (Some c) o8 o10 b b' e2 e8 e10 = rw (e2 c refl)
parts_by_lem new false (Some c) None o10 b b' e2 e8 e10 = rw (e2 c refl)
parts_by_lem new false (Some c) (Some d) None b b' e2 e8 e10 =
    rw (e2 c refl, e8 d refl) (ap (λ (x : Bool). cover_readable (b c) && x) (shut (class_readable (b d)) (class_readable (b' 0)) (class_readable (b 0))))
  where
    shut : (x y z : Bool) → (x && false && y) ≡ (x && false && z)
    shut true y z = refl
    shut false y z = refl
parts_by_lem new false (Some c) (Some d) (Some e) b b' e2 e8 e10 = rw (e2 c refl, e8 d refl, e10 e refl)

-- ---- a pair under new numbers

-- with devices under their new numbers
abbrev pair_then : (ℕ → ℕ) → Pair → Pair
pair_then new p = record { found = p.found; first = eight_then new p.first; second = eight_then new p.second }

no_pair_then : (new : ℕ → ℕ) → pair_then new no_pair ≡ no_pair
unfolding no_pair eight_then field_then device_then flat fields
no_pair_then new = refl

-- one number
device_then_lem : (new : ℕ → ℕ) (o : Option ℕ) → device_number (mapped new o) ≡ device_then new (device_number o)
unfolding device_then
device_then_lem new (Some c) = ap (device_then new) (ap pos (sym (add-one c)))
device_then_lem new None = refl

zero-then : (new : ℕ → ℕ) (b : Bool) → pos 0 ≡ cond b (device_then new (pos 0)) (pos 0)
unfolding device_then
zero-then new true = refl
zero-then new false = refl

module _ {new : ℕ → ℕ} {s s' : Store} {u : ℕ} (same : SameUnder new s s' u) where
  parts_same : parts_readable s' (new u) ≡ parts_readable s u
  unfolding parts_readable
  parts_same =
      ap (λ (b : List ℕ). parts_by (eqb (shape_of b).format 1) (child_at s' (new u) 2) (child_at s' (new u) 8) (child_at s' (new u) 10) (bytes_of s')) same.bytes
      ∙ (λ d. parts_by (eqb (shape s u).format 1) (same.links 2 d) (same.links 8 d) (same.links 10 d) (bytes_of s'))
      ∙ parts_by_lem new (eqb (shape s u).format 1) (child_at s u 2) (child_at s u 8) (child_at s u 10) (bytes_of s) (bytes_of s')
      (same.child_bytes 2) (same.child_bytes 8) (same.child_bytes 10)

  missing : child_at s u 2 ≡ None → parts_readable s u ≡ false
  unfolding parts_readable
  missing e = rw e

  -- a table whose coverage is missing is refused, whatever its glyphs
  pub checks_same : first_case (read_cases s' (new u)) ≡ first_case (read_cases s u)
  unfolding read_cases first_case
  checks_same =
      (λ d. first_case (cases_by (same.sounds d) (same.used d) (same.bytes d) (parts_same d) (length (glyphs_of s' (new u)))))
      ∙ go (child_at s u 2) refl
    where
      go : (o : Option ℕ) → child_at s u 2 ≡ o
          → first_case (cases_by (sound s) (leb s.object_count u) (bytes_of s u) (parts_readable s u) (length (glyphs_of s' (new u))))
          ≡ first_case (cases_by (sound s) (leb s.object_count u) (bytes_of s u) (parts_readable s u) (length (glyphs_of s u)))
      go (Some c) e =
          ap (λ (b : List ℕ). first_case (cases_by (sound s) (leb s.object_count u) (bytes_of s u) (parts_readable s u) (length (cover_glyphs b))))
          (linked_under same 2 c e)
      go None e = rw (missing e)

  -- 11, by the slots of a table with these bytes
  abbrev slots_by : Store → (ℕ → Option ℕ) → List ℕ → Bool
  slots_by r link own = cond (eqb (shape_of own).format 1) (all (λ k. sorted_in r (record_size own) (link (item_at (shape_of own) k))) (shape_of own).count) true

  pub sorted_same : sets_sorted s' (new u) ≡ sets_sorted s u
  unfolding sets_sorted
  sorted_same =
      (λ d. slots_by s' (λ q. same.links q d) (same.bytes d))
      ∙ ap (λ (x : Bool). cond (eqb (shape s u).format 1) x true)
      (all_same _ _ (shape s u).count
      (λ k l. let q = item_at (shape s u) k in set-same_at (child_at s u q) (same.child_bytes q)))
    where
      set-same_at : (o : Option ℕ) → ((c : ℕ) → o ≡ Some c → bytes_of s' (new c) ≡ bytes_of s c)
          → sorted_in s' (record_size (bytes_of s u)) (mapped new o) ≡ sorted_in s (record_size (bytes_of s u)) o
      set-same_at None h = refl
      set-same_at (Some c) h = ap (λ (b : List ℕ). set_sorted b (record_size (bytes_of s u))) (h c refl)

  -- 1 to 5 and 11
  pub refusal_same : first_case (pair_cases s' (new u)) ≡ first_case (pair_cases s u)
  unfolding pair_cases
  refusal_same =
      first_either (read_cases s' (new u)) _
      ∙ ap₂ (λ (o : Option ℕ) (x : Bool). or_else o (first_case (case UnsortedSets (not x) ∷ []))) checks_same sorted_same
      ∙ sym (first_either (read_cases s u) _)

  -- ---- the sixteen numbers

  -- object o, under its new number, with its children
  abbrev Moved : ℕ → Type 0
  Moved o = (bytes_of s' (new o) ≡ bytes_of s o) × ((r : ℕ) → child_at s' (new o) r ≡ mapped new (child_at s o r))

  number_then_lem : (o q vf j : ℕ) → Moved o
      → number_of s' (new o) q vf j ≡ cond (field_at j).device (device_then new (number_of s o q vf j)) (number_of s o q vf j)
  unfolding number_of
  number_then_lem o q vf j (b, l) =
      ap₂ (λ (x : Option ℕ) (y : List ℕ). cond (eqb (bit vf j) 0) (pos 0) (cond (field_at j).device (device_number x) (signed16 (u16_at y at)))) (l at) b
      ∙ go (eqb (bit vf j) 0) (field_at j).device
    where
      at : ℕ
      at = q + 2 * position vf j

      plain : ℤ
      plain = signed16 (u16_at (bytes_of s o) at)

      go : (None device : Bool)
          → cond None (pos 0) (cond device (device_number (mapped new (child_at s o at))) plain)
          ≡ cond device (device_then new (cond None (pos 0) (cond device (device_number (child_at s o at)) plain))) (cond None (pos 0) (cond device (device_number (child_at s o at)) plain))
      go true b = zero-then new b
      go false true = device_then_lem new (child_at s o at)
      go false false = refl

  eight_then_lem : (o q vf : ℕ) → Moved o → upto (number_of s' (new o) q vf) 8 ≡ eight_then new (upto (number_of s o q vf) 8)
  unfolding eight_then field_then
  eight_then_lem o q vf m =
      upto-same (number_of s' (new o) q vf) (field_then new (upto (number_of s o q vf) 8)) 8
      (λ j l.
      number_then_lem o q vf j m
      ∙ ap (λ (x : ℤ). cond (field_at j).device (device_then new x) x) (sym (upto-at (number_of s o q vf) 8 j (pos 0) l)))

  spot_then : (o q : ℕ) → Moved o → pair_at s' (new u) (Some (record { object = new o; at = q })) ≡ pair_then new (pair_at s u (Some (record { object = o; at = q })))
  unfolding pair_at
  spot_then o q m =
      let x = value1 (bytes_of s u) in
      let y = value2 (bytes_of s u) in
      let f : upto (number_of s' (new o) q (value1 (bytes_of s' (new u)))) 8 ≡ eight_then new (upto (number_of s o q x) 8)
      = ap (λ (b : List ℕ). upto (number_of s' (new o) q (value1 b)) 8) same.bytes ∙ eight_then_lem o q x m in
      let r = q + 2 * field_count x in
      let g : upto (number_of s' (new o) (q + 2 * field_count (value1 (bytes_of s' (new u)))) (value2 (bytes_of s' (new u)))) 8 ≡ eight_then new (upto (number_of s o r y) 8)
      = ap (λ (b : List ℕ). upto (number_of s' (new o) (q + 2 * field_count (value1 b)) (value2 b)) 8) same.bytes ∙ eight_then_lem o r y m in
      λ d. record { found = true; first = f d; second = g d }

  -- ---- format 1

  -- the reading from a set on
  abbrev in_set : Store → ℕ → ℕ → ℕ → Option Spot
  in_set r size b c = and_then (first_record (bytes_of r c) size b) λ k. Some (record { object = c; at = values_at size k })

  -- and from the slot of a set of table v on
  abbrev in_slot : Store → ℕ → List ℕ → ℕ → ℕ → Option Spot
  in_slot r v own b k = and_then (given (ltb k (shape_of own).count) (item_at (shape_of own) k)) λ q. and_then (child_at r v q) (in_set r (record_size own) b)

  set_then : (b : ℕ) (o : Option ℕ) → ((c : ℕ) → o ≡ Some c → Moved c)
      → pair_at s' (new u) (and_then (mapped new o) (in_set s' (record_size (bytes_of s u)) b)) ≡ pair_then new (pair_at s u (and_then o (in_set s (record_size (bytes_of s u)) b)))
  unfolding and_then pair_at
  set_then b None k = sym (no_pair_then new)
  set_then b (Some c) k =
      let size = record_size (bytes_of s u) in
      ap (λ (z : List ℕ). pair_at s' (new u) (and_then (first_record z size b) λ k. Some (record { object = new c; at = values_at size k }))) (k c refl).0
      ∙ go (k c refl) (first_record (bytes_of s c) size b)
    where
      go : Moved c → (o : Option ℕ)
          → pair_at s' (new u) (and_then o λ k. Some (record { object = new c; at = values_at (record_size (bytes_of s u)) k }))
          ≡ pair_then new (pair_at s u (and_then o λ k. Some (record { object = c; at = values_at (record_size (bytes_of s u)) k })))
      go m None = sym (no_pair_then new)
      go m (Some k) = spot_then c (values_at (record_size (bytes_of s u)) k) m

  pair1_then : (a b : ℕ) → Parts s u → pair_at s' (new u) (spot1 s' (new u) a b) ≡ pair_then new (pair_at s u (spot1 s u a b))
  unfolding spot1 and_then pair_at
  pair1_then a b parts =
      let (c, e) = parts.cover in
      ap₂ (λ (cov own : List ℕ). pair_at s' (new u) (and_then (cover_place cov a) (in_slot s' (new u) own b))) (linked_under same 2 c e) same.bytes
      ∙ place (cover_place (linked_bytes s u 2) a)
    where
      slot : (x : Bool) (q : ℕ) → pair_at s' (new u) (and_then (given x q) λ q. and_then (child_at s' (new u) q) (in_set s' (record_size (bytes_of s u)) b))
          ≡ pair_then new (pair_at s u (and_then (given x q) λ q. and_then (child_at s u q) (in_set s (record_size (bytes_of s u)) b)))
      slot false q = sym (no_pair_then new)
      slot true q =
          ap (λ (o : Option ℕ). pair_at s' (new u) (and_then o (in_set s' (record_size (bytes_of s u)) b))) (same.links q)
          ∙ set_then b (child_at s u q) (λ c e. (same.child_bytes q c e, same.child_links q c e))

      place : (o : Option ℕ) → pair_at s' (new u) (and_then o (in_slot s' (new u) (bytes_of s u) b)) ≡ pair_then new (pair_at s u (and_then o (in_slot s u (bytes_of s u) b)))
      place None = sym (no_pair_then new)
      place (Some k) = slot (ltb k (shape s u).count) (item_at (shape s u) k)

  -- ---- format 2

  -- where the values stand, over coverage, class definitions and the bytes of table v
  abbrev in_row : ℕ → List ℕ → List ℕ → List ℕ → List ℕ → ℕ → ℕ → Option Spot
  in_row v cov class1 class2 own a b =
      and_then (cover_place cov a) λ k.
      given (ltb (class_of class1 a) (shape_of own).count && ltb (class_of class2 b) (columns own))
      (record { object = v; at = (shape_of own).header + record_size own * (class_of class1 a * columns own + class_of class2 b) })

  pair2_then : (a b : ℕ) → Parts s u → eqb (shape s u).format 1 ≡ false → pair_at s' (new u) (spot2 s' (new u) a b) ≡ pair_then new (pair_at s u (spot2 s u a b))
  unfolding spot2 and_then pair_at
  pair2_then a b parts two =
      let (c, e) = parts.cover in
      let (c1, e1) = parts.class1 two in
      let (c2, e2) = parts.class2 two in
      let cov = linked_under same 2 c e in
      let class1 = linked_under same 8 c1 e1 in
      let class2 = linked_under same 10 c2 e2 in
      (λ d. pair_at s' (new u) (in_row (new u) (cov d) (class1 d) (class2 d) (same.bytes d) a b))
      ∙ place (cover_place (linked_bytes s u 2) a)
    where
      at : ℕ
      at = (shape s u).header + record_size (bytes_of s u) * (class_of (linked_bytes s u 8) a * columns (bytes_of s u) + class_of (linked_bytes s u 10) b)

      row : (x : Bool) → pair_at s' (new u) (given x (record { object = new u; at = at })) ≡ pair_then new (pair_at s u (given x (record { object = u; at = at })))
      row false = sym (no_pair_then new)
      row true = spot_then u at (same.bytes, same.links)

      within : Bool
      within = ltb (class_of (linked_bytes s u 8) a) (shape s u).count && ltb (class_of (linked_bytes s u 10) b) (columns (bytes_of s u))

      place : (o : Option ℕ)
          → pair_at s' (new u) (and_then o λ k. given within (record { object = new u; at = at }))
          ≡ pair_then new (pair_at s u (and_then o λ k. given within (record { object = u; at = at })))
      place None = sym (no_pair_then new)
      place (Some k) = row within

  -- ---- the reading

  pair_then_lem : (a b : ℕ) → Reads s u → pair_of s' (new u) a b ≡ pair_then new (pair_of s u a b)
  unfolding pair_of spot_of
  pair_then_lem a b r =
      let parts = parts_read s u r.parts in
      ap (λ (b' : List ℕ). pair_at s' (new u) (cond (eqb (shape_of b').format 1) (spot1 s' (new u) a b) (spot2 s' (new u) a b))) same.bytes
      ∙ by_test (eqb (shape s u).format 1)
      (λ e. rw e (pair1_then a b parts))
      (λ e. rw e (pair2_then a b parts e))

-- eight numbers each
pub both_eight : (s : Store) (u a b : ℕ) → (length (pair_of s u a b).first ≡ 8) × (length (pair_of s u a b).second ≡ 8)
unfolding pair_of pair_at no_pair
both_eight s u a b = go (spot_of s u a b)
  where
    go : (o : Option Spot) → (length (pair_at s u o).first ≡ 8) × (length (pair_at s u o).second ≡ 8)
    go None = (refl, refl)
    go (Some p) =
        let b = bytes_of s u in
        (length-upto (number_of s p.object p.at (value1 b)) 8, length-upto (number_of s p.object (p.at + 2 * field_count (value1 b)) (value2 b)) 8)

reported_then : (new : ℕ → ℕ) (n : ℕ) (p : Pair) → length p.first ≡ 8 → reported n (pair_then new p) ≡ outcome_then new (reported n p)
unfolding outcome_then
reported_then new n p e =
    let x = take_at p.first p.second 8 e in
    let y = drop_at p.first p.second 8 e in
    λ i. record { answer = n; found = cond p.found 1 0; values = eight_then new (sym x i) ++ eight_then new (sym y i) }

module _ {new : ℕ → ℕ} {s s' : Store} {u : ℕ} (same : SameUnder new s s' u) where
  -- the same answer, and the same pair, with devices under their new numbers
  pub reading_then : (a b : ℕ) → pair_call s' (new u) a b ≡ outcome_then new (pair_call s u a b)
  unfolding pair_call settle_pair no_pair
  reading_then a b = ap (λ (o : Option ℕ). settle_pair o (pair_of s' (new u) a b)) (refusal_same same) ∙ go (first_case (pair_cases s u)) refl
    where
      go : (o : Option ℕ) → first_case (pair_cases s u) ≡ o → settle_pair o (pair_of s' (new u) a b) ≡ outcome_then new (settle_pair o (pair_of s u a b))
      go (Some n) e = ap (reported n) (sym (no_pair_then new)) ∙ reported_then new n no_pair refl
      go None e = ap (reported 0) (pair_then_lem same a b (no_case_pairs s u e).reads) ∙ reported_then new 0 (pair_of s u a b) (both_eight s u a b).0

-- and so with several tables in order
pub in_order_then : (new : ℕ → ℕ) (s s' : Store) (us : List ℕ) → Each (SameUnder new s s') us → (a b : ℕ)
    → read_in_order s' (map new us) a b ≡ outcome_then new (read_in_order s us a b)
unfolding read_in_order no_pair outcome_then
in_order_then new s s' [] h a b = ap (reported 0) (sym (no_pair_then new)) ∙ reported_then new 0 no_pair refl
in_order_then new s s' (u ∷ us) h a b =
    ap₂ (λ (x y : PairOutcome). cond (eqb x.found 1) x y) (reading_then h.0 a b) (in_order_then new s s' us h.1 a b)
    ∙ go (eqb (pair_call s u a b).found 1)
  where
    go : (c : Bool)
        → cond c (outcome_then new (pair_call s u a b)) (outcome_then new (read_in_order s us a b)) ≡ outcome_then new (cond c (pair_call s u a b) (read_in_order s us a b))
    go true = refl
    go false = refl
