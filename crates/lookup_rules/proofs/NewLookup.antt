-- A new lookup's bytes: its type, its count, its length, and that they are bytes. Assumes nothing.
use Prim.Native.Nat.{ℕ, ◌+◌, ◌-◌, ◌*◌, ◌/◌, ◌%◌, ◌<◌, ◌≤◌}
use mathlib.Core.Path.{◌≡◌, sym, ap, subst, ◌∙◌}
use mathlib.Core.Bool.{true}
use mathlib.Core.List.{List, ◌++◌, append_assoc}
use native.Mathlib.Omega.{arith}
use lib.ListN.{length, get_or, drop, replicate, length-append, length-drop, length-replicate, get_or-append}
use lib.Seq.{get_or-drop}
use borrow.Author.Tests.{eqb-true}
use Rattle.folds.specs.Lists.{part, Bytes}
use Rattle.folds.proofs.Parts.{length_part, part_at}
use Rattle.folds.proofs.Offsets.{past_at}
use Rattle.folds.proofs.Bytes.{bytes_append, bytes_zeros, bytes_part}
use Rattle.ot_layouts.specs.Numbers.{u16_at, be16}
use Rattle.ot_layouts.specs.Lookup.{lookup_type, subtable_count, lookup_header, lookup_exact, filters}
use Rattle.ot_layouts.proofs.Head.{two_bytes}
use Rattle.ot_layouts.proofs.Octets.{bytes_be16, u16_same}
use Rattle.lookup_rules.specs.Written.{new_lookup}

-- a lookup of OpenType's length has its header and its slots
pub exact_long : (b : List ℕ) → lookup_exact b ≡ true → lookup_header + 2 * subtable_count b ≤ length b
unfolding lookup_exact
exact_long b h = let z = eqb-true (length b) (lookup_header + 2 * subtable_count b + 2 * filters b) h in omega arith

module _ (b : List ℕ) (n : ℕ) (long : lookup_header + 2 * subtable_count b ≤ length b) where
  -- type and flag
  abbrev front : List ℕ
  front = part b 0 4

  -- what stands behind the offsets
  abbrev behind : List ℕ
  behind = drop (lookup_header + 2 * subtable_count b) b

  front_long : length front ≡ 4
  front_long = length_part b 0 4 (omega arith) (omega arith)

  rest : List ℕ
  rest = be16 n ++ (replicate (2 * n) 0 ++ behind)

  new_parts_lem : new_lookup b n ≡ front ++ rest
  unfolding new_lookup rest
  new_parts_lem = simp append_assoc

  front_at : (i : ℕ) → i < 4 → get_or (new_lookup b n) i 0 ≡ get_or b i 0
  front_at i h =
      ap (λ (x : List ℕ). get_or x i 0) new_parts_lem ∙ get_or-append front rest 0 i (omega (arith, front_long)) ∙ part_at b 0 4 i (omega arith)
      ∙ ap (λ (k : ℕ). get_or b k 0) (omega arith)

  pub new_type : lookup_type (new_lookup b n) ≡ lookup_type b
  new_type = u16_same (new_lookup b n) b 0 0 (front_at 0 (omega arith)) (front_at 1 (omega arith))

  pub new_count_lem : subtable_count (new_lookup b n) ≡ n
  unfolding rest u16_at be16
  new_count_lem =
      let x : get_or (new_lookup b n) 4 0 ≡ n / 256 = ap (λ (x : List ℕ). get_or x 4 0) new_parts_lem ∙ past_at front rest 4 4 front_long (omega arith) in
      let y : get_or (new_lookup b n) 5 0 ≡ n % 256 = ap (λ (x : List ℕ). get_or x 5 0) new_parts_lem ∙ past_at front rest 4 5 front_long (omega arith) in
      omega (arith, two_bytes n)

  pub new_long : lookup_header + 2 * n ≤ length (new_lookup b n)
  unfolding rest be16
  new_long =
      let zeros : List ℕ = replicate (2 * n) 0 in
      let z : length zeros ≡ 2 * n = length-replicate (2 * n) 0 in
      omega (arith, ap length new_parts_lem, length-append front rest, front_long, length-append zeros behind)

  -- it is longer by its further slots
  pub new_length_lem : length (new_lookup b n) + 2 * subtable_count b ≡ length b + 2 * n
  unfolding rest be16
  new_length_lem =
      let zeros : List ℕ = replicate (2 * n) 0 in
      let z : length zeros ≡ 2 * n = length-replicate (2 * n) 0 in
      omega (arith, ap length new_parts_lem, length-append front rest, front_long, length-append zeros behind, length-drop (lookup_header + 2 * subtable_count b) b)

  pub new_octets : Bytes b → n < 65536 → Bytes (new_lookup b n)
  unfolding rest
  new_octets h k =
      let zeros : List ℕ = replicate (2 * n) 0 in
      let from = lookup_header + 2 * subtable_count b in
      subst Bytes (sym new_parts_lem)
      (bytes_append front rest (bytes_part b 0 4 h)
      (bytes_append (be16 n) (zeros ++ behind) (bytes_be16 n k)
      (bytes_append zeros behind (bytes_zeros (2 * n)) (λ i. subst (λ (x : ℕ). x < 256) (sym (get_or-drop from b i 0)) (h (from + i))))))
