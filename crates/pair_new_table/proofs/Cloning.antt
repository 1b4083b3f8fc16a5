-- The writes of a new table, one behind another, are the table that "What is written" gives. Assumes nothing.
use Prim.Native.Nat.{ℕ, ◌+◌, ◌-◌, ◌*◌, ◌≤◌}
use mathlib.Core.Path.{◌≡◌, sym, ap, ap₂, ◌∙◌}
use mathlib.Core.List.{List, ◌++◌, append_assoc}
use native.Mathlib.Omega.{arith}
use native.Mathlib.Nat.{mul-sub, mul-le-mul_left}
use lib.ListN.{length, replicate, length-append, length-replicate}
use Rattle.folds.specs.Lists.{put, part}
use Rattle.folds.proofs.Parts.{length_part}
use Rattle.folds.proofs.Behind.{Behind, behind_one, behind_more, behind_part, part-part}
use Rattle.ot_layouts.specs.Numbers.{be16}
use Rattle.ot_layouts.specs.PairPos.{shape1, shape2}
use Rattle.ot_layouts.proofs.Numbers.{length-be16}
use Rattle.pair_rules.specs.Written.{new_table}
use Rattle.pair_new_table.specs.Cloned.{Cloned}

-- what both formats start with
abbrev pub head_of : List ℕ → ℕ → List ℕ
head_of d head = part d head (head + 2) ++ be16 0 ++ part d (head + 4) (head + 8)

-- what format 2 has between the value formats and the rows
abbrev pub counts_of : List ℕ → ℕ → ℕ → List ℕ
counts_of d head count = be16 0 ++ be16 0 ++ be16 count ++ part d (head + 14) (head + 16)

module _ (d : List ℕ) (head : ℕ) where
  pub length_head : head + 8 ≤ length d → length (head_of d head) ≡ 8
  length_head l =
      omega (
        arith,
        length-append (part d head (head + 2) ++ be16 0) (part d (head + 4) (head + 8)),
        length-append (part d head (head + 2)) (be16 0),
        length_part d head (head + 2) (omega arith) (omega arith),
        length_part d (head + 4) (head + 8) (omega arith) l,
        length-be16 0,
      )

  pub length-counts : (count : ℕ) → head + 16 ≤ length d → length (counts_of d head count) ≡ 8
  length-counts count l =
      omega (
        arith,
        length-append (be16 0 ++ be16 0 ++ be16 count) (part d (head + 14) (head + 16)),
        length-append (be16 0 ++ be16 0) (be16 count),
        length-append (be16 0) (be16 0),
        length_part d (head + 14) (head + 16) (omega arith) l,
        length-be16 0,
        length-be16 count,
      )

  pub head_written : (at : ℕ) {o o' o'' : List ℕ} → head + 8 ≤ at → at + 8 ≤ length d → o ≡ put d at (part d head (head + 2)) → o' ≡ put o (at + 2) (be16 0)
      → o'' ≡ put o' (at + 4) (part o' (head + 4) (head + 4 + 4)) → o'' ≡ put d at (head_of d head)
  head_written at {o} {o'} {o''} apart room e e' e'' =
      let n : length (part d head (head + 2)) ≡ 2 = length_part d head (head + 2) (omega arith) (omega arith) ∙ omega arith in
      let two : length (be16 0) ≡ 2 = length-be16 0 in
      let w : Behind d at (part d head (head + 2)) o = behind_one d at (part d head (head + 2)) e (omega arith) in
      let w' : Behind d at (part d head (head + 2) ++ be16 0) o' = behind_more w (at + 2) (be16 0) e' (omega arith) (omega arith) in
      let q : head + 4 + 4 ≡ head + 8 = omega arith in
      let same : part o' (head + 4) (head + 4 + 4) ≡ part d (head + 4) (head + 8) = behind_part w' (head + 4) (head + 4 + 4) (omega arith) (omega arith) ∙ ap (part d (head + 4)) q in
      let m : length (part d (head + 4) (head + 8)) ≡ 4 = length_part d (head + 4) (head + 8) (omega arith) (omega arith) ∙ omega arith in
      (behind_more w' (at + 4) (part d (head + 4) (head + 8)) (e'' ∙ ap (put o' (at + 4)) same) (omega (arith, length-append (part d head (head + 2)) (be16 0))) (omega arith)).written

  pub counts_written : (at count : ℕ) {o o' o'' o''' : List ℕ} → head + 16 ≤ at → at + 16 ≤ length d → o ≡ put d (at + 8) (be16 0) → o' ≡ put o (at + 10) (be16 0)
      → o'' ≡ put o' (at + 12) (be16 count) → o''' ≡ put o'' (at + 14) (part o'' (head + 14) (head + 14 + 2)) → o''' ≡ put d (at + 8) (counts_of d head count)
  counts_written at count {o} {o'} {o''} {o'''} apart room e e' e'' e''' =
      let two : length (be16 0) ≡ 2 = length-be16 0 in
      let three : length (be16 count) ≡ 2 = length-be16 count in
      let w : Behind d (at + 8) (be16 0) o = behind_one d (at + 8) (be16 0) e (omega arith) in
      let w' : Behind d (at + 8) (be16 0 ++ be16 0) o' = behind_more w (at + 10) (be16 0) e' (omega arith) (omega arith) in
      let l : length (be16 0 ++ be16 0) ≡ 4 = length-append (be16 0) (be16 0) ∙ omega arith in
      let w'' : Behind d (at + 8) (be16 0 ++ be16 0 ++ be16 count) o'' = behind_more w' (at + 12) (be16 count) e'' (omega arith) (omega arith) in
      let l' : length (be16 0 ++ be16 0 ++ be16 count) ≡ 6 = length-append (be16 0 ++ be16 0) (be16 count) ∙ omega arith in
      let q : head + 14 + 2 ≡ head + 16 = omega arith in
      let same : part o'' (head + 14) (head + 14 + 2) ≡ part d (head + 14) (head + 16) = behind_part w'' (head + 14) (head + 14 + 2) (omega arith) (omega arith) ∙ ap (part d (head + 14)) q in
      let m : length (part d (head + 14) (head + 16)) ≡ 2 = length_part d (head + 14) (head + 16) (omega arith) (omega arith) ∙ omega arith in
      (behind_more w'' (at + 14) (part d (head + 14) (head + 16)) (e''' ∙ ap (put o'' (at + 14)) same) (omega arith) (omega arith)).written

-- the bytes of the old table, which ends at tail
module _ (d : List ℕ) (head at tail lo hi : ℕ) (inside : tail ≤ length d) (ordered : lo ≤ hi) where
  abbrev old : List ℕ
  old = part d head tail

  head_part : head + 8 ≤ tail → part old 0 2 ++ be16 0 ++ part old 4 8 ≡ head_of d head
  head_part l =
      let z : head + 0 ≡ head = omega arith in
      ap₂ (λ (x y : List ℕ). x ++ be16 0 ++ y)
      (part-part d head tail 0 2 (omega arith) (omega arith) inside ∙ ap (λ (n : ℕ). part d n (head + 2)) z)
      (part-part d head tail 4 8 (omega arith) l inside)

  table1 : head + 10 ≤ tail → new_table (shape1 old) old lo hi ≡ head_of d head ++ (be16 (hi - lo) ++ replicate (2 * (hi - lo)) 0)
  unfolding new_table shape1
  table1 l = ap (λ (x : List ℕ). x ++ (be16 (hi - lo) ++ replicate (2 * (hi - lo)) 0)) (head_part (omega arith))

  table2 : (row : ℕ) → head + (16 + row * hi) ≤ tail → row ≡ (shape2 old).item
      → new_table (shape2 old) old lo hi ≡ head_of d head ++ (counts_of d head (hi - lo) ++ part d (head + (16 + row * lo)) (head + (16 + row * hi)))
  unfolding new_table shape2
  table2 row l e =
      let m : row * lo ≤ row * hi = mul-le-mul_left row ordered in
      ap₂ (λ (x y : List ℕ). x ++ y) (head_part (omega arith))
      (ap₂ (λ (x y : List ℕ). be16 0 ++ be16 0 ++ be16 (hi - lo) ++ x ++ y)
      (part-part d head tail 14 16 (omega arith) (omega arith) inside)
      (ap (λ (r : ℕ). part old (16 + r * lo) (16 + r * hi)) (sym e) ∙ part-part d head tail (16 + row * lo) (16 + row * hi) (omega arith) l inside))

  pub cloned1 : {o o' o'' : List ℕ} → head + 10 ≤ at → at + 10 + 2 * (hi - lo) ≤ length d → o ≡ put d at (head_of d head) → o' ≡ put o (at + 8) (be16 (hi - lo))
      → o'' ≡ put o' (at + 10) (replicate (2 * (hi - lo)) 0) → head + 10 ≤ tail → Cloned d (shape1 old) old lo hi at o'' (at + 10 + 2 * (hi - lo))
  cloned1 {o} {o'} {o''} apart room e e' e'' l =
      let n = hi - lo in
      let h : length (head_of d head) ≡ 8 = length_head d head (omega arith) in
      let two : length (be16 n) ≡ 2 = length-be16 n in
      let zs : length {A = ℕ} (replicate (2 * n) 0) ≡ 2 * n = length-replicate (2 * n) 0 in
      let w : Behind d at (head_of d head) o = behind_one d at (head_of d head) e (omega arith) in
      let w' : Behind d at (head_of d head ++ be16 n) o' = behind_more w (at + 8) (be16 n) e' (omega arith) (omega arith) in
      let w'' : Behind d at (head_of d head ++ be16 n ++ replicate (2 * n) 0) o'' = behind_more w' (at + 10) (replicate (2 * n) 0) e'' (omega (arith, length-append (head_of d head) (be16 n))) (omega arith) in
      let t : head_of d head ++ be16 n ++ replicate (2 * n) 0 ≡ new_table (shape1 old) old lo hi = append_assoc (head_of d head) (be16 n) (replicate (2 * n) 0) ∙ sym (table1 l) in
      record {
        written = w''.written ∙ ap (put d at) t;
        ends = omega (arith, ap length t, length-append (head_of d head ++ be16 n) (replicate (2 * n) 0), length-append (head_of d head) (be16 n));
      }

  pub cloned2 : (row : ℕ) {o o' o'' : List ℕ} → head + (16 + row * hi) ≤ at → at + (16 + row * (hi - lo)) ≤ length d → o ≡ put d at (head_of d head) → o' ≡ put o (at + 8) (counts_of o head (hi - lo))
      → o'' ≡ put o' (at + 16) (part o' (head + (16 + row * lo)) (head + (16 + row * lo) + row * (hi - lo)))
      → head + (16 + row * hi) ≤ tail → row ≡ (shape2 old).item → Cloned d (shape2 old) old lo hi at o'' (at + 16 + row * (hi - lo))
  cloned2 row {o} {o'} {o''} apart room e e' e'' l q =
      let n = hi - lo in
      let first = head + (16 + row * lo) in
      let end = head + (16 + row * hi) in
      let m : row * lo ≤ row * hi = mul-le-mul_left row ordered in
      let s : row * n ≡ row * hi - row * lo = mul-sub row hi lo in
      let h : length (head_of d head) ≡ 8 = length_head d head (omega arith) in
      let w : Behind d at (head_of d head) o = behind_one d at (head_of d head) e (omega arith) in
      let c : length (counts_of d head n) ≡ 8 = length-counts d head n (omega arith) in
      let same : counts_of o head n ≡ counts_of d head n = ap (λ (x : List ℕ). be16 0 ++ be16 0 ++ be16 n ++ x) (behind_part w (head + 14) (head + 16) (omega arith) (omega arith)) in
      let w' : Behind d at (head_of d head ++ counts_of d head n) o' = behind_more w (at + 8) (counts_of d head n) (e' ∙ ap (put o (at + 8)) same) (omega arith) (omega arith) in
      let z : first + row * n ≡ end = omega arith in
      let rows : part o' first (first + row * n) ≡ part d first end = behind_part w' first (first + row * n) (omega arith) (omega arith) ∙ ap (part d first) z in
      let r : length (part d first end) ≡ row * n = length_part d first end (omega arith) (omega arith) ∙ omega arith in
      let w'' : Behind d at (head_of d head ++ counts_of d head n ++ part d first end) o''
      = behind_more w' (at + 16) (part d first end) (e'' ∙ ap (put o' (at + 16)) rows) (omega (arith, length-append (head_of d head) (counts_of d head n))) (omega arith) in
      let t : head_of d head ++ counts_of d head n ++ part d first end ≡ new_table (shape2 old) old lo hi = append_assoc (head_of d head) (counts_of d head n) (part d first end) ∙ sym (table2 row l q) in
      record {
        written = w''.written ∙ ap (put d at) t;
        ends = omega (arith, ap length t, length-append (head_of d head ++ counts_of d head n) (part d first end), length-append (head_of d head) (counts_of d head n));
      }
